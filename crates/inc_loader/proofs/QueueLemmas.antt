-- What is left of the contents, as the files go by.
use Rattle.std.proofs.Common.{◌≡◌, ◌≢◌, ℕ, ◌+◌, ◌<◌, ◌≤◌, true, eqb, List, [], ◌∷◌, ◌++◌, length, drop, get_or, All, Option, Some, None, Result, Ok, Err, OnOk, OnErr, refl, ap, sym, subst, ◌∙◌, arith}
use Rattle.std.proofs.lemmas.Bool.{eqb-true}
use Rattle.std.proofs.lemmas.List.{length-append, length-drop, nil_from_length}
use Rattle.std.specs.declared.alloc.AllocError.{AllocError}
use Rattle.inc_frame.specs.declared.piece.Piece.{Piece}
use Rattle.inc_tree.specs.shape.Limits.{most_size}
use Rattle.inc_loader.specs.Content.{generated_content}
use Rattle.inc_loader.specs.ContentPieces.{AreFirstMarks, all_pieces, files_in, pieces_of}
use Rattle.inc_loader.specs.Marks.{mark_of}
use Rattle.inc_loader.specs.PiecesLeft.{left_in, pieces_left}
use Rattle.inc_loader.specs.Turns.{Prepares}
use Rattle.inc_loader.specs.declared.gen_loader.file_in_work.FileInWork.{FileInWork}
use Rattle.inc_loader.specs.declared.loader_file.LoaderFile.{LoaderFile}
use Rattle.inc_loader.specs.declared.mark.PieceMark.{PieceMark}
use Rattle.inc_loader.specs.declared.turn.LoaderTurn.TheVariants.{Fine}
use Rattle.inc_loader.proofs.PieceLemmas.{file_next, no_more_than, none_behind, of_no_files, of_some, one_more}

none_in_work : (work : Option FileInWork) → eqb (length (left_in work)) 0 ≡ true → left_in work ≡ []
none_in_work work h = nil_from_length (left_in work) (eqb-true (length (left_in work)) 0 h)

-- behind the last file
pub nothing_left : (number : ℕ) (work : Option FileInWork) (begun : ℕ) (files : List LoaderFile) → eqb (length (left_in work)) 0 ≡ true → length files ≤ begun
    → pieces_left number work begun files ≡ []
nothing_left number work begun files given past =
    ap (λ (ps : List Piece). ps ++ all_pieces number (drop begun files)) (none_in_work work given) ∙ none_behind number files begun past

-- between two files the next file's pieces come first
between_files : (number : ℕ) (work : Option FileInWork) (begun : ℕ) (files : List LoaderFile) (file : LoaderFile) → eqb (length (left_in work)) 0 ≡ true → begun < length files
    → get_or files begun file ≡ file → pieces_left number work begun files ≡ pieces_of file (generated_content number file.size) ++ all_pieces number (drop (begun + 1) files)
between_files number work begun files file given lt is =
    ap (λ (ps : List Piece). ps ++ all_pieces number (drop begun files)) (none_in_work work given) ∙ file_next number files begun file lt is

pub next_begun : (number : ℕ) (work after : Option FileInWork) (begun next : ℕ) (files : List LoaderFile) (file : LoaderFile) → eqb (length (left_in work)) 0 ≡ true → begun < length files
    → get_or files begun file ≡ file → left_in after ≡ pieces_of file (generated_content number file.size) → next ≡ begun + 1
    → pieces_left number after next files ≡ pieces_left number work begun files
next_begun number work after begun next files file given lt is in_work more =
    ap (λ (ps : List Piece). ps ++ all_pieces number (drop next files)) in_work
    ∙ ap (λ (k : ℕ). pieces_of file (generated_content number file.size) ++ all_pieces number (drop k files)) more
    ∙ sym (between_files number work begun files file given lt is)

pub some_left : (number : ℕ) (work : Option FileInWork) (begun : ℕ) (files : List LoaderFile) (file : LoaderFile) → eqb (length (left_in work)) 0 ≡ true → begun < length files
    → get_or files begun file ≡ file → 0 < file.size → 0 < length (pieces_left number work begun files)
some_left number work begun files file given lt is some =
    let pieces : List Piece = pieces_of file (generated_content number file.size) in
    omega (
      arith,
      ap length (between_files number work begun files file given lt is),
      length-append pieces (all_pieces number (drop (begun + 1) files)),
      of_some file number file.size some,
    )

-- what a loader of contents keeps true
pub record IsOnItsWay (number : ℕ) (work : Option FileInWork) (begun : ℕ) (prepared : Option (List LoaderFile)) (given : List PieceMark) : Type 0 where
  pub sized : All (λ (file : LoaderFile). file.size ≤ most_size) (files_in prepared)
  pub unbegun : prepared ≡ None → begun ≡ 0
  pub marks : AreFirstMarks number (files_in prepared) given
  pub left : pieces_left number work begun (files_in prepared) ≡ drop (length given) (all_pieces number (files_in prepared))

before_files : (number : ℕ) (work : Option FileInWork) (begun : ℕ) (given : List PieceMark) (files : List LoaderFile) → IsOnItsWay number work begun None given
    → All (λ (file : LoaderFile). file.size ≤ most_size) files → IsOnItsWay number work begun (Some files) given
before_files number work begun given files h small =
    let empty : length (all_pieces number []) ≡ 0 = ap length (of_no_files number) in
    let none : given ≡ [] = nil_from_length given (omega (arith, no_more_than number [] given h.marks, empty)) in
    let nothing : left_in work ≡ [] =
    nil_from_length (left_in work) (omega (
      arith,
      length-append (left_in work) (all_pieces number (drop begun [])),
      ap length h.left,
      length-drop (length given) (all_pieces number []),
      empty,
    )) in
    let first : begun ≡ 0 = h.unbegun refl in
    record {
      sized = small;
      unbegun = λ e. absurd cc;
      marks = rw none refl;
      left = rw (none, nothing, first) refl;
    }

after_files : (number : ℕ) (work : Option FileInWork) (begun : ℕ) (given : List PieceMark) (files : List LoaderFile) (old now : Option (List LoaderFile)) → IsOnItsWay number work begun old given
    → All (λ (file : LoaderFile). file.size ≤ most_size) files → Prepares files Fine old now → IsOnItsWay number work begun now given
after_files number work begun given files None now h small is = subst (λ (p : Option (List LoaderFile)). IsOnItsWay number work begun p given) (sym is) (before_files number work begun given files h small)
after_files number work begun given files (Some earlier) now h small is = subst (λ (p : Option (List LoaderFile)). IsOnItsWay number work begun p given) (sym is) h

pub set_out : (number : ℕ) (work : Option FileInWork) (begun : ℕ) (given now_given : List PieceMark) (files : List LoaderFile) (old now : Option (List LoaderFile)) (result : Result (Unit {0}) AllocError)
    → IsOnItsWay number work begun old given → All (λ (file : LoaderFile). file.size ≤ most_size) files → OnOk result (Prepares files Fine old now) → OnErr result (now ≡ old) → now_given ≡ given
    → IsOnItsWay number work begun now now_given
set_out number work begun given now_given files old now (Ok u) h small prepared none same =
    subst (λ (ms : List PieceMark). IsOnItsWay number work begun now ms) (sym same) (after_files number work begun given files old now h small prepared)
set_out number work begun given now_given files old now (Err e) h small prepared none same =
    subst (λ (ms : List PieceMark). IsOnItsWay number work begun now ms) (sym same) (subst (λ (p : Option (List LoaderFile)). IsOnItsWay number work begun p given) (sym none) h)

-- the file in work gives its next piece
pub passed : (number : ℕ) (files : List LoaderFile) (work after : Option FileInWork) (begun : ℕ) (piece : Piece) → left_in work ≡ piece ∷ drop 1 (left_in work) → left_in after ≡ drop 1 (left_in work)
    → pieces_left number work begun files ≡ piece ∷ pieces_left number after begun files
passed number files work after begun piece first rest =
    ap (λ (ps : List Piece). ps ++ all_pieces number (drop begun files)) first ∙ ap (λ (ps : List Piece). piece ∷ (ps ++ all_pieces number (drop begun files))) (sym rest)

pub gone_on : (number : ℕ) (prepared : Option (List LoaderFile)) (given now_given : List PieceMark) (old work after : Option FileInWork) (old_begun begun : ℕ) (piece : Piece)
    → IsOnItsWay number old old_begun prepared given → prepared ≢ None → pieces_left number work begun (files_in prepared) ≡ pieces_left number old old_begun (files_in prepared)
    → left_in work ≡ piece ∷ drop 1 (left_in work) → left_in after ≡ drop 1 (left_in work) → now_given ≡ given ++ mark_of (files_in prepared) piece ∷ []
    → IsOnItsWay number after begun prepared now_given
gone_on number prepared given now_given old work after old_begun begun piece h some same first rest is =
    let files : List LoaderFile = files_in prepared in
    let next : drop (length given) (all_pieces number files) ≡ piece ∷ pieces_left number after begun files =
    sym h.left ∙ sym same ∙ passed number files work after begun piece first rest in
    let more = one_more number files given now_given piece (pieces_left number after begun files) h.marks next is in
    record {
      sized = h.sized;
      unbegun = λ e. absurd (some e);
      marks = more.0;
      left = more.1;
    }

pub moved_on : (number now_number : ℕ) (work : Option FileInWork) (begun now_begun : ℕ) (prepared now : Option (List LoaderFile)) (given : List PieceMark) → IsOnItsWay number work begun prepared given
    → now_number ≡ number → now_begun ≡ begun → now ≡ prepared → IsOnItsWay now_number work now_begun now given
moved_on number now_number work begun now_begun prepared now given h same_number same_begun same = rw (same_number, same_begun, same) h
