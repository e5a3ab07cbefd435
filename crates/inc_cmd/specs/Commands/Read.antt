-- `read NAME INDEX`: the file's layout is judged, then its signature, and then the block is read. Of a mapped name layout and signature are
-- the original's, and the block is what the name shows of one of the original's; a line has the name's own index.
use Rattle.std.specs.Prelude.{◌≡◌, ℕ, ◌<◌, All, if◌then◌else◌, Bool, true, false, List, length, take, Option, Some, None, Result, Ok, Err, IfSome, bytes_eq}
use Rattle.inc_signature.specs.declared.signature.SigInfo.{SigInfo}
use Rattle.inc_tree.specs.shape.Geometry.{Shape, block_len, data_blocks}
use Rattle.inc_tree.specs.read_block.Path.{IsProof}
use Rattle.inc_tree.specs.declared.read_block.shown.Shown.{Shown}
use Rattle.inc_tree.specs.declared.read_block.shown.Shown.TheVariants.{Proved, Unproved}
use Rattle.inc_layout.specs.Backing.{IsLaidOut, laid_of}
use Rattle.inc_layout.specs.declared.fault.LayoutFault.{LayoutFault}
use Rattle.inc_layout.specs.declared.opened.Layout.{Layout}
use Rattle.inc_layout.specs.declared.reading.static_error.StaticError.{StaticError}
use Rattle.inc_mapped.specs.Mapping.{Mapping, ShowsPart}
use Rattle.inc_cmd.specs.Commands.Parts.{IsNameContent, name_reading}
use Rattle.inc_words.specs.Endings.{Ending, done, not_shown_by, refused_by, unless_refused}
use Rattle.inc_words.specs.Refusals.{layout_word, reason_of, root_differs, unsigned}

-- ---- the signature

-- the root that is given from outside, where one is, has to be the signature's
abbrev pub root_refusal : Option (List ℕ) → SigInfo → Option (List ℕ)
root_refusal None sig = None
root_refusal (Some root) sig = if bytes_eq sig.root root then None else Some root_differs

-- of a file without one a block is shown only to who takes it unproved
abbrev pub unsigned_refusal : Bool → Option (List ℕ) → Option (List ℕ)
unsigned_refusal true None = None
unsigned_refusal unproved root = Some unsigned

abbrev pub sig_refusal : Bool → Option (List ℕ) → Option SigInfo → Option (List ℕ)
sig_refusal unproved root (Some sig) = root_refusal root sig
sig_refusal unproved root None = unsigned_refusal unproved root

-- ---- the block

abbrev pub shown : ℕ → Result (List ℕ) StaticError → Ending
shown index (Ok content) = done content
shown index (Err error) = not_shown_by index (reason_of error)

abbrev pub shown_in : List ℕ → ℕ → Option (List ℕ) → Bool → List ℕ → Layout → Option Mapping → Ending
shown_in name index root unproved bytes layout part = unless_refused name (sig_refusal unproved root layout.sig) (shown index (name_reading bytes layout part index))

abbrev pub read_laid_as : List ℕ → ℕ → Option (List ℕ) → Bool → List ℕ → Result Layout LayoutFault → Ending
read_laid_as name index root unproved bytes (Ok layout) = shown_in name index root unproved bytes layout None
read_laid_as name index root unproved bytes (Err fault) = refused_by name (layout_word fault)

abbrev pub read_ending : List ℕ → ℕ → Option (List ℕ) → Bool → List ℕ → Ending
read_ending name index root unproved bytes = read_laid_as name index root unproved bytes (laid_of bytes)

-- ---- in words

-- the root is the signature's, where both are there; without a signature none is given, and the block is taken unproved
abbrev pub IsMarked : Option SigInfo → Option (List ℕ) → Bool → Type 0
IsMarked (Some sig) root unproved = IfSome root (λ given. sig.root ≡ given)
IsMarked None root unproved = (root ≡ None) × (unproved ≡ true)

-- The text is what the name shows of the content at this index, as it is stored in the file. Where the file has a signature, the path in
-- the file proves it against the root that the signature names.
pub record ShowsBlock (bytes : List ℕ) (index : ℕ) (root : Option (List ℕ)) (unproved : Bool) (part : Option Mapping) (text : List ℕ) : Type 0 where
  pub layout : Layout
  pub stands : IsLaidOut bytes layout
  pub marked : IsMarked layout.sig root unproved
  pub content : IsNameContent bytes layout part index text

-- a block of this shape and its path, whole, and its bytes of the content
pub record IsProvedText (root : List ℕ) (shape : Shape) (index : ℕ) (text : List ℕ) : Type 0 where
  pub block : List ℕ
  pub path : List (List ℕ)
  pub here : index < data_blocks shape
  pub whole : length block ≡ 4096
  pub path_whole : All (λ block. length block ≡ 4096) path
  pub good : IsProof root shape index block path
  pub text_is : text ≡ take (block_len shape index) block

-- so many of the first bytes of such a block's content
pub record IsProvedFront (root : List ℕ) (shape : Shape) (index count : ℕ) (text : List ℕ) : Type 0 where
  pub whole : List ℕ
  pub proof : IsProvedText root shape index whole
  pub front : text ≡ take count whole

-- of a block that is shown as proved
abbrev pub ProvesText : Shown → List ℕ → Type 0
ProvesText (Proved block) text = IsProvedText block.root block.geometry block.index text
ProvesText (Unproved block) text = Unit {0}

abbrev pub ProvesFront : Shown → ℕ → List ℕ → Type 0
ProvesFront (Proved block) count text = IsProvedFront block.root block.geometry block.index count text
ProvesFront (Unproved block) count text = Unit {0}

-- A path leads from the text to this root, in some file with a tree.
pub record IsVouchedBy (root : List ℕ) (index : ℕ) (text : List ℕ) : Type 0 where
  pub shape : Shape
  pub tree : shape.flat ≡ false
  pub proof : IsProvedText root shape index text

-- the same of so many of the first bytes of a block
pub record IsFrontVouchedBy (root : List ℕ) (block count : ℕ) (text : List ℕ) : Type 0 where
  pub shape : Shape
  pub tree : shape.flat ≡ false
  pub proof : IsProvedFront root shape block count text

-- and of what a part shows at an index
pub record IsPartVouchedBy (root : List ℕ) (mapping : Mapping) (index : ℕ) (text : List ℕ) : Type 0 where
  pub shown : ℕ × ℕ
  pub shows : ShowsPart mapping index shown
  pub front : IsFrontVouchedBy root shown.0 shown.1 text

abbrev pub IsNameVouchedBy : List ℕ → Option Mapping → ℕ → List ℕ → Type 0
IsNameVouchedBy root None index text = IsVouchedBy root index text
IsNameVouchedBy root (Some mapping) index text = IsPartVouchedBy root mapping index text

-- to the root of a signature, where there is one
abbrev pub VouchesFront : Option SigInfo → ℕ → ℕ → List ℕ → Type 0
VouchesFront None block count text = Unit {0}
VouchesFront (Some sig) block count text = IsFrontVouchedBy sig.root block count text

abbrev pub VouchesName : Option SigInfo → Option Mapping → ℕ → List ℕ → Type 0
VouchesName None part index text = Unit {0}
VouchesName (Some sig) part index text = IsNameVouchedBy sig.root part index text

-- to the root of the signature that was read
pub record IsVouched (part : Option Mapping) (index : ℕ) (text : List ℕ) : Type 0 where
  pub root : List ℕ
  pub vouched : IsNameVouchedBy root part index text

-- A root that is given vouches, and else that of the signature does. For what is taken unproved nothing has to.
abbrev pub VouchesRead : ℕ → Option (List ℕ) → Bool → Option Mapping → List ℕ → Type 0
VouchesRead index (Some root) unproved part text = IsNameVouchedBy root part index text
VouchesRead index None false part text = IsVouched part index text
VouchesRead index None true part text = Unit {0}
