use Rattle.std.proofs.Common.{◌≡◌, ℕ, true, ◌<◌, Option, Some, None, List, take, refl, sym, ap, subst, ◌∙◌}
use Rattle.std.specs.Prelude.{is_some}
use Rattle.std.specs.Option.{IsSome}
use Rattle.std.proofs.lemmas.Bool.{lt-ltb}
use Rattle.inc_tree.specs.shape.Geometry.{Shape, block_len}
use Rattle.inc_tree.specs.read_block.Path.{padded}
use Rattle.inc_cell.specs.events.Pieces.{kind_count, piece_index}
use Rattle.inc_filling.specs.Contents.{index_of_piece, len_of_piece}
use Rattle.inc_filling.proofs.lemmas.TakenLemmas.{taken_sound}
use Rattle.inc_handle.proofs.fill.pieces.stored_of.Goals as goal

some_of : (found : Option ℕ) → is_some found ≡ true → IsSome found
some_of None e = absurd (cc)
some_of (Some index) e = refl

pub unwrap-index-requires : goal.unwrap-index-requires
unwrap-index-requires c =
    let sound = taken_sound c.args.known.now.opened.value c.args.piece.now c.requires.taken in
    let within : c.args.piece.now.number < kind_count c.args.known.now.geometry c.args.piece.now.hash =
    subst (λ (shape : Shape). c.args.piece.now.number < kind_count shape c.args.piece.now.hash) (sym c.args.known.now.geometry_is) sound.within in
    some_of c.index_in.result (c.index_in.ensures.there ∙ lt-ltb c.args.piece.now.number (kind_count c.args.known.now.geometry c.args.piece.now.hash) within)

pub block_len-len-requires : goal.block_len-len-requires
block_len-len-requires c = rw c.unwrap-index.ensures at c.index_in.ensures.within

pub returns : goal.returns
returns c =
    let sound = taken_sound c.args.known.now.opened.value c.args.piece.now c.requires.taken in
    let at_tree : c.unwrap-index.result ≡ piece_index c.args.known.now.geometry c.args.piece.now.hash c.args.piece.now.number = rw c.unwrap-index.ensures at c.index_in.ensures.value in
    let index_is : c.unwrap-index.result ≡ index_of_piece c.args.known.now.opened.value c.args.piece.now =
    at_tree ∙ ap (λ (shape : Shape). piece_index shape c.args.piece.now.hash c.args.piece.now.number) c.args.known.now.geometry_is in
    let len_is : c.block_len-len.result ≡ len_of_piece c.args.known.now.opened.value c.args.piece.now =
    c.block_len-len.ensures.value ∙ ap (λ (shape : Shape). block_len shape c.unwrap-index.result) c.args.known.now.geometry_is ∙ ap (block_len c.args.known.now.opened.value.areas.geometry) index_is in
    record {
      index = index_is;
      len = len_is;
      most = c.block_len-len.ensures.most;
      block = c.in_ok-block.ensures.value ∙ ap (λ (l : List ℕ). padded (take c.block_len-len.result l)) c.as_slice.ensures.value ∙ ap (λ (n : ℕ). padded (take n c.args.piece.now.bytes)) len_is;
    }
