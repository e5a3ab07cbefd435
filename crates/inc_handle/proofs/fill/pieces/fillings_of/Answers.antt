use Rattle.std.proofs.Common.{◌≡◌, ℕ, ◌<◌, ◌≤◌, List, length, get_or, map, sym, ap, subst, ◌∙◌}
use Rattle.std.specs.Prelude.{IfOk}
use Rattle.std.proofs.lemmas.List.{take_all}
use Rattle.inc_cell.specs.device.Digested.{DigestedBlock, digested_each}
use Rattle.inc_filling.specs.Contents.{block_of_piece, index_of_piece, len_of_piece}
use Rattle.inc_filling.specs.Pieces.{fillings_joined}
use Rattle.inc_filling.specs.declared.filling.Filling.{Filling}
use Rattle.inc_filling.proofs.lemmas.HashLemmas.{as_many, joined_store, lens_small, same_lengths, store_if}
use Rattle.inc_handle.proofs.fill.pieces.fillings_of.Goals as goal

pub group-requires : goal.group-requires
group-requires c =
    let opened = c.args.known.now.opened.value in
    let pieces = c.args.pieces.now in
    let whole = take_all c.loop-at.at pieces c.loop-at-test.false in
    let lens : c.as_slice.result.now ≡ map (len_of_piece opened) pieces = c.as_slice.ensures.value ∙ c.loop-at.invariant.lens ∙ ap (map (len_of_piece opened)) whole in
    let blocks : c.loop-at.blocks.items ≡ map (block_of_piece opened) pieces = c.loop-at.invariant.blocks ∙ ap (map (block_of_piece opened)) whole in
    record {
      each = ap (λ (l : List ℕ). length l) lens ∙ same_lengths opened pieces ∙ sym (ap (λ (l : List (List ℕ)). length l) blocks);
      most = subst (λ (l : List ℕ). (i : ℕ) → i < length l → get_or l i 0 ≤ 4096) (sym lens) (lens_small opened pieces);
    }

pub join_fillings-requires : goal.join_fillings-requires
join_fillings-requires c =
    let opened = c.args.known.now.opened.value in
    let pieces = c.args.pieces.now in
    let whole = take_all c.loop-at.at pieces c.loop-at-test.false in
    let lens : c.as_slice.result.now ≡ map (len_of_piece opened) pieces = c.as_slice.ensures.value ∙ c.loop-at.invariant.lens ∙ ap (map (len_of_piece opened)) whole in
    let blocks : c.loop-at.blocks.items ≡ map (block_of_piece opened) pieces = c.loop-at.invariant.blocks ∙ ap (map (block_of_piece opened)) whole in
    let indices : c.as_slice-2.result.now ≡ map (index_of_piece opened) pieces = c.as_slice-2.ensures.value ∙ c.loop-at.invariant.indices ∙ ap (map (index_of_piece opened)) whole in
    record {
      each = ap (λ (l : List DigestedBlock). length l) (c.in_ok-hashed.ensures.value ∙ ap (λ (l : List (List ℕ)). digested_each l c.as_slice.result.now) blocks ∙ ap (digested_each (map (block_of_piece opened) pieces)) lens)
          ∙ as_many opened pieces ∙ sym (ap (λ (l : List ℕ). length l) indices);
    }

pub returns : goal.returns
returns c =
    let opened = c.args.known.now.opened.value in
    let pieces = c.args.pieces.now in
    let whole = take_all c.loop-at.at pieces c.loop-at-test.false in
    let lens : c.as_slice.result.now ≡ map (len_of_piece opened) pieces = c.as_slice.ensures.value ∙ c.loop-at.invariant.lens ∙ ap (map (len_of_piece opened)) whole in
    let blocks : c.loop-at.blocks.items ≡ map (block_of_piece opened) pieces = c.loop-at.invariant.blocks ∙ ap (map (block_of_piece opened)) whole in
    let indices : c.as_slice-2.result.now ≡ map (index_of_piece opened) pieces = c.as_slice-2.ensures.value ∙ c.loop-at.invariant.indices ∙ ap (map (index_of_piece opened)) whole in
    let hashed : c.in_ok-hashed.hashed.items ≡ digested_each (map (block_of_piece opened) pieces) (map (len_of_piece opened) pieces) =
    c.in_ok-hashed.ensures.value ∙ ap (λ (l : List (List ℕ)). digested_each l c.as_slice.result.now) blocks ∙ ap (digested_each (map (block_of_piece opened) pieces)) lens in
    let joined : fillings_joined c.as_slice-2.result.now c.in_ok-hashed.hashed.items ≡ fillings_joined (map (index_of_piece opened) pieces) (digested_each (map (block_of_piece opened) pieces) (map (len_of_piece opened) pieces)) =
    ap (λ (l : List ℕ). fillings_joined l c.in_ok-hashed.hashed.items) indices ∙ ap (fillings_joined (map (index_of_piece opened) pieces)) hashed in
    record {
      stores = store_if opened pieces (λ group. group.items) (fillings_joined (map (index_of_piece opened) pieces) (digested_each (map (block_of_piece opened) pieces) (map (len_of_piece opened) pieces))) (joined_store opened pieces c.requires.taken) c.join_fillings.result
          (subst (λ (wanted : List Filling). IfOk c.join_fillings.result (λ group. group.items ≡ wanted)) joined c.join_fillings.ensures.value);
    }
