use Rattle.std.proofs.Common.{◌≡◌, ◌-◌, List, min, refl, sym, subst, rules, arith, vec_len, vec_capacity}
use Rattle.inc_entry.specs.Stored.{is_compressed_class, is_damaged_class}
use Rattle.inc_layout.specs.state.Reopening.{indices_passing}
use Rattle.inc_model.specs.executed.SlotRows.{digest_rows, opened_lists}
use Rattle.inc_model.specs.declared.words.file_state.FileState.{FileState}
use Rattle.inc_model.specs.declared.words.reply.Entry.{Entry}
use Rattle.inc_cell.specs.seen.Books.{KeepsBook}
use Rattle.inc_cell.specs.seen.Parts.{opening_of}
use Rattle.inc_cell.proofs.steps.BookLemmas.{book_opening, opening_held}
use Rattle.inc_cell.proofs.parts.book.Book.open.Goals as goal

pub invariant_of-result : goal.invariant_of-result
invariant_of-result c =
    let opened = c.args.opened.now in
    let slots : c.in_ok-slots.slots ≡ opened_lists c.data_blocks.result c.hash_blocks.result (digest_rows c.args.opened.now.digests) = search rules in
    let damaged : c.in_ok-damaged.damaged.items ≡ indices_passing is_damaged_class 0 c.args.opened.now.classes = search rules in
    let compressed : c.in_ok-compressed.compressed.items ≡ indices_passing is_compressed_class 0 c.args.opened.now.classes = search rules in
    let state_is = book_opening opened c.args.faults c.args.readers c.data_blocks.result c.hash_blocks.result c.in_ok-slots.slots c.over-core.result.state opened.header.id c.root.result c.in_ok-damaged.damaged.items c.in_ok-compressed.compressed.items
    c.over-core.ensures.value slots refl c.root.ensures.value c.data_blocks.ensures.value c.hash_blocks.ensures.value damaged compressed in
    let room = min c.over-core.result.room (vec_capacity c.new.result - vec_len c.new.result) in
    subst (λ (s : FileState). KeepsBook s c.new.result.items room) (sym state_is)
    (subst (λ (l : List Entry). KeepsBook (opening_of opened c.args.faults c.args.readers) l room) (sym c.new.ensures.items)
    (record { held = opening_held opened c.args.faults c.args.readers c.requires.sound (omega (arith, c.data_blocks.ensures.small, c.data_blocks.ensures.value)) (omega (arith, c.hash_blocks.ensures.small, c.hash_blocks.ensures.value)); places = omega arith }))

pub returns-clause-state : goal.returns-clause-state
returns-clause-state c =
    let opened = c.args.opened.now in
    let slots : c.in_ok-slots.slots ≡ opened_lists c.data_blocks.result c.hash_blocks.result (digest_rows c.args.opened.now.digests) = search rules in
    let damaged : c.in_ok-damaged.damaged.items ≡ indices_passing is_damaged_class 0 c.args.opened.now.classes = search rules in
    let compressed : c.in_ok-compressed.compressed.items ≡ indices_passing is_compressed_class 0 c.args.opened.now.classes = search rules in
    book_opening opened c.args.faults c.args.readers c.data_blocks.result c.hash_blocks.result c.in_ok-slots.slots c.over-core.result.state opened.header.id c.root.result c.in_ok-damaged.damaged.items c.in_ok-compressed.compressed.items
    c.over-core.ensures.value slots refl c.root.ensures.value c.data_blocks.ensures.value c.hash_blocks.ensures.value damaged compressed
