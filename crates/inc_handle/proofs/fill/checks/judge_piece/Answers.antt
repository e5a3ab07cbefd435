use Rattle.std.proofs.Common.{◌≡◌, ℕ, ◌+◌, ◌<◌, Bool, true, false, List, length, sym, ap, subst, ◌∙◌}
use Rattle.std.specs.Prelude.{nat_lt}
use Rattle.inc_bytes.specs.Tests.{first_failing, judge}
use Rattle.inc_tree.specs.shape.Geometry.{Shape, block_len, data_blocks, hash_blocks}
use Rattle.inc_entry.specs.Stored.{is_compressed_class, is_damaged_class}
use Rattle.inc_layout.specs.state.Reopening.{indices_passing}
use Rattle.inc_model.specs.relation.State.{Rise, has}
use Rattle.inc_cell.specs.events.Pieces.{kind_count, piece_index}
use Rattle.inc_handle.specs.Checks.{mark_tests}
use Rattle.inc_handle.proofs.told.Checked.{judged, out_of_range, passing_rise}
use Rattle.inc_handle.proofs.fill.checks.judge_piece.Goals as goal

pub returns-in_default : goal.returns-in_default
returns-in_default c =
    let known = c.args.known.now in
    let piece = c.args.piece.now in
    let past : nat_lt piece.number (kind_count known.opened.value.areas.geometry piece.hash) ≡ false =
    ap (λ (shape : Shape). nat_lt piece.number (kind_count shape piece.hash)) (sym known.geometry_is) ∙ sym c.in_default.ensures.there in
    record { value = sym (ap (λ found. judge found tt) (out_of_range known.opened.value piece.hash piece.number piece.compression (length piece.bytes) past)) }

pub lists-damaged-requires : goal.lists-damaged-requires
lists-damaged-requires c =
    let known = c.args.known.now in
    record { rise = subst Rise (sym (c.as_slice.ensures.value ∙ known.damaged_is)) (passing_rise is_damaged_class 0 known.opened.value.classes) }

pub lists-compressed-requires : goal.lists-compressed-requires
lists-compressed-requires c =
    let known = c.args.known.now in
    record { rise = subst Rise (sym (c.as_slice-2.ensures.value ∙ known.compressed_is)) (passing_rise is_compressed_class 0 known.opened.value.classes) }

pub returns : goal.returns
returns c =
    let known = c.args.known.now in
    let piece = c.args.piece.now in
    let opened = known.opened.value in
    let index = c.in-Some.index in
    let there : nat_lt piece.number (kind_count opened.areas.geometry piece.hash) ≡ true =
    ap (λ (shape : Shape). nat_lt piece.number (kind_count shape piece.hash)) (sym known.geometry_is) ∙ sym c.in-Some.ensures.there in
    let is : index ≡ piece_index opened.areas.geometry piece.hash piece.number = c.in-Some.ensures.value ∙ ap (λ (shape : Shape). piece_index shape piece.hash piece.number) known.geometry_is in
    let within : index < length opened.classes = subst (λ (n : ℕ). index < n) (sym known.counted) (subst (λ (shape : Shape). index < data_blocks shape + hash_blocks shape) known.geometry_is c.in-Some.ensures.within) in
    let damaged : c.lists-damaged.result ≡ has index (indices_passing is_damaged_class 0 opened.classes) = c.lists-damaged.ensures.value ∙ ap (has index) (c.as_slice.ensures.value ∙ known.damaged_is) in
    let compressed : c.lists-compressed.result ≡ has index (indices_passing is_compressed_class 0 opened.classes) = c.lists-compressed.ensures.value ∙ ap (has index) (c.as_slice-2.ensures.value ∙ known.compressed_is) in
    let own : c.block_len.result ≡ block_len opened.areas.geometry index = c.block_len.ensures.value ∙ ap (λ (shape : Shape). block_len shape index) known.geometry_is in
    let len : length c.as_slice-3.result.now ≡ length piece.bytes = ap (λ (l : List ℕ). length l) c.as_slice-3.ensures.value in
    record {
      value = c.judge_marks.ensures.value
          ∙ ap (λ (b : Bool). judge (first_failing (mark_tests b c.lists-compressed.result c.block_len.result piece.compression (length c.as_slice-3.result.now))) tt) damaged
          ∙ ap (λ (b : Bool). judge (first_failing (mark_tests (has index (indices_passing is_damaged_class 0 opened.classes)) b c.block_len.result piece.compression (length c.as_slice-3.result.now))) tt) compressed
          ∙ ap (λ (n : ℕ). judge (first_failing (mark_tests (has index (indices_passing is_damaged_class 0 opened.classes)) (has index (indices_passing is_compressed_class 0 opened.classes)) n piece.compression (length c.as_slice-3.result.now))) tt) own
          ∙ ap (λ (n : ℕ). judge (first_failing (mark_tests (has index (indices_passing is_damaged_class 0 opened.classes)) (has index (indices_passing is_compressed_class 0 opened.classes)) (block_len opened.areas.geometry index) piece.compression n)) tt) len
          ∙ ap (λ found. judge found tt) (judged opened piece.hash piece.number piece.compression (length piece.bytes) index there is within);
    }
