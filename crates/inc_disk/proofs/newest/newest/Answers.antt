use Rattle.std.proofs.Common.{◌≡◌, ◌∙◌, ◌∷◌, true, false, get_or, ap, sym, rules}
use Rattle.std.specs.Str.{bytes_eq}
use Rattle.std.specs.Option.{option_copied}
use Rattle.inc_disk.specs.declared.entry.Entry.{Entry}
use Rattle.inc_disk.proofs.LogLemmas.{newest_step_same, newest_step_other}
use Rattle.inc_disk.proofs.newest.newest.Goals as goal
use Rattle.inc_disk.proofs.newest.newest.Goals.{then-is_same, else-is_same}

pub loop-entry-preserved : goal.loop-entry-preserved
loop-entry-preserved c =
    elim c.if-is_same.branch [
      | then-is_same w ↦
          let same : bytes_eq c.args.name.now (get_or c.args.entries.now c.loop-entry.entry-index c.entry-item.result).name ≡ true = cc in
          let history : (get_or c.args.entries.now c.loop-entry.entry-index c.entry-item.result).history ≡ w.state.result.now ∷ w.state.ensures.value.0 = ap (λ (entry : Entry). entry.history) (sym c.entry-item.is) ∙ w.state.ensures.value.1 in
          ap (option_copied) w.found-is ∙ sym (newest_step_same c.args.name.now c.args.entries.now c.loop-entry.entry-index c.entry-item.result w.state.result.now _ (search rules) same history)
      | else-is_same w ↦
          let other : bytes_eq c.args.name.now (get_or c.args.entries.now c.loop-entry.entry-index c.entry-item.result).name ≡ false = cc in
          ap (option_copied) w.found-is ∙ c.loop-entry.invariant ∙ sym (newest_step_other c.args.name.now c.args.entries.now c.loop-entry.entry-index c.entry-item.result (search rules) other)
    ]
