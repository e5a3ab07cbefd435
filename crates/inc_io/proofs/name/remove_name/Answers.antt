use Rattle.std.proofs.Common.{◌≡◌, ◌<◌, true, length, get_or, rules, sym, ◌∙◌}
use Rattle.std.specs.Str.{bytes_eq}
use Rattle.std.proofs.lemmas.Option.{get_or_from_slice_get}
use Rattle.inc_io.proofs.NameLemmas.{found_here, same_there, within_rest, without_here}
use Rattle.inc_io.proofs.name.remove_name.Goals as goal

pub loop-at-preserved-then-is_same : goal.loop-at-preserved-then-is_same
loop-at-preserved-then-is_same c =
    let names = c.loop-at.names in
    let lt : c.loop-at.at < length names = search rules in
    let item = c.index-as_slice-at.result in
    let here : item ≡ get_or names c.loop-at.at item = search rules in
    let same : bytes_eq c.args.name.now item ≡ true = cc in
    record {
      within = within_rest names c.remove.new.self c.loop-at.at lt c.remove.ensures.others;
      value = without_here _ names c.remove.new.self c.loop-at.at item lt here same c.remove.ensures.others ∙ c.loop-at.invariant.value;
      found = found_here _ _ _ _ _ _ lt here same c.loop-at.invariant.found;
      same = same_there _ _ _ _ _ lt here same (sym (get_or_from_slice_get names c.loop-at.at c.remove.result c.remove.result c.remove.ensures.value));
    }
