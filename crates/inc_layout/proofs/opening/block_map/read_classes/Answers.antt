use Rattle.std.proofs.Common.{refl, rules}
use Rattle.inc_entry.specs.Entry.{area_places}
use Rattle.inc_layout.proofs.opened_file.EntryLemmas.{start_classes}
use Rattle.inc_layout.proofs.opening.block_map.read_classes.Goals as goal

pub loop-index-init : goal.loop-index-init
loop-index-init g c = record {
  within = search rules;
  room = search rules;
  kept = refl;
  quiet = refl;
  count = search rules;
  classes = start_classes _ (area_places c.args.areas.now) c.args.areas.now.len _ (search rules);
}
