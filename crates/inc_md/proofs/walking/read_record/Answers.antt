use Rattle.inc_md.proofs.Stepping.{told_record}
use Rattle.inc_md.proofs.walking.read_record.Goals as goal

pub returns-clause-said : goal.returns-clause-said
returns-clause-said g c =
    told_record _ c.args.len c.args.at c.in_ok-head.head c.args.records.now c.read_fields.new.records c.push.new.self
    c.in_ok-check_place.ensures.inside c.in_ok-check_head.ensures.inside c.in_ok-push.ensures.ok
    c.requires c.in_ok-head.ensures.value (rw c.in_ok-head.ensures.kept at c.in_ok-read_fields.ensures.value)

pub returns-clause-inside : goal.returns-clause-inside
returns-clause-inside g c inside = record {
  status = c.in_ok-read_fields.ensures.status c.args.len c.in_ok-check_head.ensures.inside inside.status;
  last = λ some. c.in_ok-check_place.ensures.inside;
}
