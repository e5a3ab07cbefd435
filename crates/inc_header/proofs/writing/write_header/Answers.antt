use Rattle.std.proofs.Common.{arith, refl, ◌∙◌}
use Rattle.inc_header.proofs.Written.{spelled, read_again, written_again}
use Rattle.inc_header.proofs.writing.write_header.Goals as goal

pub returns-clause-value : goal.returns-clause-value
returns-clause-value c =
    c.put_id.ensures.written
    ∙ spelled c.args.h.now c.flags.result c.place.result c.size.result _ c.put_u64.new.b c.put_u64-2.new.b c.put_u16.new.b c.put_u16-2.new.b c.put_u32.new.b c.put_u64-3.new.b c.put_u64-4.new.b
    refl c.flags.ensures.value c.place.ensures.value c.size.ensures.value
    c.put_u64.ensures.written c.put_u64-2.ensures.written c.put_u16.ensures.written c.put_u16-2.ensures.written c.put_u32.ensures.written c.put_u64-3.ensures.written c.put_u64-4.ensures.written

pub returns-clause-spelled : goal.returns-clause-spelled
returns-clause-spelled c = record {
  place = omega (arith, c.place.ensures.value);
  size = omega (arith, c.size.ensures.value);
  mapping = c.requires.mapping;
  id_length = c.put_id.ensures.sized;
  id_bytes = c.put_id.ensures.bytes;
}

pub returns-clause-read_back : goal.returns-clause-read_back
returns-clause-read_back c = λ more. read_again c.args.h.now _ more (returns-clause-spelled c) (returns-clause-value c)

pub returns-clause-again : goal.returns-clause-again
returns-clause-again c = λ bytes fits e. written_again c.args.h.now _ bytes (returns-clause-value c) fits e
