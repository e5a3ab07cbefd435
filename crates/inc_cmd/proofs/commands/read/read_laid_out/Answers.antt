use Rattle.std.proofs.Common.{None, Some}
use Rattle.inc_cmd.proofs.PartLemmas.{shows_block, vouches_read}
use Rattle.inc_cmd.proofs.commands.read.read_laid_out.Goals as goal

pub returns-in-None-part-clause-shows : goal.returns-in-None-part-clause-shows
returns-in-None-part-clause-shows g c =
    rw c.in-None-part.is (shows_block _ c.args.layout.now None c.args.index c.args.root c.args.unproved c.show_own.result c.requires.stands c.in-None.ensures.marked c.show_own.ensures.shows)

pub returns-in-None-part-clause-vouched : goal.returns-in-None-part-clause-vouched
returns-in-None-part-clause-vouched g c =
    rw c.in-None-part.is (vouches_read c.args.layout.now.sig None c.args.index c.args.root c.args.unproved c.show_own.result c.in-None.ensures.marked c.show_own.ensures.vouched)

pub returns-in-Some-part-clause-shows : goal.returns-in-Some-part-clause-shows
returns-in-Some-part-clause-shows g c =
    rw c.in-Some-part.is (shows_block _ c.args.layout.now (Some c.in-Some-part.mapped) c.args.index c.args.root c.args.unproved c.show_part.result c.requires.stands c.in-None.ensures.marked c.show_part.ensures.shows)

pub returns-in-Some-part-clause-vouched : goal.returns-in-Some-part-clause-vouched
returns-in-Some-part-clause-vouched g c =
    rw c.in-Some-part.is (vouches_read c.args.layout.now.sig (Some c.in-Some-part.mapped) c.args.index c.args.root c.args.unproved c.show_part.result c.in-None.ensures.marked c.show_part.ensures.vouched)
