use Rattle.inc_loader.proofs.SentLemmas.{end_sent}
use Rattle.inc_loader.proofs.stream.loading.StreamLoaderLoader.stop.Goals as goal

pub returns-in-Ok-clause-ends : goal.returns-in-Ok-clause-ends
returns-in-Ok-clause-ends g c = λ had e h. end_sent had _ _ c.args.self.now.outlet.second c.args.self.now.outlet.greeted _ h c.in-Ok.ensures.sent
