use Rattle.std.specs.Prelude.{IsTrue}
use Rattle.inc_disk.proofs.Moments.{joined, weaker}
use Rattle.inc_disk.proofs.laws.runs_join.Goals as goal

pub returns-clause-joined : goal.returns-clause-joined
returns-clause-joined c = λ old mid new test first second. joined old mid new (λ image. IsTrue (test image)) first second

pub returns-clause-weaker : goal.returns-clause-weaker
returns-clause-weaker c = λ old new test other run so. weaker old new (λ image. IsTrue (test image)) (λ image. IsTrue (other image)) run so
