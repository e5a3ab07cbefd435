-- What holds of each of two lists holds of each of both.
use Rattle.std.proofs.Common.{List, [], ◌∷◌, ◌++◌}
use Rattle.inc_session.specs.Deeds.{EachOf}

pub each_append : {X : Type 0} (P : X → Type 0) (xs ys : List X) → EachOf P xs → EachOf P ys → EachOf P (xs ++ ys)
each_append P [] ys h k = k
each_append P (x ∷ xs) ys h k = (h.0, each_append P xs ys h.1 k)
