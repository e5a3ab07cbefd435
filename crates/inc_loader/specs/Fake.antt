-- What a loader for tests gives: the lists that it was made with, one after another.
use Rattle.std.specs.Prelude.{◌≡◌, Bool, true, false, List, [], ◌∷◌}
use Rattle.inc_frame.specs.declared.piece.Piece.{Piece}
use Rattle.inc_loader.specs.declared.turn.Given.{Given}
use Rattle.inc_loader.specs.declared.turn.Given.TheVariants as given

-- of the lists that were left it gives the first, and says that it is done where none was left
abbrev pub GivesNext : Given → List (List Piece) → List (List Piece) → Type 0
GivesNext (given.Pieces pieces) before after = before ≡ pieces ∷ after
GivesNext given.Done before after = (before ≡ []) × (after ≡ [])
GivesNext given.Failed before after = after ≡ before
GivesNext given.OutOfMemory before after = after ≡ before
GivesNext given.Nothing before after = ⊥
GivesNext (given.Bad fault) before after = ⊥

abbrev pub has_failed : Given → Bool
has_failed given.Failed = true
has_failed (given.Pieces pieces) = false
has_failed given.Nothing = false
has_failed given.Done = false
has_failed (given.Bad fault) = false
has_failed given.OutOfMemory = false
