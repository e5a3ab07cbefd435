-- Tests in order: a format refuses bytes by the first of its tests that fails.
use Rattle.std.specs.Prelude.{Bool, cond, List, [], ◌∷◌, Option, Some, None, Result, Ok, Err}

-- the fault of the first test that fails, where a test is what has to be true and the fault where it isn't
abbrev pub first_failing : {Fault : Type 0} → List (Bool × Fault) → Option Fault
first_failing [] = None
first_failing (test ∷ tests) = cond test.0 (first_failing tests) (Some test.1)

-- the fault, or the value where there is none
abbrev pub judge : {Value Fault : Type 0} → Option Fault → Value → Result Value Fault
judge None value = Ok value
judge (Some fault) value = Err fault
