-- What it says that every test held.
use Rattle.std.proofs.Common.{◌≡◌, Bool, true, false, cond, List, [], ◌∷◌, ◌++◌, Option, Some, None, Ok, Err, refl}
use Rattle.inc_bytes.specs.Tests.{first_failing, judge}

-- the first test held, and so did the later ones
pub passed : {Fault : Type 0} (test : Bool) (later : Option Fault) (fault : Fault) → cond test later (Some fault) ≡ None → (test ≡ true) × (later ≡ None)
passed true later fault e = (refl, e)
passed false later fault e = absurd cc

-- a value is answered only where no test failed
pub judged_ok : {Value Fault : Type 0} (failing : Option Fault) (value found : Value) → judge failing value ≡ Ok found → (failing ≡ None) × (value ≡ found)
judged_ok None value found e = (refl, cc)
judged_ok (Some fault) value found e = absurd cc

pub judged_err : {Value Fault : Type 0} (failing : Option Fault) (value : Value) (fault : Fault) → judge failing value ≡ Err fault → failing ≡ Some fault
judged_err None value fault e = absurd cc
judged_err (Some other) value fault e = cc

-- ---- tests in two parts

keeps_failing : {Fault : Type 0} (test : Bool) (later all : Option Fault) (fault found : Fault) → (later ≡ Some found → all ≡ Some found) → cond test later (Some fault) ≡ Some found → cond test all (Some fault) ≡ Some found
keeps_failing true later all fault found step e = step e
keeps_failing false later all fault found step e = e

-- a test of the first part fails
pub first_failing-append_left : {Fault : Type 0} (tests more : List (Bool × Fault)) (fault : Fault) → first_failing tests ≡ Some fault → first_failing (tests ++ more) ≡ Some fault
first_failing-append_left [] more fault e = absurd cc
first_failing-append_left (test ∷ tests) more fault e = keeps_failing test.0 (first_failing tests) (first_failing (tests ++ more)) test.1 fault (first_failing-append_left tests more fault) e

-- the tests of the first part hold
pub first_failing-append_right : {Fault : Type 0} (tests more : List (Bool × Fault)) → first_failing tests ≡ None → first_failing (tests ++ more) ≡ first_failing more
first_failing-append_right [] more e = refl
first_failing-append_right (test ∷ tests) more e =
    let held = passed test.0 (first_failing tests) test.1 e in
    rw held.0 (first_failing-append_right tests more held.1)

-- all tests hold
pub passed_both : {Fault : Type 0} (tests more : List (Bool × Fault)) → first_failing (tests ++ more) ≡ None → (first_failing tests ≡ None) × (first_failing more ≡ None)
passed_both [] more e = (refl, e)
passed_both (test ∷ tests) more e =
    let held = passed test.0 (first_failing (tests ++ more)) test.1 e in
    let later = passed_both tests more held.1 in
    (rw held.0 later.0, later.1)
