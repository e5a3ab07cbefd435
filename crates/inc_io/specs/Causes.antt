-- When an object of the outside may answer a fault. Each object has a count of faults, which never falls and stops at the greatest u64.
use Rattle.std.specs.Prelude.{◌≡◌, ◌≢◌, ℕ, ◌+◌, ◌-◌, ◌^◌, ◌≤◌, min, Result, Err, OnOk, OnErr}

-- the count rose, or stands at its end
abbrev pub Rose : ℕ → ℕ → Type 0
Rose before now = min (before + 1) (2 ^ 64 - 1) ≤ now

-- a call that fails in one way: it fails only where the count rose, and else the count stays
pub record HasCause {T E : Type 0} (before now : ℕ) (result : Result T E) : Type 0 where
  pub later : before ≤ now
  pub failed : OnErr result (Rose before now)
  pub kept : OnOk result (now ≡ before)

-- a call with several answers: this one comes only where the count rose, and at every other the count stays
pub record HasCauseAt {T E : Type 0} (fault : E) (before now : ℕ) (result : Result T E) : Type 0 where
  pub later : before ≤ now
  pub failed : result ≡ Err fault → Rose before now
  pub kept : result ≢ Err fault → now ≡ before

-- a file that is given back: the count rises by at least what the file's count rose, and stays where that one stayed
pub record Joins (before lent now : ℕ) : Type 0 where
  pub later : before ≤ now
  pub all : min (before + lent) (2 ^ 64 - 1) ≤ now
  pub none : lent ≡ 0 → now ≡ before
