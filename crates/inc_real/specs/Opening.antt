-- A path that couldn't be opened: one fault from the start on.
use Rattle.std.specs.Prelude.{◌≡◌, ℕ, Option, Some, None}

abbrev pub opening_faults : {F : Type 0} → Option F → ℕ
opening_faults (Some file) = 0
opening_faults None = 1

abbrev pub IsUnopened : {F : Type 0} → Option F → Type 0
IsUnopened file = file ≡ None
