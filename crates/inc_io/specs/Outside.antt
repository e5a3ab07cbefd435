-- Facts of the calls on a sink, a source, a clock and a shelf.
use Rattle.std.specs.Prelude.{◌≡◌, ◌==◌, ℕ, ◌+◌, ◌*◌, ◌-◌, ◌^◌, min, nat_lt, Bool, false, ◌&&◌, ◌++◌, List, [], ◌∷◌, take, drop, Option, Some, None, Result, Ok, Err, IfSome, Contains, option_map}

-- a sink has taken this many bytes of the piece, or none where it failed
abbrev pub Takes : {E : Type 0} → Option (List ℕ) → Option (List ℕ) → List ℕ → Result ℕ E → Type 0
Takes before after piece (Ok count) = after ≡ option_map (λ bytes. bytes ++ take count piece) before
Takes before after piece (Err fault) = after ≡ before

-- a source still gives what it gave before but for this many bytes, or the same where it failed
abbrev pub Gives : {E : Type 0} → Option (List ℕ) → Option (List ℕ) → Result ℕ E → Type 0
Gives before after (Ok count) = after ≡ option_map (drop count) before
Gives before after (Err fault) = after ≡ before

-- no byte for a room that isn't empty: the input is at its end
abbrev pub is_end : {E : Type 0} → ℕ → Result ℕ E → Bool
is_end room (Ok count) = nat_lt 0 room && (count == 0)
is_end room (Err fault) = false

-- a clock that begins at `start` reads this after some number of steps
abbrev pub IsStep : ℕ → ℕ → ℕ → Type 0
IsStep start step time = (steps : ℕ) × (time ≡ min (start + steps * step) (2 ^ 64 - 1))

-- Of a shelf that tells which of its names are out:
abbrev pub IsIn : List ℕ → Option (List (List ℕ)) → Type 0
IsIn name out = IfSome out (λ names. ¬ (Contains names name))

abbrev pub IsOut : List ℕ → Option (List (List ℕ)) → Type 0
IsOut name out = IfSome out (λ names. Contains names name)

abbrev pub NoneOut : Option (List (List ℕ)) → Type 0
NoneOut out = IfSome out (λ names. names ≡ [])

-- the name is out afterwards exactly where a file was lent
abbrev pub LendsName : {F E : Type 0} → List ℕ → Option (List (List ℕ)) → Option (List (List ℕ)) → Result (Option F) E → Type 0
LendsName name before after (Ok (Some file)) = after ≡ option_map (λ names. names ++ name ∷ []) before
LendsName name before after (Ok None) = after ≡ before
LendsName name before after (Err fault) = after ≡ before
