-- The chain of metadata records: each names the place of the next one, and 0 ends it. Records lie in rising order.
use Rattle.std.specs.Prelude.{◌≡◌, ℕ, zero, suc, ◌+◌, ◌-◌, ◌<◌, Bool, not, ◌&&◌, ◌==◌, if◌then◌else◌, List, [], ◌∷◌, ◌++◌, length, map, slice_index, Option, Some, None, Result, Ok, Err, is_some, option_map}
use Rattle.std.specs.List.{find}
use Rattle.inc_bytes.specs.Tests.{first_failing}
use Rattle.inc_md.specs.declared.fault.ChainFault.{ChainFault}
use Rattle.inc_md.specs.declared.fault.ChainFault.TheVariants.{TooMany, NoMap}
use Rattle.inc_md.specs.declared.kinds.TheConstants.{HEAD_SIZE, MAP_KIND, SIGNATURE_KIND, STATUS_KIND, MOST_RECORDS}
use Rattle.inc_md.specs.declared.records.Records.{Records}
use Rattle.inc_md.specs.Record.{head_of, place_tests, head_tests, map_fields, sig_fields, status_fields, span_of}

-- the first of the records at these places that has this type
abbrev pub first_of_kind : List ℕ → ℕ → List ℕ → Option ℕ
first_of_kind bytes kind places = find (λ place. (head_of bytes place).kind == kind) places

-- the tests of the record at a place, after the records at the places `met`
abbrev pub record_tests : List ℕ → ℕ → List ℕ → ℕ → List (Bool × ChainFault)
record_tests bytes len met at =
    place_tests (length met) len at
    ++ head_tests (is_some (first_of_kind bytes MAP_KIND met)) (is_some (first_of_kind bytes SIGNATURE_KIND met)) len at (head_of bytes at)

-- after the records at `met`, those at these places follow each other: the first one stands at `at`, each passes its tests and
-- names the place of the one after it, and the next one would stand at `next`
abbrev pub Follow : List ℕ → ℕ → List ℕ → ℕ → List ℕ → ℕ → Type 0
Follow bytes len met at [] next = at ≡ next
Follow bytes len met at (place ∷ places) next =
    (at ≡ place) × (0 < place) × (first_failing (record_tests bytes len met place) ≡ None)
    × Follow bytes len (met ++ place ∷ []) (head_of bytes place).next places next

-- a chain that begins at `first` begins with the records at these places
abbrev pub IsChainFront : List ℕ → ℕ → ℕ → List ℕ → ℕ → Type 0
IsChainFront bytes len first places next = Follow bytes len [] first places next

-- what the records at these places say: of each type the first one counts
unfoldable pub records_of : List ℕ → List ℕ → Records
records_of bytes places = record {
  map = option_map (λ place. map_fields bytes (place + HEAD_SIZE)) (first_of_kind bytes MAP_KIND places);
  signature = option_map (λ place. sig_fields bytes (place + HEAD_SIZE)) (first_of_kind bytes SIGNATURE_KIND places);
  status = option_map (λ place. status_fields bytes (place + HEAD_SIZE)) (first_of_kind bytes STATUS_KIND places);
  spans = map (span_of bytes) places;
  last = slice_index places (length places - 1);
}

-- The same as a function. Of the places of a chain, nothing but the first bytes of each record is looked at:

abbrev pub unless_failing : Option ChainFault → Result (List ℕ) ChainFault → Result (List ℕ) ChainFault
unless_failing None places = places
unless_failing (Some fault) places = Err fault

-- all places of a chain that goes on at `at` after those at `met` and has at most so many more, or its first fault
unfoldable pub places_from : ℕ → List ℕ → ℕ → List ℕ → ℕ → Result (List ℕ) ChainFault
places_from zero bytes len met at = if at == 0 then Ok met else Err TooMany
places_from (suc more) bytes len met at =
    if at == 0 then Ok met
    else unless_failing (first_failing (record_tests bytes len met at)) (places_from more bytes len (met ++ at ∷ []) (head_of bytes at).next)

unfoldable pub places_along : List ℕ → ℕ → ℕ → Result (List ℕ) ChainFault
places_along bytes len first = places_from MOST_RECORDS bytes len [] first

-- a map has to be there where it is needed
abbrev pub records_if_mapped : List ℕ → Bool → Result (List ℕ) ChainFault → Result Records ChainFault
records_if_mapped bytes need_map (Ok places) = if need_map && not (is_some (first_of_kind bytes MAP_KIND places)) then Err NoMap else Ok (records_of bytes places)
records_if_mapped bytes need_map (Err fault) = Err fault

unfoldable pub chain_of : List ℕ → ℕ → ℕ → Bool → Result Records ChainFault
chain_of bytes len first need_map = records_if_mapped bytes need_map (places_along bytes len first)
