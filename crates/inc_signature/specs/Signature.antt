-- The signature blob of the backing format, at most 8096 bytes.
--
--     bytes  field
--         4  version, 2
--         4  size of the hash info section
--            hash info section:
--         4      hash algorithm, 1 for SHA-256
--         1      logarithm of the block size to base 2, 12
--         4      size of the salt, 0
--         4      size of the root, 32
--        32      root of the hash tree
--         4  size of the signing info section
--            signing info section, kept as it is
use Rattle.std.specs.Prelude.{◌≡◌, ℕ, ◌+◌, Bool, List, [], ◌∷◌, ◌++◌, length, take, drop, Result, Ok, Err, IsOk, ◌==◌, nat_le}
use Rattle.inc_bytes.specs.Fields.{le_bytes, field}
use Rattle.inc_bytes.specs.Tests.{first_failing, judge}
use Rattle.inc_signature.specs.declared.signature.SigInfo.{SigInfo}
use Rattle.inc_signature.specs.declared.signature.SigFault.{SigFault}
use Rattle.inc_signature.specs.declared.signature.SigFault.TheVariants.{Short, BadVersion, BadAlgorithm, BadBlockSize, Salted, BadRootSize, Trailing, TooLong, OutOfMemory}

-- ---- the blob as a function of the root and the signing info

unfoldable pub hash_info : List ℕ → List ℕ
hash_info root = le_bytes 4 1 ++ le_bytes 1 12 ++ le_bytes 4 0 ++ le_bytes 4 (length root) ++ root

unfoldable pub printed : (root signing : List ℕ) → List ℕ
printed root signing =
    le_bytes 4 2
    ++ le_bytes 4 (length (hash_info root))
    ++ hash_info root
    ++ le_bytes 4 (length signing)
    ++ signing

-- ---- where the parts of a blob are

unfoldable pub info_end : List ℕ → ℕ
info_end bytes = 8 + field 4 4 bytes

abbrev pub signing_end : List ℕ → ℕ
signing_end bytes = info_end bytes + 4 + field 4 (info_end bytes) bytes

abbrev pub info_in : List ℕ → List ℕ
info_in bytes = take (field 4 4 bytes) (drop 8 bytes)

abbrev pub info_root : List ℕ → List ℕ
info_root info = take 32 (drop 13 info)

-- ---- the tests, in their order

-- of the blob, up to its sections
unfoldable pub section_tests : List ℕ → List (Bool × SigFault)
section_tests bytes =
    (nat_le (length bytes) 8096, TooLong)
    ∷ (nat_le 4 (length bytes), Short)
    ∷ (field 4 0 bytes == 2, BadVersion)
    ∷ (nat_le 8 (length bytes), Short)
    ∷ (nat_le (info_end bytes + 4) (length bytes), Short)
    ∷ (nat_le (signing_end bytes) (length bytes), Short)
    ∷ (nat_le (length bytes) (signing_end bytes), Trailing)
    ∷ []

-- of the hash info section
unfoldable pub info_tests : List ℕ → List (Bool × SigFault)
info_tests info =
    (nat_le 4 (length info), Short)
    ∷ (field 4 0 info == 1, BadAlgorithm)
    ∷ (nat_le 5 (length info), Short)
    ∷ (field 1 4 info == 12, BadBlockSize)
    ∷ (nat_le 9 (length info), Short)
    ∷ (field 4 5 info == 0, Salted)
    ∷ (nat_le 13 (length info), Short)
    ∷ (field 4 9 info == 32, BadRootSize)
    ∷ (nat_le 45 (length info), Short)
    ∷ (nat_le (length info) 45, Trailing)
    ∷ []

unfoldable pub signature_tests : List ℕ → List (Bool × SigFault)
signature_tests bytes = section_tests bytes ++ info_tests (info_in bytes)

-- what the fields say
unfoldable pub signature_in : List ℕ → SigInfo
signature_in bytes = record { root = info_root (info_in bytes); signing = drop (info_end bytes + 4) bytes }

unfoldable pub signature_of : List ℕ → Result SigInfo SigFault
signature_of bytes = judge (first_failing (signature_tests bytes)) (signature_in bytes)

-- An answer is what the tests say. Want of memory comes only where every test holds.
abbrev pub GivesSigInfo : Result SigInfo SigFault → Result SigInfo SigFault → Type 0
GivesSigInfo (Ok s) judged = judged ≡ Ok s
GivesSigInfo (Err OutOfMemory) judged = IsOk judged
GivesSigInfo (Err fault) judged = judged ≡ Err fault
