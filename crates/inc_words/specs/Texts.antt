-- The lines that commands print, a definition each. Every line ends with a line feed.
use Rattle.std.specs.Prelude.{ℕ, ◌++◌, List, [], ◌∷◌, codes}
use Rattle.std.specs.Fmt.{decimal}
use Rattle.hex.specs.Hex.{encode_lower}

-- `words K`
unfoldable pub words_line : ℕ → List ℕ
words_line position = codes "words " ++ decimal position ++ 10 ∷ []

-- `stream WORD at P`
unfoldable pub stream_line : List ℕ → ℕ → List ℕ
stream_line word place = codes "stream " ++ word ++ codes " at " ++ decimal place ++ 10 ∷ []

-- `refused NAME WORD`
unfoldable pub refused_line : List ℕ → List ℕ → List ℕ
refused_line name word = codes "refused " ++ name ++ 32 ∷ word ++ 10 ∷ []

-- `block I REASON`
unfoldable pub block_line : ℕ → List ℕ → List ℕ
block_line index reason = codes "block " ++ decimal index ++ 32 ∷ reason ++ 10 ∷ []

-- `corrupt level L wanted W got G`
unfoldable pub corrupt_reason : ℕ → List ℕ → List ℕ → List ℕ
corrupt_reason level wanted got = codes "corrupt level " ++ decimal level ++ codes " wanted " ++ encode_lower wanted ++ codes " got " ++ encode_lower got

-- `path-absent K`
unfoldable pub path_absent_reason : ℕ → List ℕ
path_absent_reason hash = codes "path-absent " ++ decimal hash

-- `K of N`
unfoldable pub part_of : ℕ → ℕ → List ℕ
part_of some all = decimal some ++ codes " of " ++ decimal all

-- `checked ok K of N`
unfoldable pub checked_line : ℕ → ℕ → List ℕ
checked_line good count = codes "checked ok " ++ part_of good count ++ 10 ∷ []

-- ` data N hash M length L`
unfoldable pub made_counts : ℕ → ℕ → ℕ → List ℕ
made_counts data_count hash_count len = codes " data " ++ decimal data_count ++ codes " hash " ++ decimal hash_count ++ codes " length " ++ decimal len

-- `made NAME data N hash M length L`
unfoldable pub made_line : List ℕ → ℕ → ℕ → ℕ → List ℕ
made_line name data_count hash_count len = codes "made " ++ name ++ made_counts data_count hash_count len ++ 10 ∷ []

-- ` written W present P`
unfoldable pub filled_counts : ℕ → ℕ → List ℕ
filled_counts written present = codes " written " ++ decimal written ++ codes " present " ++ decimal present

-- `filled NAME written W present P`
unfoldable pub fill_line : List ℕ → ℕ → ℕ → List ℕ
fill_line name written present = codes "filled " ++ name ++ filled_counts written present ++ 10 ∷ []

-- ` size S data N hash M`
unfoldable pub big_counts : ℕ → ℕ → ℕ → List ℕ
big_counts size data_count hash_count = codes " size " ++ decimal size ++ codes " data " ++ decimal data_count ++ codes " hash " ++ decimal hash_count

-- `big NAME size S data N hash M`
unfoldable pub big_line : List ℕ → ℕ → ℕ → ℕ → List ℕ
big_line name size data_count hash_count = codes "big " ++ name ++ big_counts size data_count hash_count ++ 10 ∷ []

-- `filled W`
unfoldable pub written_line : ℕ → List ℕ
written_line written = codes "filled " ++ decimal written ++ 10 ∷ []
