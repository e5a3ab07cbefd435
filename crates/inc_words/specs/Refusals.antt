-- The word of each refusal: the fault's name in small letters with dashes. A fault of the signature has `signature-` before it. What
-- failed outside of the files, a device or memory, is no refusal: it has no word and stops the command.
use Rattle.std.specs.Prelude.{ℕ, List, Result, Ok, Err, codes}
use Rattle.inc_header.specs.declared.header.HeaderFault.{HeaderFault}
use Rattle.inc_header.specs.declared.header.HeaderFault.TheVariants as header
use Rattle.inc_md.specs.declared.fault.ChainFault.{ChainFault}
use Rattle.inc_md.specs.declared.fault.ChainFault.TheVariants as chain
use Rattle.inc_signature.specs.declared.signature.SigFault.{SigFault}
use Rattle.inc_signature.specs.declared.signature.SigFault.TheVariants as signature
use Rattle.inc_layout.specs.declared.fault.LayoutFault.{LayoutFault}
use Rattle.inc_layout.specs.declared.fault.LayoutFault.TheVariants as layout
use Rattle.inc_layout.specs.declared.reading.static_error.StaticError.{StaticError}
use Rattle.inc_layout.specs.declared.reading.static_error.StaticError.TheVariants as block
use Rattle.inc_words.specs.Texts.{corrupt_reason, path_absent_reason}
use Rattle.inc_words.specs.declared.stop.Stop.{Stop}
use Rattle.inc_words.specs.declared.stop.Stop.TheVariants.{Fault, OutOfMemory}

-- ---- words of a name

unfoldable pub missing : List ℕ
missing = codes "missing"

unfoldable pub exists : List ℕ
exists = codes "exists"

unfoldable pub too_large : List ℕ
too_large = codes "too-large"

unfoldable pub root_differs : List ℕ
root_differs = codes "root-differs"

unfoldable pub unsigned : List ℕ
unsigned = codes "unsigned"

unfoldable pub too_long : List ℕ
too_long = codes "too-long"

unfoldable pub unknown_file : List ℕ
unknown_file = codes "unknown-file"

unfoldable pub bad_range : List ℕ
bad_range = codes "bad-range"

unfoldable pub same_id : List ℕ
same_id = codes "same-id"

unfoldable pub no_original : List ℕ
no_original = codes "no-original"

unfoldable pub past_original : List ℕ
past_original = codes "past-original"

-- ---- words of a file

unfoldable pub header_word : HeaderFault → List ℕ
header_word header.Short = codes "short"
header_word header.BadMagic = codes "bad-magic"
header_word header.BadVersion = codes "bad-version"
header_word header.BadHeaderSize = codes "bad-header-size"
header_word header.BadBlockSize = codes "bad-block-size"
header_word header.BadFlags = codes "bad-flags"
header_word header.BadMapping = codes "bad-mapping"

-- A failing device and want of memory are told of the whole file, never of its chain.
unfoldable pub chain_word : ChainFault → Result (List ℕ) Stop
chain_word (chain.Outside at) = Ok (codes "outside")
chain_word (chain.NotRising at next) = Ok (codes "not-rising")
chain_word (chain.BadSize at) = Ok (codes "bad-size")
chain_word (chain.TwoMaps at) = Ok (codes "two-maps")
chain_word chain.NoMap = Ok (codes "no-map")
chain_word (chain.TwoSignatures at) = Ok (codes "two-signatures")
chain_word chain.TooMany = Ok (codes "too-many")
chain_word chain.ReadFault = Err Fault
chain_word chain.OutOfMemory = Err OutOfMemory

unfoldable pub signature_word : SigFault → Result (List ℕ) Stop
signature_word signature.Short = Ok (codes "signature-short")
signature_word signature.BadVersion = Ok (codes "signature-bad-version")
signature_word signature.BadAlgorithm = Ok (codes "signature-bad-algorithm")
signature_word signature.BadBlockSize = Ok (codes "signature-bad-block-size")
signature_word signature.Salted = Ok (codes "signature-salted")
signature_word signature.BadRootSize = Ok (codes "signature-bad-root-size")
signature_word signature.Trailing = Ok (codes "signature-trailing")
signature_word signature.TooLong = Ok (codes "signature-too-long")
signature_word signature.OutOfMemory = Err OutOfMemory

unfoldable pub layout_word : LayoutFault → Result (List ℕ) Stop
layout_word (layout.Header fault) = Ok (header_word fault)
layout_word (layout.Chain fault) = chain_word fault
layout_word (layout.Signature fault) = signature_word fault
layout_word layout.TooLong = Ok (codes "too-long")
layout_word layout.Mapped = Ok (codes "mapped")
layout_word layout.TooLarge = Ok (codes "too-large")
layout_word layout.SignatureOutside = Ok (codes "signature-outside")
layout_word (layout.MapCount wanted got) = Ok (codes "map-count")
layout_word layout.MapOutside = Ok (codes "map-outside")
layout_word (layout.TreeSize wanted got) = Ok (codes "tree-size")
layout_word layout.TreeOutside = Ok (codes "tree-outside")
layout_word layout.Overlap = Ok (codes "overlap")
layout_word (layout.PlacePastEnd index) = Ok (codes "place-past-end")
layout_word layout.ReadFault = Err Fault
layout_word layout.OutOfMemory = Err OutOfMemory

-- ---- why a block can't be shown

unfoldable pub reason_of : StaticError → Result (List ℕ) Stop
reason_of block.OutOfRange = Ok (codes "out-of-range")
reason_of block.Damaged = Ok (codes "damaged")
reason_of block.Compressed = Ok (codes "compressed")
reason_of block.Absent = Ok (codes "absent")
reason_of (block.PathAbsent hash) = Ok (path_absent_reason hash)
reason_of (block.Corrupt level wanted got) = Ok (corrupt_reason level wanted got)
reason_of block.ReadFault = Err Fault
reason_of block.OutOfMemory = Err OutOfMemory
