-- What a name shows of a file, over the file's bytes.
use Rattle.std.proofs.Common.{◌≡◌, ℕ, Bool, true, false, List, take, Option, Some, None, Result, Ok, Err, refl, sym, ap, subst}
use Rattle.std.specs.Prelude.{IfSome, IfOk}
use Rattle.inc_signature.specs.declared.signature.SigInfo.{SigInfo}
use Rattle.inc_tree.specs.read_block.Shown.{shown_content}
use Rattle.inc_mapped.specs.Mapping.{Mapping, ShowsPart, part_shown}
use Rattle.inc_mapped.proofs.Showing.{part_shows}
use Rattle.inc_layout.specs.Backing.{IsLaidOut}
use Rattle.inc_layout.specs.reading.StaticRead.{GivesReading, IsContent, MeansReading, static_reading}
use Rattle.inc_layout.specs.declared.opened.Layout.{Layout}
use Rattle.inc_layout.specs.declared.reading.static_error.StaticError.{StaticError}
use Rattle.inc_layout.specs.declared.reading.static_error.StaticError.TheVariants as block
use Rattle.inc_layout.proofs.block_read.ReadMeaning.{reading_means}
use Rattle.inc_cmd.specs.Commands.Parts.{BeginsBlock, IsFrontContent, IsNameContent, IsPartContent, front_read, name_reading, part_reading}
use Rattle.inc_cmd.specs.Commands.Read.{IsMarked, IsNameVouchedBy, ShowsBlock, VouchesName, VouchesRead}
use Rattle.inc_words.specs.declared.outcome.CommandOutcome.{CommandOutcome}
use Rattle.inc_words.specs.declared.stop.Stop.{Stop}

same_text : (one other : List ℕ) → ◌≡◌ {A = Result (List ℕ) StaticError} (Ok one) (Ok other) → one ≡ other
same_text one other e = cc

own_means : (bytes : List ℕ) (layout : Layout) (index : ℕ) (read : Result (List ℕ) StaticError) → MeansReading bytes layout index read → (text : List ℕ) → read ≡ Ok text → IsContent bytes layout index text
own_means bytes layout index (Ok content) means text e = subst (IsContent bytes layout index) (same_text content text e) means
own_means bytes layout index (Err error) means text e = absurd (cc)

front_means : (bytes : List ℕ) (layout : Layout) (block count : ℕ) (read : Result (List ℕ) StaticError) → MeansReading bytes layout block read → (text : List ℕ) → front_read count read ≡ Ok text
    → IsFrontContent bytes layout block count text
front_means bytes layout block count (Ok content) means text e = record { whole = content; content = means; front = sym (same_text (take count content) text e) }
front_means bytes layout block count (Err error) means text e = absurd (cc)

pub name_means : (bytes : List ℕ) (layout : Layout) (part : Option Mapping) (index : ℕ) → BeginsBlock part → IsLaidOut bytes layout → (text : List ℕ)
    → name_reading bytes layout part index ≡ Ok text → IsNameContent bytes layout part index text
name_means bytes layout None index begins stands text e = own_means bytes layout index (static_reading bytes layout index) (reading_means bytes layout index stands) text e
name_means bytes layout (Some mapping) index begins stands text e =
    elim (part_shown mapping index) as (λ shown. part_shown mapping index ≡ shown → part_reading bytes layout shown ≡ Ok text → IsNameContent bytes layout (Some mapping) index text) [
      | None ↦ λ is read. absurd (cc)
      | Some shown ↦ λ is read. record {
        shown = shown;
        shows = part_shows mapping index shown begins is;
        content = front_means bytes layout shown.0 shown.1 (static_reading bytes layout shown.0) (reading_means bytes layout shown.0 stands) text read;
      }
    ] refl e

-- ---- over a content that may not be told

-- the device, want of memory, or why the block isn't there: it isn't for the front of the block either
pub front_error : (told : Option (List ℕ)) (count : ℕ) (error : StaticError) (reading : List ℕ → Result (List ℕ) StaticError) → IfSome told (λ bytes. GivesReading shown_content (Err error) (reading bytes))
    → IfSome told (λ bytes. GivesReading shown_content (Err error) (front_read count (reading bytes)))
front_error None count error reading given = tt
front_error (Some bytes) count block.ReadFault reading given = tt
front_error (Some bytes) count block.OutOfMemory reading given = tt
front_error (Some bytes) count error reading given = ap (front_read count) given

pub front_shows : (told : Option (List ℕ)) (layout : Layout) (mapping : Mapping) (index : ℕ) (shown : ℕ × ℕ) (result : Result CommandOutcome Stop) → ShowsPart mapping index shown
    → IfSome told (λ bytes. IfOk result (λ outcome. outcome.status.0 ≡ 0 → IsFrontContent bytes layout shown.0 shown.1 outcome.text.items))
    → IfSome told (λ bytes. IfOk result (λ outcome. outcome.status.0 ≡ 0 → IsPartContent bytes layout mapping index outcome.text.items))
front_shows None layout mapping index shown result shows front = tt
front_shows (Some bytes) layout mapping index shown (Ok outcome) shows front = λ done. record { shown = shown; shows = shows; content = front done }
front_shows (Some bytes) layout mapping index shown (Err stop) shows front = tt

pub shows_block : (told : Option (List ℕ)) (layout : Layout) (part : Option Mapping) (index : ℕ) (root : Option (List ℕ)) (unproved : Bool) (result : Result CommandOutcome Stop)
    → IfSome told (λ bytes. IsLaidOut bytes layout) → IsMarked layout.sig root unproved
    → IfSome told (λ bytes. IfOk result (λ outcome. outcome.status.0 ≡ 0 → IsNameContent bytes layout part index outcome.text.items))
    → IfSome told (λ bytes. IfOk result (λ outcome. outcome.status.0 ≡ 0 → ShowsBlock bytes index root unproved part outcome.text.items))
shows_block None layout part index root unproved result stands marked shows = tt
shows_block (Some bytes) layout part index root unproved (Ok outcome) stands marked shows = λ done. record { layout = layout; stands = stands; marked = marked; content = shows done }
shows_block (Some bytes) layout part index root unproved (Err stop) stands marked shows = tt

vouches_marked : (sig : Option SigInfo) (part : Option Mapping) (index : ℕ) (root : Option (List ℕ)) (unproved : Bool) (text : List ℕ) → IsMarked sig root unproved → VouchesName sig part index text
    → VouchesRead index root unproved part text
vouches_marked None part index None true text marked vouches = tt
vouches_marked None part index None false text marked vouches = absurd (let no = marked.1 in cc)
vouches_marked None part index (Some root) unproved text marked vouches = absurd (let no = marked.0 in cc)
vouches_marked (Some sig) part index None false text marked vouches = record { root = sig.root; vouched = vouches }
vouches_marked (Some sig) part index None true text marked vouches = tt
vouches_marked (Some sig) part index (Some root) unproved text marked vouches = subst (λ (r : List ℕ). IsNameVouchedBy r part index text) marked vouches

pub vouches_read : (sig : Option SigInfo) (part : Option Mapping) (index : ℕ) (root : Option (List ℕ)) (unproved : Bool) (result : Result CommandOutcome Stop) → IsMarked sig root unproved
    → IfOk result (λ outcome. outcome.status.0 ≡ 0 → VouchesName sig part index outcome.text.items) → IfOk result (λ outcome. outcome.status.0 ≡ 0 → VouchesRead index root unproved part outcome.text.items)
vouches_read sig part index root unproved (Ok outcome) marked vouches = λ done. vouches_marked sig part index root unproved outcome.text.items marked (vouches done)
vouches_read sig part index root unproved (Err stop) marked vouches = tt

-- whatever else is known of the bytes
pub whatever : (told : Option (List ℕ)) (P Q : List ℕ → Type 0) → IfSome told (λ bytes. Q bytes) → IfSome told (λ bytes. P bytes → Q bytes)
whatever None P Q holds = tt
whatever (Some bytes) P Q holds = λ known. holds
