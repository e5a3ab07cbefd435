-- Bytes that go out one after another.
use Rattle.std.proofs.Common.{◌≡◌, ℕ, Bool, true, false, List, [], ◌++◌, Option, Some, None, refl, ap, sym, subst, ◌∙◌, append_assoc, append-nil}
use Rattle.std.specs.List.{flat_map}
use Rattle.std.proofs.lemmas.List.{nil_from_length}
use Rattle.std.proofs.Common.{length}
use Rattle.inc_frame.specs.Frames.{end_bytes}
use Rattle.inc_frame.specs.Requests.{request_hello_bytes, request_stream, request_stream2}
use Rattle.inc_pending.specs.declared.pending_record.PendingRecord.{PendingRecord}
use Rattle.inc_loader.specs.Sent.{HasRequests, begun_requests, greeting_of, hello_of, request_of, requests_of, sent_after}

pub sent_all : (had : Option (List ℕ)) (rest : List ℕ) → length rest ≡ 0 → sent_after had rest ≡ had
sent_all had rest none = ap (sent_after had) (nil_from_length rest none) ∙ nothing had
  where
    nothing : (b : Option (List ℕ)) → sent_after b [] ≡ b
    nothing None = refl
    nothing (Some bytes) = ap (λ x. Some x) (append-nil bytes)

-- one after another
pub sent_twice : (had : Option (List ℕ)) (first second : List ℕ) → sent_after (sent_after had first) second ≡ sent_after had (first ++ second)
sent_twice None first second = refl
sent_twice (Some bytes) first second = ap (λ x. Some x) (append_assoc bytes first second)

whole_stream : (second : Bool) (told : List PendingRecord) → (hello_of second ++ flat_map (request_of second) told) ++ end_bytes ≡ requests_of second told
unfolding request_stream request_stream2 request_hello_bytes
whole_stream true told = append_assoc (hello_of true) (flat_map (request_of true) told) end_bytes
whole_stream false told = append_assoc (hello_of false) (flat_map (request_of false) told) end_bytes

and_the_end : (second greeted : Bool) (told : List PendingRecord) → (greeted ≡ false → told ≡ [])
    → begun_requests second greeted told ++ (greeting_of second greeted ++ end_bytes) ≡ requests_of second told
and_the_end second true told first = whole_stream second told
and_the_end second false told first =
    subst (λ (reads : List PendingRecord). begun_requests second false reads ++ (greeting_of second false ++ end_bytes) ≡ requests_of second reads)
    (sym (first refl)) (ap (λ (bytes : List ℕ). bytes ++ end_bytes) (sym (append-nil (hello_of second))) ∙ whole_stream second [])

-- the end, after the requests of all reads that were told
pub end_sent : (had before after : Option (List ℕ)) (second greeted : Bool) (told : List PendingRecord) → HasRequests had before second greeted told
    → after ≡ sent_after before (greeting_of second greeted ++ end_bytes) → after ≡ sent_after had (requests_of second told)
end_sent had before after second greeted told h is =
    is ∙ ap (λ (b : Option (List ℕ)). sent_after b (greeting_of second greeted ++ end_bytes)) h.sent_is
    ∙ sent_twice had (begun_requests second greeted told) (greeting_of second greeted ++ end_bytes)
    ∙ ap (sent_after had) (and_the_end second greeted told h.hello_first)

-- nothing is out before the first call
pub none_sent : (written : Option (List ℕ)) (second : Bool) → HasRequests written written second false []
none_sent written second = record { sent_is = sym (sent_all written [] refl); hello_first = λ e. refl }
