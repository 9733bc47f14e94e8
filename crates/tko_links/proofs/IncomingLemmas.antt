-- What of a response that comes in pieces is known after each.
use Rattle.std.proofs.Common.{◌≡◌, ℕ, ◌+◌, ◌-◌, ◌<◌, ◌≤◌, ◌⊎◌, List, [], ◌∷◌, ◌++◌, length, take, drop, refl, ap, sym, ◌∙◌, subst, inl, inr, arith, append_assoc, append-nil, length-append, Err}
use Rattle.std.proofs.lemmas.List.{drop_at, take-append-le, take-take}
use Rattle.std.proofs.Math.Seq.{take-append-add}
use Rattle.tko_bytes.specs.Lines.{HasNoEnd}
use Rattle.tko_text.specs.declared.request.Request.{Request}
use Rattle.tko_text.specs.declared.response.fault.ReadFault.TheVariants as read_fault
use Rattle.tko_text.specs.ResponseLengths.{IsLeastLength}
use Rattle.tko_text.specs.ResponseReads.{NoResponse, ReadsResponse}
use Rattle.tko_text.proofs.ResponseLengthLemmas.{least_more, least_none, no_response_more, no_response_none, no_response_short}
use Rattle.tko_links.specs.Incoming.{HasPieceCome, IsResponseAwaited, ResponseSoFar, nothing_yet}

-- before the first byte the response is awaited
pub awaited_at_first : (request : Request) → IsResponseAwaited request nothing_yet
awaited_at_first request = record { unanswered = no_response_none request; least = least_none request [] }

nothing_long : (xs : List ℕ) → length xs ≡ 0 → xs ≡ []
nothing_long [] e = refl
nothing_long (x ∷ xs) e = absurd (omega (arith, e))

-- at the end of input no front is a response
pub ended_unanswered : (request : Request) (at : ResponseSoFar) (count : ℕ) → HasPieceCome request at count → count ≡ 0
    → NoResponse request at.bytes
ended_unanswered request at count come none =
    let same : at.bytes ≡ come.front = come.whole ∙ ap (λ xs. come.front ++ xs) (nothing_long come.piece (come.len ∙ none)) ∙ append-nil come.front in
    subst (λ xs. NoResponse request xs) (sym same) come.awaited.unanswered

-- the piece that came last
last_piece : (request : Request) (at : ResponseSoFar) (count : ℕ) (come : HasPieceCome request at count)
    → drop (length at.bytes - count) at.bytes ≡ come.piece
last_piece request at count come =
    let size = ap length come.whole ∙ length-append come.front come.piece in
    ap (λ xs. drop (length at.bytes - count) xs) come.whole
    ∙ drop_at come.front come.piece (length at.bytes - count) (omega (arith, size, come.len))

-- where no look is due, the response is still awaited
pub still_awaited : (request : Request) (at : ResponseSoFar) (count : ℕ) → HasPieceCome request at count
    → (length at.bytes < at.least) ⊎ HasNoEnd (drop (length at.bytes - count) at.bytes) → IsResponseAwaited request at
still_awaited request at count come reason = record {
  unanswered = subst (λ xs. NoResponse request xs) (sym come.whole) (elim reason [
    | inl few ↦ no_response_short request come.front come.piece at.least come.awaited.least
        (subst (λ xs. length xs < at.least) come.whole few)
    | inr text ↦ no_response_more request come.front come.piece come.awaited.unanswered
        (subst (λ xs. HasNoEnd xs) (last_piece request at count come) text)
  ]);
  least = subst (λ xs. IsLeastLength request xs at.least) (sym come.whole)
      (least_more request come.front come.piece at.least come.awaited.least);
}

-- after a look that found the beginning of a response
pub awaited_after_look : (request : Request) (bytes : List ℕ) (least : ℕ) → ReadsResponse request bytes (Err read_fault.Short)
    → IsLeastLength request bytes least → IsResponseAwaited request (record { bytes = bytes; least = least })
unfolding ReadsResponse
awaited_after_look request bytes least short is = record { unanswered = short.1; least = is }

-- the filled part of a buffer after a read into the room that follows it
pub filled_more : (front buffer post tail : List ℕ) (filled count n : ℕ) → length front ≡ filled → count ≤ length buffer → filled + count ≤ n
    → take (filled + count) (take n (front ++ (buffer ++ post) ++ tail)) ≡ front ++ take count buffer
filled_more front buffer post tail filled count n len within room =
    let parts : front ++ (buffer ++ post) ++ tail ≡ front ++ (buffer ++ (post ++ tail)) =
    append_assoc front (buffer ++ post) tail ∙ ap (λ xs. front ++ xs) (append_assoc buffer post tail) in
    take-take (filled + count) n (front ++ (buffer ++ post) ++ tail) room
    ∙ ap (take (filled + count)) parts
    ∙ ap (λ k. take (k + count) (front ++ (buffer ++ (post ++ tail)))) (sym len)
    ∙ take-append-add front (buffer ++ (post ++ tail)) count
    ∙ ap (λ xs. front ++ xs) (take-append-le count buffer (post ++ tail) within)
