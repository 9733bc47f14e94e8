-- Laws of trails, and of the calls that make them.
use Rattle.std.proofs.Common.{◌≡◌, ℕ, suc, ◌+◌, ◌-◌, true, cond, List, [], ◌∷◌, ◌++◌, length, None, Some, refl, ap, sym, subst, arith, ◌∙◌, zero-add}
use Rattle.std.specs.Prelude.{sum_by}
use Rattle.std.proofs.lemmas.Grind.{common_steps}
use Rattle.std.proofs.lemmas.List.Sums.{sum_by-append}
use Rattle.tko_model.specs.Records.{Gains, Lead}
use Rattle.tko_model.proofs.RecordLemmas.{gains_none, gains_push}
use Rattle.tko_model.specs.declared.mark.Op.{Op}
use Rattle.tko_text.specs.declared.request.Request.{Request}
use Rattle.tko_links.specs.declared.links.Outcome.{Outcome}
use Rattle.tko_links.specs.declared.links.Outcome.TheVariants as outcome
use Rattle.tko_links.specs.Links.{is_sent, part_of}
use Rattle.tko_route.specs.declared.attempt.Attempt.{Attempt}
use Rattle.tko_route.specs.declared.attempt.Attempt.TheVariants as attempt
use Rattle.tko_route.specs.Calls.{RoutedCall, sends_of}
use Rattle.tko_route.specs.Trail.{AddsAttempt, IsAttempt, MakesTrail, Placed, form_at, is_send, op_of, placed_from, sends_in}

none_is_some : {op : Op} → None ≡ Some op → ⊥
none_is_some e = cc

-- a request in the form of the place after those of a trail
pub prepared : (exptime : ℕ) {place count : ℕ} (request : Request) {before after : Request}
    → ((r : Request) → before ≡ form_at exptime r (place - 1) → after ≡ form_at exptime r place)
    → place ≡ count → before ≡ form_at exptime request (count - 1) → after ≡ form_at exptime request count
prepared exptime request {before} {after} step e is =
    let P : ℕ → Type 0 = λ n. before ≡ form_at exptime request (n - 1) in
    let Q : ℕ → Type 0 = λ n. after ≡ form_at exptime request n in
    subst Q e (step request (subst P (sym e) is))

abbrev placed : ℕ → Attempt → Placed
placed place it = record { place = place; attempt = it }

-- one more attempt is at the place after those before
placed_push : (place last : ℕ) (trail : List Attempt) (it : Attempt) → place + length trail ≡ last
    → placed_from place (trail ++ it ∷ []) ≡ placed_from place trail ++ placed last it ∷ []
placed_push place last [] it e = let same : place ≡ last = omega (arith, e) in ap (λ n. placed n it ∷ []) same
placed_push place last (first ∷ trail) it e =
    let same : suc place + length trail ≡ last = omega (arith, e) in
    ap (λ items. placed place first ∷ items) (placed_push (suc place) last trail it same)

-- as many attempts as before, but for the last
pub count_pushed : (all trail : List Attempt) (it : Attempt) → all ≡ trail ++ it ∷ []
    → length trail ≡ length all - 1
count_pushed all trail it e = grind (arith, common_steps)

-- without an attempt there are no calls
pub makes_none : {form : ℕ → Request} {trail : List Attempt} → trail ≡ [] → MakesTrail form [] trail
makes_none e = rw e (record { adds = gains_none [] })

-- one more attempt adds its calls
pub makes_pushed : {form : ℕ → Request} {calls all_calls : List RoutedCall} {trail all : List Attempt}
    (it : Attempt) (more : List RoutedCall) → MakesTrail form calls trail → IsAttempt (form (length trail)) more it
    → all_calls ≡ calls ++ more → all ≡ trail ++ it ∷ [] → MakesTrail form all_calls all
makes_pushed {form} {calls} {all_calls} {trail} it more make last grown pushed =
    let first : 0 + length trail ≡ length trail = omega arith in
    let Q : List Placed → Type 0 = λ items. Gains (AddsAttempt form) [] items (calls ++ more) in
    rw (grown, pushed) (record {
      adds = subst Q (sym (placed_push 0 (length trail) trail it first)) (gains_push make.adds (more, last, refl));
    })

-- an exchange whose outcome is recorded sent its request
sends_by_outcome : (got : Outcome) (op : Op) (server s : ℕ) → op_of got ≡ Some op
    → part_of true server s ≡ part_of (is_sent got) server s
sends_by_outcome (outcome.Reply response) op server s is = refl
sends_by_outcome outcome.Timeout op server s is = refl
sends_by_outcome outcome.Refused op server s is = refl
sends_by_outcome outcome.Broken op server s is = refl
sends_by_outcome outcome.Aborted op server s is = refl
sends_by_outcome outcome.Spent op server s is = absurd (none_is_some is)

-- the calls of an attempt sent to a server as often as the attempt did
sends_by_attempt : (s : ℕ) (request : Request) (calls : List RoutedCall) (it : Attempt) → IsAttempt request calls it
    → sum_by (sends_of s) calls ≡ sends_in s (it ∷ [])
sends_by_attempt s request calls (attempt.Skipped server mark) is = ap (sum_by (sends_of s)) is
sends_by_attempt s request calls (attempt.Sent server got answer) (count, op, known, is) =
    let total : sum_by (sends_of s) calls ≡ (0 + 0) + part_of (is_sent got) server s + 0 = ap (sum_by (sends_of s)) is in
    let one : sends_in s (attempt.Sent server got answer ∷ []) ≡ part_of true server s = zero-add (part_of true server s) in
    omega (arith, total, one, sends_by_outcome got op server s known)
sends_by_attempt s request calls (attempt.Aborted server) (count, is) =
    let total : sum_by (sends_of s) calls ≡ (0 + 0) + part_of true server s = ap (sum_by (sends_of s)) is in
    let one : sends_in s (attempt.Aborted server ∷ []) ≡ part_of true server s = zero-add (part_of true server s) in
    omega (arith, total, one)
sends_by_attempt s request calls (attempt.Spent server) (count, is) = ap (sum_by (sends_of s)) is

sends_by_lead : (form : ℕ → Request) (s place : ℕ) (trail : List Attempt) (before after : List RoutedCall)
    → Lead (AddsAttempt form) before (placed_from place trail) after
    → sum_by (sends_of s) after ≡ sum_by (sends_of s) before + sends_in s trail
sends_by_lead form s place [] before after e =
    let same : sum_by (sends_of s) after ≡ sum_by (sends_of s) before = ap (sum_by (sends_of s)) e in omega (arith, same)
sends_by_lead form s place (it ∷ trail) before after (mid, (calls, is, grown), rest) =
    let first : sum_by (sends_of s) mid ≡ sum_by (sends_of s) before + sum_by (sends_of s) calls =
    ap (sum_by (sends_of s)) grown ∙ sum_by-append (sends_of s) before calls in
    let split : sends_in s (it ∷ trail) ≡ sends_in s (it ∷ []) + sends_in s trail =
    sum_by-append (λ x. cond (is_send s x) 1 0) (it ∷ []) trail in
    omega (arith, first, split, sends_by_attempt s (form place) calls it is, sends_by_lead form s (suc place) trail mid after rest)

-- the calls of a trail sent to a server as often as the trail did
pub sends_by_trail : {form : ℕ → Request} {calls : List RoutedCall} {trail : List Attempt} (s : ℕ)
    → MakesTrail form calls trail → sum_by (sends_of s) calls ≡ sends_in s trail
sends_by_trail {form} {calls} {trail} s make =
    let all : sum_by (sends_of s) calls ≡ 0 + sends_in s trail = sends_by_lead form s 0 trail [] calls make.adds.leads in
    omega (arith, all)

-- one more, without it
pub count_less : {many some : ℕ} → many ≡ some + 1 → some ≡ many - 1
count_less e = omega (arith, e)
