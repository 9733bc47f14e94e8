-- The walk over the clients.
use Rattle.std.proofs.Common.{◌≡◌, ◌≢◌, ◌<◌, ◌≤◌, ◌+◌, ℕ, List, length, refl, sym, ap, subst, ◌∙◌, inl, inr, arith, Option, Some, None}
use Rattle.std.specs.Prelude.{slice_get, slice_index_or, slice_set}
use Rattle.std.proofs.lemmas.Bool.{cases_lt, cond-false, cond-true, le-leb, lt-leb}
use Rattle.std.proofs.lemmas.Option.{slice_get-get_or}
use Rattle.tko_roster.specs.Rosters.{session_at}
use Rattle.tko_roster.proofs.SlotLemmas.{get_set_other, get_set_same}
use Rattle.tko_mux.specs.declared.client.Client.{Client}
use Rattle.tko_pace.specs.declared.client_time.ClientTime.{ClientTime}
use Rattle.tko_port.specs.declared.guest.Guest.{Guest}
use Rattle.tko_worker.specs.Workers.{OthersStay, Sight}
use Rattle.tko_loop.specs.Walks.{IsBoundLeft, IsSeenAt, IsSeenIf, bound_without, client_progress, progress_at, waiting_at, waiting_below}
use native.Mathlib.Numerals.{unary_clauses}

-- the bytes of one number more
below_next : {L T : Type 0} (sight : Sight L T) (slots : List (Option (Client (Guest L T))))
    (number : ℕ) → waiting_below sight slots (number + 1)
    ≡ waiting_below sight slots number + waiting_at sight slots number
below_next sight slots number = simp unary_clauses refl

-- what is left of a bound once more bytes wait
left_more : (bound total waiting : ℕ) (left : Option ℕ) → IsBoundLeft bound total left
    → IsBoundLeft bound (total + waiting) (bound_without left waiting)
left_more bound total waiting None passed = omega arith
left_more bound total waiting (Some left) is = elim (cases_lt left waiting) [
  | inl less ↦ subst (IsBoundLeft bound (total + waiting))
      (sym (cond-false _ _ _ (lt-leb waiting left less))) (omega arith)
  | inr most ↦ subst (IsBoundLeft bound (total + waiting))
      (sym (cond-true _ _ _ (le-leb waiting left most))) (omega arith)
]

pub left_next : {L T : Type 0} (sight : Sight L T) (slots : List (Option (Client (Guest L T))))
    (number bound : ℕ) (left : Option ℕ)
    → IsBoundLeft bound (waiting_below sight slots number) left
    → IsBoundLeft bound (waiting_below sight slots (number + 1))
    (bound_without left (waiting_at sight slots number))
left_next sight slots number bound left is =
    subst (λ total. IsBoundLeft bound total (bound_without left (waiting_at sight slots number)))
    (sym (below_next sight slots number)) (left_more bound _ _ left is)

-- one that has as many as those before, and as many as the next
pub most_next : (f : ℕ → ℕ) (number most next : ℕ)
    → ((other : ℕ) → other < number → f other ≤ f most) → f most ≤ f next → f number ≤ f next
    → (other : ℕ) → other < number + 1 → f other ≤ f next
most_next f number most next before one two other below = elim (cases_lt other number) [
  | inl less ↦ (let at : f other ≤ f most = before other less in omega arith)
  | inr more ↦ (let same : number ≡ other = omega arith in subst (λ n. f n ≤ f next) same two)
]

-- those that were looked at, once one more was
pub walked_next : {L T : Type 0} (sight : Sight L T) (now idle count : ℕ)
    (first times : List ClientTime) (time after : ClientTime)
    (old one two : List (Option (Client (Guest L T))))
    → count < length times → time ≡ slice_index_or times count time
    → ((n : ℕ) → n < count → IsSeenAt sight now idle n first old times one)
    → ((n : ℕ) → count ≤ n → slice_get times n ≡ slice_get first n)
    → ((n : ℕ) → count ≤ n → session_at one n ≡ session_at old n)
    → IsSeenIf now idle (progress_at sight one count) time (session_at one count) after
    (session_at two count)
    → OthersStay count one two
    → (n : ℕ) → n < count + 1
    → IsSeenAt sight now idle n first old (slice_set times count after) two
walked_next sight now idle count first times time after old one two below value seen times_left
    clients_left seen_now others n next = elim (cases_lt n count) [
      | inl less ↦ (
          let it = seen n less in
          let apart : n ≢ count = λ same. (let f : ⊥ = omega arith in f) in
          record {
            before = it.before;
            later = it.later;
            was = it.was;
            is = get_set_other times count n after apart ∙ it.is;
            seen = subst (λ s. IsSeenIf now idle (progress_at sight old n) it.before
                (session_at old n) it.later s) (sym (others n apart)) it.seen;
          })
      | inr more ↦ (
          let same : count ≡ n = omega arith in
          let least : count ≤ count = omega arith in
          let at : slice_get times count ≡ Some time =
          slice_get-get_or times count time below ∙ ap Some (sym value) in
          subst (λ k. IsSeenAt sight now idle k first old (slice_set times count after) two) same
          (record {
            before = time;
            later = after;
            was = sym (times_left count least) ∙ at;
            is = get_set_same times count after below;
            seen = subst (λ s. IsSeenIf now idle (client_progress sight s) time s after
                (session_at two count)) (clients_left count least) seen_now;
          }))
    ]

pub times_next : (count : ℕ) (first times : List ClientTime) (after : ClientTime)
    → ((n : ℕ) → count ≤ n → slice_get times n ≡ slice_get first n)
    → (n : ℕ) → count + 1 ≤ n → slice_get (slice_set times count after) n ≡ slice_get first n
times_next count first times after left n most =
    let apart : n ≢ count = λ same. (let f : ⊥ = omega arith in f) in
    let least : count ≤ n = omega arith in
    get_set_other times count n after apart ∙ left n least

pub clients_next : {L T : Type 0} (count : ℕ) (old one two : List (Option (Client (Guest L T))))
    → ((n : ℕ) → count ≤ n → session_at one n ≡ session_at old n) → OthersStay count one two
    → (n : ℕ) → count + 1 ≤ n → session_at two n ≡ session_at old n
clients_next count old one two left others n most =
    let apart : n ≢ count = λ same. (let f : ⊥ = omega arith in f) in
    let least : count ≤ n = omega arith in
    others n apart ∙ left n least
