-- Calls that are judged one after another, and the order that comes of it.
use Rattle.std.proofs.Common.{◌≡◌, ℕ, suc, ◌+◌, ◌<◌, List, [], ◌∷◌, ◌++◌, length, get_or, take, drop, All, Some, refl, sym, ap, ◌∙◌, subst, arith}
use Rattle.std.proofs.lemmas.List.{length-take-le, take-append-drop, take_more}
use Rattle.std.proofs.Math.Seq.{drop-cons}
use Rattle.std.proofs.lemmas.List.Elements.{All-append, All-cons, All-nil}
use Rattle.tko_model.specs.Settings.{Settings}
use Rattle.tko_runs.specs.declared.checking.point.CheckedCall.{CheckedCall}
use Rattle.tko_runs.specs.declared.checking.order.Point.{Point}
use Rattle.tko_runs.specs.CheckStates.{AreJudged, AreKept, IsIllegalAt}
use Rattle.tko_runs.specs.Orders.{IsFirstIllegal, IsOrder}
use Rattle.tko_runs.specs.Effects.{IsCallKept, Judges}
use Rattle.tko_steps.specs.Legal.{IsLegal}
use Rattle.tko_steps.specs.Runs.{RunCall}
use Rattle.tko_runs.proofs.CallListLemmas.{length-AreKept}

-- Calls.

-- where what is kept splits, so do the calls
record IsSplit (s : Settings) (calls : List RunCall) (kept rest : List CheckedCall) : Type 0 where
  front : List RunCall
  back : List RunCall
  split : calls ≡ front ++ back
  kept_front : AreKept s front kept
  kept_back : AreKept s back rest

AreKept-split : (s : Settings) (calls : List RunCall) (kept rest : List CheckedCall) → AreKept s calls (kept ++ rest)
    → IsSplit s calls kept rest
AreKept-split s calls [] rest all =
    record { front = []; back = calls; split = refl; kept_front = tt; kept_back = all }
AreKept-split s [] (own ∷ kept) rest all = absurd all
AreKept-split s (call ∷ calls) (own ∷ kept) rest all =
    let is = AreKept-split s calls kept rest all.1 in
    record {
      front = call ∷ is.front;
      back = is.back;
      split = ap (λ others. call ∷ others) is.split;
      kept_front = (all.0, is.kept_front);
      kept_back = is.kept_back;
    }

IsOrder-append : (s : Settings) (calls others : List RunCall) (points rest : List Point) → IsOrder s calls points
    → IsOrder s others rest → IsOrder s (calls ++ others) (points ++ rest)
IsOrder-append s [] others [] rest all more = more
IsOrder-append s [] others (point ∷ points) rest all more = absurd all
IsOrder-append s (call ∷ calls) others [] rest all more = absurd all
IsOrder-append s (call ∷ calls) others (point ∷ points) rest all more =
    (all.0, IsOrder-append s calls others points rest all.1 more)

legal_one : (s : Settings) (back : List RunCall) (own : CheckedCall) (point : Point)
    → ((of : RunCall) → IsCallKept s of own → Judges s of (Some point)) → AreKept s back (own ∷ [])
    → All (IsLegal s) back × IsOrder s back (point ∷ [])
legal_one s [] own point judges all = absurd all
legal_one s (call ∷ []) own point judges all =
    let both = judges call all.0 in (All-cons (IsLegal s) call [] both.0 (All-nil (IsLegal s)), (both.1, tt))
legal_one s (call ∷ (other ∷ calls)) own point judges all = absurd all.1

legal_none : (s : Settings) (calls : List RunCall) → AreKept s calls [] → All (IsLegal s) calls
legal_none s [] all = All-nil (IsLegal s)
legal_none s (call ∷ calls) all = absurd all

order_none : (s : Settings) (calls : List RunCall) → AreKept s calls [] → IsOrder s calls []
order_none s [] all = tt
order_none s (call ∷ calls) all = absurd all

pub AreJudged-none : AreJudged [] []
AreJudged-none = record { legal = λ s calls all. legal_none s calls all; order = λ s calls all. order_none s calls all }

-- one more is judged
pub AreJudged-more : (kept : List CheckedCall) (points : List Point) (own : CheckedCall) (point : Point) → AreJudged kept points
    → ((s : Settings) (of : RunCall) → IsCallKept s of own → Judges s of (Some point))
    → AreJudged (kept ++ own ∷ []) (points ++ point ∷ [])
AreJudged-more kept points own point judged judges =
    record {
      legal = λ s calls all.
          let is = AreKept-split s calls kept (own ∷ []) all in
          let last = legal_one s is.back own point (judges s) is.kept_back in
          rw is.split (All-append (IsLegal s) is.front is.back (judged.legal s is.front is.kept_front) last.0);
      order = λ s calls all.
          let is = AreKept-split s calls kept (own ∷ []) all in
          let last = legal_one s is.back own point (judges s) is.kept_back in
          rw is.split (IsOrder-append s is.front is.back points (point ∷ []) (judged.order s is.front is.kept_front) last.1);
    }

first_illegal : (s : Settings) (calls front back : List RunCall) (own : CheckedCall) (rest : List CheckedCall) (number : ℕ)
    → calls ≡ front ++ back → AreKept s back (own ∷ rest) → ((of : RunCall) → IsCallKept s of own → IsLegal s of → ⊥)
    → All (IsLegal s) front → number ≡ length front + 1 → IsFirstIllegal s calls number
first_illegal s calls front [] own rest number split all judges legal place = absurd all
first_illegal s calls front (call ∷ back) own rest number split all judges legal place =
    record {
      before = front;
      illegal = call;
      after = back;
      split = split;
      place = place;
      others = legal;
      not_legal = judges call all.0;
    }

-- one isn't legal
pub IsIllegalAt-next : (kept : List CheckedCall) (points : List Point) (own : CheckedCall) (rest : List CheckedCall) (number : ℕ) → AreJudged kept points
    → number ≡ length kept + 1
    → ((s : Settings) (of : RunCall) → IsCallKept s of own → IsLegal s of → ⊥) → IsIllegalAt (kept ++ own ∷ rest) number
IsIllegalAt-next kept points own rest number judged place judges =
    record {
      first = λ s calls all.
          let is = AreKept-split s calls kept (own ∷ rest) all in
          let long = length-AreKept s is.front kept is.kept_front in
          first_illegal s calls is.front is.back own rest number is.split is.kept_back (judges s) (judged.legal s is.front is.kept_front)
          (omega (arith, long, place));
    }

-- The loop over the calls.

-- a list around the place of a loop
pub around : {X : Type 0} (xs : List X) (i : ℕ) (x : X) → i < length xs → x ≡ get_or xs i x → xs ≡ take i xs ++ x ∷ drop (suc i) xs
around xs i x inside is =
    sym (take-append-drop i xs)
    ∙ (ap (λ back. take i xs ++ back) (drop-cons xs i x inside) ∙ ap (λ y. take i xs ++ y ∷ drop (suc i) xs) (sym is))

pub AreJudged-step : (calls : List CheckedCall) (i : ℕ) (points now : List Point) (own : CheckedCall) (point : Point) → i < length calls
    → own ≡ get_or calls i own → AreJudged (take i calls) points
    → ((s : Settings) (of : RunCall) → IsCallKept s of own → Judges s of (Some point))
    → now ≡ points ++ point ∷ [] → AreJudged (take (i + 1) calls) now
AreJudged-step calls i points now own point inside is judged judges more =
    let front : take (i + 1) calls ≡ take i calls ++ own ∷ [] =
    take_more calls i own inside ∙ ap (λ y. take i calls ++ y ∷ []) (sym is) in
    rw (more, front) (AreJudged-more (take i calls) points own point judged judges)

pub IsIllegalAt-step : (calls : List CheckedCall) (i : ℕ) (points : List Point) (own : CheckedCall) (number : ℕ) → i < length calls
    → own ≡ get_or calls i own → AreJudged (take i calls) points → number ≡ i + 1
    → ((s : Settings) (of : RunCall) → IsCallKept s of own → IsLegal s of → ⊥) → IsIllegalAt calls number
IsIllegalAt-step calls i points own number inside is judged place judges =
    let P : List CheckedCall → Type 0 = λ list. IsIllegalAt list number in
    let front : length (take i calls) ≡ i = length-take-le i calls (omega arith) in
    subst P (sym (around calls i own inside is))
    (IsIllegalAt-next (take i calls) points own (drop (suc i) calls) number judged (omega (arith, front, place)) judges)
