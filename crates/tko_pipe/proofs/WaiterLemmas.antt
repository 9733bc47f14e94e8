-- Searches through those that wait, and a change at a place.
use Rattle.std.proofs.Common.{◌≡◌, ◌≢◌, ℕ, ◌+◌, ◌-◌, ◌<◌, ◌≤◌, inl, inr, true, false, List, ◌∷◌, ◌++◌, sym, ap, subst, ◌∙◌, length, arith, drop, nat_le, slice_set, slice_index_or}
use Rattle.std.specs.List.{AllWithin}
use Rattle.std.proofs.lemmas.Bool.{cases_Bool, leb-false, leb-true}
use Rattle.std.proofs.lemmas.List.{get_or-drop, get_or-take, get_or_at, length-drop, length-take, set_at}
use Rattle.std.proofs.lemmas.Option.{slice_get_past}
use Rattle.tko_pipe.specs.declared.waiter.Asker.{Asker}
use Rattle.tko_pipe.specs.declared.waiter.Asker.TheVariants.{Client}
use Rattle.tko_pipe.specs.declared.waiter.Waiter.{Waiter}
use Rattle.tko_pipe.specs.Giving.{AreHere, AskedOnce, IsBehindGone, IsDueAlone}
use Rattle.tko_pipe.specs.Waiters.{gone, has_gone}

-- none of those before a place asked as this one
pub alone_before : (waiters : List Waiter) (place seen : ℕ) (by : Asker) → place ≤ seen
    → AllWithin (λ it. it.by ≢ by) waiters 0 seen → AskedOnce waiters place by
alone_before waiters place seen by within none k d less =
    let before : k < place = omega (arith, less, length-take place waiters) in
    subst (λ (it : Waiter). it.by ≢ by) (sym (get_or-take place waiters k d before))
    (none k d (omega arith) (omega (arith, before, within)))

-- from a place on none gave up
here_from : (waiters : List Waiter) (place from : ℕ) → place ≤ from
    → AllWithin (λ it. has_gone it.by ≡ false) waiters place (length waiters)
    → AreHere (drop from waiters)
here_from waiters place from within here k d less =
    let at_end : from + k < length waiters = omega (arith, less, length-drop from waiters) in
    subst (λ (it : Waiter). has_gone it.by ≡ false) (sym (get_or-drop from waiters k d))
    (here (from + k) d (omega (arith, within)) at_end)

-- the last one that gave up
pub behind_found : (waiters : List Waiter) (place after : ℕ) (found : Waiter)
    → place < length waiters → after ≤ place + 1
    → found ≡ slice_index_or waiters place found → has_gone found.by ≡ true
    → AllWithin (λ it. has_gone it.by ≡ false) waiters after (length waiters)
    → IsBehindGone waiters (place + 1)
behind_found waiters place after found within near at_place is_gone here = record {
  behind = omega arith;
  here = here_from waiters after (place + 1) near here;
  first = λ other some others_here. elim (cases_Bool (nat_le (place + 1) other)) [
    | inl most ↦ leb-true (place + 1) other most
    | inr less ↦
        let before : other < place + 1 = leb-false (place + 1) other less in
        let sum : other + (place - other) ≡ place = omega (arith, before) in
        let is_here = others_here (place - other) found
        (omega (arith, before, within, length-drop other waiters)) in
        let same : slice_index_or (drop other waiters) (place - other) found ≡ found =
        get_or-drop other waiters (place - other) found
        ∙ ap (λ n. slice_index_or waiters n found) sum ∙ sym at_place in
        let stays : has_gone found.by ≡ false =
        subst (λ (it : Waiter). has_gone it.by ≡ false) same is_here in
        absurd (let e = sym is_gone ∙ stays in cc)
  ];
}

-- none behind the front gave up
pub behind_none : (waiters : List Waiter) (place : ℕ) → place ≤ 1
    → AllWithin (λ it. has_gone it.by ≡ false) waiters place (length waiters)
    → IsBehindGone waiters 1
behind_none waiters place within here = record {
  behind = omega arith;
  here = here_from waiters place 1 within here;
  first = λ other some others_here. omega (arith, some);
}

-- one that can is a place
pub due_within : (waiters : List Waiter) (now place : ℕ) → IsDueAlone waiters now place
    → place < length waiters
due_within waiters now place is = elim (cases_Bool (nat_le (length waiters) place)) [
  | inl past ↦
      absurd (let e = sym is.at ∙ slice_get_past waiters place (leb-true (length waiters) place past)
      in cc)
  | inr within ↦ leb-false (length waiters) place within
]

-- none is behind the last place
pub none_due : (waiters : List Waiter) (now from seen : ℕ) → length waiters ≤ seen
    → ((k : ℕ) → from ≤ k → k < seen → IsDueAlone waiters now k → ⊥)
    → (place : ℕ) → from ≤ place → IsDueAlone waiters now place → ⊥
none_due waiters now from seen all before place low is =
    before place low (omega (arith, all, due_within waiters now place is)) is

pub changed_at : (waiters : List Waiter) (place seen : ℕ) (found moved : Waiter)
    → found ≡ slice_index_or waiters place found → found.by ≡ Client seen → moved ≡ gone seen found
    → (before after : List Waiter) (waiter : Waiter) → waiters ≡ before ++ waiter ∷ after
    → length before ≡ place → (number : ℕ) → waiter.by ≡ Client number
    → slice_set waiters place moved ≡ before ++ gone number waiter ∷ after
changed_at waiters place seen found moved at_place is_client is_moved before after waiter is len
    number waiter_is =
    let same : found ≡ waiter =
    at_place ∙ ap (λ (w : List Waiter). slice_index_or w place found) is
    ∙ get_or_at before waiter after found place len in
    let clients : Client seen ≡ Client number =
    sym is_client ∙ ap (λ (w : Waiter). w.by) same ∙ waiter_is in
    let numbers : seen ≡ number = let e = clients in cc in
    ap (λ (w : List Waiter). slice_set w place moved) is
    ∙ set_at before waiter after moved place len
    ∙ ap (λ (w : Waiter). before ++ w ∷ after)
    (is_moved ∙ ap (λ n. gone n found) numbers ∙ ap (gone number) same)
