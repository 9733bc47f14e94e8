-- What the acts of a roster mean, number by number.
use Rattle.std.proofs.Common.{◌≡◌, ◌≢◌, ℕ, List, [], ◌∷◌, Bool, true, false, sym, ap, subst, inl, inr}
use Rattle.std.proofs.lemmas.Bool.Decides.{eqb_tells}
use Rattle.tko_model.specs.Records.{Gains, Lead}
use Rattle.tko_roster.specs.Tagged.{Tagged, own, own_or}
use Rattle.tko_roster.specs.Rosters.{Acted, Acting, Admitted, IsActOf, IsOwnAct, IsRosterStep, IsServed, IsSharedAct, Released, RosterAct, RosterState, session_at}

-- what an act does to its number, and that it leaves the others
record IsAlone {S P A : Type 0} (acts : Acting S P A) (awaited : S → List ℕ)
    (old : RosterState S P) (number : ℕ) (it : RosterAct S A) (new : RosterState S P) : Type 0
  where
    mine : IsOwnAct acts awaited (session_at old.slots number) it (session_at new.slots number)
    others : (other : ℕ) → other ≢ number → session_at new.slots other ≡ session_at old.slots other
    shared : IsSharedAct acts old.parts (record { number = number; item = it }) new.parts

is_alone : {S P A : Type 0} (acts : Acting S P A) (awaited : S → List ℕ)
    (old : RosterState S P) (number : ℕ) (it : RosterAct S A) (new : RosterState S P)
    → IsActOf acts awaited old number it new → IsAlone acts awaited old number it new
is_alone acts awaited old number (Admitted session) new step = record {
  mine = (step.moved.before, step.moved.after);
  others = step.moved.others;
  shared = step.parts;
}
is_alone acts awaited old number (Acted call) new step = record {
  mine = record {
    was = step.was;
    now = step.now;
    before = old.parts;
    after = new.parts;
    from = step.moved.before;
    to = step.moved.after;
    made = step.made;
  };
  others = step.moved.others;
  shared = record { was = step.was; now = step.now; made = step.made };
}
is_alone acts awaited old number (Released session) new step = record {
  mine = (step.idle, step.moved.before, step.moved.after);
  others = step.moved.others;
  shared = step.parts;
}

-- the acts of a number lead from its session as it was to what it is
own_lead : {S P A : Type 0} (acts : Acting S P A) (awaited : S → List ℕ)
    (old new : RosterState S P) (items : List (Tagged (RosterAct S A))) (number : ℕ)
    → Lead (IsRosterStep acts awaited) old items new
    → Lead (IsOwnAct acts awaited) (session_at old.slots number) (own number items)
    (session_at new.slots number)
unfolding own
own_lead acts awaited old new [] number e = ap (λ r. session_at r.slots number) e
own_lead {S} {P} {A} acts awaited old new (it ∷ items) number (mid, first, rest) =
    let alone = is_alone acts awaited old it.number it.item mid first in
    let later : Lead (IsOwnAct acts awaited) (session_at mid.slots number) (own number items)
    (session_at new.slots number) =
    own_lead acts awaited mid new items number rest in
    let Is : Bool → Type 0 = λ b. Lead (IsOwnAct acts awaited) (session_at old.slots number)
    (own_or b it.item (own number items)) (session_at new.slots number) in
    elim (eqb_tells it.number number) [
      | inl eq ↦
          let mine : IsOwnAct acts awaited (session_at old.slots number) it.item
          (session_at mid.slots number) =
          subst (λ n. IsOwnAct acts awaited (session_at old.slots n) it.item
          (session_at mid.slots n)) eq.1 alone.mine in
          let here : Is true = (session_at mid.slots number, mine, later) in
          subst Is (sym eq.0) here
      | inr ne ↦
          let same : session_at mid.slots number ≡ session_at old.slots number =
          alone.others number (λ e. ne.1 (sym e)) in
          let there : Is false = subst (λ s. Lead (IsOwnAct acts awaited) s (own number items)
          (session_at new.slots number)) same later in
          subst Is (sym ne.0) there
    ]

-- all acts lead from the parts as they were to what they are
shared_lead : {S P A : Type 0} (acts : Acting S P A) (awaited : S → List ℕ)
    (old new : RosterState S P) (items : List (Tagged (RosterAct S A)))
    → Lead (IsRosterStep acts awaited) old items new
    → Lead (IsSharedAct acts) old.parts items new.parts
shared_lead acts awaited old new [] e = ap (λ r. r.parts) e
shared_lead acts awaited old new (it ∷ items) (mid, first, rest) =
    let alone = is_alone acts awaited old it.number it.item mid first in
    (mid.parts, alone.shared, shared_lead acts awaited mid new items rest)

pub serves : {S P A : Type 0} (acts : Acting S P A) (awaited : S → List ℕ)
    (old : RosterState S P) (items : List (Tagged (RosterAct S A))) (new : RosterState S P)
    → Gains (IsRosterStep acts awaited) old items new → IsServed acts awaited old items new
serves acts awaited old items new gains = record {
  shared = record { leads = shared_lead acts awaited old new items gains.leads };
  each = λ number.
      record { leads = own_lead acts awaited old new items number gains.leads };
}
