-- Many clients on one thread: each has a life of its own acts.
use Rattle.std.proofs.Common.{◌≡◌, ℕ, Bool, true, false, List, [], ◌∷◌, ◌++◌, All, Option, Some}
use Rattle.std.proofs.Common.{None, map, refl, sym, ap, subst, ◌∙◌, append_assoc, append-nil, inl}
use Rattle.std.proofs.Common.{inr}
use Rattle.std.specs.Prelude.{flat_map}
use Rattle.std.proofs.lemmas.Bool.Decides.{eqb_tells}
use Rattle.std.proofs.lemmas.Grind.{flat_map-append}
use Rattle.std.proofs.lemmas.List.{map-append}
use Rattle.std.proofs.lemmas.List.Elements.{All-cons, All-head, All-nil, All-tail}
use Rattle.tko_model.specs.Records.{Gains, Lead}
use Rattle.tko_model.proofs.RecordLemmas.{gains_append}
use Rattle.tko_pools.specs.Configs.{Configuration}
use Rattle.tko_roster.specs.Rosters.{Acted, Admitted, IsOwnAct, IsRosterStep, IsSharedAct}
use Rattle.tko_roster.specs.Rosters.{IsSharedActOf, Released, RosterAct, RosterState, nobody}
use Rattle.tko_roster.specs.Tagged.{Tagged, own, own_or}
use Rattle.tko_roster.proofs.RosterLemmas.{serves}
use Rattle.tko_reply.specs.Ghosts.{PartsGhosts}
use Rattle.tko_reply.specs.Interactions.{Interacts}
use Rattle.tko_reply.specs.declared.parts.Parts.{Parts}
use Rattle.tko_reply.proofs.InteractionLemmas.{performs}
use Rattle.tko_keys.specs.declared.plan.KeyPlan.{KeyPlan}
use Rattle.tko_session.specs.Clients.{ClientState, IsClient, Life, life_of, lived, new_client}
use Rattle.tko_session.specs.ManyClients.{ActsOn, AreNew, AreServed, IsNewIn, IsLifeOf, done_by}
use Rattle.tko_session.specs.ManyClients.{done_in}
use Rattle.tko_session.proofs.ActLemmas.{acted, same_life}
use Rattle.tko_session.proofs.LifeLemmas.{begins}

flat_push : {A B : Type 0} (f : A → List B) (xs : List A) (last : A)
    → flat_map f (xs ++ last ∷ []) ≡ flat_map f xs ++ f last
flat_push f xs last =
    flat_map-append f xs (last ∷ []) ∙ ap (λ ys. flat_map f xs ++ ys) (append-nil (f last))

-- one more act
lives_push : (lives : List Life) (adds : Life)
    → life_of (lives ++ adds ∷ []) ≡ lived (life_of lives) adds
lives_push lives adds =
    same_life (flat_push (λ it. it.bytes) lives adds) (flat_push (λ it. it.sent) lives adds)
    (flat_push (λ it. it.done) lives adds)

-- what is so of all acts is so of those of a number
own_all : {A : Type 0} (P : A → Type 0) (acts : List (Tagged A)) (number : ℕ)
    → All (λ it. P it.item) acts → All P (own number acts)
unfolding own
own_all P [] number all = All-nil P
own_all {A} P (it ∷ acts) number all =
    let here : P it.item = All-head (λ (it : Tagged A). P it.item) it acts all in
    let later : All P (own number acts) =
    own_all P acts number (All-tail (λ (it : Tagged A). P it.item) it acts all) in
    let Is : Bool → Type 0 = λ b. All P (own_or b it.item (own number acts)) in
    elim (eqb_tells it.number number) [
      | inl eq ↦ let mine : Is true = All-cons P it.item (own number acts) here later in
          subst Is (sym eq.0) mine
      | inr ne ↦ let other : Is false = later in subst Is (sym ne.0) other
    ]

-- a client has a life of these acts, if there is one
abbrev Has : KeyPlan → Configuration → Option ClientState → List (RosterAct ClientState Life)
    → Type 0
Has plan config None acts = Unit {0}
Has plan config (Some one) acts = IsLifeOf plan config acts one

module _ {H L T C : Type 0} (ghosts : PartsGhosts H L T C) (plan : KeyPlan) (config : Configuration)
    (awaited : ClientState → List ℕ) where
  -- one act more
  has_more : (before : List (RosterAct ClientState Life)) (it : RosterAct ClientState Life)
      (was now : Option ClientState) → IsNewIn plan it → Has plan config was before
      → IsOwnAct (ActsOn ghosts config) awaited was it now → Has plan config now (before ++ it ∷ [])
  has_more before (Admitted one) was now is has (none, some) =
      let first : IsLifeOf plan config (before ++ Admitted one ∷ []) (new_client plan) =
      record {
        before = before;
        lives = [];
        are = ap (λ c. before ++ Admitted c ∷ []) is;
        is = begins plan config;
      } in
      subst (λ s. Has plan config s (before ++ Admitted one ∷ [])) (sym some)
      (subst (λ c. Has plan config (Some c) (before ++ Admitted one ∷ [])) (sym is) first)
  has_more before (Acted adds) was now is has call =
      let old : IsLifeOf plan config before call.was =
      subst (λ s. Has plan config s before) call.from has in
      let more : IsLifeOf plan config (before ++ Acted adds ∷ []) call.now = record {
        before = old.before;
        lives = old.lives ++ adds ∷ [];
        are =
            ap (λ xs. xs ++ Acted adds ∷ []) old.are ∙ append_assoc old.before
            (Admitted (new_client plan) ∷ map Acted old.lives) (Acted adds ∷ [])
            ∙ ap (λ xs. old.before ++ Admitted (new_client plan) ∷ xs)
            (sym (map-append Acted old.lives (adds ∷ [])));
        is =
            subst (λ l. IsClient config l call.now) (sym (lives_push old.lives adds))
            (acted config (life_of old.lives) call.was adds call.now old.is call.made.0);
      } in
      subst (λ s. Has plan config s (before ++ Acted adds ∷ [])) (sym call.to) more
  has_more before (Released one) was now is has (idle, some, none) =
      subst (λ s. Has plan config s (before ++ Released one ∷ [])) (sym none) tt

  has_all : (before acts : List (RosterAct ClientState Life)) (was now : Option ClientState)
      → All (IsNewIn plan) acts → Has plan config was before
      → Lead (IsOwnAct (ActsOn ghosts config) awaited) was acts now
      → Has plan config now (before ++ acts)
  has_all before [] was now new has same =
      subst (λ xs. Has plan config now xs) (sym (append-nil before))
      (subst (λ s. Has plan config s before) (sym same) has)
  has_all before (it ∷ acts) was now new has (mid, step, rest) =
      let here = has_more before it was mid (All-head (IsNewIn plan) it acts new) has step in
      subst (Has plan config now) (append_assoc before (it ∷ []) acts)
      (has_all (before ++ it ∷ []) acts mid now (All-tail (IsNewIn plan) it acts new) here rest)

  act_done : (old : Parts H L T C) (it : RosterAct ClientState Life) (new : Parts H L T C)
      → IsSharedActOf (ActsOn ghosts config) old it new
      → Gains (Interacts ghosts) old (done_by it) new
  act_done old (Admitted one) new same = record { leads = same }
  act_done old (Acted adds) new call = call.made.1
  act_done old (Released one) new same = record { leads = same }

  -- what was done in the acts was done to the parts
  all_done : (old : Parts H L T C) (acts : List (Tagged (RosterAct ClientState Life)))
      (new : Parts H L T C) → Lead (IsSharedAct (ActsOn ghosts config)) old acts new
      → Gains (Interacts ghosts) old (done_in acts) new
  all_done old [] new same = record { leads = same }
  all_done old (it ∷ acts) new (mid, step, rest) =
      gains_append (act_done old it.item mid step) (all_done mid acts new rest)

pub many_served : {H L T C : Type 0} (ghosts : PartsGhosts H L T C) (awaited : ClientState → List ℕ)
    (plan : KeyPlan) (old : Parts H L T C) (acts : List (Tagged (RosterAct ClientState Life)))
    (new : RosterState ClientState (Parts H L T C)) → AreNew plan acts
    → Gains (IsRosterStep (ActsOn ghosts old.config) awaited) (nobody old) acts new
    → AreServed ghosts plan old acts new
many_served ghosts awaited plan old acts new fresh gains =
    let is = serves (ActsOn ghosts old.config) awaited (nobody old) acts new gains in
    record {
      performs = performs (λ config done. done ≡ done_in acts) refl
          (all_done ghosts plan old.config awaited old acts new.parts is.shared.leads);
      each = λ number now at.
          let leads = subst (λ s. Lead (IsOwnAct (ActsOn ghosts old.config) awaited) None
          (own number acts) s) at (is.each number).leads in
          has_all ghosts plan old.config awaited [] (own number acts) None (Some now)
          (own_all (IsNewIn plan) acts number fresh) tt leads;
    }
