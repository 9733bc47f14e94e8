-- A client without keys stands as its session does.
use Rattle.std.proofs.Common.{◌≡◌, ℕ, List, [], ◌∷◌, Option, Some, None, refl, sym, ap, subst, ◌∙◌}
use Rattle.std.specs.Prelude.{IfSome, IsSome}
use Rattle.tko_pools.specs.Configs.{Configuration}
use Rattle.tko_reply.specs.Ghosts.{PartsGhosts}
use Rattle.tko_reply.specs.declared.parts.Parts.{Parts}
use Rattle.tko_mux.specs.Awaits.{IsAsking, awaited_one}
use Rattle.tko_mux.proofs.AwaitsLemmas.{asks_one}
use Rattle.tko_keys.specs.KeysState.{KeysState}
use Rattle.tko_session.specs.Awaiting.{awaited_in}
use Rattle.tko_session.specs.Driven.{IsSessionReady, MayGoOn}
use Rattle.tko_session.specs.SessionState.{SessionState}
use Rattle.tko_session.specs.Working.{Work}
use Rattle.tko_session.specs.Driven as driven
use Rattle.tko_session.specs.Working as work
use Rattle.tko_client.specs.declared.answering.Answering.{Answering}
use Rattle.tko_client.specs.declared.calls.Went.{Went}
use Rattle.tko_client.specs.Answerings.{AreKeysReady, IsClientIdle, IsIdleWith, IsOwn, MayCallWith}
use Rattle.tko_client.specs.Answerings.{asked_by, asked_for, asked_with, awaited_by_client}
use Rattle.tko_client.specs.Answerings.{awaited_with}
use Rattle.tko_client.specs.Calls.{IsLeftByCall}
use Rattle.tko_client.specs.Steps.{HasStayed, IsOfSession, IsSessionLeft, StandsAfter, WentStands}
use Rattle.tko_client.specs.Steps.{server_asked_in}
use Rattle.tko_client.specs.declared.calls.Went.TheVariants as went

-- a session that may go on awaits nobody, and is its own
pub goes_none : (at : Work) → MayGoOn at → awaited_in at ≡ None
goes_none work.Between may = refl
goes_none (work.Read one) may = refl
goes_none (work.Awaits it) may = absurd may
goes_none (work.Ended one) may = refl
goes_none work.HandedOver may = absurd may

pub may_own : (at : Work) → IsOwn at → awaited_in at ≡ None → MayGoOn at
may_own work.Between own none = tt
may_own (work.Read one) own none = tt
may_own (work.Awaits it) own none = absurd (let no : ⊥ = cc in no)
may_own (work.Ended one) own none = tt
may_own work.HandedOver own none = absurd own

asked_work : (at : Work) (server : ℕ) → awaited_in at ≡ Some server → IsSome (asked_for at)
asked_work work.Between server is = absurd (let no : ⊥ = cc in no)
asked_work (work.Read one) server is = absurd (let no : ⊥ = cc in no)
asked_work (work.Awaits it) server is = refl
asked_work (work.Ended one) server is = absurd (let no : ⊥ = cc in no)
asked_work work.HandedOver server is = absurd (let no : ⊥ = cc in no)

-- a client without keys stands as its session does
session_stands : (came : Went) (it : Answering) → it.keys ≡ None → IsOfSession came
    → IsOwn it.session.work → awaited_in it.session.work ≡ server_asked_in came → WentStands came it
session_stands (went.Asks server) it none goes own asks = λ empty.
    let one : server ∷ [] ≡ [] =
    sym (ap awaited_one asks) ∙ sym (ap (λ k. awaited_with k it.session.work) none) ∙ empty in
    let no : ⊥ = cc in no
session_stands went.On it none goes own asks =
    subst (λ k. MayCallWith k it.session.work) (sym none) (may_own it.session.work own asks)
session_stands went.Waits it none goes own asks = absurd goes
session_stands went.NeedsInput it none goes own asks =
    subst (λ k. IsIdleWith k it.session.work) (sym none) (may_own it.session.work own asks)
session_stands went.Over it none goes own asks =
    subst (λ k. IsIdleWith k it.session.work) (sym none) (may_own it.session.work own asks)
session_stands went.TooLong it none goes own asks =
    subst (λ k. IsIdleWith k it.session.work) (sym none) (may_own it.session.work own asks)
session_stands went.Short it none goes own asks = absurd goes

session_request : (asked : Option ℕ) (it : Answering) → it.keys ≡ None
    → awaited_in it.session.work ≡ asked → IfSome asked (λ server. IsSome (asked_by it))
session_request None it none is = tt
session_request (Some server) it none is =
    subst (λ k. IsSome (asked_with k it.session.work)) (sym none)
    (asked_work it.session.work server is)

pub session_awaits : (it : Answering) (asked : Option ℕ) → it.keys ≡ None
    → awaited_in it.session.work ≡ asked → awaited_by_client it ≡ awaited_one asked
session_awaits it asked none is = ap (λ k. awaited_with k it.session.work) none ∙ ap awaited_one is

pub session_left : {H T C : Type 0} {ghosts : PartsGhosts H (List ℕ) T C} {servers : H → ℕ}
    (came : Went) (old new : Answering) (parts after : Parts H (List ℕ) T C) → new.keys ≡ None
    → StandsAfter came new.session → IsSessionLeft servers new.session parts after
    → IsLeftByCall ghosts servers came (old, parts) (new, after)
session_left came old new parts after none stands left = record {
  request = session_request (server_asked_in came) new none stands.asks;
  stands = session_stands came new none stands.goes stands.own stands.asks;
  reading = stands.reading;
  ready = record {
    session = left.ready;
    keys = subst (λ k. AreKeysReady after.config k new.session.work) (sym none) stands.own;
  };
  stays = left.stays;
}

-- its request was dropped
pub short_left : {H T C : Type 0} {ghosts : PartsGhosts H (List ℕ) T C} {servers : H → ℕ}
    (old new : Answering) (parts after : Parts H (List ℕ) T C) → new.keys ≡ None
    → new.session.work ≡ work.Between → IsSessionReady after.config new.session
    → HasStayed servers parts after
    → IsLeftByCall ghosts servers went.Short (old, parts) (new, after)
short_left old new parts after none between ready stays = record {
  request = tt;
  stands = subst (λ k. IsIdleWith k new.session.work) (sym none) (subst MayGoOn (sym between) tt);
  reading = tt;
  ready = record {
    session = ready;
    keys = subst (λ k. AreKeysReady after.config k new.session.work) (sym none)
        (subst IsOwn (sym between) tt);
  };
  stays = stays;
}

pub between_ready : (config : Configuration) (state : SessionState) → state.work ≡ work.Between
    → IsSessionReady config state
between_ready config state between = subst (driven.IsReadyFor config state) (sym between) tt

-- one that awaited nobody asks whom its session asks
pub session_asks : (old new : Answering) (asked : Option ℕ) → old.keys ≡ None
    → awaited_in old.session.work ≡ None → new.keys ≡ None → awaited_in new.session.work ≡ asked
    → IsAsking asked (awaited_by_client old) (awaited_by_client new)
session_asks old new asked none nobody without is =
    subst (λ xs. IsAsking asked xs (awaited_by_client new))
    (sym (session_awaits old None none nobody))
    (subst (λ xs. IsAsking asked [] xs) (sym (session_awaits new asked without is))
    (asks_one asked))

pub idle_none : (it : Answering) → IsClientIdle it → (it.keys ≡ None) × MayGoOn it.session.work
idle_none it idle = by it.keys refl
  where
    by : (keys : Option KeysState) → it.keys ≡ keys → (it.keys ≡ None) × MayGoOn it.session.work
    by None is = (is, subst (λ k. IsIdleWith k it.session.work) is idle)
    by (Some keys) is = absurd (subst (λ k. IsIdleWith k it.session.work) is idle)

pub idle_awaits : (it : Answering) → IsClientIdle it → awaited_by_client it ≡ []
idle_awaits it idle = let none = idle_none it idle in
    session_awaits it None none.0 (goes_none it.session.work none.1)
