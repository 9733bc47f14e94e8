-- A client with keys: what a call for them leaves of it, and when they are complete.
use Rattle.std.proofs.Common.{◌≡◌, ◌≢◌, ◌<◌, ℕ, Bool, true, false, List, [], ◌∷◌, Option, Some}
use Rattle.std.proofs.Common.{None, refl, sym, ap, subst, ◌∙◌, arith}
use Rattle.std.specs.Bool.{OnFalse}
use Rattle.std.specs.Prelude.{IfNone, IsTrue, ◌↔◌}
use Rattle.std.proofs.lemmas.List.Elements.{All-nil}
use Rattle.tko_pools.specs.Configs.{Configuration}
use Rattle.tko_text.specs.declared.request.Request.{Request}
use Rattle.tko_reply.specs.Ghosts.{PartsGhosts}
use Rattle.tko_reply.specs.declared.parts.Parts.{Parts}
use Rattle.tko_keys.specs.KeysDriven.{AreUnderWay, IsDueAt, IsOutAt, IsSentAt}
use Rattle.tko_keys.specs.KeysState.{DueKey, IsComplete, IsNew, KeySend, KeysState, MayBegin}
use Rattle.tko_keys.specs.KeysState.{awaited_servers, key_places_in}
use Rattle.tko_keys.specs.declared.plan.Grouping.{Grouping}
use Rattle.tko_keys.specs.declared.plan.Grouping.TheVariants.{ByServer}
use Rattle.tko_keys.specs.declared.plan.KeyPlan.{KeyPlan}
use Rattle.tko_session.specs.Clients.{Open}
use Rattle.tko_session.specs.Driven.{IsSessionReady}
use Rattle.tko_session.specs.Handing.{IsHanded}
use Rattle.tko_text.specs.Reading.{Reading}
use Rattle.tko_session.specs.Driven as driven
use Rattle.tko_session.specs.Working as work
use Rattle.tko_client.specs.declared.answering.Answering.{Answering}
use Rattle.tko_client.specs.declared.calls.Went.{Went}
use Rattle.tko_client.specs.Answerings.{AreKeysReady, AreSettled, IsAnsweringReady, MayCallWith}
use Rattle.tko_client.specs.Answerings.{awaited_with}
use Rattle.tko_client.specs.Calls.{IsLeftByCall}
use Rattle.tko_client.specs.Keys.{AreKeysLeft, IsOfKeys}
use Rattle.tko_client.specs.Steps.{HasStayed, WentReading, WentStands, phase_of, server_asked_in}
use Rattle.tko_client.specs.declared.calls.Went.TheVariants as went
use Rattle.tko_client.proofs.AskLemmas.{none_true, servers_of}

-- a call for keys leaves a client open
pub keys_phase : (came : Went) → IsOfKeys came → phase_of came ≡ Open
keys_phase (went.Asks server) goes = refl
keys_phase went.On goes = refl
keys_phase went.Waits goes = absurd goes
keys_phase went.NeedsInput goes = absurd goes
keys_phase went.Over goes = absurd goes
keys_phase went.TooLong goes = absurd goes
keys_phase went.Short goes = absurd goes

keys_reading : (came : Went) (reading : Reading) → IsOfKeys came → WentReading came reading
keys_reading (went.Asks server) reading goes = tt
keys_reading went.On reading goes = tt
keys_reading went.Waits reading goes = absurd goes
keys_reading went.NeedsInput reading goes = absurd goes
keys_reading went.Over reading goes = absurd goes
keys_reading went.TooLong reading goes = absurd goes
keys_reading went.Short reading goes = absurd goes

keys_stands : (came : Went) (it : Answering) (now : KeysState) → IsOfKeys came → it.keys ≡ Some now
    → ((server : ℕ) → server_asked_in came ≡ Some server → awaited_servers now ≢ [])
    → WentStands came it
keys_stands (went.Asks server) it now goes are some =
    λ empty. some server refl (sym (ap (λ k. awaited_with k it.session.work) are) ∙ empty)
keys_stands went.On it now goes are some = subst (λ k. MayCallWith k it.session.work) (sym are) tt
keys_stands went.Waits it now goes are some = absurd goes
keys_stands went.NeedsInput it now goes are some = absurd goes
keys_stands went.Over it now goes are some = absurd goes
keys_stands went.TooLong it now goes are some = absurd goes
keys_stands went.Short it now goes are some = absurd goes

-- a client with keys, and what a call for them leaves of it
pub keys_left : {H T C : Type 0} {ghosts : PartsGhosts H (List ℕ) T C} {servers : H → ℕ}
    (came : Went) (old : Answering) (keys now : KeysState) (parts mid after : Parts H (List ℕ) T C)
    → IsAnsweringReady parts.config old → old.session.work ≡ work.HandedOver
    → mid.config ≡ parts.config → AreKeysLeft came (keys, mid) (now, after)
    → ((server : ℕ) → server_asked_in came ≡ Some server → awaited_servers now ≢ [])
    → HasStayed servers parts after
    → IsLeftByCall ghosts servers came (old, parts) (record old { keys = Some now }, after)
keys_left came old keys now parts mid after ready at config left some stays =
    let new : Answering = record old { keys = Some now } in record {
      request = left.request;
      stands = keys_stands came new now left.goes refl some;
      reading = keys_reading came old.session.reading left.goes;
      ready = record {
        session = subst (λ c. IsSessionReady c old.session) (sym stays.config) ready.session;
        keys = (at, subst (λ c. AreSettled c now) (config ∙ sym stays.config) left.ready);
      };
      stays = stays;
    }

pub handed_at : {config : Configuration} {it : Answering} {keys : KeysState}
    → IsAnsweringReady config it → it.keys ≡ Some keys → it.session.work ≡ work.HandedOver
handed_at {config} {it} ready are =
    (subst (λ k. AreKeysReady config k it.session.work) are ready.keys).0

pub settled : {config : Configuration} {it : Answering} {keys : KeysState}
    → IsAnsweringReady config it → it.keys ≡ Some keys → AreSettled config keys
settled {config} {it} ready are =
    (subst (λ k. AreKeysReady config k it.session.work) are ready.keys).1

-- it is ready to take the reply of its keys
pub is_handed : {config : Configuration} {it : Answering} {keys : KeysState}
    → IsAnsweringReady config it → it.keys ≡ Some keys → IsHanded it.session
is_handed {config} {it} ready are =
    let at = handed_at ready are in
    record { at = at; begins = subst (driven.IsReadyFor config it.session) at ready.session }

-- none of the keys is due, where none goes out and no other may be begun
none_due : (due : List DueKey) (next : Option ℕ) (may : Type 0) (grouping : Grouping) → next ≡ None
    → IfNone next (due ≢ [] → (grouping ≡ ByServer) × may) → ¬ may → due ≡ []
none_due [] next may grouping none waits cannot = refl
none_due (it ∷ due) next may grouping none waits cannot =
    let some : it ∷ due ≢ [] = λ is. let no : ⊥ = cc in no in
    absurd (cannot ((subst (λ n. IfNone n (it ∷ due ≢ [] → (grouping ≡ ByServer) × may)) none waits)
    some).1)

none_sent : (sends : List KeySend) → servers_of sends ≡ [] → sends ≡ []
none_sent [] is = refl
none_sent (send ∷ sends) is = absurd (let no : ⊥ = cc in no)

-- no request is under way for keys
pub not_waiting : (keys : KeysState) (waits : Bool) → IsTrue waits ↔ (awaited_servers keys ≢ [])
    → waits ≡ false → awaited_servers keys ≡ []
not_waiting keys waits some none =
    subst (λ b. OnFalse b (awaited_servers keys ≡ [])) none
    (none_true (awaited_servers keys) waits some)

-- a request is under way for keys
pub waiting : (keys : KeysState) (waits : Bool) → IsTrue waits ↔ (awaited_servers keys ≢ [])
    → waits ≡ true → awaited_servers keys ≢ []
waiting keys waits some is = some.0 (subst IsTrue (sym is) refl)

-- nothing is due or under way for them, what came was taken on, and none may be begun
pub complete_by : (keys : KeysState) (next : Option ℕ) (waits may : Bool) → keys.came.places ≡ []
    → IfNone next (keys.due ≢ [] → (keys.plan.grouping ≡ ByServer) × MayBegin keys)
    → IsTrue waits ↔ (awaited_servers keys ≢ []) → IsTrue may ↔ MayBegin keys
    → next ≡ None → waits ≡ false → may ≡ false → IsComplete keys
complete_by keys next waits may settled due some begins first none never = (nothing, cannot)
  where
    cannot : ¬ (MayBegin keys)
    cannot begin =
        let both : true ≡ false = sym (begins.1 begin) ∙ never in
        let no : ⊥ = cc in no

    nothing : key_places_in keys.due keys.sends keys.came ≡ []
    nothing =
        ap (λ xs. key_places_in xs keys.sends keys.came)
        (none_due keys.due next (MayBegin keys) keys.plan.grouping first due cannot)
        ∙ ap (λ xs. key_places_in [] xs keys.came)
        (none_sent keys.sends (not_waiting keys waits some none)) ∙ settled

-- the keys of a request, none of which was begun
pub new_settled : (config : Configuration) (request : Request) (plan : KeyPlan) (keys : KeysState)
    → 0 < plan.most → IsNew request plan keys → AreSettled config keys
new_settled config request plan keys some is = record {
  under_way = subst (AreUnderWay config) (sym is.is) (record {
    due = All-nil (IsDueAt config []);
    sent = All-nil (IsSentAt config plan.grouping is.unique []);
    came = record { each = All-nil (IsOutAt config []); parts = omega arith; replied = tt };
    once = λ place. refl;
    some = some;
    few = omega arith;
    near = omega arith;
    failed = λ never. absurd (let no : ⊥ = cc in no);
  });
  settled = ap (λ (k : KeysState). k.came.places) is.is;
}
