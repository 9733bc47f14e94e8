-- What each act adds to a client's life.
use Rattle.std.proofs.Common.{◌≡◌, ℕ, false, List, [], ◌++◌, Option, Some, None, take, refl, sym}
use Rattle.std.proofs.Common.{ap, subst, ◌∙◌, append-nil}
use Rattle.tko_text.specs.Reading.{Gives, fed, reading_start}
use Rattle.tko_text.proofs.GivesLemmas.{Gives-fed}
use Rattle.tko_text.proofs.CuttingLemmas.{fed-fed}
use Rattle.tko_pools.specs.Configs.{Configuration}
use Rattle.tko_reply.specs.Interactions.{Interaction}
use Rattle.tko_keys.specs.KeysState.{KeysState, reply_in}
use Rattle.tko_keys.specs.declared.plan.KeyPlan.{KeyPlan}
use Rattle.tko_session.specs.Acts.{IsAct, IsSessionCall, phase_after}
use Rattle.tko_session.specs.Acts as act
use Rattle.tko_session.specs.Driven.{dropped}
use Rattle.tko_session.specs.Handing.{replied_by}
use Rattle.tko_session.specs.Clients.{ClientState, Short, Over, IsClient, IsClientIn, IsClientOpen}
use Rattle.tko_session.specs.Clients.{HasPending, Life, ClientPhase, Open, items_under, life, lived}
use Rattle.tko_session.specs.Clients.{no_life}
use Rattle.tko_session.specs.Outgoing.{sent_from}
use Rattle.tko_session.specs.SessionState.{SessionState, fed_state, items_of}
use Rattle.tko_session.specs.SoFar.{PendingRequest}
use Rattle.tko_session.proofs.ClientLemmas.{loses, took_open, went_open}
use Rattle.tko_session.proofs.HandedLemmas.{hand_open, keyed_open, keys_short, replied_open}
use Rattle.tko_session.proofs.TurnedLemmas.{did, lived_did}
use Rattle.tko_session.proofs.WroteLemmas.{wrote_in}

pub same_life : {bytes bytes' sent sent' : List ℕ} {done done' : List Interaction} → bytes ≡ bytes'
    → sent ≡ sent' → done ≡ done' → life bytes sent done ≡ life bytes' sent' done'
same_life e f g = rw (e, f, g) refl

lived_fed : (it : Life) (piece : List ℕ)
    → lived it (life piece [] []) ≡ life (it.bytes ++ piece) it.sent it.done
lived_fed it piece = same_life refl (append-nil it.sent) (append-nil it.done)

lived_wrote : (it : Life) (text : List ℕ)
    → lived it (life [] text []) ≡ life it.bytes (it.sent ++ text) it.done
lived_wrote it text = same_life (append-nil it.bytes) refl (append-nil it.done)

lived_none : (it : Life) → lived it no_life ≡ it
lived_none it = same_life (append-nil it.bytes) (append-nil it.sent) (append-nil it.done)

under_unowed : (plan : KeyPlan) (keys : Option KeysState) (config : Configuration)
    (state : SessionState) (under : Option PendingRequest) → HasPending plan keys config under state
    → HasPending plan keys config under (record state { owes = false })
under_unowed plan keys config state None at = at
under_unowed plan keys config state (Some it) at = at

under_fed : (plan : KeyPlan) (keys : Option KeysState)
    (config : Configuration) (state : SessionState) (piece : List ℕ) (under : Option PendingRequest)
    → HasPending plan keys config under state
    → HasPending plan keys config under (fed_state state piece)
under_fed plan keys config state piece None at = at
under_fed plan keys config state piece (Some it) at = at

-- the round that a session owed was run
round_in : (plan : KeyPlan) (keys : Option KeysState) (config : Configuration) (it : Life)
    (old : SessionState) (phase : ClientPhase) → IsClientIn phase plan keys config it old
    → IsClientIn phase plan keys config it (record old { owes = false })
round_in plan keys config it old Open s = record {
  turns = s.turns;
  turned = s.turned;
  under = s.under;
  each = s.each;
  at = under_unowed plan keys config old s.under s.at;
  goes_on = s.goes_on;
  gives = s.gives;
  text = s.text;
  are = s.are;
  requests = s.requests;
}
round_in plan keys config it old Over f =
    record {
      turns = f.turns;
      each = f.each;
      at = f.at;
      ends = f.ends;
      gives = f.gives;
      text = f.text;
      requests = f.requests;
    }
round_in plan keys config it old Short f = record {
  turns = f.turns;
  turned = f.turned;
  left = f.left;
  last = f.last;
  each = f.each;
  at = f.at;
  goes_on = f.goes_on;
  gives = f.gives;
  cut = f.cut;
  text = f.text;
  are = f.are;
  requests = f.requests;
}

-- bytes came from a client
fed_in : (plan : KeyPlan) (keys : Option KeysState) (config : Configuration) (it : Life)
    (state : SessionState) (piece : List ℕ) → IsClientOpen plan keys config it state
    → IsClientOpen plan keys config (life (it.bytes ++ piece) it.sent it.done)
    (fed_state state piece)
fed_in plan keys config it state piece s =
    let items = items_of s.turns ++ items_under s.under in record {
      turns = s.turns;
      turned = s.turned;
      under = s.under;
      each = s.each;
      at = under_fed plan keys config state piece s.under s.at;
      goes_on = s.goes_on;
      gives =
          subst (λ r. Gives r items (fed state.reading piece))
          (fed-fed reading_start it.bytes piece)
          (Gives-fed (fed reading_start it.bytes) items state.reading piece s.gives);
      text = s.text;
      are = s.are;
      requests = s.requests;
    }

-- a client's session made a call
steps : (plan : KeyPlan) (keys : Option KeysState) (config : Configuration) (it : Life)
    (old : SessionState) (done : List Interaction) (phase : ClientPhase) (new : SessionState)
    → IsClientOpen plan keys config it old
    → IsSessionCall config old done phase new → IsClientIn phase plan keys config (did it done) new
steps plan keys config it old done phase new s (act.went calls said went are is) =
    subst (λ p. IsClientIn p plan keys config (did it done) new) (sym is)
    (subst (λ ds. IsClientIn (phase_after said) plan keys config (did it ds) new) (sym are)
    (went_open calls said new s went))
steps plan keys config it old done phase new s (act.took asking got calls said at took are is) =
    subst (λ p. IsClientIn p plan keys config (did it done) new) (sym is)
    (subst (λ ds. IsClientIn (phase_after said) plan keys config (did it ds) new) (sym are)
    (took_open asking got s at took))

-- a client whose session is open
open_at : (config : Configuration) (it : Life) (old : ClientState) → old.phase ≡ Open
    → IsClient config it old → IsClientOpen old.plan old.keys config it old.session
open_at config it old at is =
    subst (λ p. IsClientIn p old.plan old.keys config it old.session) at is

-- each act takes a client's life on
pub acted : (config : Configuration) (it : Life) (old : ClientState) (adds : Life)
    (new : ClientState) → IsClient config it old → IsAct config old adds new
    → IsClient config (lived it adds) new
acted config it old adds new is (act.fed piece at are same) =
    let after : ClientState = record old { session = fed_state old.session piece } in
    subst (λ c. IsClient config (lived it adds) c) (sym same)
    (subst (λ l. IsClient config l after) (sym (ap (lived it) are ∙ lived_fed it piece))
    (subst (λ p. IsClientIn p old.plan old.keys config
    (life (it.bytes ++ piece) it.sent it.done) after.session) (sym at)
    (fed_in old.plan old.keys config it old.session piece (open_at config it old at is))))
acted config it old adds new is (act.wrote count within are same) =
    let after : ClientState = record old { session = sent_from old.session count } in
    subst (λ c. IsClient config (lived it adds) c) (sym same)
    (subst (λ l. IsClient config l after)
    (sym (ap (lived it) are ∙ lived_wrote it (take count old.session.outbox)))
    (wrote_in old.plan old.keys config it count old.session old.phase is within))
acted config it old adds new is (act.round_run are same) =
    let after : ClientState = record old { session = record old.session { owes = false } } in
    subst (λ c. IsClient config (lived it adds) c) (sym same)
    (subst (λ l. IsClient config l after) (sym (ap (lived it) are ∙ lived_none it))
    (round_in old.plan old.keys config it old.session old.phase is))
acted config it old adds new is (act.stepped done at are step same) =
    let after : ClientState = record old { phase = new.phase; session = new.session } in
    subst (λ c. IsClient config (lived it adds) c) (sym same)
    (subst (λ l. IsClient config l after) (sym (ap (lived it) are ∙ lived_did it done))
    (steps old.plan old.keys config it old.session done new.phase new.session
    (open_at config it old at is) step))
acted config it old adds new is (act.lost done at are loss same) =
    let after : ClientState = record old { phase = Short; session = new.session } in
    subst (λ c. IsClient config (lived it adds) c) (sym same)
    (subst (λ l. IsClient config l after) (sym (ap (lived it) are ∙ lived_did it done))
    (loses (open_at config it old at is) loss))
acted config it old adds new is (act.handed request keys at several hands begins are same) =
    let after : ClientState = record old { session = new.session; keys = Some keys } in
    subst (λ c. IsClient config (lived it adds) c) (sym same)
    (subst (λ l. IsClient config l after) (sym (ap (lived it) are ∙ lived_none it))
    (subst (λ p. IsClientIn p old.plan (Some keys) config it new.session) (sym at)
    (hand_open (open_at config it old at is) several hands begins)))
acted config it old adds new is (act.keyed done keys now has acts are same) =
    let after : ClientState = record old { keys = Some now } in
    subst (λ c. IsClient config (lived it adds) c) (sym same)
    (subst (λ l. IsClient config l after) (sym (ap (lived it) are ∙ lived_did it done))
    (subst (λ p. IsClientIn p old.plan (Some now) config (did it done) old.session) (sym has.going)
    (keyed_open (open_at config it old has.going is) has.at has.are acts)))
acted config it old adds new is (act.replied keys has complete none are same) =
    let after : ClientState =
    record old { session = replied_by (reply_in keys.slots) old.session; keys = None } in
    subst (λ c. IsClient config (lived it adds) c) (sym same)
    (subst (λ l. IsClient config l after) (sym (ap (lived it) are ∙ lived_none it))
    (subst (λ p. IsClientIn p old.plan None config it after.session) (sym has.going)
    (replied_open (open_at config it old has.going is) has.at has.are complete none)))
acted config it old adds new is (act.keys_lost keys has complete are same) =
    let after : ClientState =
    record old { phase = Short; session = dropped old.session; keys = None } in
    subst (λ c. IsClient config (lived it adds) c) (sym same)
    (subst (λ l. IsClient config l after) (sym (ap (lived it) are ∙ lived_none it))
    (keys_short (open_at config it old has.going is) has.at has.are complete))
