-- Each call, with what is recorded after it, takes the keys of a request on.
use Rattle.std.proofs.Common.{◌≡◌, ℕ, Bool, List, [], ◌∷◌, ◌++◌, map, sym, ap, subst, ◌∙◌}
use Rattle.std.proofs.Common.{append-nil}
use Rattle.std.specs.Prelude.{All}
use Rattle.std.proofs.lemmas.List.Elements.{All-head}
use Rattle.tko_links.specs.declared.links.Outcome.{Outcome}
use Rattle.tko_text.specs.declared.request.Request.{Request}
use Rattle.tko_pools.specs.Configs.{Configuration}
use Rattle.tko_route.specs.Calls.{RoutedCall}
use Rattle.tko_reply.specs.Interactions.{Interaction, Made}
use Rattle.tko_keys.specs.KeysActs.{KeysAct, came_lost, came_parts}
use Rattle.tko_keys.specs.KeysDriven.{AreUnderWay, HasArrived, HasSent, HasStopped, IsSentAt}
use Rattle.tko_keys.specs.KeysDriven.{IsUnsent}
use Rattle.tko_keys.specs.KeysSoFar.{KeysSoFar}
use Rattle.tko_keys.specs.KeysState.{KeySend, KeysState, without_first}
use Rattle.tko_keys.specs.KeysActs as act
use Rattle.tko_keys.proofs.SendLemmas.{send_found}
use Rattle.tko_keys.proofs.OutLemmas.{all_split}
use Rattle.tko_keys.proofs.CallLemmas.{arrived_ready, sent_ready, stopped_ready, unsent_ready}
use Rattle.tko_keys.proofs.KeyActLemmas.{on_began, on_began_unrecorded, on_begin_lost, on_take_lost}
use Rattle.tko_keys.proofs.KeyActLemmas.{on_took, on_took_unrecorded}
use Rattle.tko_keys.proofs.ShareLemmas.{arrived_by, lost_by, told_to}

module _ {config : Configuration} {request : Request} {old new : KeysState}
    {done : List Interaction} (s : KeysSoFar config request old done) where
  -- keys went out
  pub on_sent : {server : ℕ} {short : Bool} {adds : List Interaction} → HasSent server short old new
      → adds ≡ [] → KeysSoFar config request new (done ++ adds)
  on_sent {adds = adds} it are =
      let ready : AreUnderWay config
      (record old { due = it.stay; sends = old.sends ++ it.send ∷ [] }) =
      subst (AreUnderWay config) it.state (sent_ready s.ready it) in
      subst (λ xs. KeysSoFar config request new (done ++ xs)) (sym are)
      (subst (KeysSoFar config request new) (sym (append-nil done))
      (subst (λ (k : KeysState). KeysSoFar config request k done) (sym it.state) (record {
        several = s.several;
        ready = ready;
        begun = s.begun;
        whole = s.whole;
        all = s.all;
        placed = s.placed;
        are_placed = s.are_placed;
        each = s.each;
      })))

sent_there : {config : Configuration} {state : KeysState} (before after : List KeySend)
    (send : KeySend) → AreUnderWay config state → state.sends ≡ before ++ send ∷ after
    → IsSentAt config state.plan.grouping state.unique state.slots send
sent_there {config} {state} before after send ready are =
    let Sent : KeySend → Type 0 = IsSentAt config state.plan.grouping state.unique state.slots in
    let parts = all_split Sent before (send ∷ after) (subst (All Sent) are ready.sent) in
    All-head Sent send after parts.1

module _ {config : Configuration} {request : Request} {old new : KeysState}
    {done : List Interaction} (s : KeysSoFar config request old done) where
  pub on_arrived : {server : ℕ} {outcome : Outcome} {calls : List RoutedCall}
      {adds : List Interaction} → (it : HasArrived server outcome old calls new)
      → adds ≡ came_parts outcome old.slots it.send ++ map Made calls
      → KeysSoFar config request new (done ++ adds)
  on_arrived {server} {outcome} {calls} {adds} it are =
      let first = send_found server old.sends it.send it.first in
      let sent = sent_there first.before first.after it.send s.ready first.are in
      let told : map Made calls ≡ told_to it.send.server outcome it.reply =
      ap (map Made) it.told ∙ ap (λ n. told_to n outcome it.reply) (sym first.meets) in
      arrived_by s it.send it.settled sent outcome it.reply
      (without_first server old.sends) it.send.line (arrived_ready s.ready it) sent.by it.state
      (are ∙ ap (λ xs. came_parts outcome old.slots it.send ++ xs) told)

  pub on_stopped : {server : ℕ} (was_sent : Bool) {adds : List Interaction}
      → (it : HasStopped server old new) → adds ≡ came_lost was_sent old.slots it.send
      → KeysSoFar config request new (done ++ adds)
  on_stopped {server} was_sent {adds} it are =
      let first = send_found server old.sends it.send it.first in
      lost_by s it.send it.settled
      (sent_there first.before first.after it.send s.ready first.are) was_sent
      (without_first server old.sends) (stopped_ready s.ready it) it.state are

  pub on_unsent : {server : ℕ} (was_sent : Bool) {adds : List Interaction}
      → (it : IsUnsent server old new) → adds ≡ came_lost was_sent old.slots it.send
      → KeysSoFar config request new (done ++ adds)
  on_unsent {server} was_sent {adds} it are =
      lost_by s it.send it.settled (sent_there it.before it.after it.send s.ready it.are) was_sent
      (it.before ++ it.after) (unsent_ready s.ready it) it.state are

-- each call takes them on
pub keys_on : (config : Configuration) (request : Request) (old new : KeysState)
    (done adds : List Interaction) → KeysSoFar config request old done → KeysAct config old adds new
    → KeysSoFar config request new (done ++ adds)
keys_on config request old new done adds s (act.began calls said it are) = on_began s it are
keys_on config request old new done adds s (act.began_unrecorded calls trail mid it same are) =
    on_began_unrecorded s it same are
keys_on config request old new done adds s (act.begin_lost calls attempts it are) =
    on_begin_lost s it are
keys_on config request old new done adds s (act.sent server short it are) = on_sent s it are
keys_on config request old new done adds s (act.arrived server outcome calls it are) =
    on_arrived s it are
keys_on config request old new done adds s (act.stopped server was_sent it are) =
    on_stopped s was_sent it are
keys_on config request old new done adds s (act.unsent server was_sent it are) =
    on_unsent s was_sent it are
keys_on config request old new done adds s (act.took calls said it are) = on_took s it are
keys_on config request old new done adds s (act.took_unrecorded calls trail mid it same are) =
    on_took_unrecorded s it same are
keys_on config request old new done adds s (act.take_lost calls attempts it are) =
    on_take_lost s it are
