-- Where a call about a request under way ends: what it says of the keys as they were.
use Rattle.std.proofs.Common.{◌≡◌, ◌<◌, ℕ, Bool, List, [], ◌∷◌, length, map, Option, Some, None}
use Rattle.std.proofs.Common.{refl, sym, ap, subst, ◌∙◌, arith, suc}
use Rattle.std.specs.Prelude.{All, IsSome, drop, remove, slice_index_or, take}
use Rattle.std.proofs.lemmas.List.Elements.{All-head}
use Rattle.std.proofs.lemmas.Option.{get_or_from_slice_get}
use Rattle.tko_model.specs.Records.{HealthItem}
use Rattle.tko_model.specs.declared.mark.Reply.{Reply}
use Rattle.tko_links.specs.declared.links.Outcome.{Outcome}
use Rattle.tko_text.specs.declared.request.Request.{Request}
use Rattle.tko_pools.specs.Configs.{Configuration}
use Rattle.tko_route.specs.Calls.{Told}
use Rattle.tko_route.specs.Trail.{IsRecorded, op_of, record_of}
use Rattle.tko_route.proofs.RecordedLemmas.{gains_recorded, is_replied}
use Rattle.tko_route.specs.Routing.{GoesOn}
use Rattle.tko_keys.specs.declared.plan.Grouping.{Grouping}
use Rattle.tko_keys.specs.Lines.{IsSentBy}
use Rattle.tko_keys.specs.KeysDriven.{AreUnderWay, HasArrived, HasStopped, IsLastAt, IsSentAt}
use Rattle.tko_keys.specs.KeysDriven.{IsUnsent, keys_came_of}
use Rattle.tko_keys.specs.KeysState.{KeySend, KeySlot, KeysCame, KeysState, first_send}
use Rattle.tko_keys.specs.KeysState.{without_first}
use Rattle.tko_keys.proofs.FirstLemmas.{some_of, split_at}
use Rattle.tko_keys.proofs.SendLemmas.{send_found}
use Rattle.tko_keys.proofs.OutLemmas.{all_split}
use Rattle.tko_keys.proofs.CallLemmas.{arrived_ready, stopped_ready, unsent_ready}

-- memory ran out for a request
pub stop_ends : {state old : KeysState} {server : ℕ} {send : KeySend} {sends' : List KeySend}
    {came' : KeysCame} → state ≡ old → old.came.places ≡ []
    → first_send server state.sends ≡ Some send
    → sends' ≡ without_first server state.sends → came' ≡ keys_came_of send None None
    → HasStopped server old (record state { sends = sends'; came = came' })
    × ((config : Configuration) → AreUnderWay config old
    → AreUnderWay config (record state { sends = sends'; came = came' }))
stop_ends {state} {old} {server} {send} {sends'} {came'} same none first sends came =
    let stopped : HasStopped server state (record state { sends = sends'; came = came' }) = record {
      settled = ap (λ (s : KeysState). s.came.places) same ∙ none;
      send = send;
      first = first;
      state = rw (sends, came) refl;
    } in
    let here : HasStopped server old (record state { sends = sends'; came = came' }) =
    subst (λ (s : KeysState). HasStopped server s (record state { sends = sends'; came = came' }))
    same stopped in
    (here, λ config ready. stopped_ready ready here)

pub unsent_ends : {state old : KeysState} {server index : ℕ} {send : KeySend}
    {sends' : List KeySend} {came' : KeysCame} → state ≡ old → old.came.places ≡ []
    → IsLastAt server state.sends index
    → send ≡ slice_index_or state.sends index send → sends' ≡ remove state.sends index
    → came' ≡ keys_came_of send None None
    → IsUnsent server old (record state { sends = sends'; came = came' })
    × ((config : Configuration) → AreUnderWay config old
    → AreUnderWay config (record state { sends = sends'; came = came' }))
unsent_ends {state} {old} {server} {index} {send} {sends'} {came'} same none last read sends came =
    let this : last.send ≡ send =
    sym (get_or_from_slice_get state.sends index last.send send last.at) ∙ sym read in
    let unsent : IsUnsent server state (record state { sends = sends'; came = came' }) = record {
      settled = ap (λ (s : KeysState). s.came.places) same ∙ none;
      send = send;
      before = take index state.sends;
      after = drop (suc index) state.sends;
      are = split_at state.sends index send (last.at ∙ ap Some this);
      meets = ap (λ (k : KeySend). k.server) (sym this) ∙ last.meets;
      last = last.last;
      state = rw (sends, came) refl;
    } in
    let here : IsUnsent server old (record state { sends = sends'; came = came' }) =
    subst (λ (s : KeysState). IsUnsent server s (record state { sends = sends'; came = came' }))
    same unsent in
    (here, λ config ready. unsent_ready ready here)

-- what came of a request was recorded
pub arrive_ends : {H : Type 0} {steps : H → HealthItem → H → Type 0} {health health' : H}
    {state old : KeysState} {server : ℕ} {send : KeySend} {sends' : List KeySend} {came' : KeysCame}
    (outcome : Outcome)
    (reply : Option Reply) → state ≡ old → old.came.places ≡ []
    → first_send server state.sends ≡ Some send
    → sends' ≡ without_first server state.sends → came' ≡ keys_came_of send (Some outcome) reply
    → IsRecorded steps health server (op_of outcome) reply health'
    → GoesOn steps health (λ calls. HasArrived server outcome old calls
    (record state { sends = sends'; came = came' })) health'
    × ((config : Configuration) → AreUnderWay config old
    → AreUnderWay config (record state { sends = sends'; came = came' }))
arrive_ends {steps = steps} {health} {health'} {state} {old} {server} {send} {sends'}
    {came'} outcome reply same none first sends came recorded =
    let New : KeysState = record state { sends = sends'; came = came' } in
    let items : List HealthItem = record_of server (op_of outcome) reply in
    let arrived : HasArrived server outcome state (map Told items) New = record {
      settled = ap (λ (s : KeysState). s.came.places) same ∙ none;
      send = send;
      reply = reply;
      first = first;
      told = refl;
      replied = is_replied steps health server (op_of outcome) reply health' recorded;
      state = rw (sends, came) refl;
    } in
    let here : HasArrived server outcome old (map Told items) New =
    subst (λ (s : KeysState). HasArrived server outcome s (map Told items) New) same arrived in (
      record {
        items = items;
        gains = gains_recorded server (op_of outcome) reply recorded;
        is = here;
      },
      λ config ready. arrived_ready ready here,
    )

pub some_place : (grouping : Grouping) (unique : Bool) (slots : List KeySlot) (places : List ℕ)
    (line : Option Request) → IsSentBy grouping unique slots places line → 0 < length places
some_place grouping unique slots places None by = omega (arith, by)
some_place grouping unique slots [] (Some line) by = absurd (by.1 refl)
some_place grouping unique slots (place ∷ places) (Some line) by = omega arith

-- a request is under way to a server
pub sent_within : (servers server : ℕ) {state : KeysState} (config : Configuration)
    → AreUnderWay config state → servers ≡ length config.addresses
    → IsSome (first_send server state.sends)
    → server < servers
sent_within servers server {state} config ready same some =
    let there = some_of (first_send server state.sends) some in
    let send = there.0 in
    let first = send_found server state.sends send there.1 in
    let Sent : KeySend → Type 0 = IsSentAt config state.plan.grouping state.unique state.slots in
    let sent = All-head Sent send first.after
    (all_split Sent first.before (send ∷ first.after)
    (subst (All Sent) first.are ready.sent)).1 in
    let due = sent.each 0 0 (some_place state.plan.grouping state.unique state.slots send.places
    send.line sent.by) in
    let out = due.is.sent.out in
    let below : due.awaited.server < length config.addresses =
    subst (λ n. n < length config.addresses) (sym out.awaits.server)
    (out.within (length due.awaited.attempts) 0 out.awaits.tried.shorter) in
    omega (arith, same, due.server, first.meets, below)
