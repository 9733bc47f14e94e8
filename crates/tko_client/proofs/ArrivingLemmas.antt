-- What came of a request for keys is counted for each of them, recorded, and then taken by each.
use Rattle.std.proofs.Common.{◌≡◌, ◌≢◌, ℕ, ◌+◌, Bool, true, false, List, [], ◌∷◌, ◌++◌, All}
use Rattle.std.proofs.Common.{append-nil, length, length-append, map, Some, None, Ok, Err, refl}
use Rattle.std.proofs.Common.{sym, ap, subst, ◌∙◌, arith, replicate, slice_index}
use Rattle.std.specs.Prelude.{◌==◌, IfSome, IsSome, is_some, option_map, slice_get}
use Rattle.std.proofs.lemmas.List.Elements.{All-head, All-tail}
use Rattle.tko_model.specs.Records.{Gains, HealthItem, Lead}
use Rattle.tko_model.proofs.RecordLemmas.{gains_append, gains_one}
use Rattle.tko_health.specs.declared.health.Health.{Ghosts as HealthGhosts}
use Rattle.tko_links.specs.declared.links.Outcome.{Outcome}
use Rattle.tko_links.specs.declared.links.Outcome.TheVariants as outcome
use Rattle.tko_links.specs.Links.{is_sent, most_sends}
use Rattle.tko_pools.specs.Configs.{Configuration}
use Rattle.tko_route.specs.Calls.{Told}
use Rattle.tko_reply.specs.Interactions.{Interacts, Made, with_health}
use Rattle.tko_reply.specs.declared.parts.Parts.{Parts}
use Rattle.tko_reply.specs.declared.trails.Trails.{Ghosts as TrailsGhosts}
use Rattle.tko_reply.proofs.InteractionLemmas.{config_kept, gains_told}
use Rattle.tko_mux.specs.Awaits.{one_if, times_due}
use Rattle.tko_keys.specs.AtOnce.{AskedKey}
use Rattle.tko_keys.specs.KeysActs.{asked_keys, came_lost, came_parts, came_with}
use Rattle.tko_keys.specs.KeysActs as act
use Rattle.tko_keys.specs.KeysDriven.{AreUnderWay, HasArrived, IsDueAt, IsSentAt}
use Rattle.tko_keys.specs.KeysDriven as driven
use Rattle.tko_keys.specs.KeysState.{KeySend, KeySlot, KeysState, awaited_servers, first_send}
use Rattle.tko_keys.specs.KeysState.{keys_first}
use Rattle.tko_keys.specs.KeysState.{without_first}
use Rattle.tko_keys.specs.Lines.{key_in_request, outcome_by}
use Rattle.tko_client.specs.Answerings.{AreSettled}
use Rattle.tko_client.specs.Counts.{AreSendsCounted, IsSendCounted}
use Rattle.tko_client.specs.Keys.{DoesForKeys, HasStoppedAs, HaveActedOnOutcome, HaveGoneOn}
use Rattle.tko_client.specs.Keys.{TakesAt}
use Rattle.tko_client.specs.Steps.{HasStayed, client_ghosts}
use Rattle.tko_client.proofs.AskLemmas.{due_between, due_left, first_server, servers_of}
use Rattle.tko_client.proofs.CountLemmas.{all_stay, counted, uncounted}
use Rattle.tko_client.proofs.UnderWayLemmas.{all_first, some_first}

-- a key that is due has its request
asked_all : (config : Configuration) (slots : List KeySlot) (server : ℕ) (places : List ℕ)
    → All (λ place. IsDueAt config slots (driven.due place server)) places
    → length (asked_keys slots places) ≡ length places
asked_all config slots server [] each = refl
asked_all config slots server (place ∷ places) each =
    let is = All-head (λ (it : ℕ). IsDueAt config slots (driven.due it server)) place places each in
    let more = asked_all config slots server places
    (All-tail (λ (it : ℕ). IsDueAt config slots (driven.due it server)) place places each) in
    let one : length (act.asked_key_at place (slice_get slots place)) ≡ 1 =
    ap (λ o. length (act.asked_key_at place o)) is.at in
    omega (
      arith,
      one,
      more,
      length-append (act.asked_key_at place (slice_get slots place)) (asked_keys slots places),
    )

-- so many keys are asked for as the request has places
places_asked : (config : Configuration) (server : ℕ) (keys : KeysState) (send : KeySend)
    → AreUnderWay config keys → first_send server keys.sends ≡ Some send
    → length (asked_keys keys.slots send.places) ≡ length send.places
places_asked config server keys send ready first =
    let sent = all_first (IsSentAt config keys.plan.grouping keys.unique keys.slots) server
    keys.sends send ready.sent first in
    asked_all config keys.slots send.server send.places sent.each

-- what came for a key is sent or not as what came of its request
part_sent : (shared : Bool) (key : List ℕ) (came : Outcome)
    → is_sent (outcome_by shared key came) ≡ is_sent came
part_sent false key came = refl
part_sent true key (outcome.Reply response) = refl
part_sent true key outcome.Refused = refl
part_sent true key outcome.Timeout = refl
part_sent true key outcome.Broken = refl
part_sent true key outcome.Aborted = refl
part_sent true key outcome.Spent = refl

-- a server is awaited once less where this is left of the requests under way
left_takes : (server : ℕ) (old mid new : KeysState) (left : List KeySend) → mid.sends ≡ left
    → new.sends ≡ mid.sends
    → ((n : ℕ) → times_due (servers_of left) n + one_if (server == n)
    ≡ times_due (awaited_servers old) n)
    → TakesAt server None (awaited_servers old) (awaited_servers new)
left_takes server old mid new left is same takes = λ n.
    let now : times_due (awaited_servers new) n ≡ times_due (servers_of left) n =
    ap (λ xs. times_due (servers_of xs) n) (same ∙ is) in omega (arith, now, takes n)

module _ {H T C : Type 0} (health : HealthGhosts H) (trails : TrailsGhosts T) where
  -- what came for each of these keys was counted
  parts_counted : (server : ℕ) (shared : Bool) (came : Outcome) (asked : List AskedKey)
      (parts mid : Parts H (List ℕ) T C) → is_sent came ≡ true
      → Lead IsSendCounted parts (replicate (length asked) server) mid
      → Lead (Interacts (client_ghosts health trails)) parts
      (map (came_with server (λ key. Ok (outcome_by shared key came))) asked) mid
  parts_counted server shared came [] parts mid sent same = same
  parts_counted server shared came (one ∷ asked) parts mid sent (next, first, rest) = (
    next,
    counted health trails server one.request
        (outcome_by shared (key_in_request one.request) came) parts next
        (part_sent shared (key_in_request one.request) came ∙ sent) first,
    parts_counted server shared came asked next mid sent rest,
  )

  -- memory ran out for each of them
  parts_uncounted : (server : ℕ) (asked : List AskedKey) (parts : Parts H (List ℕ) T C)
      → slice_index parts.backend.links server ≢ most_sends
      → Lead (Interacts (client_ghosts health trails)) parts
      (map (came_with server (λ key. Err (record { sent = false }))) asked) parts
  parts_uncounted server [] parts room = refl
  parts_uncounted server (one ∷ asked) parts room = (
    parts,
    uncounted health trails server one.request parts room,
    parts_uncounted server asked parts room,
  )

  came_counted : (config : Configuration) (server : ℕ) (came : Outcome) (keys : KeysState)
      (send : KeySend) (parts mid : Parts H (List ℕ) T C) → AreUnderWay config keys
      → first_send server keys.sends ≡ Some send → is_sent came ≡ true
      → IfSome (keys_first server keys) (λ count. AreSendsCounted server count parts mid)
      → Gains (Interacts (client_ghosts health trails)) parts (came_parts came keys.slots send) mid
  came_counted config server came keys send parts mid ready first sent counts =
      let asked = asked_keys keys.slots send.places in
      let many : AreSendsCounted server (length send.places) parts mid =
      subst (λ o. IfSome (option_map (λ (s : KeySend). length s.places) o)
      (λ count. AreSendsCounted server count parts mid)) first counts in
      let each : Lead IsSendCounted parts (replicate (length asked) send.server) mid =
      subst (λ n. Lead IsSendCounted parts (replicate n send.server) mid)
      (sym (places_asked config server keys send ready first))
      (subst (λ n. Lead IsSendCounted parts (replicate (length send.places) n) mid)
      (sym (first_server server keys.sends send first)) many.leads) in
      record {
        leads = parts_counted send.server (is_some send.line) came asked parts mid sent each;
      }

  -- the keys of a request for which memory ran out
  came_uncounted : (server : ℕ) (slots : List KeySlot) (send : KeySend)
      (parts : Parts H (List ℕ) T C) → send.server ≡ server
      → slice_index parts.backend.links server ≢ most_sends
      → Gains (Interacts (client_ghosts health trails)) parts
      (came_lost false slots send ++ []) parts
  came_uncounted server slots send parts to room =
      let room_there : slice_index parts.backend.links send.server ≢ most_sends =
      subst (λ n. slice_index parts.backend.links n ≢ most_sends) (sym to) room in
      subst (λ done. Gains (Interacts (client_ghosts health trails)) parts done parts)
      (sym (append-nil (came_lost false slots send)))
      (record {
        leads = parts_uncounted send.server (asked_keys slots send.places) parts room_there;
      })

  -- what came of the first request at a server was recorded, and then its keys were taken on
  pub arrived_come : (server : ℕ) (came : Outcome) (old mid new : KeysState)
      (parts counts after : Parts H (List ℕ) T C) (now : H) (items : List HealthItem)
      → AreSettled parts.config old → is_sent came ≡ true
      → IfSome (keys_first server old) (λ count. AreSendsCounted server count parts counts)
      → HasArrived server came old (map Told items) mid
      → Gains health.steps counts.backend.health items now
      → HaveGoneOn (client_ghosts health trails) (mid, with_health now counts) (new, after)
      → HaveActedOnOutcome (client_ghosts health trails) false server (Ok came) (old, parts)
      (new, after)
  arrived_come server came old mid new parts counts after now items was sent counted_all is told
      gone =
      let ghosts = client_ghosts {C = C} health trails in
      let sends : Gains (Interacts ghosts) parts (came_parts came old.slots is.send) counts =
      came_counted parts.config server came old is.send parts counts was.under_way is.first sent
      counted_all in
      let config : counts.config ≡ parts.config = config_kept ghosts sends in
      let then = map Made (map Told items) in
      let first : DoesForKeys ghosts parts.config (old, parts)
      (came_parts came old.slots is.send ++ then) (mid, with_health now counts) = (
        act.arrived server came (map Told items) is refl,
        gains_append sends (gains_told ghosts told),
      ) in record {
        send = is.send;
        is = is.first;
        then = then;
        calls = gone.acted.calls;
        gains = gains_append (gains_one first)
            (subst (λ c. Gains (DoesForKeys ghosts c) (mid, with_health now counts) gone.acted.calls
            (new, after)) config gone.acted.gains);
        takes = left_takes server old mid new (without_first server old.sends)
            (ap (λ (k : KeysState). k.sends) is.state) gone.sends
            (λ n. due_left server old.sends is.send n is.first);
        ready = subst (λ c. AreSettled c new) config gone.ready;
      }

  -- memory ran out for the first request at a server, or before the last one was sent
  pub stopped_come : (unsent : Bool) (server : ℕ) (old mid new : KeysState)
      (parts after : Parts H (List ℕ) T C) → slice_index parts.backend.links server ≢ most_sends
      → HasStoppedAs unsent server old mid
      → HaveGoneOn (client_ghosts health trails) (mid, parts) (new, after)
      → HaveActedOnOutcome (client_ghosts health trails) unsent server
      (Err (record { sent = false })) (old, parts) (new, after)
  stopped_come false server old mid new parts after room is gone =
      let ghosts = client_ghosts {C = C} health trails in
      let first : DoesForKeys ghosts parts.config (old, parts)
      (came_lost false old.slots is.send ++ []) (mid, parts) = (
        act.stopped server false is (append-nil (came_lost false old.slots is.send)),
        came_uncounted server old.slots is.send parts
            (first_server server old.sends is.send is.first) room,
      ) in record {
        send = is.send;
        is = is.first;
        then = [];
        calls = gone.acted.calls;
        gains = gains_append (gains_one first) gone.acted.gains;
        takes = left_takes server old mid new (without_first server old.sends)
            (ap (λ (k : KeysState). k.sends) is.state) gone.sends
            (λ n. due_left server old.sends is.send n is.first);
        ready = gone.ready;
      }
  stopped_come true server old mid new parts after room is gone =
      let ghosts = client_ghosts {C = C} health trails in
      let first : DoesForKeys ghosts parts.config (old, parts)
      (came_lost false old.slots is.send ++ []) (mid, parts) = (
        act.unsent server false is (append-nil (came_lost false old.slots is.send)),
        came_uncounted server old.slots is.send parts is.meets room,
      ) in record {
        send = is.send;
        is = (is.before, is.after, is.are, is.meets, is.last);
        then = [];
        calls = gone.acted.calls;
        gains = gains_append (gains_one first) gone.acted.gains;
        takes = left_takes server old mid new (is.before ++ is.after)
            (ap (λ (k : KeysState). k.sends) is.state) gone.sends
            (λ n. due_between server is.before is.after is.send n is.meets
            ∙ ap (λ xs. times_due (servers_of xs) n) (sym is.are));
        ready = gone.ready;
      }

-- what counting sends, and what came of them, leave of the parts
module _ {H T C : Type 0} {servers : H → ℕ} where
  pub counts_stay : (server : ℕ) (keys : KeysState) (parts counts : Parts H (List ℕ) T C)
      → IsSome (first_send server keys.sends)
      → IfSome (keys_first server keys) (λ count. AreSendsCounted server count parts counts)
      → HasStayed servers parts counts
  counts_stay server keys parts counts some counted_all =
      let found = some_first (first_send server keys.sends) some in
      let many : AreSendsCounted server (length found.0.places) parts counts =
      subst (λ o. IfSome (option_map (λ (s : KeySend). length s.places) o)
      (λ count. AreSendsCounted server count parts counts)) found.1 counted_all in
      all_stay (replicate (length found.0.places) server) parts counts many.leads

  -- health was told of what came
  pub told_stays : (parts : Parts H (List ℕ) T C) (now : H)
      → servers now ≡ servers parts.backend.health → HasStayed servers parts (with_health now parts)
  told_stays parts now same = record { config = refl; health = same; links = refl }
