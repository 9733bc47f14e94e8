-- How many keys are out after a call, and that there is room for them.
use Rattle.std.proofs.Common.{◌≡◌, ◌<◌, ◌≤◌, ◌+◌, ◌-◌, ℕ, Bool, List, [], ◌∷◌, ◌++◌, length}
use Rattle.std.proofs.Common.{length-append, sym, ap, subst, arith}
use Rattle.std.specs.Prelude.{All}
use Rattle.std.proofs.lemmas.List.Elements.{All-cons, All-head, All-nil, All-tail}
use Rattle.tko_pools.specs.Configs.{Configuration}
use Rattle.tko_route.specs.Calls.{RoutedCall}
use Rattle.tko_route.specs.declared.attempt.Attempt.{Attempt}
use Rattle.tko_keys.specs.declared.step.KeyStep.{KeyStep}
use Rattle.tko_keys.specs.declared.plan.Grouping.{Grouping}
use Rattle.tko_keys.specs.KeysDriven.{AreUnderWay, IsSentAt, due_by}
use Rattle.tko_keys.specs.KeysState.{DueKey, HavePlaces, KeySend, KeySlot, KeysCame, KeysState}
use Rattle.tko_keys.specs.KeysState.{key_places_in, places_out}
use Rattle.tko_keys.specs.KeyLines.{IsFirstDue}
use Rattle.tko_keys.specs.SlotCalls.{PartDropped}
use Rattle.tko_keys.specs.SlotCalls as parted
use Rattle.tko_keys.proofs.OutLemmas.{all_split, due_places, length_in, send_places}
use Rattle.tko_keys.proofs.EndLemmas.{some_place}

-- how many keys are out once one was taken on
pub out_taken : (due : List DueKey) (sends : List KeySend) (came left : KeysCame) (place : ℕ)
    (places : List ℕ) (said : KeyStep) (out now : ℕ) → out ≡ length (key_places_in due sends came)
    → came.places ≡ place ∷ places → left.places ≡ places
    → now ≡ (out - 1) + length (due_by place said)
    → now ≡ length (key_places_in (due ++ due_by place said) sends left)
out_taken due sends came left place places said out now was first rest is =
    omega (
      arith,
      was,
      is,
      length_in due sends came,
      length_in (due ++ due_by place said) sends left,
      length-append due
          (due_by place said),
      ap length first,
      ap length rest,
    )

-- one was, and so room is there for it where it is due again
pub room_taken : (due : List DueKey) (sends : List KeySend) (came : KeysCame) (place : ℕ)
    (places : List ℕ) (out room : ℕ) → out ≡ length (key_places_in due sends came)
    → came.places ≡ place ∷ places → out ≤ room → (length due < room) × (1 ≤ out)
room_taken due sends came place places out room was first fits = (
  omega (arith, was, length_in due sends came, ap length first, fits),
  omega (arith, was, length_in due sends came, ap length first),
)

-- the keys that are left of a request, where memory ran out for one
pub dropped_places : {config : Configuration} {came left : KeysCame} {slot after : KeySlot}
    {calls : List RoutedCall} {attempts : List Attempt}
    → PartDropped config came slot calls attempts left after
    → left.places ≡ came.places
dropped_places (parted.in_call part awaited is_part out dropped leaves) =
    ap (λ (k : KeysCame). k.places) leaves.same
dropped_places (parted.before awaited out none tried same gone) =
    ap (λ (k : KeysCame). k.places) same

pub out_dropped : (due : List DueKey) (sends : List KeySend) (came left : KeysCame) (place : ℕ)
    (places : List ℕ) (out : ℕ) → out ≡ length (key_places_in due sends came)
    → came.places ≡ place ∷ places → left.places ≡ places
    → out - 1 ≡ length (key_places_in due sends left)
out_dropped due sends came left place places out was first rest =
    omega (
      arith,
      was,
      length_in due sends came,
      length_in due sends left,
      ap length first,
      ap length rest,
    )

each_due : (P : ℕ → Type 0) (due : List DueKey) → All P (due_places due)
    → All (λ (d : DueKey). P d.place) due
each_due P [] all = All-nil (λ (d : DueKey). P d.place)
each_due P (it ∷ due) all =
    All-cons (λ (d : DueKey). P d.place) it due (All-head P it.place (due_places due) all)
    (each_due P due (All-tail P it.place (due_places due) all))

due_parts : (P : ℕ → Type 0) (before after : List DueKey) (it : DueKey)
    → All P (due_places (before ++ it ∷ after))
    → P it.place × All (λ (d : DueKey). P d.place) (before ++ after)
due_parts P [] after it all = (
  All-head P it.place (due_places after) all,
  each_due P after (All-tail P it.place (due_places after) all),
)
due_parts P (one ∷ before) after it all =
    let rest = due_parts P before after it
    (All-tail P one.place (due_places (before ++ it ∷ after)) all) in (
      rest.0,
      All-cons (λ (d : DueKey). P d.place) one (before ++ after)
          (All-head P one.place (due_places (before ++ it ∷ after)) all) rest.1,
    )

-- the first key that is due at a server, and the others, were begun
pub first_due_has : {server : ℕ} {due due' : List DueKey} {it : DueKey} (slots : List KeySlot)
    (sends : List KeySend) (came : KeysCame) → HavePlaces slots (key_places_in due sends came)
    → IsFirstDue server due it due'
    → (it.place < length slots) × All (λ (d : DueKey). d.place < length slots) due'
first_due_has {server} {due} {due'} {it} slots sends came have first =
    let P : ℕ → Type 0 = λ place. place < length slots in
    let all = (all_split P (due_places due) (send_places sends ++ came.places) have).0 in
    let parts = due_parts P first.before first.after it
    (subst (λ ds. All P (due_places ds)) first.are all) in
    (parts.0, subst (All (λ (d : DueKey). d.place < length slots)) (sym first.others) parts.1)

sends_few : {config : Configuration} (grouping : Grouping) (unique : Bool) (slots : List KeySlot)
    (sends : List KeySend) → All (IsSentAt config grouping unique slots) sends
    → length sends ≤ length (send_places sends)
sends_few grouping unique slots [] all = omega arith
sends_few {config} grouping unique slots (send ∷ sends) all =
    let first = All-head (IsSentAt config grouping unique slots) send sends all in
    let rest = sends_few grouping unique slots sends
    (All-tail (IsSentAt config grouping unique slots) send sends all) in
    omega (
      arith,
      some_place grouping unique slots send.places send.line first.by,
      rest,
      length-append send.places (send_places sends),
    )

-- there is room for one request more while a key is due
pub send_room : {config : Configuration} {server : ℕ} {state : KeysState} {due' : List DueKey}
    {it : DueKey} (out room : ℕ) → AreUnderWay config state → IsFirstDue server state.due it due'
    → out ≡ length (places_out state) → out ≤ room → length state.sends < room
send_room {state = state} {it = it} out room ready first was fits =
    omega (
      arith,
      was,
      fits,
      length_in state.due state.sends state.came,
      sends_few state.plan.grouping state.unique state.slots state.sends ready.sent,
      ap length first.are,
      length-append first.before (it ∷ first.after),
    )
