-- What a value of the keys keeps of itself: places of keys, how many are out, and bytes of
-- responses.
use Rattle.std.proofs.Common.{◌≡◌, ◌<◌, ◌+◌, ◌-◌, ◌^◌, ℕ, List, [], ◌∷◌, ◌++◌, length}
use Rattle.std.proofs.Common.{length-append, min, Some, sym, ap, subst, ◌∙◌, arith}
use Rattle.std.specs.Prelude.{All, slice_get, slice_index_or, slice_set}
use Rattle.std.proofs.lemmas.Grind.{flat_map-append}
use Rattle.std.proofs.lemmas.List.Elements.{All-append, All-head, All-map, All-nil, All-tail}
use Rattle.std.proofs.lemmas.List.Sums.{sum_by-set, sum_by_push}
use Rattle.std.proofs.lemmas.Option.{get_or_from_slice_get, slice_get_within}
use Rattle.tko_pools.specs.Configs.{Configuration}
use Rattle.tko_keys.specs.declared.step.KeyStep.{KeyStep}
use Rattle.tko_keys.specs.KeysDriven.{AreUnderWay, IsSentAt, due_by}
use Rattle.tko_keys.specs.KeysState.{DueKey, HavePlaces, KeySend, KeySlot, KeysCame, KeysState}
use Rattle.tko_keys.specs.KeysState.{bytes_held_in, first_send, key_places_in, places_out}
use Rattle.tko_keys.specs.KeysState.{without_first}
use Rattle.tko_keys.proofs.SendLemmas.{send_found}
use Rattle.tko_keys.proofs.OutLemmas.{all_split, due_places, length_in, send_places}

abbrev Within : List KeySlot → ℕ → Type 0
Within slots place = place < length slots

sends_have : {config : Configuration} (state : KeysState) (sends : List KeySend)
    → All (IsSentAt config state.plan.grouping state.unique state.slots) sends
    → All (Within state.slots) (send_places sends)
sends_have state [] all = All-nil (Within state.slots)
sends_have {config} state (send ∷ sends) all =
    let first = All-head (IsSentAt config state.plan.grouping state.unique state.slots) send sends
    all in
    let rest = All-tail (IsSentAt config state.plan.grouping state.unique state.slots) send sends
    all in
    All-append (Within state.slots) send.places (send_places sends)
    (λ k d within. slice_get_within state.slots (slice_index_or send.places k d)
    (first.each k d within).slot (first.each k d within).at)
    (sends_have state sends rest)

-- each key that is out was begun
pub places_of : {config : Configuration} (state : KeysState) → AreUnderWay config state
    → HavePlaces state.slots (places_out state)
places_of {config} state ready =
    let due : All (Within state.slots) (due_places state.due) =
    All-map (Within state.slots) (λ (it : DueKey). it.place) state.due
    (λ k d within. slice_get_within state.slots (slice_index_or state.due k d).place
    (ready.due k d within).slot (ready.due k d within).at) in
    let came : All (Within state.slots) state.came.places =
    λ k d within. slice_get_within state.slots (slice_index_or state.came.places k d)
    (ready.came.each k d within).slot (ready.came.each k d within).at in
    All-append (Within state.slots) (due_places state.due)
    (send_places state.sends ++ state.came.places) due
    (All-append (Within state.slots) (send_places state.sends) state.came.places
    (sends_have state state.sends ready.sent) came)

module _ (slots : List KeySlot) (due : List DueKey) (sends sends' before after : List KeySend)
    (send : KeySend) (came came' : KeysCame) (are : sends ≡ before ++ send ∷ after)
    (left : sends' ≡ before ++ after)
    (none : came.places ≡ []) (now : came'.places ≡ send.places) where
  was_places : send_places sends ≡ send_places before ++ (send.places ++ send_places after)
  was_places = ap send_places are
      ∙ flat_map-append (λ (one : KeySend). one.places) before (send ∷ after)

  left_places : send_places sends' ≡ send_places before ++ send_places after
  left_places = ap send_places left ∙ flat_map-append (λ (one : KeySend). one.places) before after

  -- where something came of a request, its keys are out still
  came_places : HavePlaces slots (key_places_in due sends came)
      → HavePlaces slots (key_places_in due sends' came')
  came_places have =
      let P = Within slots in
      let parts = all_split P (due_places due) (send_places sends ++ came.places) have in
      let sent = all_split P (send_places sends) came.places parts.1 in
      let all = all_split P (send_places before) (send.places ++ send_places after)
      (subst (All P) was_places sent.0) in
      let rest = all_split P send.places (send_places after) all.1 in
      All-append P (due_places due) (send_places sends' ++ came'.places) parts.0
      (All-append P (send_places sends') came'.places
      (subst (All P) (sym left_places)
      (All-append P (send_places before) (send_places after) all.0 rest.1))
      (subst (All P) (sym now) rest.0))

  came_out : length (key_places_in due sends' came') ≡ length (key_places_in due sends came)
  came_out =
      omega (
        arith,
        length_in due sends' came',
        length_in due sends came,
        ap length was_places,
        ap length left_places,
        length-append (send_places before) (send.places ++ send_places after),
        length-append send.places (send_places after),
        length-append (send_places before) (send_places after),
        ap length now,
        ap length none,
      )

-- a request of which something came, and its keys, which are as many as before
pub came_kept : (slots : List KeySlot) (due : List DueKey)
    (sends sends' before after : List KeySend)
    (send : KeySend) (came came' : KeysCame) {out : ℕ} → sends ≡ before ++ send ∷ after
    → sends' ≡ before ++ after → came.places ≡ [] → came'.places ≡ send.places
    → HavePlaces slots (key_places_in due sends came)
    → out ≡ length (key_places_in due sends came)
    → HavePlaces slots (key_places_in due sends' came')
    × (out ≡ length (key_places_in due sends' came'))
came_kept slots due sends sends' before after send came came' are left none now have count = (
  came_places slots due sends sends' before after send came came' are left none now have,
  count ∙ sym (came_out slots due sends sends' before after send came came' are left none now),
)

-- the same of the first at a server
pub first_kept : (server : ℕ) (slots : List KeySlot) (due : List DueKey)
    (sends sends' : List KeySend)
    (send : KeySend) (came came' : KeysCame) {out : ℕ} → first_send server sends ≡ Some send
    → sends' ≡ without_first server sends → came.places ≡ [] → came'.places ≡ send.places
    → HavePlaces slots (key_places_in due sends came)
    → out ≡ length (key_places_in due sends came)
    → HavePlaces slots (key_places_in due sends' came')
    × (out ≡ length (key_places_in due sends' came'))
first_kept server slots due sends sends' send came came' first left none now have count =
    let it = send_found server sends send first in
    came_kept slots due sends sends' it.before it.after send came came' it.are
    (left ∙ it.others) none now have count

-- how many keys are out once one came to this
pub said_out : (due : List DueKey) (sends : List KeySend) (came : KeysCame) (place : ℕ)
    (said : KeyStep)
    → length (key_places_in (due ++ due_by place said) sends came) ≡ length
    (key_places_in due sends came) + length (due_by place said)
said_out due sends came place said =
    omega (
      arith,
      length_in (due ++ due_by place said) sends came,
      length_in due sends came,
      length-append due (due_by place said),
    )

held_more : (sum sum' n held now : ℕ) → held ≡ min sum (2 ^ 64 - 1) → sum' ≡ sum + n
    → now ≡ min (held + n) (2 ^ 64 - 1) → now ≡ min sum' (2 ^ 64 - 1)
held_more sum sum' n held now was more is = omega (arith, was, more, is)

-- a key that had no response came further
pub held_set : (slots : List KeySlot) (place : ℕ) (was after : KeySlot) (n held now : ℕ)
    → slice_get slots place ≡ Some was → was.outbox ≡ []
    → held ≡ min (bytes_held_in slots) (2 ^ 64 - 1)
    → n ≡ length after.outbox → now ≡ min (held + n) (2 ^ 64 - 1)
    → now ≡ min (bytes_held_in (slice_set slots place after)) (2 ^ 64 - 1)
held_set slots place was after n held now at empty kept count is =
    let sums = sum_by-set (λ (slot : KeySlot). length slot.outbox) slots place after was
    (slice_get_within slots place was at) in
    let none : length (slice_index_or slots place was).outbox ≡ 0 =
    ap (λ (slot : KeySlot). length slot.outbox) (get_or_from_slice_get slots place was was at)
    ∙ ap length empty in
    held_more (bytes_held_in slots) (bytes_held_in (slice_set slots place after)) n held now kept
    (omega (arith, sums, none, count)) is

-- a key was begun
pub held_push : (slots slots' : List KeySlot) (after : KeySlot) (n held now : ℕ)
    → slots' ≡ slots ++ after ∷ [] → held ≡ min (bytes_held_in slots) (2 ^ 64 - 1)
    → n ≡ length after.outbox → now ≡ min (held + n) (2 ^ 64 - 1)
    → now ≡ min (bytes_held_in slots') (2 ^ 64 - 1)
held_push slots slots' after n held now more kept count is =
    held_more (bytes_held_in slots) (bytes_held_in slots') n held now kept
    (ap bytes_held_in more ∙ sum_by_push (λ (slot : KeySlot). length slot.outbox) slots after
    ∙ ap (λ k. bytes_held_in slots + k) (sym count)) is

-- a key keeps its response
pub held_same : (slots : List KeySlot) (place : ℕ) (was after : KeySlot) (held : ℕ)
    → slice_get slots place ≡ Some was → after.outbox ≡ was.outbox
    → held ≡ min (bytes_held_in slots) (2 ^ 64 - 1)
    → held ≡ min (bytes_held_in (slice_set slots place after)) (2 ^ 64 - 1)
held_same slots place was after held at same kept =
    let sums = sum_by-set (λ (slot : KeySlot). length slot.outbox) slots place after was
    (slice_get_within slots place was at) in
    let before : length (slice_index_or slots place was).outbox ≡ length was.outbox =
    ap (λ (slot : KeySlot). length slot.outbox) (get_or_from_slice_get slots place was was at) in
    let stays : bytes_held_in (slice_set slots place after) ≡ bytes_held_in slots =
    omega (arith, sums, before, ap length same) in
    kept ∙ ap (λ k. min k (2 ^ 64 - 1)) (sym stays)
