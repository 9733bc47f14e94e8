-- The requests that are lent, and the attempts before them.
use Rattle.std.proofs.Common.{◌≡◌, ◌<◌, ◌-◌, ℕ, zero, suc, Bool, false, List, [], ◌∷◌, ◌++◌, length}
use Rattle.std.proofs.Common.{None, Some, refl, sym, ap, subst, ◌∙◌, arith}
use Rattle.std.specs.Prelude.{All, slice_get, slice_index_or}
use Rattle.std.specs.List.{list_all}
use Rattle.std.specs.Option.{option_and_then, option_map}
use Rattle.std.proofs.lemmas.List.Elements.{All-head, All-tail}
use Rattle.std.proofs.lemmas.Option.{none-some, same_Some, slice_get_read}
use Rattle.tko_text.specs.declared.request.Request.{Request}
use Rattle.tko_keys.specs.KeysState.{DueKey, HavePlaces, KeySend, KeySlot, KeysCame, KeysState}
use Rattle.tko_keys.specs.KeysState.{asked_first, asked_last, attempts_at, attempts_last}
use Rattle.tko_keys.specs.KeysState.{attempts_of, first_send, has_next_at, has_next_first}
use Rattle.tko_keys.specs.KeysState.{has_next_sent, key_places_in, keys_first, request_of}
use Rattle.tko_keys.proofs.OutLemmas.{all_split, due_places, send_places}

send_within : (P : ℕ → Type 0) (sends : List KeySend) (i : ℕ) (send : KeySend)
    → slice_get sends i ≡ Some send → All P (send_places sends) → All P send.places
send_within P [] i send at all = absurd (none-some send at)
send_within P (one ∷ sends) zero send at all =
    subst (λ (k : KeySend). All P k.places) (same_Some one send at)
    (all_split P one.places (send_places sends) all).0
send_within P (one ∷ sends) (suc i) send at all =
    send_within P sends i send at (all_split P one.places (send_places sends) all).1

-- the keys of a request were begun
pub send_has : (slots : List KeySlot) (due : List DueKey) (sends : List KeySend) (came : KeysCame)
    (i : ℕ) (send : KeySend) → HavePlaces slots (key_places_in due sends came)
    → slice_get sends i ≡ Some send
    → HavePlaces slots send.places
send_has slots due sends came i send have at =
    let P : ℕ → Type 0 = λ place. place < length slots in
    send_within P sends i send at (all_split P (send_places sends) came.places
    (all_split P (due_places due) (send_places sends ++ came.places) have).1).0

last_within : {X : Type 0} (xs : List X) → (xs ≡ [] → ⊥) → length xs - 1 < length xs
last_within [] some = absurd (some refl)
last_within (x ∷ xs) some = omega arith

-- the last one, as it is read
pub read_last : {X : Type 0} (xs : List X) (n : ℕ) (read : X) → (xs ≡ [] → ⊥) → n ≡ length xs
    → read ≡ slice_index_or xs (n - 1) read → slice_get xs (length xs - 1) ≡ Some read
read_last xs n read some count is =
    slice_get_read xs (length xs) (length xs - 1) read refl (last_within xs some)
    (is ∙ ap (λ k. slice_index_or xs (k - 1) read) count)

pub last_request : {state old : KeysState} {send : KeySend} {request : Request} → state ≡ old
    → slice_get state.sends (length state.sends - 1) ≡ Some send
    → request_of state.slots send ≡ Some request
    → asked_last old ≡ Some request
last_request {state} same at is =
    sym (ap asked_last same) ∙ ap (option_and_then (request_of state.slots)) at ∙ is

pub first_request : {state old : KeysState} {send : KeySend} {request : Request} (server : ℕ)
    → state ≡ old → first_send server state.sends ≡ Some send
    → request_of state.slots send ≡ Some request
    → asked_first server old ≡ Some request
first_request {state} server same at is =
    sym (ap (asked_first server) same) ∙ ap (option_and_then (request_of state.slots)) at ∙ is

pub first_keys : {state old : KeysState} {send : KeySend} {count : ℕ} (server : ℕ) → state ≡ old
    → first_send server state.sends ≡ Some send → count ≡ length send.places
    → keys_first server old ≡ Some count
first_keys {state} server same at is =
    sym (ap (keys_first server) same) ∙ ap (option_map (λ (k : KeySend). length k.places)) at
    ∙ ap Some (sym is)

-- whether each key of the first request has another target
pub first_next : {state old : KeysState} {send : KeySend} {answer : Bool} (server : ℕ)
    → state ≡ old → first_send server state.sends ≡ Some send
    → answer ≡ list_all (has_next_at state.slots) send.places
    → answer ≡ has_next_first server old
first_next {state} server same at is =
    is ∙ sym (ap (has_next_sent state.slots) at) ∙ ap (has_next_first server) same

pub none_next : {state old : KeysState} (server : ℕ) → state ≡ old
    → first_send server state.sends ≡ None
    → false ≡ has_next_first server old
none_next {state} server same none =
    sym (ap (has_next_sent state.slots) none) ∙ ap (has_next_first server) same

due_within : (P : ℕ → Type 0) (due : List DueKey) (i : ℕ) (it : DueKey) → slice_get due i ≡ Some it
    → All P (due_places due) → P it.place
due_within P [] i it at all = absurd (none-some it at)
due_within P (one ∷ due) zero it at all =
    subst (λ (k : DueKey). P k.place) (same_Some one it at)
    (All-head P one.place (due_places due) all)
due_within P (one ∷ due) (suc i) it at all =
    due_within P due i it at (All-tail P one.place (due_places due) all)

-- the key that is due was begun
due_has : (slots : List KeySlot) (due : List DueKey) (sends : List KeySend) (came : KeysCame)
    (i : ℕ) (it : DueKey) → HavePlaces slots (key_places_in due sends came)
    → slice_get due i ≡ Some it
    → it.place < length slots
due_has slots due sends came i it have at =
    let P : ℕ → Type 0 = λ place. place < length slots in
    due_within P due i it at (all_split P (due_places due)
    (send_places sends ++ came.places) have).0

-- the key that was due last, as it is read
pub last_due : {state old : KeysState} (count : ℕ) (it : DueKey) → state ≡ old → (old.due ≡ [] → ⊥)
    → count ≡ length state.due → it ≡ slice_index_or state.due (count - 1) it
    → HavePlaces state.slots (key_places_in state.due state.sends state.came)
    → (slice_get state.due (length state.due - 1) ≡ Some it) × (it.place < length state.slots)
last_due {state} count it same some len read have =
    let at = read_last state.due count it
    (λ none. some (ap (λ (s : KeysState). s.due) (sym same) ∙ none)) len read in
    (at, due_has state.slots state.due state.sends state.came _ it have at)

pub last_attempts : {state old : KeysState} {it : DueKey} (found : KeySlot) → state ≡ old
    → slice_get state.due (length state.due - 1) ≡ Some it → it.place < length state.slots
    → found ≡ slice_index_or state.slots it.place found
    → attempts_last old ≡ Some (attempts_of found.awaited)
last_attempts {state} {old} {it} found same at within read =
    sym (ap attempts_last same) ∙ ap (option_and_then (attempts_at state.slots)) at
    ∙ ap (option_map (λ (slot : KeySlot). attempts_of slot.awaited))
    (slice_get_read state.slots (length state.slots) it.place found refl within read)
