-- What came of a request that several keys share takes them on.
use Rattle.std.proofs.Common.{◌≡◌, ◌+◌, ◌==◌, ℕ, Bool, true, false, List, [], ◌∷◌, ◌++◌, length}
use Rattle.std.proofs.Common.{map, Option, Some, None, Err, Ok, refl, sym, ap, subst, ◌∙◌}
use Rattle.std.proofs.Common.{append-nil, arith, inl, inr, cond}
use Rattle.std.specs.Prelude.{All, flat_map, slice_get}
use Rattle.std.specs.Option.{is_some}
use Rattle.std.proofs.lemmas.Grind.{flat_map-append}
use Rattle.std.proofs.lemmas.List.Elements.{All-append, All-cons, All-head, All-nil, All-tail}
use Rattle.std.proofs.lemmas.Option.{same_Some}
use Rattle.std.proofs.lemmas.Bool.Decides.{eqb_tells}
use Rattle.tko_model.specs.declared.mark.Reply.{Reply}
use Rattle.tko_links.specs.declared.links.Outcome.{Outcome}
use Rattle.tko_text.specs.declared.request.Request.{Request}
use Rattle.tko_pools.specs.Configs.{Configuration}
use Rattle.tko_route.specs.Calls.{Told, came}
use Rattle.tko_route.specs.Routing.{told_of}
use Rattle.tko_route.specs.Trail.{op_of, record_of}
use Rattle.tko_route.specs.Underway.{Awaited}
use Rattle.tko_reply.specs.Interactions.{Interaction, Made}
use Rattle.tko_links.specs.declared.links.Outcome.TheVariants as outcome
use Rattle.tko_keys.specs.declared.plan.Grouping.TheVariants.{ByServer}
use Rattle.tko_keys.specs.AtOnce.{AskedKey, MayStand, PlacedInteraction, Shared, SharedSend}
use Rattle.tko_keys.specs.AtOnce.{came_for, interactions_of, own_of, record_in}
use Rattle.tko_keys.specs.KeysActs.{asked_keys, came_lost, came_with}
use Rattle.tko_keys.specs.KeysDriven.{AreUnderWay, IsDueAt, IsSentAt, due as due_at, keys_came_of}
use Rattle.tko_keys.specs.KeysSoFar.{ComesTo, KeysSoFar}
use Rattle.tko_keys.specs.KeysState.{KeySend, KeySlot, KeysCame, KeysState}
use Rattle.tko_keys.specs.Lines.{IsSentBy, key_of, outcome_by, outcome_for, part_for_key}
use Rattle.tko_keys.proofs.PlacedLemmas.{all_alone, asked_none, asked_one, each_alone, items_alone}
use Rattle.tko_keys.proofs.PlacedLemmas.{items_each, may_alone, may_each, own_alone, own_apart}
use Rattle.tko_keys.proofs.PlacedLemmas.{own_each, own_more, own_one}
use Rattle.tko_keys.proofs.OutLemmas.{count_at, count_cons}
use Rattle.tko_keys.proofs.CameLemmas.{came_on}

op_same : (shared : Bool) (key : List ℕ) (outcome : Outcome)
    → op_of (outcome_by shared key outcome) ≡ op_of outcome
op_same false key it = refl
op_same true key (outcome.Reply response) = refl
op_same true key outcome.Refused = refl
op_same true key outcome.Timeout = refl
op_same true key outcome.Broken = refl
op_same true key outcome.Aborted = refl
op_same true key outcome.Spent = refl

all_at : (P : ℕ → Type 0) (at : ℕ) (places : List ℕ) → All P places → count_at at places ≡ 1 → P at
all_at P at [] all one = absurd (omega (arith, one))
all_at P at (place ∷ places) all one = elim (eqb_tells place at) [
  | inl eq ↦ subst P eq.1 (All-head P place places all)
  | inr ne ↦
      all_at P at places (All-tail P place places all)
      (omega (arith, one, count_cons at place places, ap {B = ℕ} (λ b. cond b 1 0) ne.0))
]

single : (places : List ℕ) → length places ≡ 1 → (place : ℕ) × (places ≡ place ∷ [])
single [] one = absurd (omega (arith, one))
single (place ∷ []) one = (place, refl)
single (place ∷ other ∷ places) one = absurd (omega (arith, one))

abbrev pub told_to : ℕ → Outcome → Option Reply → List Interaction
told_to server outcome reply = map Made (map Told (record_of server (op_of outcome) reply))

comes_so : (awaited : Awaited) {request : Request} (server : ℕ) (outcome part : Outcome)
    (reply : Option Reply) → awaited.server ≡ server → op_of part ≡ op_of outcome
    → Made (came server request (Ok part)) ∷ told_to server outcome reply ≡ Made
    (came awaited.server request (Ok part)) ∷ map Made (told_of awaited part reply)
comes_so awaited {request} server outcome part reply to op =
    ap (λ n. Made (came n request (Ok part)) ∷ told_to n outcome reply) (sym to)
    ∙ ap (λ o. Made (came awaited.server request (Ok part)) ∷ map Made
    (map Told (record_of awaited.server o reply))) (sym op)

module _ {config : Configuration} {request : Request} {old : KeysState} {done : List Interaction}
    (s : KeysSoFar config request old done) (send : KeySend) (none : old.came.places ≡ [])
    (is : IsSentAt config old.plan.grouping old.unique old.slots send) where
  -- the server that the key of a place waits for
  to_server : (at : ℕ) (slot : KeySlot) (awaited : Awaited) → count_at at send.places ≡ 1
      → slice_get old.slots at ≡ Some slot → slot.awaited ≡ Some awaited
      → awaited.server ≡ send.server
  to_server at slot awaited one there out =
      let due = all_at (λ place. IsDueAt config old.slots (due_at place send.server)) at send.places
      is.each one in
      let same : due.slot ≡ slot = same_Some due.slot slot (sym due.at ∙ there) in
      let waits : due.awaited ≡ awaited =
      same_Some due.awaited awaited (sym due.is.out ∙ ap (λ (k : KeySlot). k.awaited) same
      ∙ out) in
      ap (λ (w : Awaited). w.server) (sym waits) ∙ due.server

  abbrev keys : List AskedKey
  keys = asked_keys old.slots send.places

  -- what came is there for them
  abbrev came_so : Bool → Outcome → Option Reply → KeysCame
  came_so shared outcome reply = record {
    places = send.places;
    shared = shared;
    outcome = Some outcome;
    reply = reply;
  }

  -- the keys of a line
  shared_on : {new : KeysState} {adds : List Interaction} (outcome : Outcome) (reply : Option Reply)
      (line : Request) (sends : List KeySend) → AreUnderWay config new
      → old.plan.grouping ≡ ByServer
      → new ≡ record old { sends = sends; came = came_so true outcome reply }
      → adds ≡ map (came_with send.server (λ key. Ok (outcome_by true key outcome))) keys
      ++ told_to send.server outcome reply → KeysSoFar config request new (done ++ adds)
  shared_on {new} {adds} outcome reply line sends ready together state are =
      let it : SharedSend = record {
        server = send.server;
        outcome = outcome;
        keys = keys;
        reply = reply;
      } in
      let more : List PlacedInteraction = Shared it ∷ [] in
      let came_is : new.came ≡ came_so true outcome reply = ap (λ (k : KeysState). k.came) state in
      let f : AskedKey → List Interaction = λ (one : AskedKey). came_for it one ∷ record_in it in
      subst (λ xs. KeysSoFar config request new (done ++ xs))
      (append-nil (interactions_of (Shared it)) ∙ sym are)
      (came_on s more ready (ap (λ (k : KeysState). k.slots) state)
      (ap (λ (k : KeysState). k.left) state) (ap (λ (k : KeysState). k.unique) state)
      (ap (λ (k : KeysState). k.plan) state) (ap (λ (k : KeysState). k.lost) state) none
      (All-cons (MayStand old.plan.grouping) (Shared it) [] together
      (All-nil (MayStand old.plan.grouping)))
      (λ at zero_it. own_one at (Shared it)
      ∙ asked_none f old.slots at send.places
      (ap (λ (k : KeysCame). count_at at k.places) (sym came_is) ∙ zero_it))
      (λ at slot awaited one_it there out.
      let one : count_at at send.places ≡ 1 =
      ap (λ (k : KeysCame). count_at at k.places) (sym came_is) ∙ one_it in
      let own : own_of at more ≡ f (record { place = at; request = slot.key.request }) =
      own_one at (Shared it) ∙ asked_one f old.slots at slot there send.places one in
      subst (λ (k : KeysCame). ComesTo (part_for_key k (key_of slot)) k.reply awaited slot
      (own_of at more)) (sym came_is)
      (own ∙ comes_so awaited send.server outcome (outcome_for (key_of slot) outcome) reply
      (to_server at slot awaited one there out) (op_same true (key_of slot) outcome))))

  -- a key alone
  alone_on : {new : KeysState} {adds : List Interaction} (outcome : Outcome) (reply : Option Reply)
      (sends : List KeySend) → AreUnderWay config new → length send.places ≡ 1
      → new ≡ record old { sends = sends; came = came_so false outcome reply }
      → adds ≡ map (came_with send.server (λ key. Ok (outcome_by false key outcome))) keys
      ++ told_to send.server outcome reply → KeysSoFar config request new (done ++ adds)
  alone_on {new} {adds} outcome reply sends ready only state are =
      let place = single send.places only in
      let f : AskedKey → Interaction =
      came_with send.server (λ key. Ok (outcome_by false key outcome)) in
      let told : List Interaction = told_to send.server outcome reply in
      let more : List PlacedInteraction = each_alone f keys ++ all_alone place.0 told in
      let came_is : new.came ≡ came_so false outcome reply = ap (λ (k : KeysState). k.came) state in
      let items : flat_map interactions_of more ≡ adds =
      flat_map-append interactions_of (each_alone f keys) (all_alone place.0 told)
      ∙ ap (λ xs. xs ++ flat_map interactions_of (all_alone place.0 told)) (items_each f keys)
      ∙ ap (λ xs. map f keys ++ xs) (items_alone place.0 told) ∙ sym are in
      let count_one : (at : ℕ) → count_at at send.places ≡ cond (place.0 == at) 1 0 + 0 =
      λ at. ap (count_at at) place.1 ∙ count_cons at place.0 [] in
      subst (λ xs. KeysSoFar config request new (done ++ xs)) items
      (came_on s more ready (ap (λ (k : KeysState). k.slots) state)
      (ap (λ (k : KeysState). k.left) state) (ap (λ (k : KeysState). k.unique) state)
      (ap (λ (k : KeysState). k.plan) state) (ap (λ (k : KeysState). k.lost) state) none
      (All-append (MayStand old.plan.grouping) (each_alone f keys) (all_alone place.0 told)
      (may_each old.plan.grouping f keys) (may_alone old.plan.grouping place.0 told))
      (λ at zero_it.
      let zero_here : count_at at send.places ≡ 0 =
      ap (λ (k : KeysCame). count_at at k.places) (sym came_is) ∙ zero_it in
      own_more (each_alone f keys) (all_alone place.0 told) at
      ∙ ap (λ xs. xs ++ own_of at (all_alone place.0 told))
      (own_each f at keys ∙ asked_none
      (λ (one : AskedKey). f one ∷ []) old.slots at send.places zero_here)
      ∙ elim (eqb_tells place.0 at) [
        | inl eq ↦ absurd (omega
            (arith, zero_here, count_one at, ap {B = ℕ} (λ b. cond b 1 0) eq.0))
        | inr ne ↦ own_apart place.0 at told (λ e. ne.1 (sym e))
      ])
      (λ at slot awaited one_it there out.
      let one : count_at at send.places ≡ 1 =
      ap (λ (k : KeysCame). count_at at k.places) (sym came_is) ∙ one_it in
      let own : own_of at more ≡ f (record { place = at; request = slot.key.request }) ∷ told =
      own_more (each_alone f keys) (all_alone place.0 told) at
      ∙ ap (λ xs. xs ++ own_of at (all_alone place.0 told))
      (own_each f at keys ∙ asked_one
      (λ (it : AskedKey). f it ∷ []) old.slots at slot there send.places one)
      ∙ elim (eqb_tells place.0 at) [
        | inl eq ↦
            ap (λ xs. f (record { place = at; request = slot.key.request }) ∷ xs)
            (ap (λ n. own_of n (all_alone place.0 told)) (sym eq.1) ∙ own_alone place.0 told)
        | inr ne ↦ absurd (omega (arith, one, count_one at, ap {B = ℕ} (λ b. cond b 1 0) ne.0))
      ] in
      subst (λ (k : KeysCame). ComesTo (part_for_key k (key_of slot)) k.reply awaited slot
      (own_of at more)) (sym came_is)
      (own ∙ comes_so awaited send.server outcome outcome reply
      (to_server at slot awaited one there out) refl)))

  pub arrived_by : {new : KeysState} {adds : List Interaction} (outcome : Outcome)
      (reply : Option Reply) (sends : List KeySend) (line : Option Request) → AreUnderWay config new
      → IsSentBy old.plan.grouping old.unique old.slots send.places line
      → new ≡ record old { sends = sends; came = came_so (is_some line) outcome reply }
      → adds ≡ map (came_with send.server (λ key. Ok (outcome_by (is_some line) key outcome))) keys
      ++ told_to send.server outcome reply → KeysSoFar config request new (done ++ adds)
  arrived_by outcome reply sends None ready by state are =
      alone_on outcome reply sends ready by state are
  arrived_by outcome reply sends (Some line) ready by state are =
      shared_on outcome reply line sends ready by.0 state are

  -- memory ran out for them
  pub lost_by : {new : KeysState} {adds : List Interaction} (was_sent : Bool) (sends : List KeySend)
      → AreUnderWay config new
      → new ≡ record old { sends = sends; came = keys_came_of send None None }
      → adds ≡ came_lost was_sent old.slots send → KeysSoFar config request new (done ++ adds)
  lost_by {new} {adds} was_sent sends ready state are =
      let f : AskedKey → Interaction =
      came_with send.server (λ key. Err (record { sent = was_sent })) in
      let more : List PlacedInteraction = each_alone f keys in
      let came_is : new.came ≡ keys_came_of send None None = ap (λ (k : KeysState). k.came) state in
      subst (λ xs. KeysSoFar config request new (done ++ xs)) (items_each f keys ∙ sym are)
      (came_on s more ready (ap (λ (k : KeysState). k.slots) state)
      (ap (λ (k : KeysState). k.left) state) (ap (λ (k : KeysState). k.unique) state)
      (ap (λ (k : KeysState). k.plan) state) (ap (λ (k : KeysState). k.lost) state) none
      (may_each old.plan.grouping f keys)
      (λ at zero_it.
      own_each f at keys ∙ asked_none (λ (one : AskedKey). f one ∷ []) old.slots at send.places
      (ap (λ (k : KeysCame). count_at at k.places) (sym came_is) ∙ zero_it))
      (λ at slot awaited one_it there out.
      let one : count_at at send.places ≡ 1 =
      ap (λ (k : KeysCame). count_at at k.places) (sym came_is) ∙ one_it in
      let own : own_of at more ≡ f (record { place = at; request = slot.key.request }) ∷ [] =
      own_each f at keys ∙ asked_one
      (λ (it : AskedKey). f it ∷ []) old.slots at slot there send.places one in
      subst (λ (k : KeysCame). ComesTo (part_for_key k (key_of slot)) k.reply awaited slot
      (own_of at more)) (sym came_is) (
        was_sent,
        own ∙ ap (λ n. Made (came n slot.key.request (Err (record {
          sent = was_sent;
        }))) ∷ []) (sym (to_server at slot awaited one there out)),
      )))
