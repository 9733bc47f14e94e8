-- Each call leaves what the next one needs.
use Rattle.std.proofs.Common.{◌≡◌, ℕ, Bool, List, [], ◌∷◌, ◌++◌, length, length-append, map, Option}
use Rattle.std.proofs.Common.{Some, None, refl, sym, ap, subst, ◌∙◌, append-nil, arith}
use Rattle.std.specs.Prelude.{All}
use Rattle.std.specs.Option.{is_some}
use Rattle.std.proofs.lemmas.Grind.{flat_map-append}
use Rattle.std.proofs.lemmas.List.{length-map}
use Rattle.std.proofs.lemmas.List.Elements.{All-append, All-cons, All-head, All-nil, All-tail}
use Rattle.tko_model.specs.declared.mark.Reply.{Reply}
use Rattle.tko_text.specs.declared.request.Request.{Request}
use Rattle.tko_links.specs.declared.links.Outcome.{Outcome}
use Rattle.tko_pools.specs.Configs.{Configuration}
use Rattle.tko_route.specs.Calls.{RoutedCall}
use Rattle.tko_route.specs.declared.attempt.Attempt.{Attempt}
use Rattle.tko_keys.specs.declared.plan.Grouping.{Grouping}
use Rattle.tko_keys.specs.declared.step.KeyStep.{KeyStep}
use Rattle.tko_keys.specs.KeysDriven.{AreUnderWay, FirstLost, FirstTaken, HasArrived, HasSent}
use Rattle.tko_keys.specs.KeysDriven.{HasStopped, HaveParts, IsDueAt, IsSentAt, IsUnsent, NextBegun}
use Rattle.tko_keys.specs.KeysDriven.{NextLost, due as due_at, keys_came_of, with_loss}
use Rattle.tko_keys.specs.KeysState.{KeySend, KeySlot, KeysState}
use Rattle.tko_keys.specs.Lines.{IsSentBy, key_at}
use Rattle.tko_keys.specs.SlotCalls.{CanGoOn}
use Rattle.tko_keys.specs.KeysDriven as driven
use Rattle.tko_keys.proofs.SendLemmas.{send_found}
use Rattle.tko_keys.proofs.OutLemmas.{all_split, count_append, count_at, count_in, length_in}
use Rattle.tko_keys.proofs.OutLemmas.{send_places}
use Rattle.tko_keys.proofs.ReadyLemmas.{RestStep, rest_ready, step_ready}
use Rattle.tko_keys.proofs.StepLemmas.{next_lost_step, next_step, taken_lost_step, taken_step}
use Rattle.tko_keys.proofs.PicksLemmas.{picks_count, picks_go, picks_length, picks_stay}

parts_of : (slots : List KeySlot) (unique : Bool) (grouping : Grouping) (places : List ℕ)
    (line : Option Request) → IsSentBy grouping unique slots places line
    → HaveParts (is_some line) (map (key_at slots) places)
parts_of slots unique grouping places None by = omega (arith, by, length-map places (key_at slots))
parts_of slots unique grouping places (Some line) by = by.2.apart

-- memory ran out, and nothing else changed
pub loss_ready : {config : Configuration} {old new : KeysState} → AreUnderWay config old
    → new ≡ with_loss old → AreUnderWay config new
loss_ready {config} {old} ready is =
    subst (AreUnderWay config) (sym is)
    (record {
      due = ready.due;
      sent = ready.sent;
      came = ready.came;
      once = ready.once;
      some = ready.some;
      few = ready.few;
      near = ready.near;
      failed = ready.failed;
    })

module _ {config : Configuration} {old new : KeysState} (ready : AreUnderWay config old) where
  -- a request was made of keys that were due
  pub sent_rest : {server : ℕ} {short : Bool} → HasSent server short old new
      → RestStep config old new
  sent_rest {server} it =
      let send = it.send in
      let all : send_places (old.sends ++ send ∷ []) ≡ send_places old.sends ++ send.places =
      flat_map-append (λ (one : KeySend). one.places) old.sends (send ∷ [])
      ∙ ap (λ xs. send_places old.sends ++ xs) (append-nil send.places) in
      let Sent : KeySend → Type 0 = IsSentAt config old.plan.grouping old.unique old.slots in
      let this : Sent send = record {
        each =
            subst (λ n. All (λ place. IsDueAt config old.slots (due_at place n)) send.places)
            (sym it.to)
            (picks_go (IsDueAt config old.slots) it.picks ready.due);
        by = it.by;
      } in
      subst (RestStep config old) (sym it.state) (record {
        slots = refl;
        plan = refl;
        unique = refl;
        failed = refl;
        due = picks_stay (IsDueAt config old.slots) it.picks ready.due;
        sent = All-append Sent old.sends (send ∷ []) ready.sent
            (All-cons Sent send [] this (All-nil Sent));
        came = ready.came;
        count = λ at.
            omega (
              arith,
              count_in at it.stay (old.sends ++ send ∷ []) old.came,
              count_in at old.due old.sends old.came,
              ap (count_at at) all,
              count_append at (send_places old.sends) send.places,
              picks_count at it.picks,
            );
        as_many =
            omega (
              arith,
              length_in it.stay (old.sends ++ send ∷ []) old.came,
              length_in old.due old.sends old.came,
              ap length all,
              length-append (send_places old.sends) send.places,
              picks_length it.picks,
            );
      })

  pub sent_ready : {server : ℕ} {short : Bool} → HasSent server short old new
      → AreUnderWay config new
  sent_ready it = rest_ready ready (sent_rest it)

  -- something came of a request under way
  pub came_rest : (before after : List KeySend) (send : KeySend) (outcome : Option Outcome)
      (reply : Option Reply) → old.sends ≡ before ++ send ∷ after → old.came.places ≡ []
      → CanGoOn (keys_came_of send outcome reply)
      → new ≡ record old { sends = before ++ after; came = keys_came_of send outcome reply }
      → RestStep config old new
  came_rest before after send outcome reply are none goes_on state =
      let Sent : KeySend → Type 0 = IsSentAt config old.plan.grouping old.unique old.slots in
      let parts = all_split Sent before (send ∷ after) (subst (All Sent) are ready.sent) in
      let this : Sent send = All-head Sent send after parts.1 in
      let was : send_places old.sends ≡ send_places before ++ (send.places ++ send_places after) =
      ap send_places are ∙ flat_map-append (λ (one : KeySend). one.places) before (send ∷ after) in
      let left : send_places (before ++ after) ≡ send_places before ++ send_places after =
      flat_map-append (λ (one : KeySend). one.places) before after in
      subst (RestStep config old) (sym state) (record {
        slots = refl;
        plan = refl;
        unique = refl;
        failed = refl;
        due = ready.due;
        sent = All-append Sent before after parts.0 (All-tail Sent send after parts.1);
        came = record {
          each = λ k d within.
              let out = this.each k d within in
              record { slot = out.slot; awaited = out.awaited; at = out.at; is = out.is };
          parts = parts_of old.slots old.unique old.plan.grouping send.places send.line this.by;
          replied = goes_on;
        };
        count = λ at.
            omega (
              arith,
              count_in at old.due (before ++ after) (keys_came_of send outcome reply),
              count_in at old.due old.sends old.came,
              ap (count_at at) was,
              ap (count_at at) left,
              count_append at (send_places before) (send.places ++ send_places after),
              count_append at send.places (send_places after),
              count_append at (send_places before) (send_places after),
              ap (count_at at) none,
            );
        as_many =
            omega (
              arith,
              length_in old.due (before ++ after) (keys_came_of send outcome reply),
              length_in old.due old.sends old.came,
              ap length was,
              ap length left,
              length-append (send_places before) (send.places ++ send_places after),
              length-append send.places (send_places after),
              length-append (send_places before) (send_places after),
              ap length none,
            );
      })

  pub arrived_ready : {server : ℕ} {outcome : Outcome} {calls : List RoutedCall}
      → HasArrived server outcome old calls new → AreUnderWay config new
  arrived_ready {server} {outcome} it =
      let first = send_found server old.sends it.send it.first in
      rest_ready ready (came_rest first.before first.after it.send
      (Some outcome) it.reply first.are it.settled it.replied
      (it.state ∙ ap (λ ss. record old {
        sends = ss;
        came = keys_came_of it.send (Some outcome) it.reply;
      }) first.others))

  pub stopped_ready : {server : ℕ} → HasStopped server old new → AreUnderWay config new
  stopped_ready {server} it =
      let first = send_found server old.sends it.send it.first in
      rest_ready ready (came_rest first.before first.after it.send None None first.are it.settled tt
      (it.state ∙ ap (λ ss. record old { sends = ss; came = keys_came_of it.send None None })
      first.others))

  pub unsent_ready : {server : ℕ} → IsUnsent server old new → AreUnderWay config new
  unsent_ready {server} it =
      rest_ready ready (came_rest it.before it.after it.send None None it.are it.settled tt
      it.state)

module _ {config : Configuration} {old new : KeysState} (ready : AreUnderWay config old) where
  pub next_ready : {calls : List RoutedCall} {said : KeyStep} → NextBegun config old calls said new
      → AreUnderWay config new
  next_ready it = step_ready ready (next_step ready it)

  pub next_lost_ready : {calls : List RoutedCall} {attempts : List Attempt}
      → NextLost config old calls attempts new → AreUnderWay config new
  next_lost_ready (driven.unbegun none no_attempts is) = loss_ready ready is
  next_lost_ready (driven.at_next key left slot may next lost ended is) =
      step_ready ready (next_lost_step ready left slot may ended is)

  pub taken_ready : {calls : List RoutedCall} {said : KeyStep}
      → FirstTaken config old calls said new → AreUnderWay config new
  taken_ready it = step_ready ready (taken_step ready it)

  pub taken_lost_ready : {calls : List RoutedCall} {attempts : List Attempt}
      → FirstLost config old calls attempts new → AreUnderWay config new
  taken_lost_ready it = step_ready ready (taken_lost_step ready it)
