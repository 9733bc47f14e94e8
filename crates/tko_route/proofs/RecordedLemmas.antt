-- Laws of the end of a send: what came of it and the call that recorded that make its attempt.
use Rattle.std.proofs.Common.{◌≡◌, ◌↔◌, ℕ, List, [], ◌∷◌, ◌++◌, append-nil, length, map, Option, Some, None, IsSome, Ok, refl, sym, ap, subst, ◌∙◌}
use Rattle.std.proofs.lemmas.List.{append_assoc, map-append}
use Rattle.std.proofs.lemmas.Bool.{false≢true}
use Rattle.tko_model.specs.declared.mark.Op.{Op}
use Rattle.tko_model.specs.declared.mark.Reply.{Reply}
use Rattle.tko_model.specs.declared.mark.Reply.TheVariants as reply
use Rattle.tko_model.specs.Records.{Gains, HealthItem}
use Rattle.tko_model.proofs.RecordLemmas.{gains_append, gains_none, gains_one}
use Rattle.tko_text.specs.declared.request.Request.{Request}
use Rattle.tko_links.specs.declared.links.Outcome.{Outcome}
use Rattle.tko_links.specs.declared.links.Outcome.TheVariants as outcome
use Rattle.tko_route.specs.declared.attempt.Attempt.{Attempt}
use Rattle.tko_route.specs.declared.attempt.Attempt.TheVariants as attempt
use Rattle.tko_route.specs.declared.routing.Stage.{Stage}
use Rattle.tko_route.specs.declared.routing.Stage.TheVariants as stage
use Rattle.tko_route.specs.Calls.{RoutedCall, Told, came, look_up}
use Rattle.tko_route.specs.Routing.{FindsUp, GoesOn, Reached, came_of, told_of}
use Rattle.tko_route.specs.Trail.{IsAttempt, IsRecorded, IsTrail, MakesTrail, op_of, outcome_of, record_of, recorded_reply, server_of}
use Rattle.tko_route.specs.Underway.{Awaited}
use Rattle.tko_route.proofs.TrailLemmas.{makes_pushed}

-- an operation got a reply exactly where there is one
pub is_replied : {H : Type 0} (steps : H → HealthItem → H → Type 0) (old : H) (server : ℕ) (op : Option Op) (answered : Option Reply) (new : H)
    → IsRecorded steps old server op answered new → IsSome answered ↔ IsSome op
is_replied steps old server None answered new (none, same) = rw none (λ s. s, λ s. s)
is_replied steps old server (Some op) answered new (answer, is, step) = rw is (λ s. refl, λ s. refl)

-- it is what the health recorded
pub gains_recorded : {H : Type 0} {steps : H → HealthItem → H → Type 0} {old new : H} (server : ℕ) (op : Option Op) (answered : Option Reply)
    → IsRecorded steps old server op answered new → Gains steps old (record_of server op answered) new
gains_recorded server None answered (none, same) = record { leads = same }
gains_recorded {H} {steps} {old} {new} server (Some op) answered (answer, is, step) =
    subst (λ (r : Option Reply). Gains steps old (record_of server (Some op) r) new) (sym is) (gains_one step)

-- the calls of a send that was recorded
sent_so : (request : Request) (count server : ℕ) (got : Outcome) (answer : Reply) (op : Option Op) → op_of got ≡ op → IsSome op
    → IsAttempt request (look_up server (reply.Up count) ∷ came server request (Ok got) ∷ map Told (record_of server op (Some answer))) (attempt.Sent server got answer)
sent_so request count server got answer None known some = absurd (false≢true some)
sent_so request count server got answer (Some op) known some = (count, op, known, refl)

-- the calls of an attempt of which this came, after a look-up that found the server up
ended : (request : Request) (count server : ℕ) (it : Attempt) (got : Outcome) (answered : Option Reply)
    → (IsSome answered ↔ IsSome (op_of got)) → outcome_of it ≡ Some got → recorded_reply it ≡ answered → server_of it ≡ server
    → IsAttempt request (look_up server (reply.Up count) ∷ came server request (Ok got) ∷ map Told (record_of server (op_of got) answered)) it
ended request count server (attempt.Skipped at mark) got answered fits is replied at_is = absurd cc
ended request count server (attempt.Sent at it answer) got answered fits is replied at_is =
    let same : it ≡ got = cc in
    let some : IsSome answered = subst (λ (r : Option Reply). IsSome r) replied refl in
    let P : Option Reply → Outcome → ℕ → Type 0 =
    λ r o n. IsAttempt request (look_up n (reply.Up count) ∷ came n request (Ok o) ∷ map Told (record_of n (op_of o) r)) (attempt.Sent at it answer) in
    subst (λ (n : ℕ). P answered got n) at_is (subst (λ (o : Outcome). P answered o at) same
    (subst (λ (r : Option Reply). P r it at) replied (sent_so request count at it answer (op_of it) refl (subst (λ (o : Outcome). IsSome (op_of o)) (sym same) (fits.0 some)))))
ended request count server (attempt.Aborted at) got answered fits is replied at_is =
    let same : outcome.Aborted ≡ got = cc in
    let P : Outcome → ℕ → Type 0 =
    λ o n. IsAttempt request (look_up n (reply.Up count) ∷ came n request (Ok o) ∷ map Told (record_of n (op_of o) answered)) (attempt.Aborted at) in
    subst (λ (n : ℕ). P got n) at_is (subst (λ (o : Outcome). P o at) same (count, refl))
ended request count server (attempt.Spent at) got answered fits is replied at_is =
    let same : outcome.Spent ≡ got = cc in
    let P : Outcome → ℕ → Type 0 =
    λ o n. IsAttempt request (look_up n (reply.Up count) ∷ came n request (Ok o) ∷ map Told (record_of n (op_of o) answered)) (attempt.Spent at) in
    subst (λ (n : ℕ). P got n) at_is (subst (λ (o : Outcome). P o at) same (count, refl))

-- what came of a send, and the call that recorded it, make the attempt
pub makes_recorded : {form : ℕ → Request} {calls : List RoutedCall} (awaited : Awaited) {all : List Attempt} (it : Attempt) (got : Outcome) (answered : Option Reply)
    → (IsSome answered ↔ IsSome (op_of got)) → outcome_of it ≡ Some got → recorded_reply it ≡ answered → server_of it ≡ awaited.server
    → all ≡ awaited.attempts ++ it ∷ [] → FindsUp form calls awaited.attempts awaited.server
    → MakesTrail form (calls ++ came_of form awaited got ∷ told_of awaited got answered) all
makes_recorded {form} awaited it got answered fits is replied at e up =
    let item = came_of form awaited got in
    let look = look_up awaited.server (reply.Up up.count) in
    let told = told_of awaited got answered in
    makes_pushed it (look ∷ item ∷ told) up.make (ended (form (length awaited.attempts)) up.count awaited.server it got answered fits is replied at)
    (ap (λ list. list ++ item ∷ told) up.is ∙ append_assoc up.before (look ∷ []) (item ∷ told)) e

module _ {H : Type 0} {steps : H → HealthItem → H → Type 0} where
  -- what came of a send was an answer
  pub done_then : (health : H) {attempts trail : List Attempt} (targets : List ℕ) (awaited : Awaited) (got : Outcome) (answered : Option Reply)
      → IsTrail targets trail → trail ≡ attempts
      → ((form : ℕ → Request) (calls : List RoutedCall) → FindsUp form calls awaited.attempts awaited.server
      → MakesTrail form (calls ++ came_of form awaited got ∷ told_of awaited got answered) attempts)
      → GoesOn steps health (λ more. (form : ℕ → Request) (calls : List RoutedCall) → FindsUp form calls awaited.attempts awaited.server
      → Reached targets form (calls ++ came_of form awaited got ∷ (told_of awaited got answered ++ more)) (stage.Done trail)) health
  done_then health targets awaited got answered whole e make = record {
    items = [];
    gains = gains_none health;
    is = λ form calls up.
        let item = came_of form awaited got in
        let told = told_of awaited got answered in
        (whole, rw (e, append-nil told) (make form calls up));
  }

  -- health was asked more after it
  pub then_on : {old new : H} {attempts : List Attempt} (targets : List ℕ) (awaited : Awaited) (got : Outcome) (answered : Option Reply) (to : Stage)
      → ((form : ℕ → Request) (calls : List RoutedCall) → FindsUp form calls awaited.attempts awaited.server
      → MakesTrail form (calls ++ came_of form awaited got ∷ told_of awaited got answered) attempts)
      → GoesOn steps old (λ more. (form : ℕ → Request) (calls : List RoutedCall) → MakesTrail form calls attempts → Reached targets form (calls ++ more) to) new
      → GoesOn steps old (λ more. (form : ℕ → Request) (calls : List RoutedCall) → FindsUp form calls awaited.attempts awaited.server
      → Reached targets form (calls ++ came_of form awaited got ∷ (told_of awaited got answered ++ more)) to) new
  then_on targets awaited got answered to make on = record {
    items = on.items;
    gains = on.gains;
    is = λ form calls up.
        let ended = came_of form awaited got ∷ told_of awaited got answered in
        subst (λ list. Reached targets form list to) (append_assoc calls ended (map Told on.items))
        (on.is form (calls ++ ended) (make form calls up));
  }

  -- the call that recorded it was one of its own
  pub record_then : {old mid new : H} (targets : List ℕ) (awaited : Awaited) (got : Outcome) (answered : Option Reply) (to : Stage)
      → IsRecorded steps old awaited.server (op_of got) answered mid
      → GoesOn steps mid (λ more. (form : ℕ → Request) (calls : List RoutedCall) → FindsUp form calls awaited.attempts awaited.server
      → Reached targets form (calls ++ came_of form awaited got ∷ (told_of awaited got answered ++ more)) to) new
      → GoesOn steps old (λ more. (form : ℕ → Request) (calls : List RoutedCall) → FindsUp form calls awaited.attempts awaited.server
      → Reached targets form (calls ++ came_of form awaited got ∷ more) to) new
  record_then targets awaited got answered to recorded on =
      let first = record_of awaited.server (op_of got) answered in record {
        items = first ++ on.items;
        gains = gains_append (gains_recorded awaited.server (op_of got) answered recorded) on.gains;
        is = λ form calls up.
            subst (λ told. Reached targets form (calls ++ came_of form awaited got ∷ told) to)
            (sym (map-append Told first on.items)) (on.is form calls up);
      }
