-- Laws of a routing: what look-ups add to its attempts, and what one attempt more is.
use Rattle.std.proofs.Common.{◌≡◌, ℕ, ◌-◌, ◌<◌, List, [], ◌∷◌, ◌++◌, length, Option, Some, None, refl, sym, ap, subst, arith, ◌∙◌, ◌⊎◌, inl, inr, IsSome, get_or, slice_get, map, take}
use Rattle.std.proofs.lemmas.List.{append_assoc, map-append}
use Rattle.std.proofs.Math.Seq.{get_or-append_seam}
use Rattle.std.proofs.lemmas.Bool.{false≢true}
use Rattle.std.proofs.lemmas.Grind.{common_steps}
use Rattle.std.proofs.lemmas.List.Elements.{All-append, All-cons, All-nil}
use Rattle.std.proofs.lemmas.Option.{slice_get-get_or}
use Rattle.std.specs.Option.{option_and_then}
use Rattle.tko_model.specs.declared.mark.Mark.{Mark}
use Rattle.tko_model.specs.declared.mark.Op.TheVariants.{LookUp}
use Rattle.tko_model.specs.declared.mark.Reply.TheVariants as reply
use Rattle.tko_model.specs.Records.{HealthItem, Called}
use Rattle.tko_model.proofs.RecordLemmas.{gains_push}
use Rattle.tko_text.specs.declared.request.Request.{Request}
use Rattle.tko_route.specs.declared.attempt.Attempt.{Attempt}
use Rattle.tko_route.specs.declared.attempt.Attempt.TheVariants as attempt
use Rattle.tko_route.specs.Calls.{RoutedCall, Told}
use Rattle.tko_route.specs.Routing.{GoesOn, IsAwaited, IsConcluded, IsTried, Reached}
use Rattle.tko_route.specs.Trail.{IsAnswer, IsTrail, LastAnswered, MakesTrail, NoneAnswered, answer_of, next_target, response_of, server_of}
use Rattle.tko_route.proofs.TrailLemmas.{makes_pushed}
use Rattle.tko_route.specs.declared.routing.Stage.TheVariants as stage
use Rattle.tko_route.specs.Underway.{Awaited}

-- an answer is the last attempt's
last_answered : (trail : List Attempt) → NoneAnswered trail ⊎ LastAnswered trail
    → IsSome (answer_of trail) → LastAnswered trail
last_answered trail (inr it) answered = it
last_answered [] (inl none) answered = absurd (false≢true answered)
last_answered (first ∷ trail) (inl none) answered =
    let place : length trail < length (first ∷ trail) = omega arith in
    let same : length trail ≡ length (first ∷ trail) - 1 = omega arith in
    let last = get_or (first ∷ trail) (length trail) first in
    let Q : ℕ → Type 0 = λ n. slice_get (first ∷ trail) n ≡ Some last in
    let at = subst Q same (slice_get-get_or (first ∷ trail) (length trail) first place) in
    let P : Option Attempt → Type 0 = λ it. IsSome (option_and_then response_of it) in
    absurd (none (length trail) first place (subst P at answered))

last_of : (before : List Attempt) (last : Attempt)
    → slice_get (before ++ last ∷ []) (length (before ++ last ∷ []) - 1) ≡ Some last
last_of before last =
    let xs = before ++ last ∷ [] in
    let place : length before < length xs = grind (arith, common_steps) in
    let same : length before ≡ length xs - 1 = grind (arith, common_steps) in
    let at = slice_get-get_or xs (length before) last place in
    let P : ℕ → Type 0 = λ n. slice_get xs n ≡ Some last in
    subst P same (at ∙ ap Some (get_or-append_seam before last [] last))

-- without an answer of the last attempt none was answered
none_answered : (trail : List Attempt) → NoneAnswered trail ⊎ LastAnswered trail
    → ¬ IsSome (answer_of trail) → NoneAnswered trail
none_answered trail (inl it) none = it
none_answered trail (inr it) none =
    let P : Option Attempt → Type 0 = λ at. IsSome (option_and_then response_of at) in
    let Q : List Attempt → Type 0 = λ list. IsSome (answer_of list) in
    absurd (none (subst Q (sym it.parts) (subst P (sym (last_of it.before it.last)) it.answer)))

either_answer : (it : Attempt) → (¬ IsAnswer it) ⊎ IsAnswer it
either_answer it =
    elim (response_of it) as (λ got. (¬ IsSome got) ⊎ IsSome got) [
      | None ↦ inl false≢true
      | Some response ↦ inr refl
    ]

-- one attempt more after unanswered ones: all are unanswered, or it is the answer
answers_pushed : (trail : List Attempt) (last : Attempt) → NoneAnswered trail
    → NoneAnswered (trail ++ last ∷ []) ⊎ LastAnswered (trail ++ last ∷ [])
answers_pushed trail last none =
    elim (either_answer last) [
      | inl not ↦ inl (All-append (λ it. ¬ IsAnswer it) trail (last ∷ []) none (All-cons (λ it. ¬ IsAnswer it) last [] not (All-nil (λ it. ¬ IsAnswer it))))
      | inr answer ↦ inr (record { before = trail; last = last; parts = refl; answer = answer; others = none })
    ]

-- the servers of one attempt more, at the next target
servers_pushed : (targets : List ℕ) (trail : List Attempt) (last : Attempt)
    → map server_of trail ≡ take (length trail) targets → length trail < length targets
    → server_of last ≡ next_target targets trail
    → map server_of (trail ++ last ∷ []) ≡ take (length (trail ++ last ∷ [])) targets
servers_pushed targets trail last before shorter at = grind (arith, common_steps)

-- one attempt more, at the server that was waited for
pub concluded_again : {targets : List ℕ} {awaited : Awaited} {trail : List Attempt} (last : Attempt)
    → IsAwaited targets awaited → server_of last ≡ awaited.server
    → trail ≡ awaited.attempts ++ last ∷ [] → IsConcluded targets trail
concluded_again {targets} {awaited} {trail} last out at parts =
    let P : List Attempt → Type 0 = λ list. map server_of list ≡ take (length list) targets in
    let Q : List Attempt → Type 0 = λ list. NoneAnswered list ⊎ LastAnswered list in
    record {
      servers = subst P (sym parts) (servers_pushed targets awaited.attempts last out.tried.servers out.tried.shorter (at ∙ out.server));
      answers = subst Q (sym parts) (answers_pushed awaited.attempts last out.tried.unanswered);
    }

-- attempts of which the last was answered are a trail
pub is_done : {targets : List ℕ} {attempts trail : List Attempt} → IsConcluded targets attempts
    → IsSome (answer_of attempts) → trail ≡ attempts → IsTrail targets trail
is_done {targets} {attempts} concluded answered e =
    subst (IsTrail targets) (sym e) (record {
      servers = concluded.servers;
      ends = inr (last_answered attempts concluded.answers answered);
    })

-- where the last was not answered, the next target is tried
pub is_tried : {targets : List ℕ} {attempts : List Attempt} → IsConcluded targets attempts
    → ¬ IsSome (answer_of attempts) → IsTried targets attempts
is_tried {targets} {attempts} concluded none =
    record { servers = concluded.servers; unanswered = none_answered attempts concluded.answers none }

-- all targets were tried, and none answered
pub all_tried : {targets : List ℕ} {attempts trail : List Attempt} → IsTried targets attempts
    → ¬ (length attempts < length targets) → trail ≡ attempts → IsTrail targets trail
all_tried {targets} {attempts} tried none e =
    let fits : length attempts ≡ length (take (length attempts) targets) = grind (arith, common_steps) in
    let all : length attempts ≡ length targets = grind (arith, common_steps) in
    subst (IsTrail targets) (sym e) (record { servers = tried.servers; ends = inl (all, tried.unanswered) })

-- one call more
one_told : (calls : List RoutedCall) (items : List HealthItem) (item : HealthItem)
    → calls ++ map Told (items ++ item ∷ []) ≡ (calls ++ map Told items) ++ Told item ∷ []
one_told calls items item =
    ap (λ told. calls ++ told) (map-append Told items (item ∷ [])) ∙ sym (append_assoc calls (map Told items) (Told item ∷ []))

module _ {H : Type 0} {steps : H → HealthItem → H → Type 0} where
  -- one more marked server was skipped
  pub skipped : {old mid new : H} {was trail all : List Attempt} (server : ℕ) (mark : Mark)
      → GoesOn steps old (λ more. (form : ℕ → Request) (calls : List RoutedCall) → MakesTrail form calls was → MakesTrail form (calls ++ more) trail) mid
      → steps mid (Called LookUp server (reply.Marked mark)) new
      → all ≡ trail ++ attempt.Skipped server mark ∷ []
      → GoesOn steps old (λ more. (form : ℕ → Request) (calls : List RoutedCall) → MakesTrail form calls was → MakesTrail form (calls ++ more) all) new
  skipped server mark on step e =
      let item = Called LookUp server (reply.Marked mark) in
      record {
        items = on.items ++ item ∷ [];
        gains = gains_push on.gains step;
        is = λ form calls make. makes_pushed (attempt.Skipped server mark) (Told item ∷ []) (on.is form calls make) refl (one_told calls on.items item) e;
      }

  -- then a server was found up
  pub found_up : {old mid new : H} {was : List Attempt} {targets : List ℕ} {clear : ℕ} (awaited : Awaited) (count : ℕ)
      → IsAwaited targets awaited → clear ≡ awaited.server
      → GoesOn steps old (λ more. (form : ℕ → Request) (calls : List RoutedCall) → MakesTrail form calls was → MakesTrail form (calls ++ more) awaited.attempts) mid
      → steps mid (Called LookUp awaited.server (reply.Up count)) new
      → GoesOn steps old (λ more. (form : ℕ → Request) (calls : List RoutedCall) → MakesTrail form calls was → Reached targets form (calls ++ more) (stage.Away clear awaited)) new
  found_up awaited count out names on step =
      let item = Called LookUp awaited.server (reply.Up count) in
      record {
        items = on.items ++ item ∷ [];
        gains = gains_push on.gains step;
        is = λ form calls make. (
          out,
          names,
          record { before = calls ++ map Told on.items; make = on.is form calls make; count = count; is = one_told calls on.items item },
        );
      }

  -- or no target was left
  pub none_left : {old new : H} {was attempts trail : List Attempt} (targets : List ℕ) → IsTrail targets trail → trail ≡ attempts
      → GoesOn steps old (λ more. (form : ℕ → Request) (calls : List RoutedCall) → MakesTrail form calls was → MakesTrail form (calls ++ more) attempts) new
      → GoesOn steps old (λ more. (form : ℕ → Request) (calls : List RoutedCall) → MakesTrail form calls was → Reached targets form (calls ++ more) (stage.Done trail)) new
  none_left targets whole e on = record {
    items = on.items;
    gains = on.gains;
    is = λ form calls make. (whole, subst (MakesTrail form (calls ++ map Told on.items)) (sym e) (on.is form calls make));
  }
