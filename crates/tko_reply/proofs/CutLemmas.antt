-- Laws of requests at which memory ran out.
use Rattle.std.proofs.Common.{◌≡◌, ℕ, Bool, List, [], ◌∷◌, ◌++◌, length, map, Err, refl, sym, ap}
use Rattle.std.proofs.Common.{subst, ◌∙◌, append_assoc, append-nil}
use Rattle.std.proofs.lemmas.List.Elements.{All-nil}
use Rattle.tko_text.specs.declared.request.Request.{Request}
use Rattle.tko_pools.specs.Configs.{Configuration, targets_of}
use Rattle.tko_route.specs.Calls.{RoutedCall, came}
use Rattle.tko_route.specs.Routing.{FindsUp}
use Rattle.tko_route.specs.Trail.{IsCutTrail, IsTrail, MakesTrail, next_target}
use Rattle.tko_route.specs.declared.attempt.Attempt.{Attempt}
use Rattle.tko_reply.specs.Answering.{retrieval}
use Rattle.tko_reply.specs.Answers.{form_in, request_for, request_keys}
use Rattle.tko_reply.specs.Asking.{IsJoined}
use Rattle.tko_reply.specs.Cuts.{EndsBy, IsAnswerCut, IsBeginCut, IsKeyCut, KeyLost}
use Rattle.tko_reply.specs.Cuts as cut
use Rattle.tko_reply.specs.Interactions.{Interaction, Made, Noted}
use Rattle.tko_reply.specs.Replies.{HasValues}
use Rattle.tko_reply.specs.Standing.{SentKey}
use Rattle.tko_reply.specs.declared.asking.OneKey.{OneKey}
use Rattle.tko_reply.proofs.AnsweringLemmas.{request_for_alone, request_for_one, retrieval_keys}
use Rattle.tko_reply.proofs.DrivingLemmas.{rearranged}
use Rattle.tko_reply.proofs.StandsLemmas.{IsAt, IsPast, IsSending, IsTried, JoinsOn, among}
use Rattle.tko_reply.proofs.StandsLemmas.{complete, keyed, values_joined}
use Rattle.tko_reply.proofs.StandsLemmas as stands

-- the marks of these attempts were noted; or there are none
pub data NotedAs (attempts : List Attempt) (last : List Interaction) : Type 0 where
  no_marks : attempts ≡ [] → last ≡ [] → NotedAs attempts last
  marks : last ≡ Noted attempts ∷ [] → NotedAs attempts last

-- memory ran out after these calls more, and then the marks of these attempts were noted
pub record CutAfter (config : Configuration) (request : Request) (was : List Interaction)
    (calls : List RoutedCall) (attempts : List Attempt) : Type 0 where
  pub last : List Interaction
  pub noted : NotedAs attempts last
  pub is : IsAnswerCut config request (was ++ (map Made calls ++ last))

module _ {config : Configuration} where
  -- nothing was done for a request
  cut_at_once : (request : Request) → IsAnswerCut config request []
  cut_at_once request = cut.at_keys [] (request_keys request) [] [] refl refl (All-nil HasValues)
      (cut.untried refl) refl

  -- memory ran out where a request began
  pub begin_cut : {request : Request} {calls : List RoutedCall} → IsBeginCut config request calls
      → IsAnswerCut config request (map Made calls)
  begin_cut {request} (cut.nothing none) =
      subst (λ cs. IsAnswerCut config request (map Made cs)) (sym none) (cut_at_once request)
  begin_cut {request} (cut.in_status servers unlooked is all are) =
      cut.in_status servers unlooked is all (ap (map Made) are)

  -- memory ran out between two keys
  cut_between : {outbox outbox' : List ℕ} {was : List Interaction} {left : List (List ℕ)}
      (all : List (List ℕ)) (unique : Bool)
      → JoinsOn config (retrieval all unique) all left outbox was outbox'
      → IsAnswerCut config (retrieval all unique) was
  cut_between {was = was} {left = left} all unique so_far =
      cut.at_keys so_far.routed left was []
      (retrieval_keys all unique ∙ so_far.are) so_far.each so_far.values (cut.untried refl)
      (sym (append-nil was))

  pub past_cut : {request : Request} {outbox outbox' : List ℕ} {was : List Interaction}
      {one : OneKey}
      → IsPast config request outbox one was outbox' → IsJoined one.share
      → IsAnswerCut config request was
  past_cut (complete silent kind done) joined = absurd (subst IsJoined kind joined)
  past_cut {was = was} (values_joined all left unique key is some e so_far) joined =
      subst (λ (r : Request). IsAnswerCut config r was) (sym is) (cut_between all unique so_far)

  -- nothing more was done, and memory ran out
  cut_at : {request : Request} {outbox outbox' : List ℕ} {was : List Interaction} {key : List ℕ}
      {one : OneKey}
      → IsAt config request outbox key one was outbox' → IsAnswerCut config request was
  cut_at {request} (stands.alone e keys none same) =
      subst (IsAnswerCut config request) (sym none) (cut_at_once request)
  cut_at {was = was} (among all left unique whole some e so_far) =
      subst (λ (r : Request). IsAnswerCut config r was) (sym whole) (cut_between all unique so_far)

  -- memory ran out at this key
  cut_in : {request : Request} {outbox outbox' : List ℕ} {was : List Interaction} {key : List ℕ}
      {one : OneKey} (more : List Interaction)
      → IsAt config request outbox key one was outbox'
      → ((other : Request) → request_for other key ≡ one.request → IsKeyCut config other key more)
      → IsAnswerCut config request (was ++ more)
  cut_in {request} {was = was} {key = key} more (stands.alone e keys none same) lost =
      cut.at_keys [] (key ∷ []) [] more keys refl (All-nil HasValues)
      (cut.at_first key [] refl
      (lost request (request_for_alone request key keys
      ∙ sym (ap (λ (o : OneKey). o.request) e)))) (ap (λ xs. xs ++ more) none)
  cut_in {was = was} {key = key} more (among all left unique whole some e so_far) lost =
      subst (λ (r : Request). IsAnswerCut config r (was ++ more)) (sym whole)
      (cut.at_keys so_far.routed (key ∷ left) was more
      (retrieval_keys all unique ∙ so_far.are) so_far.each so_far.values
      (cut.at_first key left refl
      (lost (retrieval all unique)
      (sym (request_for_one all unique key) ∙ sym (ap (λ (o : OneKey). o.request) e)))) refl)

  -- a key was routed, and its reply or its trail was lost
  cut_lost : {request : Request} {outbox outbox' : List ℕ} {was : List Interaction} {key : List ℕ}
      {one : OneKey} (trail : List Attempt) (calls : List RoutedCall)
      → IsAt config request outbox key one was outbox' → IsTrail (targets_of config key) trail
      → MakesTrail (form_in config one.request) calls trail
      → IsAnswerCut config request (was ++ (map Made calls ++ Noted trail ∷ []))
  cut_lost trail calls at tried make = cut_in (map Made calls ++ Noted trail ∷ []) at
      (λ other same. cut.reply_lost trail calls tried
      (subst (λ (r : Request). MakesTrail (form_in config r) calls trail) (sym same) make) refl)

  -- the trail of a key was lost
  pub tried_cut : {request : Request} {outbox outbox' : List ℕ} {trail : List Attempt}
      {one : OneKey} {was : List Interaction}
      → IsTried config request outbox trail one was outbox'
      → IsAnswerCut config request (was ++ Noted trail ∷ [])
  tried_cut {request} {trail = trail} {was = was} it =
      subst (IsAnswerCut config request)
      (sym (append_assoc it.before (map Made it.calls) (Noted trail ∷ []))
      ∙ ap (λ xs. xs ++ Noted trail ∷ []) (sym it.are))
      (cut_lost trail it.calls it.at it.tried it.make)

  -- memory ran out where a key was begun
  pub key_cut : {request : Request} {outbox outbox' : List ℕ} {was : List Interaction}
      {key : List ℕ} {one : OneKey} {calls : List RoutedCall} {attempts : List Attempt}
      → IsAt config request outbox key one was outbox' → KeyLost config one.request calls attempts
      → CutAfter config request was calls attempts
  key_cut {request} {was = was} at (cut.untried none no_attempts) = record {
    last = [];
    noted = no_marks no_attempts refl;
    is = subst (IsAnswerCut config request)
        (sym (ap (λ cs. was ++ (map Made cs ++ [])) none ∙ append-nil was)) (cut_at at);
  }
  key_cut {key = key} {calls = calls} {attempts = attempts} at (cut.tried ends) =
      let it = ends key (keyed at) in
      record {
        last = Noted attempts ∷ [];
        noted = marks refl;
        is = cut_lost attempts calls at it.tried it.make;
      }

  -- memory ran out where what came of a send was recorded
  pub gone_cut : {request : Request} {outbox outbox' : List ℕ} {was : List Interaction} {clear : ℕ}
      {it : SentKey} {targets : List ℕ} {attempts : List Attempt} {more : List RoutedCall}
      → (sending : IsSending config request outbox clear it targets was outbox')
      → EndsBy targets (form_in config sending.first.request) (sending.calls ++ more) attempts
      → CutAfter config request was more attempts
  gone_cut {request} {was = was} {attempts = attempts} {more = more} sending ends = record {
    last = Noted attempts ∷ [];
    noted = marks refl;
    is =
        subst (IsAnswerCut config request)
        (sym (rearranged was sending.before sending.calls more
        (Noted attempts ∷ []) sending.are))
        (cut_lost attempts (sending.calls ++ more) sending.at
        (subst (λ ts. IsTrail ts attempts) sending.aims ends.tried) ends.make);
  }

  -- memory ran out at the send
  pub sent_cut : {request : Request} {outbox outbox' : List ℕ} {was : List Interaction} {clear : ℕ}
      {it : SentKey} {targets : List ℕ} (was_sent : Bool)
      → IsSending config request outbox clear it targets was outbox'
      → IsAnswerCut config request
      (was ++ Made (came it.awaited.server it.key.request (Err (record { sent = was_sent })))
      ∷ Noted it.awaited.attempts ∷ [])
  sent_cut {request} {was = was} {it = it} was_sent sending =
      let trail = it.awaited.attempts in
      let Last : Request → List Interaction =
      λ r. Made (came it.awaited.server r (Err (record { sent = was_sent }))) ∷ Noted trail
      ∷ [] in
      let waits = sending.reached.0 in
      let form : it.key.request ≡ form_in config sending.first.request (length trail) =
      ap (λ (o : OneKey). o.request) sending.keeps in
      let lost = cut_in (map Made sending.calls ++ Last it.key.request) sending.at (λ other same.
      cut.send_lost trail sending.calls it.awaited.server was_sent
      (subst (λ ts. IsCutTrail ts trail) sending.aims waits.tried)
      (waits.server ∙ ap (λ ts. next_target ts trail) sending.aims)
      (subst (λ (r : Request). FindsUp (form_in config r) sending.calls trail it.awaited.server)
      (sym same) sending.reached.2)
      (ap (λ r. map Made sending.calls ++ Last r)
      (form ∙ ap (λ (r : Request). form_in config r (length trail)) (sym same)))) in
      subst (IsAnswerCut config request)
      (sym (append_assoc sending.before (map Made sending.calls) (Last it.key.request))
      ∙ ap (λ xs. xs ++ Last it.key.request) (sym sending.are)) lost
