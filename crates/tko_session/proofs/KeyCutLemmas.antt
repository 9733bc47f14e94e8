-- A key at which memory ran out.
use Rattle.std.proofs.Common.{◌≡◌, ℕ, List, [], ◌∷◌, ◌++◌, length, map, take, refl, sym, ap, subst}
use Rattle.std.proofs.Common.{◌∙◌, append-nil}
use Rattle.std.proofs.lemmas.List.{take_at}
use Rattle.tko_text.specs.declared.request.Request.{Request}
use Rattle.tko_pools.specs.Configs.{Configuration}
use Rattle.tko_route.specs.Calls.{RoutedCall}
use Rattle.tko_route.specs.Trail.{MakesTrail}
use Rattle.tko_route.specs.declared.attempt.Attempt.{Attempt}
use Rattle.tko_reply.specs.Answering.{Extends}
use Rattle.tko_reply.specs.Answers.{form_in}
use Rattle.tko_reply.specs.Cuts.{IsAnswerCut, KeyLost}
use Rattle.tko_reply.specs.Cuts as cut
use Rattle.tko_reply.specs.Interactions.{Interaction, Made, marks_of}
use Rattle.tko_reply.specs.declared.asking.OneKey.{OneKey}
use Rattle.tko_reply.proofs.CutLemmas.{CutAfter, NotedAs, key_cut, marks, no_marks}
use Rattle.tko_reply.proofs.StandsLemmas.{IsAt, keyed}
use Rattle.tko_session.specs.SoFar.{HasJoined, PendingRequest}
use Rattle.tko_session.proofs.SoFarLemmas.{of_at}

-- no attempts were made by no calls
pub no_calls : (form : ℕ → Request) (calls : List RoutedCall) → MakesTrail form calls []
    → calls ≡ []
no_calls form calls make = make.adds.leads

pub no_call_after : (before : List RoutedCall) (call : RoutedCall) (calls : List RoutedCall)
    → before ++ call ∷ calls ≡ [] → ⊥
no_call_after [] call calls same = cc
no_call_after (one ∷ before) call calls same = cc

-- nothing but the reply is dropped
pub taken : {xs ys : List ℕ} {n : ℕ} → Extends xs ys → n ≡ length xs → take n ys ≡ xs
taken {xs} {ys} {n} more same = ap (take n) more.is ∙ take_at xs more.more n (sym same)

module _ {config : Configuration} where
  -- nothing was done for the key that is to be asked for
  joined_cut : {under : PendingRequest} {left : List (List ℕ)} {outbox : List ℕ}
      → HasJoined config under left outbox → IsAnswerCut config under.request under.done
  joined_cut {under} {left} on =
      cut.at_keys on.routed left under.done [] on.keys on.each on.values (cut.untried refl)
      (sym (append-nil under.done))

  -- the marks of attempts were noted, if there are any
  pub marked : {request : Request} {was : List Interaction} {calls : List RoutedCall}
      (attempts : List Attempt)
      → (attempts ≡ [] → IsAnswerCut config request (was ++ map Made calls))
      → (lost : CutAfter config request was calls attempts) → NotedAs attempts lost.last
      → IsAnswerCut config request (was ++ (map Made calls ++ marks_of attempts))
  marked {request} {was} {calls} [] none lost noted =
      subst (λ ds. IsAnswerCut config request (was ++ ds))
      (sym (append-nil (map Made calls))) (none refl)
  marked {request} {was} {calls} (one ∷ attempts) none lost (no_marks nobody is) =
      absurd (let never : ⊥ = cc in never)
  marked {request} {was} {calls} (one ∷ attempts) none lost (marks is) =
      subst (λ ds. IsAnswerCut config request (was ++ (map Made calls ++ ds))) is lost.is

  -- memory ran out where a key was begun
  pub key_lost : {it : Request} {front outbox : List ℕ} {was : List Interaction} {key : List ℕ}
      {one : OneKey} {calls : List RoutedCall} (attempts : List Attempt)
      → IsAt config it front key one was outbox → KeyLost config one.request calls attempts
      → IsAnswerCut config it (was ++ (map Made calls ++ marks_of attempts))
  key_lost {it} {was = was} {calls = calls} attempts at (cut.untried none nobody) =
      subst (λ cs. IsAnswerCut config it (was ++ (map Made cs ++ marks_of attempts))) (sym none)
      (subst (λ marked. IsAnswerCut config it (was ++ marks_of marked)) (sym nobody)
      (subst (IsAnswerCut config it) (sym (append-nil was)) (joined_cut (of_at at).on)))
  key_lost {it} {was = was} {key = key} {one = one} {calls = calls} attempts at (cut.tried ends) =
      let lost = key_cut at (cut.tried ends) in
      let form = form_in config one.request in
      marked attempts
      (λ nobody. let make : MakesTrail form calls [] = subst (λ trail. MakesTrail form calls trail)
      nobody (ends key (keyed at)).make in
      subst (λ cs. IsAnswerCut config it (was ++ map Made cs)) (sym (no_calls form calls make))
      (subst (IsAnswerCut config it) (sym (append-nil was)) (joined_cut (of_at at).on)))
      lost lost.noted
