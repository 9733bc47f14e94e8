-- Laws of an answer that is driven: what each call of the value adds to how far it came.
use Rattle.std.proofs.Common.{◌≡◌, ℕ, List, [], ◌∷◌, ◌++◌, length, map, refl, sym, ap, subst, ◌∙◌}
use Rattle.std.proofs.Common.{append_assoc, append-nil}
use Rattle.std.specs.Prelude.{◌-◌}
use Rattle.std.proofs.lemmas.List.{map-append}
use Rattle.tko_text.specs.declared.request.Request.{Request}
use Rattle.tko_pools.specs.Configs.{Configuration, targets_of}
use Rattle.tko_route.specs.Calls.{RoutedCall}
use Rattle.tko_route.specs.Routing.{Reached, last_place}
use Rattle.tko_route.specs.Trail.{IsTrail, MakesTrail, answer_of}
use Rattle.tko_route.specs.declared.attempt.Attempt.{Attempt}
use Rattle.tko_route.specs.declared.routing.Stage.{Stage}
use Rattle.tko_route.specs.declared.routing.Stage.TheVariants as stage
use Rattle.tko_reply.specs.Answers.{form_in}
use Rattle.tko_reply.specs.Asking.{Goes, Replies, Settles}
use Rattle.tko_reply.specs.Interactions.{Interaction, Made, Recorded}
use Rattle.tko_reply.specs.Standing.{SentKey}
use Rattle.tko_reply.specs.TrailEvents as event
use Rattle.tko_reply.specs.declared.asking.OneKey.{OneKey}
use Rattle.tko_reply.proofs.JoiningLemmas.{past_ended}
use Rattle.tko_reply.proofs.StandsLemmas.{IsAt, IsPast, IsSending, IsTried, Stands}

-- the calls of a key before a send, and after it
pub rearranged : (was before : List Interaction) (calls more : List RoutedCall)
    (last : List Interaction) → was ≡ before ++ map Made calls
    → was ++ (map Made more ++ last) ≡ before ++ (map Made (calls ++ more) ++ last)
rearranged was before calls more last are =
    ap (λ xs. xs ++ (map Made more ++ last)) are
    ∙ append_assoc before (map Made calls) (map Made more ++ last)
    ∙ ap (λ xs. before ++ xs) (sym (append_assoc (map Made calls) (map Made more) last)
    ∙ ap (λ xs. xs ++ last) (sym (map-append Made calls more)))

module _ {config : Configuration} where
  -- the attempts at a key ended
  ended : {request : Request} {outbox outbox' : List ℕ} {was : List Interaction} {key : List ℕ}
      {first one : OneKey} (outbox'' : List ℕ)
      (targets : List ℕ) (trail : List Attempt) (calls : List RoutedCall) (place : ℕ)
      → IsAt config request outbox key first was outbox' → targets ≡ targets_of config key
      → IsTrail targets trail → MakesTrail (form_in config first.request) calls trail
      → one.request ≡ form_in config first.request place
      → Replies first.share (answer_of trail) outbox' one.share outbox''
      → IsTried config request outbox trail one (was ++ map Made calls) outbox''
  ended {request} {outbox} {outbox'} {was} {key} {first} {one} outbox'' targets trail calls place it
      aims tried make same replies =
      let one' : OneKey = record
      { request = form_in config first.request place; share = one.share } in
      let tried' = subst (λ ts. IsTrail ts trail) aims tried in
      let is : IsTried config request outbox trail one' (was ++ map Made calls) outbox'' = record {
        key = key;
        first = first;
        before = was;
        calls = calls;
        mid = outbox';
        at = it;
        tried = tried';
        make = make;
        are = refl;
        past =
            subst (λ ds. IsPast config request outbox one' ds outbox'')
            (sym (append_assoc was (map Made calls) (Recorded (event.Tried trail) ∷ [])))
            (past_ended trail calls place it tried' make replies);
      } in
      subst (λ r. IsTried config request outbox trail (record { request = r; share = one.share })
      (was ++ map Made calls) outbox'') (sym same) is

  -- where a routing came to a stage
  settled : {request : Request} {outbox outbox' : List ℕ} {was : List Interaction} {key : List ℕ}
      {first : OneKey} {targets : List ℕ}
      (calls : List RoutedCall) (to : Stage) (one : OneKey) (outbox'' : List ℕ)
      → IsAt config request outbox key first was outbox' → targets ≡ targets_of config key
      → Reached targets (form_in config first.request) calls to
      → Settles to (record {
        request = form_in config first.request (last_place to);
        share = first.share;
      }) outbox' one outbox''
      → Stands config request outbox to one targets (was ++ map Made calls) outbox''
  settled {request} {outbox} {outbox'} {was} {key} {first} {targets} calls
      (stage.Away clear awaited) one outbox'' it aims reached (is, same) = record {
        key = key;
        first = first;
        before = was;
        calls = calls;
        at = subst (λ xs. IsAt config request outbox key first was xs) (sym same) it;
        aims = aims;
        reached = reached;
        keeps = is;
        are = refl;
      }
  settled {targets = targets} calls (stage.Done trail) one outbox'' it aims reached (is, replies) =
      ended outbox'' targets trail calls (length trail - 1) it aims reached.0 reached.1 is replies

  -- a key was begun
  pub key_begun : {request : Request} {outbox outbox' : List ℕ} {was : List Interaction}
      {key : List ℕ} {first : OneKey} {targets : List ℕ} {to : Stage} {one : OneKey}
      {outbox'' : List ℕ} {calls : List RoutedCall}
      → IsAt config request outbox key first was outbox' → targets ≡ targets_of config key
      → Goes (record {
        targets = targets;
        form = form_in config first.request;
        share = first.share;
      }) calls outbox' to one outbox''
      → Stands config request outbox to one targets (was ++ map Made calls) outbox''
  key_begun {to = to} {one = one} {outbox'' = outbox''} {calls = calls} it aims goes =
      settled calls to one outbox'' it aims goes.reached goes.settles

  -- what came of a send was recorded
  pub key_gone : {request : Request} {outbox outbox' : List ℕ} {was : List Interaction} {clear : ℕ}
      {it : SentKey} {targets : List ℕ} {to : Stage} {one : OneKey} {outbox'' : List ℕ}
      (more : List RoutedCall)
      → (sending : IsSending config request outbox clear it targets was outbox')
      → Goes (record {
        targets = targets;
        form = form_in config sending.first.request;
        share = it.key.share;
      }) (sending.calls ++ more) outbox' to one outbox''
      → Stands config request outbox to one targets (was ++ map Made more) outbox''
  key_gone {request} {outbox} {outbox'} {was} {it = it} {targets = targets} {to = to} {one = one}
      {outbox'' = outbox''} more sending goes =
      let first = sending.first.request in
      let settles = subst (λ s. Settles to
      (record { request = form_in config first (last_place to); share = s }) outbox' one
      outbox'')
      (ap (λ (o : OneKey). o.share) sending.keeps) goes.settles in
      let are : was ++ map Made more ≡ sending.before ++ map Made (sending.calls ++ more) =
      ap (λ xs. was ++ xs) (sym (append-nil (map Made more)))
      ∙ rearranged was sending.before sending.calls more [] sending.are
      ∙ ap (λ xs. sending.before ++ xs) (append-nil (map Made (sending.calls ++ more))) in
      subst (λ all. Stands config request outbox to one targets all outbox'') (sym are)
      (settled (sending.calls ++ more) to one outbox'' sending.at sending.aims goes.reached settles)
