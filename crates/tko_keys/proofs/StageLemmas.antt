-- How far a key came by its own calls.
use Rattle.std.proofs.Common.{◌≡◌, ℕ, Bool, true, false, List, [], ◌∷◌, ◌++◌, map, Option, Some}
use Rattle.std.proofs.Common.{None, Err, Ok, refl, sym, ap, subst, ◌∙◌, append-nil, append_assoc}
use Rattle.tko_text.specs.declared.request.Request.{Request}
use Rattle.tko_text.specs.SentRequests.{without_noreply}
use Rattle.tko_pools.specs.Configs.{Configuration, targets_of}
use Rattle.tko_model.specs.declared.mark.Reply.{Reply}
use Rattle.tko_links.specs.declared.links.Outcome.{Outcome}
use Rattle.tko_route.specs.Calls.{RoutedCall, came}
use Rattle.tko_route.specs.Routing.{told_of}
use Rattle.tko_route.specs.Trail.{IsCutTrail, IsTrail, MakesTrail, next_target}
use Rattle.tko_route.specs.Underway.{Awaited}
use Rattle.tko_route.specs.declared.attempt.Attempt.{Attempt}
use Rattle.tko_route.specs.declared.routing.Stage.{Stage}
use Rattle.tko_route.specs.declared.routing.Stage.TheVariants as stage
use Rattle.tko_reply.specs.Answers.{IsKeyRouted, form_in, request_for}
use Rattle.tko_reply.specs.Asking.{Course, Goes, course_of}
use Rattle.tko_reply.specs.Cuts.{EndsBy}
use Rattle.tko_reply.specs.Cuts as cut
use Rattle.tko_reply.specs.Interactions.{Interaction, Made, Noted, marks_of}
use Rattle.tko_reply.specs.Replies.{routed_key}
use Rattle.tko_reply.specs.declared.asking.OneKey.{OneKey}
use Rattle.tko_reply.specs.declared.asking.ReplyPart.TheVariants as share
use Rattle.tko_reply.proofs.AnsweringLemmas.{routed_by}
use Rattle.tko_keys.specs.AtOnce.{IsKeyOver}
use Rattle.tko_keys.specs.AtOnce as over
use Rattle.tko_keys.specs.KeysActs.{key_record}
use Rattle.tko_keys.specs.KeysSoFar.{IsKeyCame, IsKeyEnded, IsSlotAt}
use Rattle.tko_keys.specs.KeysState.{KeySlot, KeysCame}
use Rattle.tko_keys.specs.SlotCalls.{key_step, wait_at}
use Rattle.tko_keys.specs.declared.step.KeyStep.TheVariants as step

-- the request of a key, asked for alone over these targets
abbrev pub alone_course : Configuration → Request → List ℕ → List ℕ → Course
alone_course config request key targets =
    course_of config targets
    (record { request = request_for request key; share = share.Joined 0 [] })
    (without_noreply (request_for request key))

asks_or_tried : {clear : ℕ} {trail : List Attempt} → step.Tried trail ≡ step.Due clear → ⊥
asks_or_tried e = cc

same_trail : {trail other : List Attempt} → step.Tried trail ≡ step.Tried other → other ≡ trail
same_trail e = cc

module _ (config : Configuration) (request : Request) (key : List ℕ) where
  -- what was done for it is said in fewer words once memory ran out
  pub slot_lost : (came : KeysCame) (here : Bool) (slot : KeySlot) (done : List Interaction)
      (awaited : Option Awaited) (lost : Bool)
      → IsSlotAt config request key came here awaited lost slot done
      → IsSlotAt config request key came here awaited true slot done
  slot_lost came here slot done (Some awaited) lost is = is
  slot_lost came here slot done None false is = over.routed is.trail is.routed
  slot_lost came here slot done None true is = is

  ended_at : (came : KeysCame) (slot : KeySlot) (done : List Interaction) (lost : Bool)
      → IsKeyEnded config request key slot done
      → IsSlotAt config request key came false None lost slot done
  ended_at came slot done false is = is
  ended_at came slot done true is = over.routed is.trail is.routed

  -- its calls led to a stage
  pub goes_at : {done : List Interaction} (came : KeysCame) (at : Stage) (slot : KeySlot)
      (all : List RoutedCall) (lost : Bool)
      → Goes (alone_course config request key slot.targets) all [] at slot.key slot.outbox
      → slot.targets ≡ targets_of config key
      → done ≡ map Made all ++ key_record (key_step at)
      → IsSlotAt config request key came false (wait_at at) lost slot done
  goes_at came (stage.Away clear awaited) slot all lost goes aims are = record {
    calls = all;
    aims = aims;
    awaits = goes.reached.0;
    found = goes.reached.2;
    alone = goes.settles.0;
    empty = goes.settles.1;
    are = are ∙ append-nil (map Made all);
  }
  goes_at {done} came (stage.Done trail) slot all lost goes aims are =
      ended_at came slot done lost (record {
        trail = trail;
        routed =
            subst (λ ds. IsKeyRouted config request (routed_key key trail) ds) (sym are)
            (routed_by request key trail all aims goes.reached.0 goes.reached.1 refl);
        holds = goes.settles.1;
      })

  -- and its trail could not be recorded
  pub goes_unrecorded : {done : List Interaction} (came : KeysCame) (at : Stage) (slot : KeySlot)
      (all : List RoutedCall) (trail : List Attempt)
      → Goes (alone_course config request key slot.targets) all [] at slot.key slot.outbox
      → slot.targets ≡ targets_of config key
      → step.Tried trail ≡ key_step at → done ≡ map Made all ++ Noted trail ∷ []
      → IsSlotAt config request key came false (wait_at at) true slot done
  goes_unrecorded came (stage.Away clear awaited) slot all trail goes aims says are =
      absurd (asks_or_tried says)
  goes_unrecorded came (stage.Done other) slot all trail goes aims says are =
      let same : other ≡ trail = same_trail says in
      over.cut (cut.reply_lost trail all
      (subst (λ t. IsTrail (targets_of config key) t) same
      (subst (λ ts. IsTrail ts other) aims goes.reached.0))
      (subst (λ t. MakesTrail (form_in config (request_for request key)) all t) same goes.reached.1)
      are)

  -- memory ran out after attempts, whose marks were noted
  pub ends_over : {done : List Interaction} {targets : List ℕ} (all : List RoutedCall)
      (attempts : List Attempt)
      → EndsBy targets (form_in config (request_for request key)) all attempts
      → targets ≡ targets_of config key → done ≡ map Made all ++ marks_of attempts
      → IsKeyOver config request key done
  ends_over all [] ends aims are =
      over.untried (are ∙ append-nil (map Made all) ∙ ap (map Made) ends.make.adds.leads)
  ends_over all (one ∷ attempts) ends aims are =
      over.cut (cut.reply_lost (one ∷ attempts) all
      (subst (λ ts. IsTrail ts (one ∷ attempts)) aims ends.tried) ends.make are)

  -- memory ran out after attempts, which were noted
  pub ends_noted : {done : List Interaction} {targets : List ℕ} (all : List RoutedCall)
      (attempts : List Attempt)
      → EndsBy targets (form_in config (request_for request key)) all attempts
      → targets ≡ targets_of config key → done ≡ map Made all ++ Noted attempts ∷ []
      → IsKeyOver config request key done
  ends_noted all attempts ends aims are =
      over.cut (cut.reply_lost attempts all
      (subst (λ ts. IsTrail ts attempts) aims ends.tried) ends.make are)

  -- memory ran out at its send, or for its part of what came
  pub came_over : {done : List Interaction} (slot : KeySlot) (awaited : Awaited)
      (part : Option Outcome) (reply : Option Reply) (was : List Interaction)
      → IsKeyCame config request key part reply awaited slot was
      → done ≡ was ++ Noted awaited.attempts ∷ [] → IsKeyOver config request key done
  came_over {done} slot awaited (Some part) reply was is are =
      let out = is.out in
      let first : Interaction = Made (came awaited.server slot.key.request (Ok part)) in
      let told : List Interaction = map Made (told_of awaited part reply) in
      let all : done ≡ map Made out.calls ++ (first ∷ (told ++ Noted awaited.attempts ∷ [])) =
      are ∙ ap (λ xs. xs ++ Noted awaited.attempts ∷ []) (is.are ∙ ap (λ xs. xs ++ is.adds) out.are
      ∙ ap (λ xs. map Made out.calls ++ xs) is.comes)
      ∙ append_assoc (map Made out.calls) (first ∷ told) (Noted awaited.attempts ∷ []) in
      over.part_lost (record {
        trail = awaited.attempts;
        calls = out.calls;
        server = awaited.server;
        part = part;
        reply = reply;
        tried = subst (λ ts. IsCutTrail ts awaited.attempts) out.aims out.awaits.tried;
        next = out.awaits.server ∙ ap (λ ts. next_target ts awaited.attempts) out.aims;
        found = out.found;
        are =
            all ∙ ap (λ (o : OneKey). map Made out.calls
            ++ (Made (came awaited.server o.request (Ok part))
            ∷ (told ++ Noted awaited.attempts ∷ []))) out.alone;
      })
  came_over {done} slot awaited None reply was is are =
      let out = is.out in
      let was_sent = is.comes.0 in
      let first : Interaction =
      Made (came awaited.server slot.key.request (Err (record { sent = was_sent }))) in
      let all : done ≡ map Made out.calls ++ (first ∷ Noted awaited.attempts ∷ []) =
      are ∙ ap (λ xs. xs ++ Noted awaited.attempts ∷ []) (is.are ∙ ap (λ xs. xs ++ is.adds) out.are
      ∙ ap (λ xs. map Made out.calls ++ xs) is.comes.1)
      ∙ append_assoc (map Made out.calls) (first ∷ []) (Noted awaited.attempts ∷ []) in
      over.cut (cut.send_lost awaited.attempts out.calls awaited.server was_sent
      (subst (λ ts. IsCutTrail ts awaited.attempts) out.aims out.awaits.tried)
      (out.awaits.server ∙ ap (λ ts. next_target ts awaited.attempts) out.aims)
      out.found
      (all ∙ ap (λ (o : OneKey). map Made out.calls
      ++ (Made (came awaited.server o.request (Err (record { sent = was_sent })))
      ∷ Noted awaited.attempts ∷ [])) out.alone))
