-- What the interactions of one key come to, by one more call of it.
use Rattle.std.proofs.Common.{◌≡◌, ℕ, Bool, List, [], ◌∷◌, ◌++◌, length, map, Option, Some, None}
use Rattle.std.proofs.Common.{Ok, refl, sym, ap, subst, ◌∙◌, append_assoc}
use Rattle.std.proofs.lemmas.List.{map-append}
use Rattle.std.proofs.lemmas.Option.{same_Some}
use Rattle.tko_model.specs.declared.mark.Reply.{Reply}
use Rattle.tko_links.specs.declared.links.Outcome.{Outcome}
use Rattle.tko_text.specs.SentRequests.{without_noreply}
use Rattle.tko_text.specs.declared.request.Request.{Request}
use Rattle.tko_pools.specs.Configs.{Configuration, targets_of}
use Rattle.tko_route.specs.Calls.{RoutedCall, came}
use Rattle.tko_route.specs.Routing.{told_of, FindsUp}
use Rattle.tko_route.specs.Trail.{form_at}
use Rattle.tko_route.specs.Underway.{Awaited}
use Rattle.tko_route.specs.declared.attempt.Attempt.{Attempt}
use Rattle.tko_reply.specs.Answering.{retrieval}
use Rattle.tko_reply.specs.Answers.{form_in, request_for}
use Rattle.tko_reply.specs.Asking.{Course, Goes, course_of}
use Rattle.tko_reply.specs.Cuts.{EndsBy, KeyLost}
use Rattle.tko_reply.specs.Interactions.{Interaction, Made, Noted, marks_of}
use Rattle.tko_reply.specs.Standing.{one_of}
use Rattle.tko_reply.specs.declared.asking.OneKey.{OneKey}
use Rattle.tko_reply.specs.declared.asking.ReplyPart.{ReplyPart}
use Rattle.tko_reply.proofs.AnsweringLemmas.{retrieval_keys}
use Rattle.tko_reply.specs.Cuts as cut
use Rattle.tko_reply.specs.declared.asking.ReplyPart.TheVariants as share
use Rattle.tko_keys.specs.declared.step.KeyStep.{KeyStep}
use Rattle.tko_keys.specs.AtOnce.{IsKeyOver, own_of}
use Rattle.tko_keys.specs.KeysDriven.{others_of, with_loss}
use Rattle.tko_keys.specs.KeysSoFar.{ComesTo, IsKeyCame, IsKeyOut, KeysSoFar}
use Rattle.tko_keys.specs.KeysState.{KeySlot, KeysCame, KeysState}
use Rattle.tko_keys.specs.Lines.{key_of, part_for_key}
use Rattle.tko_keys.specs.SlotCalls.{IsLeftForOthers, PartDropped, SlotBegun, SlotTaken}
use Rattle.tko_keys.specs.AtOnce as over
use Rattle.tko_keys.specs.SlotCalls as parted
use Rattle.tko_keys.proofs.StageLemmas.{alone_course, came_over, ends_noted, ends_over, slot_lost}
use Rattle.tko_keys.proofs.ReadyLemmas.{KeysStep}
use Rattle.tko_keys.proofs.CallLemmas.{loss_ready}

-- the calls of a key before a send, what came of it, and those after it
pub glued : (was before adds last : List Interaction) (front told calls : List RoutedCall)
    (one : RoutedCall) → before ≡ map Made front → was ≡ before ++ (Made one ∷ map Made told)
    → adds ≡ map Made calls ++ last
    → was ++ adds ≡ map Made (front ++ one ∷ (told ++ calls)) ++ last
glued was before adds last front told calls one is came_is are =
    ap (λ xs. xs ++ adds) (came_is ∙ ap (λ xs. xs ++ (Made one ∷ map Made told)) is)
    ∙ append_assoc (map Made front) (Made one ∷ map Made told) adds
    ∙ ap (λ xs. map Made front ++ (Made one ∷ (map Made told ++ xs))) are
    ∙ ap (λ xs. map Made front ++ (Made one ∷ xs))
    (sym (append_assoc (map Made told) (map Made calls) last))
    ∙ ap (λ xs. map Made front ++ (Made one ∷ (xs ++ last))) (sym (map-append Made told calls))
    ∙ sym (append_assoc (map Made front) (map Made (one ∷ (told ++ calls))) last)
    ∙ ap (λ xs. xs ++ last) (sym (map-append Made front (one ∷ (told ++ calls))))

-- all calls of a key that something came for
abbrev pub all_calls : KeySlot → Awaited → Outcome → Option Reply → List RoutedCall
    → List RoutedCall → List RoutedCall
all_calls slot awaited part reply before calls =
    before ++ came awaited.server slot.key.request (Ok part) ∷ (told_of awaited part reply ++ calls)

module _ {config : Configuration} (request : Request) (key : List ℕ) where
  -- a key was begun by its request alone
  pub begun_goes : {r : Request} {calls : List RoutedCall} {said : KeyStep} (slot : KeySlot)
      (it : SlotBegun config r calls said slot) → r ≡ request_for request key
      → Goes (alone_course config request key slot.targets) calls [] it.at slot.key slot.outbox
  begun_goes {r} {calls} slot it same =
      subst (λ (q : Request). Goes
      (course_of config slot.targets (one_of q) (without_noreply q)) calls [] it.at slot.key
      slot.outbox) same it.goes

  -- what came of it was recorded
  pub taken_goes : {part : Outcome} {more : List RoutedCall} {said : KeyStep}
      {was : List Interaction} {awaited : Awaited} (slot after : KeySlot)
      (it : SlotTaken config part slot more said after) → it.awaited ≡ awaited
      → (out : IsKeyOut config request key awaited slot was)
      → Goes (alone_course config request key after.targets)
      (out.calls ++ came awaited.server slot.key.request (Ok part) ∷ more) [] it.at after.key
      after.outbox
  taken_goes {part} {more} {awaited = awaited} slot after it same_awaited out =
      let original = without_noreply (request_for request key) in
      let all = out.calls ++ came awaited.server slot.key.request (Ok part) ∷ more in
      let Course_of : List ℕ → ReplyPart → Course =
      λ ts kind. record {
        targets = ts;
        form = form_at config.failover_exptime original;
        share = kind;
      } in
      let form : slot.key.request ≡ form_at config.failover_exptime original
      (length it.awaited.attempts) =
      ap (λ (o : OneKey). o.request) out.alone
      ∙ ap (λ (w : Awaited). form_at config.failover_exptime original (length w.attempts))
      (sym same_awaited) in
      let found = subst (λ (w : Awaited). FindsUp
      (form_at config.failover_exptime original) out.calls w.attempts w.server)
      (sym same_awaited) out.found in
      let first : Goes (Course_of slot.targets slot.key.share)
      (out.calls ++ came it.awaited.server slot.key.request (Ok part) ∷ more) slot.outbox it.at
      after.key after.outbox =
      it.goes original out.calls form found in
      let goes : Goes (Course_of slot.targets slot.key.share) all slot.outbox it.at after.key
      after.outbox =
      subst (λ (w : Awaited). Goes (Course_of slot.targets slot.key.share)
      (out.calls ++ came w.server slot.key.request (Ok part) ∷ more) slot.outbox it.at after.key
      after.outbox) same_awaited first in
      subst (λ ts. Goes (Course_of ts (share.Joined 0 [])) all [] it.at after.key after.outbox)
      (sym it.same)
      (subst (λ kind. Goes (Course_of slot.targets kind) all [] it.at after.key after.outbox)
      (ap (λ (o : OneKey). o.share) out.alone)
      (subst (λ xs. Goes (Course_of slot.targets slot.key.share) all xs it.at after.key
      after.outbox) out.empty goes))

-- memory ran out besides
pub lost_step : {config : Configuration} {old mid : KeysState} {place : ℕ} {after : KeySlot}
    {said : KeyStep} → KeysStep config old mid place after said
    → KeysStep config old (with_loss mid) place after said
lost_step on = record {
  changed = on.changed;
  split = on.split;
  due = on.due;
  sends = on.sends;
  came = on.came;
  plan = on.plan;
  unique = on.unique;
  few = on.few;
  near = on.near;
  failed = on.failed;
  free = on.free;
  says = on.says;
}

pub lost_so_far : {config : Configuration} {request : Request} {old new : KeysState}
    {done : List Interaction} → KeysSoFar config request old done → new ≡ with_loss old
    → KeysSoFar config request new done
lost_so_far {config} {request} {old} {new} {done} s is =
    subst (λ (k : KeysState). KeysSoFar config request k done) (sym is) (record {
      several = s.several;
      ready = loss_ready s.ready refl;
      begun = s.begun;
      whole = s.whole;
      all = s.all;
      placed = s.placed;
      are_placed = s.are_placed;
      each = λ place key slot has at. slot_lost config request key old.came _ slot
          (own_of place s.placed) slot.awaited old.lost (s.each place key slot has at);
    })

-- memory ran out at a key that is begun
pub key_over : {config : Configuration} {request : Request} {key : List ℕ} {calls : List RoutedCall}
    {attempts : List Attempt} {adds : List Interaction} (unique : Bool)
    → retrieval (key ∷ []) unique ≡ request_for request key
    → KeyLost config (retrieval (key ∷ []) unique) calls attempts
    → adds ≡ map Made calls ++ marks_of attempts → IsKeyOver config request key adds
key_over unique same (cut.untried none no_attempts) are =
    over.untried (are ∙ rw (none, no_attempts) refl)
key_over {config} {request} {key} {calls} {attempts} unique same (cut.tried ends) are =
    let it = ends key (retrieval_keys (key ∷ []) unique) in
    ends_over config request key calls attempts
    (subst (λ (q : Request). EndsBy (targets_of config key) (form_in config q) calls attempts)
    same it) refl are

-- the key of a place was dropped
pub dropped_over : (config : Configuration) (request : Request) (old : KeysState) {places : List ℕ}
    {slot after : KeySlot} {left : KeysCame} {calls : List RoutedCall} {attempts : List Attempt}
    {adds was : List Interaction} (key : List ℕ) (awaited : Awaited) → slot.awaited ≡ Some awaited
    → PartDropped config (others_of places old.came) slot calls attempts left after
    → adds ≡ map Made calls ++ Noted attempts ∷ []
    → IsKeyCame config request key
    (part_for_key old.came (key_of slot)) old.came.reply awaited slot was
    → IsKeyOver config request key (was ++ adds)
dropped_over config request old {slot = slot} {calls = calls} {attempts} {adds}
    {was} key awaited out (parted.in_call part other is_part out' dropped leaves) are here =
    let same : other ≡ awaited = same_Some other awaited (sym out' ∙ out) in
    let inner : dropped.awaited ≡ awaited =
    same_Some dropped.awaited awaited (sym dropped.out ∙ out) in
    let comes : ComesTo (Some part) old.came.reply awaited slot here.adds =
    subst (λ p. ComesTo p old.came.reply awaited slot here.adds) is_part here.comes in
    let original = without_noreply (request_for request key) in
    let form : slot.key.request ≡ form_at config.failover_exptime original
    (length dropped.awaited.attempts) =
    ap (λ (o : OneKey). o.request) here.out.alone
    ∙ ap (λ (w : Awaited). form_at config.failover_exptime original (length w.attempts))
    (sym inner) in
    let found = subst (λ (w : Awaited). FindsUp
    (form_at config.failover_exptime original) here.out.calls w.attempts w.server)
    (sym inner) here.out.found in
    let first : EndsBy slot.targets (form_at config.failover_exptime original)
    (here.out.calls ++ came dropped.awaited.server slot.key.request
    (Ok part) ∷ (told_of other part old.came.reply ++ calls)) attempts =
    dropped.lost original here.out.calls form found in
    let ends : EndsBy slot.targets (form_in config (request_for request key))
    (all_calls slot awaited part old.came.reply here.out.calls calls) attempts =
    subst (λ (w : Awaited). EndsBy slot.targets (form_at config.failover_exptime original)
    (here.out.calls ++ came awaited.server slot.key.request
    (Ok part) ∷ (told_of w part old.came.reply ++ calls)) attempts) same
    (subst (λ (w : Awaited). EndsBy slot.targets (form_at config.failover_exptime original)
    (here.out.calls ++ came w.server slot.key.request
    (Ok part) ∷ (told_of other part old.came.reply ++ calls)) attempts) inner first) in
    ends_noted config request key
    (all_calls slot awaited part old.came.reply here.out.calls calls) attempts ends
    here.out.aims
    (glued was here.before adds (Noted attempts ∷ []) here.out.calls
    (told_of awaited part old.came.reply) calls _ here.out.are
    (here.are ∙ ap (λ xs. here.before ++ xs) comes) are)
dropped_over config request old {slot = slot} {calls = calls} {attempts} {adds}
    {was} key awaited out (parted.before other out' none tried same gone) are here =
    let this : other ≡ awaited = same_Some other awaited (sym out' ∙ out) in
    let last : adds ≡ Noted awaited.attempts ∷ [] =
    are ∙ ap (λ cs. map Made cs ++ Noted attempts ∷ []) none
    ∙ ap (λ xs. Noted xs ∷ []) (tried ∙ ap (λ (w : Awaited). w.attempts) this) in
    came_over config request key slot awaited
    (part_for_key old.came (key_of slot)) old.came.reply was here (ap (λ xs. was ++ xs) last)

pub waits_at : {config : Configuration} {came : KeysCame} {slot after : KeySlot} {left : KeysCame}
    {calls : List RoutedCall} {attempts : List Attempt}
    → PartDropped config came slot calls attempts left after
    → (awaited : Awaited) × (slot.awaited ≡ Some awaited)
waits_at (parted.in_call part awaited is_part out dropped leaves) = (awaited, out)
waits_at (parted.before awaited out none tried same gone) = (awaited, out)

pub leaves_at : {config : Configuration} (old : KeysState) {places : List ℕ} {slot after : KeySlot}
    {left : KeysCame} {calls : List RoutedCall} {attempts : List Attempt}
    → PartDropped config (others_of places old.came) slot calls attempts left after
    → IsLeftForOthers (key_of slot) (others_of places old.came) left × (after.awaited ≡ None)
leaves_at old (parted.in_call part awaited is_part out dropped leaves) = (leaves, dropped.ended)
leaves_at old {places} {slot} (parted.before awaited out none tried same gone) = (
  subst (IsLeftForOthers (key_of slot) (others_of places old.came)) (sym same)
      (record { same = refl; goes_on = λ is. is; others = λ shared other apart. refl }),
  ap (λ (k : KeySlot). k.awaited) gone,
)
