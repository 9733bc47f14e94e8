-- Laws of where the reply to a request begins, while its keys are asked for.
use Rattle.std.proofs.Common.{◌≡◌, ◌≤◌, ℕ, true, List, ◌++◌, length, length-append, take}
use Rattle.std.proofs.Common.{refl, sym, ap, subst, ◌∙◌, arith, true≢false}
use Rattle.std.proofs.lemmas.List.{take_at, take-append-le, length-take-le}
use Rattle.tko_text.specs.declared.request.Request.{Request}
use Rattle.tko_text.specs.declared.response.Response.{Response}
use Rattle.std.specs.Prelude.{Option}
use Rattle.tko_pools.specs.Configs.{AreServers, Configuration}
use Rattle.tko_route.specs.Calls.{RoutedCall}
use Rattle.tko_route.specs.Routing.{Reached, last_place}
use Rattle.tko_route.specs.Trail.{form_at}
use Rattle.tko_route.specs.declared.routing.Stage.{Stage}
use Rattle.tko_route.specs.declared.routing.Stage.TheVariants as stage
use Rattle.tko_reply.specs.Answering.{Extends}
use Rattle.tko_reply.specs.Asking.{BeginsAt, ContinuesKeys, Goes, HasFront, IsFirst, Replies}
use Rattle.tko_reply.specs.Asking.{Settles, course_of, front_of}
use Rattle.tko_reply.specs.Asking as asked
use Rattle.tko_reply.specs.Replies.{text_of_answer}
use Rattle.tko_reply.specs.Sends.{IsSent}
use Rattle.tko_reply.specs.Standing.{asking}
use Rattle.tko_reply.specs.declared.asking.OneKey.{OneKey}
use Rattle.tko_reply.specs.declared.asking.ReplyPart.{ReplyPart}
use Rattle.tko_reply.specs.declared.asking.ReplyPart.TheVariants as share

-- the replies from before the request stay, whatever was put after them
pub front_stays : (begin : ℕ) (kind : ReplyPart) (outbox outbox' : List ℕ)
    → BeginsAt begin kind outbox → Extends (front_of kind outbox) outbox'
    → take begin outbox' ≡ take begin outbox
front_stays begin (share.Whole silent) outbox outbox' within more =
    ap (take begin) more.is ∙ take-append-le begin outbox more.more within
front_stays begin (share.Joined first left) outbox outbox' (same, within) more =
    let front : outbox' ≡ take begin outbox ++ more.more =
    more.is ∙ ap (λ n. take n outbox ++ more.more) same in
    ap (take begin) front ∙ take_at (take begin outbox) more.more begin
    (length-take-le begin outbox within)

pub has_front : (begin : ℕ) (kind : ReplyPart) (outbox : List ℕ) → BeginsAt begin kind outbox
    → HasFront kind outbox
has_front begin (share.Whole silent) outbox held = tt
has_front begin (share.Joined first left) outbox (same, within) =
    subst (λ n. n ≤ length outbox) (sym same) within

-- where a send is out for a key, it is to one of the targets
abbrev pub AwaitsAt : Configuration → List ℕ → Stage → OneKey → Type 0
AwaitsAt config targets (stage.Away clear awaited) one = IsSent config targets (asking awaited one)
AwaitsAt config targets (stage.Done trail) one = Unit {0}

held_more : {begin : ℕ} (outbox outbox' more : List ℕ) → outbox' ≡ outbox ++ more
    → begin ≤ length outbox → begin ≤ length outbox'
held_more outbox outbox' more is within =
    omega (arith, within, length-append outbox more, ap length is)

-- a key has ended
replies_held : (found : Option Response) (outbox outbox' : List ℕ) (begin : ℕ)
    (kind kind' : ReplyPart) → BeginsAt begin kind outbox
    → Replies kind found outbox kind' outbox' → BeginsAt begin kind' outbox'
replies_held found outbox outbox' begin (share.Whole silent) kind' within (same, text) =
    let within' : begin ≤ length outbox' = held_more outbox outbox' _ text within in
    let held : BeginsAt begin (share.Whole silent) outbox' = within' in
    subst (λ k. BeginsAt begin k outbox') (sym same) held
replies_held found outbox outbox' begin (share.Joined first left) kind' (same, within)
    (asked.other none kind text) =
    let more = text_of_answer found in
    let front : outbox' ≡ take begin outbox ++ more = text ∙ ap (λ n. take n outbox ++ more) same in
    let within' : begin ≤ length outbox' =
    omega (
      arith,
      ap length front,
      length-append
          (take begin outbox) more,
      length-take-le begin outbox within,
    ) in
    subst (λ k. BeginsAt begin k outbox') (sym kind) within'
replies_held found outbox outbox' begin (share.Joined first left) kind' (same, within)
    (asked.values some kind text) =
    let held : BeginsAt begin (share.Joined first left) outbox' =
    (same, held_more outbox outbox' _ text within) in
    subst (λ k. BeginsAt begin k outbox') (sym kind) held

settled_held : (outbox outbox' : List ℕ) (begin : ℕ) (to : Stage) (one one' : OneKey)
    → BeginsAt begin one.share outbox
    → Settles to one outbox one' outbox' → BeginsAt begin one'.share outbox'
settled_held outbox outbox' begin (stage.Away clear awaited) one one' held (is, same) =
    let held' : BeginsAt begin one.share outbox' =
    subst (BeginsAt begin one.share) (sym same) held in
    subst (λ (o : OneKey). BeginsAt begin o.share outbox') (sym is) held'
settled_held outbox outbox' begin (stage.Done trail) one one' held (is, replies) =
    replies_held _ outbox outbox' begin one.share one'.share held replies

settled_awaits : (outbox outbox' : List ℕ) (targets : List ℕ) (original : Request)
    (calls : List RoutedCall) (config : Configuration) (to : Stage) (one one' : OneKey)
    → AreServers config targets
    → one.request ≡ form_at config.failover_exptime original (last_place to)
    → Reached targets (form_at config.failover_exptime original) calls to
    → Settles to one outbox one' outbox' → AwaitsAt config targets to one'
settled_awaits outbox outbox' targets original calls config (stage.Away clear awaited) one one' are
    form reached (is, same) =
    let sent : IsSent config targets (asking awaited one) =
    record {
      out = record { within = are; awaits = reached.0 };
      original = original;
      calls = calls;
      form = form;
      found = reached.2;
    } in
    subst (λ o. IsSent config targets (asking awaited o)) (sym is) sent
settled_awaits outbox outbox' targets original calls config (stage.Done trail) one one' are form
    reached settles = tt

-- where the answer to a request goes on, its reply begins where it did, and a send that is out is
-- to
-- one of the targets
pub goes_held : (config : Configuration) {targets : List ℕ} (one : OneKey) (original : Request)
    {calls : List RoutedCall} {outbox outbox' : List ℕ} {to : Stage} {one' : OneKey} (begin : ℕ)
    → BeginsAt begin one.share outbox
    → Goes (course_of config targets one original) calls outbox to one' outbox'
    → BeginsAt begin one'.share outbox'
goes_held config one original {outbox = outbox} {outbox' = outbox'} {to = to} {one' =
    one'} begin held goes = settled_held outbox outbox' begin to _ one' held goes.settles

pub goes_awaits : {targets : List ℕ} (one : OneKey) {calls : List RoutedCall}
    {outbox outbox' : List ℕ} {to : Stage} {one' : OneKey}
    (config : Configuration) (original : Request) → AreServers config targets
    → Goes (course_of config targets one original) calls outbox to one' outbox'
    → AwaitsAt config targets to one'
goes_awaits {targets} one {calls} {outbox} {outbox'} {to} {one'} config original are goes =
    settled_awaits outbox outbox' targets original calls config to _ one' are refl goes.reached
    goes.settles

-- the first key of a request
pub first_held : (begin : ℕ) (request : Request) (outbox : List ℕ) (one : OneKey)
    → begin ≡ length outbox → IsFirst request (length outbox) one → BeginsAt begin one.share outbox
first_held begin request outbox one from (asked.alone single is) =
    let within : begin ≤ length outbox = omega (arith, from) in
    subst (λ (o : OneKey). BeginsAt begin o.share outbox) (sym is) within
first_held begin request outbox one from (asked.of_several key left unique is e) =
    subst (λ (o : OneKey). BeginsAt begin o.share outbox) (sym e) (sym from, omega (arith, from))

-- the next of several keys
pub next_held : (begin : ℕ) (one other : OneKey) (outbox outbox' : List ℕ)
    → BeginsAt begin one.share outbox → ContinuesKeys one outbox true other outbox'
    → BeginsAt begin other.share outbox'
next_held begin one other outbox outbox' held (asked.complete silent kind over same) =
    absurd (true≢false over)
next_held begin one other outbox outbox' held (asked.last first kind over same) =
    absurd (true≢false over)
next_held begin one other outbox outbox' held (asked.next first key left kind on alike then same) =
    let held' : (first ≡ begin) × (begin ≤ length outbox) =
    subst (λ k. BeginsAt begin k outbox) kind held in
    let held'' : BeginsAt begin (share.Joined first left) outbox' =
    (held'.0, subst (λ xs. begin ≤ length xs) (sym same) held'.1) in
    subst (λ k. BeginsAt begin k outbox') (sym then) held''
