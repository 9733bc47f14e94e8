-- An item that was read, a request that begins, and a key that goes on.
use Rattle.std.proofs.Common.{◌≡◌, ℕ, Bool, false, true, List, [], ◌++◌, length, sym, ap, subst}
use Rattle.std.proofs.Common.{◌∙◌, true≢false}
use Rattle.tko_text.specs.Reading.{Emits}
use Rattle.tko_text.specs.Requests.{fault_text}
use Rattle.tko_text.specs.declared.fault.TextFault.{TextFault}
use Rattle.tko_text.specs.declared.item.Item.TheVariants as item
use Rattle.tko_text.specs.declared.request.Request.{Request}
use Rattle.tko_pools.specs.Configs.{Configuration}
use Rattle.tko_route.specs.Calls.{RoutedCall}
use Rattle.tko_reply.specs.Asking.{BeginsAnswer, ContinuesKeys, IsFirst}
use Rattle.tko_reply.specs.Asking as asked
use Rattle.tko_reply.specs.Standing.{whole_of}
use Rattle.tko_reply.specs.declared.asking.OneKey.{OneKey}
use Rattle.tko_session.specs.Driven.{ItemRead, with_request_read}
use Rattle.tko_session.specs.Driven as driven
use Rattle.tko_session.specs.SessionState.{SessionState}
use Rattle.tko_session.specs.declared.step.Step.{Step}
use Rattle.tko_session.specs.declared.step.Step.TheVariants as step

-- a request that begins with a key
pub begins_first : {config : Configuration} {request : Request} {outbox outbox' : List ℕ}
    {calls : List RoutedCall} {one : OneKey} {keyed : Bool} → keyed ≡ true
    → BeginsAnswer config request outbox calls keyed one outbox'
    → IsFirst request (length outbox) one × (outbox' ≡ outbox) × (calls ≡ [])
begins_first on (asked.itself text looks over is are same) = absurd (true≢false (sym on ∙ over))
begins_first on (asked.by_key on' first none same) = (first, same, none)

-- a key that goes on to the next
pub next_outbox : {one other : OneKey} {outbox outbox' : List ℕ}
    → ContinuesKeys one outbox true other outbox' → outbox' ≡ outbox
next_outbox (asked.complete silent kind over same) = absurd (true≢false over)
next_outbox (asked.last begin kind over same) = absurd (true≢false over)
next_outbox (asked.next begin key left kind on alike then same) = same

-- whose reply is complete
pub over_same : {one other : OneKey} {outbox outbox' : List ℕ}
    → ContinuesKeys one outbox false other outbox' → ContinuesKeys one outbox false one outbox'
over_same (asked.complete silent kind over same) = asked.complete silent kind over same
over_same (asked.last begin kind over same) = asked.last begin kind over same
over_same (asked.next begin key left kind on alike then same) = absurd (true≢false (sym on))

-- a fault was read and answered
pub fault_read : {old read new : SessionState} {said : Step} (fault : TextFault)
    → Emits old.reading (item.Fault fault) read.reading
    → read ≡ record old { reading = read.reading }
    → new ≡ record read { outbox = read.outbox ++ fault_text fault }
    → said ≡ step.Refused fault → ItemRead old said new
fault_read {old} {read} {new} fault told others is says =
    let to : new.reading ≡ read.reading = ap (λ (s : SessionState). s.reading) is in
    driven.refused fault (subst (λ r. Emits old.reading (item.Fault fault) r) (sym to) told) says
    (is ∙ ap (λ (s : SessionState). record s { outbox = s.outbox ++ fault_text fault }) others
    ∙ ap (λ r. record old { reading = r; outbox = old.outbox ++ fault_text fault }) (sym to))

-- a request was read and kept
pub request_read : {old read new : SessionState} {said : Step} (it : Request)
    → Emits old.reading (item.Request it) read.reading
    → read ≡ record old { reading = read.reading } → new ≡ with_request_read (whole_of it) read
    → said ≡ step.Began → ItemRead old said new
request_read {old} {read} {new} it told others is says =
    let to : new.reading ≡ read.reading = ap (λ (s : SessionState). s.reading) is in
    driven.asked it (subst (λ r. Emits old.reading (item.Request it) r) (sym to) told) says
    (is ∙ ap (with_request_read (whole_of it)) others
    ∙ ap (λ r. with_request_read (whole_of it) (record old { reading = r })) (sym to))
