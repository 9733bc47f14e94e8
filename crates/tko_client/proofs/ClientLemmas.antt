-- What each call of a client is to its session.
use Rattle.std.proofs.Common.{◌≡◌, ◌≤◌, ◌<◌, ℕ, ◌+◌, ◌-◌, List, [], length, take, drop, Some, None}
use Rattle.std.proofs.Common.{refl, sym, ap, subst, ◌∙◌, arith}
use Rattle.std.specs.Prelude.{IsSome}
use Rattle.std.proofs.lemmas.List.{drop-take, length-take}
use Rattle.tko_pools.specs.Configs.{Configuration}
use Rattle.tko_text.specs.declared.request.Request.{Request}
use Rattle.tko_reply.specs.declared.asking.OneKey.{OneKey}
use Rattle.tko_session.specs.Acts.{IsAct}
use Rattle.tko_session.specs.Acts as act
use Rattle.tko_mux.specs.Awaits.{times_due}
use Rattle.tko_port.specs.Talks.{AwaitsAt}
use Rattle.tko_session.specs.Driven.{IsAwaiting}
use Rattle.tko_session.specs.Clients.{ClientPhase, Open, life}
use Rattle.tko_session.specs.Outgoing.{AreOutgoing, AreOutgoingIn, outgoing, outgoing_in, sent_from}
use Rattle.tko_session.specs.Outgoing.{shifted_begin, shifted_work}
use Rattle.tko_session.specs.SessionState.{SessionState, fed_state}
use Rattle.tko_session.specs.Working.{Work, key_in}
use Rattle.tko_session.specs.Working as work
use Rattle.tko_port.specs.declared.talking.SessionStage.TheVariants as stage
use Rattle.tko_client.specs.declared.client.ClientStanding.{ClientStanding}
use Rattle.tko_client.specs.declared.client.ClientStanding.TheVariants as course
use Rattle.tko_client.specs.declared.answering.Answering.{Answering}
use Rattle.tko_client.specs.Answerings.{IsClientIdle, asked_by, asked_for, asked_with}
use Rattle.tko_client.specs.Answerings.{awaited_by_client, client_at, waited_by, waited_with}
use Rattle.tko_client.specs.Clients.{CourseStands, phase_at, stage_of}
use Rattle.tko_client.proofs.SessionStandsLemmas.{idle_awaits}
use Rattle.tko_client.proofs.SentToLemmas.{sent_awaits, sent_to}

-- one that needs more input is open
needs_open : (at : ClientStanding) → stage_of at ≡ stage.NeedsInput → phase_at at ≡ Open
needs_open course.Going is = refl
needs_open course.Waits is = refl
needs_open course.Full is = refl
needs_open course.NeedsInput is = refl
needs_open course.Ended is = refl
needs_open course.Over is = absurd (let never : ⊥ = cc in never)
needs_open course.Short is = absurd (let never : ⊥ = cc in never)
needs_open course.TooLong is = absurd (let never : ⊥ = cc in never)

-- bytes came
pub fed_act : (config : Configuration) (at : ClientStanding) (old new : Answering) (piece : List ℕ)
    → stage_of at ≡ stage.NeedsInput
    → new ≡ record old { session = fed_state old.session piece }
    → IsAct config (client_at (phase_at at) old) (life piece [] []) (client_at (phase_at at) new)
fed_act config at old new piece needs is =
    act.fed piece (needs_open at needs) refl (ap (client_at (phase_at at)) is)

may_send_in : (at : Work) (begin : ℕ) (outbox : List ℕ) (count : ℕ)
    → count ≤ length (outgoing_in at begin outbox) → AreOutgoingIn at begin count
may_send_in work.Between begin outbox count within = tt
may_send_in (work.Read one) begin outbox count within =
    omega (arith, within, length-take begin outbox)
may_send_in (work.Awaits it) begin outbox count within =
    omega (arith, within, length-take begin outbox)
may_send_in (work.Ended one) begin outbox count within =
    omega (arith, within, length-take begin outbox)
may_send_in work.HandedOver begin outbox count within =
    omega (arith, within, length-take begin outbox)

pub may_send : (state : SessionState) (count : ℕ) → count ≤ length (outgoing state)
    → AreOutgoing state count
may_send state count within = may_send_in state.work state.begin state.outbox count within

-- replies were written
pub sent_act : (config : Configuration) (phase : ClientPhase) (old new : Answering) (count : ℕ)
    → count ≤ length (outgoing old.session)
    → new ≡ record old { session = sent_from old.session count }
    → IsAct config (client_at phase old) (life [] (take count old.session.outbox) [])
    (client_at phase new)
sent_act config phase old new count within is =
    act.wrote count (may_send old.session count within) refl (ap (client_at phase) is)

front_left : (begin count : ℕ) (outbox : List ℕ) → count ≤ begin
    → take (begin - count) (drop count outbox) ≡ drop count (take begin outbox)
front_left begin count outbox within =
    let parts : count + (begin - count) ≡ begin = omega (arith, within) in
    sym (drop-take count (begin - count) outbox) ∙ ap (λ n. drop count (take n outbox)) parts

left_in : (at : Work) (begin : ℕ) (outbox : List ℕ) (count : ℕ) → AreOutgoingIn at begin count
    → outgoing_in (shifted_work count at) (shifted_begin count at begin)
    (drop count outbox) ≡ drop count (outgoing_in at begin outbox)
left_in work.Between begin outbox count may = refl
left_in (work.Read one) begin outbox count may = front_left begin count outbox may
left_in (work.Awaits it) begin outbox count may = front_left begin count outbox may
left_in (work.Ended one) begin outbox count may = front_left begin count outbox may
left_in work.HandedOver begin outbox count may = front_left begin count outbox may

-- what waits then
pub sent_left : (old new : SessionState) (count : ℕ) → count ≤ length (outgoing old)
    → new ≡ sent_from old count → outgoing new ≡ drop count (outgoing old)
sent_left old new count within is =
    ap outgoing is ∙ left_in old.work old.begin old.outbox count (may_send old count within)

-- the request that a send is out for is lent
asked_is : (at : Work) (request : Request) → IsSome (asked_for at)
    → ((one : OneKey) → key_in at ≡ Some one → request ≡ one.request) → asked_for at ≡ Some request
asked_is work.Between request some is = absurd (let never : ⊥ = cc in never)
asked_is (work.Read one) request some is = absurd (let never : ⊥ = cc in never)
asked_is (work.Awaits it) request some is = ap Some (sym (is it.key refl))
asked_is (work.Ended one) request some is = absurd (let never : ⊥ = cc in never)
asked_is work.HandedOver request some is = absurd (let never : ⊥ = cc in never)

pub request_is : (it : Answering) (request : Request) → it.keys ≡ None → IsSome (asked_by it)
    → ((one : OneKey) → key_in it.session.work ≡ Some one → request ≡ one.request)
    → asked_by it ≡ Some request
request_is it request none some is =
    ap (λ k. asked_with k it.session.work) none
    ∙ asked_is it.session.work request
    (subst (λ k. IsSome (asked_with k it.session.work)) none some) is

awaiting_asked : (at : Work) → IsAwaiting at → IsSome (asked_for at)
awaiting_asked work.Between out = absurd out
awaiting_asked (work.Read one) out = absurd out
awaiting_asked (work.Awaits it) out = refl
awaiting_asked (work.Ended one) out = absurd out
awaiting_asked work.HandedOver out = absurd out

pub request_to_is : (it : Answering) (server : ℕ) (request : Request) → it.keys ≡ None
    → 0 < times_due (awaited_by_client it) server
    → ((one : OneKey) → key_in it.session.work ≡ Some one → request ≡ one.request)
    → waited_by it server ≡ Some request
request_to_is it server request none some is =
    ap (λ k. waited_with k it.session.work server) none
    ∙ asked_is it.session.work request
    (awaiting_asked it.session.work
    (sent_awaits it.session.work server (sent_to it server none some))) is

-- whom a client awaits at its stage
pub stage_awaits : (at : ClientStanding) (it : Answering) → CourseStands at it
    → AwaitsAt (stage_of at) (awaited_by_client it)
stage_awaits course.Going it stands = tt
stage_awaits course.Waits it stands = stands
stage_awaits course.Full it stands = idle_awaits it stands
stage_awaits course.NeedsInput it stands = idle_awaits it stands.0
stage_awaits course.Ended it stands = idle_awaits it stands
stage_awaits course.Over it stands = idle_awaits it stands
stage_awaits course.TooLong it stands = idle_awaits it stands
stage_awaits course.Short it stands = idle_awaits it stands

none_due : (it : Answering) (server : ℕ) → IsClientIdle it
    → 0 < times_due (awaited_by_client it) server → ⊥
none_due it server idle some =
    let none : times_due (awaited_by_client it) server ≡ 0 =
    ap (λ xs. times_due xs server) (idle_awaits it idle) in absurd (omega (arith, none, some))

-- a client that awaits a server is open
pub waits_open : (at : ClientStanding) (it : Answering) (server : ℕ) → CourseStands at it
    → 0 < times_due (awaited_by_client it) server → phase_at at ≡ Open
waits_open course.Going it server stands some = refl
waits_open course.Waits it server stands some = refl
waits_open course.Full it server stands some = refl
waits_open course.NeedsInput it server stands some = refl
waits_open course.Ended it server stands some = refl
waits_open course.Over it server stands some = absurd (none_due it server stands some)
waits_open course.TooLong it server stands some = absurd (none_due it server stands some)
waits_open course.Short it server stands some = absurd (none_due it server stands some)
