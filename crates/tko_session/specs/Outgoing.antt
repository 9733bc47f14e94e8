-- The replies of a session that may be written, and the session once some of them were.
use Rattle.std.specs.Prelude.{ℕ, ◌-◌, ◌≤◌, List, drop, take}
use Rattle.tko_reply.specs.Standing.{asking, shifted_key}
use Rattle.tko_session.specs.SessionState.{SessionState}
use Rattle.tko_session.specs.Working.{Work}
use Rattle.tko_session.specs.Working as work

-- all replies that wait; or, while a request is being answered, those from before its reply
abbrev pub outgoing_in : Work → ℕ → List ℕ → List ℕ
outgoing_in work.Between begin outbox = outbox
outgoing_in (work.Read one) begin outbox = take begin outbox
outgoing_in (work.Awaits it) begin outbox = take begin outbox
outgoing_in (work.Ended one) begin outbox = take begin outbox
outgoing_in work.HandedOver begin outbox = take begin outbox

abbrev pub outgoing : SessionState → List ℕ
outgoing state = outgoing_in state.work state.begin state.outbox

-- so many bytes are from before the reply that is under way
abbrev pub AreOutgoingIn : Work → ℕ → ℕ → Type 0
AreOutgoingIn work.Between begin count = Unit {0}
AreOutgoingIn (work.Read one) begin count = count ≤ begin
AreOutgoingIn (work.Awaits it) begin count = count ≤ begin
AreOutgoingIn (work.Ended one) begin count = count ≤ begin
AreOutgoingIn work.HandedOver begin count = count ≤ begin

abbrev pub AreOutgoing : SessionState → ℕ → Type 0
AreOutgoing state count = AreOutgoingIn state.work state.begin count

-- once so many bytes of the replies were written, the reply under way begins that much sooner
abbrev pub shifted_begin : ℕ → Work → ℕ → ℕ
shifted_begin count work.Between begin = begin
shifted_begin count (work.Read one) begin = begin - count
shifted_begin count (work.Awaits it) begin = begin - count
shifted_begin count (work.Ended one) begin = begin - count
shifted_begin count work.HandedOver begin = begin - count

abbrev pub shifted_work : ℕ → Work → Work
shifted_work count work.Between = work.Between
shifted_work count (work.Read one) = work.Read (shifted_key count one)
shifted_work count (work.Awaits it) = work.Awaits (asking it.awaited (shifted_key count it.key))
shifted_work count (work.Ended one) = work.Ended (shifted_key count one)
shifted_work count work.HandedOver = work.HandedOver

-- the session once so many bytes of its replies were written
abbrev pub sent_from : SessionState → ℕ → SessionState
sent_from old count = record old {
  outbox = drop count old.outbox;
  begin = shifted_begin count old.work old.begin;
  work = shifted_work count old.work;
}
