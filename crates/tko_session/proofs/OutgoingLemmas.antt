-- What is written while a request is being answered.
use Rattle.std.proofs.Common.{◌≡◌, ℕ, ◌-◌, List, drop, length, take, refl, sym, ap, subst, ◌∙◌}
use Rattle.tko_reply.specs.Answering.{Extends}
use Rattle.tko_reply.specs.declared.asking.OneKey.{OneKey}
use Rattle.tko_reply.proofs.PieceLemmas.{take_two}
use Rattle.tko_session.specs.Outgoing.{AreOutgoing, AreOutgoingIn, outgoing, outgoing_in, sent_from}
use Rattle.tko_session.specs.Outgoing.{shifted_begin, shifted_work}
use Rattle.tko_session.specs.SessionState.{SessionState}
use Rattle.tko_session.specs.Working.{Work, key_work}
use Rattle.tko_session.specs.Working as work
use Rattle.tko_session.specs.declared.session.KeyWait.{KeyWait}
use Rattle.tko_session.specs.declared.session.KeyWait.TheVariants as wait

-- between two requests all replies may be written
pub outgoing_between : (state : SessionState) → state.work ≡ work.Between
    → outgoing state ≡ state.outbox
outgoing_between state is = ap (λ (w : Work). outgoing_in w state.begin state.outbox) is

pub sent_between : (state : SessionState) (count : ℕ) → state.work ≡ work.Between
    → sent_from state count ≡ record state { outbox = drop count state.outbox }
sent_between state count is =
    ap (λ (w : Work). record state {
      outbox = drop count state.outbox;
      begin = shifted_begin count w state.begin;
      work = shifted_work count w;
    }) is ∙ ap (λ (w : Work). record state { outbox = drop count state.outbox; work = w }) (sym is)

pub may_between : (state : SessionState) (count : ℕ) → state.work ≡ work.Between
    → AreOutgoing state count
may_between state count is = subst (λ (w : Work). AreOutgoingIn w state.begin count) (sym is) tt

pub outgoing_at : (begin : ℕ) (outbox : List ℕ) (key : OneKey) (at : KeyWait)
    → outgoing_in (key_work key at) begin outbox ≡ take begin outbox
outgoing_at begin outbox key wait.Read = refl
outgoing_at begin outbox key (wait.Sent awaited) = refl
outgoing_at begin outbox key wait.Tried = refl

-- of the first piece, so many bytes are of the first so many
pub extends_taken : (n : ℕ) (xs ys : List ℕ) → Extends xs ys → Extends (take n xs) (take n ys)
extends_taken n xs ys more = record {
  more = take (n - length xs) more.more;
  is = ap (take n) more.is ∙ take_two n xs more.more;
}
