-- Replies went to a client: what is under way then begins that much sooner.
use Rattle.std.proofs.Common.{◌≡◌, ◌≤◌, ℕ, List, [], ◌++◌, Option, length, take, drop, refl, sym}
use Rattle.std.proofs.Common.{ap, subst, ◌∙◌, append-nil}
use Rattle.std.specs.Prelude.{◌-◌}
use Rattle.std.proofs.lemmas.List.{length-drop, take-append-le}
use Rattle.tko_text.specs.Reading.{Gives, Reading, fed, reading_start}
use Rattle.tko_pools.specs.Configs.{Configuration}
use Rattle.tko_reply.specs.Answering.{Extends}
use Rattle.tko_reply.specs.Interactions.{Interaction}
use Rattle.tko_reply.specs.Replies.{joined_values}
use Rattle.tko_reply.specs.Standing.{shifted_key}
use Rattle.tko_keys.specs.KeysState.{KeysState}
use Rattle.tko_keys.specs.declared.plan.KeyPlan.{KeyPlan}
use Rattle.tko_session.specs.Clients.{Short, Over, IsClientShort, IsClientIn, IsClientOver}
use Rattle.tko_session.specs.Clients.{IsClientOpen, Life, ClientPhase, Open, life}
use Rattle.tko_session.specs.Outgoing.{AreOutgoing, AreOutgoingIn, sent_from, shifted_begin}
use Rattle.tko_session.specs.Outgoing.{shifted_work}
use Rattle.tko_session.specs.SessionState.{SessionState, items_of}
use Rattle.tko_session.specs.SoFar.{IsPendingAt, PendingRequest}
use Rattle.tko_session.specs.SoFar as so_far
use Rattle.tko_session.specs.Working.{Between, Work}
use Rattle.tko_session.specs.Working as work
use Rattle.tko_session.proofs.LifeLemmas.{between_or_awaits, between_or_ended, between_or_handed}
use Rattle.tko_session.proofs.LifeLemmas.{between_or_read, idle_open, on_open, open_idle, open_on}
use Rattle.tko_session.proofs.TurnedLemmas.{HasTurned, IsOnWith}
use Rattle.tko_session.proofs.EarlierLemmas.{behind, past_earlier, sent_earlier, wrote_text}

module _ (plan : KeyPlan) (keys : Option KeysState) (config : Configuration) where
  -- the replies before a request are there while it is under way
  front_of : (it : PendingRequest) (targets outbox : List ℕ) (at : Work)
      → IsPendingAt plan keys config it at targets outbox → Extends it.front outbox
  front_of it targets outbox work.Between never = absurd never
  front_of it targets outbox (work.Read one) (is, none, same) =
      record { more = []; is = same ∙ sym (append-nil it.front) }
  front_of it targets outbox (work.Awaits asking) sent =
      record { more = joined_values sent.so_far.routed; is = sent.so_far.appended }
  front_of it targets outbox (work.Ended one) (so_far.complete silent is by_key done) =
      record { more = done.text; is = done.appended }
  front_of it targets outbox (work.Ended one) (so_far.values key left is on) =
      record { more = joined_values on.routed; is = on.appended }
  front_of it targets outbox work.HandedOver far =
      record { more = []; is = far.waits ∙ sym (append-nil it.front) }

  far_earlier : (it : PendingRequest) (targets outbox : List ℕ) (count : ℕ) (at : Work)
      → count ≤ length it.front → length it.front - count ≡ length (drop count it.front)
      → IsPendingAt plan keys config it at targets outbox → IsPendingAt plan keys config
      (behind count it) (shifted_work count at) targets (drop count outbox)
  far_earlier it targets outbox count work.Between within same never = absurd never
  far_earlier it targets outbox count (work.Read one) within same (is, none, front) =
      (ap (shifted_key count) is, none, ap (drop count) front)
  far_earlier it targets outbox count (work.Awaits asking) within same sent =
      sent_earlier count within same sent
  far_earlier it targets outbox count (work.Ended one) within same past =
      past_earlier count within same past
  far_earlier it targets outbox count work.HandedOver within same far = record {
    state = far.state;
    at = far.at;
    several = far.several;
    within = far.within;
    so_far = far.so_far;
    waits = ap (drop count) far.waits;
  }

module _ {plan : KeyPlan} {config : Configuration} where
  wrote_turned : {it : Life} {front : List ℕ} {left : Reading} {requests : ℕ}
      {last : List Interaction} (count : ℕ) → HasTurned plan config it front left requests last
      → HasTurned plan config (life it.bytes (it.sent ++ take count front) it.done)
      (drop count front) left requests last
  wrote_turned {it} {front} count base = record {
    turns = base.turns;
    turned = base.turned;
    each = base.each;
    goes_on = base.goes_on;
    gives = base.gives;
    text = wrote_text count it.sent front _ base.text;
    are = base.are;
    counted = base.counted;
  }

module _ {plan : KeyPlan} {keys : Option KeysState} {config : Configuration} where
  -- replies went to a client, while no request is under way
  wrote_idle : {it : Life} {state : SessionState} (count begin : ℕ)
      → IsClientOpen plan keys config it state → state.work ≡ Between
      → IsClientOpen plan keys config (life it.bytes (it.sent ++ take count state.outbox) it.done)
      (record state { outbox = drop count state.outbox; begin = begin })
  wrote_idle count begin s is = idle_open (wrote_turned count (open_idle s is)) is

  wrote_on : {it : Life} {state : SessionState} (count : ℕ) (at : Work)
      → count ≤ state.begin → IsClientOpen plan keys config it state → state.work ≡ at
      → IsOnWith plan keys config it state at
      → IsClientOpen plan keys config (life it.bytes (it.sent ++ take count state.outbox) it.done)
      (record state {
        outbox = drop count state.outbox;
        begin = state.begin - count;
        work = shifted_work count at;
      })
  wrote_on {it} {state} count at within s is on =
      let front = on.under.front in
      let inside : count ≤ length front = subst (λ n. count ≤ n) on.on.begin within in
      let less : length front - count ≡ length (drop count front) = sym (length-drop count front) in
      let all = front_of plan keys config on.under state.targets state.outbox at on.far in
      let first : take count state.outbox ≡ take count front =
      ap (take count) all.is ∙ take-append-le count front all.more inside in
      let after : SessionState = record state {
        outbox = drop count state.outbox;
        begin = state.begin - count;
        work = shifted_work count at;
      } in
      subst (λ xs. IsClientOpen plan keys config (life it.bytes (it.sent ++ xs) it.done) after)
      (sym first)
      (on_open {state = after} (behind count on.under)
      (record {
        left = on.on.left;
        base = wrote_turned count on.on.base;
        emits = on.on.emits;
        begin = ap (λ n. n - count) on.on.begin ∙ less;
      })
      (far_earlier plan keys config on.under state.targets state.outbox count at inside
      less on.far))

  wrote_by : {it : Life} {state : SessionState} (count : ℕ) (at : Work)
      → AreOutgoingIn at state.begin count → IsClientOpen plan keys config it state
      → state.work ≡ at
      → IsClientOpen plan keys config (life it.bytes (it.sent ++ take count state.outbox) it.done)
      (record state {
        outbox = drop count state.outbox;
        begin = shifted_begin count at state.begin;
        work = shifted_work count at;
      })
  wrote_by {it} {state} count work.Between within s is =
      subst (λ w. IsClientOpen plan keys config (life it.bytes (it.sent ++ take count state.outbox)
      it.done) (record state { outbox = drop count state.outbox; work = w }))
      is (wrote_idle count state.begin s is)
  wrote_by count (work.Read one) within s is = wrote_on count (work.Read one) within s is
      (open_on (work.Read one) s is (between_or_read one))
  wrote_by count (work.Awaits asking) within s is = wrote_on count (work.Awaits asking) within s is
      (open_on (work.Awaits asking) s is (between_or_awaits asking))
  wrote_by count (work.Ended one) within s is = wrote_on count (work.Ended one) within s is
      (open_on (work.Ended one) s is (between_or_ended one))
  wrote_by count work.HandedOver within s is =
      wrote_on count work.HandedOver within s is (open_on work.HandedOver s is between_or_handed)

-- what stays of a session whose first bytes were written, and which has no request under way
record IsLess (count : ℕ) (old new : SessionState) : Type 0 where
  waits : new.outbox ≡ drop count old.outbox
  reading : new.reading ≡ old.reading
  requests : new.requests ≡ old.requests
  between : new.work ≡ Between

less : (count : ℕ) (old : SessionState) → old.work ≡ Between
    → IsLess count old (sent_from old count)
less count old at = record {
  waits = refl;
  reading = refl;
  requests = refl;
  between = ap (shifted_work count) at;
}

wrote_over : (plan : KeyPlan) (config : Configuration) (it : Life) (count : ℕ)
    (old new : SessionState) → IsClientOver plan config it old → IsLess count old new
    → IsClientOver plan config (life it.bytes (it.sent ++ take count old.outbox) it.done) new
wrote_over plan config it count old new f by = record {
  turns = f.turns;
  each = f.each;
  at = by.between;
  ends = f.ends;
  gives =
      subst (λ r. Gives (fed reading_start it.bytes) (items_of f.turns) r) (sym by.reading) f.gives;
  text = ap (λ xs. (it.sent ++ take count old.outbox) ++ xs) by.waits
      ∙ wrote_text count it.sent old.outbox _ f.text;
  requests = rw by.requests f.requests;
}

wrote_short : (plan : KeyPlan) (config : Configuration) (it : Life) (count : ℕ)
    (old new : SessionState) → IsClientShort plan config it old → IsLess count old new
    → IsClientShort plan config (life it.bytes (it.sent ++ take count old.outbox) it.done) new
wrote_short plan config it count old new f by = record {
  turns = f.turns;
  turned = f.turned;
  left = f.left;
  last = f.last;
  each = f.each;
  at = by.between;
  goes_on = f.goes_on;
  gives = f.gives;
  cut = f.cut;
  text = ap (λ xs. (it.sent ++ take count old.outbox) ++ xs) by.waits
      ∙ wrote_text count it.sent old.outbox _ f.text;
  are = f.are;
  requests = rw by.requests f.requests;
}

-- replies went to a client
pub wrote_in : (plan : KeyPlan) (keys : Option KeysState)
    (config : Configuration) (it : Life) (count : ℕ) (old : SessionState) (phase : ClientPhase)
    → IsClientIn phase plan keys config it old → AreOutgoing old count
    → IsClientIn phase plan keys config (life it.bytes (it.sent ++ take count old.outbox) it.done)
    (sent_from old count)
wrote_in plan keys config it count old Open is within = wrote_by count old.work within is refl
wrote_in plan keys config it count old Over is within =
    wrote_over plan config it count old (sent_from old count) is (less count old is.at)
wrote_in plan keys config it count old Short is within =
    wrote_short plan config it count old (sent_from old count) is (less count old is.at)
