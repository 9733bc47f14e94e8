-- Where a delivery ends: after all of its events or in a request that was cut short, and the batch
-- that it ends in.
use Rattle.std.proofs.Common.{◌≡◌, ℕ, Bool, true, ◌≤◌, List, [], ◌++◌, length, refl, sym, ap, subst}
use Rattle.std.proofs.Common.{◌∙◌, append_assoc, append-nil, false}
use Rattle.tko_reply.specs.declared.parts.Parts.{Parts}
use Rattle.tko_reply.specs.Ghosts.{PartsGhosts}
use Rattle.std.specs.Prelude.{MatchBool}
use Rattle.tko_text.specs.Reading.{Reading}
use Rattle.tko_session.specs.Effects.{effects_of}
use Rattle.tko_session.specs.AnswerEnds.{IsRun, NoneRun}
use Rattle.tko_session.specs.Events.{Effects, NoneAtWork, NoneShort, Rounded, SessionEvent}
use Rattle.tko_session.specs.Events.{turns_of}
use Rattle.tko_session.specs.Batches.{EndInBatch}
use Rattle.tko_session.specs.SessionState.{Snapshot, BeginBelowBound, ContinuesAfterAll, IsBehind}
use Rattle.tko_session.specs.SessionState.{items_of, replies_text, cut_short, no_more, stop_point}
use Rattle.tko_session.specs.Served.{EndsAt, after_cut, at_once}
use Rattle.tko_session.proofs.EventLemmas.{short-after, short-append, short-none}
use Rattle.tko_session.proofs.EventTurnsLemmas.{text-append}
use Rattle.tko_session.proofs.TurnLemmas.{events_go_on}

false_is_true : false ≡ true → ⊥
false_is_true same = cc

module _ {W : Type 0} {does : Effects W} where
  -- no round is owed, so that no request was cut short
  pub ends_settled : {events : List SessionEvent} {left : Reading} {reached : W} {new : Snapshot W}
      → NoneShort events
      → IsBehind does.cut (stop_point events left reached) new → new.state.owes ≡ false
      → EndsAt does (stop_point events left reached) new.parts
  ends_settled {events} calm (no_more same none) settled = at_once (short-none events calm) same
  ends_settled calm (cut_short it to goes emits is owed) settled =
      absurd (false_is_true (sym settled ∙ owed))

  -- a session that ended after events ended after all of them
  pub ends_after : {left : Reading} {reached after : W} (events more : List SessionEvent)
      → NoneShort events → ContinuesAfterAll (items_of (turns_of events))
      → EndsAt does (stop_point more left reached) after
      → EndsAt does (stop_point (events ++ more) left reached) after
  ends_after events more calm goes (at_once short same) =
      at_once (short-after events more calm short) same
  ends_after events more calm goes (after_cut it to mid visits short going emits is round) =
      after_cut it to mid visits (short-append events more calm short)
      (events_go_on events more goes going) emits is round

-- events were answered from an empty outbox, and then a round was run at most
pub one_batch : (events last : List SessionEvent) (outbox written : List ℕ) → outbox ≡ []
    → BeginBelowBound (length outbox) (turns_of events)
    → NoneAtWork events → turns_of last ≡ [] → length last ≤ 1 → EndInBatch (events ++ last) written
one_batch events last outbox written empty begin none round one = record {
  before = [];
  batch = events;
  last = last;
  parts = refl;
  front = record { more = written; is = refl };
  is = record {
    begin = subst (λ (xs : List ℕ). BeginBelowBound (length xs) (turns_of events)) empty
        begin;
    at_once = none;
  };
  round = record { one = one; none = round };
}

-- all was written, and then a round was run at most
pub no_batch : (events last : List SessionEvent) → turns_of last ≡ [] → length last ≤ 1
    → EndInBatch (events ++ last) (replies_text (turns_of events))
no_batch events last round one = record {
  before = events;
  batch = [];
  last = last;
  parts = refl;
  front = record { more = []; is = sym (append-nil (replies_text (turns_of events))) };
  is = record { begin = tt; at_once = refl };
  round = record { one = one; none = round };
}

-- the last batch of more events is that of all
pub batch_after : (events more : List SessionEvent) (written : List ℕ) → EndInBatch more written
    → EndInBatch (events ++ more) (replies_text (turns_of events) ++ written)
batch_after events more written back = record {
  before = events ++ back.before;
  batch = back.batch;
  last = back.last;
  parts = ap (λ xs. events ++ xs) back.parts
      ∙ sym (append_assoc events back.before (back.batch ++ back.last));
  front = record {
    more = back.front.more;
    is =
        ap (λ xs. replies_text (turns_of events) ++ xs) back.front.is
        ∙ sym (append_assoc (replies_text (turns_of events))
        (replies_text (turns_of back.before)) back.front.more)
        ∙ ap (λ xs. xs ++ back.front.more) (sym (text-append events back.before));
  };
  is = back.is;
  round = back.round;
}

module _ {H L T C : Type 0} {ghosts : PartsGhosts H L T C} where
  -- after a request that was cut short its round was run
  pub ends_paid : {events : List SessionEvent} {left : Reading} {reached after : Parts H L T C}
      {mid : Snapshot (Parts H L T C)} {short : Bool}
      → NoneShort events → IsBehind (effects_of ghosts).cut (stop_point events left reached) mid
      → IsRun ghosts.backend mid short after
      → EndsAt (effects_of ghosts) (stop_point events left reached) after
  ends_paid {events} {left} {reached} {after} {mid} {short} calm (no_more same none) run =
      let P : Bool → Type 0 = λ owes. MatchBool owes (Rounded ghosts.backend short mid.parts after)
      (NoneRun short mid.parts after) in
      at_once (short-none events calm) ((subst P none run.ran).same ∙ same)
  ends_paid {events} {left} {reached} {after} {mid} {short} calm
      (cut_short it to goes emits is owed) run =
      let P : Bool → Type 0 = λ owes. MatchBool owes (Rounded ghosts.backend short mid.parts after)
      (NoneRun short mid.parts after) in
      let rounded : Rounded ghosts.backend short mid.parts after = subst P owed run.ran in
      after_cut it to mid.parts rounded.round.visits calm goes emits is (record {
        short = short;
        round = rounded.round;
        visited = refl;
        others = rounded.others;
        sends = rounded.sends;
      })
