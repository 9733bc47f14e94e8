-- One delivery: nothing was answered, all of it was answered and written, memory ran out, or the
-- writer failed.
use Rattle.std.proofs.Common.{◌≡◌, ◌≢◌, ℕ, Bool, ◌<◌, List, [], ◌++◌, refl, sym, ap, subst, ◌∙◌}
use Rattle.std.proofs.Common.{append-nil, arith, false, Result, Ok, Err}
use Rattle.tko_model.proofs.RecordLemmas.{gains_append}
use Rattle.tko_io.specs.declared.io.Outlet.{Ghosts as OutletGhosts}
use Rattle.tko_reply.specs.declared.parts.Parts.{Parts}
use Rattle.tko_reply.specs.Ghosts.{PartsGhosts}
use Rattle.tko_text.specs.Reading.{Gives}
use Rattle.tko_session.specs.declared.step.Progress.{Progress}
use Rattle.tko_bytes.specs.Numbers.{capped}
use Rattle.tko_io.specs.Io.{Writes}
use Rattle.tko_io.proofs.WriteLemmas.{writes_none}
use Rattle.tko_bytes.specs.declared.memory.NoMemory.{NoMemory}
use Rattle.tko_session.specs.Effects.{effects_of}
use Rattle.tko_session.specs.AnswerEnds.{AnsweringEnds, IsRun}
use Rattle.tko_session.specs.Ends.{AllDelivered, ShortOfMemory, WriterFailed}
use Rattle.tko_session.specs.Events.{Effects, turns_of}
use Rattle.tko_session.specs.Batches.{EndInBatch}
use Rattle.tko_session.specs.SessionState.{SessionState, Snapshot, HasAnswered, AnsweredPart}
use Rattle.tko_session.specs.SessionState.{InSession, ProgressIs, items_of, snapshot, replies_text}
use Rattle.tko_session.specs.SessionState.{stop_point}
use Rattle.tko_session.specs.Served.{DeliveredPart, DeliveryState, EndsAt, at_once, delivering}
use Rattle.tko_session.specs.Served.{delivery}
use Rattle.tko_session.proofs.EventLemmas.{idles-append, order-append, short-last, work-short}
use Rattle.tko_session.proofs.AnsweredLemmas.{counts_append, part_none, turned_append}
use Rattle.tko_session.proofs.PaidLemmas.{items-paid, paid, text-paid, turned_paid}
use Rattle.tko_session.proofs.TurnLemmas.{in_session}
use Rattle.tko_session.proofs.DeliveryEndLemmas.{ends_paid, ends_settled, one_batch}

module _ {O W : Type 0} {outlet : OutletGhosts O} {does : Effects W} where
  -- items were answered, and the front of their replies was written
  part_delivered : {old : DeliveryState O W} {mid : Snapshot W} {new : DeliveryState O W}
      (front unwritten : List ℕ)
      → (part : AnsweredPart does old.session mid)
      → EndsAt does (stop_point part.events part.left part.reached) new.session.parts
      → old.session.state.outbox ≡ [] → mid.state.outbox ≡ front ++ unwritten
      → Writes outlet.takes (old.writer, old.written) front (new.writer, new.written)
      → DeliveredPart (delivering outlet does) 0 old new
  part_delivered front unwritten part ends empty split wrote = record {
    events = part.events;
    left = part.left;
    reached = part.reached;
    idle = part.idles;
    ends = ends;
    gives = part.gives;
    gains = part.gains;
    counts = part.counts;
    order = part.order;
    in_session = part.in_session;
    front = front;
    unwritten = unwritten;
    text = sym (part.outbox ∙ ap (λ xs. xs ++ replies_text (turns_of part.events)) empty) ∙ split;
    output = wrote;
    batch =
        subst (λ events. EndInBatch events front) (append-nil part.events)
        (one_batch part.events [] _ front empty part.begin part.at_once refl (omega arith));
  }

  -- nothing was answered
  pub not_delivered : (state state' : SessionState) (parts : W) (writer : O) (written : ℕ)
      → outlet.takes writer [] writer
      → state.outbox ≡ [] → state.owes ≡ false
      → ShortOfMemory (delivering outlet does) (delivery state parts writer written)
      (delivery state' parts writer written)
  unfolding part_delivered
  not_delivered state state' parts writer written nothing_out empty none =
      let part : AnsweredPart does (snapshot state parts) (snapshot state parts) =
      part_none state state parts refl none none in
      record {
        part =
            part_delivered [] [] part
            (ends_settled (work-short part.events part.at_once) part.behind none) empty empty
            (writes_none writer written nothing_out);
        whole = refl;
        calm = refl;
      }

module _ {O H L T C : Type 0} {outlet : OutletGhosts O} {ghosts : PartsGhosts H L T C} where
  -- items were answered, their replies were written, the owed round was run, and no reply waits
  pub all_of : {progress : Progress} {old : DeliveryState O (Parts H L T C)}
      {mid : Snapshot (Parts H L T C)} {state : SessionState}
      {after : Parts H L T C} {writer : O} {written : ℕ}
      → HasAnswered (effects_of ghosts) progress old.session mid
      → IsRun ghosts.backend mid false after
      → old.session.state.outbox ≡ []
      → Writes outlet.takes (old.writer, old.written) mid.state.outbox (writer, written)
      → outlet.failures writer ≡ outlet.failures old.writer
      → state ≡ record mid.state { outbox = []; owes = false }
      → AllDelivered (delivering outlet (effects_of ghosts)) progress old
      (delivery state after writer written)
  all_of {progress} {old} {mid} {state} {after} {writer}
      {written} answered run empty wrote calm is =
      let it = paid {ghosts = ghosts} run in
      let text : mid.state.outbox ≡ replies_text (turns_of (answered.events ++ it.last)) =
      answered.outbox ∙ ap (λ xs. xs ++ replies_text (turns_of answered.events)) empty
      ∙ sym (text-paid answered.events it.last it.none) in
      let reading : state.reading ≡ mid.state.reading = ap (λ (s : SessionState). s.reading) is in
      record {
        delivered = record {
          events = answered.events ++ it.last;
          turned = turned_append answered.turned (turned_paid {ghosts = ghosts} [] it is);
          output = subst (λ xs. Writes outlet.takes (old.writer, old.written) xs (writer, written))
              text wrote;
          outbox = ap (λ (s : SessionState). s.outbox) is;
          owes = ap (λ (s : SessionState). s.owes) is;
          progress_is =
              subst (λ xs. ProgressIs progress xs state.reading)
              (sym (items-paid answered.events it.last it.none))
              (subst (λ to. ProgressIs progress (items_of (turns_of answered.events)) to)
              (sym reading) answered.progress_is);
        };
        idle = omega (arith, answered.idles, it.idles, idles-append answered.events it.last);
        calm = calm;
      }

  -- all items were answered, the owed round was run, and the front of the replies was written
  pub ok_delivered : {progress : Progress} {short : Bool}
      {old new : DeliveryState O (Parts H L T C)} {mid : Snapshot (Parts H L T C)}
      → (front unwritten : List ℕ)
      → HasAnswered (effects_of ghosts) progress old.session mid
      → IsRun ghosts.backend mid short new.session.parts
      → old.session.state.outbox ≡ [] → mid.state.outbox ≡ front ++ unwritten
      → Writes outlet.takes (old.writer, old.written) front (new.writer, new.written)
      → DeliveredPart (delivering outlet (effects_of ghosts)) 0 old new
  ok_delivered {progress} {short} {old} {new} {mid} front unwritten answered run empty split wrote =
      let it = paid {ghosts = ghosts} run in
      let events = answered.events ++ it.last in
      let items = items-paid answered.events it.last it.none in
      record {
        events = events;
        left = mid.state.reading;
        reached = new.session.parts;
        idle = omega (arith, answered.idles, it.idles, idles-append answered.events it.last);
        ends = at_once (short-last answered.events it.last answered.turned.memory it.one) refl;
        gives = subst (λ xs. Gives old.session.state.reading xs mid.state.reading)
            (sym items) answered.turned.gives;
        gains = gains_append answered.turned.gains it.gains;
        counts = counts_append answered.turned.counts it.counts;
        order = order-append old.session.state.owes mid.state.owes false answered.events it.last
            answered.turned.order it.order;
        in_session = subst InSession (sym items) (in_session progress
            (items_of (turns_of answered.events)) mid.state.reading answered.progress_is);
        front = front;
        unwritten = unwritten;
        text =
            text-paid answered.events it.last it.none
            ∙ sym (answered.outbox ∙ ap (λ xs. xs ++ replies_text (turns_of answered.events)) empty)
            ∙ split;
        output = wrote;
        batch = one_batch answered.events it.last _ front empty answered.begin answered.at_once
            it.none it.one;
      }

  -- some items were answered, memory ran out, and the front of the replies was written
  pub err_delivered : {short : Bool} {old new : DeliveryState O (Parts H L T C)}
      {mid : Snapshot (Parts H L T C)}
      → (front unwritten : List ℕ)
      → AnsweredPart (effects_of ghosts) old.session mid
      → IsRun ghosts.backend mid short new.session.parts
      → old.session.state.outbox ≡ [] → mid.state.outbox ≡ front ++ unwritten
      → Writes outlet.takes (old.writer, old.written) front (new.writer, new.written)
      → DeliveredPart (delivering outlet (effects_of ghosts)) 0 old new
  err_delivered front unwritten part run empty split wrote =
      part_delivered front unwritten part (ends_paid {ghosts = ghosts}
      (work-short part.events part.at_once) part.behind run) empty split wrote

  -- all items were answered and all replies written, and memory ran out in the round
  pub short_in_round : {progress : Progress} {short : Bool}
      {old new : DeliveryState O (Parts H L T C)} {mid : Snapshot (Parts H L T C)}
      → HasAnswered (effects_of ghosts) progress old.session mid
      → IsRun ghosts.backend mid short new.session.parts → old.session.state.outbox ≡ []
      → Writes outlet.takes (old.writer, old.written) mid.state.outbox (new.writer, new.written)
      → outlet.failures new.writer ≡ outlet.failures old.writer
      → ShortOfMemory (delivering outlet (effects_of ghosts)) old new
  unfolding ok_delivered
  short_in_round {mid = mid} answered run empty wrote calm = record {
    part = ok_delivered mid.state.outbox [] answered run empty
        (sym (append-nil mid.state.outbox)) wrote;
    whole = refl;
    calm = calm;
  }

  -- some items were answered and all replies written, and memory ran out
  pub short_in_items : {short : Bool} {old new : DeliveryState O (Parts H L T C)}
      {mid : Snapshot (Parts H L T C)}
      → AnsweredPart (effects_of ghosts) old.session mid
      → IsRun ghosts.backend mid short new.session.parts → old.session.state.outbox ≡ []
      → Writes outlet.takes (old.writer, old.written) mid.state.outbox (new.writer, new.written)
      → outlet.failures new.writer ≡ outlet.failures old.writer
      → ShortOfMemory (delivering outlet (effects_of ghosts)) old new
  unfolding err_delivered part_delivered
  short_in_items {mid = mid} part run empty wrote calm = record {
    part =
        err_delivered mid.state.outbox [] part run empty (sym (append-nil mid.state.outbox)) wrote;
    whole = refl;
    calm = calm;
  }

  -- the same, whichever it was, where the writer failed at the others
  pub writer_failed : {short : Bool} {old new : DeliveryState O (Parts H L T C)}
      (mid : Snapshot (Parts H L T C))
      → (front unwritten : List ℕ) (answered : Result Progress NoMemory)
      → AnsweringEnds (effects_of ghosts) old.session answered mid
      → IsRun ghosts.backend mid short new.session.parts
      → old.session.state.outbox ≡ [] → mid.state.outbox ≡ front ++ unwritten
      → Writes outlet.takes (old.writer, old.written) front (new.writer, new.written)
      → unwritten ≢ [] → outlet.failures old.writer < outlet.failures new.writer
      → WriterFailed (delivering outlet (effects_of ghosts)) old (capped new.written) new
  unfolding ok_delivered part_delivered err_delivered
  writer_failed mid front unwritten (Ok progress) all run empty split wrote cut failed = record {
    part = ok_delivered front unwritten all run empty split wrote;
    cut = cut;
    counted = refl;
    failed = failed;
  }
  writer_failed mid front unwritten (Err fault) part run empty split wrote cut failed = record {
    part = err_delivered front unwritten part run empty split wrote;
    cut = cut;
    counted = refl;
    failed = failed;
  }
