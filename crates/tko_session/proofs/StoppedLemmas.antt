-- A session that stopped: the reader or the writer failed, a line was too long, or memory ran out.
use Rattle.std.proofs.Common.{◌≡◌, ℕ, Bool, ◌+◌, List, [], ◌∷◌, ◌++◌, refl, sym, subst, ◌∙◌}
use Rattle.std.proofs.Common.{append-nil, arith, add-zero, false}
use Rattle.tko_model.proofs.RecordLemmas.{gains_append, gains_none, gains_one}
use Rattle.tko_io.specs.declared.io.Inlet.{Ghosts as InletGhosts}
use Rattle.tko_io.specs.declared.io.Outlet.{Ghosts as OutletGhosts}
use Rattle.tko_reply.specs.declared.parts.Parts.{Parts}
use Rattle.tko_reply.specs.Ghosts.{PartsGhosts}
use Rattle.tko_text.specs.Reading.{Gives, fed, reading_start}
use Rattle.tko_text.proofs.CuttingLemmas.{fed-fed}
use Rattle.tko_text.proofs.GivesLemmas.{Gives-none}
use Rattle.tko_text.proofs.ReadingLemmas.{NeedsMore-failed}
use Rattle.tko_session.specs.declared.fault.SessionFault.{SessionFault}
use Rattle.tko_session.specs.declared.fault.SessionFault.TheVariants as fault
use Rattle.tko_session.specs.declared.step.Progress.TheVariants.{NeedsInput, LineTooLong}
use Rattle.tko_session.specs.Effects.{effects_of}
use Rattle.tko_session.specs.Ends.{PieceStops, SessionStops, ShortOfMemory, WriterFailed}
use Rattle.tko_session.specs.Events.{Effects, IdleRound, Rounded, SessionEvent, idle_rounds}
use Rattle.tko_session.specs.Events.{turns_of}
use Rattle.tko_session.specs.SessionState.{InSession, fed_state, items_of, replies_text}
use Rattle.tko_session.specs.Served.{Context, DeliveredPart, DeliveryState, ServedSoFar}
use Rattle.tko_session.specs.Served.{StoppedByLine, StoppedByMemory, StoppedByRead, StoppedByWrite}
use Rattle.tko_session.specs.Served.{StoppedEarly, at_once, context, delivering, delivery}
use Rattle.tko_session.specs.Served.{serve_state, serving}
use Rattle.tko_session.proofs.EventLemmas.{idles-append, order-append, short-last, short-none}
use Rattle.tko_session.proofs.AnsweredLemmas.{counts_append, counts_none}
use Rattle.tko_session.proofs.EventTurnsLemmas.{items-append, text-append}
use Rattle.tko_session.proofs.PaidLemmas.{counts_idle}
use Rattle.tko_session.proofs.TurnLemmas.{goes_on-none, in_session, in_session_of}
use Rattle.tko_session.proofs.DeliveryEndLemmas.{no_batch}
use Rattle.tko_session.proofs.PieceLemmas.{Joins, delivered_fed, part_append}
use Rattle.tko_session.proofs.ServedLemmas.{so_far_more, transcript}

module _ {I O W : Type 0} {inlet : InletGhosts I} {outlet : OutletGhosts O} {does : Effects W} where
  -- the reader failed
  pub stopped_by_read : {old : Context I O W} {reader : I} {new : DeliveryState O W}
      → ServedSoFar (serving inlet outlet does) NeedsInput old (serve_state reader new)
      → StoppedByRead (serving inlet outlet does) old (context reader new.writer new.session.parts)
  stopped_by_read so_far = record {
    transcript = transcript so_far;
    goes_on = so_far.delivered.progress_is.0;
    open_end = so_far.delivered.progress_is.1;
  }

  -- a line too long came
  pub stopped_by_line : {old : Context I O W} {reader : I} {new : DeliveryState O W}
      → ServedSoFar (serving inlet outlet does) LineTooLong old (serve_state reader new)
      → StoppedByLine (serving inlet outlet does) old (context reader new.writer new.session.parts)
  stopped_by_line {new} so_far = record {
    transcript = transcript so_far;
    ends = so_far.delivered.progress_is.0;
    open_end = NeedsMore-failed new.session.state.reading so_far.delivered.progress_is.1;
  }

  -- a part of what a piece completed was answered and written
  stopped_early : Joins inlet.gives → Joins outlet.takes
      → {old : Context I O W} {reader reader' : I} {mid new : DeliveryState O W}
      → (piece : List ℕ)
      → ServedSoFar (serving inlet outlet does) NeedsInput old (serve_state reader mid)
      → inlet.gives reader piece reader' → inlet.idles reader' ≡ inlet.idles reader
      → DeliveredPart (delivering outlet does) 0 (delivery (fed_state mid.session.state piece)
      mid.session.parts mid.writer mid.written) new
      → StoppedEarly (serving inlet outlet does) old (context reader' new.writer new.session.parts)
  stopped_early joins_in joins_out {old} {reader} {reader'} {mid}
      {new} piece so_far read calm part =
      let rounds : idle_rounds so_far.delivered.events ≡ idle_rounds so_far.delivered.events =
      refl in
      let all = part_append joins_out (delivered_fed piece so_far.delivered) rounds part in record {
        bytes = so_far.bytes ++ piece;
        events = all.events;
        left = all.left;
        reached = all.reached;
        input = joins_in old.reader reader reader' so_far.bytes piece so_far.input read;
        items = subst (λ from. Gives from (items_of (turns_of all.events)) all.left)
            (fed-fed reading_start so_far.bytes piece) all.gives;
        gains = all.gains;
        counts = all.counts;
        order = all.order;
        idles = omega (arith, so_far.idles, calm, all.idle);
        ends = all.ends;
        in_session = all.in_session;
        front = all.front;
        unwritten = all.unwritten;
        text = all.text;
        output = all.output.output;
        batch = all.batch;
      }

  -- memory ran out in it
  stopped_by_memory : Joins inlet.gives → Joins outlet.takes
      → {old : Context I O W} {reader reader' : I} {mid new : DeliveryState O W}
      → (piece : List ℕ)
      → ServedSoFar (serving inlet outlet does) NeedsInput old (serve_state reader mid)
      → inlet.gives reader piece reader' → inlet.idles reader' ≡ inlet.idles reader
      → ShortOfMemory (delivering outlet does) (delivery (fed_state mid.session.state piece)
      mid.session.parts mid.writer mid.written) new
      → StoppedByMemory (serving inlet outlet does) old
      (context reader' new.writer new.session.parts)
  unfolding stopped_early part_append
  stopped_by_memory joins_in joins_out piece so_far read calm short =
      record {
        early = stopped_early joins_in joins_out piece so_far read calm short.part;
        whole = short.whole;
      }

  -- the writer failed in it
  stopped_by_write : Joins inlet.gives → Joins outlet.takes
      → {old : Context I O W} {reader reader' : I} {mid new : DeliveryState O W}
      → (count : ℕ) (piece : List ℕ)
      → ServedSoFar (serving inlet outlet does) NeedsInput old (serve_state reader mid)
      → inlet.gives reader piece reader' → inlet.idles reader' ≡ inlet.idles reader
      → WriterFailed (delivering outlet does) (delivery (fed_state mid.session.state piece)
      mid.session.parts mid.writer mid.written) count new
      → StoppedByWrite (serving inlet outlet does) old count
      (context reader' new.writer new.session.parts)
  unfolding stopped_early part_append
  stopped_by_write joins_in joins_out {old} {mid} {new} count piece so_far read calm failed =
      let rounds : idle_rounds so_far.delivered.events ≡ idle_rounds so_far.delivered.events =
      refl in
      let all = part_append joins_out (delivered_fed piece so_far.delivered) rounds failed.part in
      record {
        early = stopped_early joins_in joins_out piece so_far read calm failed.part;
        cut = failed.cut;
        counted = failed.counted ∙ omega (arith, all.output.counted);
      }

  -- a piece was read, and the session stopped at it
  pub session_stopped : Joins inlet.gives → Joins outlet.takes
      → (cause : SessionFault) {old : Context I O W} {reader reader' : I} {mid : DeliveryState O W}
      (new : DeliveryState O W) (piece : List ℕ)
      → ServedSoFar (serving inlet outlet does) NeedsInput old (serve_state reader mid)
      → inlet.gives reader piece reader' → inlet.idles reader' ≡ inlet.idles reader
      → inlet.failures reader' ≡ inlet.failures old.reader
      → outlet.failures mid.writer ≡ outlet.failures old.writer
      → PieceStops (delivering outlet does) (delivery (fed_state mid.session.state piece)
      mid.session.parts mid.writer mid.written) cause new
      → SessionStops (serving inlet outlet does) old cause
      (context reader' new.writer new.session.parts)
  session_stopped joins_in joins_out fault.Read new piece so_far read still reads writes stops =
      absurd stops
  session_stopped joins_in joins_out
      (fault.Write count) new piece so_far read still reads writes stops = (
        stopped_by_write joins_in joins_out count piece so_far read still stops,
        omega (arith, writes, stops.failed),
      )
  session_stopped joins_in joins_out fault.LineTooLong new piece so_far read still reads
      writes stops = (
        stopped_by_line (so_far_more joins_in joins_out piece so_far read still stops),
        record { reads = reads; writes = stops.calm ∙ writes },
      )
  session_stopped joins_in joins_out fault.Memory new piece so_far read still reads writes stops = (
    stopped_by_memory joins_in joins_out piece so_far read still stops,
    record { reads = reads; writes = stops.calm ∙ writes },
  )

  -- nothing was read or written
  pub stopped_at_once : (reader : I) (writer : O) (parts : W) → inlet.gives reader [] reader
      → outlet.takes writer [] writer
      → StoppedByMemory (serving inlet outlet does) (context reader writer parts)
      (context reader writer parts)
  stopped_at_once reader writer parts nothing_in nothing_out = record {
    early = record {
      bytes = [];
      events = [];
      left = reading_start;
      reached = parts;
      input = nothing_in;
      items = Gives-none reading_start;
      gains = gains_none parts;
      counts = counts_none parts;
      order = refl;
      idles = sym (add-zero (inlet.idles reader));
      ends = at_once (short-none [] refl) refl;
      in_session = in_session_of [] goes_on-none;
      front = [];
      unwritten = [];
      text = refl;
      output = nothing_out;
      batch = no_batch [] [] refl (omega arith);
    };
    whole = refl;
  }

module _ {I O H L T C : Type 0} {inlet : InletGhosts I} {outlet : OutletGhosts O}
    {ghosts : PartsGhosts H L T C} where
  -- the reader was idle, and memory ran out in the round
  pub stopped_idle : Joins inlet.gives
      → {short : Bool} {old : Context I O (Parts H L T C)} {reader reader' : I}
      {mid : DeliveryState O (Parts H L T C)} {after : Parts H L T C}
      → ServedSoFar (serving inlet outlet (effects_of ghosts)) NeedsInput old
      (serve_state reader mid)
      → inlet.gives reader [] reader' → inlet.idles reader' ≡ inlet.idles reader + 1
      → Rounded ghosts.backend short mid.session.parts after
      → StoppedByMemory (serving inlet outlet (effects_of ghosts)) old
      (context reader' mid.writer after)
  stopped_idle joins {short} {old} {reader} {reader'} {mid} {after} so_far read idle rounded =
      let before = so_far.delivered in
      let last : List SessionEvent = IdleRound rounded.round.visits ∷ [] in
      let items =
      items-append before.events last ∙ append-nil (items_of (turns_of before.events)) in
      let text =
      text-append before.events last ∙ append-nil (replies_text (turns_of before.events)) in
      let ended = in_session NeedsInput
      (items_of (turns_of before.events)) mid.session.state.reading before.progress_is in
      record {
        early = record {
          bytes = so_far.bytes;
          events = before.events ++ last;
          left = mid.session.state.reading;
          reached = after;
          input =
              let all = joins old.reader reader reader' so_far.bytes [] so_far.input read in
              subst (λ bytes. inlet.gives old.reader bytes reader') (append-nil so_far.bytes) all;
          items = subst (λ xs. Gives (fed reading_start so_far.bytes) xs mid.session.state.reading)
              (sym items) before.turned.gives;
          gains = gains_append before.turned.gains
              (gains_one (record {
                short = short;
                round = rounded.round;
                visited = refl;
                others = rounded.others;
                sends = rounded.sends;
              }));
          counts = counts_append before.turned.counts (counts_idle {ghosts = ghosts} rounded);
          order = order-append false mid.session.state.owes false before.events last
              before.turned.order (rw before.owes refl);
          idles = omega (arith, so_far.idles, idle, idles-append before.events last);
          ends = at_once (short-last before.events last before.turned.memory (omega arith)) refl;
          in_session = subst InSession (sym items) ended;
          front = replies_text (turns_of before.events);
          unwritten = [];
          text = text ∙ sym (append-nil (replies_text (turns_of before.events)));
          output = before.output.output;
          batch = no_batch before.events last refl (omega arith);
        };
        whole = refl;
      }
