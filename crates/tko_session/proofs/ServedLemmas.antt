-- A session served so far, one piece or one idle round more, and its end at the end of the input or
-- at `quit`.
use Rattle.std.proofs.Common.{◌≡◌, ◌≢◌, ℕ, ◌+◌, ◌<◌, ◌^◌, List, [], ◌∷◌, ◌++◌, length, refl, sym}
use Rattle.std.proofs.Common.{ap, subst, ◌∙◌, append-nil, arith, add-zero, Some, false}
use Rattle.tko_io.specs.declared.io.Inlet.{Ghosts as InletGhosts}
use Rattle.tko_io.specs.declared.io.Outlet.{Ghosts as OutletGhosts}
use Rattle.tko_reply.specs.declared.parts.Parts.{Parts}
use Rattle.tko_reply.specs.Ghosts.{PartsGhosts}
use Rattle.tko_text.specs.Reading.{Gives, Never, reading_start}
use Rattle.tko_text.proofs.CuttingLemmas.{fed-fed}
use Rattle.tko_session.specs.declared.step.Progress.{Progress}
use Rattle.tko_session.specs.declared.step.Progress.TheVariants.{NeedsInput, Quit}
use Rattle.tko_session.specs.declared.step.Report.{Report}
use Rattle.tko_io.specs.Io.{Writes}
use Rattle.tko_io.proofs.WriteLemmas.{writes_none}
use Rattle.tko_session.specs.Effects.{effects_of}
use Rattle.tko_session.specs.Ends.{AllDelivered}
use Rattle.tko_session.specs.Events.{Effects, IdleRound, Rounded, SessionEvent, idle_rounds}
use Rattle.tko_session.specs.Events.{turns_of}
use Rattle.tko_session.specs.SessionState.{ProgressIs, fed_state, fresh_session, items_of, snapshot}
use Rattle.tko_session.specs.SessionState.{replies_text}
use Rattle.tko_session.specs.Served.{Context, DeliveryState, Served, ServedSoFar, Transcript}
use Rattle.tko_session.specs.Served.{at_end_of_input, at_quit, context, delivering, delivery}
use Rattle.tko_session.specs.Served.{serve_state, serving}
use Rattle.tko_session.proofs.EventLemmas.{idles-append}
use Rattle.tko_session.proofs.TextFacts.{open_start, reading_goes_on}
use Rattle.tko_session.proofs.AnsweredLemmas.{turned_append, turned_none}
use Rattle.tko_session.proofs.EventTurnsLemmas.{items-append, text-append}
use Rattle.tko_session.proofs.PaidLemmas.{turned_idle}
use Rattle.tko_session.proofs.TurnLemmas.{goes_on-none}
use Rattle.tko_session.proofs.PieceLemmas.{Joins, delivered_append, delivered_fed}

module _ {I O W : Type 0} {inlet : InletGhosts I} {outlet : OutletGhosts O} {does : Effects W} where
  pub so_far_none : (reader : I) (writer : O) (parts : W) → inlet.gives reader [] reader
      → outlet.takes writer [] writer
      → ServedSoFar (serving inlet outlet does) NeedsInput (context reader writer parts)
      (serve_state reader (delivery fresh_session parts writer 0))
  so_far_none reader writer parts nothing_in nothing_out = record {
    bytes = [];
    input = nothing_in;
    idles = sym (add-zero (inlet.idles reader));
    delivered = record {
      events = [];
      turned = turned_none (snapshot fresh_session parts);
      output = writes_none writer 0 nothing_out;
      outbox = refl;
      owes = refl;
      progress_is = (goes_on-none, open_start);
    };
  }

  -- a piece was read, and what it completed was answered
  pub so_far_more : Joins inlet.gives → Joins outlet.takes
      → {progress : Progress} {old : Context I O W} {reader reader' : I}
      {mid new : DeliveryState O W} → (piece : List ℕ)
      → ServedSoFar (serving inlet outlet does) NeedsInput old (serve_state reader mid)
      → inlet.gives reader piece reader'
      → inlet.idles reader' ≡ inlet.idles reader
      → AllDelivered (delivering outlet does) progress (delivery (fed_state mid.session.state piece)
      mid.session.parts mid.writer mid.written) new
      → ServedSoFar (serving inlet outlet does) progress old (serve_state reader' new)
  so_far_more joins_in joins_out {progress} {old} {reader} {reader'} {mid}
      {new} piece so_far read calm more =
      let events = so_far.delivered.events ++ more.delivered.events in
      let all = delivered_append joins_out (delivered_fed piece so_far.delivered) more.delivered in
      record {
        bytes = so_far.bytes ++ piece;
        input = joins_in old.reader reader reader' so_far.bytes piece so_far.input read;
        delivered = record {
          events = events;
          turned = record {
            gives =
                subst (λ from. Gives from (items_of (turns_of events)) new.session.state.reading)
                (fed-fed reading_start so_far.bytes piece)
                all.turned.gives;
            gains = all.turned.gains;
            order = all.turned.order;
            counts = all.turned.counts;
            memory = all.turned.memory;
            requests = all.turned.requests;
          };
          output = all.output;
          outbox = all.outbox;
          owes = all.owes;
          progress_is = all.progress_is;
        };
        idles =
            let rounds : inlet.idles reader' ≡ inlet.idles old.reader + idle_rounds events =
            omega (
              arith,
              so_far.idles,
              calm,
              more.idle,
              idles-append so_far.delivered.events more.delivered.events,
            ) in
            rounds;
      }

  -- nothing more was read
  pub so_far_read : Joins inlet.gives
      → {progress : Progress} {old : Context I O W} {reader reader' : I} {new : DeliveryState O W}
      → ServedSoFar (serving inlet outlet does) progress old (serve_state reader new)
      → inlet.gives reader [] reader'
      → inlet.idles reader' ≡ inlet.idles reader
      → ServedSoFar (serving inlet outlet does) progress old (serve_state reader' new)
  so_far_read joins {progress} {old} {reader} {reader'} {new} so_far read calm = record {
    bytes = so_far.bytes;
    idles = calm ∙ so_far.idles;
    input =
        let all = joins old.reader reader reader' so_far.bytes [] so_far.input read in
        subst (λ bytes. inlet.gives old.reader bytes reader') (append-nil so_far.bytes) all;
    delivered = so_far.delivered;
  }

  abbrev pub transcript : {progress : Progress} {old : Context I O W} {reader : I}
      {new : DeliveryState O W}
      → ServedSoFar (serving inlet outlet does) progress old (serve_state reader new)
      → Transcript (serving inlet outlet does) old (context reader new.writer new.session.parts)
  transcript {old} {new} so_far = record {
    bytes = so_far.bytes;
    events = so_far.delivered.events;
    left = new.session.state.reading;
    input = so_far.input;
    items = so_far.delivered.turned.gives;
    gains = so_far.delivered.turned.gains;
    order = so_far.delivered.turned.order ∙ ap Some so_far.delivered.owes;
    idles = so_far.idles;
    counts = so_far.delivered.turned.counts;
    memory = so_far.delivered.turned.memory;
    output = so_far.delivered.output.output;
  }

  -- the input ended
  pub served : {old : Context I O W} {reader : I} {new : DeliveryState O W} (report : Report)
      → ServedSoFar (serving inlet outlet does) NeedsInput old (serve_state reader new)
      → inlet.is_ended reader
      → report.requests ≡ new.session.state.requests
      → report.unfinished ≡ length new.session.state.reading.unread
      → report.requests < 2 ^ 64
      → Served (serving inlet outlet does) old report (context reader new.writer new.session.parts)
  served report so_far ended requests unfinished fits = record {
    transcript = transcript so_far;
    ending = at_end_of_input ended so_far.delivered.progress_is.0
        so_far.delivered.progress_is.1 unfinished;
    requests = omega (arith, so_far.delivered.turned.requests);
  }

  -- `quit` ended the session
  pub served_quit : {old : Context I O W} {reader : I} {new : DeliveryState O W} (report : Report)
      → ServedSoFar (serving inlet outlet does) Quit old (serve_state reader new)
      → report.requests ≡ new.session.state.requests → report.unfinished ≡ 0
      → report.requests < 2 ^ 64
      → Served (serving inlet outlet does) old report (context reader new.writer new.session.parts)
  served_quit report so_far requests unfinished fits = record {
    transcript = transcript so_far;
    ending = at_quit so_far.delivered.progress_is unfinished;
    requests = omega (arith, so_far.delivered.turned.requests);
  }

  -- a session that needs input may still read
  pub so_far_reads : {old : Context I O W} {reader : I} {new : DeliveryState O W}
      → ServedSoFar (serving inlet outlet does) NeedsInput old (serve_state reader new)
      → new.session.state.reading.after ≢ Never
  so_far_reads {new} so_far =
      reading_goes_on so_far.bytes (items_of (turns_of so_far.delivered.events))
      new.session.state.reading so_far.delivered.turned.gives
      so_far.delivered.progress_is.0

module _ {I O H L T C : Type 0} {inlet : InletGhosts I} {outlet : OutletGhosts O}
    {ghosts : PartsGhosts H L T C} where
  -- the reader was idle, and a round was run
  pub so_far_idle : Joins inlet.gives
      → {old : Context I O (Parts H L T C)} {reader reader' : I}
      {mid : DeliveryState O (Parts H L T C)} {after : Parts H L T C}
      → ServedSoFar (serving inlet outlet (effects_of ghosts)) NeedsInput old
      (serve_state reader mid)
      → inlet.gives reader [] reader' → inlet.idles reader' ≡ inlet.idles reader + 1
      → Rounded ghosts.backend false mid.session.parts after
      → ServedSoFar (serving inlet outlet (effects_of ghosts)) NeedsInput old
      (serve_state reader' (delivery mid.session.state after mid.writer mid.written))
  so_far_idle joins {old} {reader} {reader'} {mid} {after} so_far read idle rounded =
      let before = so_far.delivered in
      let last : List SessionEvent = IdleRound rounded.round.visits ∷ [] in
      let items =
      items-append before.events last ∙ append-nil (items_of (turns_of before.events)) in
      let text =
      text-append before.events last ∙ append-nil (replies_text (turns_of before.events)) in
      record {
        bytes = so_far.bytes;
        input =
            let all = joins old.reader reader reader' so_far.bytes [] so_far.input read in
            subst (λ bytes. inlet.gives old.reader bytes reader') (append-nil so_far.bytes) all;
        idles =
            let rounds : inlet.idles reader'
            ≡ inlet.idles old.reader + idle_rounds (before.events ++ last) =
            omega (arith, so_far.idles, idle, idles-append before.events last) in
            rounds;
        delivered = record {
          events = before.events ++ last;
          turned = turned_append before.turned (turned_idle {ghosts = ghosts} before.owes rounded);
          output = subst (λ xs. Writes outlet.takes (old.writer, 0) xs (mid.writer, mid.written))
              (sym text) before.output;
          outbox = before.outbox;
          owes = before.owes;
          progress_is = subst (λ xs. ProgressIs NeedsInput xs mid.session.state.reading)
              (sym items) before.progress_is;
        };
      }
