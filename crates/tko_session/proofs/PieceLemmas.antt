-- The deliveries of one piece: none yet, one after another, and the one at which the session stops.
use Rattle.std.proofs.Common.{◌≡◌, ◌≢◌, ℕ, ◌+◌, List, [], ◌++◌, refl, sym, ap, subst, ◌∙◌}
use Rattle.std.proofs.Common.{append_assoc, arith, false}
use Rattle.tko_model.proofs.RecordLemmas.{gains_append}
use Rattle.tko_io.specs.declared.io.Outlet.{Ghosts as OutletGhosts}
use Rattle.tko_text.specs.declared.reader.FeedFault.{FeedFault}
use Rattle.tko_text.specs.declared.reader.FeedFault.TheVariants as feed
use Rattle.tko_text.specs.Reading.{Gives}
use Rattle.tko_text.proofs.GivesLemmas.{Gives-append, Gives-fed}
use Rattle.tko_session.specs.declared.fault.SessionFault.{SessionFault}
use Rattle.tko_session.specs.declared.fault.SessionFault.TheVariants as fault
use Rattle.tko_session.specs.declared.step.Progress.{Progress}
use Rattle.tko_session.specs.declared.step.Progress.TheVariants.{More, NeedsInput}
use Rattle.tko_io.specs.Io.{Writes}
use Rattle.tko_io.proofs.WriteLemmas.{writes_append, writes_none}
use Rattle.tko_session.specs.Ends.{AllDelivered, DeliveryStops, PieceStops, ShortOfMemory}
use Rattle.tko_session.specs.Events.{Effects, idle_rounds, turns_of}
use Rattle.tko_session.specs.Faults.{session_fault_of}
use Rattle.tko_session.specs.SessionState.{SessionState, fed_state, snapshot, replies_text}
use Rattle.tko_session.specs.Served.{Delivered, DeliveredPart, DeliveryState, delivering, delivery}
use Rattle.tko_session.proofs.EventLemmas.{idles-append, order-append}
use Rattle.tko_session.proofs.AnsweredLemmas.{counts_append, turned_append, turned_none}
use Rattle.tko_session.proofs.EventTurnsLemmas.{items-append, text-append}
use Rattle.tko_session.proofs.TurnLemmas.{events_in_session, events_progress, goes_on-none}
use Rattle.tko_session.proofs.DeliveryEndLemmas.{batch_after, ends_after}

-- what an end reported in two parts, it reported as a whole
abbrev pub Joins : {E : Type 0} → (E → List ℕ → E → Type 0) → Type 0
Joins {E} moves =
    (x y z : E) (bytes more : List ℕ) → moves x bytes y → moves y more z → moves x (bytes ++ more) z

module _ {O W : Type 0} {outlet : OutletGhosts O} {does : Effects W} where
  pub all_none : (state : SessionState) (parts : W) (writer : O) (written : ℕ)
      → outlet.takes writer [] writer
      → state.outbox ≡ [] → state.owes ≡ false
      → AllDelivered (delivering outlet does) More (delivery state parts writer written)
      (delivery state parts writer written)
  all_none state parts writer written nothing empty none = record {
    delivered = record {
      events = [];
      turned = turned_none (snapshot state parts);
      output = writes_none writer written nothing;
      outbox = empty;
      owes = none;
      progress_is = goes_on-none;
    };
    idle = refl;
    calm = refl;
  }

  abbrev pub delivered_append : Joins outlet.takes
      → {progress : Progress} {old mid new : DeliveryState O W}
      → Delivered (delivering outlet does) More old mid
      → Delivered (delivering outlet does) progress mid new
      → Delivered (delivering outlet does) progress old new
  delivered_append joins {progress} {old} {mid} {new} front back = record {
    events = front.events ++ back.events;
    turned = turned_append front.turned back.turned;
    output =
        let all = writes_append joins front.output back.output in
        subst (λ text. Writes outlet.takes (old.writer, old.written) text (new.writer, new.written))
        (sym (text-append front.events back.events)) all;
    outbox = back.outbox;
    owes = back.owes;
    progress_is = events_progress progress front.events back.events new.session.state.reading
        front.progress_is back.progress_is;
  }

  -- events stay the same events when more bytes come behind them
  abbrev pub delivered_fed : {old new : DeliveryState O W} → (piece : List ℕ)
      → Delivered (delivering outlet does) NeedsInput old new
      → Delivered (delivering outlet does) More
      (delivery (fed_state old.session.state piece) old.session.parts old.writer old.written)
      (delivery (fed_state new.session.state piece) new.session.parts new.writer new.written)
  delivered_fed piece delivered = record {
    events = delivered.events;
    turned = record {
      gives = Gives-fed _ _ _ piece delivered.turned.gives;
      gains = delivered.turned.gains;
      order = delivered.turned.order;
      counts = delivered.turned.counts;
      memory = delivered.turned.memory;
      requests = delivered.turned.requests;
    };
    output = delivered.output;
    outbox = delivered.outbox;
    owes = delivered.owes;
    progress_is = delivered.progress_is.0;
  }

  unfoldable pub part_append : Joins outlet.takes
      → {idles idles' : ℕ} {old mid new : DeliveryState O W}
      → (first : Delivered (delivering outlet does) More old mid) → idle_rounds first.events ≡ idles
      → DeliveredPart (delivering outlet does) idles' mid new
      → DeliveredPart (delivering outlet does) (idles + idles') old new
  part_append joins {idles} {idles'} {old} {mid} {new} first same back = record {
    events = first.events ++ back.events;
    left = back.left;
    reached = back.reached;
    idle = omega (arith, same, back.idle, idles-append first.events back.events);
    ends = ends_after first.events back.events first.turned.memory first.progress_is back.ends;
    gives =
        let gives = Gives-append _ _ _ _ _ first.turned.gives back.gives in
        subst (λ items. Gives old.session.state.reading items back.left)
        (sym (items-append first.events back.events)) gives;
    gains = gains_append first.turned.gains back.gains;
    counts = counts_append first.turned.counts back.counts;
    order = order-append old.session.state.owes mid.session.state.owes false first.events
        back.events first.turned.order back.order;
    in_session = events_in_session first.events back.events first.progress_is back.in_session;
    front = replies_text (turns_of first.events) ++ back.front;
    unwritten = back.unwritten;
    text =
        text-append first.events back.events
        ∙ ap (λ text. replies_text (turns_of first.events) ++ text) back.text
        ∙ sym (append_assoc (replies_text (turns_of first.events)) back.front back.unwritten);
    output = writes_append joins first.output back.output;
    batch = batch_after first.events back.events back.front back.batch;
  }

  -- memory ran out where the reader took a piece, and nothing of it was answered
  pub not_taken : (cause : FeedFault) {old new : DeliveryState O W} → cause ≢ feed.Failed
      → ShortOfMemory (delivering outlet does) old new
      → PieceStops (delivering outlet does) old (session_fault_of cause) new
  not_taken feed.Failed other short = absurd (other refl)
  not_taken feed.Memory other short = short

  -- some items of a piece were delivered, and more of them
  pub all_append : Joins outlet.takes → {progress : Progress} {old mid new : DeliveryState O W}
      → AllDelivered (delivering outlet does) More old mid
      → AllDelivered (delivering outlet does) progress mid new
      → AllDelivered (delivering outlet does) progress old new
  all_append joins front back = record {
    delivered = delivered_append joins front.delivered back.delivered;
    idle =
        let none : idle_rounds (front.delivered.events ++ back.delivered.events) ≡ 0 =
        omega (
          arith,
          front.idle,
          back.idle,
          idles-append front.delivered.events back.delivered.events,
        ) in
        none;
    calm = back.calm ∙ front.calm;
  }

  -- some items of a piece were delivered, and then the session stopped
  pub piece_stopped : Joins outlet.takes
      → (cause : SessionFault) {old mid : DeliveryState O W} (new : DeliveryState O W)
      → AllDelivered (delivering outlet does) More old mid
      → DeliveryStops (delivering outlet does) mid cause new
      → PieceStops (delivering outlet does) old cause new
  unfolding part_append
  piece_stopped joins fault.Read new front stops = absurd stops
  piece_stopped joins (fault.Write count) new front stops = record {
    part = part_append joins front.delivered front.idle stops.part;
    cut = stops.cut;
    counted = stops.counted;
    failed = omega (arith, front.calm, stops.failed);
  }
  piece_stopped joins fault.LineTooLong new front stops = absurd stops
  piece_stopped joins fault.Memory new front stops =
      record {
        part = part_append joins front.delivered front.idle stops.part;
        whole = stops.whole;
        calm = stops.calm ∙ front.calm;
      }
