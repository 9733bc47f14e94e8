-- Laws of events: these and then those, and what a round leaves.
use Rattle.std.proofs.Common.{◌≡◌, ℕ, ◌+◌, ◌≤◌, Bool, true, false, List, [], ◌∷◌, ◌++◌, Option}
use Rattle.std.proofs.Common.{Some, None, append_assoc, append-nil, arith, refl, sym, ap, subst}
use Rattle.std.proofs.Common.{◌∙◌, cond, inl, inr, length, true≢false}
use Rattle.std.proofs.lemmas.Bool.{cases_Bool}
use Rattle.std.proofs.lemmas.Grind.{flat_map-append}
use Rattle.std.specs.List.{list_any}
use Rattle.std.proofs.lemmas.List.Folds.{list_any-append}
use Rattle.std.proofs.lemmas.List.Sums.{sum_by-append}
use Rattle.tko_reply.specs.declared.parts.Parts.{Parts}
use Rattle.tko_model.specs.Records.{Lead}
use Rattle.tko_session.specs.Events.{NoneAtWork, NoneShort, Rounded, SessionEvent, ShortAtMostLast}
use Rattle.tko_session.specs.Events.{idle_rounds, is_idle_round, met_prober, owed_after, owed_from}
use Rattle.tko_session.specs.Events.{owed_then, turn_in, turns_of, visits_in, visits_of}
use Rattle.std.specs.Prelude.{MatchBool}
use Rattle.tko_session.specs.AnswerEnds.{IsRun, NoneRun}
use Rattle.tko_session.specs.SessionState.{Snapshot}
use Rattle.tko_prober.specs.Ghosts.{BackendGhosts}
use Rattle.tko_prober.specs.Probers.{AreQuiet, NoneMarked, begun_at}
use Rattle.tko_prober.specs.declared.backend.Backend.{Backend}
use Rattle.tko_prober.specs.declared.prober.Prober.{Prober}
use Rattle.tko_prober.proofs.BegunLemmas.{round-begun}
use Rattle.tko_prober.proofs.ProberLemmas.{busy-begun, prober-quiet}
use Rattle.tko_prober.specs.Round.{Absent, IsRound, IsVisit, Probed, Rested, Stopped, Visit}
use Rattle.tko_prober.specs.Round.{is_probe, probes_in, ran_out}

pub turns-append : (events more : List SessionEvent)
    → turns_of (events ++ more) ≡ turns_of events ++ turns_of more
turns-append events more = flat_map-append turn_in events more

visits-append : (events more : List SessionEvent)
    → visits_of (events ++ more) ≡ visits_of events ++ visits_of more
visits-append events more = flat_map-append visits_in events more

pub probes-append : (server : ℕ) (events more : List SessionEvent)
    → probes_in server (visits_of (events ++ more))
    ≡ probes_in server (visits_of events) + probes_in server (visits_of more)
probes-append server events more =
    ap (probes_in server) (visits-append events more)
    ∙ sum_by-append (λ visit. cond (is_probe server visit) 1 0) (visits_of events) (visits_of more)

-- memory ran out in no round of these, and in none of those
pub short-append : (events more : List SessionEvent) → NoneShort events → NoneShort more
    → NoneShort (events ++ more)
short-append events more front back =
    ap (list_any ran_out) (visits-append events more)
    ∙ list_any-append ran_out (visits_of events) (visits_of more)
    ∙ rw (front, back) refl

-- such events, and then events of which the last may be a round in which memory ran out
pub short-after : (events more : List SessionEvent) → NoneShort events → ShortAtMostLast more
    → ShortAtMostLast (events ++ more)
short-after events more none last = record {
  before = events ++ last.before;
  last = last.last;
  parts = ap (λ xs. events ++ xs) last.parts ∙ sym (append_assoc events last.before last.last);
  memory = short-append events last.before none last.memory;
  one = last.one;
}

pub short-none : (events : List SessionEvent) → NoneShort events → ShortAtMostLast events
short-none events none = record {
  before = events;
  last = [];
  parts = sym (append-nil events);
  memory = none;
  one = omega arith;
}

-- memory ran out in the last of these at most
pub short-last : (events last : List SessionEvent) → NoneShort events → length last ≤ 1
    → ShortAtMostLast (events ++ last)
short-last events last none one =
    record { before = events; last = last; parts = refl; memory = none; one = one }

-- no prober was at work in a round of these, nor of those
pub work-append : (events more : List SessionEvent) → NoneAtWork events → NoneAtWork more
    → NoneAtWork (events ++ more)
work-append events more front back =
    ap (list_any met_prober) (visits-append events more)
    ∙ list_any-append met_prober (visits_of events) (visits_of more)
    ∙ rw (front, back) refl

-- without a prober memory cannot run out
calm_visits : (visits : List Visit) → list_any met_prober visits ≡ false
    → list_any ran_out visits ≡ false
calm_visits [] none = refl
calm_visits (Absent server ∷ visits) none = calm_visits visits none
calm_visits (Stopped server ∷ visits) none = absurd cc
calm_visits (Rested server ∷ visits) none = absurd cc
calm_visits (Probed server came moment reply ∷ visits) none = absurd cc

pub work-short : (events : List SessionEvent) → NoneAtWork events → NoneShort events
work-short events none = calm_visits (visits_of events) none

pub idles-append : (events more : List SessionEvent)
    → idle_rounds (events ++ more) ≡ idle_rounds events + idle_rounds more
idles-append events more = sum_by-append (λ event. cond (is_idle_round event) 1 0) events more

owed-append : (owed : Option Bool) (events more : List SessionEvent)
    → owed_from owed (events ++ more) ≡ owed_from (owed_from owed events) more
owed-append None events more = refl
owed-append (Some owed) [] more = refl
owed-append (Some owed) (event ∷ events) more = owed-append (owed_then owed event) events more

-- events in order, and then events in order
pub order-append : (first mid last : Bool) (events more : List SessionEvent)
    → owed_after first events ≡ Some mid
    → owed_after mid more ≡ Some last → owed_after first (events ++ more) ≡ Some last
order-append first mid last events more front back =
    owed-append (Some first) events more ∙ ap (λ owed. owed_from owed more) front ∙ back

none_or_some : {prober : Prober} → None ≡ Some prober → ⊥
none_or_some same = cc

module _ {H L C : Type 0} (ghosts : BackendGhosts H L C) where
  -- where no prober is at work, a visit meets none and changes nothing
  quiet_visit : (moment : ℕ) (old : Backend H L C) (visit : Visit) (new : Backend H L C)
      → IsVisit ghosts moment old visit new
      → AreQuiet old.probers → (met_prober visit ≡ false) × (new ≡ old)
  quiet_visit moment old (Absent server) new (none, same) quiet = (refl, same)
  quiet_visit moment old (Stopped server) new is quiet =
      absurd (none_or_some (sym (prober-quiet old.probers.slots server quiet) ∙ is.has))
  quiet_visit moment old (Rested server) new is quiet =
      absurd (none_or_some (sym (prober-quiet old.probers.slots server quiet) ∙ is.has))
  quiet_visit moment old (Probed server came later reply) new is quiet =
      absurd (none_or_some (sym (prober-quiet old.probers.slots server quiet) ∙ is.has))

  quiet_visits : (moment : ℕ) (old : Backend H L C) (visits : List Visit) (new : Backend H L C)
      → Lead (IsVisit ghosts moment) old visits new
      → AreQuiet old.probers → list_any met_prober visits ≡ false
  quiet_visits moment old [] new same quiet = refl
  quiet_visits moment old (visit ∷ visits) new (mid, first, rest) quiet =
      let one = quiet_visit moment old visit mid first quiet in
      let more = quiet_visits moment mid visits new rest
      (subst (λ (b : Backend H L C). AreQuiet b.probers) (sym one.1) quiet) in
      rw (one.0, more) refl

module _ {H L C : Type 0} {ghosts : BackendGhosts H L C} where
  -- nor does a round
  pub quiet_round : {old new : Backend H L C} {short : Bool}
      → (round : IsRound ghosts old short new) → AreQuiet old.probers
      → list_any met_prober round.visits ≡ false
  quiet_round {old} {new} round quiet =
      quiet_visits ghosts round.moment (record old {
        clock = round.clock;
        probers = begun_at round.moment old.probers;
      }) round.visits new round.each.leads
      (busy-begun old.probers.delays round.moment old.probers.slots ∙ quiet)

module _ {H L T C : Type 0} {ghosts : BackendGhosts H L C} where
  -- after the round that was owed, if one was
  pub begun_paid : {mid : Snapshot (Parts H L T C)} {new : Parts H L T C} {short : Bool}
      → (mid.state.owes ≡ false → NoneMarked mid.parts.backend.probers) → IsRun ghosts mid short new
      → NoneMarked new.backend.probers
  begun_paid {mid} {new} {short} keeps run =
      let P : Bool → Type 0 = λ owes.
      MatchBool owes (Rounded ghosts short mid.parts new) (NoneRun short mid.parts new) in
      elim (cases_Bool mid.state.owes) [
        | inl owed ↦ round-begun (subst P owed run.ran).round
        | inr none ↦ rw (subst P none run.ran).same (keeps none)
      ]

  -- while no prober is at work memory cannot run out in it
  pub never_short : {mid : Snapshot (Parts H L T C)} {new : Parts H L T C}
      → AreQuiet mid.parts.backend.probers
      → IsRun ghosts mid true new → ⊥
  never_short {mid} {new} quiet run =
      let P : Bool → Type 0 =
      λ owes. MatchBool owes (Rounded ghosts true mid.parts new) (NoneRun true mid.parts new) in
      elim (cases_Bool mid.state.owes) [
        | inl owed ↦
            let rounded : Rounded ghosts true mid.parts new = subst P owed run.ran in
            true≢false (rounded.round.memory
            ∙ calm_visits rounded.round.visits (quiet_round rounded.round quiet))
        | inr none ↦
            let unpaid : NoneRun true mid.parts new = subst P none run.ran in
            true≢false unpaid.never_short
      ]

-- what a visit of a round leaves alone, the round does
pub visited_others : {H L T C : Type 0} (old mid : Parts H L T C) {new : Parts H L T C}
    → mid ≡ record old { backend = mid.backend }
    → new ≡ record mid { backend = new.backend } → new ≡ record old { backend = new.backend }
visited_others {H} {L} {T} {C} old mid {new} before visit =
    visit ∙ ap (λ (it : Parts H L T C). record it { backend = new.backend }) before
