-- Lost tries: what a call knows of its tries is kept by its thread's own steps, and by those of others.
use Rattle.std.proofs.Common.{is_some, ◌≡◌, ◌≢◌, ℕ, ◌+◌, ◌<◌, ◌⊎◌, Bool, true, false, cond, not, ◌&&◌, ◌||◌, eqb, List, ◌∷◌, length, Some, None, inl, inr, refl, sym, ap, ◌∙◌, arith}
use Rattle.std.proofs.lemmas.Bool.{and_from, and_left, and_right, cond-false, cond-true, cond_both, eq-eqb, eqb-false, eqb-true, le-ltb, lt-ltb}
use Rattle.tko_model.specs.declared.mark.Mark.{Mark}
use Rattle.tko_model.specs.declared.mark.Mark.TheVariants.{Soft}
use Rattle.tko_model.specs.declared.mark.Reply.{Reply}
use Rattle.tko_model.specs.declared.mark.Reply.TheVariants.{Contended, Full, TookSoft}
use Rattle.tko_model.specs.Settings.{Settings}
use Rattle.tko_model.specs.declared.state.ServerState.{ServerState}
use Rattle.tko_model.specs.Tracker.{server_at}
use Rattle.tko_steps.specs.declared.phase.Call.{Call as CallState}
use Rattle.tko_steps.specs.declared.phase.Phase.{Phase}
use Rattle.tko_steps.specs.declared.phase.Phase.TheVariants.{Start, Read, AtThreshold, Limit, Reserving, Holding, Firming, Losing, Loosening, Loosened, Emptied}
use Rattle.tko_steps.specs.declared.phase.Slots.{Slots}
use Rattle.tko_steps.specs.declared.phase.ThreadState.TheVariants.{InCall}
use Rattle.tko_steps.specs.declared.step.Place.{Place}
use Rattle.tko_steps.specs.declared.step.Place.TheVariants as place
use Rattle.tko_steps.specs.declared.step.Word.TheVariants as word
use Rattle.tko_steps.specs.declared.table.Decision.{Decision}
use Rattle.tko_steps.specs.declared.table.Decision.TheVariants.{Goes, Answers}
use Rattle.tko_steps.specs.Core.{abstract_of, follows, thread_at, slots_at}
use Rattle.tko_steps.specs.Steps.{decided_answer, kind_of_exchange}
use Rattle.tko_steps.specs.Invariant.{IsCore}
use Rattle.tko_steps.specs.Lost.{ExpectsWhatItSaw, IsChangedSince, holds_slot, is_exchange, is_give, is_look, is_look_of, last_look, loses_try, lost_tries, same_place, was_seen}
use Rattle.tko_steps.specs.Runs.{Moment, OwnStep, StepTaken, Took, World}
use Rattle.tko_steps.specs.Table.{goes, lost_try, same_server, same_slots}
use Rattle.tko_steps.proofs.FamilyLemmas.{Follows, act_own}
use Rattle.tko_steps.proofs.StartLemmas.{from_start-is, plain≢}
use Rattle.tko_steps.proofs.TryLemmas.{exchange-holds, exchange-is_exchange, exchange-no_give, exchange-not_look, last_look-elsewhere, last_look-here, last_look-lost, loses_try-change, lost_tries-given, lost_tries-held, lost_tries-kept, lost_tries-lost, owes_slot-held}
use Rattle.tko_steps.proofs.WiringLemmas.{stepped_from}
use Rattle.tko_model.specs.Groups.{group_of, limit_at}
use Rattle.tko_steps.proofs.CoreLemmas.{own-group}
use Rattle.tko_steps.proofs.LostLemmas.{HasLooked, IsTried, KnowsTries}

-- ---- a thread's own step

and_none : (b : Bool) → (b && false) ≡ false
and_none true = refl
and_none false = refl

-- what was known of a word since the last look at it, after one more step that is no look at it
pub since-push : {A : Type 0} (thread : ℕ) (at : Place) (step : StepTaken) (past : List Moment) → is_look_of thread at step ≡ false
    → (A ⊎ IsChangedSince thread at past) → (A ⊎ IsChangedSince thread at (Took step ∷ past))
since-push thread at step past no_look (inl same) = inl same
since-push thread at step past no_look (inr changed) = inr (inr (no_look, changed))

module _ (w : World) (thread : ℕ) (call : CallState) (steps : List OwnStep) (is : IsCore w.core) (inside : thread < length w.core.threads) where
  abbrev s : Settings
  s = w.core.settings

  abbrev now : ServerState
  now = server_at (abstract_of w.core) call.server

  abbrev slots : Slots
  slots = slots_at w.core.shared.slots (group_of s call.server)

  abbrev at_slots : Place
  at_slots = place.Soft (group_of s call.server)

  abbrev at_server : Place
  at_server = place.Server call.server

  abbrev own : Phase → OwnStep
  own phase = act_own w thread call phase

  abbrev after : Phase → World
  after phase = stepped_from w thread (InCall call phase)

  abbrev Next : Phase → Decision → Type 0
  Next phase decision =
      Follows s (KnowsTries s) (IsTried s) (after phase) thread call steps (own phase) decision

  here : same_place at_server at_server ≡ true
  here = eq-eqb call.server call.server refl

  here_slots : same_place at_slots at_slots ≡ true
  here_slots = eq-eqb (group_of s call.server) (group_of s call.server) refl

  abbrev loses : Phase → Bool
  loses phase = loses_try s (own phase).step (last_look s (own phase).step.place steps)

  -- an answer that is plain
  answers : (phase : Phase) (answer : Reply) → (own phase).step.answer ≡ Some answer → answer ≢ Contended
      → ExpectsWhatItSaw s (own phase ∷ steps) → Next phase (Answers answer)
  answers phase answer is_answer plain expects =
      (λ e. let same : answer ≡ Contended = cc in absurd (plain same), expects)

  -- a step that loses the try
  lost-try : (phase : Phase) → follows w.core call phase ≡ lost_try s call
      → lost_tries s (own phase ∷ steps) ≡ call.lost + 1 → holds_slot (own phase ∷ steps) ≡ false → last_look s at_server (own phase ∷ steps) ≡ None
      → ExpectsWhatItSaw s (own phase ∷ steps) → Next phase (lost_try s call)
  lost-try phase decided lost free none expects =
      cond_both (eqb s.tries (call.lost + 1)) (Answers Contended) (Goes (call.lost + 1) Start) (Next phase)
      (λ last. (λ e. lost ∙ sym (eqb-true s.tries (call.lost + 1) last), expects))
      (λ left. (expects, record { count = lost; holds = free; looked = none }))

  -- a step that loses the try at once
  loses-now : (phase : Phase) (found : ServerState) → follows w.core call phase ≡ lost_try s call
      → HasLooked s w thread call.server call.lost steps false found → loses phase ≡ true
      → is_give (own phase).step.kind ≡ false → holds_slot (own phase ∷ steps) ≡ false
      → ExpectsWhatItSaw s (own phase ∷ steps) → Next phase (lost_try s call)
  loses-now phase found decided has loses no_give free expects =
      lost-try phase decided
      (lost_tries-lost s (own phase) steps loses no_give has.holds ∙ ap (λ n. n + 1) has.count) free
      (last_look-lost s (own phase) steps at_server loses) expects

  -- the try goes on after a step on the soft word
  goes-on : (phase : Phase) (found : ServerState) (held now_held : Bool) → HasLooked s w thread call.server call.lost steps held found
      → loses phase ≡ false → is_give (own phase).step.kind ≡ false → holds_slot (own phase ∷ steps) ≡ now_held → (own phase).step.place ≡ at_slots
      → ((server_at (abstract_of (after phase).core) call.server ≡ found) ⊎ IsChangedSince thread at_server (after phase).past)
      → HasLooked s (after phase) thread call.server call.lost (own phase ∷ steps) now_held found
  goes-on phase found held now_held has goes_on no_give holds soft since =
      record {
        count = lost_tries-kept s (own phase) steps goes_on no_give ∙ has.count;
        holds = holds;
        looked = last_look-elsewhere s (own phase) steps at_server goes_on
            (ap (λ at. is_look (own phase).step.kind && same_place at at_server) soft ∙ and_none (is_look (own phase).step.kind))
            ∙ has.looked;
        since = since;
      }

  -- an exchange of the server's word expects what the last look found
  expects-exchange : (phase : Phase) (found : ServerState) (mark : Mark) (held : Bool) → HasLooked s w thread call.server call.lost steps held found
      → (own phase).step.kind ≡ kind_of_exchange found.mark mark → (own phase).step.place ≡ at_server
      → (own phase).step.found ≡ word.Server now → (own phase).step.won ≡ same_server now found
      → ExpectsWhatItSaw s steps → ExpectsWhatItSaw s (own phase ∷ steps)
  expects-exchange phase found mark held has of_kind on is_found won expects =
      let step = (own phase).step in
      let looked : last_look s step.place steps ≡ Some (word.Server found) = ap (λ at. last_look s at steps) on ∙ has.looked in
      let seen : was_seen (last_look s step.place steps) step.found ≡ same_server now found =
      ap (λ it. was_seen it step.found) looked ∙ ap (λ it. was_seen (Some (word.Server found)) it) is_found in
      let exchange : is_exchange step.kind ≡ true = ap is_exchange of_kind ∙ exchange-is_exchange found.mark mark in
      (won ∙ sym seen ∙ sym (cond-true _ _ _ exchange), expects)

  exchange-loses : (phase : Phase) (found : ServerState) (mark : Mark) (won held : Bool) → HasLooked s w thread call.server call.lost steps held found
      → (own phase).step.kind ≡ kind_of_exchange found.mark mark → (own phase).step.place ≡ at_server
      → (own phase).step.won ≡ won → loses phase ≡ not won
  exchange-loses phase found mark won held has of_kind on is_won =
      loses_try-change s (own phase).step (last_look s (own phase).step.place steps) (ap is_look of_kind ∙ exchange-not_look found.mark mark)
      (ap (λ at. is_some (last_look s at steps)) on ∙ ap is_some has.looked)
      ∙ ap not is_won

  pub tries-act : (phase : Phase) → thread_at w.core thread ≡ InCall call phase → KnowsTries s w thread call steps phase
      → Next phase (follows w.core call phase)
  tries-act Start stands (expects, knows) =
      let loses_not : loses Start ≡ false = ap (λ it. loses_try s (own Start).step it) knows.looked in
      let looked : HasLooked s (after Start) thread call.server call.lost (own Start ∷ steps) false now = record {
        count = lost_tries-kept s (own Start) steps loses_not refl ∙ knows.count;
        holds = knows.holds;
        looked = last_look-here s (own Start) steps at_server loses_not here;
        since = inl refl;
      } in
      from_start-is s call now (λ decision. (own Start).step.answer ≡ decided_answer decision → Next Start decision)
      (λ answer is_answer is told. answers Start answer told is_answer.contended (refl, expects))
      (λ soft fresh is told. ((refl, expects), looked))
      (λ mark answer put can by is told. ((refl, expects), (looked, put.plain)))
      (λ mark answer put can mine is told. ((refl, expects), (looked, put.plain)))
      refl
  tries-act (Read found mark answer) stands (expects, (has, plain)) =
      let phase : Phase = Read found mark answer in
      let expected = expects-exchange phase found mark false has refl refl refl refl expects in
      cond_both (same_server now found) (Answers answer) (lost_try s call) (Next phase)
      (λ won.
      answers phase answer (ap (λ b. decided_answer (cond b (Answers answer) (lost_try s call))) won) (plain≢ answer Contended plain refl) expected)
      (λ lost.
      loses-now phase found (cond-false _ _ _ lost) has (exchange-loses phase found mark false false has refl refl lost)
      (exchange-no_give found.mark mark) (exchange-holds found.mark mark (own phase).step.won (holds_slot steps) ∙ has.holds) expected)
  tries-act (AtThreshold found) stands (expects, has) =
      let phase : Phase = AtThreshold found in
      let rest = cond (eqb (slots.firm + slots.held) (limit_at s call.server)) (lost_try s call) (goes call (Reserving found slots)) in
      let since = since-push thread at_server (own phase).step w.past refl has.since in
      cond_both (eqb slots.firm (limit_at s call.server)) (goes call (Limit found)) rest (Next phase)
      (λ full.
      let firm = eqb-true slots.firm (limit_at s call.server) full in
      let goes_on : loses phase ≡ false = and_left _ _ (le-ltb slots.firm (limit_at s call.server) (omega (arith, firm))) in
      ((refl, expects), goes-on phase found false false has goes_on refl has.holds refl since))
      (λ below.
      let apart = eqb-false slots.firm (limit_at s call.server) below in
      cond_both (eqb (slots.firm + slots.held) (limit_at s call.server)) (lost_try s call) (goes call (Reserving found slots)) (Next phase)
      (λ held.
      let loses : loses phase ≡ true = and_from _ _ (lt-ltb slots.firm (limit_at s call.server) (omega (arith, (own-group w.core call.server is).room))) held in
      loses-now phase found (cond-false _ _ _ below ∙ cond-true _ _ _ held) has loses refl has.holds (refl, expects))
      (λ left.
      let goes_on : loses phase ≡ false = and_right _ _ left in (
        (refl, expects),
        (
          goes-on phase found false false has goes_on refl has.holds refl since,
          record { looked = last_look-here s (own phase) steps at_slots goes_on here_slots; since = inl refl },
        ),
      )))
  tries-act (Limit found) stands (expects, has) =
      let phase : Phase = Limit found in
      let looks : loses phase ≡ loses_try s (own phase).step (Some (word.Server found)) = ap (λ it. loses_try s (own phase).step it) has.looked in
      cond_both (same_server found now) (Answers Full) (lost_try s call) (Next phase)
      (λ same.
      answers phase Full (ap (λ b. decided_answer (cond b (Answers Full) (lost_try s call))) same) (λ e. cc) (refl, expects))
      (λ other.
      loses-now phase found (cond-false _ _ _ other) has (looks ∙ ap (λ b. not b || false) other) refl has.holds (refl, expects))
  tries-act (Reserving found before) stands (expects, (has, counted)) =
      let phase : Phase = Reserving found before in
      let seen : was_seen (last_look s at_slots steps) (word.Soft slots) ≡ same_slots slots before =
      ap (λ it. was_seen it (word.Soft slots)) counted.looked in
      let loses_not_won : loses phase ≡ not (same_slots slots before) =
      loses_try-change s (own phase).step (last_look s at_slots steps) refl (ap is_some counted.looked) in
      let since = since-push thread at_server (own phase).step w.past refl has.since in
      cond_both (same_slots slots before) (goes call (Holding found)) (lost_try s call) (Next phase)
      (λ won. ((sym seen, expects), goes-on phase found false true has (loses_not_won ∙ ap not won) refl (ap (λ b. b || holds_slot steps) won) refl since))
      (λ lost.
      loses-now phase found (cond-false _ _ _ lost) has (loses_not_won ∙ ap not lost) refl
      (ap (λ b. b || holds_slot steps) lost ∙ has.holds) (sym seen, expects))
  tries-act (Holding found) stands (expects, has) =
      let phase : Phase = Holding found in
      let mark : Mark = Soft call.number in
      let expected = expects-exchange phase found mark true has refl refl refl refl expects in
      cond_both (same_server now found) (goes call Firming) (goes call Losing) (Next phase)
      (λ won. (expected, tt))
      (λ lost.
      let loses = exchange-loses phase found mark false true has refl refl lost in
      let no_give = exchange-no_give found.mark mark in (
        expected,
        record {
          count = lost_tries-held s (own phase) steps loses no_give has.holds ∙ has.count;
          owes = owes_slot-held s (own phase) steps loses no_give has.holds;
          looked = last_look-lost s (own phase) steps at_server loses;
        },
      ))
  tries-act Firming stands (expects, knows) = answers Firming TookSoft refl (λ e. cc) (refl, expects)
  tries-act Losing stands (expects, knows) =
      lost-try Losing refl
      (lost_tries-given s (own Losing) steps refl knows.owes ∙ ap (λ n. n + 1) knows.count) refl
      (last_look-elsewhere s (own Losing) steps at_server refl refl ∙ knows.looked) (refl, expects)
  tries-act (Loosening found mark answer) stands (expects, (has, plain)) =
      let phase : Phase = Loosening found mark answer in
      let since = since-push thread at_server (own phase).step w.past refl has.since in
      ((refl, expects), (goes-on phase found false true has refl refl (ap not has.holds) refl since, plain))
  tries-act (Loosened found mark answer) stands (expects, (has, plain)) =
      (expects-exchange (Loosened found mark answer) found mark true has refl refl refl refl expects, plain)
  tries-act (Emptied answer) stands (expects, plain) =
      answers (Emptied answer) answer refl (plain≢ answer Contended plain refl) (refl, expects)
