-- A call under way: what its loop keeps is kept by each step.
use Rattle.std.proofs.Common.{◌≡◌, ℕ, ◌+◌, ◌<◌, ◌≤◌, true, List, [], ◌∷◌, ◌++◌, refl, sym, ap, ◌∙◌}
use Rattle.std.proofs.Common.{subst}
use Rattle.tko_model.specs.declared.mark.Op.{Op}
use Rattle.tko_model.specs.declared.mark.Reply.{Reply}
use Rattle.tko_model.specs.Settings.{Settings}
use Rattle.tko_model.specs.Ranges.{IsWithinRanges}
use Rattle.tko_steps.specs.declared.phase.Call.{Call}
use Rattle.tko_steps.specs.declared.phase.Phase.{Phase}
use Rattle.tko_steps.specs.declared.phase.Phase.TheVariants.{Start, Read, AtThreshold, Limit}
use Rattle.tko_steps.specs.declared.phase.Phase.TheVariants.{Reserving, Holding, Firming, Losing}
use Rattle.tko_steps.specs.declared.phase.Phase.TheVariants.{Loosening, Loosened, Emptied}
use Rattle.tko_steps.specs.declared.phase.ThreadState.TheVariants.{Idle}
use Rattle.tko_steps.specs.declared.table.Decision.{Decision}
use Rattle.tko_steps.specs.declared.table.Decision.TheVariants.{Goes, Answers}
use Rattle.tko_steps.specs.declared.table.Observed.{Observed}
use Rattle.tko_steps.specs.Core.{CoreState, follows, seen_by}
use Rattle.tko_steps.specs.Cost.{most_steps}
use Rattle.tko_steps.specs.Steps.{decided_state, in_call, is_done}
use Rattle.tko_steps.specs.Table.{action_of, next_of}
use Rattle.tko_steps.proofs.OwnLemmas.{act_step}
use Rattle.tko_table.specs.declared.pass.PassView.{PassView}
use Rattle.tko_table.specs.History.{Replays}
use Rattle.tko_table.specs.Passes.{changes_by, owned_after_action, owns}
use Rattle.tko_table.specs.Steps.{IsSound}
use Rattle.tko_tracker.specs.Tries.{HasTried, Taken, and_steps, taken_own_step}
use Rattle.tko_tracker.specs.Calls.{CallGoesOn, Called, IsStep, IsStepTaken, LeadsToAnswer}
use Rattle.tko_tracker.specs.Calls.{answers_owner, can_answer, owned_left}
use Rattle.tko_tracker.specs.Running.{RanCall, TakesStep}
use Rattle.tko_tracker.proofs.AddsLemmas.{added-next}
use Rattle.tko_tracker.proofs.AddedLemmas.{HasAddedAfter}
use Rattle.tko_tracker.proofs.KnowsLemmas.{KnowsAfter, KnowsAt, left}
use Rattle.tko_tracker.proofs.KnowsStepLemmas.{knows-next}
use Rattle.tko_tracker.proofs.LookLemmas.{IsOwn, SeenAfter, SeenAt, exchange-lost, look-changed}
use Rattle.tko_tracker.proofs.LookLemmas.{seen-next}
use Rattle.tko_tracker.proofs.TryLemmas.{TriedAfter, slot-held, tried-next, turn-is}
use Rattle.tko_tracker.proofs.RunLemmas.{IsUnderWay, ended-adds, head}

-- what one more step makes of it
module _ (s : Settings) (ranges : IsWithinRanges s) (number : ℕ) (op : Op) (server : ℕ)
    (before : List PassView) (call : Call) (phase : Phase)
    (view : List PassView) (at : IsUnderWay s number op server before call phase view)
    (read : Observed) (after : List PassView)
    (stepped : TakesStep s view call phase read after) where
  abbrev mid : PassView
  mid = stepped.new

  abbrev decision : Decision
  decision = next_of s call phase read

  same-pass : stepped.old ≡ at.now
  same-pass = head stepped.old at.now (sym stepped.was ∙ at.is)

  step : IsStep at.now call phase read mid
  step = subst (λ it. IsStep it call phase read mid) same-pass stepped.step

  decided : next_of at.now.settings call phase read ≡ next_of s call phase read
  decided = ap (λ it. next_of it call phase read) at.settings

  state-mid : mid.state ≡ decided_state call decision
  state-mid = ap (λ (it : PassView). it.state) step.takes.knows ∙ ap (decided_state call) decided

  settings-mid : mid.settings ≡ s
  settings-mid = ap (λ (it : PassView). it.settings) step.takes.knows ∙ at.settings

  reads-here : read ≡ seen_by s step.takes.core.shared call.server (action_of call.number phase)
  reads-here =
      step.takes.reads ∙ ap (λ (it : Settings).
      seen_by it step.takes.core.shared call.server (action_of call.number phase)) at.settings

  knows-mid : KnowsAfter s at.first.steps at.first.owned call phase decision mid.steps mid.owned
  knows-mid =
      let takes = step.takes in
      let act = action_of call.number phase in
      let steps : at.now.steps + 1 ≡ mid.steps =
      sym (ap (λ (it : PassView). it.steps) takes.knows) in
      let owned : owned_after_action at.now.owned call.server act (is_done read) ≡ mid.owned =
      sym (ap (λ (it : PassView). it.owned) takes.knows) in
      let P : Observed → Type 0 = λ it.
      KnowsAfter s at.first.steps at.first.owned call phase (next_of s call phase it)
      (at.now.steps + 1) (owned_after_action at.now.owned call.server act (is_done it)) in
      let Q : ℕ → Type 0 = λ n. KnowsAfter s at.first.steps at.first.owned call phase decision n
      (owned_after_action at.now.owned call.server act (is_done read)) in
      let R : List ℕ → Type 0 =
      λ it. KnowsAfter s at.first.steps at.first.owned call phase decision mid.steps it in
      let next = knows-next s ranges at.first.steps at.first.owned call
      (subst (λ n. n < s.threads) (sym at.by) at.within) at.now.steps at.now.owned
      takes.core.shared phase (subst (IsSound s call.server) reads-here stepped.sound)
      (λ found mark is marked. sym reads-here ∙ step.sure found mark is marked) at.knows
      (takes.own call.server) in
      subst R owned (subst Q steps (subst P (sym reads-here) next))

  added-mid : HasAddedAfter s at.first mid call decision
  added-mid = added-next s at.first at.now mid call phase read at.added at.settings
      (subst (λ n. n < s.threads) (sym at.by) at.within) call.op at.first.owned at.now.owned
      at.knows.at step

  abbrev core : CoreState
  core = step.takes.core

  abbrev thread : ℕ
  thread = step.takes.is_found.thread

  found-here : Replays s (at.now.seen ++ step.takes.between) core.shared.servers
  found-here = subst (λ it. Replays it (at.now.seen ++ step.takes.between) core.shared.servers)
      at.settings step.takes.found

  abbrev taken : Taken
  taken = record { read = read; step = act_step core thread call phase; after = mid }

  seen-here : SeenAt at.now.settings call.number call.server at.now.seen phase
  seen-here =
      subst (λ it. SeenAt it call.number call.server at.now.seen phase) (sym at.settings) at.seen

  own-here : (it : Phase) → KnowsAt call.op call.server at.first.owned at.now.owned it
      → IsOwn s call core.shared at.now.seen step.takes.between found-here step.takes.others it
  own-here Start knows = tt
  own-here (Read found mark answer) knows = tt
  own-here (AtThreshold found) knows = tt
  own-here (Limit found) knows = tt
  own-here (Reserving found slots) knows = tt
  own-here (Holding found) knows = tt
  own-here Firming knows = tt
  own-here Losing knows = tt
  own-here (Loosening found mark answer) knows = knows.3
  own-here (Loosened found mark answer) knows = tt
  own-here (Emptied answer) knows = tt

  seen-mid : SeenAfter s call.number call.server mid.seen decision
  seen-mid =
      let next = seen-next s call core.shared at.now.seen step.takes.between found-here
      step.takes.others phase (own-here phase at.knows.at) at.seen in
      let P : Observed → Type 0 = λ it.
      SeenAfter s call.number call.server ((at.now.seen ++ step.takes.between)
      ++ changes_by call phase (is_done it)) (next_of s call phase it) in
      let here : (at.now.seen ++ step.takes.between) ++ changes_by call phase (is_done read)
      ≡ mid.seen = sym (ap (λ (it : PassView). it.seen) step.takes.knows) in
      subst (λ it. SeenAfter s call.number call.server it decision) here
      (subst P (sym reads-here) next)

  is-taken : IsStepTaken at.now call phase taken
  is-taken =
      let found = step.takes.is_found in
      record {
        step = step;
        turn = turn-is core thread call phase found.inside found.stands;
        held = λ group there e. slot-held at.now.settings core thread call phase found.is
            found.stands found.settings group there e;
        lost = λ expected mark is lost.
            exchange-lost at.now.settings call core.shared at.now.seen step.takes.between
            step.takes.found step.takes.others phase read expected mark
            seen-here step.takes.reads (λ marked. step.sure expected mark is marked) is lost;
        changed = λ expected then is_limit is other.
            look-changed at.now.settings call core.shared at.now.seen step.takes.between
            step.takes.found step.takes.others expected then read
            (subst (SeenAt at.now.settings call.number call.server at.now.seen) is_limit seen-here)
            (step.takes.reads ∙ ap (λ it. seen_by at.now.settings core.shared call.server
            (action_of call.number it)) is_limit) is other;
      }

  follows-is : follows core call phase ≡ next_of s call phase read
  follows-is =
      ap (λ (it : Settings). next_of it call phase (seen_by it core.shared call.server
      (action_of call.number phase))) (step.takes.is_found.settings ∙ at.settings)
      ∙ ap (next_of s call phase) (sym reads-here)

  tried-mid : TriedAfter s call (taken_own_step taken ∷ at.own) decision
  tried-mid =
      let found = step.takes.is_found in
      let next = tried-next s core thread call phase at.own at.now.steps found.is found.inside
      found.stands (found.settings ∙ at.settings) at.tried in
      let count : at.now.steps + 1 ≡ mid.steps =
      sym (ap (λ (it : PassView). it.steps) step.takes.knows) in
      let P : ℕ → Type 0 = λ n. TriedAfter s call (record {
        at = n;
        step = act_step core thread call phase;
      } ∷ at.own) decision in
      subst P count (subst (TriedAfter s call (record {
        at = at.now.steps + 1;
        step = act_step core thread call phase;
      } ∷ at.own)) follows-is next)

  leads-mid : (decision : Decision) → next_of s call phase read ≡ decision
      → (steps : List Taken) (answer : Reply) (end : PassView)
      → CallGoesOn call decision (λ same later. LeadsToAnswer mid same later steps answer end)
      (λ given. (steps ≡ []) × (given ≡ answer) × (mid ≡ end))
      → HasTried s answer (and_steps (taken_own_step taken ∷ at.own) steps)
      → Called at.first op server answer end
  leads-mid decision is steps answer end goes tried =
      let P : Decision → Type 0 = λ it.
      CallGoesOn call it (λ same later. LeadsToAnswer mid same later steps answer end)
      (λ given. (steps ≡ []) × (given ≡ answer) × (mid ≡ end)) in
      at.rest (taken ∷ steps) answer end (is-taken, subst P (sym (decided ∙ is)) goes) tried

  pub goes-on : (lost : ℕ) (next : Phase) → next_of s call phase read ≡ Goes lost next
      → IsUnderWay s number op server before (record call { lost = lost }) next after
      × (left s lost next < left s call.lost phase)
  goes-on lost next is =
      let both = subst (λ it. KnowsAfter s at.first.steps at.first.owned call phase it mid.steps
      mid.owned) is knows-mid in (
        record {
          first = at.first;
          now = mid;
          was = at.was;
          is = stepped.is;
          idle = at.idle;
          same = at.same;
          settings = settings-mid;
          within = at.within;
          by = at.by;
          does = at.does;
          on = at.on;
          stands = ap (λ state. in_call state op server) (state-mid ∙ ap (decided_state call) is);
          knows = both.0;
          added = subst (HasAddedAfter s at.first mid call) is added-mid;
          own = taken_own_step taken ∷ at.own;
          tried = subst (TriedAfter s call (taken_own_step taken ∷ at.own)) is tried-mid;
          seen = subst (SeenAfter s call.number call.server mid.seen) is seen-mid;
          rest = λ steps answer end leads tried.
              leads-mid (Goes lost next) is steps answer end leads tried;
        },
        both.1,
      )

  pub answers : (answer : Reply) → next_of s call phase read ≡ Answers answer
      → RanCall s number before op server answer after
  answers answer is =
      let ends = subst (λ it. KnowsAfter s at.first.steps at.first.owned call phase it mid.steps
      mid.owned) is knows-mid in
      record {
        old = at.first;
        new = mid;
        was = at.was;
        is = stepped.is;
        called = leads-mid (Answers answer) is [] answer mid (refl, refl, refl)
            (subst (TriedAfter s call (taken_own_step taken ∷ at.own)) is tried-mid);
        adds = ended-adds s at.first mid number op server call answer at.idle at.same at.by at.does
            at.on (subst (HasAddedAfter s at.first mid call) is added-mid);
        state = state-mid ∙ ap (decided_state call) is ∙ ap Idle at.by;
        settings = settings-mid ∙ sym at.same;
        steps = subst (λ it. mid.steps ≤ at.first.steps + most_steps s it) at.does ends.few;
        allowed = subst (λ it. can_answer it answer ≡ true) at.does ends.allowed;
        owned = subst (λ it. mid.owned ≡ owned_left answer it at.first.owned) at.on ends.leaves;
        owner =
            subst (λ it. owns at.first.owned server ≡ true → answers_owner it answer ≡ true) at.does
            (subst (λ it. owns at.first.owned it ≡ true → answers_owner call.op answer ≡ true) at.on
            ends.owner);
      }
