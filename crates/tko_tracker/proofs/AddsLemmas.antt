-- What a call under way has added to the history, from step to step.
use Rattle.std.proofs.Common.{◌≡◌, ℕ, ◌+◌, ◌<◌, true, false, ⊎_elim, arith, List, [], ◌∷◌, ◌++◌}
use Rattle.std.proofs.Common.{length, All, refl, sym, ap, ◌∙◌, subst}
use Rattle.std.proofs.lemmas.Bool.{cases_Bool}
use Rattle.std.proofs.lemmas.List.{append-nil, append_assoc}
use Rattle.tko_model.specs.declared.mark.Op.{Op}
use Rattle.tko_model.specs.Settings.{Settings}
use Rattle.tko_model.specs.declared.state.ServerState.{ServerState}
use Rattle.tko_steps.specs.declared.phase.Call.{Call}
use Rattle.tko_steps.specs.declared.phase.Phase.{Phase}
use Rattle.tko_steps.specs.declared.table.Decision.{Decision}
use Rattle.tko_steps.specs.declared.table.Decision.TheVariants.{Goes, Answers}
use Rattle.tko_steps.specs.declared.table.Observed.{Observed}
use Rattle.tko_steps.specs.Core.{seen_by, shared_after}
use Rattle.tko_steps.specs.Steps.{decided_state, is_done}
use Rattle.tko_steps.specs.Table.{action_of, next_of}
use Rattle.tko_table.specs.declared.pass.Change.{Change}
use Rattle.tko_table.specs.declared.pass.PassView.{PassView}
use Rattle.tko_table.specs.History.{Replays, changes_in, made_by, made_with}
use Rattle.tko_table.specs.Passes.{changes_by, decided_after, mine_after, pending, pending_at}
use Rattle.tko_table.specs.Rule.{IsPlanned}
use Rattle.tko_table.specs.Steps.{Takes}
use Rattle.tko_table.proofs.AddedChangeLemmas.{made_by-append, told-next}
use Rattle.tko_table.proofs.ThreadChangeLemmas.{made-changes}
use Rattle.tko_table.proofs.PlanLemmas.{plans-next}
use Rattle.tko_tracker.specs.Calls.{IsStep}
use Rattle.tko_tracker.proofs.KnowsLemmas.{KnowsAt}
use Rattle.tko_tracker.proofs.PlaceLemmas.{PlaceAfter, PlaceAt, is_start, start-at-end}
use Rattle.tko_tracker.proofs.PlaceStepLemmas.{place-next}
use Rattle.tko_tracker.proofs.SoloLemmas.{SoloAfter, SoloAt, solo-next}
use Rattle.tko_tracker.proofs.OneThreadLemmas.{none-other}
use Rattle.tko_tracker.proofs.AddedLemmas.{HasAdded, HasAddedAfter, sure-at}

module _ (s : Settings) (first now mid : PassView) (call : Call) (phase : Phase) (read : Observed)
    (has : HasAdded s first now call phase)
    (settings : now.settings ≡ s) (within : call.number < s.threads) (op : Op) (base owned : List ℕ)
    (knows : KnowsAt op call.server base owned phase)
    (step : IsStep now call phase read mid) where
  abbrev takes : Takes now call phase read mid
  takes = step.takes

  abbrev changes : List Change
  changes = changes_by call phase (is_done read)

  abbrev more : List Change
  more = (has.more ++ takes.between) ++ changes

  abbrev at : ℕ
  at = decided_after phase now.decided_at (length (now.seen ++ takes.between))

  seen-mid : mid.seen ≡ first.seen ++ more
  seen-mid =
      ap (λ (it : PassView). it.seen) takes.knows
      ∙ ap (λ it. (it ++ takes.between) ++ changes) has.seen
      ∙ ap (λ it. it ++ changes) (append_assoc first.seen has.more takes.between)
      ∙ append_assoc first.seen (has.more ++ takes.between) changes

  own-mid : made_by call.number more ≡ pending_at call phase ++ changes
  own-mid =
      made_by-append call.number (has.more ++ takes.between) changes
      ∙ ap (λ it. it ++ made_by call.number changes)
      (made_by-append call.number has.more takes.between)
      ∙ (λ i. (has.own i ++ takes.others i) ++ made-changes call phase (is_done read) i)
      ∙ ap (λ it. it ++ changes) (append-nil (pending_at call phase))

  reads-here : read ≡ seen_by s takes.core.shared call.server (action_of call.number phase)
  reads-here = takes.reads ∙ ap (λ (it : Settings).
      seen_by it takes.core.shared call.server (action_of call.number phase)) settings

  abbrev decision : Decision
  decision = next_of s call phase read

  adds : changes_in call.number (mine_after [] call decision at)
      ++ pending (decided_state call decision) ≡ pending_at call phase ++ changes
  adds =
      let sure =
      sure-at s op base owned call takes.core.shared read phase knows reads-here step.sure in
      let told = told-next s call [] at takes.core.shared phase has.planned sure in
      let P : Observed → Type 0 =
      λ it. changes_in call.number (mine_after [] call (next_of s call phase it) at)
      ++ pending (decided_state call (next_of s call phase it))
      ≡ pending_at call phase ++ changes_by call phase (is_done it) in
      subst P (sym reads-here) told

  mine-mid : mid.mine ≡ mine_after first.mine call decision at
  mine-mid =
      ap (λ (it : PassView). it.mine) takes.knows
      ∙ ap (λ it. mine_after now.mine call (next_of it call phase read) at) settings
      ∙ ap (λ it. mine_after it call decision at) has.mine

  planned-mid : IsPlanned s (decided_state call decision)
  planned-mid =
      let P : Observed → Type 0 =
      λ it. IsPlanned s (decided_state call (next_of s call phase it)) in
      subst P (sym reads-here) (plans-next s call takes.core.shared phase has.planned)

  abbrev last : List ServerState
  last = (shared_after s takes.core.shared call.server (action_of call.number phase)).servers

  seen-is : mid.seen ≡ (now.seen ++ takes.between) ++ changes
  seen-is = ap (λ (it : PassView). it.seen) takes.knows

  steps-is : mid.steps ≡ now.steps + 1
  steps-is = ap (λ (it : PassView). it.steps) takes.knows

  decided-is : mid.decided_at ≡ at
  decided-is = ap (λ (it : PassView). it.decided_at) takes.knows

  place-mid : PlaceAfter s call.number call.op call.server first.seen mid.seen at decision
  place-mid =
      let history = now.seen ++ takes.between in
      let core = takes.core in
      let found : Replays s history core.shared.servers =
      subst (λ it. Replays it history core.shared.servers) settings takes.found in
      let left : Replays s (history ++ changes) last = subst (λ it. Replays s it last) seen-is
      (subst (λ (it : Settings). Replays it mid.seen (shared_after it takes.core.shared
      call.server (action_of call.number phase)).servers) settings takes.left) in
      let sure = sure-at s op base owned call core.shared read phase knows reads-here step.sure in
      let P : Observed → Type 0 =
      λ it. Replays s (history ++ changes_by call phase (is_done it)) last
      → PlaceAfter s call.number call.op call.server first.seen
      (history ++ changes_by call phase (is_done it)) at (next_of s call phase it) in
      let next = place-next s first.seen has.more now.seen takes.between has.seen now.decided_at
      call core takes.is_found.is
      (takes.is_found.settings ∙ settings) found last phase has.place has.planned sure in
      subst (λ it. PlaceAfter s call.number call.op call.server first.seen it at decision)
      (sym seen-is)
      (subst P (sym reads-here) next left)

  at-once : mid.steps ≡ first.steps + 1 → at ≡ length mid.seen
  at-once e =
      ⊎_elim
      (λ (is : is_start phase ≡ true).
      let both = start-at-end call phase (is_done read) now.decided_at
      (length (now.seen ++ takes.between)) (now.seen ++ takes.between) is in
      both.0 ∙ sym (ap length (seen-is ∙ both.1)))
      (λ (is : is_start phase ≡ false). absurd (omega (arith, e, steps-is, has.later is)))
      (cases_Bool (is_start phase))

  alone-mid : s.threads ≡ 1 → SoloAfter s call.server first.seen mid.seen at decision
  alone-mid one =
      let core = takes.core in
      let found = takes.is_found in
      let its : core.settings ≡ s = found.settings ∙ settings in
      let single : core.settings.threads ≡ 1 = ap (λ (it : Settings). it.threads) its ∙ one in
      let P : ℕ → Type 0 = λ n. All (λ (change : Change). change.number < n) takes.between in
      let drawn = subst P (ap (λ (it : Settings). it.threads) settings ∙ one) takes.drawn in
      let none : takes.between ≡ [] = none-other call.number takes.between
      (subst (λ n. call.number < n) one within) drawn takes.others in
      let Q : List Change → Type 0 = λ it. Replays s (now.seen ++ it) core.shared.servers in
      let replays = subst Q none (subst (λ it.
      Replays it (now.seen ++ takes.between) core.shared.servers) settings takes.found) in
      let next = solo-next s first.seen now.seen now.decided_at call core found.thread found.is
      found.inside single its replays phase found.stands (has.alone one) in
      let R : List Change → Type 0 = λ it.
      SoloAfter s call.server first.seen ((now.seen ++ it) ++ changes_by call phase
      (is_done (seen_by s core.shared call.server (action_of call.number phase))))
      (decided_after phase now.decided_at (length (now.seen ++ it))) (next_of s call phase
      (seen_by s core.shared call.server (action_of call.number phase))) in
      let T : Observed → Type 0 =
      λ it. SoloAfter s call.server first.seen ((now.seen ++ takes.between)
      ++ changes_by call phase (is_done it)) at (next_of s call phase it) in
      subst (λ it. SoloAfter s call.server first.seen it at decision) (sym seen-is)
      (subst T (sym reads-here) (subst R (sym none) next))

  after-by : (it : Decision) → decision ≡ it → HasAddedAfter s first mid call it
  after-by (Goes lost next) is =
      let P : Decision → Type 0 = λ d. changes_in call.number (mine_after [] call d at)
      ++ pending (decided_state call d) ≡ pending_at call phase ++ changes in
      record {
        more = more;
        seen = seen-mid;
        own = own-mid ∙ sym (subst P is adds);
        mine = mine-mid ∙ ap (λ d. mine_after first.mine call d at) is;
        planned = subst (λ d. IsPlanned s (decided_state call d)) is planned-mid;
        place = subst (λ n. PlaceAt s call.number call.op call.server first.seen mid.seen n next)
            (sym decided-is)
            (subst (PlaceAfter s call.number call.op call.server first.seen mid.seen at)
            is place-mid);
        steps = omega (arith, has.steps, steps-is);
        later = λ e. omega (arith, has.steps, steps-is);
        alone = λ one.
            subst (λ n. SoloAt s call.server first.seen mid.seen n next) (sym decided-is)
            (subst (SoloAfter s call.server first.seen mid.seen at) is (alone-mid one));
      }
  after-by (Answers answer) is =
      let P : Decision → Type 0 = λ d. changes_in call.number (mine_after [] call d at)
      ++ pending (decided_state call d) ≡ pending_at call phase ++ changes in
      record {
        at = at;
        more = more;
        seen = seen-mid;
        own = own-mid ∙ sym (subst P is adds)
            ∙ append-nil (changes_in call.number (made_with call answer at ∷ []));
        mine = mine-mid ∙ ap (λ d. mine_after first.mine call d at) is;
        decided = subst (PlaceAfter s call.number call.op call.server first.seen mid.seen at)
            is place-mid;
        stepped = omega (arith, has.steps, steps-is);
        at_once = at-once;
        alone = λ one. subst (SoloAfter s call.server first.seen mid.seen at) is (alone-mid one);
      }

  pub added-next : HasAddedAfter s first mid call decision
  added-next = after-by decision refl
