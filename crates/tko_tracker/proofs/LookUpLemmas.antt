-- A look-up is answered by its first step.
use Rattle.std.proofs.Common.{◌≡◌, ◌∙◌, ℕ, true, eqb, List, refl, sym, ap}
use Rattle.std.proofs.lemmas.Bool.{cond_both, eqb-true}
use Rattle.tko_model.specs.declared.mark.Mark.{Mark}
use Rattle.tko_model.specs.declared.mark.Mark.TheVariants.{Up, Soft, Hard}
use Rattle.tko_model.specs.declared.mark.Op.TheVariants.{LookUp}
use Rattle.tko_model.specs.declared.mark.Reply.TheVariants.{Marked}
use Rattle.tko_model.specs.Settings.{Settings}
use Rattle.tko_model.specs.declared.state.ServerState.{ServerState}
use Rattle.tko_model.specs.Looks.{look_reply}
use Rattle.tko_model.specs.Ranges.{IsWithinRanges}
use Rattle.tko_model.specs.Tracker.{on_others, on_own_hard, on_own_soft, stays, transition}
use Rattle.tko_model.specs.declared.transition.Transition.{Transition}
use Rattle.tko_steps.specs.declared.phase.Phase.TheVariants.{Start}
use Rattle.tko_steps.specs.declared.table.Observed.{Observed}
use Rattle.tko_steps.specs.declared.table.Observed.TheVariants as seen
use Rattle.tko_steps.specs.Steps.{begun_by}
use Rattle.tko_steps.specs.Table.{next_of, sets_out}
use Rattle.tko_table.specs.declared.pass.PassView.{PassView}
use Rattle.tko_tracker.specs.Running.{CanCall, RanCall, TakesStep}
use Rattle.tko_tracker.proofs.RunLemmas.{begins}
use Rattle.tko_tracker.proofs.RunStepLemmas.{answers}

-- a look-up's first step answers it
look-stays : (s : Settings) (number stamp : ℕ) (mark : Mark)
    → transition s true number LookUp mark stamp ≡ stays (look_reply mark)
look-stays s number stamp (Up count) = refl
look-stays s number stamp (Soft owner) =
    cond_both (eqb owner number) (on_own_soft number LookUp) (on_others LookUp (Soft owner))
    (λ it. it ≡ stays (Marked (Soft owner)))
    (λ mine. ap (λ it. stays (Marked (Soft it))) (sym (eqb-true owner number mine)))
    (λ theirs. refl)
look-stays s number stamp (Hard owner) =
    cond_both (eqb owner number) (on_own_hard number LookUp) (on_others LookUp (Hard owner))
    (λ it. it ≡ stays (Marked (Hard owner)))
    (λ mine. ap (λ it. stays (Marked (Hard it))) (sym (eqb-true owner number mine)))
    (λ theirs. refl)

-- a look-up that took its one step
pub looked-up : (s : Settings) (ranges : IsWithinRanges s) (number server : ℕ)
    (before : List PassView) (found : ServerState) (read : Observed) (after : List PassView)
    → CanCall s number before → read ≡ seen.Server found
    → TakesStep s before (begun_by number LookUp server) Start read after
    → RanCall s number before LookUp server (look_reply found.mark) after
looked-up s ranges number server before found read after can is stepped =
    let call = begun_by number LookUp server in
    answers s ranges number LookUp server before call Start before
    (begins s number LookUp server before ranges can) read after stepped (look_reply found.mark)
    (ap (λ it. next_of s call Start it) is
    ∙ ap (λ (given : Transition). sets_out call found given.reply given.change)
    (look-stays s number found.stamp found.mark))
