-- The law of every run, from what the other lemmas say of every run.
use Rattle.std.proofs.Common.{subst}
use Rattle.std.proofs.lemmas.List.Elements.{All-weaker}
use Rattle.tko_model.specs.Settings.{Settings}
use Rattle.tko_steps.specs.Core.{abstract_of}
use Rattle.tko_steps.specs.Law.{AreSoundCalls, AreSoundSteps, IsSoundState}
use Rattle.tko_steps.specs.Legal.{ChangesAtMostOnce, IsFullAtLimit, IsLegal}
use Rattle.tko_steps.specs.Lost.{ExpectsWhatItSaw, HasLostEachTry}
use Rattle.tko_steps.specs.Runs.{InEveryRun, RunCall, calls_of, run}
use Rattle.tko_steps.specs.Safe.{AreWithinLimits}
use Rattle.tko_steps.proofs.ChainLemmas.{ChangesAreOwn-run, IsChain-run}
use Rattle.tko_steps.proofs.CostStepLemmas.{ShortCalls-run}
use Rattle.tko_steps.proofs.EveryCallLemmas.{softs_in-le}
use Rattle.tko_steps.proofs.EveryTurnLemmas.{SoundCalls-run}
use Rattle.tko_steps.proofs.KindLemmas.{HaveKinds-core, NoneIsLost-run}
use Rattle.tko_steps.proofs.LegalLemmas.{IsSoundCall}
use Rattle.tko_steps.proofs.LoserLemmas.{LosesToOthers-run}
use Rattle.tko_steps.proofs.LostLemmas.{IsTried}
use Rattle.tko_steps.proofs.NumberLemmas.{Numbers-run}
use Rattle.tko_steps.proofs.OtherLemmas.{TriedCalls-run}
use Rattle.tko_steps.proofs.OwnerTurnLemmas.{OwnersAnswers-run}
use Rattle.tko_steps.proofs.RunLemmas.{CountSlots-core, HasOneResponsible-core, Holds-run}
use Rattle.tko_steps.proofs.RunLemmas.{OwnsItsMarks-world}

pub AreSoundCalls-run : InEveryRun AreSoundCalls
AreSoundCalls-run s ranges turns =
    let calls = calls_of (run s turns).past in
    let sound = SoundCalls-run s ranges turns in
    let tried = (TriedCalls-run s ranges turns).1.calls in
    let Once : RunCall → Type 0 = λ call. ChangesAtMostOnce call.steps in
    let Expects : RunCall → Type 0 = λ call. ExpectsWhatItSaw s call.steps in
    record {
      legal = All-weaker (IsSoundCall s) (IsLegal s) (λ call one. one.legal) calls sound;
      once = All-weaker (IsSoundCall s) Once (λ call one. one.once) calls sound;
      full = All-weaker (IsSoundCall s) (IsFullAtLimit s) (λ call one. one.full) calls sound;
      owners = OwnersAnswers-run s ranges turns;
      numbers = Numbers-run s ranges turns;
      steps = ShortCalls-run s ranges turns;
      lost = All-weaker (IsTried s) (HasLostEachTry s) (λ call one. one.0) calls tried;
      expected = All-weaker (IsTried s) Expects (λ call one. one.1) calls tried;
    }

pub AreSoundSteps-run : InEveryRun AreSoundSteps
AreSoundSteps-run s ranges turns =
    record {
      kinds = HaveKinds-core (run s turns).core (Holds-run s ranges turns).core;
      sure = NoneIsLost-run s ranges turns;
      others = LosesToOthers-run s ranges turns;
      chain = IsChain-run s ranges turns;
      changes = ChangesAreOwn-run s ranges turns;
    }

pub IsSoundState-run : InEveryRun IsSoundState
IsSoundState-run s ranges turns =
    let w = run s turns in
    let holds = Holds-run s ranges turns in
    let P : Settings → Type 0 = λ it. AreWithinLimits it (abstract_of w.core) in
    record {
      responsible = HasOneResponsible-core w.core holds.core;
      limit = subst P holds.settings (λ group below. softs_in-le w.core group holds.core below);
      settings = holds.settings;
      core = holds.core;
      slots = CountSlots-core w.core holds.core;
      owned = OwnsItsMarks-world w holds.owned;
      distinct = holds.core.numbers;
    }
