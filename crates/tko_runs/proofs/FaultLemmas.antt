-- A run that is legal is not refused.
use Rattle.std.proofs.Common.{◌≡◌, ℕ, List, [], ◌∷◌, ◌++◌, All, refl, subst}
use Rattle.std.proofs.lemmas.List.Elements.{All-head, All-tail}
use Rattle.tko_model.specs.Settings.{Settings}
use Rattle.tko_runs.specs.declared.run.event.Event.{Event}
use Rattle.tko_runs.specs.declared.checking.RunFault.{RunFault}
use Rattle.tko_runs.specs.declared.checking.RunFault.TheVariants as fault
use Rattle.tko_runs.specs.States.{Claimed, calls_in, claimed, claimed_after, claimed_after_all, opened_claim, opened_state}
use Rattle.tko_runs.specs.Orders.{AllFollow, Follows, IsFirstIllegal, IsFirstStray, IsLegalRun, IsRunFault}
use Rattle.tko_runs.specs.Runs.{RunData}
use Rattle.tko_steps.specs.Legal.{IsLegal}
use Rattle.tko_steps.specs.Runs.{RunCall}

-- in events that all follow, each follows where it stands
follows_at : (s : Settings) (claim : Claimed) (before : List Event) (event : Event) (after : List Event)
    → AllFollow s claim.state (before ++ event ∷ after) → Follows s (claimed_after_all claim before).state event
follows_at s claim [] event after follow = follow.0
follows_at s claim (first ∷ before) event after follow = follows_at s (claimed_after claim first) before event after follow.1

no_stray : (s : Settings) (events : List Event) (number : ℕ) → AllFollow s (opened_state s) events
    → IsFirstStray s events number → ⊥
unfolding claimed
no_stray s events number follow is =
    let P : List Event → Type 0 = λ all. AllFollow s (opened_state s) all in
    is.strays (follows_at s (opened_claim s) is.before is.stray is.after (subst P is.split follow))

legal_at : (s : Settings) (before : List RunCall) (call : RunCall) (after : List RunCall)
    → All (IsLegal s) (before ++ call ∷ after) → IsLegal s call
legal_at s [] call after all = All-head (IsLegal s) call after all
legal_at s (first ∷ before) call after all =
    legal_at s before call after (All-tail (IsLegal s) first (before ++ call ∷ after) all)

no_illegal : (s : Settings) (calls : List RunCall) (number : ℕ) → All (IsLegal s) calls → IsFirstIllegal s calls number → ⊥
no_illegal s calls number all is =
    let P : List RunCall → Type 0 = λ every. All (IsLegal s) every in
    is.not_legal (legal_at s is.before is.illegal is.after (subst P is.split all))

pub memory_alone : (run : RunData) (told : RunFault) → IsLegalRun run → IsRunFault run told → told ≡ fault.Memory
memory_alone run (fault.Step number) legal tells = absurd (no_stray run.settings run.events number legal.follow tells)
memory_alone run (fault.Call number) legal tells =
    absurd (no_illegal run.settings (calls_in run.settings run.events) number legal.legal tells.1)
memory_alone run fault.Memory legal tells = refl
