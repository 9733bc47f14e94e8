-- Events that are claimed, one more at the end.
use Rattle.std.proofs.Common.{◌≡◌, ◌+◌, ◌≤◌, Bool, true, false, cond, List, [], ◌∷◌, ◌++◌, length, refl, arith}
use Rattle.tko_model.specs.Settings.{Settings}
use Rattle.tko_runs.specs.declared.run.event.Event.{Event}
use Rattle.tko_runs.specs.declared.run.event.Event.TheVariants.{Begin, Step}
use Rattle.tko_runs.specs.States.{Claimed, claimed, claimed_after, claimed_after_all, opened_claim, opened_state}
use Rattle.tko_runs.specs.Orders.{AllFollow, Follows}
use Rattle.tko_steps.specs.Core.{is_call_step}
use Rattle.tko_steps.specs.Runs.{steps_in}

pub claimed_after_all-push : (claim : Claimed) (events : List Event) (event : Event)
    → claimed_after_all claim (events ++ event ∷ []) ≡ claimed_after (claimed_after_all claim events) event
claimed_after_all-push claim [] event = refl
claimed_after_all-push claim (first ∷ events) event = claimed_after_all-push (claimed_after claim first) events event

pub claimed-push : (s : Settings) (events : List Event) (event : Event)
    → claimed s (events ++ event ∷ []) ≡ claimed_after (claimed s events) event
unfolding claimed
claimed-push s events event = claimed_after_all-push (opened_claim s) events event

pub AllFollow-push : (s : Settings) (claim : Claimed) (events : List Event) (event : Event) → AllFollow s claim.state events
    → Follows s (claimed_after_all claim events).state event → AllFollow s claim.state (events ++ event ∷ [])
AllFollow-push s claim [] event all next = (next, tt)
AllFollow-push s claim (first ∷ events) event all next =
    (all.0, AllFollow-push s (claimed_after claim first) events event all.1 next)

pub AllFollow-claimed_push : (s : Settings) (events : List Event) (event : Event) → AllFollow s (opened_state s) events
    → Follows s (claimed s events).state event → AllFollow s (opened_state s) (events ++ event ∷ [])
unfolding claimed
AllFollow-claimed_push s events event all next = AllFollow-push s (opened_claim s) events event all next

-- an event is at most one step of a call
pub count_of-le : (test : Bool) → cond test 1 0 ≤ 1
count_of-le true = omega arith
count_of-le false = omega arith

steps_in-le : (claim : Claimed) (events : List Event)
    → steps_in (claimed_after_all claim events).past ≤ steps_in claim.past + length events
steps_in-le claim [] = omega arith
steps_in-le claim (Begin thread op server ∷ events) =
    omega (arith, steps_in-le (claimed_after claim (Begin thread op server)) events)
steps_in-le claim (Step thread kind at found left answer ∷ events) =
    omega (arith, count_of-le (is_call_step kind), steps_in-le (claimed_after claim (Step thread kind at found left answer)) events)

pub steps_in-claimed : (s : Settings) (events : List Event) → steps_in (claimed s events).past ≤ length events
unfolding claimed
steps_in-claimed s events = omega (arith, steps_in-le (opened_claim s) events)
