-- The check of a run: its events go in one after another, and then its calls are judged.
use Rattle.std.proofs.Common.{◌≡◌, ℕ, suc, ◌+◌, ◌<◌, ◌≤◌, List, [], ◌∷◌, ◌++◌, length, get_or, drop, reverse, refl, sym, ap, ◌∙◌, subst, arith, append_assoc, append-nil, length-append, add-one}
use Rattle.std.proofs.lemmas.List.{drop_all, reverse-reverse}
use Rattle.std.proofs.Math.Seq.{drop-cons}
use Rattle.tko_model.specs.declared.mark.Op.TheVariants.{LookUp}
use Rattle.tko_model.specs.Settings.{Settings}
use Rattle.tko_runs.specs.declared.checking.RunFault.{RunFault}
use Rattle.tko_runs.specs.declared.checking.RunFault.TheVariants as fault
use Rattle.tko_runs.specs.declared.checking.state.CheckState.{CheckState}
use Rattle.tko_runs.specs.declared.run.event.Event.{Event}
use Rattle.tko_runs.specs.declared.run.event.Event.TheVariants.{Begin}
use Rattle.tko_runs.specs.declared.checking.order.Point.{Point}
use Rattle.tko_runs.specs.States.{AllCome, Claimed, IsRunData, RunState, calls_in, claimed, moment_of, opened_state, state_after}
use Rattle.tko_runs.specs.CheckStates.{AreIn, AreJudged, AreKept, HasEntered, IsCheckOf, IsCheckOpened, IsIllegalFault, IsRefusalFault}
use Rattle.tko_runs.specs.Orders.{AllFollow, Follows, IsLegalRun, IsOrder, IsRunFault}
use Rattle.tko_runs.specs.Runs.{RunData}
use Rattle.tko_steps.specs.Runs.{calls_of}
use Rattle.tko_runs.proofs.CallListLemmas.{AreKept-reverse}
use Rattle.tko_runs.proofs.EventLemmas.{AllFollow-claimed_push, claimed-push, steps_in-claimed}

-- The loop over the events.

pub AreIn-opened : (run : RunData) (d : CheckState) → IsRunData run → IsCheckOpened run.settings d
    → AreIn run.settings run.events run.events d
unfolding claimed
AreIn-opened run d is opened =
    let P : RunState → Type 0 = λ state. AllCome state run.events in
    record {
      before = [];
      split = refl;
      settings = opened.settings;
      run = opened.run;
      stands = opened.stands;
      follow = tt;
      come = subst P (sym opened.run) is.events;
    }

pub AreIn-room : (s : Settings) (events rest : List Event) (event : Event) (d : CheckState) → AreIn s events (event ∷ rest) d
    → d.steps < length events
AreIn-room s events rest event d are =
    omega (arith, are.stands.steps, steps_in-claimed s are.before, ap length are.split, length-append are.before (event ∷ rest))

pub AreIn-next : (s : Settings) (events rest : List Event) (event : Event) (d new : CheckState) → AreIn s events (event ∷ rest) d
    → HasEntered d event new → AreIn s events rest new
AreIn-next s events rest event d new are entered =
    let claim = claimed s are.before in
    let push = sym (claimed-push s are.before event) in
    let M : RunState → Type 0 = λ state. IsCheckOf (moment_of state event ∷ claim.past) new in
    let P : Claimed → Type 0 = λ it. IsCheckOf it.past new in
    let Q : RunState → Type 0 = λ state. AllCome state rest in
    let F : Settings → Type 0 = λ settings. Follows settings d.run event in
    let G : RunState → Type 0 = λ state. Follows s state event in
    record {
      before = are.before ++ event ∷ [];
      split = are.split ∙ sym (append_assoc are.before (event ∷ []) rest);
      settings = entered.settings ∙ are.settings;
      run = entered.run ∙ ap (λ state. state_after state event) are.run ∙ ap (λ (it : Claimed). it.state) push;
      stands = subst P push (subst M are.run (entered.stands claim.past are.stands));
      follow = AllFollow-claimed_push s are.before event are.follow (subst G are.run (subst F are.settings entered.follows));
      come = subst Q (sym entered.run) are.come.1;
    }

-- an event that doesn't follow is the first stray one
pub IsRunFault-strays : (run : RunData) (rest : List Event) (event : Event) (d : CheckState) (told : RunFault)
    → AreIn run.settings run.events (event ∷ rest) d → IsRefusalFault d event told → IsRunFault run told
IsRunFault-strays run rest event d (fault.Step number) are refused =
    let F : Settings → Type 0 = λ settings. Follows settings d.run event → ⊥ in
    let G : RunState → Type 0 = λ state. Follows run.settings state event → ⊥ in
    record {
      before = are.before;
      stray = event;
      after = rest;
      split = are.split;
      place = refused.0 ∙ ap (λ n. n + 1) are.stands.steps;
      others = are.follow;
      strays = subst G are.run (subst F are.settings refused.1);
    }
IsRunFault-strays run rest event d (fault.Call number) are refused = absurd refused
IsRunFault-strays run rest event d fault.Memory are refused = tt

-- Once all are in.

all_in : (events before : List Event) → events ≡ before ++ [] → before ≡ events
all_in events before split = sym (append-nil before) ∙ sym split

AllFollow-in : (s : Settings) (events : List Event) (d : CheckState) → AreIn s events [] d → AllFollow s (opened_state s) events
AllFollow-in s events d are =
    let P : List Event → Type 0 = λ list. AllFollow s (opened_state s) list in
    subst P (all_in events are.before are.split) are.follow

AreKept-in : (s : Settings) (events : List Event) (d : CheckState) → AreIn s events [] d
    → AreKept s (calls_in s events) d.calls.all.items
unfolding calls_in
AreKept-in s events d are =
    let kept = d.calls.all.items in
    let P : List Event → Type 0 = λ list. AreKept s (reverse (calls_of (claimed s list).past)) kept in
    let K : Settings → Type 0 = λ settings. AreKept settings (calls_of (claimed s are.before).past) (reverse kept) in
    let all = AreKept-reverse s (calls_of (claimed s are.before).past) (reverse kept) (subst K are.settings are.stands.calls.kept) in
    subst P (all_in events are.before are.split) (rw (reverse-reverse kept) at all)

pub IsOrder-in : (s : Settings) (events : List Event) (d : CheckState) (points : List Point) → AreIn s events [] d
    → AreJudged d.calls.all.items points → IsOrder s (calls_in s events) points
IsOrder-in s events d points are judged = judged.order s (calls_in s events) (AreKept-in s events d are)

pub IsLegalRun-in : (run : RunData) (d : CheckState) (points : List Point) → AreIn run.settings run.events [] d
    → AreJudged d.calls.all.items points → IsLegalRun run
IsLegalRun-in run d points are judged =
    record {
      follow = AllFollow-in run.settings run.events d are;
      legal = judged.legal run.settings (calls_in run.settings run.events) (AreKept-in run.settings run.events d are);
    }

pub IsRunFault-illegal : (run : RunData) (d : CheckState) (told : RunFault) → AreIn run.settings run.events [] d
    → IsIllegalFault d.calls.all.items told → IsRunFault run told
IsRunFault-illegal run d (fault.Step number) are illegal = absurd illegal
IsRunFault-illegal run d (fault.Call number) are illegal =
    (AllFollow-in run.settings run.events d are, illegal.first run.settings (calls_in run.settings run.events) (AreKept-in run.settings run.events d are))
IsRunFault-illegal run d fault.Memory are illegal = tt

-- at the place of the loop

AreIn-at : (s : Settings) (events : List Event) (i : ℕ) (none : Event) (d : CheckState) → i < length events
    → AreIn s events (drop i events) d → AreIn s events (get_or events i none ∷ drop (suc i) events) d
AreIn-at s events i none d inside are =
    let P : List Event → Type 0 = λ rest. AreIn s events rest d in
    subst P (drop-cons events i none inside) are

pub AreIn-room_at : (s : Settings) (events : List Event) (i : ℕ) (d : CheckState) → i < length events
    → AreIn s events (drop i events) d → d.steps < length events
AreIn-room_at s events i d inside are =
    let none : Event = Begin 0 LookUp 0 in
    AreIn-room s events (drop (suc i) events) (get_or events i none) d (AreIn-at s events i none d inside are)

pub AreIn-step : (s : Settings) (events : List Event) (i : ℕ) (none : Event) (d new : CheckState) → i < length events
    → AreIn s events (drop i events) d → HasEntered d (get_or events i none) new → AreIn s events (drop (i + 1) events) new
AreIn-step s events i none d new inside are entered =
    rw add-one
    (AreIn-next s events (drop (suc i) events) (get_or events i none) d new (AreIn-at s events i none d inside are) entered)

pub IsRunFault-step : (run : RunData) (i : ℕ) (none : Event) (d : CheckState) (told : RunFault) → i < length run.events
    → AreIn run.settings run.events (drop i run.events) d → IsRefusalFault d (get_or run.events i none) told
    → IsRunFault run told
IsRunFault-step run i none d told inside are refused =
    IsRunFault-strays run (drop (suc i) run.events) (get_or run.events i none) d told
    (AreIn-at run.settings run.events i none d inside are) refused

pub AreIn-end : (s : Settings) (events : List Event) (i : ℕ) (d : CheckState) → length events ≤ i
    → AreIn s events (drop i events) d → AreIn s events [] d
AreIn-end s events i d past are =
    let P : List Event → Type 0 = λ rest. AreIn s events rest d in
    subst P (drop_all i events past) are
