-- One thread alone, its runs: its calls are those of the sequential tracker, one after another.
use Rattle.std.proofs.Common.{◌≡◌, ℕ, ◌<◌, false, List, ◌∷◌, length, get_or, set, All, None, inl, inr, ⊎_elim, refl, sym, ap, ◌∙◌, subst, get_or-set_same, get_or-set_other}
use Rattle.std.proofs.lemmas.Bool.{cases_eq}
use Rattle.std.proofs.lemmas.List.Elements.{All-nil, All-cons, All-head, All-tail}
use Rattle.tko_model.specs.declared.mark.Op.{Op}
use Rattle.tko_model.specs.Settings.{Settings}
use Rattle.tko_model.specs.declared.state.ServerState.{ServerState}
use Rattle.tko_model.specs.Tracker.{opened, server_at}
use Rattle.tko_steps.specs.declared.phase.Call.{Call as CallState}
use Rattle.tko_steps.specs.declared.phase.Phase.{Phase}
use Rattle.tko_steps.specs.declared.phase.Phase.TheVariants.{Start}
use Rattle.tko_steps.specs.declared.phase.Slots.{Slots}
use Rattle.tko_steps.specs.declared.phase.ThreadState.{ThreadState}
use Rattle.tko_steps.specs.declared.phase.ThreadState.TheVariants.{NotEnrolled, Idle, InCall}
use Rattle.tko_steps.specs.Runs.{InEveryRun, RunCall, Moment, OwnStep, Took, World, and_step, began, begun_call, calls_of, own_step, run, start_world, with_step}
use Rattle.tko_steps.specs.Alone.{InEveryRunAlone, IsIdleUnlessOf, IsStepOf, ReplaysCalls}
use Rattle.tko_steps.specs.Core.{abstract_of, after_act, follows, thread_at, slots_at}
use Rattle.tko_steps.specs.Steps.{begun_by, decided_state}
use Rattle.tko_steps.specs.Invariant.{holds}
use Rattle.tko_steps.specs.Legal.{tracker_in}
use Rattle.tko_steps.specs.Table.{action_of}
use Rattle.tko_steps.proofs.CountLemmas.{get_or-replicate_same}
use Rattle.tko_steps.proofs.AloneLemmas.{IsNotContended, Plays, Plays-with_step, Replays-plays}
use Rattle.tko_steps.proofs.CallLemmas.{All-with_step, latest, with_step-none}
use Rattle.tko_steps.proofs.EveryTurnLemmas.{HoldsBoth, HoldsBoth-run, along}
use Rattle.tko_steps.proofs.LegalLemmas.{IsSoundCall, open_call}
use Rattle.tko_steps.proofs.OwnLemmas.{act_step, enrol_step}
use Rattle.tko_steps.proofs.WiringLemmas.{begun, stepped_from}
use Rattle.tko_model.specs.Groups.{group_of}
use Rattle.tko_steps.proofs.SoloLemmas.{IsSteady, NoOtherHolds, SteadyAt, act-is_call_step, steady-act, steady-plain, steady-state}

-- ---- the world

-- what holds of the world in each run of this thread alone
pub record HoldsAlone (s : Settings) (thread : ℕ) (w : World) : Type 0 where
  pub calls : All (IsIdleUnlessOf thread) (calls_of w.past)
  pub plain : All IsNotContended (calls_of w.past)
  pub plays : Plays s (opened s).servers thread (calls_of w.past) (abstract_of w.core)
  pub others : NoOtherHolds w.core thread
  pub steady : IsSteady w.core.settings (abstract_of w.core) w.core.shared.slots (thread_at w.core thread)

HoldsAlone-start : (s : Settings) (thread : ℕ) → HoldsAlone s thread (start_world s)
HoldsAlone-start s thread =
    record {
      calls = All-nil (IsIdleUnlessOf thread);
      plain = All-nil IsNotContended;
      plays = refl;
      others = λ other apart. ap holds (get_or-replicate_same s.threads other NotEnrolled);
      steady = let P : ThreadState → Type 0 = λ it. IsSteady s (opened s).servers (start_world s).core.shared.slots it in
          subst P (sym (get_or-replicate_same s.threads thread NotEnrolled)) tt;
    }

-- one thread has another state, that holds no slot
others-set : (threads : List ThreadState) (thread own : ℕ) (new : ThreadState) → own < length threads → holds new ≡ false
    → ((other : ℕ) → (other ≡ thread → ⊥) → holds (get_or threads other NotEnrolled) ≡ false)
    → (other : ℕ) → (other ≡ thread → ⊥) → holds (get_or (set threads own new) other NotEnrolled) ≡ false
others-set threads thread own new inside none others other apart =
    ⊎_elim
    (λ (here : other ≡ own). rw (here, get_or-set_same threads own new NotEnrolled inside) none)
    (λ (there : other ≡ own → ⊥). ap holds (get_or-set_other threads own other new NotEnrolled there) ∙ others other apart)
    (cases_eq other own)

-- the state of a thread that begins or enrols knows nothing of the words
steady-set : (s : Settings) (servers : List ServerState) (slots : List Slots) (threads : List ThreadState) (thread own : ℕ) (new : ThreadState) → own < length threads
    → IsSteady s servers slots new → IsSteady s servers slots (get_or threads thread NotEnrolled)
    → IsSteady s servers slots (get_or (set threads own new) thread NotEnrolled)
steady-set s servers slots threads thread own new inside fresh steady =
    let P : ThreadState → Type 0 = IsSteady s servers slots in
    ⊎_elim
    (λ (here : thread ≡ own).
    let now : get_or (set threads own new) thread NotEnrolled ≡ new = rw (here, get_or-set_same threads own new NotEnrolled inside) refl in
    subst P (sym now) fresh)
    (λ (there : thread ≡ own → ⊥). subst P (sym (get_or-set_other threads own thread new NotEnrolled there)) steady)
    (cases_eq thread own)

HoldsAlone-begun : (s : Settings) (w : World) (thread own number : ℕ) (op : Op) (server : ℕ) → HoldsBoth s w → HoldsAlone s thread w
    → own < length w.core.threads → thread_at w.core own ≡ Idle number → HoldsAlone s thread (begun w own op server)
HoldsAlone-begun s w thread own number op server both kept inside stands =
    let call : RunCall = begun_call own number op server in
    let new : ThreadState = InCall (begun_by number op server) Start in
    let calls = calls_of w.past in
    let first = (opened s).servers in
    let servers = abstract_of w.core in
    let after = begun w own op server in
    let is_call : calls_of after.past ≡ call ∷ calls = rw stands refl in
    let is_set : after.core.threads ≡ set w.core.threads own new = rw stands refl in
    let I : List RunCall → Type 0 = λ all. All (IsIdleUnlessOf thread) all in
    let N : List RunCall → Type 0 = λ all. All IsNotContended all in
    let L : List RunCall → Type 0 = λ all. Plays s first thread all servers in
    let O : List ThreadState → Type 0 = λ all. (other : ℕ) → (other ≡ thread → ⊥) → holds (get_or all other NotEnrolled) ≡ false in
    let S : List ThreadState → Type 0 = λ all. IsSteady w.core.settings servers w.core.shared.slots (get_or all thread NotEnrolled) in
    let plays : Plays s first thread (call ∷ calls) servers =
    ⊎_elim
    (λ (mine : own ≡ thread).
    let sound : All (IsSoundCall s) calls = both.1.calls in
    inr (record {
      mine = mine;
      entry = servers;
      replayed = Replays-plays s first thread calls servers sound kept.plain kept.plays;
      chain = refl;
    }))
    (λ (other : own ≡ thread → ⊥). inl (record { other = other; steps = refl; answer = refl }, kept.plays))
    (cases_eq own thread) in
    record {
      calls = subst I (sym is_call) (All-cons (IsIdleUnlessOf thread) call calls (λ apart. (refl, refl)) kept.calls);
      plain = subst N (sym is_call) (All-cons IsNotContended call calls (λ e. cc) kept.plain);
      plays = subst L (sym is_call) plays;
      others = subst O (sym is_set) (others-set w.core.threads thread own new inside refl kept.others);
      steady = subst S (sym is_set) (steady-set w.core.settings servers w.core.shared.slots w.core.threads thread own new inside tt kept.steady);
    }

HoldsAlone-enrolled : (s : Settings) (w : World) (thread own : ℕ) → HoldsBoth s w → HoldsAlone s thread w → own < length w.core.threads
    → thread_at w.core own ≡ NotEnrolled → HoldsAlone s thread (stepped_from w own NotEnrolled)
HoldsAlone-enrolled s w thread own both kept inside stands =
    let calls = calls_of w.past in
    let step : OwnStep = own_step (enrol_step w.core own) w.past in
    let none : latest own calls ≡ None = rw stands at (both.1.stand own) in
    let same : with_step step calls ≡ calls = with_step-none step calls none in
    let I : List RunCall → Type 0 = λ all. All (IsIdleUnlessOf thread) all in
    let N : List RunCall → Type 0 = λ all. All IsNotContended all in
    let L : List RunCall → Type 0 = λ all. Plays s (opened s).servers thread all (abstract_of w.core) in
    record {
      calls = subst I (sym same) kept.calls;
      plain = subst N (sym same) kept.plain;
      plays = subst L (sym same) kept.plays;
      others = others-set w.core.threads thread own (Idle w.core.shared.enrolled) inside refl kept.others;
      steady = steady-set w.core.settings (abstract_of w.core) w.core.shared.slots w.core.threads thread own (Idle w.core.shared.enrolled) inside tt kept.steady;
    }

HoldsAlone-act : (s : Settings) (w : World) (thread : ℕ) (call : CallState) (phase : Phase) → HoldsBoth s w → HoldsAlone s thread w
    → thread < length w.core.threads → thread_at w.core thread ≡ InCall call phase
    → HoldsAlone s thread (stepped_from w thread (InCall call phase))
HoldsAlone-act s w thread call phase both kept inside stands =
    let calls = calls_of w.past in
    let own : OwnStep = own_step (act_step w.core thread call phase) w.past in
    let decision = follows w.core call phase in
    let new = after_act w.core thread call phase in
    let mine = rw stands at (both.1.stand thread) in
    let open_one = open_call thread call mine.0 in
    let knows : SteadyAt (server_at (abstract_of w.core) call.server) (slots_at w.core.shared.slots (group_of w.core.settings call.server)) phase =
    (let P : ThreadState → Type 0 = IsSteady w.core.settings (abstract_of w.core) w.core.shared.slots in subst P stands kept.steady) in
    let next = steady-act w.core thread call both.0.core kept.others phase stands knows in
    let S : ThreadState → Type 0 = IsSteady w.core.settings (abstract_of new) new.shared.slots in
    let now : get_or new.threads thread NotEnrolled ≡ decided_state call decision =
    get_or-set_same w.core.threads thread (decided_state call decision) NotEnrolled inside in
    record {
      calls = All-with_step (IsIdleUnlessOf thread) own calls kept.calls
          (λ it found. let same : open_one ≡ it = cc (found, mine.1) in
          let Q : RunCall → Type 0 = λ at. IsIdleUnlessOf thread (and_step at own) in
          subst Q same (λ apart. absurd (apart refl)));
      plain = All-with_step IsNotContended own calls kept.plain
          (λ it found. steady-plain w.core.settings call (abstract_of new) new.shared.slots decision next);
      plays = Plays-with_step s (opened s).servers thread own open_one calls (abstract_of w.core) refl refl mine.1 kept.plays;
      others = λ other apart.
          ap holds (get_or-set_other w.core.threads thread other (decided_state call decision) NotEnrolled apart) ∙ kept.others other apart;
      steady = subst S (sym now) (steady-state w.core.settings call (abstract_of new) new.shared.slots decision next);
    }

-- the same, where no other thread took a step of a call up to now
abbrev Alone : ℕ → Settings → World → Type 0
Alone thread s w = All (IsStepOf thread) w.past → HoldsAlone s thread w

alone-act : (thread : ℕ) (s : Settings) (w : World) (own : ℕ) (call : CallState) (phase : Phase) → HoldsBoth s w → own < length w.core.threads
    → thread_at w.core own ≡ InCall call phase → Alone thread s w → Alone thread s (stepped_from w own (InCall call phase))
alone-act thread s w own call phase both inside stands alone all =
    let moment : Moment = Took (act_step w.core own call phase) in
    let same : own ≡ thread = All-head (IsStepOf thread) moment w.past all (act-is_call_step (action_of call.number phase)) in
    let P : ℕ → Type 0 = λ it. HoldsAlone s it (stepped_from w own (InCall call phase)) in
    let Q : ℕ → Type 0 = λ it. HoldsAlone s it w in
    let holds = alone (All-tail (IsStepOf thread) moment w.past all) in
    subst P same (HoldsAlone-act s w own call phase both (subst Q (sym same) holds) inside stands)

Alone-run : (thread : ℕ) → InEveryRun (Alone thread)
Alone-run thread =
    along (Alone thread)
    (λ s ranges none. HoldsAlone-start s thread)
    (λ s w own number op server both inside stands on_server alone all.
    HoldsAlone-begun s w thread own number op server both (alone (All-tail (IsStepOf thread) (began w.core own op server) w.past all)) inside stands)
    (λ s w own both inside stands alone all.
    HoldsAlone-enrolled s w thread own both (alone (All-tail (IsStepOf thread) (Took (enrol_step w.core own)) w.past all)) inside stands)
    (alone-act thread)

pub HoldsAlone-run : InEveryRunAlone (λ s thread w. HoldsBoth s w × HoldsAlone s thread w)
HoldsAlone-run s ranges thread turns all = (HoldsBoth-run s ranges turns, Alone-run thread s ranges turns all)

pub Replays-run : InEveryRunAlone (λ s thread w. ReplaysCalls (opened s) (calls_of w.past) (tracker_in s (abstract_of w.core)))
Replays-run s ranges thread turns all =
    let w = run s turns in
    let both = HoldsAlone-run s ranges thread turns all in
    Replays-plays s (opened s).servers thread (calls_of w.past) (abstract_of w.core) both.0.1.calls both.1.plain both.1.plays
