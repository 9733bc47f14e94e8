-- What each phase says of the steps that its call took so far, and what an answer then makes of the call.
use Rattle.std.proofs.Common.{◌≡◌, ℕ, ◌+◌, ◌<◌, ◌≤◌, ◌⊎◌, false, cond, eqb, List, [], ◌∷◌, ◌++◌, set, All, inl, inr, ⊎_elim, refl, sym, ap, ◌∙◌, subst, arith}
use Rattle.std.proofs.lemmas.Bool.{cond_both, le-ltb}
use Rattle.std.proofs.lemmas.List.Elements.{All-cons}
use Rattle.tko_model.specs.declared.mark.Mark.{Mark}
use Rattle.tko_model.specs.declared.mark.Mark.TheVariants.{Soft}
use Rattle.tko_model.specs.declared.mark.Reply.{Reply}
use Rattle.tko_model.specs.declared.mark.Reply.TheVariants.{Contended, Full, TookSoft}
use Rattle.tko_model.specs.Settings.{Settings}
use Rattle.tko_model.specs.declared.state.ServerState.{ServerState}
use Rattle.tko_model.specs.Groups.{limit_at}
use Rattle.tko_model.specs.Tracker.{becomes, has_room, server_at, softs_beside, stays, transition}
use Rattle.tko_steps.specs.declared.phase.Call.{Call as CallState}
use Rattle.tko_steps.specs.declared.phase.Phase.{Phase}
use Rattle.tko_steps.specs.declared.phase.Phase.TheVariants.{Start, Read, AtThreshold, Limit, Reserving, Holding, Firming, Losing, Loosening, Loosened, Emptied}
use Rattle.tko_steps.specs.declared.table.Decision.{Decision}
use Rattle.tko_steps.specs.declared.table.Decision.TheVariants.{Goes, Answers}
use Rattle.tko_steps.specs.Steps.{begun_by, decided_answer}
use Rattle.tko_steps.specs.Legal.{ChangesNothing}
use Rattle.tko_steps.specs.Runs.{OwnStep, RunCall, StepTaken, and_step}
use Rattle.tko_steps.specs.Table.{from_start, goes, lost_try}
use Rattle.tko_steps.proofs.StartLemmas.{Decides, Marks, from_start-is}
use Rattle.tko_steps.proofs.LegalLemmas.{IsDone, IsSoundCall, done-here, effect-becomes, effect-stays, open_call, sound-answered, sound-contended, sound-done, sound-quiet}

-- ---- what each phase knows of the steps so far

-- the same word, or one with an older stamp
abbrev pub IsNotNewer : ServerState → ServerState → Type 0
IsNotNewer one other = (one ≡ other) ⊎ (one.stamp < other.stamp)

-- an own step before which as many marks were soft as may be, where the server's word was no older than this one
pub record SawLimit (s : Settings) (server : ℕ) (found now : ServerState) (steps : List OwnStep) : Type 0 where
  pub own : OwnStep
  pub newer : List OwnStep
  pub older : List OwnStep
  pub among : steps ≡ newer ++ own ∷ older
  pub others : All ChangesNothing (newer ++ older)
  pub quiet : ChangesNothing own
  pub limit : softs_beside s server own.step.before ≡ limit_at s server
  pub after_found : IsNotNewer found (server_at own.step.before server)
  pub before_now : IsNotNewer (server_at own.step.before server) now

abbrev KnowsAt : Settings → ℕ → CallState → List OwnStep → ServerState → Phase → Type 0
KnowsAt s thread call steps now Start = All ChangesNothing steps
KnowsAt s thread call steps now (Read found mark answer) =
    All ChangesNothing steps × Decides s call.number call.op found (becomes mark answer)
KnowsAt s thread call steps now (AtThreshold found) =
    All ChangesNothing steps × Marks s call.number call.op found × IsNotNewer found now
KnowsAt s thread call steps now (Limit found) =
    All ChangesNothing steps × Marks s call.number call.op found × SawLimit s call.server found now steps
KnowsAt s thread call steps now (Reserving found slots) = All ChangesNothing steps × Marks s call.number call.op found
KnowsAt s thread call steps now (Holding found) = All ChangesNothing steps × Marks s call.number call.op found
KnowsAt s thread call steps now Firming = IsDone s (open_call thread call steps) TookSoft
KnowsAt s thread call steps now Losing = All ChangesNothing steps
KnowsAt s thread call steps now (Loosening found mark answer) =
    All ChangesNothing steps × Decides s call.number call.op found (becomes mark answer)
KnowsAt s thread call steps now (Loosened found mark answer) =
    All ChangesNothing steps × Decides s call.number call.op found (becomes mark answer)
KnowsAt s thread call steps now (Emptied answer) = IsDone s (open_call thread call steps) answer

-- lost tries are no matter of it
abbrev pub Knows : Settings → ℕ → CallState → List OwnStep → ServerState → Phase → Type 0
Knows s thread call steps now phase = KnowsAt s thread (begun_by call.number call.op call.server) steps now phase

-- an open call at any phase is sound
pub sound-open : (s : Settings) (thread : ℕ) (call : CallState) (steps : List OwnStep) (now : ServerState) (phase : Phase)
    → Knows s thread call steps now phase → IsSoundCall s (open_call thread call steps)
sound-open s thread call steps now Start knows = sound-quiet s (open_call thread call steps) refl knows
sound-open s thread call steps now (Read found mark answer) knows = sound-quiet s (open_call thread call steps) refl knows.0
sound-open s thread call steps now (AtThreshold found) knows = sound-quiet s (open_call thread call steps) refl knows.0
sound-open s thread call steps now (Limit found) knows = sound-quiet s (open_call thread call steps) refl knows.0
sound-open s thread call steps now (Reserving found slots) knows = sound-quiet s (open_call thread call steps) refl knows.0
sound-open s thread call steps now (Holding found) knows = sound-quiet s (open_call thread call steps) refl knows.0
sound-open s thread call steps now Firming knows = sound-done s (open_call thread call steps) TookSoft refl knows
sound-open s thread call steps now Losing knows = sound-quiet s (open_call thread call steps) refl knows
sound-open s thread call steps now (Loosening found mark answer) knows = sound-quiet s (open_call thread call steps) refl knows.0
sound-open s thread call steps now (Loosened found mark answer) knows = sound-quiet s (open_call thread call steps) refl knows.0
sound-open s thread call steps now (Emptied answer) knows = sound-done s (open_call thread call steps) answer refl knows

pub IsNotNewer-trans : (one mid other : ServerState) → IsNotNewer one mid → IsNotNewer mid other → IsNotNewer one other
IsNotNewer-trans one mid other first second =
    ⊎_elim
    (λ (same : one ≡ mid). let P : ServerState → Type 0 = λ it. IsNotNewer it other in subst P (sym same) second)
    (λ (older : one.stamp < mid.stamp).
    ⊎_elim
    (λ (same : mid ≡ other). inr (let e : mid.stamp ≡ other.stamp = ap (λ (it : ServerState). it.stamp) same in omega arith))
    (λ (later : mid.stamp < other.stamp). inr (omega arith))
    second)
    first

-- a word that is neither older nor newer is the same
pub IsNotNewer-same : (one mid other : ServerState) → IsNotNewer one mid → IsNotNewer mid other → one ≡ other → mid ≡ one
IsNotNewer-same one mid other first second same =
    ⊎_elim
    (λ (is : one ≡ mid). sym is)
    (λ (older : one.stamp < mid.stamp).
    let ends : one.stamp ≡ other.stamp = ap (λ (it : ServerState). it.stamp) same in
    ⊎_elim
    (λ (is : mid ≡ other). is ∙ sym same)
    (λ (later : mid.stamp < other.stamp). absurd (omega arith))
    second)
    first

-- what a phase knows when the server's word moved on
pub Knows-kept : (s : Settings) (thread : ℕ) (call : CallState) (steps : List OwnStep) (now new : ServerState) (phase : Phase)
    → IsNotNewer now new → Knows s thread call steps now phase → Knows s thread call steps new phase
Knows-kept s thread call steps now new Start on knows = knows
Knows-kept s thread call steps now new (Read found mark answer) on knows = knows
Knows-kept s thread call steps now new (AtThreshold found) on knows =
    (knows.0, knows.1, IsNotNewer-trans found now new knows.2 on)
Knows-kept s thread call steps now new (Limit found) on knows =
    let saw = knows.2 in (
      knows.0,
      knows.1,
      record {
        own = saw.own;
        newer = saw.newer;
        older = saw.older;
        among = saw.among;
        others = saw.others;
        quiet = saw.quiet;
        limit = saw.limit;
        after_found = saw.after_found;
        before_now = IsNotNewer-trans (server_at saw.own.step.before call.server) now new saw.before_now on;
      },
    )
Knows-kept s thread call steps now new (Reserving found slots) on knows = knows
Knows-kept s thread call steps now new (Holding found) on knows = knows
Knows-kept s thread call steps now new Firming on knows = knows
Knows-kept s thread call steps now new Losing on knows = knows
Knows-kept s thread call steps now new (Loosening found mark answer) on knows = knows
Knows-kept s thread call steps now new (Loosened found mark answer) on knows = knows
Knows-kept s thread call steps now new (Emptied answer) on knows = knows

-- ---- what a step and its decision leave

-- a step with the answer of its decision
abbrev pub with_decision : ℕ → StepTaken → Decision → OwnStep
with_decision at base decision = record { at = at; step = record base { answer = decided_answer decision } }

abbrev pub Told : Settings → ℕ → CallState → List OwnStep → ℕ → StepTaken → ServerState → Decision → Type 0
Told s thread call steps at base now (Goes lost phase) =
    Knows s thread call (with_decision at base (Goes lost phase) ∷ steps) now phase
Told s thread call steps at base now (Answers answer) =
    IsSoundCall s (and_step (open_call thread call steps) (with_decision at base (Answers answer)))

module _ (s : Settings) (thread : ℕ) (call : CallState) (steps : List OwnStep) (at : ℕ) (base : StepTaken) where
  abbrev opened : RunCall
  opened = open_call thread call steps

  abbrev own : Decision → OwnStep
  own decision = with_decision at base decision

  abbrev told : ServerState → Decision → Type 0
  told now decision = Told s thread call steps at base now decision

  pub still_quiet : (decision : Decision) → base.after ≡ base.before → All ChangesNothing steps → All ChangesNothing (own decision ∷ steps)
  still_quiet decision same quiet = All-cons ChangesNothing (own decision) steps same quiet

  -- a try that is lost
  pub told-lost : (now : ServerState) → base.after ≡ base.before → All ChangesNothing steps → told now (lost_try s call)
  told-lost now same quiet =
      let again : Decision = Goes (call.lost + 1) Start in
      let gives_up : Decision = Answers Contended in
      cond_both (eqb s.tries (call.lost + 1)) gives_up again (told now)
      (λ e. sound-contended s (and_step opened (own gives_up)) refl (still_quiet gives_up same quiet))
      (λ e. still_quiet again same quiet)

  -- an answer that changes nothing
  pub told-stays : (now : ServerState) (answer : Reply) → base.after ≡ base.before → All ChangesNothing steps → softs_beside s call.server base.before ≤ limit_at s call.server
      → Decides s call.number call.op (server_at base.before call.server) (stays answer) → told now (Answers answer)
  told-stays now answer same quiet limit decides =
      let last = own (Answers answer) in
      sound-answered s (and_step opened last) answer refl
      (done-here s opened last answer quiet (effect-stays s opened last.step answer (decides (has_room s base.before call.server)) same) limit)

  -- the look that begins a try
  pub told-start : base.after ≡ base.before → All ChangesNothing steps → softs_beside s call.server base.before ≤ limit_at s call.server
      → (let now = server_at base.before call.server in told now (from_start s call now))
  told-start same quiet limit =
      let now = server_at base.before call.server in
      from_start-is s call now (told now)
      (λ answer is_answer is. told-stays now answer same quiet limit is)
      (λ soft fresh is. (still_quiet (goes call (AtThreshold now)) same quiet, is, inl refl))
      (λ mark answer put can by is. (still_quiet (goes call (Read now mark answer)) same quiet, is))
      (λ mark answer put can own is. (still_quiet (goes call (Loosening now mark answer)) same quiet, is))

  -- the second look, which finds the word that the first look found
  pub told-full : (found now : ServerState) → base.after ≡ base.before → All ChangesNothing steps → Marks s call.number call.op found
      → SawLimit s call.server found now steps → found ≡ now → told now (Answers Full)
  told-full found now same quiet marks saw is =
      let last = own (Answers Full) in
      let there = server_at saw.own.step.before call.server in
      let pinned : there ≡ found = IsNotNewer-same found there now saw.after_found saw.before_now is in
      let no_room : has_room s saw.own.step.before call.server ≡ false = le-ltb (softs_beside s call.server saw.own.step.before) (limit_at s call.server) (omega (arith, saw.limit)) in
      let decides : transition s (has_room s saw.own.step.before call.server) call.number call.op there.mark there.stamp ≡ stays Full =
      ap (λ (it : ServerState). transition s (has_room s saw.own.step.before call.server) call.number call.op it.mark it.stamp) pinned
      ∙ marks (has_room s saw.own.step.before call.server)
      ∙ ap (λ room. cond room (becomes (Soft call.number) TookSoft) (stays Full)) no_room in
      sound-answered s (and_step opened last) Full refl
      (record {
        own = saw.own;
        legal = record {
          newer = last ∷ saw.newer;
          older = saw.older;
          steps = ap (λ them. last ∷ them) saw.among;
          effect = effect-stays s (and_step opened last) saw.own.step Full decides saw.quiet;
          others = All-cons ChangesNothing last (saw.newer ++ saw.older) same saw.others;
        };
        limit = omega (arith, saw.limit);
      })

  -- the look at the soft word, which finds as many settled marks as may be
  pub told-limit : (found : ServerState) (lost : ℕ) → base.after ≡ base.before → All ChangesNothing steps → Marks s call.number call.op found
      → IsNotNewer found (server_at base.before call.server) → softs_beside s call.server base.before ≡ limit_at s call.server
      → told (server_at base.before call.server) (Goes lost (Limit found))
  told-limit found lost same quiet marks older limit =
      let next : Decision = Goes lost (Limit found) in (
        still_quiet next same quiet,
        marks,
        record {
          own = own next;
          newer = [];
          older = steps;
          among = refl;
          others = quiet;
          quiet = same;
          limit = limit;
          after_found = older;
          before_now = inl refl;
        },
      )

  -- a write of what the operation makes of the word that it found
  pub done-write : (decision : Decision) (found : ServerState) (mark : Mark) (answer : Reply) → All ChangesNothing steps
      → transition s (has_room s base.before call.server) call.number call.op found.mark found.stamp ≡ becomes mark answer
      → server_at base.before call.server ≡ found
      → base.after ≡ set base.before call.server (record { mark = mark; stamp = found.stamp + 1 })
      → softs_beside s call.server base.before ≤ limit_at s call.server → IsDone s (and_step opened (own decision)) answer
  done-write decision found mark answer quiet decides same wrote limit =
      let P : ServerState → Type 0 = λ it. transition s (has_room s base.before call.server) call.number call.op it.mark it.stamp ≡ becomes mark answer in
      let Q : ServerState → Type 0 = λ it. base.after ≡ set base.before call.server (record { mark = mark; stamp = it.stamp + 1 }) in
      done-here s opened (own decision) answer quiet
      (effect-becomes s opened (own decision).step mark answer (subst P (sym same) decides) (subst Q (sym same) wrote)) limit
