-- One thread alone, its calls: the sequential tracker does each as it was done.
use Rattle.std.proofs.Common.{◌≡◌, ◌≢◌, ℕ, ◌⊎◌, Bool, true, false, cond, eqb, List, [], ◌∷◌, ◌++◌, All, Option, Some, None, inl, inr, ⊎_elim, refl, sym, ap, ◌∙◌, subst}
use Rattle.std.proofs.lemmas.Bool.{cases_Bool, eqb-false, eqb-true}
use Rattle.std.proofs.lemmas.List.Elements.{All-nil, All-cons, All-head, All-tail}
use Rattle.tko_model.specs.declared.mark.Reply.{Reply}
use Rattle.tko_model.specs.declared.mark.Reply.TheVariants.{Contended}
use Rattle.tko_model.specs.Settings.{Settings}
use Rattle.tko_model.specs.declared.state.ServerState.{ServerState}
use Rattle.tko_model.specs.Tracker.{after, reply_of}
use Rattle.tko_steps.specs.Alone.{Does, ReplaysCalls}
use Rattle.tko_steps.specs.Legal.{ChangesNothing, IsLegalAt, tracker_in}
use Rattle.tko_steps.specs.Runs.{OwnStep, RunCall, and_step, with_step}
use Rattle.tko_steps.specs.Table.{same_server}
use Rattle.tko_steps.proofs.CallLemmas.{latest}
use Rattle.tko_steps.proofs.LegalLemmas.{IsSoundCall}
use Rattle.tko_steps.proofs.TableLemmas.{eq-same_server, same_server-true}

-- ---- two abstract states are the same or not

same_servers : (one other : List ServerState) → (one ≡ other) ⊎ (one ≡ other → ⊥)
same_servers [] [] = inl refl
same_servers [] (y ∷ ys) = inr (λ e. cc)
same_servers (x ∷ xs) [] = inr (λ e. cc)
same_servers (x ∷ xs) (y ∷ ys) =
    elim (cases_Bool (same_server x y)) [
      | inl same ↦
          ⊎_elim
          (λ (rest : xs ≡ ys). inl (ap (λ it. it ∷ xs) (same_server-true x y same) ∙ ap (λ all. y ∷ all) rest))
          (λ (apart : xs ≡ ys → ⊥). inr (λ e. apart (let tails : xs ≡ ys = cc in tails)))
          (same_servers xs ys)
      | inr differs ↦ inr (λ e. let heads : x ≡ y = cc in let same = eq-same_server x y heads in cc)
    ]

-- ---- own steps of which each begins where the one before it ended

abbrev pub AreChained : List ServerState → List OwnStep → List ServerState → Type 0
AreChained first [] last = last ≡ first
AreChained first (own ∷ older) last = (own.step.after ≡ last) × AreChained first older own.step.before

chained-quiet : (first last : List ServerState) (steps : List OwnStep) → AreChained first steps last → All ChangesNothing steps → last ≡ first
chained-quiet first last [] chain quiet = chain
chained-quiet first last (own ∷ older) chain quiet =
    sym chain.0 ∙ All-head ChangesNothing own older quiet
    ∙ chained-quiet first own.step.before older chain.1 (All-tail ChangesNothing own older quiet)

-- where no other step changes anything, one begins where all began, and ends where all ended
chained-at : (first last : List ServerState) (newer older : List OwnStep) (own : OwnStep) → AreChained first (newer ++ own ∷ older) last
    → All ChangesNothing (newer ++ older) → (own.step.before ≡ first) × (own.step.after ≡ last)
chained-at first last [] older own chain quiet = (chained-quiet first own.step.before older chain.1 quiet, chain.0)
chained-at first last (new ∷ newer) older own chain quiet =
    let rest = chained-at first new.step.before newer older own chain.1 (All-tail ChangesNothing new (newer ++ older) quiet) in
    (rest.0, rest.1 ∙ sym (All-head ChangesNothing new (newer ++ older) quiet) ∙ chain.0)

quiet-at : (newer older : List OwnStep) (own : OwnStep) → All ChangesNothing (newer ++ older) → ChangesNothing own → All ChangesNothing (newer ++ own ∷ older)
quiet-at [] older own quiet one = All-cons ChangesNothing own older one quiet
quiet-at (new ∷ newer) older own quiet one =
    All-cons ChangesNothing new (newer ++ own ∷ older) (All-head ChangesNothing new (newer ++ older) quiet)
    (quiet-at newer older own (All-tail ChangesNothing new (newer ++ older) quiet) one)

at-quiet : (newer older : List OwnStep) (own : OwnStep) → All ChangesNothing (newer ++ own ∷ older) → ChangesNothing own
at-quiet [] older own quiet = All-head ChangesNothing own older quiet
at-quiet (new ∷ newer) older own quiet = at-quiet newer older own (All-tail ChangesNothing new (newer ++ own ∷ older) quiet)

-- ---- a call as the sequential tracker does it

-- what a call that took effect did from the state in which its steps began
did : (s : Settings) (call : RunCall) (reply : Reply) (own : OwnStep) (entry now : List ServerState) → IsLegalAt s call reply own
    → AreChained entry call.steps now
    → (reply ≡ reply_of (tracker_in s entry) call.number call.op call.server)
    × (tracker_in s now ≡ after (tracker_in s entry) call.number call.op call.server)
did s call reply own entry now legal chain =
    let C : List OwnStep → Type 0 = λ steps. AreChained entry steps now in
    let ends = chained-at entry now legal.newer legal.older own (subst C legal.steps chain) legal.others in
    let R : List ServerState → Type 0 = λ it. reply ≡ reply_of (tracker_in s it) call.number call.op call.server in
    let T : List ServerState → Type 0 = λ it. tracker_in s now ≡ after (tracker_in s it) call.number call.op call.server in
    (subst R ends.0 (sym legal.effect.reply), subst T ends.0 (ap (tracker_in s) (sym (legal.effect.change ∙ ends.1))))

does-answer : (s : Settings) (call : RunCall) (entry now : List ServerState) (answer : Option Reply) → call.answer ≡ answer → IsSoundCall s call
    → call.answer ≢ Some Contended → AreChained entry call.steps now → Does (tracker_in s entry) call answer (tracker_in s now)
does-answer s call entry now (Some reply) is sound plain chain =
    let legal = sound.legal.answered reply is (λ e. plain (is ∙ ap Some e)) in
    did s call reply legal.0 entry now legal.1 chain
does-answer s call entry now None is sound plain chain =
    ⊎_elim
    (λ (quiet : All ChangesNothing call.steps). inl (quiet, ap (tracker_in s) (chained-quiet entry now call.steps chain quiet)))
    (λ (done : (reply : Reply) × (own : OwnStep) × IsLegalAt s call reply own).
    let own = done.1 in
    let legal = done.2 in
    ⊎_elim
    (λ (same : own.step.after ≡ own.step.before).
    let quiet : All ChangesNothing call.steps = subst (All ChangesNothing) (sym legal.steps) (quiet-at legal.newer legal.older own legal.others same) in
    inl (quiet, ap (tracker_in s) (chained-quiet entry now call.steps chain quiet)))
    (λ (changes : own.step.after ≡ own.step.before → ⊥).
    inr (
      λ quiet. changes (at-quiet legal.newer legal.older own (subst (All ChangesNothing) legal.steps quiet)),
      (did s call done.0 own entry now legal chain).1,
    ))
    (same_servers own.step.after own.step.before))
    (sound.legal.open_yet is)

-- ---- the calls of a run of this thread alone

-- a call of another thread did nothing yet
pub record IsUntouched (thread : ℕ) (call : RunCall) : Type 0 where
  pub other : call.thread ≡ thread → ⊥
  pub steps : call.steps ≡ []
  pub answer : call.answer ≡ None

-- the newest call of the thread took its steps from where the sequential tracker came to by the older ones
pub record IsPlayed (s : Settings) (first : List ServerState) (thread : ℕ) (call : RunCall) (older : List RunCall) (now : List ServerState) : Type 0 where
  pub mine : call.thread ≡ thread
  pub entry : List ServerState
  pub replayed : ReplaysCalls (tracker_in s first) older (tracker_in s entry)
  pub chain : AreChained entry call.steps now

-- the calls up to now, where the abstract state is this
abbrev pub Plays : Settings → List ServerState → ℕ → List RunCall → List ServerState → Type 0
Plays s first thread [] now = now ≡ first
Plays s first thread (call ∷ older) now =
    (IsUntouched thread call × Plays s first thread older now) ⊎ IsPlayed s first thread call older now

abbrev pub IsNotContended : RunCall → Type 0
IsNotContended call = call.answer ≢ Some Contended

module _ (s : Settings) (first : List ServerState) (thread : ℕ) where
  pub Replays-plays : (calls : List RunCall) (now : List ServerState) → All (IsSoundCall s) calls → All IsNotContended calls
      → Plays s first thread calls now → ReplaysCalls (tracker_in s first) calls (tracker_in s now)
  Replays-plays [] now sound plain plays = ap (tracker_in s) plays
  Replays-plays (call ∷ older) now sound plain (inl (untouched, plays)) =
      let rest = Replays-plays older now (All-tail (IsSoundCall s) call older sound) (All-tail IsNotContended call older plain) plays in
      let D : Option Reply → Type 0 = λ answer. Does (tracker_in s now) call answer (tracker_in s now) in
      let quiet : All ChangesNothing call.steps = subst (All ChangesNothing) (sym untouched.steps) (All-nil ChangesNothing) in
      (tracker_in s now, rest, subst D (sym untouched.answer) (inl (quiet, refl)))
  Replays-plays (call ∷ older) now sound plain (inr played) =
      let one = All-head (IsSoundCall s) call older sound in
      let not = All-head IsNotContended call older plain in
      (tracker_in s played.entry, played.replayed, does-answer s call played.entry now call.answer refl one not played.chain)

  plays-either : (own : OwnStep) (opened call : RunCall) (older rest : List RunCall) (found : Option RunCall) (now : List ServerState) (test : Bool)
      → eqb call.thread own.step.thread ≡ test → own.step.thread ≡ thread → own.step.before ≡ now
      → cond test (Some call) found ≡ Some opened → Plays s first thread (call ∷ older) now
      → (found ≡ Some opened → Plays s first thread older now → Plays s first thread rest own.step.after)
      → Plays s first thread (cond test (and_step call own ∷ older) (call ∷ rest)) own.step.after
  plays-either own opened call older rest found now true test by from is (inl (untouched, plays)) onward =
      absurd (untouched.other (eqb-true call.thread own.step.thread test ∙ by))
  plays-either own opened call older rest found now true test by from is (inr played) onward =
      let C : List ServerState → Type 0 = λ it. AreChained played.entry call.steps it in
      inr (record {
        mine = played.mine;
        entry = played.entry;
        replayed = played.replayed;
        chain = (refl, subst C (sym from) played.chain);
      })
  plays-either own opened call older rest found now false test by from is (inl (untouched, plays)) onward = inl (untouched, onward is plays)
  plays-either own opened call older rest found now false test by from is (inr played) onward =
      absurd (eqb-false call.thread own.step.thread test (played.mine ∙ sym by))

  -- the thread takes a step of its newest call
  pub Plays-with_step : (own : OwnStep) (opened : RunCall) (calls : List RunCall) (now : List ServerState) → own.step.thread ≡ thread → own.step.before ≡ now
      → latest own.step.thread calls ≡ Some opened → Plays s first thread calls now → Plays s first thread (with_step own calls) own.step.after
  Plays-with_step own opened [] now by from is plays = cc
  Plays-with_step own opened (call ∷ older) now by from is plays =
      plays-either own opened call older (with_step own older) (latest own.step.thread older) now (eqb call.thread own.step.thread) refl by from is plays
      (λ found rest. Plays-with_step own opened older now by from found rest)
