-- The rule is kept by an enrolment.
use Rattle.std.proofs.Common.{◌≡◌, ℕ, ◌+◌, ◌<◌, ◌≤◌, false, List, [], ◌∷◌, ◌++◌, length, set, All}
use Rattle.std.proofs.Common.{Some, None, true, refl, sym, ap, ◌∙◌, subst, arith}
use Rattle.std.proofs.lemmas.Bool.{cond-true, lt-ltb, ne_eqb}
use Rattle.std.proofs.lemmas.List.{get_or-map, length-map, map-set}
use Rattle.std.proofs.lemmas.List.Elements.{All-set, All-weaker}
use mathlib.Core.Option.{some}
use lib.ListN.{get_elem?}
use Rattle.tko_model.specs.declared.mark.Mark.{Mark}
use Rattle.tko_model.specs.declared.mark.Mark.TheVariants.{Up, Soft, Hard}
use Rattle.tko_model.specs.declared.layout.Layout.TheVariants as layout
use Rattle.tko_model.specs.Limits.{max_threads}
use Rattle.tko_model.specs.Settings.{Settings}
use Rattle.tko_model.specs.Tracker.{server_at}
use Rattle.tko_word.specs.Words.{IsWord}
use Rattle.tko_steps.specs.declared.phase.ThreadState.TheVariants.{NotEnrolled, Idle}
use Rattle.tko_steps.specs.declared.step.StepKind.TheVariants.{Enrol}
use Rattle.tko_steps.specs.declared.step.Place.TheVariants as place
use Rattle.tko_steps.specs.declared.step.Word.TheVariants as held
use Rattle.tko_steps.specs.Core.{CoreState, Shared, abstract_of, after_enrol, after_step}
use Rattle.tko_steps.specs.Core.{after_step_from, drawn_number, reported_by_enrol}
use Rattle.tko_steps.specs.Owners.{owner_of}
use Rattle.tko_steps.specs.Core.{reported_by_step, reported_from, thread_at}
use Rattle.tko_steps.specs.Runs.{Step, StepTaken, Took as TookStep, happens, with_reported}
use Rattle.tko_steps.specs.Invariant.{IsCore}
use Rattle.tko_steps.proofs.BeginLemmas.{IsCore-after_enrol}
use Rattle.tko_steps.proofs.RoomLemmas.{enrolled-le}
use Rattle.tko_steps.proofs.ThreadLemmas.{enrolled-lt}
use Rattle.tko_table.specs.declared.pass.Change.{Change}
use Rattle.tko_table.specs.declared.pass.PassView.{PassView}
use Rattle.tko_table.specs.History.{Begins, Replays, changes_in}
use Rattle.tko_table.specs.Passes.{StandsIn, PassOwnsItsMarks, HasItsChanges, enrolled_pass}
use Rattle.tko_table.specs.Passes.{is_marked_by}
use Rattle.tko_table.specs.Rule.{IsKept, IsPlanned, core_in, enrolment_place, joined_passes}
use Rattle.tko_table.specs.Rule.{shared_in, states_of}
use Rattle.tko_table.specs.Enrolments.{EnrolsIn}
use Rattle.tko_table.proofs.AddedChangeLemmas.{none-made}
use Rattle.tko_table.proofs.HistoryLemmas.{Begins-all}
use Rattle.tko_table.proofs.JoinedLemmas.{IsOneOf, one-joined}
use Rattle.tko_table.proofs.SharedLemmas.{health-enrolled, shared-enrolled}
use Rattle.tko_table.proofs.StepLemmas.{servers-some}

-- a mark names a number that was drawn
undrawn : (enrolled : ℕ) (mark : Mark) → ((number : ℕ) → owner_of mark ≡ Some number
    → number < enrolled) → is_marked_by (Some enrolled) mark ≡ false
undrawn enrolled (Up count) drawn = refl
undrawn enrolled (Soft owner) drawn =
    ne_eqb owner enrolled (λ e. let low = drawn owner refl in omega arith)
undrawn enrolled (Hard owner) drawn =
    ne_eqb owner enrolled (λ e. let low = drawn owner refl in omega arith)

-- the step by which a thread is enrolled
abbrev enrolment : CoreState → ℕ → StepTaken
enrolment core thread =
    record {
      thread = thread;
      kind = Enrol;
      place = place.Enrolment;
      found = held.Enrolled core.shared.enrolled;
      left = held.Enrolled (core.shared.enrolled + 1);
      won = true;
      answer = None;
      before = abstract_of core;
      after = abstract_of (after_enrol core thread);
    }

enrolment-turn : (core : CoreState) (thread : ℕ) → thread < length core.threads
    → thread_at core thread ≡ NotEnrolled
    → (happens (record { core = core; past = [] }) (Step thread)).past
    ≡ TookStep (enrolment core thread) ∷ []
enrolment-turn core thread inside waits =
    let less = lt-ltb thread (length core.threads) inside in
    let new : after_step core thread ≡ after_enrol core thread =
    cond-true _ _ _ less ∙ ap (after_step_from core thread) waits in
    let reported : reported_by_step core thread ≡ reported_by_enrol core =
    cond-true _ _ _ less ∙ ap (reported_from core) waits in
    λ i. with_reported [] thread (abstract_of core) (abstract_of (new i)) (reported i)

module _ (s : Settings) (words : List ℕ) (views : List (List PassView)) (id : ℕ)
    (before rest : List PassView) (pass : PassView)
    (kept : IsKept s words views) (there : get_elem? views id ≡ some (before ++ pass ∷ rest))
    (waits : pass.state ≡ NotEnrolled) where
  pub one : IsOneOf (joined_passes views) pass
      (λ new. joined_passes (set views id (before ++ new ∷ rest)))
  one = one-joined views id before rest pass there

  pub few : (shared_in s words).enrolled ≤ max_threads layout.Two
  few = omega (
    arith,
    enrolled-le (core_in s words (joined_passes views)) kept.core.core,
    kept.core.core.settings.threads.1,
  )

  -- there is a number left for this pass
  pub fewer : (shared_in s words).enrolled < max_threads layout.Two
  fewer =
      let passes = joined_passes views in
      let core = kept.core.core in
      let inside : one.place < length (states_of passes) =
      omega (arith, one.inside, length-map passes (λ (at : PassView). at.state)) in
      let stands_in : thread_at (core_in s words passes) one.place ≡ NotEnrolled =
      get_or-map (λ (at : PassView). at.state) passes one.place pass NotEnrolled one.inside
      ∙ ap (λ (at : PassView). at.state) (one.at pass) ∙ waits in
      omega (
        arith,
        enrolled-lt (states_of passes) one.place inside stands_in,
        core.enrolled,
        core.threads,
        core.settings.threads.1,
      )

  -- the step is the core's enrolment of its thread
  pub core-enrols : EnrolsIn (core_in s words (joined_passes views)) (shared_in s words).enrolled
  core-enrols =
      let passes = joined_passes views in
      let core : CoreState = core_in s words passes in
      let stands_in : thread_at core one.place ≡ NotEnrolled =
      get_or-map (λ (at : PassView). at.state) passes one.place pass NotEnrolled one.inside
      ∙ ap (λ (at : PassView). at.state) (one.at pass) ∙ waits in
      let inside : one.place < length (states_of passes) =
      omega (arith, one.inside, length-map passes (λ (at : PassView). at.state)) in
      record {
        is = kept.core.core;
        thread = one.place;
        inside = inside;
        waits = stands_in;
        step = enrolment core one.place;
        turn = enrolment-turn core one.place inside stands_in;
        found = refl;
        left = refl;
      }

  pub enrol-kept : (new_word : ℕ) → new_word ≡ (shared_in s words).enrolled + 1
      → IsKept s (set words enrolment_place new_word) (set views id
      (before ++ enrolled_pass pass (shared_in s words).enrolled kept.history ∷ rest))
  enrol-kept new_word is_new =
      let number = (shared_in s words).enrolled in
      let passes = joined_passes views in
      let new : PassView = enrolled_pass pass number kept.history in
      let new_words = set words enrolment_place new_word in
      let has_one = servers-some s words views kept in
      let servers = (shared_in s words).servers in
      let core : CoreState = core_in s words passes in
      let inside : one.place < length (states_of passes) =
      omega (arith, one.inside, length-map passes (λ (at : PassView). at.state)) in
      let stands_in : thread_at core one.place ≡ NotEnrolled =
      get_or-map (λ (at : PassView). at.state) passes one.place pass NotEnrolled one.inside
      ∙ ap (λ (at : PassView). at.state) (one.at pass) ∙ waits in
      let threads : states_of (joined_passes (set views id (before ++ new ∷ rest)))
      ≡ set (states_of passes) one.place (Idle number) =
      ap states_of (one.sets new) ∙ map-set (λ (at : PassView). at.state) passes one.place new in
      let shared : shared_in s new_words ≡ record {
        servers = servers;
        slots = (shared_in s words).slots;
        enrolled = number + 1;
      } =
      shared-enrolled s words new_word has_one ∙ (λ i.
      record { servers = servers; slots = (shared_in s words).slots; enrolled = is_new i }) in
      let core_is : core_in s new_words (joined_passes (set views id (before ++ new ∷ rest)))
      ≡ after_enrol core one.place =
      λ i. record { settings = s; shared = shared i; threads = threads i } in
      let same_servers : servers ≡ (shared_in s new_words).servers =
      sym (ap (λ (it : Shared). it.servers) shared) in
      let owned : PassOwnsItsMarks servers pass =
      subst (PassOwnsItsMarks servers) (one.at pass) (kept.core.owned one.place pass one.inside) in
      let no_call : pass.mine ≡ [] =
      subst (λ drew. StandsIn drew kept.history pass) (ap drawn_number waits)
      (subst (HasItsChanges kept.history) (one.at pass)
      (kept.told.mine one.place pass one.inside)) in
      let told : HasItsChanges kept.history new = (
        none-made number kept.history kept.told.drawn
            ∙ ap (λ mine. changes_in number mine ++ []) (sym no_call),
        refl,
      ) in
      let owned_now : PassOwnsItsMarks servers new = λ at.
      owned at ∙ ap (λ state. is_marked_by (drawn_number state) (server_at servers at).mark) waits
      ∙ sym (undrawn number (server_at servers at).mark
      (λ other mine. kept.core.core.owners at other mine)) in
      record {
        core = record {
          valid = subst (All IsWord) (sym (health-enrolled s words new_word)) kept.core.valid;
          core = subst IsCore (sym core_is)
              (IsCore-after_enrol core one.place kept.core.core inside stands_in);
          owned = subst (λ it. All (PassOwnsItsMarks it)
              (joined_passes (set views id (before ++ new ∷ rest)))) same_servers
              (subst (All (PassOwnsItsMarks servers)) (sym (one.sets new))
              (All-set (PassOwnsItsMarks servers) passes one.place new owned_now
              kept.core.owned));
          settings = subst (All (λ (at : PassView). at.settings ≡ s)) (sym (one.sets new))
              (All-set (λ (at : PassView). at.settings ≡ s) passes one.place new
              (subst (λ (at : PassView). at.settings ≡ s) (one.at pass)
              (kept.core.settings one.place pass one.inside)) kept.core.settings);
        };
        history = kept.history;
        told = record {
          replays = subst (λ it. Replays s kept.history it) same_servers kept.told.replays;
          seen = subst (All (λ (at : PassView). Begins at.seen kept.history)) (sym (one.sets new))
              (All-set (λ (at : PassView). Begins at.seen kept.history) passes one.place new
              (Begins-all kept.history) kept.told.seen);
          planned = subst (All (λ (at : PassView). IsPlanned s at.state)) (sym (one.sets new))
              (All-set (λ (at : PassView). IsPlanned s at.state) passes one.place new tt
              kept.told.planned);
          drawn =
              subst (λ enrolled. All (λ (change : Change). change.number < enrolled) kept.history)
              (sym (ap (λ (it : Shared). it.enrolled) shared))
              (All-weaker (λ (change : Change). change.number < number)
              (λ (change : Change). change.number < number + 1)
              (λ change less. omega (arith, less)) kept.history kept.told.drawn);
          mine = subst (All (HasItsChanges kept.history)) (sym (one.sets new))
              (All-set (HasItsChanges kept.history) passes one.place new told kept.told.mine);
        };
      }
