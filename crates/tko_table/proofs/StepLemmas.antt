-- What the rule says of the words, and each look at one is the core's look.
use Rattle.std.proofs.Common.{◌≡◌, ℕ, ◌<◌, ◌≤◌, true, List, ◌∷◌, ◌++◌, length, get_or, set, All}
use Rattle.std.proofs.Common.{None, Some, refl, sym, ap, ◌∙◌, subst, arith}
use Rattle.std.proofs.lemmas.List.{get_or-map, length-map}
use mathlib.Core.Option.{some}
use lib.ListN.{get_elem?}
use Rattle.tko_model.specs.declared.mark.Mark.{Mark}
use Rattle.tko_model.specs.declared.mark.Mark.TheVariants.{Up, Soft, Hard}
use Rattle.tko_model.specs.Settings.{Settings}
use Rattle.tko_model.specs.declared.state.ServerState.{ServerState}
use Rattle.tko_model.specs.Groups.{group_of}
use Rattle.tko_model.specs.Tracker.{IsFit, server_at}
use Rattle.tko_word.specs.Words.{IsMarkOf, IsWord, server_in}
use Rattle.tko_steps.specs.declared.phase.Call.{Call}
use Rattle.tko_steps.specs.declared.phase.Phase.{Phase}
use Rattle.tko_steps.specs.declared.phase.Phase.TheVariants.{Start, Read, AtThreshold, Limit}
use Rattle.tko_steps.specs.declared.phase.Phase.TheVariants.{Reserving, Holding, Firming, Losing}
use Rattle.tko_steps.specs.declared.phase.Phase.TheVariants.{Loosening, Loosened, Emptied}
use Rattle.tko_steps.specs.Invariant.{IsFoundBy, IsPhase}
use Rattle.tko_steps.specs.Steps.{is_marked_state}
use Rattle.tko_steps.specs.declared.phase.Slots.{Slots}
use Rattle.tko_steps.specs.declared.phase.ThreadState.TheVariants.{NotEnrolled, InCall}
use Rattle.tko_steps.specs.declared.table.Action.{Action}
use Rattle.tko_steps.specs.declared.table.Action.TheVariants as action
use Rattle.tko_steps.specs.declared.table.Observed.TheVariants as read
use Rattle.tko_steps.specs.Core.{seen_by, shared_after, slots_in, thread_at}
use Rattle.tko_steps.specs.StepNeeds.{CanAct}
use Rattle.tko_steps.specs.Owners.{owner_of}
use Rattle.tko_steps.specs.Table.{action_of}
use Rattle.tko_steps.proofs.CoreLemmas.{group-there, own-group}
use Rattle.tko_steps.proofs.PhaseStepLemmas.{knows_at}
use Rattle.tko_steps.proofs.RoomLemmas.{CanAct-at, enrolled-le}
use Rattle.tko_table.specs.declared.pass.PassView.{PassView}
use Rattle.tko_table.specs.Rule.{IsKept, core_in, health_in, health_place, joined_passes, shared_in}
use Rattle.tko_table.specs.Rule.{soft_place, states_of}
use Rattle.tko_table.specs.Steps.{IsSoundWord, IsWithinLimit, read_in}
use Rattle.tko_table.proofs.JoinedLemmas.{one-joined}
use Rattle.tko_table.proofs.SharedLemmas.{health-get, server-there, set-same, slots-there}

-- what the change of one word has to do: it leaves what the core's step leaves, and the step reads
-- what was found
pub record IsStepOn (s : Settings) (words new_words : List ℕ) (server : ℕ) (act : Action)
    (found : ℕ) : Type 0 where
  pub left : shared_in s new_words ≡ shared_after s (shared_in s words) server act
  pub valid : All IsWord (health_in s new_words)
  pub reads : seen_by s (shared_in s words) server act ≡ read_in act found

-- ---- what the rule says of the words

pub servers-some : (s : Settings) (words : List ℕ) (views : List (List PassView))
    → IsKept s words views → 0 < length (shared_in s words).servers
servers-some s words views kept =
    omega (arith, kept.core.core.count, kept.core.core.settings.servers.0)

-- what the step of a call under way needs
pub can-act : (s : Settings) (words : List ℕ) (views : List (List PassView)) (id : ℕ)
    (before rest : List PassView) (pass : PassView) (call : Call) (phase : Phase)
    → IsKept s words views → get_elem? views id ≡ some (before ++ pass ∷ rest)
    → pass.state ≡ InCall call phase
    → CanAct s (shared_in s words) call.server (action_of call.number phase)
can-act s words views id before rest pass call phase kept there stands =
    let one = one-joined views id before rest pass there in
    let passes = joined_passes views in
    let inside : one.place < length (states_of passes) =
    omega (arith, one.inside, length-map passes (λ (at : PassView). at.state)) in
    let stands_in : thread_at (core_in s words passes) one.place ≡ InCall call phase =
    get_or-map (λ (at : PassView). at.state) passes one.place pass NotEnrolled one.inside
    ∙ ap (λ (at : PassView). at.state) (one.at pass) ∙ stands in
    CanAct-at (core_in s words passes) one.place call kept.core.core inside phase stands_in

-- what was found marked by its own thread still stands
found-by : (number : ℕ) (now found : ServerState) (mark : Mark) → is_marked_state mark ≡ true
    → IsFoundBy number now found mark → now ≡ found
found-by number now found (Up count) marked by = cc
found-by number now found (Soft owner) marked by = absurd by
found-by number now found (Hard owner) marked by = by.1

not-fresh : (mark : Mark) → owner_of mark ≡ None → is_marked_state mark ≡ true → ⊥
not-fresh (Up count) none marked = cc
not-fresh (Soft owner) none marked = cc
not-fresh (Hard owner) none marked = cc

-- a call that expects its own mark: the mark still stands
found-own : (s : Settings) (call : Call) (now : ServerState) (phase : Phase) (found : ServerState)
    (mark : Mark) → IsPhase s call now phase
    → action_of call.number phase ≡ action.Exchange found mark → is_marked_state found.mark ≡ true
    → now ≡ found
found-own s call now Start found mark knows is marked = cc
found-own s call now (Read before new answer) found mark knows is marked =
    let same : before ≡ found = cc in
    let marked_before : is_marked_state before.mark ≡ true =
    ap (λ (it : ServerState). is_marked_state it.mark) same ∙ marked in
    found-by call.number now before before.mark marked_before knows.1 ∙ same
found-own s call now (AtThreshold before) found mark knows is marked = cc
found-own s call now (Limit before) found mark knows is marked = cc
found-own s call now (Reserving before slots) found mark knows is marked = cc
found-own s call now (Holding before) found mark knows is marked =
    let same : before ≡ found = cc in
    absurd (not-fresh before.mark knows.0
    (ap (λ (it : ServerState). is_marked_state it.mark) same ∙ marked))
found-own s call now Firming found mark knows is marked = cc
found-own s call now Losing found mark knows is marked = cc
found-own s call now (Loosening before new answer) found mark knows is marked = cc
found-own s call now (Loosened before new answer) found mark knows is marked =
    let same : before ≡ found = cc in knows.2 ∙ same
found-own s call now (Emptied answer) found mark knows is marked = cc

pub own-stands : (s : Settings) (words : List ℕ) (views : List (List PassView)) (id : ℕ)
    (before rest : List PassView) (pass : PassView) (call : Call) (phase : Phase)
    (found : ServerState) (mark : Mark) → IsKept s words views
    → get_elem? views id ≡ some (before ++ pass ∷ rest) → pass.state ≡ InCall call phase
    → action_of call.number phase ≡ action.Exchange found mark → is_marked_state found.mark ≡ true
    → server_in (get_or words (health_place call.server) 0) ≡ found
own-stands s words views id before rest pass call phase found mark kept there stands is marked =
    let one = one-joined views id before rest pass there in
    let passes = joined_passes views in
    let inside : one.place < length (states_of passes) =
    omega (arith, one.inside, length-map passes (λ (at : PassView). at.state)) in
    let stands_in : thread_at (core_in s words passes) one.place ≡ InCall call phase =
    get_or-map (λ (at : PassView). at.state) passes one.place pass NotEnrolled one.inside
    ∙ ap (λ (at : PassView). at.state) (one.at pass) ∙ stands in
    let knows =
    knows_at (core_in s words passes) one.place call kept.core.core inside phase stands_in in
    sym (server-there s words call.server knows.0)
    ∙ found-own s call (server_at (shared_in s words).servers call.server) phase found mark
    knows.2 is marked

allowed-mark : (s : Settings) (enrolled : ℕ) (mark : Mark) (stamp : ℕ) → IsFit s mark stamp
    → enrolled ≤ s.threads
    → ((number : ℕ) → owner_of mark ≡ Some number → number < enrolled) → IsMarkOf s mark
allowed-mark s enrolled (Up count) stamp fit le drawn = fit.0
allowed-mark s enrolled (Soft owner) stamp fit le drawn = omega (arith, drawn owner refl, le)
allowed-mark s enrolled (Hard owner) stamp fit le drawn = omega (arith, drawn owner refl, le)

pub all-sound : (s : Settings) (words : List ℕ) (views : List (List PassView))
    → IsKept s words views → (server : ℕ)
    → server < length (shared_in s words).servers
    → IsSoundWord s (get_or words (health_place server) 0)
all-sound s words views kept server inside =
    let core = kept.core.core in
    let there = server-there s words server inside in
    let in_health : server < length (health_in s words) =
    omega (arith, inside, length-map (health_in s words) server_in) in
    let unread : ServerState = record { mark = Up 0; stamp = 0 } in
    let fit : IsFit s (server_at (shared_in s words).servers server).mark
    (server_at (shared_in s words).servers server).stamp = core.fit server unread inside in
    let P : ServerState → Type 0 = λ it. IsFit s it.mark it.stamp in
    let Q : ServerState → Type 0 = λ it. IsMarkOf s it.mark in
    record {
      valid = subst IsWord (sym (health-get s words server in_health))
          (kept.core.valid server 0 in_health);
      allowed = subst Q there (allowed-mark s (shared_in s words).enrolled
          (server_at (shared_in s words).servers server).mark
          (server_at (shared_in s words).servers server).stamp fit
          (enrolled-le (core_in s words (joined_passes views)) core)
          (λ number owned. core.owners server number owned));
      fit = subst P there fit;
    }

-- the soft word of the group of a server is there
pub slots-inside : (s : Settings) (words : List ℕ) (views : List (List PassView)) (server : ℕ)
    → IsKept s words views
    → group_of s server < length (shared_in s words).slots
slots-inside s words views server kept =
    group-there (core_in s words (joined_passes views)) server kept.core.core

pub slots-within : (s : Settings) (words : List ℕ) (views : List (List PassView)) (server : ℕ)
    → IsKept s words views
    → IsWithinLimit s server (slots_in (get_or words (soft_place s (group_of s server)) 0))
slots-within s words views server kept =
    let there = slots-there s words (group_of s server) (slots-inside s words views server kept) in
    let P : Slots → Type 0 = λ it. IsWithinLimit s server it in
    subst P there (record {
      room = (own-group (core_in s words (joined_passes views)) server kept.core.core).room;
    })

-- ---- looks

pub looks-at-server : (s : Settings) (words : List ℕ) (server : ℕ) → All IsWord (health_in s words)
    → server < length (shared_in s words).servers
    → IsStepOn s words (set words (health_place server) (get_or words (health_place server) 0))
    server action.LookAtServer
    (get_or words (health_place server) 0)
looks-at-server s words server valid inside =
    let same = set-same words (health_place server) in
    record {
      left = ap (shared_in s) same;
      valid = subst (λ it. All IsWord (health_in s it)) (sym same) valid;
      reads = ap read.Server (server-there s words server inside);
    }

pub looks-at-slots : (s : Settings) (words : List ℕ) (server : ℕ) → All IsWord (health_in s words)
    → group_of s server < length (shared_in s words).slots
    → (let at = soft_place s (group_of s server) in
    IsStepOn s words (set words at (get_or words at 0)) server action.LookAtSlots
    (get_or words at 0))
looks-at-slots s words server valid there =
    let same = set-same words (soft_place s (group_of s server)) in
    record {
      left = ap (shared_in s) same;
      valid = subst (λ it. All IsWord (health_in s it)) (sym same) valid;
      reads = ap read.Slots (slots-there s words (group_of s server) there);
    }
