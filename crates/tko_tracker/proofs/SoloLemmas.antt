-- A tracker of one thread: nothing changes between the steps of a call, so no try is lost, and the
-- answer's place is where the call began.
use Rattle.std.proofs.Common.{◌≡◌, ◌≢◌, ℕ, ◌+◌, ◌<◌, Bool, true, false, cond, eqb, List, [], ◌++◌}
use Rattle.std.proofs.Common.{length, refl, sym, ap, ◌∙◌, subst, arith}
use Rattle.std.proofs.lemmas.Bool.{cond_both, eq-eqb, eqb-true}
use Rattle.std.proofs.lemmas.List.{append-nil}
use Rattle.tko_model.specs.declared.mark.Reply.TheVariants.{Contended, Full}
use Rattle.tko_model.specs.Settings.{Settings}
use Rattle.tko_model.specs.declared.state.ServerState.{ServerState}
use Rattle.tko_model.specs.Tracker.{opened, server_at}
use Rattle.tko_steps.specs.declared.phase.Call.{Call}
use Rattle.tko_steps.specs.declared.phase.Phase.{Phase}
use Rattle.tko_steps.specs.declared.phase.Phase.TheVariants.{Start, Read, AtThreshold, Limit}
use Rattle.tko_steps.specs.declared.phase.Phase.TheVariants.{Reserving, Holding, Firming, Losing}
use Rattle.tko_steps.specs.declared.phase.Phase.TheVariants.{Loosening, Loosened, Emptied}
use Rattle.tko_steps.specs.declared.phase.Slots.{Slots}
use Rattle.tko_steps.specs.declared.phase.ThreadState.TheVariants.{InCall}
use Rattle.tko_steps.specs.declared.table.Decision.{Decision}
use Rattle.tko_steps.specs.declared.table.Decision.TheVariants.{Goes, Answers}
use Rattle.tko_steps.specs.Core.{CoreState, seen_by, thread_at, slots_at}
use Rattle.tko_steps.specs.Invariant.{IsCore}
use Rattle.tko_steps.specs.Steps.{is_done}
use Rattle.tko_steps.specs.Table.{action_of, from_start, goes, lost_try, next_of, same_server}
use Rattle.tko_steps.proofs.LoserLemmas.{eq-same_slots}
use Rattle.tko_steps.proofs.StartLemmas.{from_start-is, is_plain, plain≢}
use Rattle.tko_steps.proofs.TableLemmas.{eq-same_server}
use Rattle.tko_table.specs.declared.pass.Change.{Change}
use Rattle.tko_table.specs.History.{Replays}
use Rattle.tko_table.specs.Passes.{changes_by, decided_after}
use Rattle.tko_table.proofs.LeadsLemmas.{leads-once}
use Rattle.tko_tracker.proofs.PlaceLemmas.{Saw}
use Rattle.tko_model.specs.Groups.{group_of, limit_at}
use Rattle.tko_tracker.proofs.OneThreadLemmas.{free, slots-free}

-- ---- what is known at each phase

-- nothing changed since the call began, and then the server is like this
abbrev pub StillSees : Settings → List Change → List Change → ℕ → ServerState → Type 0
StillSees s begun seen server found = (seen ≡ begun) × Saw s seen server found

abbrev pub SoloAt : Settings → ℕ → List Change → List Change → ℕ → Phase → Type 0
SoloAt s server begun seen decided Start = seen ≡ begun
SoloAt s server begun seen decided (Read found mark answer) =
    StillSees s begun seen server found × (is_plain answer ≡ true)
SoloAt s server begun seen decided (AtThreshold found) = StillSees s begun seen server found
SoloAt s server begun seen decided (Limit found) =
    StillSees s begun seen server found × (decided ≡ length begun)
SoloAt s server begun seen decided (Reserving found slots) =
    (servers : List ServerState) × (seen ≡ begun) × Replays s seen servers
    × (server_at servers server ≡ found) × (slots ≡ free s server servers)
SoloAt s server begun seen decided (Holding found) = StillSees s begun seen server found
SoloAt s server begun seen decided Firming = decided ≡ length begun
SoloAt s server begun seen decided Losing = ⊥
SoloAt s server begun seen decided (Loosening found mark answer) =
    (seen ≡ begun) × (is_plain answer ≡ true)
SoloAt s server begun seen decided (Loosened found mark answer) =
    (seen ≡ begun) × (is_plain answer ≡ true)
SoloAt s server begun seen decided (Emptied answer) =
    (decided ≡ length begun) × (is_plain answer ≡ true)

abbrev pub SoloAfter : Settings → ℕ → List Change → List Change → ℕ → Decision → Type 0
SoloAfter s server begun seen decided (Goes lost phase) = SoloAt s server begun seen decided phase
SoloAfter s server begun seen decided (Answers answer) =
    (answer ≢ Contended) × (decided ≡ length begun)

module _ (s : Settings) (begun seen : List Change) (decided : ℕ) (call : Call) (core : CoreState)
    (thread : ℕ) (is : IsCore core)
    (inside : thread < length core.threads) (one : core.settings.threads ≡ 1)
    (settings : core.settings ≡ s) (found_by : Replays s (seen ++ []) core.shared.servers) where
  abbrev servers : List ServerState
  servers = core.shared.servers

  abbrev now : ServerState
  now = server_at servers call.server

  abbrev history : List Change
  history = seen ++ []

  abbrev After : ℕ → List Change → Decision → Type 0
  After at new decision = SoloAfter s call.server begun new at decision

  still : (there : List ServerState) → Replays s seen there → servers ≡ there
  still there replays =
      let P : List Change → Type 0 = λ it. Replays s it servers in
      leads-once s (opened s).servers servers there seen
      (subst P (append-nil seen) found_by).leads replays.leads

  stays : (found : ServerState) → Saw s seen call.server found → same_server now found ≡ true
  stays found saw = eq-same_server now found
      (ap (λ it. server_at it call.server) (still saw.servers saw.replays) ∙ saw.is)

  -- more steps that change nothing
  seen-on : (more : List Change) → more ≡ [] → seen ≡ begun → history ++ more ≡ begun
  seen-on more none same =
      ap (λ it. history ++ it) none ∙ append-nil history ∙ append-nil seen ∙ same

  replays-now : Replays s (history ++ []) servers
  replays-now = subst (λ it. Replays s it servers) (sym (append-nil history)) found_by

  saw-now : Saw s (history ++ []) call.server now
  saw-now = record { servers = servers; replays = replays-now; is = refl }

  length-on : seen ≡ begun → length history ≡ length begun
  length-on same = ap length (append-nil seen ∙ same)

  start-after : seen ≡ begun → After (length history) (history ++ []) (from_start s call now)
  start-after same =
      from_start-is s call now (After (length history) (history ++ []))
      (λ answer is_answer is. (is_answer.contended, length-on same))
      (λ soft fresh is. (seen-on [] refl same, saw-now))
      (λ mark answer put can by is. ((seen-on [] refl same, saw-now), put.plain))
      (λ mark answer put can own is. (seen-on [] refl same, put.plain))

  -- the look at the server is as it was
  kept : (found : ServerState) → Saw s seen call.server found
      → Saw s (history ++ []) call.server found
  kept found saw =
      record {
        servers = saw.servers;
        replays = subst (λ it. Replays s it saw.servers)
            (sym (append-nil history ∙ append-nil seen)) saw.replays;
        is = saw.is;
      }

  -- what the step of this phase leaves
  abbrev pub SoloNext : Phase → Type 0
  SoloNext phase =
      let it = seen_by s core.shared call.server (action_of call.number phase) in
      After (decided_after phase decided (length history))
      (history ++ changes_by call phase (is_done it)) (next_of s call phase it)

  pub solo-next : (phase : Phase) → thread_at core thread ≡ InCall call phase
      → SoloAt s call.server begun seen decided phase → SoloNext phase
  solo-next Start stands knows = start-after knows
  solo-next (Read found mark answer) stands knows =
      let won = stays found knows.0.1 in
      let P : Bool → Type 0 =
      λ test. After (length history) (history ++ changes_by call (Read found mark answer) test)
      (cond test (Answers answer) (lost_try s call)) in
      subst P (sym won) (plain≢ answer Contended knows.1 refl, length-on knows.0.0)
  solo-next (AtThreshold found) stands knows =
      let slots = slots_at core.shared.slots (group_of s call.server) in
      let empty : slots ≡ free s call.server servers =
      subst (λ (it : Settings). slots_at core.shared.slots (group_of it call.server)
      ≡ free it call.server servers) settings
      (slots-free core thread call (AtThreshold found) is one inside stands refl refl) in
      let none : slots.held ≡ 0 = ap (λ (it : Slots). it.held) empty in
      let rest = cond (eqb (slots.firm + slots.held) (limit_at s call.server)) (lost_try s call)
      (goes call (Reserving found slots)) in
      let P : Decision → Type 0 = After (length history) (history ++ []) in
      let same : now ≡ found =
      ap (λ it. server_at it call.server) (still knows.1.servers knows.1.replays)
      ∙ knows.1.is in
      cond_both (eqb slots.firm (limit_at s call.server)) (goes call (Limit found)) rest P
      (λ full. ((seen-on [] refl knows.0, kept found knows.1), length-on knows.0))
      (λ below. cond_both (eqb (slots.firm + slots.held) (limit_at s call.server)) (lost_try s call)
      (goes call (Reserving found slots)) P
      (λ all.
      let no_slot = eqb-true (slots.firm + slots.held) (limit_at s call.server) all in
      let full : eqb slots.firm (limit_at s call.server) ≡ true =
      eq-eqb slots.firm (limit_at s call.server) (omega (arith, no_slot, none)) in
      let e : true ≡ false = sym full ∙ below in cc)
      (λ left. (servers, seen-on [] refl knows.0, replays-now, same, empty)))
  solo-next (Limit found) stands knows =
      let same = eq-same_server found now (sym (ap (λ it.
      server_at it call.server) (still knows.0.1.servers knows.0.1.replays) ∙ knows.0.1.is)) in
      let P : Bool → Type 0 =
      λ test. After decided (history ++ []) (cond test (Answers Full) (lost_try s call)) in
      subst P (sym same) (λ e. cc, knows.1)
  solo-next (Reserving found taken) stands knows =
      let slots = slots_at core.shared.slots (group_of s call.server) in
      let there = knows.0 in
      let is_there : servers ≡ there = still there knows.2 in
      let empty : slots ≡ free s call.server servers =
      subst (λ (it : Settings). slots_at core.shared.slots (group_of it call.server)
      ≡ free it call.server servers) settings
      (slots-free core thread call (Reserving found taken) is one inside stands refl refl) in
      let same : slots ≡ taken = empty ∙ ap (free s call.server) is_there ∙ sym knows.4 in
      let won = eq-same_slots slots taken same in
      let P : Bool → Type 0 =
      λ test. After (length history) (history ++ changes_by call (Reserving found taken) test)
      (cond test (goes call (Holding found)) (lost_try s call)) in
      subst P (sym won) (
        seen-on [] refl knows.1,
        kept found (record { servers = there; replays = knows.2; is = knows.3 }),
      )
  solo-next (Holding found) stands knows =
      let won = stays found knows.1 in
      let P : Bool → Type 0 =
      λ test. After (length history) (history ++ changes_by call (Holding found) test)
      (cond test (goes call Firming) (goes call Losing)) in
      subst P (sym won) (length-on knows.0)
  solo-next Firming stands knows = (λ e. cc, knows)
  solo-next Losing stands knows = absurd knows
  solo-next (Loosening found mark answer) stands knows = (seen-on [] refl knows.0, knows.1)
  solo-next (Loosened found mark answer) stands knows = (length-on knows.0, knows.1)
  solo-next (Emptied answer) stands knows = (plain≢ answer Contended knows.1 refl, knows.0)
