-- Where there is one thread: the changes of others, and the slots that are free.
use Rattle.std.proofs.Common.{◌≡◌, ℕ, zero, suc, ◌<◌, Bool, false, List, [], ◌∷◌, length, get_or}
use Rattle.std.proofs.Common.{count_by, All, refl, sym, ap, ◌∙◌, arith}
use Rattle.std.proofs.lemmas.Bool.{cond-true, eq-eqb}
use Rattle.std.proofs.lemmas.List.Elements.{All-head}
use Rattle.tko_model.specs.Settings.{Settings}
use Rattle.tko_model.specs.declared.state.ServerState.{ServerState}
use Rattle.tko_model.specs.Tracker.{softs_beside}
use Rattle.tko_steps.specs.declared.phase.Call.{Call}
use Rattle.tko_steps.specs.declared.phase.Phase.{Phase}
use Rattle.tko_steps.specs.declared.phase.Slots.{Slots}
use Rattle.tko_steps.specs.declared.phase.ThreadState.TheVariants.{NotEnrolled, InCall}
use Rattle.tko_steps.specs.Core.{CoreState, thread_at, slots_at}
use Rattle.tko_steps.specs.Invariant.{IsCore, holds_at, is_loose_at, firm_at, held_at, holds_in}
use Rattle.tko_steps.specs.Invariant.{is_loose_in}
use Rattle.tko_steps.proofs.CountLemmas.{bit, holds-own, loose-own}
use Rattle.tko_table.specs.declared.pass.Change.{Change}
use Rattle.tko_table.specs.History.{made_by}
use Rattle.tko_model.specs.Groups.{group_of}
use Rattle.tko_steps.proofs.CoreLemmas.{own-group}
use Rattle.tko_steps.specs.declared.phase.ThreadState.{ThreadState}

-- the changes of others, where there is no other
pub none-other : (number : ℕ) (changes : List Change) → number < 1
    → All (λ (change : Change). change.number < 1) changes → made_by number changes ≡ []
    → changes ≡ []
none-other number [] low drawn none = refl
none-other number (change ∷ changes) low drawn none =
    let below : change.number < 1 =
    All-head (λ (it : Change). it.number < 1) change changes drawn in
    let same : change.number ≡ number = omega (arith, low, below) in
    let made : made_by number (change ∷ changes) ≡ change ∷ made_by number changes =
    cond-true _ _ _ (eq-eqb change.number number same) in
    let e : change ∷ made_by number changes ≡ [] = sym made ∙ none in
    cc

-- a count over one thread
one-count : {X : Type 0} (p : X → Bool) (xs : List X) (at : ℕ) (d : X) → length xs ≡ 1
    → at < length xs → count_by p xs ≡ bit (p (get_or xs at d))
one-count p [] at d one inside = absurd (omega (arith, one))
one-count p (x ∷ y ∷ xs) at d one inside = absurd (omega (arith, one))
one-count p (x ∷ []) zero d one inside = omega arith
one-count p (x ∷ []) (suc at) d one inside = absurd (omega (arith, inside))

-- the slots of a tracker whose one thread holds none
abbrev pub free : Settings → ℕ → List ServerState → Slots
free s server servers = record { firm = softs_beside s server servers; held = 0 }

pub slots-free : (core : CoreState) (thread : ℕ) (call : Call) (phase : Phase) → IsCore core
    → core.settings.threads ≡ 1 → thread < length core.threads
    → thread_at core thread ≡ InCall call phase → holds_at phase ≡ false → is_loose_at phase ≡ false
    → slots_at core.shared.slots (group_of core.settings call.server)
    ≡ free core.settings call.server core.shared.servers
slots-free core thread call phase is one inside stands none settled =
    let s = core.settings in
    let own = group_of s call.server in
    let mine = own-group core call.server is in
    let state : ThreadState = InCall call phase in
    let alone : length core.threads ≡ 1 = is.threads ∙ one in
    let held : count_by (holds_in s own) core.threads ≡ 0 =
    one-count (holds_in s own) core.threads thread NotEnrolled alone inside
    ∙ ap (λ it. bit (holds_in s own it)) stands
    ∙ ap bit (holds-own s call.server state refl ∙ none) in
    let loose : count_by (is_loose_in s own) core.threads ≡ 0 =
    one-count (is_loose_in s own) core.threads thread NotEnrolled alone inside
    ∙ ap (λ it. bit (is_loose_in s own it)) stands
    ∙ ap bit (loose-own s call.server state refl ∙ settled) in
    let firm_is : firm_at core own ≡ softs_beside s call.server core.shared.servers =
    omega (arith, mine.firm, loose) in
    let held_is : held_at core own ≡ 0 = sym mine.held ∙ held in
    λ i. record { firm = firm_is i; held = held_is i }
