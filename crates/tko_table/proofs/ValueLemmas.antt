-- What each step on the table owes, where the place of its word and the number that it writes come
-- from functions.
use Rattle.std.proofs.Common.{◌≡◌, ℕ, ◌+◌, ◌-◌, ◌%◌, ◌^◌, ◌<◌, eqb, [], ◌∷◌, length, sym, subst, ap}
use Rattle.std.proofs.Common.{◌∙◌}
use prog.Atomic.{either}
use Rattle.atomic_table.specs.Table.{Allows}
use Rattle.tko_model.specs.declared.mark.Mark.{Mark}
use Rattle.tko_model.specs.declared.mark.Op.{Op}
use Rattle.tko_model.specs.Settings.{Settings}
use Rattle.tko_model.specs.declared.state.ServerState.{ServerState}
use Rattle.tko_word.specs.Words.{IsWord, one_slot, server_in, slot_over_mark}
use Rattle.tko_steps.specs.declared.phase.Call.{Call}
use Rattle.tko_steps.specs.declared.phase.Phase.{Phase}
use Rattle.tko_steps.specs.declared.phase.ThreadState.TheVariants.{InCall}
use Rattle.tko_steps.specs.declared.table.Action.TheVariants as action
use Rattle.tko_steps.specs.Steps.{in_call}
use Rattle.tko_steps.specs.Table.{action_of}
use Rattle.tko_table.specs.declared.pass.PassView.{PassView}
use Rattle.tko_table.specs.Passes.{count_enrolled}
use Rattle.tko_table.specs.Rule.{enrolment_place, health_place, soft_place}
use Rattle.tko_table.specs.Enrolments.{Enrolled}
use Rattle.tko_table.specs.Steps.{Exchanged, Looked, Plays, LookedAtSlots}
use Rattle.tko_table.proofs.AllowsLemmas.{Rule, Seat}
use Rattle.tko_table.proofs.AllowsStepLemmas.{allows-exchange, allows-look}
use Rattle.tko_table.proofs.AllowsSoftLemmas.{allows-give, allows-loosen, allows-settle}
use Rattle.tko_table.proofs.AllowsSoftLemmas.{allows-look_at_slots, allows-reserve}
use Rattle.tko_table.proofs.AllowsEnrolLemmas.{allows-enrol}
use Rattle.tko_model.specs.Groups.{group_of}
use Rattle.tko_steps.specs.Core.{slots_in}
use Rattle.tko_steps.specs.declared.phase.Slots.{Slots}

pub allows-look_at : (s : Settings) (slots id : ℕ) (me : Seat) (op : Op) (pass : PassView)
    (call : Call) (phase : Phase) (place : ℕ)
    → place ≡ health_place call.server
    → me.0 ≡ pass ∷ [] → in_call pass.state op call.server ≡ InCall call phase
    → action_of call.number phase ≡ action.LookAtServer
    → pass.settings ≡ s → call.server < s.servers
    → Allows (Rule s) slots id me place (λ n. n)
    (λ found new. Looked op place me found new × (new.1 ≡ me.1))
allows-look_at s slots id me op pass call phase place there alone begins is_look
    same_settings on_server =
    let P : ℕ → Type 0 = λ it. Allows (Rule s) slots id me it (λ n.
    n) (λ found new. Looked op it me found new × (new.1 ≡ me.1)) in
    subst P (sym there)
    (allows-look s slots id me op pass call phase alone begins is_look same_settings on_server)

pub allows-exchange_at : (s : Settings) (slots id : ℕ) (me : Seat) (pass : PassView) (call : Call)
    (phase : Phase) (found : ServerState) (mark : Mark)
    (expected new place : ℕ) → place ≡ health_place call.server
    → me.0 ≡ pass ∷ [] → pass.state ≡ InCall call phase
    → action_of call.number phase ≡ action.Exchange found mark
    → call.server < s.servers → IsWord expected → server_in expected ≡ found → IsWord new
    → server_in new ≡ record { mark = mark; stamp = found.stamp + 1 }
    → Allows (Rule s) slots id me place (λ n. either (eqb n expected) new n)
    (λ n after. Exchanged place me n after × (after.1 ≡ me.1))
allows-exchange_at s slots id me pass call phase found mark expected new place there alone stands is
    on_server valid expects is_new leaves =
    let P : ℕ → Type 0 = λ it.
    Allows (Rule s) slots id me it (λ n. either (eqb n expected) new n)
    (λ n after. Exchanged it me n after × (after.1 ≡ me.1)) in
    subst P (sym there) (allows-exchange s slots id me pass call phase found mark expected new alone
    stands is on_server valid expects is_new leaves)

pub allows-settle_of : (s : Settings) (slots id : ℕ) (me : Seat) (pass : PassView) (call : Call)
    (phase : Phase) (amount place : ℕ) → amount ≡ slot_over_mark
    → place ≡ soft_place s (group_of s call.server)
    → me.0 ≡ pass ∷ [] → pass.state ≡ InCall call phase
    → action_of call.number phase ≡ action.Settle
    → Allows (Rule s) slots id me place (λ n. (n + (2 ^ 64 - amount)) % 2 ^ 64)
    (λ found new. Plays me found new × (new.1 ≡ me.1))
allows-settle_of s slots id me pass call phase amount place made there alone stands is =
    let P : ℕ → Type 0 = λ it. Allows (Rule s) slots id me place (λ n.
    (n + (2 ^ 64 - it)) % 2 ^ 64) (λ found new. Plays me found new × (new.1 ≡ me.1)) in
    let Q : ℕ → Type 0 = λ it. Allows (Rule s) slots id me it (λ n.
    (n + (2 ^ 64 - 4294967295)) % 2 ^ 64) (λ found new. Plays me found new × (new.1 ≡ me.1)) in
    subst P (sym made)
    (subst Q (sym there) (allows-settle s slots id me pass call phase alone stands is))

pub allows-loosen_of : (s : Settings) (slots id : ℕ) (me : Seat) (pass : PassView) (call : Call)
    (phase : Phase) (amount place : ℕ) → amount ≡ slot_over_mark
    → place ≡ soft_place s (group_of s call.server)
    → me.0 ≡ pass ∷ [] → pass.state ≡ InCall call phase
    → action_of call.number phase ≡ action.Loosen
    → Allows (Rule s) slots id me place (λ n. (n + amount) % 2 ^ 64)
    (λ found new. Plays me found new × (new.1 ≡ me.1))
allows-loosen_of s slots id me pass call phase amount place made there alone stands is =
    let P : ℕ → Type 0 = λ it. Allows (Rule s) slots id me place (λ n.
    (n + it) % 2 ^ 64) (λ found new. Plays me found new × (new.1 ≡ me.1)) in
    let Q : ℕ → Type 0 = λ it. Allows (Rule s) slots id me it (λ n.
    (n + 4294967295) % 2 ^ 64) (λ found new. Plays me found new × (new.1 ≡ me.1)) in
    subst P (sym made)
    (subst Q (sym there) (allows-loosen s slots id me pass call phase alone stands is))

pub allows-give_of : (s : Settings) (slots id : ℕ) (me : Seat) (pass : PassView) (call : Call)
    (phase : Phase) (amount place : ℕ) → amount ≡ one_slot
    → place ≡ soft_place s (group_of s call.server)
    → me.0 ≡ pass ∷ [] → pass.state ≡ InCall call phase → action_of call.number phase ≡ action.Give
    → Allows (Rule s) slots id me place (λ n. (n + (2 ^ 64 - amount)) % 2 ^ 64)
    (λ found new. Plays me found new × (new.1 ≡ me.1))
allows-give_of s slots id me pass call phase amount place made there alone stands is =
    let P : ℕ → Type 0 = λ it. Allows (Rule s) slots id me place (λ n.
    (n + (2 ^ 64 - it)) % 2 ^ 64) (λ found new. Plays me found new × (new.1 ≡ me.1)) in
    let Q : ℕ → Type 0 = λ it. Allows (Rule s) slots id me it (λ n.
    (n + (2 ^ 64 - 4294967296)) % 2 ^ 64) (λ found new. Plays me found new × (new.1 ≡ me.1)) in
    subst P (sym made)
    (subst Q (sym there) (allows-give s slots id me pass call phase alone stands is))

pub allows-enrol_of : (s : Settings) (slots id : ℕ) (me : Seat) (amount : ℕ) → amount ≡ 1
    → count_enrolled me.0 < length me.0
    → Allows (Rule s) slots id me enrolment_place (λ n. (n + amount) % 2 ^ 64)
    (λ found new. Enrolled me found new × (new.1 ≡ me.1))
allows-enrol_of s slots id me amount one some_wait =
    let P : ℕ → Type 0 = λ it. Allows (Rule s) slots id me enrolment_place (λ n.
    (n + it) % 2 ^ 64) (λ found new. Enrolled me found new × (new.1 ≡ me.1)) in
    subst P (sym one) (allows-enrol s slots id me some_wait)

pub allows-look_at_slots_at : (s : Settings) (slots id : ℕ) (me : Seat) (pass : PassView)
    (call : Call) (phase : Phase) (place : ℕ)
    → place ≡ soft_place s (group_of s call.server)
    → me.0 ≡ pass ∷ [] → pass.state ≡ InCall call phase
    → action_of call.number phase ≡ action.LookAtSlots → pass.settings ≡ s
    → Allows (Rule s) slots id me place (λ n. n)
    (λ found new. LookedAtSlots me found new × (new.1 ≡ me.1))
allows-look_at_slots_at s slots id me pass call phase place there alone stands is same_settings =
    let P : ℕ → Type 0 = λ it. Allows (Rule s) slots id me it (λ n.
    n) (λ found new. LookedAtSlots me found new × (new.1 ≡ me.1)) in
    subst P (sym there)
    (allows-look_at_slots s slots id me pass call phase alone stands is same_settings)

pub allows-reserve_at : (s : Settings) (slots id : ℕ) (me : Seat) (pass : PassView) (call : Call)
    (phase : Phase) (place : ℕ)
    → place ≡ soft_place s (group_of s call.server)
    → me.0 ≡ pass ∷ [] → pass.state ≡ InCall call phase
    → (taken : Slots) (expected new : ℕ) → action_of call.number phase ≡ action.Reserve taken
    → slots_in expected ≡ taken
    → new ≡ (expected + 4294967296) % 2 ^ 64
    → Allows (Rule s) slots id me place (λ n. either (eqb n expected) new n)
    (λ found after. Plays me found after × (after.1 ≡ me.1))
allows-reserve_at s slots id me pass call phase place there alone stands taken expected new is
    expects made =
    let P : ℕ → Type 0 = λ it.
    Allows (Rule s) slots id me it (λ n. either (eqb n expected) new n)
    (λ found after. Plays me found after × (after.1 ≡ me.1)) in
    subst P (sym there) (allows-reserve s slots id me pass call phase alone stands taken expected
    new is expects made)

-- the place of a soft word under the settings of the table
pub soft-place-under : (key s : Settings) (server place : ℕ) → key ≡ s
    → place ≡ soft_place s (group_of s server)
    → place ≡ soft_place key (group_of key server)
soft-place-under key s server place same is =
    is ∙ ap (λ k. soft_place k (group_of k server)) (sym same)
