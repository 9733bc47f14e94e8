-- What each step on the soft word owes.
use Rattle.std.proofs.Common.{◌≡◌, ℕ, ◌+◌, ◌-◌, ◌%◌, ◌^◌, ◌<◌, eqb, List, [], ◌∷◌, get_or, set, All}
use Rattle.std.proofs.Common.{sym, ap, ◌∙◌, subst}
use prog.Atomic.{either}
use Rattle.atomic_table.specs.Table.{Allows}
use Rattle.tko_model.specs.Settings.{Settings}
use Rattle.tko_word.specs.Words.{IsWord}
use Rattle.tko_steps.specs.declared.phase.Call.{Call}
use Rattle.tko_steps.specs.declared.phase.Phase.{Phase}
use Rattle.tko_steps.specs.declared.phase.Slots.{Slots}
use Rattle.tko_steps.specs.declared.phase.ThreadState.TheVariants.{InCall}
use Rattle.tko_steps.specs.declared.table.Action.{Action}
use Rattle.tko_steps.specs.declared.table.Action.TheVariants as action
use Rattle.tko_steps.specs.Core.{slots_in}
use Rattle.tko_steps.specs.StepNeeds.{CanAct}
use Rattle.tko_steps.specs.Table.{action_of}
use Rattle.tko_table.specs.declared.pass.PassView.{PassView}
use Rattle.tko_table.specs.Rule.{health_in, shared_in, soft_place}
use Rattle.tko_table.specs.Steps.{IsWithinLimit, LookedAtSlots, Plays}
use Rattle.tko_table.proofs.StepLemmas.{IsStepOn, can-act, looks-at-slots, slots-within}
use Rattle.tko_table.proofs.StepLemmas.{slots-inside}
use Rattle.tko_table.proofs.WordStepLemmas.{gives, loosens, reserves, settles}
use Rattle.tko_model.specs.Groups.{group_of}
use Rattle.tko_table.proofs.AllowsLemmas.{Rule, Seat}
use Rattle.tko_table.proofs.AllowsStepLemmas.{allows-call, allows-with, head_is}

-- a load of the soft word
pub allows-look_at_slots : (s : Settings) (slots id : ℕ) (me : Seat) (pass : PassView) (call : Call)
    (phase : Phase)
    → me.0 ≡ pass ∷ [] → pass.state ≡ InCall call phase
    → action_of call.number phase ≡ action.LookAtSlots → pass.settings ≡ s
    → Allows (Rule s) slots id me (soft_place s (group_of s call.server)) (λ n. n)
    (λ found new. LookedAtSlots me found new × (new.1 ≡ me.1))
allows-look_at_slots s slots id me pass call phase alone stands is_look same_settings =
    allows-with (Rule s) slots id me (soft_place s (group_of s call.server)) (λ n. n)
    (λ found new. Plays me found new × (new.1 ≡ me.1))
    (λ found new. LookedAtSlots me found new × (new.1 ≡ me.1))
    (λ found. IsWithinLimit s call.server (slots_in found))
    (allows-call s slots id me (soft_place s (group_of s call.server))
    (λ n. n) pass call phase alone stands (λ state kept there fits.
    let found = get_or state.words (soft_place s (group_of s call.server)) 0 in
    let P : Action → Type 0 = λ it. IsStepOn s state.words
    (set state.words (soft_place s (group_of s call.server)) found) call.server it found in
    subst P (sym is_look)
    (looks-at-slots s state.words call.server kept.core.valid
    (slots-inside s state.words state.views call.server kept))))
    (λ state kept at. slots-within s state.words state.views call.server kept)
    (λ found new within plays. (
      record {
        plays = plays.0;
        within = λ other own_call own_phase other_alone other_stands.
            let same : pass ≡ other = head_is me.0 pass other alone other_alone in
            let settings : s ≡ other.settings =
            sym same_settings ∙ ap (λ (it : PassView). it.settings) same in
            let both : InCall call phase ≡ InCall own_call own_phase =
            sym stands ∙ ap (λ (it : PassView). it.state) same ∙ other_stands in
            let calls : call ≡ own_call = cc in
            subst (λ (it : Call). IsWithinLimit other.settings it.server (slots_in found)) calls
            (subst (λ it. IsWithinLimit it call.server (slots_in found)) settings within);
      },
      plays.1,
    ))

-- a change of the soft word
module _ (s : Settings) (slots id : ℕ) (me : Seat) (pass : PassView) (call : Call) (phase : Phase)
    (alone : me.0 ≡ pass ∷ [])
    (stands : pass.state ≡ InCall call phase) where
  on_soft : (act : Action) (f : ℕ → ℕ) → action_of call.number phase ≡ act
      → ((words : List ℕ) → All IsWord (health_in s words)
      → get_or words (soft_place s (group_of s call.server)) 0 < 2 ^ 64
      → CanAct s (shared_in s words) call.server act
      → IsStepOn s words (set words (soft_place s (group_of s call.server))
      (f (get_or words (soft_place s (group_of s call.server)) 0))) call.server act
      (get_or words (soft_place s (group_of s call.server)) 0))
      → Allows (Rule s) slots id me (soft_place s (group_of s call.server)) f
      (λ found new. Plays me found new × (new.1 ≡ me.1))
  on_soft act f is steps =
      allows-call s slots id me (soft_place s (group_of s call.server)) f pass call phase alone
      stands (λ state kept there fits.
      let n = get_or state.words (soft_place s (group_of s call.server)) 0 in
      let P : Action → Type 0 = λ it. IsStepOn s state.words
      (set state.words (soft_place s (group_of s call.server)) (f n)) call.server it n in
      let can : CanAct s (shared_in s state.words) call.server act =
      subst (CanAct s (shared_in s state.words) call.server) is
      (can-act s state.words state.views id [] [] pass call phase kept there stands) in
      subst P (sym is) (steps state.words kept.core.valid fits can))

  pub allows-settle : action_of call.number phase ≡ action.Settle
      → Allows (Rule s) slots id me (soft_place s (group_of s call.server)) (λ n.
      (n + (2 ^ 64 - 4294967295)) % 2 ^ 64) (λ found new. Plays me found new × (new.1 ≡ me.1))
  allows-settle is = on_soft action.Settle (λ n. (n + (2 ^ 64 - 4294967295)) % 2 ^ 64) is
      (λ words valid fits can. settles s words call.server valid fits can)

  pub allows-loosen : action_of call.number phase ≡ action.Loosen
      → Allows (Rule s) slots id me (soft_place s (group_of s call.server))
      (λ n. (n + 4294967295) % 2 ^ 64) (λ found new. Plays me found new × (new.1 ≡ me.1))
  allows-loosen is = on_soft action.Loosen (λ n. (n + 4294967295) % 2 ^ 64) is
      (λ words valid fits can. loosens s words call.server valid fits can)

  pub allows-give : action_of call.number phase ≡ action.Give
      → Allows (Rule s) slots id me (soft_place s (group_of s call.server)) (λ n.
      (n + (2 ^ 64 - 4294967296)) % 2 ^ 64) (λ found new. Plays me found new × (new.1 ≡ me.1))
  allows-give is = on_soft action.Give (λ n. (n + (2 ^ 64 - 4294967296)) % 2 ^ 64) is
      (λ words valid fits can. gives s words call.server valid fits can)

  pub allows-reserve : (taken : Slots) (expected new : ℕ)
      → action_of call.number phase ≡ action.Reserve taken → slots_in expected ≡ taken
      → new ≡ (expected + 4294967296) % 2 ^ 64
      → Allows (Rule s) slots id me (soft_place s (group_of s call.server)) (λ n.
      either (eqb n expected) new n) (λ found after. Plays me found after × (after.1 ≡ me.1))
  allows-reserve taken expected new is expects made =
      let P : ℕ → Type 0 =
      λ it. Allows (Rule s) slots id me (soft_place s (group_of s call.server)) (λ n.
      either (eqb n expected) it n) (λ found after. Plays me found after × (after.1 ≡ me.1)) in
      subst P (sym made)
      (on_soft (action.Reserve taken)
      (λ n. either (eqb n expected) ((expected + 4294967296) % 2 ^ 64) n) is
      (λ words valid fits can. reserves s words call.server valid fits expected taken can expects))
