-- Counts that are 0 once every thread is done.
use Rattle.std.proofs.Common.{◌≡◌, ℕ, ◌+◌, Bool, true, false, List, [], ◌∷◌, All, Some, count_by}
use Rattle.std.proofs.Common.{inl, inr, refl, sym, ap, ◌∙◌, arith, ◌&&◌}
use Rattle.std.proofs.lemmas.Bool.{cases_Bool, eq-eqb, eqb-true}
use Rattle.std.proofs.lemmas.List.Elements.{All-head, All-tail}
use Rattle.std.proofs.lemmas.List.Sums.{sum_by-cons}
use Rattle.tko_model.specs.declared.mark.Mark.{Mark}
use Rattle.tko_model.specs.declared.mark.Mark.TheVariants.{Up, Soft, Hard}
use Rattle.tko_model.specs.Settings.{Settings}
use Rattle.tko_model.specs.declared.state.ServerState.{ServerState}
use Rattle.tko_model.specs.Tracker.{is_soft, server_at, softs_from}
use Rattle.tko_steps.specs.declared.phase.ThreadState.{ThreadState}
use Rattle.tko_steps.specs.declared.phase.ThreadState.TheVariants.{NotEnrolled, Idle, InCall}
use Rattle.tko_steps.specs.Core.{drawn_number, no_slots}
use Rattle.tko_steps.specs.Owners.{has_number, owner_of}
use Rattle.tko_steps.specs.Invariant.{holds_in}
use Rattle.tko_steps.specs.Steps.{is_marked_state}
use Rattle.tko_steps.proofs.CountLemmas.{bit}
use Rattle.tko_table.specs.declared.pass.PassView.{PassView}
use Rattle.tko_table.specs.Closing.{IsDone}
use Rattle.tko_table.specs.Passes.{PassOwnsItsMarks, is_marked_by}
use Rattle.tko_table.specs.Rule.{states_of}
use Rattle.tko_model.specs.Groups.{is_in}
use Rattle.tko_steps.specs.declared.phase.Slots.{Slots}

none-counted : {X : Type 0} (p : X → Bool) (xs : List X) → All (λ x. p x ≡ false) xs
    → count_by p xs ≡ 0
none-counted p [] all = refl
none-counted p (x ∷ xs) all =
    let first = ap bit (All-head (λ x. p x ≡ false) x xs all) in
    let rest = none-counted p xs (All-tail (λ x. p x ≡ false) x xs all) in
    omega (arith, sum_by-cons (λ it. bit (p it)) x xs, first, rest)

number-is : (state : ThreadState) (number : ℕ) → has_number number state ≡ true
    → drawn_number state ≡ Some number
number-is NotEnrolled number e = cc
number-is (Idle own) number e = ap Some (eqb-true own number e)
number-is (InCall call phase) number e = ap Some (eqb-true call.number number e)

-- no pass holds a slot, or has a soft mark that is not settled
pub none-hold : (s : Settings) (group : ℕ) (passes : List PassView) → All IsDone passes
    → count_by (holds_in s group) (states_of passes) ≡ 0
none-hold s group [] all = refl
none-hold s group (pass ∷ passes) all =
    let done = All-head IsDone pass passes all in
    let first : bit (holds_in s group pass.state) ≡ 0 =
    ap (λ state. bit (holds_in s group state)) done.idle in
    omega (
      arith,
      sum_by-cons (λ it. bit (holds_in s group it)) pass.state (states_of passes),
      first,
      none-hold s group passes (All-tail IsDone pass passes all),
    )

-- no pass has a number that a mark names
pub none-named : (servers : List ServerState) (server number : ℕ) (passes : List PassView)
    → is_marked_by (Some number) (server_at servers server).mark ≡ true
    → All (PassOwnsItsMarks servers) passes → All IsDone passes
    → count_by (has_number number) (states_of passes) ≡ 0
none-named servers server number [] marked owned all = refl
none-named servers server number (pass ∷ passes) marked owned all =
    let done = All-head IsDone pass passes all in
    let own = All-head (PassOwnsItsMarks servers) pass passes owned in
    let rest = none-named servers server number passes marked
    (All-tail (PassOwnsItsMarks servers) pass passes owned) (All-tail IsDone pass passes all) in
    let total = sum_by-cons (λ it. bit (has_number number it)) pass.state (states_of passes) in
    elim (cases_Bool (has_number number pass.state)) [
      | inl has ↦
          let drew = number-is pass.state number has in
          let is : is_marked_by (drawn_number pass.state) (server_at servers server).mark ≡ true =
          ap (λ drawn. is_marked_by drawn (server_at servers server).mark) drew ∙ marked in
          let e : true ≡ false = sym is ∙ sym (own server) ∙ done.none server in cc
      | inr hasnt ↦ omega (arith, total, rest, ap bit hasnt)
    ]

pub names-owner : (mark : Mark) (number : ℕ) → owner_of mark ≡ Some number
    → is_marked_by (Some number) mark ≡ true
names-owner (Up count) number e = cc
names-owner (Soft owner) number e = let same : owner ≡ number = cc in eq-eqb owner number same
names-owner (Hard owner) number e = let same : owner ≡ number = cc in eq-eqb owner number same

pub unmarked-from : (mark : Mark) → ((number : ℕ) → owner_of mark ≡ Some number → ⊥)
    → is_marked_state mark ≡ false
unmarked-from (Up count) none = refl
unmarked-from (Soft owner) none = absurd (none owner refl)
unmarked-from (Hard owner) none = absurd (none owner refl)

not-soft : (mark : Mark) → is_marked_state mark ≡ false → is_soft mark ≡ false
not-soft (Up count) e = refl
not-soft (Soft owner) e = cc
not-soft (Hard owner) e = refl

-- servers that are not marked have no soft mark
pub none-soft : (s : Settings) (group first : ℕ) (servers : List ServerState)
    → All (λ (server : ServerState). is_marked_state server.mark ≡ false) servers
    → softs_from s group first servers ≡ 0
none-soft s group first [] all = refl
none-soft s group first (server ∷ servers) all =
    let P : ServerState → Type 0 = λ it. is_marked_state it.mark ≡ false in
    let plain = not-soft server.mark (All-head P server servers all) in
    let none : bit (is_soft server.mark && is_in s group first) ≡ 0 =
    ap (λ it. bit (it && is_in s group first)) plain in
    omega (arith, none, none-soft s group (first + 1) servers (All-tail P server servers all))

pub no-slots : (slots : Slots) → slots.firm ≡ 0 → slots.held ≡ 0 → slots ≡ no_slots
no-slots slots firm held = λ i. record { firm = firm i; held = held i }
