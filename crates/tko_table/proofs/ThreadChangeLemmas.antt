-- The changes of each thread, once a step made these, and a pass and the history.
use Rattle.std.proofs.Common.{◌≡◌, ℕ, ◌<◌, ◌≤◌, Bool, true, false, List, [], ◌∷◌, ◌++◌, length, All}
use Rattle.std.proofs.Common.{Option, Some, None, refl, sym, ap, ◌∙◌, arith}
use Rattle.std.proofs.lemmas.List.{append-nil, length-append}
use Rattle.std.proofs.lemmas.List.Elements.{All-cons, All-nil}
use Rattle.tko_model.specs.declared.mark.Reply.{Reply}
use Rattle.tko_model.specs.declared.mark.Reply.TheVariants as reply
use Rattle.tko_steps.specs.declared.phase.Call.{Call}
use Rattle.tko_steps.specs.declared.phase.Phase.{Phase}
use Rattle.tko_steps.specs.declared.phase.Phase.TheVariants.{Start, Read, AtThreshold, Limit}
use Rattle.tko_steps.specs.declared.phase.Phase.TheVariants.{Reserving, Holding, Firming, Losing}
use Rattle.tko_steps.specs.declared.phase.Phase.TheVariants.{Loosening, Loosened, Emptied}
use Rattle.tko_table.specs.declared.pass.Change.{Change}
use Rattle.tko_table.specs.declared.pass.PassView.{PassView}
use Rattle.tko_table.specs.History.{Begins, change_by, changes_in, made_by}
use Rattle.tko_table.specs.Passes.{StandsIn, changes_by, pending}
use Rattle.tko_table.proofs.AddedChangeLemmas.{made_by-append, made_by-other, made_by-own}

-- ---- the changes of each thread, once a step made these

pub made-changes : (call : Call) (phase : Phase) (won : Bool)
    → made_by call.number (changes_by call phase won) ≡ changes_by call phase won
made-changes call phase false = refl
made-changes call Start true = refl
made-changes call (Read found mark answer) true = made_by-own call answer
made-changes call (AtThreshold found) true = refl
made-changes call (Limit found) true = refl
made-changes call (Reserving found slots) true = refl
made-changes call (Holding found) true = made_by-own call reply.TookSoft
made-changes call Firming true = refl
made-changes call Losing true = refl
made-changes call (Loosening found mark answer) true = refl
made-changes call (Loosened found mark answer) true = made_by-own call answer
made-changes call (Emptied answer) true = refl

pub other-changes : (number : ℕ) (call : Call) (phase : Phase) (won : Bool)
    → (call.number ≡ number → ⊥) → made_by number (changes_by call phase won) ≡ []
other-changes number call phase false apart = refl
other-changes number call Start true apart = refl
other-changes number call (Read found mark answer) true apart =
    made_by-other number call answer apart
other-changes number call (AtThreshold found) true apart = refl
other-changes number call (Limit found) true apart = refl
other-changes number call (Reserving found slots) true apart = refl
other-changes number call (Holding found) true apart =
    made_by-other number call reply.TookSoft apart
other-changes number call Firming true apart = refl
other-changes number call Losing true apart = refl
other-changes number call (Loosening found mark answer) true apart = refl
other-changes number call (Loosened found mark answer) true apart =
    made_by-other number call answer apart
other-changes number call (Emptied answer) true apart = refl

drawn-by : (P : Change → Type 0) (call : Call) → ((answer : Reply)
    → All P (change_by call answer ∷ [])) → All P [] → (phase : Phase) (won : Bool)
    → All P (changes_by call phase won)
drawn-by P call one none phase false = none
drawn-by P call one none Start true = none
drawn-by P call one none (Read found mark answer) true = one answer
drawn-by P call one none (AtThreshold found) true = none
drawn-by P call one none (Limit found) true = none
drawn-by P call one none (Reserving found slots) true = none
drawn-by P call one none (Holding found) true = one reply.TookSoft
drawn-by P call one none Firming true = none
drawn-by P call one none Losing true = none
drawn-by P call one none (Loosening found mark answer) true = none
drawn-by P call one none (Loosened found mark answer) true = one answer
drawn-by P call one none (Emptied answer) true = none

pub changes-drawn : (enrolled : ℕ) (call : Call) (phase : Phase) (won : Bool)
    → call.number < enrolled
    → All (λ (change : Change). change.number < enrolled) (changes_by call phase won)
changes-drawn enrolled call phase won less =
    let P : Change → Type 0 = λ (change : Change). change.number < enrolled in
    let one : (answer : Reply) → All P (change_by call answer ∷ []) =
    λ answer. All-cons P (change_by call answer) [] less (All-nil P) in
    drawn-by P call one (All-nil P) phase won

-- ---- a pass and the history

-- other threads' changes add nothing to a thread's own
pub told-other : (drew : Option ℕ) (history changes : List Change) (pass : PassView)
    → ((number : ℕ) → drew ≡ Some number → made_by number changes ≡ [])
    → StandsIn drew history pass → StandsIn drew (history ++ changes) pass
told-other None history changes pass none told = told
told-other (Some number) history changes pass none told =
    let same : made_by number (history ++ changes) ≡ made_by number history =
    made_by-append number history changes ∙ ap (λ it. made_by number history ++ it)
    (none number refl) ∙ append-nil (made_by number history) in
    (same ∙ told.0, told.1 ∙ sym same)

-- a beginning of the history that is no shorter than what a pass has seen
longer : (seen more one other history : List Change) → history ≡ seen ++ one
    → history ≡ more ++ other → length seen ≤ length more
    → (rest : List Change) × (more ≡ seen ++ rest)
longer [] more one other history is is_more le = (more, refl)
longer (change ∷ seen) [] one other history is is_more le = absurd (omega arith)
longer (change ∷ seen) (first ∷ more) one other history is is_more le =
    let both : change ∷ (seen ++ one) ≡ first ∷ (more ++ other) = sym is ∙ is_more in
    let heads : change ≡ first = cc in
    let tails : seen ++ one ≡ more ++ other = cc in
    let rest = longer seen more one other (seen ++ one) refl tails (omega (arith, le)) in
    (rest.0, (λ i. sym heads i ∷ rest.1 i))

no-more : (one other : List Change) → length (one ++ other) ≡ length one → other ≡ []
no-more one [] e = refl
no-more one (change ∷ other) e = absurd (omega (arith, e, length-append one (change ∷ other)))

-- a pass that sees more of the history tells the same
pub told-seen : (drew : Option ℕ) (history seen : List Change) (pass new : PassView)
    → new.state ≡ pass.state → new.mine ≡ pass.mine → new.seen ≡ seen
    → Begins pass.seen history → Begins seen history → length pass.seen ≤ length seen
    → StandsIn drew history pass → StandsIn drew history new
told-seen None history seen pass new state mine sees begins sees_all le told = mine ∙ told
told-seen (Some number) history seen pass new state mine sees begins sees_all le told =
    let rest = longer pass.seen seen begins.rest sees_all.rest history begins.is sees_all.is le in
    let split : made_by number seen ≡ made_by number pass.seen ++ made_by number rest.0 =
    ap (made_by number) rest.1 ∙ made_by-append number pass.seen rest.0 in
    let whole : made_by number history ≡ made_by number seen ++ made_by number sees_all.rest =
    ap (made_by number) sees_all.is ∙ made_by-append number seen sees_all.rest in
    let short : length (made_by number seen) ≡ length (made_by number pass.seen) =
    omega (
      arith,
      ap length split,
      length-append (made_by number pass.seen) (made_by number rest.0),
      ap length whole,
      length-append (made_by number seen) (made_by number sees_all.rest),
      ap length told.1,
    ) in
    let none : made_by number rest.0 ≡ [] =
    no-more (made_by number pass.seen) (made_by number rest.0) (sym (ap length split) ∙ short) in
    let same : made_by number seen ≡ made_by number pass.seen =
    split ∙ ap (λ it. made_by number pass.seen ++ it) none
    ∙ append-nil (made_by number pass.seen) in (
      told.0 ∙ (λ i. changes_in number (sym mine i) ++ pending (sym state i)),
      ap (made_by number) sees ∙ same ∙ told.1,
    )
