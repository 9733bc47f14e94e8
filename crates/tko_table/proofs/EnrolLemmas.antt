-- The first pass that is not enrolled, and how many are: which number a seat with all passes draws.
use Rattle.std.proofs.Common.{◌≡◌, ℕ, zero, suc, ◌+◌, ◌<◌, false, List, [], ◌∷◌, ◌++◌, length}
use Rattle.std.proofs.Common.{count_by, refl, sym, ap, ◌∙◌, inl, inr, arith}
use Rattle.std.proofs.lemmas.Bool.{cases_Bool, cond-false, cond-true}
use Rattle.std.proofs.lemmas.List.{length-append, length-map}
use Rattle.std.proofs.lemmas.List.Sums.{sum_by-cons}
use mathlib.Core.Option.{some, some-injective, some-ne-none}
use lib.ListN.{get_elem?}
use Rattle.tko_model.specs.Settings.{Settings}
use Rattle.tko_steps.specs.declared.phase.ThreadState.{ThreadState}
use Rattle.tko_steps.specs.declared.phase.ThreadState.TheVariants.{NotEnrolled, Idle, InCall}
use Rattle.tko_steps.specs.Owners.{is_enrolled}
use Rattle.tko_steps.proofs.CountLemmas.{bit}
use Rattle.tko_table.specs.declared.pass.Change.{Change}
use Rattle.tko_table.specs.declared.pass.PassView.{PassView}
use Rattle.tko_table.specs.Passes.{count_enrolled, enrol_first, enrolled_pass}
use Rattle.tko_table.specs.Rule.{IsKept, joined_passes, shared_in, states_of}

-- ---- the first pass that isn't enrolled

pub record IsFirst (passes : List PassView) : Type 0 where
  pub earlier : List PassView
  pub pass : PassView
  pub later : List PassView
  pub was : passes ≡ earlier ++ pass ∷ later
  pub waits : pass.state ≡ NotEnrolled
  pub enrols : (number : ℕ) (history : List Change)
      → enrol_first passes number history ≡ earlier ++ enrolled_pass pass number history ∷ later

not_enrolled : (state : ThreadState) → is_enrolled state ≡ false → state ≡ NotEnrolled
not_enrolled NotEnrolled e = refl
not_enrolled (Idle number) e = cc
not_enrolled (InCall call phase) e = cc

pub first-open : (passes : List PassView) → count_enrolled passes < length passes → IsFirst passes
first-open [] less = absurd (omega arith)
first-open (pass ∷ passes) less =
    elim (cases_Bool (is_enrolled pass.state)) [
      | inl enrolled ↦
          let count : count_enrolled (pass ∷ passes) ≡ count_enrolled passes + 1 =
          cond-true _ _ _ enrolled in
          let rest = first-open passes (omega (arith, less, count)) in
          record {
            earlier = pass ∷ rest.earlier;
            pass = rest.pass;
            later = rest.later;
            was = ap (λ it. pass ∷ it) rest.was;
            waits = rest.waits;
            enrols = λ number history.
                cond-true (is_enrolled pass.state) (pass ∷ enrol_first passes number history)
                (enrolled_pass pass number history ∷ passes) enrolled
                ∙ ap (λ it. pass ∷ it) (rest.enrols number history);
          }
      | inr waits ↦ record {
        earlier = [];
        pass = pass;
        later = passes;
        was = refl;
        waits = not_enrolled pass.state waits;
        enrols = λ number history.
            cond-false (is_enrolled pass.state) (pass ∷ enrol_first passes number history)
            (enrolled_pass pass number history ∷ passes) waits;
      }
    ]

-- ---- how many are enrolled

enrolled-states : (passes : List PassView)
    → count_by is_enrolled (states_of passes) ≡ count_enrolled passes
enrolled-states [] = refl
enrolled-states (pass ∷ passes) =
    let step = sum_by-cons (λ it. bit (is_enrolled it)) pass.state (states_of passes) in
    let rest = enrolled-states passes in
    elim (cases_Bool (is_enrolled pass.state)) [
      | inl enrolled ↦
          let count : count_enrolled (pass ∷ passes) ≡ count_enrolled passes + 1 =
          cond-true _ _ _ enrolled in
          omega (arith, step, rest, count, ap bit enrolled)
      | inr waits ↦
          let count : count_enrolled (pass ∷ passes) ≡ count_enrolled passes =
          cond-false _ _ _ waits in
          omega (arith, step, rest, count, ap bit waits)
    ]

enrolled-append : (one other : List PassView)
    → count_enrolled (one ++ other) ≡ count_enrolled one + count_enrolled other
enrolled-append [] other = omega arith
enrolled-append (pass ∷ one) other =
    let rest = enrolled-append one other in
    elim (cases_Bool (is_enrolled pass.state)) [
      | inl enrolled ↦
          let count : count_enrolled (pass ∷ one) ≡ count_enrolled one + 1 =
          cond-true _ _ _ enrolled in
          let both : count_enrolled (pass ∷ one ++ other) ≡ count_enrolled (one ++ other) + 1 =
          cond-true _ _ _ enrolled in
          omega (arith, rest, count, both)
      | inr waits ↦
          let count : count_enrolled (pass ∷ one) ≡ count_enrolled one = cond-false _ _ _ waits in
          let both : count_enrolled (pass ∷ one ++ other) ≡ count_enrolled (one ++ other) =
          cond-false _ _ _ waits in
          omega (arith, rest, count, both)
    ]

-- the passes of the other seats
others : (views : List (List PassView)) (id : ℕ) (view : List PassView)
    → get_elem? views id ≡ some view
    → (rest : List PassView) × (length (joined_passes views) ≡ length view + length rest)
    × (count_enrolled (joined_passes views) ≡ count_enrolled view + count_enrolled rest)
others [] id view e = absurd (some-ne-none view (sym e))
others (first ∷ views) zero view e =
    let same : first ≡ view = some-injective first view e in (
      joined_passes views,
      length-append first (joined_passes views)
          ∙ ap (λ it. length it + length (joined_passes views)) same,
      enrolled-append first (joined_passes views)
          ∙ ap (λ it. count_enrolled it + count_enrolled (joined_passes views)) same,
    )
others (first ∷ views) (suc id) view e =
    let found = others views id view e in (
      first ++ found.0,
      omega (
        arith,
        length-append first (joined_passes views),
        length-append first found.0,
        found.1,
      ),
      omega (
        arith,
        enrolled-append first (joined_passes views),
        enrolled-append first found.0,
        found.2,
      ),
    )

none-enrolled : (passes : List PassView) → length passes ≡ 0 → count_enrolled passes ≡ 0
none-enrolled [] e = refl
none-enrolled (pass ∷ passes) e = absurd (omega arith)

-- a seat that has all passes knows how many are enrolled
pub drawn-alone : (s : Settings) (words : List ℕ) (views : List (List PassView)) (id : ℕ)
    (view : List PassView) → IsKept s words views
    → get_elem? views id ≡ some view → length view ≡ s.threads
    → (shared_in s words).enrolled ≡ count_enrolled view
drawn-alone s words views id view kept there all =
    let rest = others views id view there in
    let core = kept.core.core in
    let long = length-map (joined_passes views) (λ (at : PassView). at.state) in
    let nobody = none-enrolled rest.0 (omega (arith, all, core.threads, long, rest.1)) in
    omega (arith, core.enrolled, enrolled-states (joined_passes views), rest.2, nobody)
