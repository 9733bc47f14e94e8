-- The passes are enrolled in order, and each gets a seat.
use Rattle.std.proofs.Common.{◌≡◌, ℕ, zero, suc, ◌+◌, ◌<◌, ◌≤◌, true, false, ltb, List, [], ◌∷◌}
use Rattle.std.proofs.Common.{◌++◌, length, replicate, All, eqb, refl, sym, ap, ◌∙◌, subst, ⊎_elim}
use Rattle.std.proofs.Common.{arith}
use Rattle.std.proofs.lemmas.Bool.{cases_lt, cond-false, cond-true, cond_both, eq-eqb, le-ltb}
use Rattle.std.proofs.lemmas.Bool.{lt-ltb}
use Rattle.std.proofs.lemmas.List.Elements.{All-head, All-tail}
use Rattle.std.proofs.lemmas.List.{length-replicate}
use Rattle.tko_model.specs.Settings.{Settings}
use Rattle.tko_steps.specs.declared.phase.ThreadState.TheVariants.{NotEnrolled, Idle}
use Rattle.tko_steps.specs.Core.{drawn_number}
use Rattle.tko_steps.specs.Owners.{is_enrolled}
use Rattle.tko_table.specs.declared.pass.Change.{Change}
use Rattle.tko_table.specs.declared.pass.PassView.{PassView}
use Rattle.tko_table.specs.History.{changes_in, made_by}
use Rattle.tko_table.specs.Opening.{ArePassesFrom, HasPassesFrom, IsPassAt}
use Rattle.tko_table.specs.Passes.{HasItsChanges, StandsIn, pending, count_enrolled, enrol_first}
use Rattle.tko_table.specs.Passes.{enrolled_pass, new_pass, new_passes}
use Rattle.tko_table.specs.Enrolments.{DrawsNumber}

pub drawn-state : (s : Settings) (drawn place : ℕ) (pass : PassView) → IsPassAt s drawn place pass
    → place < drawn → pass.state ≡ Idle place
drawn-state s drawn place pass is less =
    is.state ∙ cond-true (ltb place drawn) (Idle place) NotEnrolled (lt-ltb place drawn less)

waiting-state : (s : Settings) (drawn place : ℕ) (pass : PassView) → IsPassAt s drawn place pass
    → drawn ≤ place → pass.state ≡ NotEnrolled
waiting-state s drawn place pass is le =
    is.state ∙ cond-false (ltb place drawn) (Idle place) NotEnrolled (le-ltb place drawn le)

-- a pass whose place was drawn, or is not to be drawn next
pass-still : (s : Settings) (drawn place : ℕ) (pass : PassView) → IsPassAt s drawn place pass
    → (place ≡ drawn → ⊥) → IsPassAt s (drawn + 1) place pass
pass-still s drawn place pass is apart =
    record {
      settings = is.settings;
      owned = is.owned;
      mine = is.mine;
      seen = is.seen;
      state = ⊎_elim
          (λ (less : place < drawn).
          drawn-state s drawn place pass is less ∙ sym (cond-true (ltb place (drawn + 1))
          (Idle place) NotEnrolled (lt-ltb place (drawn + 1) (omega arith))))
          (λ (le : drawn ≤ place).
          waiting-state s drawn place pass is le ∙ sym (cond-false (ltb place (drawn + 1))
          (Idle place) NotEnrolled (le-ltb place (drawn + 1) (omega arith))))
          (cases_lt place drawn);
    }

-- none of these is drawn yet, nor the next
none-drawn : (s : Settings) (drawn place : ℕ) (passes : List PassView)
    → ArePassesFrom s drawn place passes → drawn < place
    → ArePassesFrom s (drawn + 1) place passes
none-drawn s drawn place [] are less = tt
none-drawn s drawn place (pass ∷ passes) are less = (
  pass-still s drawn place pass are.0 (λ e. omega arith),
  none-drawn s drawn (place + 1) passes are.1 (omega arith),
)

none-count : (s : Settings) (drawn place : ℕ) (passes : List PassView)
    → ArePassesFrom s drawn place passes → drawn ≤ place → count_enrolled passes ≡ 0
none-count s drawn place [] are le = refl
none-count s drawn place (pass ∷ passes) are le =
    let waits : is_enrolled pass.state ≡ false =
    ap is_enrolled (waiting-state s drawn place pass are.0 le) in
    cond-false (is_enrolled pass.state) (count_enrolled passes + 1) (count_enrolled passes) waits
    ∙ none-count s drawn (place + 1) passes are.1 (omega arith)

-- so many are enrolled
pub drawn-count : (s : Settings) (drawn place : ℕ) (passes : List PassView)
    → ArePassesFrom s drawn place passes → place ≤ drawn
    → drawn ≤ place + length passes → place + count_enrolled passes ≡ drawn
drawn-count s drawn place [] are le within = omega arith
drawn-count s drawn place (pass ∷ passes) are le within =
    ⊎_elim
    (λ (less : place < drawn).
    let enrolled : is_enrolled pass.state ≡ true =
    ap is_enrolled (drawn-state s drawn place pass are.0 less) in
    let count : count_enrolled (pass ∷ passes) ≡ count_enrolled passes + 1 =
    cond-true _ _ _ enrolled in
    let rest = drawn-count s drawn (place + 1) passes are.1 (omega arith) (omega arith) in
    omega (arith, count, rest))
    (λ (at_least : drawn ≤ place).
    omega (arith, none-count s drawn place (pass ∷ passes) are at_least))
    (cases_lt place drawn)

-- the next number goes to the pass of that place
pub drawn-next : (s : Settings) (drawn place : ℕ) (passes : List PassView) (history : List Change)
    → ArePassesFrom s drawn place passes → history ≡ []
    → place ≤ drawn → drawn < place + length passes
    → ArePassesFrom s (drawn + 1) place (enrol_first passes drawn history)
drawn-next s drawn place [] history are nothing le within = absurd (omega arith)
drawn-next s drawn place (pass ∷ passes) history are nothing le within =
    let P : List PassView → Type 0 = ArePassesFrom s (drawn + 1) place in
    ⊎_elim
    (λ (less : place < drawn).
    let enrolled : is_enrolled pass.state ≡ true =
    ap is_enrolled (drawn-state s drawn place pass are.0 less) in
    subst P (sym (cond-true (is_enrolled pass.state) (pass ∷ enrol_first passes drawn history)
    (enrolled_pass pass drawn history ∷ passes) enrolled)) (
      pass-still s drawn place pass are.0 (λ e. omega arith),
      drawn-next s drawn (place + 1) passes history are.1 nothing (omega arith) (omega arith),
    ))
    (λ (at_least : drawn ≤ place).
    let waits : is_enrolled pass.state ≡ false =
    ap is_enrolled (waiting-state s drawn place pass are.0 at_least) in
    let here : drawn ≡ place = omega arith in
    subst P (sym (cond-false (is_enrolled pass.state) (pass ∷ enrol_first passes drawn history)
    (enrolled_pass pass drawn history ∷ passes) waits)) (
      record {
        settings = are.0.settings;
        owned = are.0.owned;
        mine = are.0.mine;
        seen = nothing;
        state = ap Idle here ∙ sym (cond-true (ltb place (drawn + 1)) (Idle place) NotEnrolled
            (lt-ltb place (drawn + 1) (omega arith)));
      },
      none-drawn s drawn (place + 1) passes are.1 (omega arith),
    ))
    (cases_lt place drawn)

enrol_first-length : (passes : List PassView) (number : ℕ) (history : List Change)
    → length (enrol_first passes number history) ≡ length passes
enrol_first-length [] number history = refl
enrol_first-length (pass ∷ passes) number history =
    let P : List PassView → Type 0 = λ it. length it ≡ suc (length passes) in
    cond_both (is_enrolled pass.state) (pass ∷ enrol_first passes number history)
    (enrolled_pass pass number history ∷ passes) P
    (λ e. ap suc (enrol_first-length passes number history)) (λ e. refl)

-- the threads that are enrolled made no call, so that no change is theirs
none-by : (s : Settings) (drawn place : ℕ) (passes : List PassView) (history : List Change)
    → ArePassesFrom s drawn place passes
    → All (HasItsChanges history) passes → (number : ℕ) → place ≤ number → number < drawn
    → number < place + length passes
    → made_by number history ≡ []
none-by s drawn place [] history are made number le low within = absurd (omega arith)
none-by s drawn place (pass ∷ passes) history are made number le low within =
    ⊎_elim
    (λ (less : place < number).
    none-by s drawn (place + 1) passes history are.1
    (All-tail (HasItsChanges history) pass passes made) number (omega arith) low (omega arith))
    (λ (at_least : number ≤ place).
    let here : number ≡ place = omega arith in
    let state = drawn-state s drawn place pass are.0 (omega arith) in
    let stands = subst (λ drew. StandsIn drew history pass) (ap drawn_number state)
    (All-head (HasItsChanges history) pass passes made) in
    ap (λ it. made_by it history) here ∙ stands.0
    ∙ (λ i. changes_in place (are.0.mine i) ++ pending (state i)))
    (cases_lt place number)

-- and so there is none
pub nothing-made : (drawn : ℕ) (history : List Change)
    → ((number : ℕ) → number < drawn → made_by number history ≡ [])
    → All (λ (change : Change). change.number < drawn) history → history ≡ []
nothing-made drawn [] none low = refl
nothing-made drawn (change ∷ changes) none low =
    let own : change ∷ made_by change.number changes ≡ [] =
    sym (cond-true (eqb change.number change.number) (change ∷ made_by change.number changes)
    (made_by change.number changes) (eq-eqb change.number change.number refl))
    ∙ none change.number (All-head (λ (it : Change). it.number < drawn) change changes low) in
    absurd (cc own)

-- one enrolment of the seat that has all passes
pub enrolled-one : (s : Settings) (drawn : ℕ) (before : List PassView) (number : ℕ)
    (after : List PassView) → HasPassesFrom s drawn 0 before → drawn < s.threads
    → DrawsNumber before number after → HasPassesFrom s (drawn + 1) 0 after
enrolled-one s drawn [] number after has less enrols = absurd (let count = has.count in omega arith)
enrolled-one s drawn (pass ∷ rest) number after has less enrols =
    let before : List PassView = pass ∷ rest in
    let count = drawn-count s drawn 0 before has.each (omega arith) (omega (arith, has.count)) in
    let all : length before ≡ pass.settings.threads =
    omega (arith, has.count, ap (λ (it : Settings). it.threads) has.each.0.settings) in
    let is : number ≡ drawn = enrols.all pass rest refl all ∙ (omega (arith, count)) in
    let nothing = nothing-made drawn enrols.history
    (λ other low. none-by s drawn 0 before enrols.history has.each enrols.made other
    (omega arith) low (omega (arith, low, less, has.count)))
    (subst (λ it. All (λ (change : Change). change.number < it) enrols.history) is enrols.drawn) in
    let drew : after ≡ enrol_first before drawn enrols.history =
    enrols.drew ∙ ap (λ it. enrol_first before it enrols.history) is in
    subst (HasPassesFrom s (drawn + 1) 0) (sym drew)
    (record {
      count = omega (arith, has.count, enrol_first-length before drawn enrols.history);
      each = drawn-next s drawn 0 before enrols.history has.each nothing (omega arith)
          (omega (arith, has.count));
    })

pub wait-left : (s : Settings) (drawn : ℕ) (view : List PassView) → HasPassesFrom s drawn 0 view
    → drawn < s.threads → count_enrolled view < length view
wait-left s drawn view has less =
    omega (
      arith,
      has.count,
      drawn-count s drawn 0 view has.each (omega arith) (omega (arith, has.count)),
    )

new-passes : (s : Settings) (n place : ℕ) → ArePassesFrom s 0 place (replicate n (new_pass s))
new-passes s zero place = tt
new-passes s (suc n) place = (
  record {
    settings = refl;
    owned = refl;
    mine = refl;
    seen = refl;
    state =
        sym (cond-false (ltb place 0) (Idle place) NotEnrolled (le-ltb place 0 (omega arith)));
  },
  new-passes s n (place + 1),
)

pub opened-passes : (s : Settings) → HasPassesFrom s 0 0 (new_passes s)
opened-passes s = record {
  count = omega (arith, length-replicate s.threads (new_pass s));
  each = new-passes s s.threads 0;
}
