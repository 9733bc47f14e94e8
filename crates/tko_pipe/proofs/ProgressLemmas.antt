-- A connection that is shut for the time that passed made no progress in its time limit.
use Rattle.std.proofs.Common.{arith, ◌≡◌, ◌<◌, ◌≤◌, ◌+◌, ◌-◌, ℕ, true, false, List, [], ◌∷◌, ◌++◌, refl, sym, ap, subst, ◌∙◌, length, length-append, inl, inr, Option, Some, None}
use Rattle.std.specs.Prelude.{All, nat_le, max}
use Rattle.std.proofs.lemmas.Bool.{cases_Bool, cond-true, cond-false, leb-true, leb-false}
use Rattle.std.proofs.lemmas.List.Elements.{All-head, All-tail}
use Rattle.std.proofs.Math.Nat.{le-max_right}
use Rattle.tko_model.specs.Records.{Lead}
use Rattle.tko_pipe.specs.declared.fates.ShutCause.{ShutCause}
use Rattle.tko_pipe.specs.declared.fates.ShutCause.TheVariants.{EndOfInput, Fault, Silent, Late, Unreadable, Unasked, Memory, Lacking}
use Rattle.tko_pipe.specs.declared.waiter.Waiter.{Waiter}
use Rattle.tko_pipe.specs.declared.window.Window.{Window}
use Rattle.tko_pipe.specs.Lives.{GaveUp, Got, HasNoProgress, IsEnd, IsPipeStep, IsTimeSpent, IsRecent, Left, PipeItem, Pushed}
use Rattle.tko_pipe.specs.Lives.{Took, WasConnected, WasShut, Wrote, bytes_read_in}
use Rattle.tko_pipe.specs.Pipes.{IsCause, IsGot, PipeState, first_late, is_late, is_due_by, opened_pipe}
use Rattle.tko_pipe.specs.Windows.{begun_window, late_after, later_after, limit_after, progress, read_window}

-- the time limit of a connection stays
limit_stays : (old new : PipeState) (items : List PipeItem) → Lead IsPipeStep old items new
    → new.limit ≡ old.limit
limit_stays old new [] same = ap (λ (s : PipeState). s.limit) same
limit_stays old new (WasConnected ∷ items) (mid, step, more) =
    limit_stays mid new items more ∙ ap (λ (s : PipeState). s.limit) step.state
limit_stays old new (Pushed it ∷ items) (mid, step, more) =
    limit_stays mid new items more ∙ ap (λ (s : PipeState). s.limit) step.state
limit_stays old new (Wrote bytes ∷ items) (mid, step, more) =
    limit_stays mid new items more ∙ ap (λ (s : PipeState). s.limit) step.state
limit_stays old new (Got bytes now ∷ items) (mid, step, more) =
    limit_stays mid new items more ∙ ap (λ (s : PipeState). s.limit) step.state
limit_stays old new (Took it ∷ items) (mid, step, more) =
    limit_stays mid new items more ∙ ap (λ (s : PipeState). s.limit) step.state
limit_stays old new (GaveUp it ∷ items) (mid, step, more) =
    limit_stays mid new items more ∙ ap (λ (s : PipeState). s.limit) step.state
limit_stays old new (WasShut it ∷ items) (mid, step, more) =
    limit_stays mid new items more ∙ ap (λ (s : PipeState). s.limit) step.state
limit_stays old new (Left it ∷ items) (mid, step, more) =
    limit_stays mid new items more ∙ ap (λ (s : PipeState). s.limit) step.state

-- the items after which a connection is at this one, and those from there on
record Splits (old : PipeState) (front rest : List PipeItem) (new : PipeState) : Type 0 where
  mid : PipeState
  before : Lead IsPipeStep old front mid
  after : Lead IsPipeStep mid rest new

splits : (old new : PipeState) (front rest : List PipeItem)
    → Lead IsPipeStep old (front ++ rest) new → Splits old front rest new
splits old new [] rest leads = record { mid = old; before = refl; after = leads }
splits old new (item ∷ front) rest (mid, step, more) =
    let is = splits mid new front rest more in
    record { mid = is.mid; before = (mid, step, is.before); after = is.after }

-- after a read the window counts its bytes, or it begins
read_cases : (now count : ℕ) (window : Window) → (P : Window → Type 0)
    → (window.came + count < progress
    → P (record { since = window.since; came = window.came + count }))
    → P (begun_window now) → P (read_window now count window)
read_cases now count window P counts begins =
    elim (cases_Bool (nat_le (progress - window.came) count)) [
      | inl at ↦ subst P (sym (cond-true _ _ _ at)) begins
      | inr less ↦
          let below : count < progress - window.came =
          leb-false (progress - window.came) count less in
          let few : window.came + count < progress = omega (arith, below) in
          subst P (sym (cond-false _ _ _ less)) (counts few)
    ]

-- the window counts less than 64 KiB
few_stays : (old new : PipeState) (items : List PipeItem) → old.window.came < progress
    → Lead IsPipeStep old items new → new.window.came < progress
few_stays old new [] few same = subst (λ (s : PipeState). s.window.came < progress) (sym same) few
few_stays old new (WasConnected ∷ items) few (mid, step, more) =
    few_stays mid new items
    (subst (λ (s : PipeState). s.window.came < progress) (sym step.state) few) more
few_stays old new (Pushed it ∷ items) few (mid, step, more) =
    few_stays mid new items
    (subst (λ (s : PipeState). s.window.came < progress) (sym step.state) few) more
few_stays old new (Wrote bytes ∷ items) few (mid, step, more) =
    few_stays mid new items
    (subst (λ (s : PipeState). s.window.came < progress) (sym step.state) few) more
few_stays old new (Got bytes now ∷ items) few (mid, step, more) =
    few_stays mid new items
    (subst (λ (s : PipeState). s.window.came < progress) (sym step.state)
    (read_cases now (length bytes) old.window (λ (w : Window). w.came < progress)
    (λ less. less) (omega arith))) more
few_stays old new (Took it ∷ items) few (mid, step, more) =
    few_stays mid new items
    (subst (λ (s : PipeState). s.window.came < progress) (sym step.state) few) more
few_stays old new (GaveUp it ∷ items) few (mid, step, more) =
    few_stays mid new items
    (subst (λ (s : PipeState). s.window.came < progress) (sym step.state) few) more
few_stays old new (WasShut it ∷ items) few (mid, step, more) =
    few_stays mid new items
    (subst (λ (s : PipeState). s.window.came < progress) (sym step.state) few) more
few_stays old new (Left it ∷ items) few (mid, step, more) =
    few_stays mid new items
    (subst (λ (s : PipeState). s.window.came < progress) (sym step.state) few) more

-- this is within the time limit before this moment
abbrev IsFresh : ℕ → ℕ → Option ℕ → Type 0
IsFresh limit now None = ⊥
IsFresh limit now (Some moment) = now < limit_after limit moment

module _ (limit now : ℕ) where
  -- once the window began within the limit, no later one began before
  fresh_stays : (old new : PipeState) (items : List PipeItem) → All (IsRecent limit now) items
      → IsFresh limit now old.window.since → Lead IsPipeStep old items new
      → IsFresh limit now new.window.since
  fresh_stays old new [] within was same =
      subst (λ (s : PipeState). IsFresh limit now s.window.since) (sym same) was
  fresh_stays old new (WasConnected ∷ items) within was (mid, step, more) =
      fresh_stays mid new items (All-tail (IsRecent limit now) WasConnected items within)
      (subst (λ (s : PipeState). IsFresh limit now s.window.since) (sym step.state) was) more
  fresh_stays old new (Pushed it ∷ items) within was (mid, step, more) =
      fresh_stays mid new items (All-tail (IsRecent limit now) (Pushed it) items within)
      (subst (λ (s : PipeState). IsFresh limit now s.window.since) (sym step.state) was) more
  fresh_stays old new (Wrote bytes ∷ items) within was (mid, step, more) =
      fresh_stays mid new items (All-tail (IsRecent limit now) (Wrote bytes) items within)
      (subst (λ (s : PipeState). IsFresh limit now s.window.since) (sym step.state) was) more
  fresh_stays old new (Got bytes moment ∷ items) within was (mid, step, more) =
      let here : now < limit_after limit moment =
      All-head (IsRecent limit now) (Got bytes moment) items within in
      fresh_stays mid new items (All-tail (IsRecent limit now) (Got bytes moment) items within)
      (subst (λ (s : PipeState). IsFresh limit now s.window.since) (sym step.state)
      (read_cases moment (length bytes) old.window (λ (w : Window). IsFresh limit now w.since)
      (λ less. was) here)) more
  fresh_stays old new (Took it ∷ items) within was (mid, step, more) =
      fresh_stays mid new items (All-tail (IsRecent limit now) (Took it) items within)
      (subst (λ (s : PipeState). IsFresh limit now s.window.since) (sym step.state) was) more
  fresh_stays old new (GaveUp it ∷ items) within was (mid, step, more) =
      fresh_stays mid new items (All-tail (IsRecent limit now) (GaveUp it) items within)
      (subst (λ (s : PipeState). IsFresh limit now s.window.since) (sym step.state) was) more
  fresh_stays old new (WasShut it ∷ items) within was (mid, step, more) =
      fresh_stays mid new items (All-tail (IsRecent limit now) (WasShut it) items within)
      (subst (λ (s : PipeState). IsFresh limit now s.window.since) (sym step.state) was) more
  fresh_stays old new (Left it ∷ items) within was (mid, step, more) =
      fresh_stays mid new items (All-tail (IsRecent limit now) (Left it) items within)
      (subst (λ (s : PipeState). IsFresh limit now s.window.since) (sym step.state) was) more

  -- bytes that came within the limit are counted, where the window is older than that
  counts_read : (was is : PipeState) (bytes : List ℕ) (moment : ℕ) → IsGot was bytes moment is
      → (IsFresh limit now is.window.since → ⊥) → now < limit_after limit moment
      → is.window.came ≡ was.window.came + length bytes
  counts_read was is bytes moment step stale here =
      let same : is.window ≡ read_window moment (length bytes) was.window =
      ap (λ (s : PipeState). s.window) step.state in
      ap (λ (w : Window). w.came) same
      ∙ read_cases moment (length bytes) was.window
      (λ (w : Window). is.window ≡ w → w.came ≡ was.window.came + length bytes)
      (λ less at. refl)
      (λ at. absurd (stale (subst (λ (w : Window). IsFresh limit now w.since) (sym at) here)))
      same

  -- and so are all that came within it
  counts : (old new : PipeState) (items : List PipeItem) → All (IsRecent limit now) items
      → Lead IsPipeStep old items new → (IsFresh limit now new.window.since → ⊥)
      → new.window.came ≡ old.window.came + length (bytes_read_in items)
  counts old new [] within same stale =
      let came : new.window.came ≡ old.window.came =
      ap (λ (s : PipeState). s.window.came) same in
      omega (arith, came)
  counts old new (WasConnected ∷ items) within (mid, step, more) stale =
      counts mid new items (All-tail (IsRecent limit now) WasConnected items within) more stale
      ∙ ap (λ (s : PipeState). s.window.came + length (bytes_read_in items)) step.state
  counts old new (Pushed it ∷ items) within (mid, step, more) stale =
      counts mid new items (All-tail (IsRecent limit now) (Pushed it) items within) more stale
      ∙ ap (λ (s : PipeState). s.window.came + length (bytes_read_in items)) step.state
  counts old new (Wrote bytes ∷ items) within (mid, step, more) stale =
      counts mid new items (All-tail (IsRecent limit now) (Wrote bytes) items within) more stale
      ∙ ap (λ (s : PipeState). s.window.came + length (bytes_read_in items)) step.state
  counts old new (Got bytes moment ∷ items) within (mid, step, more) stale =
      let here : now < limit_after limit moment =
      All-head (IsRecent limit now) (Got bytes moment) items within in
      let others = All-tail (IsRecent limit now) (Got bytes moment) items within in
      let rest = counts mid new items others more stale in
      let read = counts_read old mid bytes moment step
      (λ since. stale (fresh_stays mid new items others since more)) here in
      let all : length (bytes ++ bytes_read_in items)
      ≡ length bytes + length (bytes_read_in items) = length-append bytes (bytes_read_in items) in
      omega (arith, rest, read, all)
  counts old new (Took it ∷ items) within (mid, step, more) stale =
      counts mid new items (All-tail (IsRecent limit now) (Took it) items within) more stale
      ∙ ap (λ (s : PipeState). s.window.came + length (bytes_read_in items)) step.state
  counts old new (GaveUp it ∷ items) within (mid, step, more) stale =
      counts mid new items (All-tail (IsRecent limit now) (GaveUp it) items within) more stale
      ∙ ap (λ (s : PipeState). s.window.came + length (bytes_read_in items)) step.state
  counts old new (WasShut it ∷ items) within (mid, step, more) stale =
      counts mid new items (All-tail (IsRecent limit now) (WasShut it) items within) more stale
      ∙ ap (λ (s : PipeState). s.window.came + length (bytes_read_in items)) step.state
  counts old new (Left it ∷ items) within (mid, step, more) stale =
      counts mid new items (All-tail (IsRecent limit now) (Left it) items within) more stale
      ∙ ap (λ (s : PipeState). s.window.came + length (bytes_read_in items)) step.state

-- the window of a response that is late is as old as the limit
stale_since : (since : Option ℕ) (limit now due : ℕ) → later_after since limit due ≤ now
    → IsFresh limit now since → ⊥
stale_since None limit now due reached fresh = fresh
stale_since (Some moment) limit now due reached fresh =
    let most : limit_after limit moment ≤ max due (limit_after limit moment) =
    le-max_right due (limit_after limit moment) in
    omega (arith, reached, fresh, most)

stale_late : (waiters : List Waiter) (window : Window) (limit now : ℕ)
    → is_due_by (first_late waiters window limit) now ≡ true
    → IsFresh limit now window.since → ⊥
stale_late [] window limit now late fresh = absurd (let f : false ≡ true = late in cc)
stale_late (first ∷ others) window limit now late fresh =
    stale_since window.since limit now first.due
    (leb-true (late_after window limit first.due) now late) fresh

no_progress : (limit now : ℕ) (before : List PipeItem) (last : PipeState)
    → Lead IsPipeStep (opened_pipe limit) before last → is_late last now ≡ true
    → HasNoProgress limit now before
no_progress limit now before last leads late earlier bytes moment recent is within =
    let parts = splits (opened_pipe limit) last earlier (Got bytes moment ∷ recent)
    (subst (λ xs. Lead IsPipeStep (opened_pipe limit) xs last) is leads) in
    let same : last.limit ≡ limit = limit_stays (opened_pipe limit) last before leads in
    let stale : IsFresh limit now last.window.since → ⊥ =
    stale_late last.waiters last.window limit now
    (subst (λ n. is_due_by (first_late last.waiters last.window n) now ≡ true) same late) in
    let few = few_stays (opened_pipe limit) last before (omega arith) leads in
    let all = counts limit now parts.mid last (Got bytes moment ∷ recent) within parts.after stale
    in
    let len : length (bytes ++ bytes_read_in recent)
    ≡ length bytes + length (bytes_read_in recent) = length-append bytes (bytes_read_in recent) in
    omega (arith, few, all, len)

spent_by : (limit : ℕ) (cause : ShutCause) (before : List PipeItem) (last : PipeState)
    → Lead IsPipeStep (opened_pipe limit) before last → IsCause last cause
    → IsTimeSpent limit cause before
spent_by limit (Silent now) before last leads cause =
    no_progress limit now before last leads cause.0
spent_by limit (Late now) before last leads cause =
    no_progress limit now before last leads cause.0
spent_by limit EndOfInput before last leads cause = tt
spent_by limit Fault before last leads cause = tt
spent_by limit Unreadable before last leads cause = tt
spent_by limit Unasked before last leads cause = tt
spent_by limit Memory before last leads cause = tt
spent_by limit Lacking before last leads cause = tt

-- a connection that was shut for the time that passed had made no progress
pub time_spent : (limit : ℕ) (items : List PipeItem) (state : PipeState)
    → (end : IsEnd (opened_pipe limit) items state) → IsTimeSpent limit end.it.cause end.before
time_spent limit items state end =
    spent_by limit end.it.cause end.before end.last end.leads.leads end.cause
