-- Lists of changes, and what a step adds to the calls and the changes of its thread.
use Rattle.std.proofs.Common.{◌≡◌, ℕ, ◌+◌, ◌<◌, Bool, true, false, cond, eqb, List, [], ◌∷◌, ◌++◌}
use Rattle.std.proofs.Common.{All, refl, sym, ap, ◌∙◌, subst, inl, inr, arith}
use Rattle.std.proofs.lemmas.Bool.{cases_Bool, cond-false, cond-true, cond_both, eq-eqb, ne_eqb}
use Rattle.std.proofs.lemmas.List.{append-nil}
use Rattle.std.proofs.lemmas.List.Elements.{All-head, All-tail}
use Rattle.tko_model.specs.declared.mark.Reply.{Reply}
use Rattle.tko_model.specs.declared.mark.Reply.TheVariants as reply
use Rattle.tko_model.specs.Settings.{Settings}
use Rattle.tko_model.specs.declared.state.ServerState.{ServerState}
use Rattle.tko_model.specs.Tracker.{server_at}
use Rattle.tko_steps.specs.declared.phase.Call.{Call}
use Rattle.tko_steps.specs.declared.phase.Phase.{Phase}
use Rattle.tko_steps.specs.declared.phase.Phase.TheVariants.{Start, Read, AtThreshold, Limit}
use Rattle.tko_steps.specs.declared.phase.Phase.TheVariants.{Reserving, Holding, Firming, Losing}
use Rattle.tko_steps.specs.declared.phase.Phase.TheVariants.{Loosening, Loosened, Emptied}
use Rattle.tko_steps.specs.declared.table.Decision.{Decision}
use Rattle.tko_steps.specs.declared.table.Decision.TheVariants.{Goes, Answers}
use Rattle.tko_steps.specs.Core.{Shared, seen_by, slots_at}
use Rattle.tko_steps.specs.Invariant.{IsPhase}
use Rattle.tko_steps.specs.Steps.{decided_state, is_done}
use Rattle.tko_steps.specs.Table.{action_of, from_start, goes, lost_try, next_of, same_server}
use Rattle.tko_steps.specs.Table.{same_slots}
use Rattle.tko_steps.proofs.StartLemmas.{from_start-is}
use Rattle.tko_steps.proofs.TableLemmas.{eq-same_server}
use Rattle.tko_table.specs.declared.pass.Change.{Change}
use Rattle.tko_table.specs.declared.pass.Made.{Made}
use Rattle.tko_table.specs.History.{change_by, change_of, changes_in, is_change, made_by, made_with}
use Rattle.tko_table.specs.Passes.{changes_by, mine_after, pending, pending_at}
use Rattle.tko_table.specs.Rule.{IsPlannedAt}
use Rattle.tko_model.specs.Groups.{group_of, limit_at}
use Rattle.tko_table.proofs.ChangeLemmas.{puts-change, stays-no_change}

-- ---- lists of changes

pub made_by-append : (number : ℕ) (one other : List Change)
    → made_by number (one ++ other) ≡ made_by number one ++ made_by number other
made_by-append number [] other = refl
made_by-append number (change ∷ one) other =
    let rest = made_by-append number one other in
    let all = made_by number (one ++ other) in
    cond_both (eqb change.number number) (change ∷ all) all
    (λ it. it ≡ made_by number (change ∷ one) ++ made_by number other)
    (λ e. ap (λ it. change ∷ it) rest
    ∙ ap (λ it. it ++ made_by number other) (sym (cond-true (eqb change.number number)
    (change ∷ made_by number one) (made_by number one) e)))
    (λ e. rest ∙ ap (λ it. it ++ made_by number other) (sym (cond-false (eqb change.number number)
    (change ∷ made_by number one) (made_by number one) e)))

pub made_by-own : (call : Call) (answer : Reply)
    → made_by call.number (change_by call answer ∷ []) ≡ change_by call answer ∷ []
made_by-own call answer = cond-true (eqb call.number call.number) (change_by call answer ∷ []) []
    (eq-eqb call.number call.number refl)

pub made_by-other : (number : ℕ) (call : Call) (answer : Reply) → (call.number ≡ number → ⊥)
    → made_by number (change_by call answer ∷ []) ≡ []
made_by-other number call answer apart = cond-false (eqb call.number number)
    (change_by call answer ∷ []) [] (ne_eqb call.number number apart)

-- no thread that draws its number later made a change
pub none-made : (number : ℕ) (changes : List Change)
    → All (λ (change : Change). change.number < number) changes → made_by number changes ≡ []
none-made number [] all = refl
none-made number (change ∷ changes) all =
    let below = All-head (λ (it : Change). it.number < number) change changes all in
    cond-false (eqb change.number number) (change ∷ made_by number changes) (made_by number changes)
    (ne_eqb change.number number (λ e. omega (arith, below, e)))
    ∙ none-made number changes (All-tail (λ (it : Change). it.number < number) change changes all)

pub changes_in-append : (number : ℕ) (one other : List Made)
    → changes_in number (one ++ other) ≡ changes_in number one ++ changes_in number other
changes_in-append number [] other = refl
changes_in-append number (made ∷ one) other =
    let rest = changes_in-append number one other in
    let all = changes_in number (one ++ other) in
    let change = change_of number made in
    cond_both (is_change made.reply) (change ∷ all) all
    (λ it. it ≡ changes_in number (made ∷ one) ++ changes_in number other)
    (λ e. ap (λ it. change ∷ it) rest
    ∙ ap (λ it. it ++ changes_in number other) (sym (cond-true (is_change made.reply)
    (change ∷ changes_in number one) (changes_in number one) e)))
    (λ e. rest ∙ ap (λ it. it ++ changes_in number other) (sym (cond-false (is_change made.reply)
    (change ∷ changes_in number one) (changes_in number one) e)))

-- ---- what a step adds

pub by_test : (P : Bool → Type 0) (test : Bool) → (test ≡ true → P true) → (test ≡ false → P false)
    → P test
by_test P test one other =
    elim (cases_Bool test) as (λ it. P test) [
      | inl e ↦ subst P (sym e) (one e)
      | inr e ↦ subst P (sym e) (other e)
    ]

-- what follows makes no change, and answers none
abbrev pub IsCalm : Call → Decision → Type 0
IsCalm call (Goes lost phase) = pending_at (record call { lost = lost }) phase ≡ []
IsCalm call (Answers answer) = is_change answer ≡ false

pub calm-start : (s : Settings) (call : Call) (now : ServerState)
    → IsCalm call (from_start s call now)
calm-start s call now =
    from_start-is s call now (IsCalm call)
    (λ answer is_answer is.
    stays-no_change s true call.number call.op now.mark now.stamp answer (is true))
    (λ soft fresh is. refl) (λ mark answer put can by is. refl) (λ mark answer put can own is. refl)

pub calm-lost_try : (s : Settings) (call : Call) → IsCalm call (lost_try s call)
calm-lost_try s call =
    cond_both (eqb s.tries (call.lost + 1)) (Answers reply.Contended) (Goes (call.lost + 1) Start)
    (IsCalm call) (λ e. refl) (λ e. refl)

calm-both : (call : Call) (test : Bool) (one other : Decision) → IsCalm call one → IsCalm call other
    → IsCalm call (cond test one other)
calm-both call test one other first second =
    cond_both test one other (IsCalm call) (λ e. first) (λ e. second)

-- the exchange of its own loosened mark is not lost
abbrev pub IsSure : Call → Shared → Phase → Type 0
IsSure call shared (Loosened found mark answer) =
    same_server (server_at shared.servers call.server) found ≡ true
IsSure call shared phase = Unit {0}

pub sure-from : (s : Settings) (call : Call) (shared : Shared) (phase : Phase)
    → IsPhase s call (server_at shared.servers call.server) phase
    → IsSure call shared phase
sure-from s call shared Start knows = tt
sure-from s call shared (Read found mark answer) knows = tt
sure-from s call shared (AtThreshold found) knows = tt
sure-from s call shared (Limit found) knows = tt
sure-from s call shared (Reserving found slots) knows = tt
sure-from s call shared (Holding found) knows = tt
sure-from s call shared Firming knows = tt
sure-from s call shared Losing knows = tt
sure-from s call shared (Loosening found mark answer) knows = tt
sure-from s call shared (Loosened found mark answer) knows =
    eq-same_server (server_at shared.servers call.server) found knows.2
sure-from s call shared (Emptied answer) knows = tt

module _ (s : Settings) (call : Call) (mine : List Made) (at : ℕ) where
  abbrev pub before : List Change
  before = changes_in call.number mine

  -- the changes of the thread once this followed its step
  abbrev pub told_with : Decision → List Change
  told_with decision = changes_in call.number (mine_after mine call decision at)
      ++ pending (decided_state call decision)

  -- they are those before, with what the step changed
  abbrev pub Adds : List Change → Decision → List Change → Type 0
  Adds waiting decision changes = told_with decision ≡ (before ++ waiting) ++ changes

  one_more : (answer : Reply) → changes_in call.number (mine ++ made_with call answer at ∷ [])
      ≡ before ++ changes_in call.number (made_with call answer at ∷ [])
  one_more answer = changes_in-append call.number mine (made_with call answer at ∷ [])

  calm-adds : (decision : Decision) → IsCalm call decision → Adds [] decision []
  calm-adds (Goes lost phase) calm =
      ap (λ it. before ++ it) calm ∙ sym (append-nil (before ++ []))
  calm-adds (Answers answer) calm =
      let none : changes_in call.number (made_with call answer at ∷ []) ≡ [] =
      cond-false (is_change answer) (change_by call answer ∷ []) [] calm in
      append-nil _ ∙ one_more answer ∙ ap (λ it. before ++ it) none
      ∙ sym (append-nil (before ++ []))

  -- the answer to a change
  answered : (answer : Reply) → is_change answer ≡ true
      → told_with (Answers answer) ≡ before ++ change_by call answer ∷ []
  answered answer changes =
      append-nil _ ∙ one_more answer ∙ ap (λ it. before ++ it)
      (cond-true (is_change answer) (change_by call answer ∷ []) [] changes)

  pub told-next : (shared : Shared) (phase : Phase) → IsPlannedAt s call phase
      → IsSure call shared phase
      → Adds (pending_at call phase)
      (next_of s call phase (seen_by s shared call.server (action_of call.number phase)))
      (changes_by call phase (is_done (seen_by s shared call.server (action_of call.number phase))))
  told-next shared Start planned knows =
      let now = server_at shared.servers call.server in
      calm-adds (from_start s call now) (calm-start s call now)
  told-next shared (Read found mark answer) planned knows =
      let change = change_by call answer ∷ [] in
      by_test (λ won. Adds [] (cond won (Answers answer) (lost_try s call)) (cond won change []))
      (same_server (server_at shared.servers call.server) found)
      (λ won. answered answer (puts-change s call found mark answer planned)
      ∙ ap (λ it. it ++ change) (sym (append-nil before)))
      (λ lost. calm-adds (lost_try s call) (calm-lost_try s call))
  told-next shared (AtThreshold found) planned knows =
      calm-adds _ (calm-both call (eqb (slots_at shared.slots (group_of s call.server)).firm
      (limit_at s call.server)) (goes call (Limit found))
      (cond (eqb ((slots_at shared.slots (group_of s call.server)).firm + (slots_at shared.slots
      (group_of s call.server)).held) (limit_at s call.server)) (lost_try s call)
      (goes call (Reserving found (slots_at shared.slots (group_of s call.server))))) refl
      (calm-both call (eqb ((slots_at shared.slots (group_of s call.server)).firm
      + (slots_at shared.slots (group_of s call.server)).held) (limit_at s call.server))
      (lost_try s call)
      (goes call (Reserving found (slots_at shared.slots (group_of s call.server))))
      (calm-lost_try s call) refl))
  told-next shared (Limit found) planned knows =
      calm-adds _ (calm-both call (same_server found (server_at shared.servers call.server))
      (Answers reply.Full) (lost_try s call) refl (calm-lost_try s call))
  told-next shared (Reserving found slots) planned knows =
      by_test (λ won. Adds [] (cond won (goes call (Holding found)) (lost_try s call))
      (cond won [] [])) (same_slots (slots_at shared.slots (group_of s call.server)) slots)
      (λ won. calm-adds (goes call (Holding found)) refl)
      (λ lost. calm-adds (lost_try s call) (calm-lost_try s call))
  told-next shared (Holding found) planned knows =
      let change = change_by call reply.TookSoft ∷ [] in
      by_test (λ won. Adds [] (cond won (goes call Firming) (goes call Losing))
      (cond won change [])) (same_server (server_at shared.servers call.server) found)
      (λ won. ap (λ it. it ++ change) (sym (append-nil before)))
      (λ lost. calm-adds (goes call Losing) refl)
  told-next shared Firming planned knows =
      answered reply.TookSoft refl ∙ sym (append-nil (before ++ change_by call reply.TookSoft ∷ []))
  told-next shared Losing planned knows = calm-adds (lost_try s call) (calm-lost_try s call)
  told-next shared (Loosening found mark answer) planned knows =
      calm-adds (goes call (Loosened found mark answer)) refl
  told-next shared (Loosened found mark answer) planned knows =
      let change = change_by call answer ∷ [] in
      by_test (λ won. Adds [] (goes call (Emptied answer)) (cond won change []))
      (same_server (server_at shared.servers call.server) found)
      (λ won. ap (λ it. it ++ change) (sym (append-nil before)))
      (λ lost. let e : true ≡ false = sym knows ∙ lost in cc)
  told-next shared (Emptied answer) planned knows =
      answered answer planned ∙ sym (append-nil (before ++ change_by call answer ∷ []))
