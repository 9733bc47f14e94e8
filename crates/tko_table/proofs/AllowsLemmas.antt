-- The rule is kept and the pass took the step of its phase, where a seat has one pass, which is at
-- this call and phase.
use Rattle.std.proofs.Common.{◌≡◌, ℕ, zero, suc, ◌<◌, List, [], ◌∷◌, length, set, refl, sym, ap}
use Rattle.std.proofs.Common.{subst, arith}
use mathlib.Core.Option.{some, some-ne-none}
use lib.ListN.{get_elem?}
use Rattle.atomic_table.proofs.Lists.{set_here}
use Rattle.atomic_table.specs.Table.{Me, State}
use Rattle.tko_model.specs.declared.mark.Op.{Op}
use Rattle.tko_model.specs.Settings.{Settings}
use Rattle.tko_steps.specs.declared.phase.Call.{Call}
use Rattle.tko_steps.specs.declared.phase.Phase.{Phase}
use Rattle.tko_steps.specs.declared.phase.ThreadState.TheVariants.{InCall}
use Rattle.tko_steps.specs.declared.table.Observed.{Observed}
use Rattle.tko_steps.specs.Steps.{in_call}
use Rattle.tko_steps.specs.Table.{action_of}
use Rattle.tko_table.specs.declared.pass.PassView.{PassView}
use Rattle.tko_table.specs.Rule.{IsKept, shared_in}
use Rattle.tko_table.specs.Steps.{Takes, read_in}
use Rattle.tko_table.proofs.KeptLemmas.{act-kept, act-takes, pass_after}
use Rattle.tko_table.proofs.StepLemmas.{IsStepOn}
use Rattle.tko_table.proofs.BeginLemmas.{begin-kept, with_state}

abbrev pub Table : Type 0
Table = State (Unit {0}) (List PassView)

abbrev pub Seat : Type 0
Seat = Me (Unit {0}) (List PassView)

-- the rule of a table under these settings
abbrev pub Rule : Settings → Table → Type 0
Rule s state = IsKept s state.words state.views

set_twice : {A : Type 0} (xs : List A) (i : ℕ) (one other : A)
    → set (set xs i one) i other ≡ set xs i other
set_twice [] i one other = refl
set_twice (x ∷ xs) zero one other = refl
set_twice (x ∷ xs) (suc i) one other = ap (λ more. x ∷ more) (set_twice xs i one other)

pub there-lt : {A : Type 0} (xs : List A) (i : ℕ) (x : A) → get_elem? xs i ≡ some x → i < length xs
there-lt [] i x e = absurd (some-ne-none x (sym e))
there-lt (y ∷ xs) zero x e = omega arith
there-lt (y ∷ xs) (suc i) x e = omega (arith, there-lt xs i x e)

-- what a seat's one pass became, with the rule of the table then
pub record IsTaken (s : Settings) (words new_words : List ℕ) (views : List (List PassView)) (id : ℕ)
    (pass : PassView) (call : Call) (phase : Phase)
    (found : ℕ) : Type 0 where
  pub new : PassView
  pub kept : IsKept s new_words (set views id (new ∷ []))
  pub takes : Takes pass call phase (read_in (action_of call.number phase) found) new

pub taken-call : (s : Settings) (words new_words : List ℕ) (views : List (List PassView)) (id : ℕ)
    (pass : PassView) (call : Call) (phase : Phase) (found : ℕ)
    → IsKept s words views → get_elem? views id ≡ some (pass ∷ []) → pass.state ≡ InCall call phase
    → IsStepOn s words new_words call.server (action_of call.number phase) found
    → IsTaken s words new_words views id pass call phase found
taken-call s words new_words views id pass call phase found kept there stands on =
    let P : Observed → Type 0 = λ it. Takes pass call phase it (pass_after s words new_words views
    id [] [] pass call phase kept there stands on.left on.valid) in
    record {
      new = pass_after s words new_words views id [] [] pass call phase kept there stands
          on.left on.valid;
      kept = act-kept s words new_words views id [] [] pass call phase kept there stands
          on.left on.valid;
      takes = subst P on.reads (act-takes s words new_words views id [] [] pass call phase kept
          there stands on.left on.valid);
    }

pub taken-look : (s : Settings) (words new_words : List ℕ) (views : List (List PassView)) (id : ℕ)
    (pass : PassView) (call : Call) (phase : Phase) (found : ℕ)
    → IsKept s words views → get_elem? views id ≡ some (pass ∷ []) → (op : Op)
    → in_call pass.state op call.server ≡ InCall call phase
    → call.server < length (shared_in s words).servers
    → IsStepOn s words new_words call.server (action_of call.number phase) found
    → IsTaken s words new_words views id pass call phase found
taken-look s words new_words views id pass call phase found kept there op begins on_server on =
    let begun = begin-kept s words views id [] [] pass op call.server kept there on_server call
    phase begins in
    let pass_now = with_state pass (InCall call phase) in
    let there_now = set_here views id (pass_now ∷ []) (there-lt views id (pass ∷ []) there) in
    let taken = taken-call s words new_words
    (set views id (pass_now ∷ [])) id pass_now call phase found begun there_now refl on in
    let takes = taken.takes in
    record {
      new = taken.new;
      kept = subst (IsKept s new_words)
          (set_twice views id (pass_now ∷ []) (taken.new ∷ [])) taken.kept;
      takes = record {
        core = takes.core;
        is_found = record {
          is = takes.is_found.is;
          settings = takes.is_found.settings;
          thread = takes.is_found.thread;
          inside = takes.is_found.inside;
          stands = takes.is_found.stands;
        };
        between = takes.between;
        others = takes.others;
        drawn = takes.drawn;
        found = takes.found;
        reads = takes.reads;
        left = takes.left;
        own = takes.own;
        gained = takes.gained;
        knows = takes.knows;
      };
    }
