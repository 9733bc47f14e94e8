-- What came from one server more was taken.
use Rattle.std.proofs.Common.{◌≡◌, ◌+◌, ℕ, List, sym, subst, ◌∙◌, inl, inr, arith}
use Rattle.std.specs.Prelude.{◌&&◌, Bool, true, false, Option, not}
use Rattle.std.specs.Bool.{OnFalse, OnTrue}
use Rattle.std.proofs.lemmas.Bool.{OnTrue_at, OnTrue_from, and_parts, cases_lt}
use Rattle.tko_mux.specs.Muxes.{WaitsFor}
use Rattle.tko_port.specs.declared.guest.Guest.{Guest}
use Rattle.tko_port.specs.Ports.{PortState}
use Rattle.tko_worker.specs.Acts.{HasActed}
use Rattle.tko_worker.specs.Servers.{HasNoResponse, IsServerDone}
use Rattle.tko_worker.specs.Taking.{AreResponsesTaken, AreTaken, is_flag_set}
use Rattle.tko_worker.specs.Workers.{Sight, WorkerState}
use Rattle.tko_worker.proofs.ActedLemmas.{acted_none, worker_acted_on}

module _ {L T P : Type 0} (sight : Sight L T) (waits_for : WaitsFor (Guest L T))
    (flags : List Bool) where
  -- it stays so whatever is done next
  pub taken_on : (count : ℕ) (one two three : WorkerState L T P)
      → AreTaken sight waits_for flags count one two → HasActed sight two three
      → AreTaken sight waits_for flags count one three
  taken_on count one two three taken more server below set =
      let it : AreResponsesTaken sight waits_for one server two = taken server below set in
      record {
        mid = it.mid;
        before = it.before;
        none = it.none;
        after = worker_acted_on sight it.mid two three it.after more;
      }

  -- nothing is left of the next server
  pub none_left : (count : ℕ) (one two : WorkerState L T P) → HasActed sight one two
      → HasNoResponse waits_for two.mux count → AreResponsesTaken sight waits_for one count two
  none_left count one two done none = record {
    mid = two;
    before = done;
    none = none;
    after = acted_none sight (two.mux.roster, two.ends);
  }

  one_more : (count : ℕ) (one two : WorkerState L T P)
      → AreTaken sight waits_for flags count one two
      → (is_flag_set flags count ≡ true → AreResponsesTaken sight waits_for one count two)
      → AreTaken sight waits_for flags (count + 1) one two
  one_more count one two before its server below set = elim (cases_lt server count) [
    | inl less ↦ before server less set
    | inr most ↦ (
        let same : count ≡ server = omega arith in
        subst (λ n. AreResponsesTaken sight waits_for one n two) same
        (its (subst (λ n. is_flag_set flags n ≡ true) (sym same) set)))
  ]

  -- what came from the next server was taken, or some of it is left
  pub taken_next : (count moment : ℕ) (port : Option PortState) (all its both : Bool)
      (one two three : WorkerState L T P)
      → both ≡ (all && its) → HasActed sight one two → HasActed sight two three
      → OnTrue all (AreTaken sight waits_for flags count one two)
      → OnTrue its (IsServerDone waits_for three.mux count port moment)
      → OnTrue both (AreTaken sight waits_for flags (count + 1) one three)
  taken_next count moment port all its both one two three is done more before its_done =
      OnTrue_from both (AreTaken sight waits_for flags (count + 1) one three) (λ yes.
      (let parts = and_parts all its (sym is ∙ yes) in
      one_more count one three (taken_on count one two three (OnTrue_at parts.0 before) more)
      (λ _. none_left count one three (worker_acted_on sight one two three done more)
      (OnTrue_at parts.1 its_done).drained.taken)))

  -- all was taken, or some of it is left, whatever is done next
  pub all_taken : (now : List Bool) (count : ℕ) (all : Bool) (one two three : WorkerState L T P)
      → flags ≡ now → OnTrue all (AreTaken sight waits_for flags count one two)
      → HasActed sight two three → OnFalse (not all) (AreTaken sight waits_for now count one three)
  all_taken now count true one two three same taken more =
      subst (λ f. AreTaken sight waits_for f count one three) same
      (taken_on count one two three taken more)
  all_taken now count false one two three same taken more = tt
