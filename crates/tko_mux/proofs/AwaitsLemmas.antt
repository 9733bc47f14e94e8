-- A session that has one request under way at most, and one that keeps its requests in order.
use Rattle.std.proofs.Common.{arith, ◌≡◌, ◌≢◌, ◌<◌, ◌+◌, ℕ, List, [], ◌∷◌, ◌++◌, refl, ap, inl, inr, Option, Some, None}
use Rattle.std.specs.Prelude.{◌==◌}
use Rattle.std.proofs.lemmas.Bool.Decides.{eqb_tells}
use Rattle.std.proofs.lemmas.List.Sums.{sum_by-append, sum_by-cons}
use Rattle.tko_mux.specs.declared.asking.Came.{Came}
use Rattle.tko_mux.specs.Awaits.{IsAsking, IsTaking, awaited_one, no_memory, one_if, times_due}
use Rattle.tko_mux.specs.declared.asking.Came.TheVariants.{Unsent}

pub due_first : (it : ℕ) (rest : List ℕ) (server : ℕ)
    → times_due (it ∷ rest) server ≡ one_if (it == server) + times_due rest server
due_first it rest server = sum_by-cons (λ (one : ℕ). one_if (one == server)) it rest

pub due_both : (one other : List ℕ) (server : ℕ)
    → times_due (one ++ other) server ≡ times_due one server + times_due other server
due_both one other server = sum_by-append (λ (it : ℕ). one_if (it == server)) one other

-- only the one that is awaited
pub awaits_one : (awaited : Option ℕ) (server : ℕ) → 0 < times_due (awaited_one awaited) server
    → awaited ≡ Some server
awaits_one None server some = absurd (omega (arith, some))
awaits_one (Some it) server some =
    elim (eqb_tells it server) [
      | inl eq ↦ ap Some eq.1
      | inr ne ↦
          let none : one_if (it == server) ≡ 0 = ap one_if ne.0 in
          absurd (omega (arith, some, none, due_first it [] server))
    ]

pub awaits_some : (server : ℕ) → awaited_one (Some server) ≢ []
awaits_some server e = let none : ⊥ = cc e in none

-- one that awaited nobody asks
pub asks_one : (asked : Option ℕ) → IsAsking asked [] (awaited_one asked)
asks_one None = λ at. refl
asks_one (Some server) = λ at. omega (arith, due_first server [] at)

-- and once what it awaited came
pub takes_one : (server : ℕ) (came : Came) (asked : Option ℕ) (old new : List ℕ)
    → old ≡ server ∷ [] → new ≡ awaited_one asked → (came ≡ no_memory → asked ≡ None)
    → (came ≡ Unsent → asked ≡ None) → IsTaking server came asked old new
takes_one server came None old new was now memory unsent = record {
  awaits = λ at.
      let before : times_due old at ≡ times_due (server ∷ []) at =
      ap (λ a. times_due a at) was in
      let after : times_due new at ≡ 0 = ap (λ a. times_due a at) now in
      omega (arith, before, after, due_first server [] at);
  memory = memory;
  unsent = unsent;
}
takes_one server came (Some next) old new was now memory unsent = record {
  awaits = λ at.
      let before : times_due old at ≡ times_due (server ∷ []) at =
      ap (λ a. times_due a at) was in
      let after : times_due new at ≡ times_due (next ∷ []) at =
      ap (λ a. times_due a at) now in
      omega (arith, before, after, due_first server [] at, due_first next [] at);
  memory = memory;
  unsent = unsent;
}

-- one more at the end
pub asks_last : (server : ℕ) (awaited : List ℕ)
    → IsAsking (Some server) awaited (awaited ++ server ∷ [])
asks_last server awaited = λ at.
    omega (arith, due_both awaited (server ∷ []) at, due_first server [] at)

-- one less in between
pub due_without : (server : ℕ) (before after : List ℕ) (at : ℕ)
    → times_due (before ++ after) at + one_if (server == at)
    ≡ times_due (before ++ server ∷ after) at
due_without server before after at =
    omega (
      arith,
      due_both before after at,
      due_both before (server ∷ after) at,
      due_first server after at,
    )
