-- What a worker is started with.
use Rattle.std.specs.Prelude.{◌≡◌, ℕ, List, All, length}
use Rattle.tko_threads.specs.declared.pooling.Member.{Member}
use Rattle.tko_threads.specs.declared.working.WorkerParts.{WorkerParts}

-- the seating, the links and the probers have the servers of the configuration
pub record IsEquipped {S L M : Type 0} (seated : S → ℕ) (linked : L → ℕ)
    (parts : WorkerParts S L M) : Type 0 where
  pub seating : seated parts.seating.now ≡ length parts.config.addresses
  pub links : linked parts.links ≡ length parts.config.addresses
  pub probers : length parts.probers.slots ≡ length parts.config.addresses

-- a member has an idle seat of its seating, and all that a worker needs
pub record IsMemberReady {C P S L M : Type 0} (own : S → P → Type 0) (seated : S → ℕ)
    (linked : L → ℕ) (member : Member C P S L M) : Type 0 where
  pub seat : own member.parts.seating.now member.idle
  pub equipped : IsEquipped seated linked member.parts

-- each of these members is ready
abbrev pub AreMembersReady : {C P S L M : Type 0} → (S → P → Type 0) → (S → ℕ) → (L → ℕ)
    → List (Member C P S L M) → Type 0
AreMembersReady own seated linked members =
    All (λ member. IsMemberReady own seated linked member) members
