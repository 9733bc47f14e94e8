-- Queues, each as its items and how many it has room for.
use Rattle.std.specs.Prelude.{◌≡◌, ◌≤◌, ℕ, List}

-- nothing of a queue changed, but that it may have more room
abbrev pub HasMoreRoom : {X : Type 0} → List X × ℕ → List X × ℕ → Type 0
HasMoreRoom old new = (new.0 ≡ old.0) × (old.1 ≤ new.1)
