-- What a store has under each key, and how that changes.
use Rattle.std.specs.Prelude.{◌≡◌, ◌≢◌, ℕ, ◌+◌, ◌%◌, ◌^◌, List, Option, Some, None, bytes_eq}
use Rattle.std.specs.HashMap.{get_by}
use Rattle.tko_demo.specs.declared.effect.Change.{Change}
use Rattle.tko_demo.specs.declared.effect.Change.TheVariants.{Keep, Put, Remove}
use Rattle.tko_demo.specs.declared.store.Kept.{Kept}
use Rattle.tko_demo.specs.declared.store.Store.{Store}

-- what is stored under a key
abbrev pub kept_at : Store → List ℕ → Option Kept
kept_at store key = get_by (λ name. bytes_eq key name.items) store.kept

-- nothing is stored
abbrev pub HasNothing : Store → Type 0
HasNothing store = (key : List ℕ) → kept_at store key ≡ None

-- the same is stored under each key
pub record IsSameStore (old new : Store) : Type 0 where
  pub each : (key : List ℕ) → kept_at new key ≡ kept_at old key
  pub last : new.last ≡ old.last

-- the cas number that follows another one
abbrev pub next_unique : ℕ → ℕ
next_unique last = (last + 1) % 2 ^ 64

-- the last cas number after a change
abbrev pub last_after : Change → ℕ → ℕ
last_after Keep last = last
last_after (Put flags bytes) last = next_unique last
last_after Remove last = last

-- what is stored under the key of a change after it
abbrev pub kept_after : Change → ℕ → Option Kept → Option Kept
kept_after Keep last kept = kept
kept_after (Put flags bytes) last kept =
    Some (record { flags = flags; «data» = bytes; unique = next_unique last })
kept_after Remove last kept = None

-- what is stored under this key changed so, and nothing else did
pub record HasChanged (key : List ℕ) (change : Change) (old new : Store) : Type 0 where
  pub there : kept_at new key ≡ kept_after change old.last (kept_at old key)
  pub others : (other : List ℕ) → other ≢ key → kept_at new other ≡ kept_at old other
  pub last : new.last ≡ last_after change old.last
