-- How often the log says that the proxy itself lacks something.
use Rattle.std.specs.Prelude.{◌≡◌, ◌+◌, ◌≤◌, ◌<◌, ◌⊎◌, ℕ, Option, None, Some}
use Rattle.tko_bytes.specs.Numbers.{capped}

-- ten seconds, in milliseconds
abbrev pub lacks_every : ℕ
lacks_every = 10000

-- it may be said at a moment, where it may be said again from `due` on: that has come, or the clock
-- was set back
abbrev pub MaySay : (due now : ℕ) → Type 0
MaySay due now = (due ≤ now) ⊎ (capped (now + lacks_every) < due)

-- it is said at that moment, and may be again ten seconds later; or it may not be said
pub record IsLimited (due now : ℕ) (next : Option ℕ) : Type 0 where
  pub said : MaySay due now → next ≡ Some (capped (now + lacks_every))
  pub silent : (MaySay due now → ⊥) → next ≡ None
