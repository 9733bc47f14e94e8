-- Lines that are shown.
use Rattle.std.proofs.Common.{◌≡◌, ℕ, List, [], ◌∷◌, arith, length, refl}
use Rattle.tko_bytes.specs.Lines.{lines_of}
use Rattle.tko_demo.specs.Exchanges.{signed_lines}

-- an empty text has no lines
pub no_lines : (sign text : List ℕ) → length text ≡ 0 → signed_lines sign text ≡ []
unfolding lines_of
no_lines sign [] none = refl
no_lines sign (b ∷ bytes) none = absurd (omega (arith, none))
