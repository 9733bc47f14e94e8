-- What a read of a piece came to.
use Rattle.std.specs.Prelude.{◌≡◌, ◌≤◌, ℕ, List, [], length, take}
use Rattle.tko_io.specs.declared.pieces.Piece.{Piece}
use Rattle.tko_io.specs.declared.pieces.Piece.TheVariants as piece

-- how many failures of the reader it is
abbrev pub fails_in : Piece → ℕ
fails_in (piece.Bytes count) = 0
fails_in piece.Idle = 0
fails_in piece.Failed = 1

-- how many idle turns of the reader it is
abbrev pub idle_in : Piece → ℕ
idle_in (piece.Bytes count) = 0
idle_in piece.Idle = 1
idle_in piece.Failed = 0

-- `count` bytes were read, and where that is none the input ended
pub record IsRead {I : Type 0} (gives : I → List ℕ → I → Type 0) (is_ended : I → Type 0)
    (old : I) (count : ℕ) (buffer : List ℕ) (new : I) : Type 0 where
  pub within : count ≤ length buffer
  pub bytes : gives old (take count buffer) new
  pub ended : count ≡ 0 → is_ended new

-- bytes were read to the front of the buffer, or none
abbrev pub IsPiece : {I : Type 0} → (I → List ℕ → I → Type 0) → (I → Type 0)
    → I → Piece → List ℕ → I → Type 0
IsPiece gives is_ended old (piece.Bytes count) buffer new =
    IsRead gives is_ended old count buffer new
IsPiece gives is_ended old piece.Idle buffer new = gives old [] new
IsPiece gives is_ended old piece.Failed buffer new = gives old [] new
