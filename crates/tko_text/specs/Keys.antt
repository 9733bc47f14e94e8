-- Which bytes are a key.
use Rattle.std.specs.Prelude.{ℕ, ◌≤◌, ◌<◌, ◌≢◌, Bool, ◌&&◌, not, nat_le, nat_lt, ◌==◌, List, length, All}
use Rattle.std.specs.List.{list_all}
use Rattle.tko_bytes.specs.Words.{space}
use Rattle.tko_text.specs.Limits.{key_limit}

-- the control character after the printable ones
abbrev pub delete : ℕ
delete = 127

-- a byte of a key: no control character and no space
abbrev pub IsKeyByte : ℕ → Type 0
IsKeyByte b = (space < b) × (b ≢ delete)

pub record IsKey (bytes : List ℕ) : Type 0 where
  pub some : 1 ≤ length bytes
  pub few : length bytes ≤ key_limit
  pub each : All IsKeyByte bytes

-- the same as tests
abbrev pub is_key_byte : ℕ → Bool
is_key_byte b = nat_lt space b && not (b == delete)

unfoldable pub is_key : List ℕ → Bool
is_key bytes =
    nat_le 1 (length bytes)
    && (nat_le (length bytes) key_limit && list_all is_key_byte bytes)
