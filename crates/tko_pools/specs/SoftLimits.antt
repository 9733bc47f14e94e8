-- The soft limit of a pool: how many of the servers that it owns may have a soft mark at once.
use Rattle.std.specs.Prelude.{ℕ, nat_le, Bool, false, if◌then◌else◌, List, codes, Option, Some, None, option_and_then}
use Rattle.std.specs.Option.{is_none}
use Rattle.serde_json.specs.Data.{Data}
use Rattle.serde_json.specs.Find.{get, as_number, as_u64}
use Rattle.tko_model.specs.Limits.{max_limit}

abbrev pub limit_below : ℕ → Option ℕ
limit_below n = if nat_le n max_limit then Some n else None

-- a whole number in its range
abbrev pub soft_limit_of : Data → Option ℕ
soft_limit_of value = option_and_then limit_below (option_and_then as_u64 (as_number value))

-- what a pool has as its soft limit, if it has one
abbrev pub limit_value : Data → Option Data
limit_value pool = get (codes "soft_limit") pool

-- whether there is a value that is no soft limit
abbrev pub is_no_limit : Option Data → Bool
is_no_limit None = false
is_no_limit (Some value) = is_none (soft_limit_of value)

-- the soft limit of the pool of a name, where it has one
abbrev pub soft_limit_named : Data → List ℕ → Option ℕ
soft_limit_named pools name =
    option_and_then soft_limit_of (option_and_then limit_value (get name pools))
