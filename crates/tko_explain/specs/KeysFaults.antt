-- Which of two texts is no configuration.
use Rattle.std.specs.Prelude.{ℕ, List, Option, IsSomeAnd}
use Rattle.tko_explain.specs.declared.keys_fault.KeysFault.{KeysFault}
use Rattle.tko_explain.specs.declared.keys_fault.KeysFault.TheVariants as fault
use Rattle.tko_pools.specs.Configs.{Refuses}

-- the text of the configuration is refused, or that of the other one
abbrev pub RefusesOne : List ℕ → Option (List ℕ) → KeysFault → Type 0
RefusesOne json against (fault.Config cause) = Refuses json cause
RefusesOne json against (fault.Against cause) = IsSomeAnd against (λ text. Refuses text cause)
