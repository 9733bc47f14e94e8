-- Where the keys of a request are. No public clause cites this module.
use Rattle.std.specs.Prelude.{ℕ, List, [], ◌∷◌}
use Rattle.tko_text.specs.declared.keys.KeyStore.{KeyStore}
use Rattle.tko_text.specs.declared.keys.KeyStore.TheVariants.{One, Several}

abbrev pub held_keys : KeyStore → List (List ℕ)
held_keys (One key) = key ∷ []
held_keys (Several keys) = keys.items
