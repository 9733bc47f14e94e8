-- What a configuration names more than once.
use Rattle.std.specs.Prelude.{◌≡◌, ℕ, List, [], ◌∷◌, ◌++◌, if◌then◌else◌, codes, IsSomeAnd}
use Rattle.json.specs.Json.{document}
use Rattle.json.specs.Print.{quoted}
use Rattle.json.specs.Strict.{HasUniqueKeys}
use Rattle.serde_json.specs.Data.{Data, Members, no_members, member}
use Rattle.tko_explain.specs.Parts.{list_in, pool_names_of}
use Rattle.tko_explain.specs.Warnings.{members_at}
use Rattle.tko_pools.specs.RingServers.{is_in_names}

-- a name, where it is among these that follow it
abbrev pub name_again : List ℕ → List ℕ → List (List ℕ) → List ℕ → List ℕ
name_again before place others name =
    if is_in_names others name then before ++ quoted name ++ place ++ codes "\n" else []

-- each name of a list that comes again in it
abbrev pub names_again : List ℕ → List ℕ → List (List ℕ) → List ℕ
names_again before place [] = []
names_again before place (name ∷ others) =
    name_again before place others name ++ names_again before place others

-- each address that comes again in the list of a pool
unfoldable pub servers_again : List ℕ → Data → List ℕ
servers_again name pool =
    names_again (codes "warning: server ") (codes " is named again in pool " ++ quoted name)
    (list_in (codes "servers") pool)

-- the same of each pool
abbrev pub pools_again : Members → List ℕ
pools_again no_members = []
pools_again (member name pool others) = servers_again name pool ++ pools_again others

-- each pool that the route names again, and then each server that its pool names again
abbrev pub repeats_text : Data → List ℕ
repeats_text root =
    names_again (codes "warning: pool ") (codes " is named again by the route") (pool_names_of root)
    ++ pools_again (members_at (codes "pools") root)

-- what is said of an object with a key twice
abbrev pub key_line : List ℕ
key_line = codes "warning: an object has a key twice, and the last one counts\n"

-- whether an object of a text has a key twice
pub data IsKeyText (json text : List ℕ) : Type 0 where
  Unique : IsSomeAnd (document json) HasUniqueKeys → text ≡ [] → IsKeyText json text
  Twice : IsSomeAnd (document json) (λ it. ¬ HasUniqueKeys it) → text ≡ key_line
      → IsKeyText json text
