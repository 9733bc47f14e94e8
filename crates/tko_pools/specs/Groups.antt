-- The groups of the servers. A server belongs to the first child that holds it. The children that
-- own a server are the groups, numbered from 0 in the order of the children. A child that names the
-- pool of an earlier one owns no server.
use Rattle.std.specs.Prelude.{ℕ, ◌==◌, Bool, List, length, map, unwrap_or}
use Rattle.std.specs.List.{filter, list_any, position, range_with_len}

-- the first place of an item that passes; how many items there are where none does
abbrev pub first_place : {T : Type 0} → (T → Bool) → List T → ℕ
first_place test items = unwrap_or (position test items) (length items)

-- whether this number is in a list
abbrev pub is_number_in : List ℕ → ℕ → Bool
is_number_in numbers number = list_any (λ other. other == number) numbers

-- the place of the first child that holds a server
abbrev pub first_child_with : List (List ℕ) → ℕ → ℕ
first_child_with children server = first_place (λ child. is_number_in child server) children

-- the owners of as many servers
abbrev pub owners_of : List (List ℕ) → ℕ → List ℕ
owners_of children servers = map (first_child_with children) (range_with_len 0 servers)

-- the places of the children that own a server, in their order
abbrev pub owning : List ℕ → ℕ → List ℕ
owning owners children = filter (is_number_in owners) (range_with_len 0 children)

-- the places of the children that own one of as many servers
abbrev pub places_in : List (List ℕ) → ℕ → List ℕ
places_in children servers = owning (owners_of children servers) (length children)

-- the group of each server: the place of its owner among the children that own one
abbrev pub groups_of : List ℕ → List ℕ → List ℕ
groups_of owners places =
    map (λ owner. first_place (λ place. place == owner) places) owners

-- the groups of as many servers of these children
abbrev pub groups_in : List (List ℕ) → ℕ → List ℕ
groups_in children servers = groups_of (owners_of children servers) (places_in children servers)
