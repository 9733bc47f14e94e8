-- A line that is put together for keys that are due at a server.
use Rattle.std.specs.Prelude.{◌≡◌, ℕ, Bool, true, false, List, [], ◌∷◌, ◌++◌, Option, Some, None}
use Rattle.std.specs.Prelude.{map, unwrap_or}
use Rattle.std.specs.Option.{option_map}
use Rattle.tko_keys.specs.KeysState.{DueKey, KeySlot, LineSoFar, first_due}
use Rattle.tko_keys.specs.declared.plan.Grouping.{Grouping}
use Rattle.tko_keys.specs.declared.plan.Grouping.TheVariants.{ByServer}
use Rattle.tko_keys.specs.Lines.{HasNoRoom, IsLineForKeys, IsLineFull, IsSentBy, Picks, key_at}
use Rattle.tko_keys.specs.Lines.{line_length}

-- its request is one for these keys, and their bytes were counted
pub record IsKeyLineFor (unique : Bool) (keys : List (List ℕ)) (line : LineSoFar) : Type 0 where
  pub request : IsLineForKeys unique keys line.request
  pub bytes : line.bytes ≡ line_length keys

-- the key of a place was put into a line for these keys
pub record HasJoinedLine (unique : Bool) (keys : List (List ℕ)) (place : ℕ) (key : List ℕ)
    (old new : LineSoFar) : Type 0 where
  pub others : new.others ≡ old.others ++ place ∷ []
  pub line : IsKeyLineFor unique (keys ++ key ∷ []) new

-- it had no room there
pub record HasFoundNoRoom (keys : List (List ℕ)) (key : List ℕ) (old new : LineSoFar) : Type 0 where
  pub full : HasNoRoom keys key
  pub same : new ≡ old

-- whether it had room
abbrev pub Offered : Bool → Bool → List (List ℕ) → ℕ → List ℕ → LineSoFar → LineSoFar → Type 0
Offered true unique keys place key old new = HasJoinedLine unique keys place key old new
Offered false unique keys place key old new = HasFoundNoRoom keys key old new

-- the first key that is due at a server is taken
pub record IsFirstDue (server : ℕ) (old : List DueKey) (it : DueKey) (new : List DueKey) : Type 0
  where
    pub before : List DueKey
    pub after : List DueKey
    pub are : old ≡ before ++ it ∷ after
    pub others : new ≡ before ++ after
    pub none : first_due server before ≡ None
    pub meets : it.server ≡ server

module _ (unique : Bool) (slots : List KeySlot) (server : ℕ) where
  -- a key is not due at the server, or had no room in a line for these keys
  pub record IsPassedOver (keys : List (List ℕ)) (it : DueKey) (old new : LineSoFar) : Type 0 where
    pub full : it.server ≡ server → HasNoRoom keys (key_at slots it.place)
    pub same : new ≡ old

  -- it is due there, and was put into the line
  pub record IsPut (keys : List (List ℕ)) (it : DueKey) (old new : LineSoFar) : Type 0 where
    pub meets : it.server ≡ server
    pub joined : HasJoinedLine unique keys it.place (key_at slots it.place) old new

  -- whether it was put into the line, or nothing, where memory ran out
  abbrev pub PutsAs : Option Bool → List (List ℕ) → DueKey → LineSoFar → LineSoFar → Type 0
  PutsAs (Some true) keys it old new = IsPut keys it old new
  PutsAs (Some false) keys it old new = IsPassedOver keys it old new
  PutsAs None keys it old new = new ≡ old

  -- Keys that are due at the server were put into a line for these keys. Unless memory ran out,
  -- those that stay had no room.
  pub record HasFilled (short : Bool) (keys : List (List ℕ)) (due : List DueKey) (old : LineSoFar)
      (stay : List DueKey) (new : LineSoFar) : Type 0 where
    pub places : List ℕ
    pub picks : Picks server due places stay
    pub others : new.others ≡ old.others ++ places
    pub line : IsKeyLineFor unique (keys ++ map (key_at slots) places) new
    pub full : short ≡ false → IsLineFull slots server (keys ++ map (key_at slots) places) stay

-- the places of the keys of a line beside the first
abbrev pub others_in : Option LineSoFar → List ℕ
others_in line = unwrap_or (option_map (λ it. it.others) line) []

-- a line is for the key of a place and others
abbrev pub IsLineOf : Bool → List KeySlot → ℕ → Option LineSoFar → Type 0
IsLineOf unique slots place None = Unit {0}
IsLineOf unique slots place (Some line) =
    IsLineForKeys unique (key_at slots place ∷ map (key_at slots) line.others) line.request

-- keys that are due at the server go with that of a place
pub record HasGathered (unique : Bool) (slots : List KeySlot) (server place : ℕ)
    (line : Option LineSoFar) (short : Bool) (due stay : List DueKey) : Type 0 where
  pub picks : Picks server due (others_in line) stay
  pub for_keys : IsLineOf unique slots place line
  pub full : short ≡ false
      → IsLineFull slots server (key_at slots place ∷ map (key_at slots) (others_in line)) stay

-- what goes out with the key of a place that is due at the server: nothing, or the keys of a line
pub record GoesWith (grouping : Grouping) (unique : Bool) (slots : List KeySlot) (server place : ℕ)
    (line : Option LineSoFar) (short : Bool) (due stay : List DueKey) : Type 0 where
  pub picks : Picks server due (others_in line) stay
  pub by : IsSentBy grouping unique slots (place ∷ others_in line)
      (option_map (λ it. it.request) line)
  pub full : short ≡ false → grouping ≡ ByServer
      → IsLineFull slots server (key_at slots place ∷ map (key_at slots) (others_in line)) stay
