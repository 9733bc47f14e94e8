-- Reading a client's bytes: which text is which item, and where the next text begins. An item is
-- emitted as soon as its text has come, and a line without its LF is never judged.
use Rattle.std.specs.Prelude.{◌≡◌, ◌≢◌, ℕ, ◌-◌, List, [], ◌∷◌, ◌++◌, length, drop, nat_le, ◌==◌, if◌then◌else◌}
use Rattle.tko_text.specs.declared.fault.TextFault.TheVariants as fault
use Rattle.tko_text.specs.declared.item.Item.{Item}
use Rattle.tko_text.specs.declared.item.Item.TheVariants as item
use Rattle.tko_bytes.specs.Lines.{line_feed, carriage_return, crlf, content}
use Rattle.tko_text.specs.Lines.{IsLine, IsTooLong}
pub use Rattle.tko_text.specs.Commands.{After, Next, Pass, PassLine, Never}
use Rattle.tko_text.specs.Commands.{ParsedLine, Asks, AwaitsData, Refused, parsed}

-- what is skipped after the first wrong byte that follows data
abbrev pub after_wrong : ℕ → After
after_wrong b = if b == line_feed then Next else PassLine

-- the bytes that follow data, up to the first that shows that they are not CR LF
abbrev pub IsWrongEnd : List ℕ → After → Type 0
IsWrongEnd (b ∷ []) after = (b ≢ carriage_return) × (after ≡ after_wrong b)
IsWrongEnd (b ∷ c ∷ []) after = (b ≡ carriage_return) × (c ≢ line_feed) × (after ≡ PassLine)
IsWrongEnd _ after = ⊥

-- a line parsed so and these bytes that follow its LF are this item
abbrev pub Completes : ParsedLine → List ℕ → Item → After → Type 0
Completes (Asks command) following (item.Request request) after =
    (following ≡ []) × (request ≡ command) × (after ≡ Next)
Completes (Asks command) following (item.Fault why) after = ⊥
Completes (Refused why onward) following (item.Fault it) after =
    (following ≡ []) × (it ≡ why) × (after ≡ onward)
Completes (Refused why onward) following (item.Request request) after = ⊥
Completes (AwaitsData size command) following (item.Request request) after =
    (value : List ℕ) × (length value ≡ size) × (following ≡ value ++ crlf)
    × (request ≡ command value) × (after ≡ Next)
Completes (AwaitsData size command) following (item.Fault it) after =
    (value end : List ℕ) × (length value ≡ size) × (following ≡ value ++ end)
    × IsWrongEnd end after × (it ≡ fault.BadChunk)

-- a text is an item: a line and what completes it, or one byte more than a line may have
pub data Decides (text : List ℕ) (emitted : Item) (after : After) : Type 0 where
  by_line : (before following : List ℕ) → IsLine before → text ≡ before ++ line_feed ∷ following
      → Completes (parsed (content before)) following emitted after → Decides text emitted after
  by_length : IsTooLong text → emitted ≡ item.Fault fault.LineTooLong → after ≡ Never
      → Decides text emitted after

-- the state of reading: what is still to be skipped, and the bytes that belong to no item yet
pub record Reading : Type 0 where
  pub after : After
  pub unread : List ℕ

-- the state with these further bytes, once it has skipped what it can
abbrev pub passed : After → List ℕ → Reading
passed Next bytes = record { after = Next; unread = bytes }
passed (Pass n) bytes =
    if nat_le n (length bytes)
    then record { after = Next; unread = drop n bytes }
    else record { after = Pass (n - length bytes); unread = [] }
passed PassLine [] = record { after = PassLine; unread = [] }
passed PassLine (b ∷ bytes) =
    if b == line_feed then record { after = Next; unread = bytes } else passed PassLine bytes
passed Never bytes = record { after = Never; unread = [] }

-- before any byte
abbrev pub reading_start : Reading
reading_start = record { after = Next; unread = [] }

-- once further bytes have come
abbrev pub fed : Reading → List ℕ → Reading
fed from bytes = passed from.after (from.unread ++ bytes)

-- the next item from a state, and the state after it
unfoldable pub Emits : Reading → Item → Reading → Type 0
Emits from emitted to =
    (text left : List ℕ) × (after : After)
    × (from ≡ record { after = Next; unread = text ++ left })
    × Decides text emitted after × (to ≡ passed after left)

-- the unread bytes are no item yet
unfoldable pub NeedsMore : Reading → Type 0
NeedsMore from = (emitted : Item) (to : Reading) → Emits from emitted to → ⊥

-- these items one after another
abbrev pub EmitsEach : Reading → List Item → Reading → Type 0
EmitsEach from [] to = to ≡ from
EmitsEach from (emitted ∷ items) to =
    (mid : Reading) × Emits from emitted mid × EmitsEach mid items to

pub record Gives (from : Reading) (items : List Item) (to : Reading) : Type 0 where
  pub each : EmitsEach from items to

-- these bytes from the start are these items, and what is left is no further one yet
pub record Reads (bytes : List ℕ) (items : List Item) (left : Reading) : Type 0 where
  pub gives : Gives (fed reading_start bytes) items left
  pub open_end : NeedsMore left

-- further bytes change no item that came before them, so it does not matter how the input is cut
abbrev pub FeedingKeeps : Type 0
FeedingKeeps =
    (from : Reading) (emitted : Item) (to : Reading) (piece : List ℕ)
    → Emits from emitted to → Emits (fed from piece) emitted (fed to piece)

-- bytes are read in one way
abbrev pub OneReading : Type 0
OneReading =
    (bytes : List ℕ) (items others : List Item) (left rest : Reading)
    → Reads bytes items left → Reads bytes others rest → (items ≡ others) × (left ≡ rest)
