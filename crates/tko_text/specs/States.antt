-- The state of reading that a reader's state stands for.
use Rattle.std.specs.Prelude.{◌≡◌, ◌<◌, ◌≤◌, ℕ, List, [], ◌∷◌, ◌++◌, drop, length, take, Option, Some, None}
use Rattle.tko_bytes.specs.Lines.{content, line_feed}
use Rattle.tko_text.specs.declared.line.Header.{Header}
use Rattle.tko_text.specs.declared.pending.Pending.{Pending}
use Rattle.tko_text.specs.declared.state.ReaderState.{ReaderState}
use Rattle.tko_text.specs.declared.state.ReaderState.TheVariants as state
use Rattle.tko_text.specs.Commands.{AwaitsData, parsed}
use Rattle.tko_text.specs.Lines.{IsLine}
use Rattle.tko_text.specs.Parsed.{request_with}
use Rattle.tko_text.specs.declared.fault.TextFault.TheVariants.{LineTooLong}
use Rattle.tko_text.specs.declared.item.Item.{Item}
use Rattle.tko_text.specs.declared.item.Item.TheVariants as item
use Rattle.tko_text.specs.Limits.{data_limit}
use Rattle.tko_text.specs.Reading.{Reading, Next, Pass, PassLine, Never, Emits, NeedsMore}

abbrev pub reading_of : ReaderState → List ℕ → Reading
reading_of state.Line unread = record { after = Next; unread = unread }
reading_of (state.Data pending) unread =
    record { after = Next; unread = pending.line.items ++ pending.data.items }
reading_of (state.Skip count) unread = record { after = Pass count; unread = [] }
reading_of state.SkipLine unread = record { after = PassLine; unread = [] }
reading_of state.Never unread = record { after = Never; unread = [] }

-- a state with these unread bytes, where a line is awaited
abbrev pub at : List ℕ → Reading
at bytes = record { after = Next; unread = bytes }

-- the next item, or none where the bytes are none yet
abbrev pub Steps : Reading → Option Item → Reading → Type 0
Steps from None to = NeedsMore from × (to ≡ from)
Steps from (Some emitted) to =
    Emits from emitted to × (emitted ≡ item.Fault LineTooLong → to.after ≡ Never)

-- these are the words of a request whose data follow, and its header
pub record IsHeaderOf (words : List ℕ) (header : Header) : Type 0 where
  pub parsed_is : parsed words ≡ AwaitsData header.size (request_with header)
  pub small : header.size ≤ data_limit

-- a header, and the line that it was parsed from
pub record IsPending (pending : Pending) : Type 0 where
  pub before : List ℕ
  pub is_line : IsLine before
  pub line_is : pending.line.items ≡ before ++ line_feed ∷ []
  pub header_is : IsHeaderOf (content before) pending.header

-- this header awaits data, with the first `len` bytes as its line and the others as data so far
pub record IsPendingAfter (header : Header) (len : ℕ) (bytes : List ℕ) (pending : Pending)
    : Type 0 where
  pub header_is : pending.header ≡ header
  pub line_is : pending.line.items ≡ take len bytes
  pub rest : pending.data.items ≡ drop len bytes

-- but for a line that is awaited, the buffer is empty
abbrev pub IsState : ReaderState → List ℕ → Type 0
IsState state.Line unread = Unit {0}
IsState (state.Data pending) unread = (unread ≡ []) × IsPending pending
IsState (state.Skip count) unread = (unread ≡ []) × (0 < count)
IsState state.SkipLine unread = unread ≡ []
IsState state.Never unread = unread ≡ []

abbrev pub IsDataState : ReaderState → Type 0
IsDataState (state.Data pending) = Unit {0}
IsDataState _ = ⊥

-- all data of the pending request have come
abbrev pub HasData : ReaderState → Type 0
HasData (state.Data pending) =
    (pending.header.size ≤ length pending.data.items) × (pending.header.size ≤ data_limit)
HasData _ = Unit {0}

-- the pending request with its data
abbrev pub whole_request : ReaderState → Option Item
whole_request (state.Data pending) =
    Some (item.Request (request_with pending.header (take pending.header.size pending.data.items)))
whole_request _ = None
