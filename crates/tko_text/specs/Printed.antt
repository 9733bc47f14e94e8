-- Which requests there are, and that the printed form of each is read as that request.
use Rattle.std.specs.Prelude.{ℕ, ℤ, pos, negsuc, ◌<◌, ◌≤◌, List, [], ◌∷◌, ◌++◌, length, All}
use Rattle.std.specs.List.{join_with_byte}
use Rattle.tko_bytes.specs.Lines.{carriage_return}
use Rattle.tko_bytes.specs.Words.{space}
use Rattle.tko_text.specs.declared.item.Item.TheVariants as item
use Rattle.tko_text.specs.declared.request.Entry.{Entry}
use Rattle.tko_text.specs.declared.request.Request.{Request}
use Rattle.tko_text.specs.declared.request.Request.TheVariants.{Get, Gets, Store, Cas, Delete, Incr, Decr, Touch}
use Rattle.tko_text.specs.Keys.{IsKey}
use Rattle.tko_text.specs.Limits.{data_limit, expiry_limit, flags_limit, line_limit, negative_expiry_limit, number_limit}
use Rattle.tko_text.specs.Reading.{Emits, fed, reading_start}
use Rattle.tko_text.specs.Requests.{printed_words, request_text}

-- one key or more
pub record AreKeys (keys : List (List ℕ)) : Type 0 where
  pub some : 0 < length keys
  pub each : All IsKey keys

-- from -2^63 to 2^63 - 1
abbrev pub IsExpiry : ℤ → Type 0
IsExpiry (pos seconds) = seconds ≤ expiry_limit
IsExpiry (negsuc seconds) = seconds < negative_expiry_limit

pub record IsEntry (entry : Entry) : Type 0 where
  pub key : IsKey entry.key
  pub flags : entry.flags ≤ flags_limit
  pub expiry : IsExpiry entry.expiry
  pub value : length entry.value ≤ data_limit

-- keys that are keys, and numbers and data within their limits
abbrev pub IsRequest : Request → Type 0
IsRequest (Get keys) = AreKeys keys
IsRequest (Gets keys) = AreKeys keys
IsRequest (Store verb entry noreply) = IsEntry entry
IsRequest (Cas entry unique noreply) = IsEntry entry × (unique ≤ number_limit)
IsRequest (Delete key noreply) = IsKey key
IsRequest (Incr key amount noreply) = IsKey key × (amount ≤ number_limit)
IsRequest (Decr key amount noreply) = IsKey key × (amount ≤ number_limit)
IsRequest (Touch key expiry noreply) = IsKey key × IsExpiry expiry
IsRequest _ = Unit {0}

-- the bytes of the printed line before its LF
abbrev pub printed_line : Request → List ℕ
printed_line request = join_with_byte space (printed_words request) ++ carriage_return ∷ []

-- where its line isn't too long, a printed request is read as that request, whatever follows it
abbrev pub ReadAgain : Type 0
ReadAgain =
    (request : Request) (more : List ℕ) → IsRequest request
    → length (printed_line request) ≤ line_limit
    → Emits (fed reading_start (request_text request ++ more)) (item.Request request)
    (fed reading_start more)
