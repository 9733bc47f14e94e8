-- The results of the parts of a response's reader.
use Rattle.std.specs.Prelude.{◌≡◌, ◌≢◌, ℕ, ◌+◌, ◌<◌, ◌≤◌, ◌⊎◌, Bool, List, [], ◌∷◌, ◌++◌, length, take, drop, slice_index, codes, nat_lt, if◌then◌else◌, Option, Some, None, is_some, option_map, Result, Ok, Err}
use Rattle.std.specs.Str.{bytes_eq}
use Rattle.tko_bytes.specs.Lines.{carriage_return, line_feed}
use Rattle.tko_bytes.specs.Numbers.{number_of}
use Rattle.tko_bytes.specs.Words.{words}
use Rattle.tko_text.specs.declared.response.Response.{Response}
use Rattle.tko_text.specs.declared.response.Response.TheVariants.{Values, Stored, NotStored, Exists, Deleted, Touched, NotFound, Number, Version, Error, ClientError, ServerError}
use Rattle.tko_text.specs.declared.response.body.Value.{Value}
use Rattle.tko_text.specs.declared.response.fault.ReadFault.{ReadFault}
use Rattle.tko_text.specs.declared.response.fault.ReadFault.TheVariants as fault
use Rattle.tko_text.specs.Limits.{number_limit}
use Rattle.tko_text.specs.ResponseLines.{IsOpenLine, IsOverlong, Split, SplitsLine}
use Rattle.tko_text.specs.Responses.{RequestKind, Asks, IsOneWord, IsAnswerLine, IsHead, IsBody, Spells, Suits}
use Rattle.tko_text.specs.ResponseReads.{IsCutResponse, IsCutBody, IsCutData}

-- the bytes, all of them, are this response to a request of the kind
abbrev pub IsResponseOf : RequestKind → List ℕ → Response → Type 0
IsResponseOf kind bytes response = Suits kind response × Spells bytes response

-- no front of the bytes is a response to a request of the kind
abbrev pub NoneOf : RequestKind → List ℕ → Type 0
NoneOf kind bytes =
    (n : ℕ) (response : Response) → n ≤ length bytes → IsResponseOf kind (take n bytes) response → ⊥

-- what is read of the bytes for a request of the kind
abbrev pub ReadsOf : RequestKind → List ℕ → Result (Response × ℕ) ReadFault → Type 0
ReadsOf kind bytes (Ok found) =
    (found.1 ≤ length bytes) × IsResponseOf kind (take found.1 bytes) found.0
ReadsOf kind bytes (Err fault.Short) = IsCutResponse kind bytes × NoneOf kind bytes
ReadsOf kind bytes (Err fault.Unreadable) = ¬ (IsCutResponse kind bytes) × NoneOf kind bytes
ReadsOf kind bytes (Err fault.Memory) = Unit {0}

-- there is no first line yet, or there will never be one
abbrev pub LineFault : ReadFault → List ℕ → Type 0
LineFault fault.Short bytes = IsOpenLine bytes
LineFault fault.Unreadable bytes = IsOverlong bytes
LineFault fault.Memory bytes = ⊥

-- the response that is this word alone
abbrev pub word_response : List ℕ → Option Response
word_response word =
    if bytes_eq word (codes "END") then Some (Values None)
    else (if bytes_eq word (codes "STORED") then Some Stored
    else (if bytes_eq word (codes "NOT_STORED") then Some NotStored
    else (if bytes_eq word (codes "EXISTS") then Some Exists
    else (if bytes_eq word (codes "DELETED") then Some Deleted
    else (if bytes_eq word (codes "TOUCHED") then Some Touched
    else (if bytes_eq word (codes "NOT_FOUND") then Some NotFound
    else (if bytes_eq word (codes "ERROR") then Some Error
    else option_map Number (number_of number_limit word))))))))

-- a version's text, which has at least one byte
abbrev pub version_response : List ℕ → Option Response
version_response text = if nat_lt 0 (length text) then Some (Version text) else None

-- the response of a word that no other may follow
abbrev pub alone_response : List ℕ → List (List ℕ) → Option Response
alone_response word [] = word_response word
alone_response word (other ∷ words) = None

-- the response that the line is
unfoldable pub line_response : Split → Option Response
line_response line =
    if bytes_eq line.word (codes "CLIENT_ERROR") then Some (ClientError (drop 1 line.rest))
    else (if bytes_eq line.word (codes "SERVER_ERROR") then Some (ServerError (drop 1 line.rest))
    else (if bytes_eq line.word (codes "VERSION") then version_response (drop 1 line.rest)
    else alone_response line.word (words line.rest)))

-- the fault where this may be no response
abbrev pub Misses : ReadFault → Option Response → Type 0
Misses fault.Short found = ⊥
Misses fault.Unreadable found = found ≡ None
Misses fault.Memory found = Unit {0}

-- the line of the word `VALUE` and these bytes that follow it
abbrev pub value_line : List ℕ → Split
value_line rest = record { word = codes "VALUE"; rest = rest }

-- the line doesn't announce a value of this key, with a cas number or without
abbrev pub NoHead : Split → List ℕ → Bool → Type 0
NoHead line key unique =
    (flags size : ℕ) (cas : Option ℕ) → is_some cas ≡ unique → IsHead line key flags size cas → ⊥

-- the data is cut short, or what follows it isn't CR LF
abbrev pub DataFault : ReadFault → ℕ → List ℕ → Type 0
DataFault fault.Short size bytes = IsCutData size bytes
DataFault fault.Unreadable size bytes =
    ((size < length bytes) × (slice_index bytes size ≢ carriage_return))
    ⊎ ((size + 1 < length bytes) × (slice_index bytes (size + 1) ≢ line_feed))
DataFault fault.Memory size bytes = ⊥

-- there is no line yet, or it isn't `END`
abbrev pub EndFault : ReadFault → List ℕ → Type 0
EndFault fault.Short bytes = IsOpenLine bytes
EndFault fault.Unreadable bytes =
    IsOverlong bytes
    ⊎ ((line : Split) × (rest : List ℕ) × SplitsLine bytes line rest
    × ¬ (IsOneWord (codes "END") line))
EndFault fault.Memory bytes = ⊥

-- the bytes are the line `END` and the rest
abbrev pub SplitsEnd : List ℕ → List ℕ → Type 0
SplitsEnd bytes rest =
    (last : List ℕ) × IsAnswerLine last (Values None) × (bytes ≡ last ++ rest)

-- no front of the bytes completes a value that the line announces and that was asked for
abbrev pub NoBody : RequestKind → Split → List ℕ → Type 0
NoBody kind line bytes =
    (body rest : List ℕ) (found : Value) → bytes ≡ body ++ rest → IsBody line body found
    → Asks kind found.key found.unique → ⊥

-- the line, and the bytes up to the rest, are this value
abbrev pub SplitsBody : RequestKind → Split → List ℕ → Value → List ℕ → Type 0
SplitsBody kind line bytes value rest =
    (body : List ℕ) × (bytes ≡ body ++ rest) × IsBody line body value
    × Asks kind value.key value.unique

-- the value isn't whole, or there is none
abbrev pub BodyFault : ReadFault → RequestKind → Split → List ℕ → Type 0
BodyFault fault.Short kind line bytes = IsCutBody kind line bytes × NoBody kind line bytes
BodyFault fault.Unreadable kind line bytes =
    ¬ (IsCutBody kind line bytes) × NoBody kind line bytes
BodyFault fault.Memory kind line bytes = Unit {0}
