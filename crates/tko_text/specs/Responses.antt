-- Responses of servers: the text of each, and the requests that it answers.
use Rattle.std.specs.Prelude.{◌≡◌, ℕ, ◌<◌, Bool, true, false, List, [], ◌∷◌, ◌++◌, length, drop, codes, decimal, flat_map, Option, Some, None, is_some}
use Rattle.std.specs.List.{find, list_any}
use Rattle.std.specs.Str.{bytes_eq}
use Rattle.tko_text.specs.declared.request.Request.{Request}
use Rattle.tko_text.specs.declared.request.Request.TheVariants as request
use Rattle.tko_text.specs.declared.response.Response.{Response}
use Rattle.tko_text.specs.declared.response.Response.TheVariants.{Values, Listed, Stored, NotStored, Exists, Deleted, Touched, NotFound, Number, Version, Error, ClientError, ServerError}
use Rattle.tko_text.specs.declared.response.body.Value.{Value}
use Rattle.tko_text.specs.Limits.{data_limit, flags_limit, number_limit}
use Rattle.tko_text.specs.ResponseLines.{IsSplitLine, IsNumber, Split}
use Rattle.tko_bytes.specs.Words.{words}

-- the requests that a server answers, by the responses that they can have
pub data RequestKind : Type 0 where
  -- a value of this key, with its cas number or without
  Retrieval : (key : List ℕ) (unique : Bool) → RequestKind
  -- values of these keys, each with its cas number or without
  Listing : (keys : List (List ℕ)) (unique : Bool) → RequestKind
  Storage : RequestKind
  Deletion : RequestKind
  Counting : RequestKind
  Touching : RequestKind
  Probe : RequestKind

-- the kind of a request of these keys
abbrev pub retrieval_kind : List (List ℕ) → Bool → Option RequestKind
retrieval_kind [] unique = None
retrieval_kind (key ∷ []) unique = Some (Retrieval key unique)
retrieval_kind (key ∷ other ∷ keys) unique = Some (Listing (key ∷ other ∷ keys) unique)

-- the kind of a request that is sent to a server; `quit` and `stats tko` are never sent
abbrev pub request_kind : Request → Option RequestKind
request_kind (request.Get keys) = retrieval_kind keys false
request_kind (request.Gets keys) = retrieval_kind keys true
request_kind (request.Store verb entry noreply) = Some Storage
request_kind (request.Cas entry unique noreply) = Some Storage
request_kind (request.Delete key noreply) = Some Deletion
request_kind (request.Incr key amount noreply) = Some Counting
request_kind (request.Decr key amount noreply) = Some Counting
request_kind (request.Touch key expiry noreply) = Some Touching
request_kind request.Version = Some Probe
request_kind request.Quit = None
request_kind request.StatsTko = None

-- a request of this kind asked for a value with such a key and cas number
abbrev pub Asks : RequestKind → List ℕ → Option ℕ → Type 0
Asks (Retrieval asked unique) key cas = (key ≡ asked) × (is_some cas ≡ unique)
Asks _ key cas = ⊥

-- whether a key is one of these
abbrev pub is_among : List (List ℕ) → List ℕ → Bool
is_among keys key = list_any (λ other. bytes_eq other key) keys

-- a value with such a key and cas number may follow values of the keys `had`: its key was asked
-- for, and none of them has it
abbrev pub IsValueAwaited : List (List ℕ) → Bool → (had : List (List ℕ)) → List ℕ
    → Option ℕ → Type 0
IsValueAwaited keys unique had key cas =
    (is_among keys key ≡ true) × (is_among had key ≡ false) × (is_some cas ≡ unique)

-- each of the values may follow values of the keys `had` and those of the values before it
abbrev pub AreAwaited : List (List ℕ) → Bool → (had : List (List ℕ)) → List Value → Type 0
AreAwaited keys unique had [] = Unit {0}
AreAwaited keys unique had (value ∷ values) =
    IsValueAwaited keys unique had value.key value.unique
    × AreAwaited keys unique (had ++ value.key ∷ []) values

-- the responses that a request of each kind can have
abbrev pub Suits : RequestKind → Response → Type 0
Suits (Retrieval key unique) (Values None) = Unit {0}
Suits kind (Values (Some value)) = Asks kind value.key value.unique
Suits (Listing keys unique) (Listed values) = AreAwaited keys unique [] values
Suits Storage Stored = Unit {0}
Suits Storage NotStored = Unit {0}
Suits Storage Exists = Unit {0}
Suits Storage NotFound = Unit {0}
Suits Deletion Deleted = Unit {0}
Suits Deletion NotFound = Unit {0}
Suits Counting (Number n) = Unit {0}
Suits Counting NotFound = Unit {0}
Suits Touching Touched = Unit {0}
Suits Touching NotFound = Unit {0}
Suits Probe (Version text) = Unit {0}
Suits kind Error = Unit {0}
Suits kind (ClientError text) = Unit {0}
Suits kind (ServerError text) = Unit {0}
Suits _ _ = ⊥

-- the line is this one word
abbrev pub IsOneWord : List ℕ → Split → Type 0
IsOneWord word line = (line.word ≡ word) × (words line.rest ≡ [])

-- the line is this word, one space, and the text, which is kept as it is; the word alone has the
-- empty text
abbrev pub IsTextLine : List ℕ → Split → List ℕ → Type 0
IsTextLine word line text = (line.word ≡ word) × (text ≡ drop 1 line.rest)

-- the line is the whole response
abbrev pub Says : Split → Response → Type 0
Says line (Values None) = IsOneWord (codes "END") line
Says line (Values (Some value)) = ⊥
Says line (Listed values) = ⊥
Says line Stored = IsOneWord (codes "STORED") line
Says line NotStored = IsOneWord (codes "NOT_STORED") line
Says line Exists = IsOneWord (codes "EXISTS") line
Says line Deleted = IsOneWord (codes "DELETED") line
Says line Touched = IsOneWord (codes "TOUCHED") line
Says line NotFound = IsOneWord (codes "NOT_FOUND") line
Says line (Number n) = IsNumber number_limit line.word n × (words line.rest ≡ [])
Says line (Version text) = IsTextLine (codes "VERSION") line text × (0 < length text)
Says line Error = IsOneWord (codes "ERROR") line
Says line (ClientError text) = IsTextLine (codes "CLIENT_ERROR") line text
Says line (ServerError text) = IsTextLine (codes "SERVER_ERROR") line text

-- the bytes are one line, which is the whole response
pub record IsAnswerLine (bytes : List ℕ) (answer : Response) : Type 0 where
  pub line : Split
  pub is_line : IsSplitLine bytes line
  pub says : Says line answer

-- the words that follow the size of a value are its cas number, where it has one
abbrev pub IsCas : List (List ℕ) → Option ℕ → Type 0
IsCas found None = found ≡ []
IsCas found (Some n) = (word : List ℕ) × (found ≡ word ∷ []) × IsNumber number_limit word n

-- the first line of a value of `size` bytes
pub record IsHead (line : Split) (key : List ℕ) (flags size : ℕ) (cas : Option ℕ) : Type 0 where
  pub flags_word : List ℕ
  pub size_word : List ℕ
  pub cas_words : List (List ℕ)
  pub word_is : line.word ≡ codes "VALUE"
  pub words_are : words line.rest ≡ key ∷ flags_word ∷ size_word ∷ cas_words
  pub flags_are : IsNumber flags_limit flags_word flags
  pub size_is : IsNumber data_limit size_word size
  pub cas_is : IsCas cas_words cas

-- data and its CR LF
abbrev pub block : List ℕ → List ℕ
block bytes = bytes ++ codes "\r\n"

-- what follows a value's first line: its data, and the line `END`
pub record IsBody (line : Split) (body : List ℕ) (found : Value) : Type 0 where
  pub last : List ℕ
  pub is_head : IsHead line found.key found.flags (length found.data) found.unique
  pub whole : body ≡ block found.data ++ last
  pub is_end : IsAnswerLine last (Values None)

-- the bytes are one value
pub record IsValue (bytes : List ℕ) (found : Value) : Type 0 where
  pub head : List ℕ
  pub line : Split
  pub body : List ℕ
  pub whole : bytes ≡ head ++ body
  pub is_line : IsSplitLine head line
  pub is_body : IsBody line body found

-- the bytes are a value's first line and its data
pub record IsValueText (bytes : List ℕ) (found : Value) : Type 0 where
  pub head : List ℕ
  pub line : Split
  pub is_line : IsSplitLine head line
  pub is_head : IsHead line found.key found.flags (length found.data) found.unique
  pub whole : bytes ≡ head ++ block found.data

-- the bytes are the texts of these values, one after another, and the line `END`
abbrev pub IsListing : List ℕ → List Value → Type 0
IsListing bytes [] = IsAnswerLine bytes (Values None)
IsListing bytes (found ∷ values) =
    (first rest : List ℕ) × (bytes ≡ first ++ rest) × IsValueText first found
    × IsListing rest values

-- the bytes, from their first to their last, are this response
abbrev pub Spells : List ℕ → Response → Type 0
Spells bytes (Values (Some found)) = IsValue bytes found
Spells bytes (Listed values) = IsListing bytes values
Spells bytes answer = IsAnswerLine bytes answer

-- a space and the word
abbrev pub cas_text : Option ℕ → List ℕ
cas_text None = []
cas_text (Some n) = codes " " ++ decimal n

-- the written first line and data of a value, with this text after its size
abbrev pub found_text : Value → List ℕ → List ℕ
found_text found cas =
    codes "VALUE " ++ found.key ++ codes " " ++ decimal found.flags ++ codes " "
    ++ decimal (length found.data) ++ cas ++ codes "\r\n"
    ++ found.data ++ codes "\r\n"

abbrev pub value_text : Value → List ℕ
value_text found = found_text found (cas_text found.unique)

-- the written form of a response
unfoldable pub response_text : Response → List ℕ
response_text (Values None) = codes "END\r\n"
response_text (Values (Some found)) = value_text found ++ codes "END\r\n"
response_text (Listed values) = flat_map value_text values ++ codes "END\r\n"
response_text Stored = codes "STORED\r\n"
response_text NotStored = codes "NOT_STORED\r\n"
response_text Exists = codes "EXISTS\r\n"
response_text Deleted = codes "DELETED\r\n"
response_text Touched = codes "TOUCHED\r\n"
response_text NotFound = codes "NOT_FOUND\r\n"
response_text (Number n) = decimal n ++ codes "\r\n"
response_text (Version text) = codes "VERSION " ++ text ++ codes "\r\n"
response_text Error = codes "ERROR\r\n"
response_text (ClientError text) = codes "CLIENT_ERROR " ++ text ++ codes "\r\n"
response_text (ServerError text) = codes "SERVER_ERROR " ++ text ++ codes "\r\n"

-- the first of the values that has this key
abbrev pub value_for : List ℕ → List Value → Option Value
value_for key values = find (λ (value : Value). bytes_eq value.key key) values

-- the response to this key alone; what is no list of values answers each key
abbrev pub part_for : List ℕ → Response → Response
part_for key (Listed values) = Values (value_for key values)
part_for key response = response
