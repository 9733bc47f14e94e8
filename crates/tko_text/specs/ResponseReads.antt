-- What is read of bytes: a response to a request, the beginning of one, or neither.
use Rattle.std.specs.Prelude.{◌≡◌, ℕ, ◌≤◌, ◌⊎◌, Bool, List, [], ◌∷◌, ◌++◌, length, take, codes, Option, Some, Result, Ok, Err}
use Rattle.tko_text.specs.declared.request.Request.{Request}
use Rattle.tko_text.specs.declared.response.Response.{Response}
use Rattle.tko_text.specs.declared.response.body.Value.{Value}
use Rattle.tko_text.specs.declared.response.fault.ReadFault.{ReadFault}
use Rattle.tko_text.specs.declared.response.fault.ReadFault.TheVariants as fault
use Rattle.tko_text.specs.ResponseLines.{IsOpenLine, IsSplitLine, Split}
use Rattle.tko_text.specs.Responses.{Asks, IsHead, IsValueAwaited, IsValueText, Listing, RequestKind}
use Rattle.tko_text.specs.Responses.{Spells, Suits, block, request_kind}

-- not all of `size` bytes of data, or not yet the CR LF that follows them
abbrev pub IsCutData : ℕ → List ℕ → Type 0
IsCutData size bytes =
    (length bytes ≤ size)
    ⊎ ((found : List ℕ) × (length found ≡ size) × (bytes ≡ found ++ codes "\r"))

-- `size` bytes of data, their CR LF, and not all of the line that follows
abbrev pub IsCutEnd : ℕ → List ℕ → Type 0
IsCutEnd size bytes =
    (found last : List ℕ) × (length found ≡ size) × (bytes ≡ block found ++ last) × IsOpenLine last

-- a value was asked for, its first line has come, and not all that follows it
pub record IsCutBody (kind : RequestKind) (line : Split) (body : List ℕ) : Type 0 where
  pub key : List ℕ
  pub flags : ℕ
  pub size : ℕ
  pub cas : Option ℕ
  pub is_head : IsHead line key flags size cas
  pub asked : Asks kind key cas
  pub cut : IsCutData size body ⊎ IsCutEnd size body

pub record IsCutValue (kind : RequestKind) (bytes : List ℕ) : Type 0 where
  pub head : List ℕ
  pub line : Split
  pub body : List ℕ
  pub whole : bytes ≡ head ++ body
  pub is_line : IsSplitLine head line
  pub is_cut : IsCutBody kind line body

-- the first line of a value has come that may follow values of the keys `had`, and not all of its
-- data
pub record IsCutText (keys : List (List ℕ)) (unique : Bool) (had : List (List ℕ)) (bytes : List ℕ)
    : Type 0 where
  pub head : List ℕ
  pub line : Split
  pub body : List ℕ
  pub key : List ℕ
  pub flags : ℕ
  pub size : ℕ
  pub cas : Option ℕ
  pub whole : bytes ≡ head ++ body
  pub is_line : IsSplitLine head line
  pub is_head : IsHead line key flags size cas
  pub awaited : IsValueAwaited keys unique had key cas
  pub cut : IsCutData size body

-- the bytes, which follow values of the keys `had`, are a line that has no end yet, a value that
-- isn't whole, or a whole value that such bytes follow
pub data IsCutListing : List (List ℕ) → Bool → List (List ℕ) → List ℕ → Type 0 where
  in_line : (keys : List (List ℕ)) (unique : Bool) (had : List (List ℕ)) (bytes : List ℕ)
      → IsOpenLine bytes → IsCutListing keys unique had bytes
  in_value : (keys : List (List ℕ)) (unique : Bool) (had : List (List ℕ)) (bytes : List ℕ)
      → IsCutText keys unique had bytes → IsCutListing keys unique had bytes
  after_value : (keys : List (List ℕ)) (unique : Bool) (had : List (List ℕ)) (bytes : List ℕ)
      (first rest : List ℕ) (found : Value) → bytes ≡ first ++ rest → IsValueText first found
      → IsValueAwaited keys unique had found.key found.unique
      → IsCutListing keys unique (had ++ found.key ∷ []) rest → IsCutListing keys unique had bytes

-- several values were asked for, and not all of the response has come
abbrev pub IsCutList : RequestKind → List ℕ → Type 0
IsCutList (Listing keys unique) bytes = IsCutListing keys unique [] bytes
IsCutList _ bytes = ⊥

-- the bytes are a line that has no end yet, a value that isn't whole, or values of a response that
-- isn't whole
abbrev pub IsCutResponse : RequestKind → List ℕ → Type 0
IsCutResponse kind bytes = IsOpenLine bytes ⊎ (IsCutValue kind bytes ⊎ IsCutList kind bytes)

-- the bytes, all of them, are this response to the request
unfoldable pub IsResponse : Request → List ℕ → Response → Type 0
IsResponse asked bytes response =
    (kind : RequestKind) × (request_kind asked ≡ Some kind) × Suits kind response
    × Spells bytes response

-- the bytes may be the beginning of a response to the request
unfoldable pub IsBeginning : Request → List ℕ → Type 0
IsBeginning asked bytes =
    (kind : RequestKind) × (request_kind asked ≡ Some kind) × IsCutResponse kind bytes

-- no front of the bytes is a response to the request
unfoldable pub NoResponse : Request → List ℕ → Type 0
NoResponse request bytes =
    (n : ℕ) (response : Response) → n ≤ length bytes
    → IsResponse request (take n bytes) response → ⊥

-- what is read of the bytes, where there is memory: the response that a front of them is, with the
-- length of that front; that they may begin one; or that they are neither
unfoldable pub ReadsResponse : Request → List ℕ → Result (Response × ℕ) ReadFault → Type 0
ReadsResponse request bytes (Ok found) =
    (found.1 ≤ length bytes) × IsResponse request (take found.1 bytes) found.0
ReadsResponse request bytes (Err fault.Short) = IsBeginning request bytes × NoResponse request bytes
ReadsResponse request bytes (Err fault.Unreadable) =
    ¬ (IsBeginning request bytes) × NoResponse request bytes
ReadsResponse request bytes (Err fault.Memory) = Unit {0}

-- at most one front of the bytes is a response to a request, and it is one response
abbrev pub OneResponse : Type 0
OneResponse =
    (request : Request) (first second after_first after_second : List ℕ) (r s : Response)
    → IsResponse request first r → IsResponse request second s
    → first ++ after_first ≡ second ++ after_second → (first ≡ second) × (r ≡ s)

-- where bytes may be the beginning of a response, no front of them is one
abbrev pub BeginningHasNone : Type 0
BeginningHasNone =
    (request : Request) (bytes : List ℕ) → IsBeginning request bytes → NoResponse request bytes
