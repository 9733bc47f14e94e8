-- The results of the parts of the reader of several values.
use Rattle.std.specs.Prelude.{◌≡◌, ◌≢◌, ℕ, ◌-◌, ◌≤◌, All, Bool, List, [], ◌++◌, length, take, codes, Option}
use Rattle.tko_text.specs.declared.response.Response.{Response}
use Rattle.tko_text.specs.declared.response.Response.TheVariants.{Error, ClientError, ServerError}
use Rattle.tko_text.specs.declared.response.body.Value.{Value}
use Rattle.tko_text.specs.declared.response.fault.ReadFault.{ReadFault}
use Rattle.tko_text.specs.declared.response.fault.ReadFault.TheVariants as fault
use Rattle.tko_text.specs.declared.response.place.ValuePlace.{ValuePlace}
use Rattle.tko_text.specs.declared.response.reader.Head.{Head}
use Rattle.tko_text.specs.Heads.{value_of}
use Rattle.tko_text.specs.Places.{IsPlaceIn, values_in}
use Rattle.tko_text.specs.ResponseLines.{IsOpenLine, IsSplitLine, Split, SplitsLine}
use Rattle.tko_text.specs.Responses.{AreAwaited, IsHead, IsListing, IsValueAwaited, IsValueText, Says}
use Rattle.tko_text.specs.ResponseReads.{IsCutListing}

-- a response that any request can have
abbrev pub IsError : Response → Type 0
IsError Error = Unit {0}
IsError (ClientError text) = Unit {0}
IsError (ServerError text) = Unit {0}
IsError _ = ⊥

-- the first line is such a response, of so many bytes
pub record IsErrorLine (bytes : List ℕ) (response : Response) (len : ℕ) : Type 0 where
  pub line : Split
  pub rest : List ℕ
  pub splits : SplitsLine bytes line rest
  pub says : Says line response
  pub is_error : IsError response
  pub len_is : len ≡ length bytes - length rest

-- there is no first line yet, or it is no such response
abbrev pub ErrorFault : ReadFault → List ℕ → Type 0
ErrorFault fault.Short bytes = IsOpenLine bytes
ErrorFault fault.Unreadable bytes =
    (first rest : List ℕ) (line : Split) (response : Response) → bytes ≡ first ++ rest
    → IsSplitLine first line → Says line response → IsError response → ⊥
ErrorFault fault.Memory bytes = Unit {0}

-- no front of the bytes, which follow values of the keys `had`, is the rest of a listing
abbrev pub NoListing : List (List ℕ) → Bool → List (List ℕ) → List ℕ → Type 0
NoListing keys unique had bytes =
    (front rest : List ℕ) (values : List Value) → bytes ≡ front ++ rest → IsListing front values
    → AreAwaited keys unique had values → ⊥

-- the rest of a listing isn't whole, or there is none
abbrev pub ListFault : ReadFault → List (List ℕ) → Bool → List (List ℕ) → List ℕ → Type 0
ListFault fault.Short keys unique had bytes =
    IsCutListing keys unique had bytes × NoListing keys unique had bytes
ListFault fault.Unreadable keys unique had bytes =
    ¬ (IsCutListing keys unique had bytes) × NoListing keys unique had bytes
ListFault fault.Memory keys unique had bytes = Unit {0}

-- the first line announces no value
abbrev pub IsOtherLine : List ℕ → Type 0
IsOtherLine bytes =
    (line : Split) × (rest : List ℕ) × SplitsLine bytes line rest × (line.word ≢ codes "VALUE")

-- the line announces no value that may follow values of the keys `had`
abbrev pub NotAwaited : List (List ℕ) → Bool → List (List ℕ) → Split → Type 0
NotAwaited keys unique had line =
    (key : List ℕ) (flags size : ℕ) (cas : Option ℕ) → IsHead line key flags size cas
    → IsValueAwaited keys unique had key cas → ⊥

-- the bytes are a value of this key and data that may follow values of the keys `had`, and the rest
pub record IsNextText (keys : List (List ℕ)) (unique : Bool) (had : List (List ℕ))
    (bytes key : List ℕ) (head : Head) (stored rest : List ℕ) : Type 0 where
  pub first : List ℕ
  pub whole : bytes ≡ first ++ rest
  pub text : IsValueText first (value_of key head stored)
  pub few : length stored ≡ head.size
  pub awaited : IsValueAwaited keys unique had key head.unique

-- the first `len` bytes are the texts of the values at these places, which were asked for, and the
-- line `END`
pub record ReadsList (keys : List (List ℕ)) (unique : Bool) (bytes : List ℕ)
    (places : List ValuePlace) (len : ℕ) : Type 0 where
  pub within : len ≤ length bytes
  pub fits : All (IsPlaceIn (take len bytes)) places
  pub listing : IsListing (take len bytes) (values_in (take len bytes) places)
  pub awaited : AreAwaited keys unique [] (values_in (take len bytes) places)
