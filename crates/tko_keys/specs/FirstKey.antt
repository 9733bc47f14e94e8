-- The keys that were not begun, of which the first is in its request still.
use Rattle.std.specs.Prelude.{◌≡◌, ℕ, Bool, List, [], ◌∷◌, ◌++◌, Option, Some, None}
use Rattle.tko_text.specs.declared.request.Request.{Request}
use Rattle.tko_reply.specs.Answering.{retrieval}
use Rattle.tko_reply.specs.Answers.{request_keys}

-- the first key and the later ones
abbrev pub keys_with : Option Request → List (List ℕ) → List (List ℕ)
keys_with None left = left
keys_with (Some request) left = request_keys request ++ left

-- a request for one key
pub record IsForOne (unique : Bool) (request : Request) : Type 0 where
  pub key : List ℕ
  pub is : request ≡ retrieval (key ∷ []) unique

abbrev pub IsAlone : Bool → Option Request → Type 0
IsAlone unique None = Unit {0}
IsAlone unique (Some request) = IsForOne unique request

-- the next of some keys is taken, as a request for it alone
pub record TakesNext (unique : Bool) (old : List (List ℕ)) (request : Request)
    (new : List (List ℕ)) : Type 0 where
  pub key : List ℕ
  pub next : old ≡ key ∷ new
  pub is : request ≡ retrieval (key ∷ []) unique
