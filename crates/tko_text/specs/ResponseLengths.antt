-- How long a response is that bytes begin.
use Rattle.std.specs.Prelude.{◌≤◌, ℕ, List, ◌++◌, length, take}
use Rattle.tko_text.specs.declared.request.Request.{Request}
use Rattle.tko_text.specs.declared.response.Response.{Response}
use Rattle.tko_text.specs.ResponseFaults.{IsResponseOf}
use Rattle.tko_text.specs.Responses.{RequestKind}
use Rattle.tko_text.specs.ResponseReads.{IsResponse}

-- no response to the request that begins with these bytes, however they go on, is shorter
unfoldable pub IsLeastLength : Request → List ℕ → ℕ → Type 0
IsLeastLength request bytes least =
    (more : List ℕ) (n : ℕ) (response : Response) → n ≤ length (bytes ++ more)
    → IsResponse request (take n (bytes ++ more)) response → least ≤ n

-- the same of a request of the kind
unfoldable pub IsLeastOf : RequestKind → List ℕ → ℕ → Type 0
IsLeastOf kind bytes least =
    (more : List ℕ) (n : ℕ) (response : Response) → n ≤ length (bytes ++ more)
    → IsResponseOf kind (take n (bytes ++ more)) response → least ≤ n
