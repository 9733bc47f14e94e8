-- A response at the front of what was read.
use Rattle.std.specs.Prelude.{◌≡◌, ℕ, List, ◌++◌}
use Rattle.tko_text.specs.declared.request.Request.{Request}
use Rattle.tko_text.specs.declared.response.Response.{Response}
use Rattle.tko_text.specs.ResponseReads.{IsResponse}

-- a front of the old bytes is this response to the request, and the new ones follow it
pub record IsFront (request : Request) (old : List ℕ) (response : Response) (new : List ℕ) : Type 0
  where
    pub bytes : List ℕ
    pub whole : old ≡ bytes ++ new
    pub is_response : IsResponse request bytes response
