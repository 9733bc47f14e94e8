-- What contracts see of a routing while a send is out.
use Rattle.std.specs.Prelude.{ℕ, ◌+◌, Bool, nat_lt, List, length}
use Rattle.tko_route.specs.declared.attempt.Attempt.{Attempt}

-- the request was sent to this server, after these attempts, with room for so many in all
pub record Awaited : Type 0 where
  pub attempts : List Attempt
  pub room : ℕ
  pub server : ℕ

-- after this send another of these targets is left
abbrev pub has_next : Awaited → List ℕ → Bool
has_next awaited targets = nat_lt (length awaited.attempts + 1) (length targets)
