-- How often a session awaits each server, and how that changes by its calls.
use Rattle.std.specs.Prelude.{◌≡◌, ◌==◌, ◌+◌, ℕ, Bool, true, false, List, [], ◌∷◌, Option, Some, None, IfSome, IsSome, sum_by}
use Rattle.tko_text.specs.declared.request.Request.{Request}
use Rattle.tko_pipe.specs.declared.fates.Fate.TheVariants as fate
use Rattle.tko_mux.specs.declared.asking.Came.{Came}
use Rattle.tko_mux.specs.declared.asking.Came.TheVariants.{Fate, Unsent}

abbrev pub one_if : Bool → ℕ
one_if true = 1
one_if false = 0

-- how many requests are under way to a server, of a session that awaits these
abbrev pub times_due : List ℕ → ℕ → ℕ
times_due awaited server = sum_by (λ it. one_if (it == server)) awaited

-- whom a session awaits that has one request under way at most
abbrev pub awaited_one : Option ℕ → List ℕ
awaited_one None = []
awaited_one (Some server) = server ∷ []

-- 1 for the server that is asked, if one is
abbrev pub one_asked : Option ℕ → ℕ → ℕ
one_asked None server = 0
one_asked (Some it) server = one_if (it == server)

-- the server that is asked, whom the session awaited before a call, and whom it awaits after it:
-- that server once more, and all others as often as before
abbrev pub IsAsking : Option ℕ → List ℕ → List ℕ → Type 0
IsAsking None old new = (at : ℕ) → times_due new at ≡ times_due old at
IsAsking (Some server) old new =
    (at : ℕ) → times_due new at ≡ times_due old at + one_if (server == at)

-- a session awaits the server that it asks, if it asks one, besides those before, and has the
-- request that is to be sent
pub record AsksWithRequest (asked : Option ℕ) (was awaited : List ℕ) (asks_for : Option Request)
    : Type 0 where
  pub asks : IsAsking asked was awaited
  pub request : IfSome asked (λ server. IsSome asks_for)

-- memory ran out for one that waited
abbrev pub no_memory : Came
no_memory = Fate fate.Memory

-- what came of a request to this server, the server that is asked next, and whom the session
-- awaited before and after that: the one once less, and the other once more. Once memory ran out it
-- asks nobody
pub record IsTaking (server : ℕ) (came : Came) (asked : Option ℕ) (old new : List ℕ) : Type 0 where
  pub awaits : (at : ℕ)
      → times_due new at + one_if (server == at) ≡ times_due old at + one_asked asked at
  pub memory : came ≡ no_memory → asked ≡ None
  pub unsent : came ≡ Unsent → asked ≡ None

-- the same of a session that took what came of a request, and may ask the next server: it has the
-- request that is to be sent
pub record TakesWithRequest (server : ℕ) (came : Came) (asked : Option ℕ) (was awaited : List ℕ)
    (asks_for : Option Request) : Type 0 where
  pub takes : IsTaking server came asked was awaited
  pub request : IfSome asked (λ it. IsSome asks_for)
