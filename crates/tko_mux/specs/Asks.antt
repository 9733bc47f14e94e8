-- Calls of a session that asks servers: what they do, and whom the session awaits after them.
use Rattle.std.specs.Prelude.{◌<◌, ℕ, List, Option, IfSome, IsSome}
use Rattle.tko_text.specs.declared.request.Request.{Request}
use Rattle.tko_mux.specs.declared.asking.Given.{Given}
use Rattle.tko_mux.specs.declared.asking.Given.TheVariants.{Input, Outcome}
use Rattle.tko_mux.specs.declared.client.Client.{Client}
use Rattle.tko_mux.specs.Awaits.{IsAsking, IsTaking, times_due}

-- what a call of a session does: the session and the parts before, the call with whom it asks and
-- what it did, and both after
abbrev pub AskedCall : Type 0 → Type 0 → Type 0
AskedCall I O = Given I × (Option ℕ × O)

abbrev pub AskingActs : Type 0 → Type 0 → Type 0 → Type 0 → Type 1
AskingActs S P I O = S × P → AskedCall I O → S × P → Type 0

-- what is given, the server that is asked, and whom the session awaited before and after that
abbrev pub IsAskedBy : {I : Type 0} → Given I → Option ℕ → List ℕ → List ℕ → Type 0
IsAskedBy (Input input) asked old new = IsAsking asked old new
IsAskedBy (Outcome server came) asked old new = IsTaking server came asked old new

-- what a call does to a client's session, and whom that awaits
pub record IsCall {S P I O : Type 0} (acts : AskingActs S P I O) (awaited : S → List ℕ)
    (old : Client S × P) (call : AskedCall I O) (new : Client S × P) : Type 0 where
  pub made : acts (old.0.session, old.1) call (new.0.session, new.1)
  pub asks : IsAskedBy call.0 call.1.0 (awaited old.0.session) (awaited new.0.session)

-- the same, and that the session has the request that it asks to send
pub record IsAskingCall {S P I O : Type 0} (acts : AskingActs S P I O) (awaited : S → List ℕ)
    (asks_for : S → Option Request) (old : Client S × P) (call : AskedCall I O) (new : Client S × P)
    : Type 0 where
  pub is_call : IsCall acts awaited old call new
  pub request : IfSome call.1.0 (λ server. IsSome (asks_for new.0.session))

-- a client's session can be given this: what came of a request, only if one is under way to that
-- server
abbrev pub MayCall : {S I : Type 0} → (S → I → Type 0) → (S → List ℕ) → Client S → Given I → Type 0
MayCall may awaited client (Input input) = may client.session input
MayCall may awaited client (Outcome server came) = 0 < times_due (awaited client.session) server
