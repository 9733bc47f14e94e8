-- What is counted where one client is served.
use Rattle.std.specs.Prelude.{◌≡◌, ℕ, Bool, Option, is_some}
use Rattle.std.specs.Bool.{OnFalse, OnTrue}
use Rattle.tko_text.specs.declared.request.Request.{Request}
use Rattle.tko_roster.specs.Rosters.{session_at}
use Rattle.tko_mux.specs.declared.mux.delivery.Done.{Done}
use Rattle.tko_mux.specs.Muxes.{MuxState}
use Rattle.tko_port.specs.declared.guest.Guest.{Guest}
use Rattle.tko_port.specs.declared.guest.SharedParts.{SharedParts}
use Rattle.tko_port.specs.declared.guest.Turned.{Turned}
use Rattle.tko_port.specs.declared.guest.Turned.TheVariants.{Ends}
use Rattle.tko_port.specs.declared.settling.End.{End}
use Rattle.tko_port.specs.declared.settling.End.TheVariants.{Memory}
use Rattle.tko_worker.specs.Counts.{MuxAndEnds, counted_end}
use Rattle.tko_worker.specs.declared.serving.AfterServing.{AfterServing}
use Rattle.tko_worker.specs.declared.serving.AfterServing.TheVariants.{AsksMore, Later, Rests}
use Rattle.tko_worker.specs.Workers.{AsksOn, HasLeft, RestAt, Sight, WasServed}

-- a client was served, which ended so at last; it left
pub record HasEnded {L T P : Type 0} (sight : Sight L T) (asks_for : Guest L T → Option Request)
    (old : MuxState (Guest L T) (SharedParts P)) (number due : ℕ) (why : End)
    (new : MuxState (Guest L T) (SharedParts P)) : Type 0 where
  pub mid : MuxState (Guest L T) (SharedParts P)
  pub served : WasServed sight asks_for old number due mid
  pub ends : served.done.did ≡ Ends why
  pub left : HasLeft sight.0 mid number new

-- a client was served, which was to be served again; it left, since there was no memory to note it
pub record HasLost {L T P : Type 0} (sight : Sight L T) (asks_for : Guest L T → Option Request)
    (old : MuxState (Guest L T) (SharedParts P)) (number due : ℕ)
    (new : MuxState (Guest L T) (SharedParts P)) : Type 0 where
  pub mid : MuxState (Guest L T) (SharedParts P)
  pub served : WasServed sight asks_for old number due mid
  pub left : HasLeft sight.0 mid number new

-- what serving a number counts: nothing if its client did not leave; the end that serving it came
-- to; or want of memory to note it
pub data ServeCounts {L T P : Type 0} (sight : Sight L T) (asks_for : Guest L T → Option Request)
    (old : MuxAndEnds L T P) (number due : ℕ) (new : MuxAndEnds L T P) : Type 0 where
  stayed : is_some (session_at new.0.roster.slots number)
      ≡ is_some (session_at old.0.roster.slots number) → new.1 ≡ old.1
      → ServeCounts sight asks_for old number due new
  ended : (why : End) → HasEnded sight asks_for old.0 number due why new.0
      → new.1 ≡ counted_end why old.1 → ServeCounts sight asks_for old number due new
  lost : HasLost sight asks_for old.0 number due new.0 → new.1 ≡ counted_end Memory old.1
      → ServeCounts sight asks_for old number due new

-- what serving a client once came to: it rests, or left; it asked a server, and can go on; or it is
-- to be served again later
abbrev pub OnceEnds : {L T P : Type 0} → Sight L T → (Guest L T → Option Request)
    → MuxAndEnds L T P → ℕ → ℕ → AfterServing → MuxAndEnds L T P → Type 0
OnceEnds sight asks_for old number due Rests new =
    RestAt sight new.0.roster.slots number × ServeCounts sight asks_for old number due new
OnceEnds sight asks_for old number due AsksMore new =
    ((done : Done Turned) × AsksOn sight asks_for number due old.0 done new.0) × (new.1 ≡ old.1)
OnceEnds sight asks_for old number due Later new =
    WasServed sight asks_for old.0 number due new.0 × (new.1 ≡ old.1)

-- what serving a client came to, as long as it asked a server and could go on: it rests; or it is
-- to be served again later, and no end was counted
pub record SpentEnds {L T P : Type 0} (sight : Sight L T) (asks_for : Guest L T → Option Request)
    (old : MuxAndEnds L T P) (number due : ℕ) (is_spent : Bool) (new : MuxAndEnds L T P)
    : Type 0 where
  pub rests : OnFalse is_spent (RestAt sight new.0.roster.slots number)
  pub served : OnTrue is_spent (WasServed sight asks_for old.0 number due new.0)
  pub none : OnTrue is_spent (new.1 ≡ old.1)
