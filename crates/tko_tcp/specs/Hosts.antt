-- The addresses that are known for a host with a name, and what a connect does with them.
use Rattle.std.specs.Prelude.{◌≡◌, ◌≢◌, ℕ, true, false, List, [], Option, Some, None}
use Rattle.std.specs.declared.net.socket_addr.SocketAddr.{SocketAddr}
use Rattle.tko_tcp.specs.declared.host_state.HostState.{HostState}
use Rattle.tko_tcp.specs.declared.host_state.ConnectStep.{ConnectStep}
use Rattle.tko_tcp.specs.declared.host_state.ConnectStep.TheVariants as step

-- no look-up has ended since `since` of them had, or the connect has not waited yet
abbrev pub IsStill : Option ℕ → ℕ → Type 0
IsStill (Some since) ended = since ≡ ended
IsStill None ended = Unit {0}

-- a look-up has ended since `since` of them had
abbrev pub HasLookUpEnded : Option ℕ → ℕ → Type 0
HasLookUpEnded (Some since) ended = since ≢ ended
HasLookUpEnded None ended = ⊥

-- A connect tries the addresses that are known. If none are, it requests a look-up and waits until
-- one has ended; if one has ended since it began to wait, it gives up.
abbrev pub IsNext : HostState → Option ℕ → ConnectStep → HostState → Type 0
IsNext old since (step.Try addresses) new =
    (addresses ≡ old.known) × (old.known ≢ []) × (new ≡ old)
IsNext old since (step.Wait ended) new =
    (old.known ≡ []) × IsStill since old.ended × (ended ≡ old.ended)
    × (new ≡ record old { is_asked = true })
IsNext old since step.GiveUp new = (old.known ≡ []) × HasLookUpEnded since old.ended × (new ≡ old)

-- A look-up ends that found these addresses. They replace those that were known, unless it found
-- none.
pub record IsLookUpEnded (old : HostState) (found : List SocketAddr) (new : HostState)
    : Type 0 where
  pub found_some : found ≢ [] → new.known ≡ found
  pub found_none : found ≡ [] → new.known ≡ old.known
  pub is_answered : new.is_asked ≡ false
  pub counted : new.ended ≢ old.ended
