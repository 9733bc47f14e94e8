-- What a step of another thread leaves a call to know.
use Rattle.std.proofs.Common.{◌≡◌, ℕ, List, set, Some, refl, sym, ap, ◌∙◌, ⊎_elim, length-set, get_or-set_other}
use Rattle.std.proofs.lemmas.Bool.{cases_eq}
use Rattle.tko_model.specs.declared.mark.Mark.{Mark}
use Rattle.tko_model.specs.declared.mark.Mark.TheVariants.{Up, Soft, Hard}
use Rattle.tko_model.specs.Settings.{Settings}
use Rattle.tko_model.specs.declared.state.ServerState.{ServerState}
use Rattle.tko_model.specs.Tracker.{server_at}
use Rattle.tko_steps.specs.declared.phase.Call.{Call}
use Rattle.tko_steps.specs.declared.phase.Phase.{Phase}
use Rattle.tko_steps.specs.declared.phase.Phase.TheVariants.{Start, Read, AtThreshold, Limit, Reserving, Holding, Firming, Losing, Loosening, Loosened, Emptied}
use Rattle.tko_steps.specs.declared.phase.ThreadState.{ThreadState}
use Rattle.tko_steps.specs.declared.phase.ThreadState.TheVariants.{NotEnrolled, Idle, InCall}
use Rattle.tko_steps.specs.Core.{drawn_number}
use Rattle.tko_steps.specs.Owners.{owner_of}
use Rattle.tko_steps.specs.Invariant.{IsFoundBy, IsPhase, IsThread}
use Rattle.tko_steps.proofs.CountLemmas.{unread}

-- a server that this thread did not mark may be anything by now
IsFoundBy-kept : (number : ℕ) (now new found : ServerState) (mark : Mark) → (owner_of now.mark ≡ Some number → new ≡ now)
    → found.mark ≡ mark → IsFoundBy number now found mark → IsFoundBy number new found mark
IsFoundBy-kept number now new found (Up count) kept is by = by
IsFoundBy-kept number now new found (Soft owner) kept is by = by
IsFoundBy-kept number now new found (Hard owner) kept is by =
    let mine : owner_of now.mark ≡ Some number = ap (λ (server : ServerState). owner_of server.mark) by.1 ∙ ap owner_of is ∙ ap Some by.0 in
    (by.0, kept mine ∙ by.1)

pub IsPhase-kept : (s : Settings) (call : Call) (now new : ServerState) (phase : Phase) → (owner_of now.mark ≡ Some call.number → new ≡ now)
    → IsPhase s call now phase → IsPhase s call new phase
IsPhase-kept s call now new Start kept knows = tt
IsPhase-kept s call now new (Read found mark answer) kept knows =
    (knows.0, IsFoundBy-kept call.number now new found found.mark kept refl knows.1)
IsPhase-kept s call now new (AtThreshold found) kept knows = knows
IsPhase-kept s call now new (Limit found) kept knows = knows
IsPhase-kept s call now new (Reserving found slots) kept knows = knows
IsPhase-kept s call now new (Holding found) kept knows = knows
IsPhase-kept s call now new Firming kept knows =
    ap (λ (server : ServerState). server.mark) (kept (ap owner_of knows)) ∙ knows
IsPhase-kept s call now new Losing kept knows = tt
IsPhase-kept s call now new (Loosening found mark answer) kept knows =
    let mine : owner_of now.mark ≡ Some call.number = ap (λ (server : ServerState). owner_of server.mark) knows.2 ∙ ap owner_of knows.1 in
    (knows.0, knows.1, kept mine ∙ knows.2)
IsPhase-kept s call now new (Loosened found mark answer) kept knows =
    let mine : owner_of now.mark ≡ Some call.number = ap (λ (server : ServerState). owner_of server.mark) knows.2 ∙ ap owner_of knows.1 in
    (knows.0, knows.1, kept mine ∙ knows.2)
IsPhase-kept s call now new (Emptied answer) kept knows = tt

-- the server that was written had no mark, or that of the thread with this number
abbrev pub IsFreeFor : ℕ → ServerState → Type 0
IsFreeFor number old = (other : ℕ) → owner_of old.mark ≡ Some other → other ≡ number

-- a server that another thread owns isn't the one that was written
pub server-kept : (servers : List ServerState) (written server number other : ℕ) (new : ServerState)
    → IsFreeFor number (server_at servers written) → (other ≡ number → ⊥)
    → owner_of (server_at servers server).mark ≡ Some other
    → server_at (set servers written new) server ≡ server_at servers server
server-kept servers written server number other new free apart owned =
    ⊎_elim
    (λ (same : server ≡ written).
    let theirs : owner_of (server_at servers written).mark ≡ Some other = ap (λ at. owner_of (server_at servers at).mark) (sym same) ∙ owned in
    absurd (apart (free other theirs)))
    (λ (other_one : server ≡ written → ⊥). get_or-set_other servers written server new unread other_one)
    (cases_eq server written)

-- a thread of another number knows what it knew
pub IsThread-kept : (s : Settings) (servers : List ServerState) (written number : ℕ) (new : ServerState) (state : ThreadState)
    → IsFreeFor number (server_at servers written) → (drawn_number state ≡ Some number → ⊥)
    → IsThread s servers state → IsThread s (set servers written new) state
IsThread-kept s servers written number new NotEnrolled free apart is = tt
IsThread-kept s servers written number new (Idle own) free apart is = tt
IsThread-kept s servers written number new (InCall call phase) free apart is = (
  rw length-set is.0,
  is.1,
  IsPhase-kept s call (server_at servers call.server) (server_at (set servers written new) call.server) phase
      (server-kept servers written call.server number call.number new free (λ e. apart (ap Some e))) is.2,
)
