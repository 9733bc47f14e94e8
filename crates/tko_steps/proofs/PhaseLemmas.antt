-- What a step's decision leaves of a thread and of the core, and what a phase may find.
use Rattle.std.proofs.Common.{◌≡◌, ℕ, ◌+◌, ◌<◌, Bool, true, false, cond, List, length, set, Some, None, refl, sym, ap, ◌∙◌}
use Rattle.tko_model.specs.declared.mark.Mark.{Mark}
use Rattle.tko_model.specs.declared.mark.Mark.TheVariants.{Up, Soft, Hard}
use Rattle.tko_model.specs.Settings.{Settings}
use Rattle.tko_model.specs.declared.state.ServerState.{ServerState}
use Rattle.tko_model.specs.Tracker.{is_soft, server_at}
use Rattle.tko_steps.specs.declared.phase.Call.{Call}
use Rattle.tko_steps.specs.declared.phase.Phase.{Phase}
use Rattle.tko_steps.specs.declared.phase.Slots.{Slots}
use Rattle.tko_steps.specs.declared.phase.ThreadState.TheVariants.{InCall}
use Rattle.tko_steps.specs.declared.table.Decision.{Decision}
use Rattle.tko_steps.specs.declared.table.Decision.TheVariants.{Goes, Answers}
use Rattle.tko_steps.specs.Core.{CoreState, abstract_of}
use Rattle.tko_steps.specs.Owners.{owner_of, has_number, is_enrolled}
use Rattle.tko_steps.specs.Steps.{decided_state}
use Rattle.tko_steps.specs.Invariant.{IsFoundBy, IsOwnOrUp, IsThread}
use Rattle.tko_steps.proofs.CountLemmas.{IsOn}
use Rattle.tko_steps.proofs.TableLemmas.{IsDecided}
use Rattle.tko_steps.proofs.KnownLemmas.{IsFreeFor}

-- what a decision that holds no slot makes of its thread
pub IsThread-decided : (s : Settings) (servers : List ServerState) (call : Call) (decision : Decision) → call.server < length servers
    → IsDecided s call (server_at servers call.server) decision → IsThread s servers (decided_state call decision)
IsThread-decided s servers call (Goes lost phase) on_server decided = (on_server, decided.0, decided.1)
IsThread-decided s servers call (Answers answer) on_server decided = tt

pub enrolled-after : (call : Call) (decision : Decision) → is_enrolled (decided_state call decision) ≡ true
enrolled-after call (Goes lost phase) = refl
enrolled-after call (Answers answer) = refl

pub number-after : (call : Call) (decision : Decision) (phase : Phase) (number : ℕ)
    → has_number number (decided_state call decision) ≡ has_number number (InCall call phase)
number-after call (Goes lost at) phase number = refl
number-after call (Answers answer) phase number = refl

pub on-after : (call : Call) (decision : Decision) → IsOn call.server (decided_state call decision)
on-after call (Goes lost phase) = refl
on-after call (Answers answer) = tt

-- what holds once a step left these soft words and this decision, and no health word changed
abbrev pub decided_core : CoreState → ℕ → Call → List Slots → Decision → CoreState
decided_core core thread call slots decision =
    record {
      settings = core.settings;
      shared = record { servers = abstract_of core; slots = slots; enrolled = core.shared.enrolled };
      threads = set core.threads thread (decided_state call decision);
    }

-- what holds once an exchange was won
abbrev pub written_core : CoreState → ℕ → Call → ServerState → Decision → CoreState
written_core core thread call now decision =
    record {
      settings = core.settings;
      shared = record { servers = set (abstract_of core) call.server now; slots = core.shared.slots; enrolled = core.shared.enrolled };
      threads = set core.threads thread (decided_state call decision);
    }

-- the health word that a won exchange leaves
abbrev pub written : ServerState → Mark → ServerState
written found mark = record { mark = mark; stamp = found.stamp + 1 }

-- an exchange, by whether it is won
abbrev pub exchanged_core : CoreState → ℕ → Call → ServerState → Decision → Decision → Bool → CoreState
exchanged_core core thread call now wins loses won =
    record {
      settings = core.settings;
      shared = record {
        servers = cond won (set (abstract_of core) call.server now) (abstract_of core);
        slots = core.shared.slots;
        enrolled = core.shared.enrolled;
      };
      threads = set core.threads thread (decided_state call (cond won wins loses));
    }

pub owners-written : (number : ℕ) (mark : Mark) → IsOwnOrUp number mark → (other : ℕ) → owner_of mark ≡ Some other → other ≡ number
owners-written number (Up count) own other e = cc
owners-written number (Soft owner) own other e = absurd own
owners-written number (Hard owner) own other e = let same : owner ≡ other = cc in sym same ∙ own

pub soft-written : (number : ℕ) (mark : Mark) → IsOwnOrUp number mark → is_soft mark ≡ false
soft-written number (Up count) own = refl
soft-written number (Soft owner) own = absurd own
soft-written number (Hard owner) own = refl

-- what is found by a write is free for its thread, and isn't soft
pub free-found : (number : ℕ) (now found : ServerState) (mark : Mark) → found.mark ≡ mark → now ≡ found → IsFoundBy number now found mark
    → IsFreeFor number now × (is_soft now.mark ≡ false)
free-found number now found (Up count) is same by =
    let here : now.mark ≡ Up count = ap (λ (it : ServerState). it.mark) same ∙ is in
    (λ other owned. (let none : None ≡ Some other = sym (ap owner_of here) ∙ owned in cc), ap is_soft here)
free-found number now found (Soft owner) is same by = absurd by
free-found number now found (Hard owner) is same by =
    let here : now.mark ≡ Hard owner = ap (λ (it : ServerState). it.mark) same ∙ is in
    (λ other owned. (let both : Some owner ≡ Some other = sym (ap owner_of here) ∙ owned in let e : owner ≡ other = cc in sym e ∙ by.0), ap is_soft here)

pub free-fresh : (number : ℕ) (mark : Mark) → owner_of mark ≡ None → ((other : ℕ) → owner_of mark ≡ Some other → other ≡ number) × (is_soft mark ≡ false)
free-fresh number (Up count) none = (λ other e. cc, refl)
free-fresh number (Soft owner) none = cc
free-fresh number (Hard owner) none = cc
