-- A worker's account: what was counted, what was given, and what is reported.
use Rattle.std.specs.Prelude.{◌≡◌, ℕ, ◌-◌, ◌||◌, Bool, true, false, List}
use Rattle.tko_model.specs.Records.{Gains}
use Rattle.tko_model.specs.Numbers.{no_counts, saturated}
use Rattle.tko_model.specs.declared.counts.Counts.{Counts}
use Rattle.tko_model.specs.declared.kind.Kind.TheVariants as kind
use Rattle.tko_desk.specs.declared.book.Share.{Share}
use Rattle.tko_reply.specs.Counting.{counted}
use Rattle.tko_reply.specs.TrailEvents.{TrailEvent}
use Rattle.tko_threads.specs.Accounts.{IsGiven}
use Rattle.tko_threads.specs.Reports.{no_report, sum_of_reports, with_memory}
use Rattle.tko_threads.specs.declared.report.WorkerReport.{WorkerReport}
use Rattle.tko_worker.specs.declared.ends.EndCounts.{EndCounts}
use Rattle.tko_event_threads.specs.Ends.{are_any, report_of}

-- what was counted since the account was settled, its share, the probes that it has, and what is
-- reported so far
pub record AccountState : Type 0 where
  pub counts : Counts
  pub share : Share
  pub probes : ℕ
  pub report : WorkerReport

abbrev pub account_state : Counts → Share → ℕ → WorkerReport → AccountState
account_state counts share probes report =
    record { counts = counts; share = share; probes = probes; report = report }

-- nothing was counted yet
abbrev pub fresh_account : Share → AccountState
fresh_account share = account_state no_counts share 0 no_report

-- a request or a trail more
abbrev pub with_trail_event : TrailEvent → AccountState → AccountState
with_trail_event event at = record at { counts = counted at.counts event }

-- memory ran out, or did not
abbrev pub with_short : Bool → AccountState → AccountState
with_short ran_out at = record at { report = with_memory at.report ran_out }

-- clients ended
abbrev pub with_ends : EndCounts → AccountState → AccountState
with_ends ends at = record at { report = sum_of_reports at.report (report_of ends) }

-- what the account lacks, where so many probes were sent in all: what was counted since it was
-- settled, and the probes since then
abbrev pub lacking : ℕ → AccountState → Counts
lacking probes at = saturated kind.Probe (probes - at.probes) at.counts

-- its share was given that, each kind for which the ledger was not full, and nothing is left
pub record IsAccountSettled (sent : ℕ) (old : AccountState) (full : Bool) (new : AccountState)
    : Type 0 where
  pub given : IsGiven (lacking sent old) old.share full new.share
  pub counts : new.counts ≡ no_counts
  pub probes : new.probes ≡ sent
  pub report : new.report
      ≡ record old.report { ledger_full = old.report.ledger_full || full }

-- what happens to an account: a request or a trail is recorded; memory runs out or does not;
-- clients end; or it is settled, and the ledger was full for a kind or not
pub data AccountEvent : Type 0 where
  Recorded : (event : TrailEvent) → AccountEvent
  Noted : (ran_out : Bool) → AccountEvent
  Ended : (ends : EndCounts) → AccountEvent
  Settled : (sent : ℕ) (full : Bool) → AccountEvent

abbrev pub IsAccountStep : AccountState → AccountEvent → AccountState → Type 0
IsAccountStep old (Recorded event) new = new ≡ with_trail_event event old
IsAccountStep old (Noted ran_out) new = new ≡ with_short ran_out old
IsAccountStep old (Ended ends) new = new ≡ with_ends ends old
IsAccountStep old (Settled sent full) new = IsAccountSettled sent old full new

-- an account began with such a share, and then this happened to it, and nothing else
pub record HasCounted (opened : Share → Type 0) (at : AccountState) : Type 0 where
  pub share : Share
  pub begun : opened share
  pub events : List AccountEvent
  pub gains : Gains IsAccountStep (fresh_account share) events at

-- the account is settled if a client ended
abbrev pub SettlesIf : Bool → ℕ → AccountState → AccountState → Type 0
SettlesIf true sent old new = (full : Bool) × IsAccountSettled sent old full new
SettlesIf false sent old new = new ≡ old

-- at the end of a turn: memory ran out in its round or not, and those that ended since the one
-- before are counted; if any did, the account is settled
abbrev pub IsTurnCounted : EndCounts → Bool → ℕ → AccountState → AccountState → Type 0
IsTurnCounted ends ran_out sent old new =
    SettlesIf (are_any ends) sent (with_ends ends (with_short ran_out old)) new
