-- What happened to a worker's account so far.
use Rattle.std.proofs.Common.{◌≡◌, ℕ, ◌-◌, Bool, Result, Ok, Err, [], ◌∷◌, ◌++◌, ap, refl, subst, sym}
use Rattle.std.specs.Prelude.{OnErr, OnOk, ◌||◌}
use Rattle.tko_model.specs.Numbers.{no_counts, saturated}
use Rattle.tko_model.specs.declared.kind.Kind.TheVariants as kind
use Rattle.tko_model.specs.declared.counts.Counts.{Counts}
use Rattle.tko_model.proofs.RecordLemmas.{gains_none, gains_push}
use Rattle.tko_desk.specs.declared.book.Share.{Share}
use Rattle.tko_reply.specs.Counting.{counted}
use Rattle.tko_reply.specs.TrailEvents.{TrailEvent}
use Rattle.tko_threads.specs.Accounts.{IsGiven}
use Rattle.tko_threads.specs.Reports.{sum_of_reports}
use Rattle.tko_threads.specs.declared.report.WorkerReport.{WorkerReport}
use Rattle.tko_worker.specs.declared.ends.EndCounts.{EndCounts}
use Rattle.tko_event_threads.specs.Accounting.{AccountEvent, AccountState, Ended, HasCounted, IsAccountSettled, IsAccountStep, Noted, Recorded, Settled, account_state, fresh_account, with_short}
use Rattle.tko_event_threads.specs.Ends.{report_of}

module _ {opened : Share → Type 0} where
  -- nothing yet
  pub counted_first : (share : Share) → opened share → HasCounted opened (fresh_account share)
  counted_first share begun =
      record { share = share; begun = begun; events = []; gains = gains_none (fresh_account share) }

  -- this happened too
  pub counted_on : {old new : AccountState} (event : AccountEvent) → HasCounted opened old → IsAccountStep old event new
      → HasCounted opened new
  counted_on event so_far step = record {
    share = so_far.share;
    begun = so_far.begun;
    events = so_far.events ++ event ∷ [];
    gains = gains_push so_far.gains step;
  }

  -- a request or a trail was recorded, or could not be
  pub recorded_or_not : {E : Type 0} {old new : Counts} {share : Share} {probes : ℕ} {report : WorkerReport}
      (result : Result (Unit {0}) E) (event : TrailEvent) → OnOk result (new ≡ counted old event) → OnErr result (new ≡ old)
      → HasCounted opened (account_state old share probes report) → HasCounted opened (account_state new share probes report)
  recorded_or_not {share = share} {probes = probes} {report = report} (Ok done) event recorded same so_far =
      counted_on (Recorded event) so_far (ap (λ (counts : Counts). account_state counts share probes report) recorded)
  recorded_or_not {share = share} {probes = probes} {report = report} (Err fault) event recorded same so_far =
      subst (λ (counts : Counts). HasCounted opened (account_state counts share probes report)) (sym same) so_far

  -- memory ran out or did not
  pub noted_on : {at : AccountState} (ran_out : Bool) → HasCounted opened at → HasCounted opened (with_short ran_out at)
  noted_on ran_out so_far = counted_on (Noted ran_out) so_far refl

  -- clients ended
  pub ended_on : {counts : Counts} {share : Share} {probes : ℕ} {report said new : WorkerReport} (ends : EndCounts)
      → said ≡ report_of ends → new ≡ sum_of_reports report said
      → HasCounted opened (account_state counts share probes report) → HasCounted opened (account_state counts share probes new)
  ended_on {counts} {share} {probes} {report} {said} {new} ends is_said is_new so_far =
      let P : WorkerReport → Type 0 = λ it. new ≡ sum_of_reports report it in
      counted_on (Ended ends) so_far (ap (λ (it : WorkerReport). account_state counts share probes it) (subst P is_said is_new))

  -- the account was settled
  pub settled_on : {counts lack left : Counts} {share given : Share} {taken probes : ℕ} {report : WorkerReport} {full : Bool} (sent : ℕ)
      → lack ≡ saturated kind.Probe (sent - taken) counts → left ≡ no_counts → probes ≡ sent → IsGiven lack share full given
      → HasCounted opened (account_state counts share taken report)
      → HasCounted opened (account_state left given probes (record report { ledger_full = report.ledger_full || full }))
  settled_on {counts} {lack} {left} {share} {given} {taken} {probes} {report} {full} sent is_lack none are gives so_far =
      let step : IsAccountSettled sent (account_state counts share taken report) full
      (account_state left given probes (record report { ledger_full = report.ledger_full || full })) =
      record {
        given = subst (λ (it : Counts). IsGiven it share full given) is_lack gives;
        counts = none;
        probes = are;
        report = refl;
      } in
      counted_on (Settled sent full) so_far step
