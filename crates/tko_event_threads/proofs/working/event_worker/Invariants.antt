use Rattle.std.proofs.Common.{◌≡◌}
use Rattle.tko_event_threads.proofs.working.event_worker.Given as goal

abbrev pub ghosts-work-N-Origin : goal.ghosts-work-N-Origin
ghosts-work-N-Origin g a = record { seated = g.S.Seating.begins a.parts.seating.now a.idle }

abbrev pub ghosts-work-N-Opening : goal.ghosts-work-N-Opening
ghosts-work-N-Opening g a = record { opened = λ share. share ≡ a.parts.account.share.now }
