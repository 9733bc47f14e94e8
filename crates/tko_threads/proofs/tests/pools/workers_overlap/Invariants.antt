use Rattle.tko_threads.proofs.tests.pools.workers_overlap.Given as goal

abbrev pub ghosts-run_both_at : goal.ghosts-run_both_at
ghosts-run_both_at g a = record { tracker = a.tracker.now }
