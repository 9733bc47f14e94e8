use Rattle.tko_health.proofs.tests.two_workers_without_a_lock.Given as goal

abbrev pub ghosts-play_shared : goal.ghosts-play_shared
ghosts-play_shared g a = record { tracker = a.tracker.now }
