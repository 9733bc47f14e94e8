use Rattle.tko_server.proofs.running.open_and_run.Given as goal

abbrev pub ghosts-run_with : goal.ghosts-run_with
ghosts-run_with g a = record { tracker = a.tracker }
