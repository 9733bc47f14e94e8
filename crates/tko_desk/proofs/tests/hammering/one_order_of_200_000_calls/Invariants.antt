use Rattle.tko_desk.proofs.tests.hammering.one_order_of_200_000_calls.Given as goal

abbrev pub ghosts-run : goal.ghosts-run
ghosts-run g a = record { tracker = a.tracker.now }
