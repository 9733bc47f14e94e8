use Rattle.std.proofs.Common.{◌≡◌, ◌++◌, ◌∷◌, [], rules, sym}
use Rattle.tko_health.proofs.SeatingLemmas.{range_more}
use Rattle.tko_health.proofs.locked_seating.idle_seats.Goals as goal

pub loop-thread-preserved : goal.loop-thread-preserved
loop-thread-preserved g c =
    let pushed : c.push.new.self.items ≡ c.loop-thread.seats.items ++ c.loop-thread.thread ∷ [] = search rules in
    rw (pushed, c.loop-thread.invariant) (sym (range_more c.loop-thread.thread))
