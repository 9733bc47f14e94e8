-- Whose event it is that has a token.
use Rattle.std.specs.Prelude.{◌-◌, nat_lt, if◌then◌else◌, ℕ, zero, suc}
use Rattle.tko_loop.specs.declared.targets.Target.{Target}
use Rattle.tko_loop.specs.declared.targets.Target.TheVariants.{Seat, Server, Waker}

-- the waker's is 0, then come those of so many servers, and then the seats of clients
abbrev pub target_of : ℕ → ℕ → Target
target_of servers zero = Waker
target_of servers (suc place) =
    if nat_lt place servers then Server place else Seat (place - servers)
