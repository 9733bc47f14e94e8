use Rattle.std.proofs.Common.{◌≡◌, length, map, take}
use Rattle.std.specs.Prelude.{string_bytes}
use Rattle.tko_reply.proofs.StatusLemmas.{HasLines}
use Rattle.tko_reply.proofs.status_text.append_status.Given as goal

abbrev pub invariant-loop-server : goal.invariant-loop-server
invariant-loop-server g l =
    HasLines g.H.Health.steps
    (take l.server (map string_bytes l.addresses)) l.fn.health l.fn.out.items l.health
    l.out.items
    × (g.H.Health.servers l.health ≡ length l.addresses)
