use Rattle.std.proofs.Common.{◌≡◌, ◌++◌, ℕ, map, drop}
use Rattle.tko_socket.proofs.trace.Trace.add.Given as goal

-- what was kept and what is left make what all make
abbrev pub invariant-loop-byte : goal.invariant-loop-byte
invariant-loop-byte l =
    map (λ (pair : ℕ × ℕ). pair.0) l.self-inside.log.items ++ drop l.byte-index l.bytes
    ≡ map (λ (pair : ℕ × ℕ). pair.0) l.initial.self-inside.log.items ++ l.bytes
