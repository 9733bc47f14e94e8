-- How many clients ended, by how they did.
use Rattle.std.specs.Prelude.{ℕ, ◌+◌}
use Rattle.tko_bytes.specs.Numbers.{capped}
use Rattle.tko_mux.specs.Muxes.{MuxState}
use Rattle.tko_port.specs.declared.guest.Guest.{Guest}
use Rattle.tko_port.specs.declared.guest.SharedParts.{SharedParts}
use Rattle.tko_port.specs.declared.settling.End.{End}
use Rattle.tko_port.specs.declared.settling.End.TheVariants.{Finished, LineTooLong, Memory, ReadFailed, WriteFailed}
use Rattle.tko_worker.specs.declared.ends.EndCounts.{EndCounts}

abbrev pub no_ends : EndCounts
no_ends = record { finished = 0; line_too_long = 0; memory = 0; read = 0; write = 0 }

-- one more; the number stays at 2^64 - 1
abbrev pub one_more : ℕ → ℕ
one_more count = capped (count + 1)

-- an end was counted
abbrev pub counted_end : End → EndCounts → EndCounts
counted_end Finished ends = record ends { finished = one_more ends.finished }
counted_end LineTooLong ends = record ends { line_too_long = one_more ends.line_too_long }
counted_end Memory ends = record ends { memory = one_more ends.memory }
counted_end ReadFailed ends = record ends { read = one_more ends.read }
counted_end WriteFailed ends = record ends { write = one_more ends.write }

-- clients and their servers, and how many clients ended
abbrev pub MuxAndEnds : Type 0 → Type 0 → Type 0 → Type 0
MuxAndEnds L T P = MuxState (Guest L T) (SharedParts P) × EndCounts
