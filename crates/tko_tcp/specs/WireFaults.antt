-- The fault of a wire that an error of a socket counts as.
use Rattle.std.specs.Prelude.{Bool, true, false}
use Rattle.std.specs.declared.io.ErrorKind.{ErrorKind}
use Rattle.std.specs.declared.io.ErrorKind.TheVariants as kind
use Rattle.tko_links.specs.declared.wire.WireFault.{WireFault}
use Rattle.tko_links.specs.declared.wire.WireFault.TheVariants as fault

-- a call timed out if it would have had to wait longer than its limit, or if the system says so
abbrev pub fault_of_kind : ErrorKind → WireFault
fault_of_kind kind.WouldBlock = fault.TimedOut
fault_of_kind kind.TimedOut = fault.TimedOut
fault_of_kind _ = fault.Other

-- a call that failed so is made again as long as time is left: a signal interrupted it, or it would
-- have had to wait longer than one call may
abbrev pub is_passing : ErrorKind → Bool
is_passing kind.Interrupted = true
is_passing kind.WouldBlock = true
is_passing _ = false
