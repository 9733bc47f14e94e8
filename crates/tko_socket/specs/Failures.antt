-- What a call gives that failed: nothing can be done now, or the connection failed.
use Rattle.std.specs.Prelude.{ℕ, Option, Some, None}
use Rattle.std.specs.declared.io.ErrorKind.{ErrorKind}
use Rattle.std.specs.declared.io.ErrorKind.TheVariants.{WouldBlock}
use Rattle.tko_port.specs.declared.port.Read.{Read}
use Rattle.tko_port.specs.declared.port.Read.TheVariants.{Fault, Nothing}

abbrev pub failed_read : ErrorKind → Read
failed_read WouldBlock = Nothing
failed_read _ = Fault

abbrev pub failed_write : ErrorKind → Option ℕ
failed_write WouldBlock = Some 0
failed_write _ = None
