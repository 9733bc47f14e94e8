-- What a read or a write moved, and which results are failures.
use Rattle.std.specs.Prelude.{◌≡◌, ◌<◌, ◌+◌, ℕ, List, [], take, length, nat_lt, ◌&&◌, ◌==◌, if◌then◌else◌, Result, Ok, Err}
use Rattle.std.specs.IoError.{error_kind}
use Rattle.std.specs.declared.io.Error.{Error}
use Rattle.std.specs.declared.io.ErrorKind.{ErrorKind}
use Rattle.std.specs.declared.io.ErrorKind.TheVariants as kind
use Rattle.tko_bytes.specs.Numbers.{capped}
use Rattle.tko_io.specs.declared.io.Stop.{Stop}
use Rattle.tko_io.specs.declared.io.Stop.TheVariants.{Idle, Again, Fault}

-- the bytes at the front that a result is about
abbrev pub moved : Result ℕ Stop → List ℕ → List ℕ
moved (Ok count) bytes = take count bytes
moved (Err stop) bytes = []

abbrev pub is_fault : Stop → ℕ
is_fault Idle = 0
is_fault Again = 0
is_fault Fault = 1

abbrev pub is_idle : Stop → ℕ
is_idle Idle = 1
is_idle Again = 0
is_idle Fault = 0

-- how many failures a result is
abbrev pub faults_in : Result ℕ Stop → ℕ
faults_in (Ok count) = 0
faults_in (Err stop) = is_fault stop

-- how many idle turns a result is
abbrev pub idles_in : Result ℕ Stop → ℕ
idles_in (Ok count) = 0
idles_in (Err stop) = is_idle stop

-- how many failures the result of a write of this piece is
abbrev pub refusals_in : List ℕ → Result ℕ Stop → ℕ
refusals_in piece (Ok count) = if nat_lt 0 (length piece) && (count == 0) then 1 else 0
refusals_in piece (Err stop) = is_fault stop

-- a read that was interrupted is made again, and one that would block or timed out is idle
abbrev pub read_stop : ErrorKind → Stop
read_stop kind.Interrupted = Again
read_stop kind.WouldBlock = Idle
read_stop kind.TimedOut = Idle
read_stop _ = Fault

-- a write that was interrupted is made again, and any other error is a failure
abbrev pub write_stop : ErrorKind → Stop
write_stop kind.Interrupted = Again
write_stop _ = Fault

-- what a session takes the result of a read for
abbrev pub read_result : Result ℕ Error → Result ℕ Stop
read_result (Ok count) = Ok count
read_result (Err error) = Err (read_stop (error_kind error))

-- what a session takes the result of a write for
abbrev pub write_result : Result ℕ Error → Result ℕ Stop
write_result (Ok count) = Ok count
write_result (Err error) = Err (write_stop (error_kind error))

-- a text was written, and counted: the writer and the count before and after
pub record Writes {O : Type 0} (takes : O → List ℕ → O → Type 0)
    (old : O × ℕ) (text : List ℕ) (new : O × ℕ) : Type 0 where
  pub output : takes old.0 text new.0
  pub counted : capped new.1 ≡ capped (old.1 + length text)

-- the front of a text was written, and counted, and not all of it
pub record WritesPart {O : Type 0} (takes : O → List ℕ → O → Type 0)
    (old : O × ℕ) (text : List ℕ) (new : O × ℕ) : Type 0 where
  pub count : ℕ
  pub within : count < length text
  pub front : Writes takes old (take count text) new
