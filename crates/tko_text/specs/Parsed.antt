-- What the code's parsed line means.
use Rattle.std.specs.Prelude.{ℕ, ◌+◌, ◌≤◌, ◌≢◌, Bool, List, Option, Some, None}
use Rattle.tko_text.specs.declared.fault.TextFault.TheVariants.{LineTooLong}
use Rattle.tko_text.specs.declared.form.Form.{Form}
use Rattle.tko_text.specs.declared.form.Form.TheVariants as form
use Rattle.tko_text.specs.declared.line.Direction.{Direction}
use Rattle.tko_text.specs.declared.line.Direction.TheVariants as direction
use Rattle.tko_text.specs.declared.line.Header.{Header}
use Rattle.tko_text.specs.declared.line.ParsedLine.{ParsedLine}
use Rattle.tko_text.specs.declared.line.ParsedLine.TheVariants as line
use Rattle.tko_text.specs.declared.line.StoreWord.{StoreWord}
use Rattle.tko_text.specs.declared.line.StoreWord.TheVariants as word
use Rattle.tko_text.specs.declared.request.Entry.{Entry}
use Rattle.tko_text.specs.declared.request.Request.{Request}
use Rattle.tko_text.specs.declared.request.Request.TheVariants as request
use Rattle.tko_text.specs.Commands.{After, Next, Pass, Asks, AwaitsData, Refused}
use Rattle.tko_text.specs.Commands as commands
use Rattle.tko_text.specs.Limits.{data_limit}

-- the request of a storage word
abbrev pub stored_by : StoreWord → Entry → Bool → Request
stored_by (word.Verb verb) entry noreply = request.Store verb entry noreply
stored_by (word.Cas unique) entry noreply = request.Cas entry unique noreply

-- the request of a header and its data
abbrev pub request_with : Header → List ℕ → Request
request_with header value =
    stored_by header.word
    (record { key = header.key; flags = header.flags; expiry = header.expiry; value = value })
    header.noreply

-- the form of the command that moves a counter this way
abbrev pub counter_form : Direction → Form
counter_form direction.Up = form.Incr
counter_form direction.Down = form.Decr

-- what is skipped after a line that such data follow
abbrev pub after_data : Option ℕ → After
after_data None = Next
after_data (Some size) = Pass (size + 2)

abbrev pub meaning : ParsedLine → commands.ParsedLine
meaning (line.Asks asked) = Asks asked
meaning (line.AwaitsData header) = AwaitsData header.size (request_with header)
meaning (line.Refused fault size) = Refused fault (after_data size)

-- a parsed line is no line too long, and awaits no more data than may be stored
abbrev pub IsWithinLimits : ParsedLine → Type 0
IsWithinLimits (line.Refused fault size) = fault ≢ LineTooLong
IsWithinLimits (line.AwaitsData header) = header.size ≤ data_limit
IsWithinLimits _ = Unit {0}
