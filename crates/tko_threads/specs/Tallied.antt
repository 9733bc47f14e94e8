-- As what the metrics count requests, refused lines, and what came of an attempt.
use Rattle.std.specs.Prelude.{ℕ, Option, Some, None}
use Rattle.tko_links.specs.declared.links.Outcome.TheVariants as outcome
use Rattle.tko_metrics.specs.declared.command.Command.{Command}
use Rattle.tko_metrics.specs.declared.command.Command.TheVariants as command
use Rattle.tko_metrics.specs.declared.refusal.Refusal.{Refusal}
use Rattle.tko_metrics.specs.declared.refusal.Refusal.TheVariants as refusal
use Rattle.tko_metrics.specs.declared.sent_end.SentEnd.{SentEnd}
use Rattle.tko_metrics.specs.declared.sent_end.SentEnd.TheVariants as end
use Rattle.tko_route.specs.declared.attempt.Attempt.{Attempt}
use Rattle.tko_route.specs.declared.attempt.Attempt.TheVariants as attempt
use Rattle.tko_text.specs.declared.fault.TextFault.{TextFault}
use Rattle.tko_text.specs.declared.fault.TextFault.TheVariants as fault
use Rattle.tko_text.specs.declared.request.Request.{Request}
use Rattle.tko_text.specs.declared.request.Request.TheVariants as request
use Rattle.tko_text.specs.declared.request.Verb.{Verb}
use Rattle.tko_text.specs.declared.request.Verb.TheVariants as verb

-- the command of a request that stores
abbrev pub command_storing : Verb → Command
command_storing verb.Set = command.Set
command_storing verb.Add = command.Add
command_storing verb.Replace = command.Replace
command_storing verb.Append = command.Append
command_storing verb.Prepend = command.Prepend

-- the command of a request
abbrev pub counted_command : Request → Command
counted_command (request.Get keys) = command.Get
counted_command (request.Gets keys) = command.Gets
counted_command (request.Store verb entry noreply) = command_storing verb
counted_command (request.Cas entry unique noreply) = command.Cas
counted_command (request.Delete key noreply) = command.Delete
counted_command (request.Incr key amount noreply) = command.Incr
counted_command (request.Decr key amount noreply) = command.Decr
counted_command (request.Touch key expiry noreply) = command.Touch
counted_command request.Version = command.Version
counted_command request.Quit = command.Quit
counted_command request.StatsTko = command.Stats

-- why a line was refused
abbrev pub refusal_of : TextFault → Refusal
refusal_of fault.UnknownCommand = refusal.UnknownCommand
refusal_of fault.BadLine = refusal.BadLine
refusal_of fault.BadKey = refusal.BadKey
refusal_of fault.BadChunk = refusal.BadChunk
refusal_of fault.TooLarge = refusal.TooLarge
refusal_of fault.LineTooLong = refusal.LineTooLong

-- which server an attempt was sent to, and what came of that, if it was sent
abbrev pub end_of : Attempt → Option (ℕ × SentEnd)
end_of (attempt.Sent server (outcome.Reply response) reply) = Some (server, end.Reply)
end_of (attempt.Sent server outcome.Timeout reply) = Some (server, end.Timeout)
end_of (attempt.Sent server outcome.Refused reply) = Some (server, end.Refused)
end_of (attempt.Sent server outcome.Broken reply) = Some (server, end.Broken)
end_of (attempt.Sent server outcome.Aborted reply) = Some (server, end.Aborted)
end_of (attempt.Sent server outcome.Spent reply) = None
end_of (attempt.Aborted server) = Some (server, end.Aborted)
end_of (attempt.Spent server) = None
end_of (attempt.Skipped server mark) = None
