-- What workers count of the requests of clients, and of what they send to servers.
use Rattle.std.specs.Prelude.{◌≡◌, ℕ, List, [], ◌∷◌, codes, map}
use Rattle.tko_metrics.specs.declared.command.Command.{Command}
use Rattle.tko_metrics.specs.declared.command.Command.TheVariants as command
use Rattle.tko_metrics.specs.declared.refusal.Refusal.{Refusal}
use Rattle.tko_metrics.specs.declared.refusal.Refusal.TheVariants as refusal
use Rattle.tko_metrics.specs.declared.sent_end.SentEnd.{SentEnd}
use Rattle.tko_metrics.specs.declared.sent_end.SentEnd.TheVariants as end
use Rattle.tko_metrics.specs.declared.worded.Worded.{Worded}

-- the commands, in the order in which they are shown
abbrev pub all_commands : List Command
all_commands =
    command.Get ∷ command.Gets ∷ command.Set ∷ command.Add ∷ command.Replace ∷ command.Append
    ∷ command.Prepend ∷ command.Cas ∷ command.Delete ∷ command.Incr ∷ command.Decr
    ∷ command.Touch ∷ command.Version ∷ command.Quit ∷ command.Stats ∷ []

abbrev pub command_word : Command → List ℕ
command_word command.Get = codes "get"
command_word command.Gets = codes "gets"
command_word command.Set = codes "set"
command_word command.Add = codes "add"
command_word command.Replace = codes "replace"
command_word command.Append = codes "append"
command_word command.Prepend = codes "prepend"
command_word command.Cas = codes "cas"
command_word command.Delete = codes "delete"
command_word command.Incr = codes "incr"
command_word command.Decr = codes "decr"
command_word command.Touch = codes "touch"
command_word command.Version = codes "version"
command_word command.Quit = codes "quit"
command_word command.Stats = codes "stats"

-- why clients are refused, in the order in which it is shown
abbrev pub all_refusals : List Refusal
all_refusals =
    refusal.UnknownCommand ∷ refusal.BadLine ∷ refusal.BadKey ∷ refusal.BadChunk
    ∷ refusal.TooLarge ∷ refusal.LineTooLong ∷ refusal.Binary ∷ []

abbrev pub refusal_word : Refusal → List ℕ
refusal_word refusal.UnknownCommand = codes "unknown_command"
refusal_word refusal.BadLine = codes "bad_line"
refusal_word refusal.BadKey = codes "bad_key"
refusal_word refusal.BadChunk = codes "bad_chunk"
refusal_word refusal.TooLarge = codes "too_large"
refusal_word refusal.LineTooLong = codes "line_too_long"
refusal_word refusal.Binary = codes "binary"

-- what may come of what is sent to a server, in the order in which it is shown
abbrev pub all_ends : List SentEnd
all_ends = end.Reply ∷ end.Timeout ∷ end.Refused ∷ end.Broken ∷ end.Aborted ∷ []

abbrev pub end_word : SentEnd → List ℕ
end_word end.Reply = codes "reply"
end_word end.Timeout = codes "timeout"
end_word end.Refused = codes "refused"
end_word end.Broken = codes "broken"
end_word end.Aborted = codes "aborted"

-- these numbers of a page have these words, in order
abbrev pub HasWords : List (List ℕ) → List Worded → Type 0
HasWords words numbers = map (λ it. it.word.now) numbers ≡ words

-- a number for each command
abbrev pub IsOfCommands : List Worded → Type 0
IsOfCommands numbers = HasWords (map command_word all_commands) numbers

-- a number for each reason to refuse
abbrev pub IsOfRefusals : List Worded → Type 0
IsOfRefusals numbers = HasWords (map refusal_word all_refusals) numbers
