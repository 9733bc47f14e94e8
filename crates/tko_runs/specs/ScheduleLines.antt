-- The lines of a schedule after its header: the command that each is.
use Rattle.std.specs.Prelude.{ℕ, if◌then◌else◌, List, [], ◌∷◌, codes, find, Option, Some, None}
use Rattle.std.specs.Option.{option_map, option_and_then}
use Rattle.std.specs.Str.{bytes_eq}
use Rattle.tko_model.specs.declared.mark.Op.{Op}
use Rattle.tko_model.specs.declared.mark.Op.TheVariants.{LookUp, SoftFailure, HardFailure, Success, Release}
use Rattle.tko_model.specs.Ranges.{is_within}
use Rattle.tko_runs.specs.declared.schedule.command.Command.{Command}
use Rattle.tko_runs.specs.declared.schedule.command.Command.TheVariants.{Begin, Step, Run}
use Rattle.tko_runs.specs.Limits.{max_number, max_steps}
use Rattle.tko_bytes.specs.Numbers.{number_of}
use Rattle.tko_model.specs.Texts.{op_text}
use Rattle.tko_bytes.specs.Fields.{fields_of}

-- the number that a word writes
abbrev pub number_written : List ℕ → Option ℕ
number_written word = number_of max_number word

-- the operation of that word
abbrev pub op_named : List ℕ → Option Op
op_named word =
    find
    (λ op. bytes_eq word (op_text op))
    (LookUp ∷ SoftFailure ∷ HardFailure ∷ Success ∷ Release ∷ [])

-- `begin <thread> <op> <server>`, after its first word
abbrev pub begin_of : List (List ℕ) → Option Command
begin_of [] = None
begin_of (thread ∷ []) = None
begin_of (thread ∷ op ∷ []) = None
begin_of (thread ∷ op ∷ server ∷ []) =
    option_and_then
    (λ thread. option_and_then
    (λ op. option_map (λ server. Begin thread op server) (number_written server))
    (op_named op))
    (number_written thread)
begin_of (thread ∷ op ∷ server ∷ other ∷ others) = None

-- the number of steps of one line
abbrev pub steps_of : List ℕ → Option ℕ
steps_of word =
    option_and_then
    (λ steps. if is_within 1 max_steps steps then Some steps else None)
    (number_written word)

-- `step <thread> <n>`, after its first word
abbrev pub step_command : List (List ℕ) → Option Command
step_command [] = None
step_command (thread ∷ []) = None
step_command (thread ∷ steps ∷ []) =
    option_and_then
    (λ thread. option_map (λ steps. Step thread steps) (steps_of steps))
    (number_written thread)
step_command (thread ∷ steps ∷ other ∷ others) = None

-- `run <thread>`, after its first word
abbrev pub run_of : List (List ℕ) → Option Command
run_of [] = None
run_of (thread ∷ []) = option_map (λ thread. Run thread) (number_written thread)
run_of (thread ∷ other ∷ others) = None

-- the command of a line with these words
abbrev pub command_of : List (List ℕ) → Option Command
command_of [] = None
command_of (name ∷ others) =
    if bytes_eq name (codes "begin") then begin_of others
    else (if bytes_eq name (codes "step") then step_command others
    else (if bytes_eq name (codes "run") then run_of others else None))

-- the command that a line is
abbrev pub command_line : List ℕ → Option Command
command_line line = command_of (fields_of line)
