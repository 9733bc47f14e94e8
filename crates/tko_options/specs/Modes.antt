-- How the clients of a server are served: the names of the modes, and what follows from one.
use Rattle.std.specs.Prelude.{ℕ, Bool, ◌||◌, List, [], Option, Some, None, bytes_eq, codes, if◌then◌else◌, is_some, leb, not, true, unwrap_or}
use Rattle.clap.specs.Words.{first_value}
use Rattle.clap.specs.declared.parser.matches.Found.{Found}
use Rattle.tko_options.specs.declared.mode.Mode.{Mode}
use Rattle.tko_options.specs.declared.mode.Mode.TheVariants as mode

-- the mode of a name
abbrev pub mode_named : List ℕ → Option Mode
mode_named name =
    if bytes_eq name (codes "threads") then Some mode.Threads
    else if bytes_eq name (codes "events") then Some mode.Events else None

-- how many workers there are where their number is not given
abbrev pub default_workers : Mode → ℕ
default_workers mode.Threads = 4
default_workers mode.Events = 2

-- the mode that the option names
abbrev pub mode_at : Found → Option Mode
mode_at found = mode_named (unwrap_or (first_value found (codes "mode")) [])

-- whether a worker may ask for so many keys of a request at once: in threads for one
abbrev pub may_ask : Mode → ℕ → Bool
may_ask mode.Threads keys = leb keys 1
may_ask mode.Events keys = true

-- whether keys of a request that go to one server may go out as one `get`: in events, where several
-- are asked for at once
abbrev pub may_group : Mode → ℕ → Bool → Bool
may_group mode.Threads keys grouped = not grouped
may_group mode.Events keys grouped = not grouped || leb 2 keys

-- whether the number of clients may have this limit, or none: in threads it is that of the workers
abbrev pub may_limit : Mode → Option ℕ → Bool
may_limit mode.Threads limit = not (is_some limit)
may_limit mode.Events limit = true
