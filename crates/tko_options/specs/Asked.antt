-- What the words of the command line ask for.
use Rattle.std.specs.Prelude.{◌≡◌, ◌⊎◌, ℕ, Bool, true, false, List, Some, codes, string_bytes}
use Rattle.clap.specs.Takes.{takes}
use Rattle.clap.specs.Words.{HasMatchesOf, subcommand_name_of}
use Rattle.clap.specs.declared.parser.matches.ArgMatches.{ArgMatches}
use Rattle.tko_options.specs.Commands.{IsCommandWith}
use Rattle.tko_options.specs.Found.{AreCheckFound, AreDemoFound, AreDryFound, AreFound, is_log_place}
use Rattle.tko_options.specs.Misfits.{AreMisread}
use Rattle.tko_options.specs.Modes.{may_ask, may_group, may_limit}
use Rattle.tko_options.specs.Program.{program_app}
use Rattle.tko_options.specs.declared.asked.Asked.{Asked}
use Rattle.tko_options.specs.declared.asked.Asked.TheVariants as asked
use Rattle.tko_options.specs.declared.refusal.Refusal.{Refusal}
use Rattle.tko_options.specs.declared.refusal.Refusal.TheVariants as refusal

-- what was asked for is the command that clap found, with the options that it found for it
abbrev pub AsksFor : ArgMatches → Asked → Type 0
AsksFor matches (asked.Dry options) =
    IsCommandWith (codes "dry") (λ found. AreDryFound found options) matches
AsksFor matches asked.Replay = subcommand_name_of matches ≡ Some (codes "replay")
AsksFor matches (asked.Serve options) =
    IsCommandWith (codes "serve") (λ found. AreFound found options) matches
AsksFor matches (asked.Check options) =
    IsCommandWith (codes "check") (λ found. AreCheckFound found options) matches
AsksFor matches (asked.Demo options) =
    IsCommandWith (codes "demo") (λ found. AreDemoFound found options) matches

-- a server has an event log where one can go
abbrev pub names_log : Asked → Bool
names_log (asked.Serve options) = is_log_place (string_bytes options.log)
names_log wanted = true

-- a server has a limit of clients only where they may have one
abbrev pub may_limit_clients : Asked → Bool
may_limit_clients (asked.Serve options) = may_limit options.mode options.clients
may_limit_clients wanted = true

-- a server asks for several keys of a request at once only where its workers may
abbrev pub may_ask_at_once : Asked → Bool
may_ask_at_once (asked.Serve options) = may_ask options.mode options.keys_at_once
may_ask_at_once wanted = true

-- a server asks for keys of one server by one `get` only where its workers may
abbrev pub may_group_keys : Asked → Bool
may_group_keys (asked.Serve options) =
    may_group options.mode options.keys_at_once options.group_keys
may_group_keys wanted = true

-- what was asked for is what clap finds in the words, as it reads the program
pub record IsReadFrom (words : List (List ℕ)) (wanted : Asked) : Type 0 where
  pub matches : ArgMatches
  pub of_words : HasMatchesOf program_app words matches
  pub asks : AsksFor matches wanted

-- a text is shown in place of a command, as the help, only where clap takes no command from the
-- words; they are wrong where it takes none, or where what it takes does not fit
abbrev pub IsRefusal : List (List ℕ) → Refusal → Type 0
IsRefusal words (refusal.Answer text) = takes program_app words ≡ false
IsRefusal words (refusal.Wrong text) = (takes program_app words ≡ false) ⊎ AreMisread words
IsRefusal words refusal.Memory = Unit {0}

-- there is no text for the standard output
abbrev pub IsNoAnswer : Refusal → Type 0
IsNoAnswer (refusal.Answer text) = ⊥
IsNoAnswer (refusal.Wrong text) = Unit {0}
IsNoAnswer refusal.Memory = Unit {0}
