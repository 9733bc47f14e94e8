-- Words that clap takes, and that ask for nothing.
use Rattle.std.specs.Prelude.{◌≡◌, ◌≢◌, ◌<◌, ◌⊎◌, ℕ, List, [], Some, None, codes, false, is_some, string_bytes, true, unwrap_or}
use Rattle.clap.specs.Words.{HasMatchesOf, first_value, one_text, subcommand_name_of}
use Rattle.clap.specs.declared.parser.matches.ArgMatches.{ArgMatches}
use Rattle.clap.specs.declared.parser.matches.Found.{Found}
use Rattle.tko_options.specs.Commands.{IsCommandWith}
use Rattle.tko_options.specs.Found.{IsNumberAt, IsSwitchAt, compares_lists, has_keys, is_log_place}
use Rattle.tko_options.specs.Modes.{may_ask, may_group, may_limit, mode_at}
use Rattle.tko_options.specs.Program.{program_app}
use Rattle.tko_options.specs.declared.mode.Mode.TheVariants as mode
use Rattle.tko_options.specs.declared.refusal.Refusal.{Refusal}
use Rattle.tko_options.specs.declared.refusal.Refusal.TheVariants as refusal
use Rattle.tko_options.specs.declared.serve_options.ServeOptions.{ServeOptions}

-- what is wrong with the options of `serve`: a log that goes nowhere, a mode that is none, a limit
-- of clients, several keys at once or grouped keys in threads, or grouped keys where one is asked
-- for at once
pub data IsMisfit (found : Found) : Type 0 where
  LogNowhere : is_log_place (unwrap_or (first_value found (codes "log")) []) ≡ false
      → IsMisfit found
  NoMode : mode_at found ≡ None → IsMisfit found
  ClientsInThreads : mode_at found ≡ Some mode.Threads
      → is_some (one_text found (codes "clients")) ≡ true → IsMisfit found
  KeysInThreads : mode_at found ≡ Some mode.Threads → (keys : ℕ)
      → IsNumberAt 32 found (codes "keys-at-once") keys → 1 < keys → IsMisfit found
  GroupsInThreads : mode_at found ≡ Some mode.Threads → IsSwitchAt found (codes "group-keys") true
      → IsMisfit found
  GroupsOfOneKey : IsSwitchAt found (codes "group-keys") true → (keys : ℕ)
      → IsNumberAt 32 found (codes "keys-at-once") keys → keys < 2 → IsMisfit found

-- options of `serve` that do not fit one another: the log goes nowhere, or they are for events and
-- the mode is threads, or keys are grouped of which one is asked for at a time
abbrev pub AreUnfit : ServeOptions → Type 0
AreUnfit options = (is_log_place (string_bytes options.log) ≡ false)
    ⊎ ((may_limit options.mode options.clients ≡ false)
    ⊎ ((may_ask options.mode options.keys_at_once ≡ false)
    ⊎ (may_group options.mode options.keys_at_once options.group_keys ≡ false)))

-- words are refused for this reason, and no text is shown in place of a command
abbrev pub IsRefusedAs : Type 0 → Refusal → Type 0
IsRefusedAs reason (refusal.Answer text) = ⊥
IsRefusedAs reason (refusal.Wrong text) = reason
IsRefusedAs reason refusal.Memory = Unit {0}

-- the options of `serve` are refused for what is wrong with them
abbrev pub IsUnfit : Found → Refusal → Type 0
IsUnfit found = IsRefusedAs (IsMisfit found)

-- what is wrong with the options of `check`: a key is none of the protocol, or a configuration to
-- compare with is given without a list of keys
abbrev pub IsCheckMisfit : Found → Type 0
IsCheckMisfit found = (has_keys found ≡ false) ⊎ (compares_lists found ≡ false)

-- what is wrong with a command: there is none, or the options of `serve` or `check` are wrong
pub data IsMisread (matches : ArgMatches) : Type 0 where
  NoCommand : subcommand_name_of matches ≢ Some (codes "demo")
      → subcommand_name_of matches ≢ Some (codes "dry")
      → subcommand_name_of matches ≢ Some (codes "replay")
      → subcommand_name_of matches ≢ Some (codes "serve")
      → subcommand_name_of matches ≢ Some (codes "check") → IsMisread matches
  Unfit : IsCommandWith (codes "serve") IsMisfit matches → IsMisread matches
  UnfitCheck : IsCommandWith (codes "check") IsCheckMisfit matches → IsMisread matches

-- it is refused for that
abbrev pub IsRefusedFor : ArgMatches → Refusal → Type 0
IsRefusedFor matches = IsRefusedAs (IsMisread matches)

-- clap takes these words, and something is wrong with the command that they name
pub record AreMisread (words : List (List ℕ)) : Type 0 where
  pub matches : ArgMatches
  pub of_words : HasMatchesOf program_app words matches
  pub misread : IsMisread matches
