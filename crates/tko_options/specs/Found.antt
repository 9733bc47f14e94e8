-- The options of the commands, as clap read them.
use Rattle.std.specs.Prelude.{◌≡◌, ◌<◌, ◌^◌, ℕ, Bool, true, false, ◌||◌, List, [], Option, Some, None, bytes_eq, codes, is_some, map, option_map, string_bytes, unwrap_or}
use Rattle.std.specs.List.{list_all}
use Rattle.std.specs.Str.Parse.{IsNumeral, digits_value, without_leading_plus}
use Rattle.clap.specs.Words.{first_value, matched_of, one_text, raw_values}
use Rattle.clap.specs.declared.parser.matches.Found.{Found}
use Rattle.tko_text.specs.Keys.{is_key}
use Rattle.tko_options.specs.Modes.{default_workers, mode_at}
use Rattle.tko_options.specs.declared.check_options.CheckOptions.{CheckOptions}
use Rattle.tko_options.specs.declared.demo_options.DemoOptions.{DemoOptions}
use Rattle.tko_options.specs.declared.dry_options.DryOptions.{DryOptions}
use Rattle.tko_options.specs.declared.serve_options.ServeOptions.{ServeOptions}

-- where the text of an option is a number of `bits` bits, in decimal digits, it is this number
abbrev pub IsNumberAt : ℕ → Found → List ℕ → ℕ → Type 0
IsNumberAt bits found name number = (text : List ℕ) → one_text found name ≡ Some text
    → IsNumeral 10 (without_leading_plus text)
    → digits_value 10 (without_leading_plus text) < 2 ^ bits
    → number ≡ digits_value 10 (without_leading_plus text)

-- the same of an option that may be left out: it is another number there
pub record IsNumberOr (default bits : ℕ) (found : Found) (name : List ℕ) (number : ℕ) : Type 0 where
  pub given : IsNumberAt bits found name number
  pub left_out : one_text found name ≡ None → number ≡ default

-- the same where there is no number then
pub record IsNumberIfAny (bits : ℕ) (found : Found) (name : List ℕ) (number : Option ℕ) : Type 0
  where
    pub given : (text : List ℕ) → one_text found name ≡ Some text
        → IsNumeral 10 (without_leading_plus text)
        → digits_value 10 (without_leading_plus text) < 2 ^ bits
        → number ≡ Some (digits_value 10 (without_leading_plus text))
    pub left_out : one_text found name ≡ None → number ≡ None

-- the text of an option, and the empty one where it was not given
abbrev pub IsTextAt : Found → List ℕ → List ℕ → Type 0
IsTextAt found name text = text ≡ unwrap_or (first_value found name) []

-- the texts of an option that may be given several times
abbrev pub texts_at : Found → List ℕ → List (List ℕ)
texts_at found name = unwrap_or (option_map raw_values (matched_of found name)) []

-- whether a switch was given
pub record IsSwitchAt (found : Found) (name : List ℕ) (given : Bool) : Type 0 where
  pub on : one_text found name ≡ Some (codes "true") → given ≡ true
  pub off : one_text found name ≡ Some (codes "false") → given ≡ false

-- each option of `dry` is what clap read for its name; an empty configuration is one
pub record AreDryFound (found : Found) (options : DryOptions) : Type 0 where
  pub servers : IsNumberAt 32 found (codes "servers") options.servers
  pub failures : IsNumberAt 32 found (codes "failures") options.failures
  pub limit : IsNumberAt 32 found (codes "limit") options.limit
  pub tries : IsNumberAt 32 found (codes "tries") options.tries
  pub config : option_map string_bytes options.config ≡ first_value found (codes "config")
  pub config_file :
      option_map string_bytes options.config_file ≡ first_value found (codes "config-file")
  pub outcomes : IsTextAt found (codes "outcomes") (string_bytes options.outcomes)
  pub trail : IsSwitchAt found (codes "trail") options.trail

-- whether each key that was given is one of the protocol
abbrev pub has_keys : Found → Bool
has_keys found = list_all is_key (texts_at found (codes "key"))

-- whether a configuration to compare with is given, if at all, beside a list of keys
abbrev pub may_compare : Option (List ℕ) → Option (List ℕ) → Bool
may_compare None keys_from = true
may_compare (Some against) keys_from = is_some keys_from

-- whether the options of the words may compare
abbrev pub compares_lists : Found → Bool
compares_lists found =
    may_compare (first_value found (codes "against")) (first_value found (codes "keys-from"))

-- each option of `check` is what clap read for its name, each key is one, and a configuration to
-- compare with is given only beside a list of keys
pub record AreCheckFound (found : Found) (options : CheckOptions) : Type 0 where
  pub config : IsTextAt found (codes "config") (string_bytes options.config)
  pub config_file :
      option_map string_bytes options.config_file ≡ first_value found (codes "config-file")
  pub keys : map string_bytes options.keys.items ≡ texts_at found (codes "key")
  pub keys_from :
      option_map string_bytes options.keys_from ≡ first_value found (codes "keys-from")
  pub against : options.against ≡ None
  pub against_file :
      option_map string_bytes options.against_file ≡ first_value found (codes "against")
  pub connect : IsSwitchAt found (codes "connect") options.connect
  pub timeout : IsNumberAt 32 found (codes "timeout") options.timeout
  pub are_keys : has_keys found ≡ true
  pub compares : compares_lists found ≡ true

-- the option of `demo` is what clap read for its name
abbrev pub AreDemoFound : Found → DemoOptions → Type 0
AreDemoFound found options = IsSwitchAt found (codes "stay") options.stay

-- where an event log goes: to standard error, or nowhere
abbrev pub is_log_place : List ℕ → Bool
is_log_place text = bytes_eq text (codes "stderr") || bytes_eq text (codes "off")

-- each option of `serve` is what clap read for its name
pub record AreFound (found : Found) (options : ServeOptions) : Type 0 where
  pub listen : IsTextAt found (codes "listen") (string_bytes options.listen)
  pub config : IsTextAt found (codes "config") (string_bytes options.config)
  pub config_file :
      option_map string_bytes options.config_file ≡ first_value found (codes "config-file")
  pub mode : mode_at found ≡ Some options.mode
  pub threads : IsNumberOr (default_workers options.mode) 32 found (codes "threads") options.threads
  pub clients : IsNumberIfAny 64 found (codes "clients") options.clients
  pub keys_at_once : IsNumberAt 32 found (codes "keys-at-once") options.keys_at_once
  pub group_keys : IsSwitchAt found (codes "group-keys") options.group_keys
  pub connections : IsNumberAt 64 found (codes "connections") options.connections
  pub timeout : IsNumberAt 32 found (codes "timeout") options.timeout
  pub write_timeout : IsNumberAt 32 found (codes "write-timeout") options.write_timeout
  pub idle_timeout : IsNumberAt 32 found (codes "idle-timeout") options.idle_timeout
  pub first_delay : IsNumberAt 32 found (codes "first-delay") options.first_delay
  pub greatest_delay : IsNumberAt 32 found (codes "greatest-delay") options.greatest_delay
  pub failures : IsNumberAt 32 found (codes "failures") options.failures
  pub limit : IsNumberAt 32 found (codes "limit") options.limit
  pub tries : IsNumberAt 32 found (codes "tries") options.tries
  pub log : IsTextAt found (codes "log") (string_bytes options.log)
  pub metrics : option_map string_bytes options.metrics ≡ first_value found (codes "metrics")
  pub only_check : IsSwitchAt found (codes "check") options.only_check
