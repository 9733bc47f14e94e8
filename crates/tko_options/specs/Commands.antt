-- The command that clap found in the words.
use Rattle.std.specs.Prelude.{◌≡◌, ℕ, List, Some, option_map}
use Rattle.clap.specs.Simple.{subcommand_rows_of}
use Rattle.clap.specs.Words.{rows_of, subcommand_name_of}
use Rattle.clap.specs.declared.parser.matches.ArgMatches.{ArgMatches}
use Rattle.clap.specs.declared.parser.matches.Found.{Found}

-- the words name this command, and clap found this for its options
pub record IsCommand (name : List ℕ) (matches : ArgMatches) (found : Found) : Type 0 where
  pub named : subcommand_name_of matches ≡ Some name
  pub rows : option_map (λ entry. entry.1) (subcommand_rows_of matches) ≡ Some (rows_of found)

-- a command whose options are what clap found for it
pub record IsCommandWith (name : List ℕ) (are : Found → Type 0) (matches : ArgMatches) : Type 0
  where
    pub found : Found
    pub command : IsCommand name matches found
    pub options : are found
