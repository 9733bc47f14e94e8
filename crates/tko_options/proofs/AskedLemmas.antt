-- The command that clap found.
use Rattle.std.proofs.Common.{◌≡◌, ℕ, Bool, true, false, List, Some, inl, inr, refl, subst}
use Rattle.std.specs.Prelude.{option_map}
use Rattle.clap.specs.Simple.{subcommand_rows_of}
use Rattle.clap.specs.Words.{App, HasMatchesOf, found_of, rows_of, subcommand_name_of}
use Rattle.clap.specs.declared.parser.matches.ArgMatches.{ArgMatches}
use Rattle.clap.specs.declared.parser.matches.Found.{Found}
use Rattle.clap.specs.Takes.{takes}
use Rattle.tko_options.specs.Asked.{AsksFor, IsReadFrom, IsRefusal}
use Rattle.tko_options.specs.Commands.{IsCommandWith}
use Rattle.tko_options.specs.Misfits.{IsRefusedFor}
use Rattle.tko_options.specs.Program.{program_app}
use Rattle.tko_options.specs.declared.asked.Asked.{Asked}
use Rattle.tko_options.specs.declared.refusal.Refusal.{Refusal}
use Rattle.tko_options.specs.declared.refusal.Refusal.TheVariants as refusal

pub is_command : (name : List ℕ) (are : Found → Type 0) (matches found : ArgMatches)
    → subcommand_name_of matches ≡ Some name
    → option_map (λ entry. entry.1) (subcommand_rows_of matches) ≡ Some (rows_of (found_of found))
    → are (found_of found) → IsCommandWith name are matches
is_command name are matches found named rows options =
    record { found = found_of found; command = record { named = named; rows = rows }; options = options }

pub read_from : (words : List (List ℕ)) (app : App) (matches : ArgMatches) (asked : Asked) → app ≡ program_app
    → HasMatchesOf app words matches → AsksFor matches asked → IsReadFrom words asked
read_from words app matches asked is has asks =
    record { matches = matches; of_words = subst (λ it. HasMatchesOf it words matches) is has; asks = asks }

untaken : {K : Type 0} (taken : Bool) → (taken ≡ true → K) → (K → ⊥) → taken ≡ false
untaken false passes other = refl
untaken true passes other = absurd (other (passes refl))

-- clap refused the words, and not since memory ran out
pub refused_by : {K : Type 0} (words : List (List ℕ)) (app : App) (text : Refusal) → app ≡ program_app
    → (takes app words ≡ true → K) → (K → text ≡ refusal.Memory) → IsRefusal words text
refused_by words app (refusal.Answer text) is passes memory =
    subst (λ it. takes it words ≡ false) is (untaken (takes app words) passes (λ k. let no = memory k in cc))
refused_by words app (refusal.Wrong text) is passes memory =
    inl (subst (λ it. takes it words ≡ false) is
    (untaken (takes app words) passes (λ k. let no = memory k in cc)))
refused_by words app refusal.Memory is passes memory = tt

-- or for what clap found
pub refused_among : (words : List (List ℕ)) (app : App) (matches : ArgMatches) (why : Refusal)
    → app ≡ program_app → HasMatchesOf app words matches → IsRefusedFor matches why → IsRefusal words why
refused_among words app matches (refusal.Answer text) is has why = absurd why
refused_among words app matches (refusal.Wrong text) is has why =
    inr (record {
      matches = matches;
      of_words = subst (λ it. HasMatchesOf it words matches) is has;
      misread = why;
    })
refused_among words app matches refusal.Memory is has why = tt
