-- Words that clap takes, and that ask for nothing.
use Rattle.std.proofs.Common.{◌≡◌, ℕ, List, Option, Some, None, codes, false, true, leb-false, refl, sym, ◌∙◌, ap, inl, inr}
use Rattle.std.specs.Prelude.{is_some}
use Rattle.clap.specs.Words.{one_text}
use Rattle.clap.specs.declared.parser.matches.ArgMatches.{ArgMatches}
use Rattle.clap.specs.declared.parser.matches.Found.{Found}
use Rattle.tko_options.specs.Found.{AreFound, IsNumberAt, is_log_place}
use Rattle.tko_options.specs.Misfits.{AreUnfit, ClientsInThreads, IsCheckMisfit, IsMisfit, IsMisread, IsRefusedAs, IsRefusedFor, IsUnfit, KeysInThreads, LogNowhere}
use Rattle.tko_options.specs.Modes.{may_ask, may_limit, mode_at}
use Rattle.tko_options.proofs.FitLemmas.{grouped_misfit}
use Rattle.tko_options.specs.declared.mode.Mode.{Mode}
use Rattle.tko_options.specs.declared.mode.Mode.TheVariants as mode
use Rattle.tko_options.specs.declared.refusal.Refusal.{Refusal}
use Rattle.tko_options.specs.declared.refusal.Refusal.TheVariants as refusal
use Rattle.tko_options.specs.declared.serve_options.ServeOptions.{ServeOptions}

-- what is refused for one reason is refused for what follows from it
pub refused_for : (reason other : Type 0) (why : Refusal) → (reason → other)
    → IsRefusedAs reason why → IsRefusedAs other why
refused_for reason other (refusal.Answer text) next refused = absurd refused
refused_for reason other (refusal.Wrong text) next refused = next refused
refused_for reason other refusal.Memory next refused = tt

-- a command is refused for what is wrong with its options, or memory ran out
pub unfit_command : (matches : ArgMatches) (found : Found) (why : Refusal) → IsUnfit found why
    → (IsMisfit found → IsMisread matches) → IsRefusedFor matches why
unfit_command matches found why unfit next =
    refused_for (IsMisfit found) (IsMisread matches) why next unfit

-- the same of `check`
pub unfit_check : (matches : ArgMatches) (found : Found) (why : Refusal) → IsRefusedAs (IsCheckMisfit found) why
    → (IsCheckMisfit found → IsMisread matches) → IsRefusedFor matches why
unfit_check matches found why refused next =
    refused_for (IsCheckMisfit found) (IsMisread matches) why next refused

-- where clients have a limit, it was given
limit_given : (named : Mode) (clients : Option ℕ) (text : Option (List ℕ))
    → (text ≡ None → clients ≡ None) → may_limit named clients ≡ false → is_some text ≡ true
limit_given named clients (Some text) left_out limited = refl
limit_given mode.Threads None None left_out limited = cc
limit_given mode.Threads (Some limit) None left_out limited =
    let none : Some limit ≡ None = left_out refl in absurd (let f : ⊥ = cc none in f)
limit_given mode.Events clients None left_out limited = cc

-- a mode in which the clients may have no limit is that of threads
limited_in_threads : (named : Mode) (clients : Option ℕ) → may_limit named clients ≡ false
    → named ≡ mode.Threads
limited_in_threads mode.Threads clients limited = refl
limited_in_threads mode.Events clients limited = cc

-- a mode in which so many keys may not be asked for at once is that of threads
many_in_threads : (found : Found) (named : Mode) (keys : ℕ) → mode_at found ≡ Some named
    → IsNumberAt 32 found (codes "keys-at-once") keys → may_ask named keys ≡ false
    → IsMisfit found
many_in_threads found mode.Threads keys is number many =
    KeysInThreads is keys number (leb-false keys 1 many)
many_in_threads found mode.Events keys is number many = cc

-- options that do not fit are what clap read
misfit : (found : Found) (options : ServeOptions) → AreFound found options → AreUnfit options
    → IsMisfit found
misfit found options are (inl nowhere) = LogNowhere (ap is_log_place (sym are.log) ∙ nowhere)
misfit found options are (inr (inl limited)) =
    ClientsInThreads (are.mode ∙ ap Some (limited_in_threads options.mode options.clients limited))
    (limit_given options.mode options.clients (one_text found (codes "clients"))
    are.clients.left_out limited)
misfit found options are (inr (inr (inl many))) =
    many_in_threads found options.mode options.keys_at_once are.mode are.keys_at_once many
misfit found options are (inr (inr (inr apart))) =
    grouped_misfit found options.mode options.keys_at_once options.group_keys are.mode
    are.keys_at_once are.group_keys apart

pub unfit : (found : Found) (options : ServeOptions) (why : Refusal) → AreFound found options
    → IsRefusedAs (AreUnfit options) why → IsUnfit found why
unfit found options why are refused =
    refused_for (AreUnfit options) (IsMisfit found) why (misfit found options are) refused
