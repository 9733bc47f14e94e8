-- Keys that may not go out as one `get`.
use Rattle.std.proofs.Common.{◌≡◌, ℕ, Bool, Some, codes, false, leb-false, true}
use Rattle.clap.specs.declared.parser.matches.Found.{Found}
use Rattle.tko_options.specs.Found.{IsNumberAt, IsSwitchAt}
use Rattle.tko_options.specs.Misfits.{GroupsInThreads, GroupsOfOneKey, IsMisfit}
use Rattle.tko_options.specs.Modes.{may_group, mode_at}
use Rattle.tko_options.specs.declared.mode.Mode.{Mode}
use Rattle.tko_options.specs.declared.mode.Mode.TheVariants as mode

-- where keys may not go out as one `get` and are to, the mode is that of threads, or one key is
-- asked for at once
pub grouped_misfit : (found : Found) (named : Mode) (keys : ℕ) (grouped : Bool)
    → mode_at found ≡ Some named → IsNumberAt 32 found (codes "keys-at-once") keys
    → IsSwitchAt found (codes "group-keys") grouped → may_group named keys grouped ≡ false
    → IsMisfit found
grouped_misfit found mode.Threads keys false is number given apart = absurd cc
grouped_misfit found mode.Events keys false is number given apart = absurd cc
grouped_misfit found mode.Threads keys true is number given apart = GroupsInThreads is given
grouped_misfit found mode.Events keys true is number given apart =
    GroupsOfOneKey given keys number (leb-false 2 keys apart)
