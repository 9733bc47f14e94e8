use Rattle.std.proofs.Common.{refl}
use Rattle.tko_commands.proofs.grouped.settings_within.Goals as goal

pub returns-in-Err-clause-err : goal.returns-in-Err-clause-err
returns-in-Err-clause-err c =
    let first = (c.in-Err.ensures.err c.in-Err.setting).0 refl in
    rw c.of.ensures (record { first = rw c.in_ok-settings.ensures at first; given = refl })
