-- What a run of a server comes to.
use Rattle.std.specs.Prelude.{◌≡◌, ◌↔◌, ℕ, IfErr, IfOk, Result, Err, Some}
use Rattle.tko_model.specs.Ranges.{first_fault}
use Rattle.tko_model.specs.declared.settings.SettingsFault.{SettingsFault}
use Rattle.tko_server.specs.Announcing.{IsAnnounced}
use Rattle.tko_server.specs.Closing.{HasServerEnded}
use Rattle.tko_server.specs.Endings.{IsEnough}
use Rattle.tko_server.specs.Runs.{IsAfterOpening, tracker_settings}
use Rattle.tko_server.specs.declared.ending.ServedReport.{ServedReport}
use Rattle.tko_server.specs.declared.run_fault.ServerRunFault.{ServerRunFault}
use Rattle.tko_server.specs.declared.run_fault.ServerRunFault.TheVariants as run
use Rattle.tko_server.specs.declared.running.Ended.{Ended}
use Rattle.tko_server.specs.declared.running.Options.{Options}

-- a server whose options ask for so many connections served its clients, and its announcement was
-- `old` before and is `new` after: where it ended well, it accepted as many; where it failed, the
-- settings were in their ranges; and it has announced or not, as its result says
pub record ServingEnds {A : Type 0} (announces fails : A → A → Type 0) (asked : ℕ) (old new : A)
    (result : Result ServedReport ServerRunFault) : Type 0
  where
    pub enough : IfOk result (λ served. IsEnough asked served.accepted)
    pub fault : IfErr result IsAfterOpening
    pub announced : IsAnnounced announces fails old new result

-- a server ran on these options, and its announcement was `old` before and is `new` after: it fails
-- with the first setting that is out of its range, exactly where there is one; where it ended well,
-- it ran to its end; and it has announced or not, as its result says
pub record IsServerRun {A : Type 0} (announces fails : A → A → Type 0) (options : Options)
    (old new : A) (result : Result Ended ServerRunFault) : Type 0
  where
    pub settings : (fault : SettingsFault) → (result ≡ Err (run.Settings fault))
        ↔ (first_fault (tracker_settings options) ≡ Some fault)
    pub ended : IfOk result (HasServerEnded options)
    pub announced : IsAnnounced announces fails old new result
