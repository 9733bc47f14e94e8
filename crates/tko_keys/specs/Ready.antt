-- When a call that takes a key on may be made.
use Rattle.std.specs.Prelude.{◌≢◌, []}
use Rattle.tko_pools.specs.Configs.{Configuration}
use Rattle.tko_keys.specs.KeysDriven.{AreUnderWay}
use Rattle.tko_keys.specs.KeysState.{KeysState, MayBegin}

-- the keys are as each call leaves them for the next one, and one more may be begun
pub record IsReadyToBegin (config : Configuration) (state : KeysState) : Type 0 where
  pub ready : AreUnderWay config state
  pub may : MayBegin state

-- the keys are as each call leaves them for the next one, and one waits to be taken on
pub record IsReadyToGoOn (config : Configuration) (state : KeysState) : Type 0 where
  pub ready : AreUnderWay config state
  pub some : state.came.places ≢ []
