-- A request for several keys that its session hands over, and its end.
use Rattle.std.specs.Prelude.{◌≡◌, ◌<◌, false, Some, None}
use Rattle.tko_text.specs.declared.request.Request.{Request}
use Rattle.tko_keys.specs.KeysState.{IsComplete, IsNew, KeysState, reply_in}
use Rattle.tko_session.specs.Driven.{dropped}
use Rattle.tko_session.specs.Handing.{HandsOver, IsHanded, replied_by}
use Rattle.tko_session.specs.SessionState.{SessionState}
use Rattle.tko_client.specs.declared.answering.Answering.{Answering}
use Rattle.tko_client.specs.declared.calls.Went.{Went}
use Rattle.tko_client.specs.declared.calls.Went.TheVariants.{On, Short}

-- a request is handed over, and its keys are to be begun; or there was no memory for them, and it
-- is dropped
pub data HasHanded (went : Went) (old new : Answering) : Type 0 where
  taken : (request : Request) (keys : KeysState) → 1 < old.plan.most
      → HandsOver old.session request new.session → IsNew request old.plan keys
      → new ≡ record old { session = new.session; keys = Some keys } → went ≡ On
      → HasHanded went old new
  refused : (request : Request) (mid : SessionState) → HandsOver old.session request mid
      → new ≡ record old { session = dropped mid } → went ≡ Short → HasHanded went old new

-- the keys of a request that was handed over are complete
pub record AreKeysComplete (it : Answering) : Type 0 where
  pub keys : KeysState
  pub are : it.keys ≡ Some keys
  pub complete : IsComplete keys
  pub handed : IsHanded it.session

-- its reply is taken; or memory ran out, and it is dropped
pub data HasEndedKeys (went : Went) (old new : Answering) : Type 0 where
  replied : (keys : KeysState) → old.keys ≡ Some keys → keys.lost ≡ false
      → new ≡ record old { session = replied_by (reply_in keys.slots) old.session; keys = None }
      → went ≡ On → HasEndedKeys went old new
  lost : (keys : KeysState) → old.keys ≡ Some keys
      → new ≡ record old { session = dropped old.session; keys = None } → went ≡ Short
      → HasEndedKeys went old new
