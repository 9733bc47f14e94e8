-- A request for several keys is handed over to who drives the session, and its reply taken back.
use Rattle.std.specs.Prelude.{◌≡◌, ◌<◌, ℕ, List, ◌++◌, length}
use Rattle.tko_text.specs.declared.request.Request.{Request}
use Rattle.tko_reply.specs.Answers.{request_keys}
use Rattle.tko_reply.specs.declared.asking.OneKey.{OneKey}
use Rattle.tko_session.specs.Driven.{finished}
use Rattle.tko_session.specs.SessionState.{SessionState}
use Rattle.tko_session.specs.Working.{Work}
use Rattle.tko_session.specs.Working as work

-- a request for several keys was read, and is to be begun
abbrev pub IsForSeveral : Work → Type 0
IsForSeveral work.Between = ⊥
IsForSeveral (work.Read one) = 1 < length (request_keys one.request)
IsForSeveral (work.Awaits it) = ⊥
IsForSeveral (work.Ended one) = ⊥
IsForSeveral work.HandedOver = ⊥

-- the session where its request was handed over
abbrev pub handed_over : SessionState → SessionState
handed_over old = record old { work = work.HandedOver }

-- such a request is handed over
pub record HandsOver (old : SessionState) (request : Request) (new : SessionState) : Type 0 where
  pub one : OneKey
  pub at : old.work ≡ work.Read one
  pub gives : request ≡ one.request
  pub several : 1 < length (request_keys request)
  pub state : new ≡ handed_over old

-- there is none to be handed over
pub record HandsNone (old new : SessionState) : Type 0 where
  pub none : ¬ (IsForSeveral old.work)
  pub same : new ≡ old

-- a request was handed over, and its reply begins at the end of the replies that wait
pub record IsHanded (state : SessionState) : Type 0 where
  pub at : state.work ≡ work.HandedOver
  pub begins : state.begin ≡ length state.outbox

-- the session where the reply to a request that was handed over was taken: it is at the end of the
-- replies, and the request counts as answered
abbrev pub replied_by : List ℕ → SessionState → SessionState
replied_by reply old = finished (record old { outbox = old.outbox ++ reply })
