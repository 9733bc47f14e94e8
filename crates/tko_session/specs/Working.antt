-- What a session is at, from the key of the request that it answers.
use Rattle.std.specs.Prelude.{ℕ, Bool, false, List, [], Option, Some, None}
use Rattle.tko_route.specs.Underway.{has_next}
use Rattle.tko_route.specs.declared.attempt.Attempt.{Attempt}
use Rattle.tko_reply.specs.Standing.{SentKey, asking}
use Rattle.tko_reply.specs.declared.asking.OneKey.{OneKey}
use Rattle.tko_session.specs.declared.session.SessionWork.{SessionWork}
use Rattle.tko_session.specs.declared.session.SessionWork.TheVariants as at
use Rattle.tko_session.specs.declared.session.KeyWait.{KeyWait}
use Rattle.tko_session.specs.declared.session.KeyWait.TheVariants as wait

-- no request is being answered; this one was read, and is to be begun; what comes of a send is
-- awaited; the attempts at this key ended; or the request was handed over, and the driver answers
-- it
pub data Work : Type 0 where
  Between : Work
  Read : OneKey → Work
  Awaits : SentKey → Work
  Ended : OneKey → Work
  HandedOver : Work

-- with this key, where the session waits for this
abbrev pub key_work : OneKey → KeyWait → Work
key_work one wait.Read = Read one
key_work one (wait.Sent awaited) = Awaits (asking awaited one)
key_work one wait.Tried = Ended one

abbrev pub work_at : SessionWork → Work
work_at at.Between = Between
work_at (at.Key one) = key_work one.key one.wait
work_at at.HandedOver = HandedOver

-- the key that is at work
abbrev pub key_in : Work → Option OneKey
key_in Between = None
key_in (Read one) = Some one
key_in (Awaits it) = Some it.key
key_in (Ended one) = Some one
key_in HandedOver = None

-- the request that was read
abbrev pub request_read_in : Work → Option OneKey
request_read_in Between = None
request_read_in (Read one) = Some one
request_read_in (Awaits it) = None
request_read_in (Ended one) = None
request_read_in HandedOver = None

-- the key whose attempts ended
abbrev pub ended_in : Work → Option OneKey
ended_in Between = None
ended_in (Read one) = None
ended_in (Awaits it) = None
ended_in (Ended one) = Some one
ended_in HandedOver = None

-- the attempts at the key for which a send is out
abbrev pub attempts_in : Work → List Attempt
attempts_in (Awaits it) = it.awaited.attempts
attempts_in _ = []

-- a send is out, and another of these targets is left after it
abbrev pub has_next_in : Work → List ℕ → Bool
has_next_in (Awaits it) targets = has_next it.awaited targets
has_next_in _ targets = false
