-- What a client's requests are answered by: its session, or the keys of a request that the session
-- handed over.
use Rattle.std.specs.Prelude.{◌≡◌, ◌<◌, ◌+◌, ℕ, Bool, List, [], Option, Some, None, IsSome, length}
use Rattle.tko_bytes.specs.Numbers.{capped}
use Rattle.tko_text.specs.declared.request.Request.{Request}
use Rattle.tko_pools.specs.Configs.{Configuration}
use Rattle.tko_reply.specs.Replies.{reply_bound}
use Rattle.tko_mux.specs.Awaits.{awaited_one}
use Rattle.tko_keys.specs.KeysDriven.{AreUnderWay}
use Rattle.tko_keys.specs.KeysState.{KeysState, asked_first, asked_last, awaited_servers}
use Rattle.tko_keys.specs.KeysState.{bytes_held_in, first_send, has_next_first}
use Rattle.tko_session.specs.Awaiting.{awaited_in}
use Rattle.tko_session.specs.Clients.{ClientPhase, ClientState}
use Rattle.tko_session.specs.Driven.{IsSessionReady, MayGoOn}
use Rattle.tko_session.specs.Outgoing.{outgoing}
use Rattle.tko_session.specs.Working.{Work, has_next_in}
use Rattle.tko_session.specs.Working as work
use Rattle.tko_client.specs.declared.answering.Answering.{Answering}

-- the client of a worker that this is, where its session stands so
abbrev pub client_at : ClientPhase → Answering → ClientState
client_at phase it =
    record { plan = it.plan; phase = phase; session = it.session; keys = it.keys }

-- the servers that its requests are under way to: one at most, without keys
abbrev pub awaited_with : Option KeysState → Work → List ℕ
awaited_with None at = awaited_one (awaited_in at)
awaited_with (Some keys) at = awaited_servers keys

abbrev pub awaited_by_client : Answering → List ℕ
awaited_by_client it = awaited_with it.keys it.session.work

-- the request that a send of the session is out for
abbrev pub asked_for : Work → Option Request
asked_for work.Between = None
asked_for (work.Read one) = None
asked_for (work.Awaits it) = Some it.key.request
asked_for (work.Ended one) = None
asked_for work.HandedOver = None

-- the request that is to be sent
abbrev pub asked_with : Option KeysState → Work → Option Request
asked_with None at = asked_for at
asked_with (Some keys) at = asked_last keys

abbrev pub asked_by : Answering → Option Request
asked_by it = asked_with it.keys it.session.work

-- the first request that is under way to a server
abbrev pub waited_with : Option KeysState → Work → ℕ → Option Request
waited_with None at server = asked_for at
waited_with (Some keys) at server = asked_first server keys

abbrev pub waited_by : Answering → ℕ → Option Request
waited_by it server = waited_with it.keys it.session.work server

-- the first request that is under way to a server may go on: each of its keys has another target,
-- or without keys, that of the session has, over its targets
abbrev pub has_next_over : Option KeysState → Work → List ℕ → ℕ → Bool
has_next_over None at targets server = has_next_in at targets
has_next_over (Some keys) at targets server = has_next_first server keys

abbrev pub has_next_by : Answering → ℕ → Bool
has_next_by it server = has_next_over it.keys it.session.work it.session.targets server

-- how many bytes of replies are held, of those that may be written and of the one under way; the
-- number stays at 2^64 - 1
abbrev pub held_with : Option KeysState → ℕ → ℕ
held_with None count = count
held_with (Some keys) count = capped (count + bytes_held_in keys.slots)

abbrev pub held_by_client : Answering → ℕ
held_by_client it = held_with it.keys (length it.session.outbox)

-- fewer bytes of replies may be written than are to be written before more input is taken
abbrev pub HasFewReplies : Answering → Type 0
HasFewReplies it = length (outgoing it.session) < reply_bound

-- the session answers its requests itself
abbrev pub IsOwn : Work → Type 0
IsOwn work.Between = Unit {0}
IsOwn (work.Read one) = Unit {0}
IsOwn (work.Awaits it) = Unit {0}
IsOwn (work.Ended one) = Unit {0}
IsOwn work.HandedOver = ⊥

-- the keys of a request can be called, and each that something came for was taken on
pub record AreSettled (config : Configuration) (keys : KeysState) : Type 0 where
  pub under_way : AreUnderWay config keys
  pub settled : keys.came.places ≡ []

-- such keys are there, and their session handed the request over; or there are none
abbrev pub AreKeysReady : Configuration → Option KeysState → Work → Type 0
AreKeysReady config None at = IsOwn at
AreKeysReady config (Some keys) at = (at ≡ work.HandedOver) × AreSettled config keys

pub record IsAnsweringReady (config : Configuration) (it : Answering) : Type 0 where
  pub session : IsSessionReady config it.session
  pub keys : AreKeysReady config it.keys it.session.work

-- the keys of a request can take what comes of the first request for keys that is under way to this
-- server: there is one
pub record AreReadyForOutcome (config : Configuration) (server : ℕ) (keys : KeysState) : Type 0
  where
    pub ready : AreSettled config keys
    pub awaits : IsSome (first_send server keys.sends)

-- the session is at no send, and no request was handed over
abbrev pub IsIdleWith : Option KeysState → Work → Type 0
IsIdleWith None at = MayGoOn at
IsIdleWith (Some keys) at = ⊥

abbrev pub IsClientIdle : Answering → Type 0
IsClientIdle it = IsIdleWith it.keys it.session.work

-- it can be called: as above, or for the keys of a request that was handed over
abbrev pub MayCallWith : Option KeysState → Work → Type 0
MayCallWith None at = MayGoOn at
MayCallWith (Some keys) at = Unit {0}

abbrev pub MayCallClient : Answering → Type 0
MayCallClient it = MayCallWith it.keys it.session.work
