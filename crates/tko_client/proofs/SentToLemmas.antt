-- The request that is under way to a server that a client awaits.
use Rattle.std.proofs.Common.{◌≡◌, ◌<◌, ℕ, Bool, List, [], ◌∷◌, All, length, Option, Some, None}
use Rattle.std.proofs.Common.{refl, sym, subst, arith}
use Rattle.std.specs.Prelude.{IsSome}
use Rattle.std.proofs.lemmas.List.Elements.{All-head}
use Rattle.tko_pools.specs.Configs.{Configuration}
use Rattle.tko_text.specs.declared.request.Request.{Request}
use Rattle.tko_reply.specs.Sends.{IsSent}
use Rattle.tko_reply.specs.Standing.{SentKey, asking}
use Rattle.tko_mux.specs.Awaits.{times_due}
use Rattle.tko_mux.proofs.AwaitsLemmas.{awaits_one}
use Rattle.tko_keys.specs.declared.plan.Grouping.{Grouping}
use Rattle.tko_keys.specs.KeysDriven.{AreUnderWay, IsDueAt, IsSentAt}
use Rattle.tko_keys.specs.KeysState.{KeySlot, KeysState, first_send}
use Rattle.tko_keys.specs.Lines.{IsSentBy}
use Rattle.tko_session.specs.Awaiting.{awaited_in}
use Rattle.tko_session.specs.Driven.{IsAwaiting}
use Rattle.tko_session.specs.Working.{Work}
use Rattle.tko_keys.specs.KeysDriven as driven
use Rattle.tko_session.specs.Working as work
use Rattle.tko_client.specs.declared.answering.Answering.{Answering}
use Rattle.tko_client.specs.Answerings.{IsAnsweringReady, awaited_by_client, awaited_with}
use Rattle.tko_client.proofs.AskLemmas.{awaits_first, first_server}
use Rattle.tko_client.proofs.KeysStandLemmas.{settled}
use Rattle.tko_client.proofs.CallLemmas.{out_at}
use Rattle.tko_client.proofs.UnderWayLemmas.{all_first, some_first}

-- the send that is out is to the server that is awaited
pub record IsSentTo (at : Work) (server : ℕ) : Type 0 where
  pub it : SentKey
  pub is : at ≡ work.Awaits it
  pub to : it.awaited.server ≡ server

sent_at : (at : Work) (server : ℕ) → awaited_in at ≡ Some server → IsSentTo at server
sent_at work.Between server is = absurd (let no : ⊥ = cc in no)
sent_at (work.Read one) server is = absurd (let no : ⊥ = cc in no)
sent_at (work.Awaits it) server is = record { it = it; is = refl; to = cc }
sent_at (work.Ended one) server is = absurd (let no : ⊥ = cc in no)
sent_at work.HandedOver server is = absurd (let no : ⊥ = cc in no)

pub sent_to : (it : Answering) (server : ℕ) → it.keys ≡ None
    → 0 < times_due (awaited_by_client it) server → IsSentTo it.session.work server
sent_to it server none some =
    sent_at it.session.work server
    (awaits_one (awaited_in it.session.work) server
    (subst (λ k. 0 < times_due (awaited_with k it.session.work) server) none some))

pub sent_awaits : (at : Work) (server : ℕ) → IsSentTo at server → IsAwaiting at
sent_awaits at server is = subst IsAwaiting (sym is.is) tt

pub keys_awaits : (it : Answering) (keys : KeysState) (server : ℕ) → it.keys ≡ Some keys
    → 0 < times_due (awaited_by_client it) server → IsSome (first_send server keys.sends)
keys_awaits it keys server are some =
    awaits_first server keys.sends
    (subst (λ k. 0 < times_due (awaited_with k it.session.work) server) are some)

-- the first request at a server is one to a target of its keys
record IsFirstSent (config : Configuration) (server : ℕ) : Type 0 where
  targets : List ℕ
  it : SentKey
  sent : IsSent config targets it
  to : it.awaited.server ≡ server

-- a key of it
one_sent : (config : Configuration) (slots : List KeySlot) (to : ℕ) (places : List ℕ)
    (unique : Bool) (grouping : Grouping) (line : Option Request)
    → All (λ place. IsDueAt config slots (driven.due place to)) places
    → IsSentBy grouping unique slots places line → IsFirstSent config to
one_sent config slots to [] unique grouping None each one = absurd (omega (arith, one))
one_sent config slots to [] unique grouping (Some line) each (groups, some, is) = absurd (some refl)
one_sent config slots to (place ∷ places) unique grouping line each by =
    let is = All-head (λ (it : ℕ). IsDueAt config slots (driven.due it to)) place places each in
    record {
      targets = is.slot.targets;
      it = asking is.awaited is.slot.key;
      sent = is.is.sent;
      to = is.server;
    }

first_to : (config : Configuration) (keys : KeysState) (server : ℕ) → AreUnderWay config keys
    → IsSome (first_send server keys.sends) → IsFirstSent config server
first_to config keys server ready some =
    let found = some_first (first_send server keys.sends) some in
    let sent = all_first (IsSentAt config keys.plan.grouping keys.unique keys.slots) server
    keys.sends found.0 ready.sent found.1 in
    subst (IsFirstSent config) (first_server server keys.sends found.0 found.1)
    (one_sent config keys.slots found.0.server found.0.places keys.unique keys.plan.grouping
    found.0.line sent.each sent.by)

-- a server that is awaited is one
sent_within : (config : Configuration) (targets : List ℕ) (it : SentKey) → IsSent config targets it
    → it.awaited.server < length config.addresses
sent_within config targets it sent =
    subst (λ n. n < length config.addresses) (sym sent.out.awaits.server)
    (sent.out.within (length it.awaited.attempts) 0 sent.out.awaits.tried.shorter)

pub awaited_within : (config : Configuration) (it : Answering) (server : ℕ)
    → IsAnsweringReady config it → 0 < times_due (awaited_by_client it) server
    → server < length config.addresses
awaited_within config it server ready some = by it.keys refl
  where
    by : (keys : Option KeysState) → it.keys ≡ keys → server < length config.addresses
    by None none =
        let sent = sent_to it server none some in
        subst (λ n. n < length config.addresses) sent.to
        (sent_within config it.session.targets sent.it
        (out_at config it.session sent.it sent.is ready.session))
    by (Some keys) are =
        let found = first_to config keys server (settled ready are).under_way
        (keys_awaits it keys server are some) in
        subst (λ n. n < length config.addresses) found.to
        (sent_within config found.targets found.it found.sent)
