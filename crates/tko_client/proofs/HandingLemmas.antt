-- How a request that was handed over ends.
use Rattle.std.proofs.Common.{◌≡◌, false, Option, Some, None, refl, ap, ◌∙◌}
use Rattle.tko_keys.specs.KeysState.{KeysState, reply_in}
use Rattle.tko_session.specs.Driven.{dropped}
use Rattle.tko_session.specs.Handing.{replied_by}
use Rattle.tko_session.specs.SessionState.{SessionState}
use Rattle.tko_client.specs.declared.answering.Answering.{Answering}
use Rattle.tko_client.specs.declared.calls.Went.TheVariants.{On, Short}
use Rattle.tko_client.specs.Handings.{HasEndedKeys, lost, replied}

-- the session and the keys are these
answering_is : (old : Answering) (one other : SessionState) (keys with : Option KeysState)
    → one ≡ other → keys ≡ with
    → record old { session = one; keys = keys } ≡ record old { session = other; keys = with }
answering_is old one other keys with is are =
    ap (λ s. record old { session = s; keys = keys }) is
    ∙ ap (λ k. record old { session = other; keys = k }) are

-- its reply was taken
pub ended_reply : (old : Answering) (got : KeysState) (session : SessionState)
    (keys : Option KeysState) → old.keys ≡ Some got → got.lost ≡ false
    → session ≡ replied_by (reply_in got.slots) old.session → keys ≡ None
    → HasEndedKeys On old (record old { session = session; keys = keys })
ended_reply old got session keys are kept is none =
    replied got are kept (answering_is old session _ keys None is none) refl

-- it was dropped
pub ended_short : (old : Answering) (got : KeysState) (session : SessionState)
    (keys : Option KeysState) → old.keys ≡ Some got → session ≡ dropped old.session → keys ≡ None
    → HasEndedKeys Short old (record old { session = session; keys = keys })
ended_short old got session keys are is none =
    lost got are (answering_is old session _ keys None is none) refl
