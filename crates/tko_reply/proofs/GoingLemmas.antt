-- Laws of the calls of an answer: what a routing gives them.
use Rattle.std.proofs.Common.{◌≡◌, ℕ, Bool, List, [], ◌∷◌, ◌++◌, length, map, Option, Ok, refl, sym}
use Rattle.std.proofs.Common.{ap, subst, ◌∙◌, Err, Result}
use Rattle.std.specs.Prelude.{IfErr, OnErr}
use Rattle.tko_model.specs.Records.{HealthItem}
use Rattle.tko_text.specs.SentRequests.{without_noreply}
use Rattle.tko_text.specs.declared.request.Request.{Request}
use Rattle.tko_text.specs.declared.response.Response.{Response}
use Rattle.tko_links.specs.declared.links.Outcome.{Outcome}
use Rattle.tko_pools.specs.Configs.{Configuration}
use Rattle.tko_route.specs.Calls.{RoutedCall, Told, came}
use Rattle.tko_route.specs.Routing.{FindsUp, GoesOn, Reached, came_of, last_place}
use Rattle.tko_route.specs.Trail.{answer_of, form_at}
use Rattle.tko_route.specs.declared.attempt.Attempt.{Attempt}
use Rattle.tko_route.specs.declared.routing.Stage.{Stage}
use Rattle.tko_route.specs.declared.routing.Stage.TheVariants as stage
use Rattle.tko_reply.specs.Answering.{Extends}
use Rattle.tko_reply.specs.Asking.{ContinuesKeys, Goes, GoesTo, Replies, Settles, course_of}
use Rattle.tko_reply.specs.Asking.{front_of}
use Rattle.tko_reply.specs.Cuts.{EndsBy, IsEndOf, IsKeyDropped, KeyLost, tried, untried}
use Rattle.tko_reply.specs.Sends.{AfterSend}
use Rattle.tko_reply.specs.Standing.{SentKey}
use Rattle.tko_reply.specs.declared.asking.OneKey.{OneKey}
use Rattle.tko_reply.specs.declared.asking.ReplyPart.{ReplyPart}
use Rattle.tko_reply.specs.declared.asking.ReplyPart.TheVariants as share
use Rattle.tko_reply.proofs.OutboxLemmas.{extends_front, extends_same}

-- the replies that stay are there
pub front_same : (kind : ReplyPart) (outbox : List ℕ) → Extends (front_of kind outbox) outbox
front_same (share.Whole silent) outbox = extends_same outbox
front_same (share.Joined begin left) outbox = extends_front begin outbox

-- the response to a key went into the reply
pub ended_at : (to : Stage) (one one' : OneKey) (outbox outbox' : List ℕ) {found : Option Response}
    (trail : List Attempt) → to ≡ stage.Done trail
    → one'.request ≡ one.request → found ≡ answer_of trail
    → Replies one.share found outbox one'.share outbox' → Settles to one outbox one' outbox'
ended_at to one one' outbox outbox' {found} trail is request same replies =
    subst (λ s. Settles s one outbox one' outbox') (sym is)
    (request, subst (λ f. Replies one.share f outbox one'.share outbox') same replies)

-- one of several keys, with the share that it has
pub continues_at : {request request' : Request} {kind : ReplyPart} {begin : ℕ}
    {left left' : List (List ℕ)} {outbox outbox' : List ℕ} {keyed : Bool}
    → kind ≡ share.Joined begin left
    → ((n : ℕ) → ContinuesKeys
    (record { request = request; share = share.Joined n left }) outbox keyed
    (record { request = request'; share = share.Joined n left' }) outbox')
    → ContinuesKeys (record { request = request; share = kind }) outbox keyed
    (record { request = request'; share = share.Joined begin left' }) outbox'
continues_at {request} {request'} {kind} {begin} {left} {left'} {outbox} {outbox'} {keyed} is on =
    subst (λ k. ContinuesKeys (record { request = request; share = k }) outbox keyed
    (record { request = request'; share = share.Joined begin left' }) outbox') (sym is)
    (on begin)

-- the form of a request after an outcome was recorded
form_then : (to : Stage) (original request request' : Request) (place exptime exptime' : ℕ)
    → exptime' ≡ exptime
    → request ≡ form_at exptime original place
    → ((r : Request) → request ≡ form_at exptime' r place
    → request' ≡ form_at exptime' r (last_place to))
    → request' ≡ form_at exptime original (last_place to)
form_then to original request request' place exptime exptime' same is then =
    subst (λ e. request' ≡ form_at e original (last_place to)) same
    (then original (is ∙ ap (λ e. form_at e original place) (sym same)))

-- a routing that ended, by the trail that it ended with
ends_by : {targets : List ℕ} {form : ℕ → Request} {calls : List RoutedCall} (to : Stage)
    (trail : List Attempt)
    → Reached targets form calls to → IsEndOf to trail → EndsBy targets form calls trail
ends_by (stage.Away clear awaited) trail reached is = absurd is
ends_by {targets} {form} {calls} (stage.Done all) trail reached is =
    subst (EndsBy targets form calls) (sym is) (record { tried = reached.0; make = reached.1 })

module _ {H : Type 0} {steps : H → HealthItem → H → Type 0} {old new : H} where
  -- a key was begun
  pub begin_goes : {outbox outbox' : List ℕ} {at : Stage} {one : OneKey} (to : Stage)
      (targets : List ℕ) (kind : ReplyPart)
      (request : Request) (form : ℕ → Request) → request ≡ form (last_place to)
      → GoesOn steps old (λ calls. (f : ℕ → Request) → Reached targets f calls to) new
      → at ≡ to → Settles to (record { request = request; share = kind }) outbox one outbox'
      → GoesOn steps old (λ calls. Goes
      (record { targets = targets; form = form; share = kind }) calls outbox at one outbox') new
  begin_goes {outbox} {outbox'} {at} {one} to targets kind request form is on same settles =
      subst (λ s. GoesOn steps old
      (λ calls. Goes (record { targets = targets; form = form; share = kind }) calls outbox s
      one outbox') new) (sym same) (record {
        items = on.items;
        gains = on.gains;
        is = record {
          reached = on.is form;
          settles = subst (λ r. Settles to
              (record { request = r; share = kind }) outbox one outbox') is settles;
        };
      })

  -- memory ran out there
  pub begin_lost : {config : Configuration} {request : Request} (to : Stage) (targets : List ℕ)
      (trail : List Attempt)
      → GoesTo config request targets
      → GoesOn steps old (λ calls. (f : ℕ → Request) → Reached targets f calls to) new
      → IsEndOf to trail
      → GoesOn steps old (λ calls. KeyLost config request calls trail) new
  begin_lost {config} {request} to targets trail aims on is =
      let form = form_at config.failover_exptime (without_noreply request) in record {
        items = on.items;
        gains = on.gains;
        is = tried (λ key keys. subst (λ ts. EndsBy ts form (map Told on.items) trail)
            (aims key keys) (ends_by to trail (on.is form) is));
      }

  -- what came of a send was recorded by these calls, before those that are its own
  pub answered_goes : {outbox outbox' : List ℕ} {at : Stage} {one : OneKey} (config : Configuration)
      (to : Stage) (it : SentKey) (targets : List ℕ)
      (got : Outcome) (told : List RoutedCall) (exptime' : ℕ) (request' : Request)
      → exptime' ≡ config.failover_exptime
      → ((r : Request) → it.key.request ≡ form_at exptime' r (length it.awaited.attempts)
      → request' ≡ form_at exptime' r (last_place to))
      → GoesOn steps old (λ more. (form : ℕ → Request) (calls : List RoutedCall)
      → FindsUp form calls it.awaited.attempts it.awaited.server
      → Reached targets form (calls ++ came_of form it.awaited got ∷ (told ++ more)) to) new
      → at ≡ to → Settles to (record { request = request'; share = it.key.share }) outbox one
      outbox'
      → GoesOn steps old (λ more. AfterSend config it got
      (λ original calls. Goes (course_of config targets it.key original)
      (calls (told ++ more)) outbox at one outbox')) new
  answered_goes {outbox} {outbox'} {at} {one} config to it targets got told exptime' request' alike
      then on same settles =
      subst (λ s. GoesOn steps old
      (λ more. AfterSend config it got
      (λ original calls. Goes (course_of config targets it.key original)
      (calls (told ++ more)) outbox s one outbox')) new) (sym same) (record {
        items = on.items;
        gains = on.gains;
        is = λ original calls is up. record {
          reached =
              subst (λ r. Reached targets (form_at config.failover_exptime original)
              (calls ++ came it.awaited.server r (Ok got) ∷ (told ++ map Told on.items)) to)
              (sym is)
              (on.is (form_at config.failover_exptime original) calls up);
          settles =
              subst (λ r. Settles to (record { request = r; share = it.key.share }) outbox one
              outbox')
              (form_then to original it.key.request request'
              (length it.awaited.attempts) config.failover_exptime exptime' alike is then)
              settles;
        };
      })

  -- memory ran out there
  pub answered_lost : (config : Configuration) (to : Stage) (it : SentKey) (targets : List ℕ)
      (got : Outcome) (told : List RoutedCall) (trail : List Attempt)
      → GoesOn steps old (λ more. (form : ℕ → Request) (calls : List RoutedCall)
      → FindsUp form calls it.awaited.attempts it.awaited.server
      → Reached targets form (calls ++ came_of form it.awaited got ∷ (told ++ more)) to) new
      → IsEndOf to trail
      → GoesOn steps old (λ more. AfterSend config it got
      (λ original calls. EndsBy targets (form_at config.failover_exptime original)
      (calls (told ++ more)) trail)) new
  answered_lost config to it targets got told trail on is = record {
    items = on.items;
    gains = on.gains;
    is = λ original calls same up.
        ends_by to trail
        (subst (λ r. Reached targets (form_at config.failover_exptime original)
        (calls ++ came it.awaited.server r (Ok got) ∷ (told ++ map Told on.items)) to)
        (sym same)
        (on.is (form_at config.failover_exptime original) calls up)) is;
  }

module _ {H : Type 0} {steps : H → HealthItem → H → Type 0} {old new : H} where
  -- a key was dropped where its response had no room
  pub key_dropped : {T : Type 0} {P : List Attempt → Type 0}
      {Q : List Attempt → List RoutedCall → Type 0} (share : ReplyPart) (outbox outbox' : List ℕ)
      (r : Result T (List Attempt)) → OnErr r (Extends (front_of share outbox) outbox')
      → IfErr r P → ((trail : List Attempt) → P trail → GoesOn steps old (Q trail) new)
      → IfErr r (λ trail. IsKeyDropped steps share (old, outbox) (Q trail) (new, outbox'))
  key_dropped share outbox outbox' (Ok x) extends ended on = tt
  key_dropped share outbox outbox' (Err trail) extends ended on =
      record { kept = extends; lost = on trail ended }

module _ {H : Type 0} {steps : H → HealthItem → H → Type 0} {config : Configuration}
    {request : Request} where
  pub lost_untried : {old new : H} {trail : List Attempt} → new ≡ old → trail ≡ []
      → GoesOn steps old (λ calls. KeyLost config request calls trail) new
  lost_untried same none =
      record { items = []; gains = record { leads = same }; is = untried refl none }
