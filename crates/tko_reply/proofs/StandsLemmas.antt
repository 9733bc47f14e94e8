-- How far the answer to a request came, over its own interactions so far.
use Rattle.std.proofs.Common.{◌≡◌, ℕ, ◌<◌, Bool, List, [], ◌∷◌, ◌++◌, All, length, map, refl, sym}
use Rattle.std.proofs.Common.{ap, ◌∙◌, append-nil, arith}
use Rattle.std.proofs.lemmas.List.Elements.{All-nil}
use Rattle.tko_text.specs.declared.request.Request.{Request}
use Rattle.tko_pools.specs.Configs.{Configuration, targets_of}
use Rattle.tko_route.specs.Calls.{RoutedCall}
use Rattle.tko_route.specs.Routing.{Reached}
use Rattle.tko_route.specs.Trail.{IsTrail, MakesTrail}
use Rattle.tko_route.specs.declared.attempt.Attempt.{Attempt}
use Rattle.tko_route.specs.declared.routing.Stage.{Stage}
use Rattle.tko_route.specs.declared.routing.Stage.TheVariants as stage
use Rattle.tko_reply.specs.Answering.{Extends, retrieval}
use Rattle.tko_reply.specs.Answers.{Answers, AreKeysRouted, form_in, request_keys}
use Rattle.tko_reply.specs.Asking as asked
use Rattle.tko_reply.specs.Interactions.{Interaction, Made, Recorded}
use Rattle.tko_reply.specs.Replies.{HasValues, RoutedKey, joined_values, keys_in}
use Rattle.tko_reply.specs.Standing.{SentKey, asking, whole_of}
use Rattle.tko_reply.specs.TrailEvents as event
use Rattle.tko_reply.specs.declared.asking.OneKey.{OneKey}
use Rattle.tko_reply.specs.declared.asking.ReplyPart.TheVariants as share
use Rattle.tko_reply.proofs.AnsweringLemmas.{one_key, retrieval_keys}

-- the request of one of several keys alone
abbrev pub only : List ℕ → Bool → Request
only key unique = retrieval (key ∷ []) unique

-- all these keys but those that are left were routed, and each got a list of values, which are at
-- the end of the outbox
pub record JoinsOn (config : Configuration) (request : Request) (all left : List (List ℕ))
    (outbox : List ℕ) (was : List Interaction) (outbox' : List ℕ) : Type 0 where
  pub routed : List RoutedKey
  pub are : all ≡ keys_in routed ++ left
  pub each : AreKeysRouted config request routed was
  pub values : All HasValues routed
  pub appended : outbox' ≡ outbox ++ joined_values routed

-- this key is the next one, after the values of those before it
pub data IsAt (config : Configuration) (request : Request) (outbox : List ℕ) (key : List ℕ)
    (one : OneKey) (was : List Interaction) (outbox' : List ℕ) : Type 0 where
  alone : one ≡ whole_of request → request_keys request ≡ key ∷ [] → was ≡ [] → outbox' ≡ outbox
      → IsAt config request outbox key one was outbox'
  among : (all left : List (List ℕ)) (unique : Bool) → request ≡ retrieval all unique
      → 0 < length all
      → one ≡ record {
        request = retrieval (key ∷ []) unique;
        share = share.Joined (length outbox) left;
      }
      → JoinsOn config (retrieval all unique) all (key ∷ left) outbox was outbox'
      → IsAt config request outbox key one was outbox'

-- a key's request may be sent
pub record IsSending (config : Configuration) (request : Request) (outbox : List ℕ) (clear : ℕ)
    (it : SentKey) (targets : List ℕ) (was : List Interaction) (outbox' : List ℕ) : Type 0 where
  pub key : List ℕ
  pub first : OneKey
  pub before : List Interaction
  pub calls : List RoutedCall
  pub at : IsAt config request outbox key first before outbox'
  pub aims : targets ≡ targets_of config key
  pub reached : Reached targets (form_in config first.request) calls (stage.Away clear it.awaited)
  pub keeps : it.key ≡ record {
    request = form_in config first.request (length it.awaited.attempts);
    share = first.share;
  }
  pub are : was ≡ before ++ map Made calls

-- it was answered, and its reply is at the end of the outbox
pub record IsAnswered (config : Configuration) (request : Request) (outbox : List ℕ)
    (was : List Interaction) (outbox' : List ℕ) : Type 0 where
  pub routed : List RoutedKey
  pub text : List ℕ
  pub answers : Answers config request routed text was
  pub appended : outbox' ≡ outbox ++ text

-- a key was routed and its trail recorded: the reply is complete; or it is one of several, and its
-- values follow those before
pub data IsPast (config : Configuration) (request : Request) (outbox : List ℕ) (one : OneKey)
    (was : List Interaction) (outbox' : List ℕ) : Type 0 where
  complete : (silent : Bool) → one.share ≡ share.Whole silent
      → IsAnswered config request outbox was outbox' → IsPast config request outbox one was outbox'
  values_joined : (all left : List (List ℕ)) (unique : Bool) (key : List ℕ)
      → request ≡ retrieval all unique → 0 < length all
      → one ≡ record { request = only key unique; share = share.Joined (length outbox) left }
      → JoinsOn config (retrieval all unique) all left outbox was outbox'
      → IsPast config request outbox one was outbox'

-- the attempts at a key ended and its response is in the outbox; its trail is still to be recorded
pub record IsTried (config : Configuration) (request : Request) (outbox : List ℕ)
    (trail : List Attempt) (one : OneKey) (was : List Interaction) (outbox' : List ℕ)
    : Type 0 where
  pub key : List ℕ
  pub first : OneKey
  pub before : List Interaction
  pub calls : List RoutedCall
  pub mid : List ℕ
  pub at : IsAt config request outbox key first before mid
  pub tried : IsTrail (targets_of config key) trail
  pub make : MakesTrail (form_in config first.request) calls trail
  pub are : was ≡ before ++ map Made calls
  pub past : IsPast config request outbox one (was ++ Recorded (event.Tried trail) ∷ []) outbox'

-- how far a key of it came
abbrev pub Stands : Configuration → Request → List ℕ → Stage → OneKey → List ℕ
    → List Interaction → List ℕ → Type 0
Stands config request outbox (stage.Away clear awaited) one targets was outbox' =
    IsSending config request outbox clear (asking awaited one) targets was outbox'
Stands config request outbox (stage.Done trail) one targets was outbox' =
    IsTried config request outbox trail one was outbox'

module _ {config : Configuration} {request : Request} {outbox outbox' : List ℕ}
    {was : List Interaction} where
  -- the request of a key has this key alone
  pub keyed : {key : List ℕ} {one : OneKey} → IsAt config request outbox key one was outbox'
      → request_keys one.request ≡ key ∷ []
  keyed (alone e keys none same) = ap (λ (o : OneKey). request_keys o.request) e ∙ keys
  keyed {key = key} (among all left unique is some e so_far) =
      ap (λ (o : OneKey). request_keys o.request) e ∙ retrieval_keys (key ∷ []) unique

  -- the replies from before the request are still there
  pub at_extends : {key : List ℕ} {one : OneKey} → IsAt config request outbox key one was outbox'
      → Extends outbox outbox'
  at_extends (alone e keys none same) = record { more = []; is = same ∙ sym (append-nil outbox) }
  at_extends (among all left unique is some e so_far) =
      record { more = joined_values so_far.routed; is = so_far.appended }

  pub past_extends : {one : OneKey} → IsPast config request outbox one was outbox'
      → Extends outbox outbox'
  past_extends (complete silent is done) = record { more = done.text; is = done.appended }
  past_extends (values_joined all left unique key is some e so_far) =
      record { more = joined_values so_far.routed; is = so_far.appended }

-- what a request begins with
pub is_first : (config : Configuration) (outbox : List ℕ) (request : Request) (one : OneKey)
    → asked.IsFirst request (length outbox) one
    → (key : List ℕ) × IsAt config request outbox key one [] outbox
is_first config outbox request one (asked.alone single e) =
    let found = one_key (request_keys request) single in
    (found.0, alone e found.1 refl refl)
is_first config outbox request one (asked.of_several key left unique is e) = (
  key,
  among (key ∷ left) left unique is (omega arith) e (record {
    routed = [];
    are = refl;
    each = refl;
    values = All-nil HasValues;
    appended = sym (append-nil outbox);
  }),
)
