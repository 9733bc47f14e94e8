-- Laws of how an answer begins: what the proxy answers itself, and the first key.
use Rattle.std.proofs.Common.{◌≡◌, ℕ, Bool, true, false, List, [], ◌∷◌, ◌++◌, append-nil, length}
use Rattle.std.proofs.Common.{refl, sym, ap, subst, ◌∙◌, arith}
use Rattle.std.specs.Prelude.{◌<◌}
use Rattle.tko_model.specs.Records.{HealthItem}
use Rattle.tko_model.proofs.RecordLemmas.{gains_none}
use Rattle.tko_text.specs.declared.request.Request.{Request}
use Rattle.tko_text.specs.declared.request.Request.TheVariants.{Get, Gets, Store, Cas, Delete, Incr}
use Rattle.tko_text.specs.declared.request.Request.TheVariants.{Decr, Touch, Version, Quit}
use Rattle.tko_text.specs.declared.request.Request.TheVariants.{StatsTko}
use Rattle.tko_pools.specs.Configs.{Configuration}
use Rattle.tko_route.specs.Routing.{GoesOn}
use Rattle.tko_reply.specs.Answering.{IsSplit, retrieval}
use Rattle.tko_reply.specs.Answers.{AnswersItself, IsKeyed, request_keys}
use Rattle.tko_reply.specs.Asking.{BeginsAnswer, IsFirst, by_key, itself, of_several}
use Rattle.tko_reply.specs.Cuts.{IsBeginCut, LooksSome, in_status}
use Rattle.tko_reply.specs.Replies.{version_text}
use Rattle.tko_reply.specs.Status.{IsStatusAfter, looks_from}
use Rattle.tko_reply.specs.declared.asking.OneKey.{OneKey}
use Rattle.tko_reply.specs.declared.asking.ReplyPart.TheVariants as share

-- a request that the proxy does not answer itself
pub is_keyed : (request : Request) → (request ≡ Version → ⊥) → (request ≡ Quit → ⊥)
    → (request ≡ StatsTko → ⊥) → IsKeyed request
is_keyed (Get keys) version quit status = tt
is_keyed (Gets keys) version quit status = tt
is_keyed (Store verb entry noreply) version quit status = tt
is_keyed (Cas entry unique noreply) version quit status = tt
is_keyed (Delete key noreply) version quit status = tt
is_keyed (Incr key amount noreply) version quit status = tt
is_keyed (Decr key amount noreply) version quit status = tt
is_keyed (Touch key expiry noreply) version quit status = tt
is_keyed Version version quit status = absurd (version refl)
is_keyed Quit version quit status = absurd (quit refl)
is_keyed StatsTko version quit status = absurd (status refl)

-- has one key, where it is not for values
pub other_some : (request : Request) → ((keys : List (List ℕ)) → request ≡ Get keys → ⊥)
    → ((keys : List (List ℕ)) → request ≡ Gets keys → ⊥) → IsKeyed request
    → 0 < length (request_keys request)
other_some (Get keys) get gets keyed = absurd (get keys refl)
other_some (Gets keys) get gets keyed = absurd (gets keys refl)
other_some (Store verb entry noreply) get gets keyed = omega arith
other_some (Cas entry unique noreply) get gets keyed = omega arith
other_some (Delete key noreply) get gets keyed = omega arith
other_some (Incr key amount noreply) get gets keyed = omega arith
other_some (Decr key amount noreply) get gets keyed = omega arith
other_some (Touch key expiry noreply) get gets keyed = omega arith
other_some Version get gets keyed = absurd keyed
other_some Quit get gets keyed = absurd keyed
other_some StatsTko get gets keyed = absurd keyed

-- one of several keys at most is asked for where there are no others
pub none_or_several : (request : Request) → ((keys : List (List ℕ)) → request ≡ Get keys → ⊥)
    → ((keys : List (List ℕ)) → request ≡ Gets keys → ⊥)
    → 1 < length (request_keys request) → ⊥
none_or_several (Get keys) get gets several = get keys refl
none_or_several (Gets keys) get gets several = gets keys refl
none_or_several (Store verb entry noreply) get gets several = absurd (omega (arith, several))
none_or_several (Cas entry unique noreply) get gets several = absurd (omega (arith, several))
none_or_several (Delete key noreply) get gets several = absurd (omega (arith, several))
none_or_several (Incr key amount noreply) get gets several = absurd (omega (arith, several))
none_or_several (Decr key amount noreply) get gets several = absurd (omega (arith, several))
none_or_several (Touch key expiry noreply) get gets several = absurd (omega (arith, several))
none_or_several Version get gets several = absurd (omega (arith, several))
none_or_several Quit get gets several = absurd (omega (arith, several))
none_or_several StatsTko get gets several = absurd (omega (arith, several))

-- of several keys the first is left alone
first_alone : (first rest : List (List ℕ)) → length first ≡ 1
    → (key : List ℕ) × (first ≡ key ∷ []) × (first ++ rest ≡ key ∷ rest)
first_alone [] rest one = absurd (omega (arith, one))
first_alone (key ∷ []) rest one = (key, refl, refl)
first_alone (key ∷ (other ∷ more)) rest one = absurd (omega (arith, one))

pub split_parts : (unique : Bool) (old new : Request) (keys first rest left : List (List ℕ))
    → old ≡ retrieval keys unique → new ≡ retrieval first unique
    → keys ≡ first ++ rest → length first ≡ 1 → left ≡ rest → IsSplit old new left
split_parts unique old new keys first rest left was is parts one same =
    let alone = first_alone first rest one in record {
      key = alone.0;
      unique = unique;
      whole = was ∙ ap (λ ks. retrieval ks unique)
          (parts ∙ alone.2 ∙ ap (λ ks. alone.0 ∷ ks) (sym same));
      first = is ∙ ap (λ ks. retrieval ks unique) alone.1;
    }

pub first_several : (request : Request) (waiting : ℕ) (first : Request) (left : List (List ℕ))
    → IsSplit request first left
    → IsFirst request waiting (record { request = first; share = share.Joined waiting left })
first_several request waiting first left split =
    of_several split.key left split.unique split.whole
    (ap (λ (r : Request). record { request = r; share = share.Joined waiting left }) split.first)

module _ {H : Type 0} {steps : H → HealthItem → H → Type 0} {config : Configuration}
    {outbox outbox' : List ℕ} {one : OneKey} {request : Request} where
  pub begins_version : (health : H) → request ≡ Version → outbox' ≡ outbox ++ version_text
      → GoesOn steps health (λ calls. BeginsAnswer config request outbox calls false one outbox')
      health
  begins_version health is more = record {
    items = [];
    gains = gains_none health;
    is = itself version_text [] refl
        (subst (λ (r : Request). AnswersItself config.addresses r version_text []) (sym is)
        (refl, refl)) refl more;
  }

  pub begins_status : {health health' : H} → request ≡ StatsTko
      → IsStatusAfter steps config.addresses (health, outbox) (health', outbox')
      → GoesOn steps health (λ calls. BeginsAnswer config request outbox calls false one outbox')
      health'
  begins_status is after = record {
    items = after.status.looks;
    gains = after.status.gains;
    is = itself after.text after.status.looks refl
        (subst (λ (r : Request). AnswersItself config.addresses r after.text after.status.looks)
        (sym is) after.status.is) refl after.appended;
  }

module _ {H : Type 0} {steps : H → HealthItem → H → Type 0} {config : Configuration}
    {outbox : List ℕ} {one : OneKey} {request : Request} where
  pub begins_quit : (health : H) → request ≡ Quit
      → GoesOn steps health (λ calls. BeginsAnswer config request outbox calls false one outbox)
      health
  begins_quit health is = record {
    items = [];
    gains = gains_none health;
    is = itself [] [] refl (subst (λ (r : Request). AnswersItself config.addresses r [] []) (sym is)
        (refl, refl)) refl (sym (append-nil outbox));
  }

  -- a request begins with its first key
  pub begins_keyed : {waiting : ℕ} (health : H) → waiting ≡ length outbox
      → IsFirst request waiting one
      → GoesOn steps health (λ calls. BeginsAnswer config request outbox calls true one outbox)
      health
  begins_keyed health len first = record {
    items = [];
    gains = gains_none health;
    is = by_key refl (subst (λ n. IsFirst request n one) len first) refl refl;
  }

module _ {H : Type 0} {steps : H → HealthItem → H → Type 0} {config : Configuration}
    {request : Request} where
  pub cut_status : {health health' : H} → request ≡ StatsTko
      → LooksSome steps config.addresses health health'
      → GoesOn steps health (λ calls. IsBeginCut config request calls) health'
  cut_status is some = record {
    items = looks_from 0 some.servers;
    gains = some.looks;
    is = in_status some.servers some.unlooked is some.parts refl;
  }
