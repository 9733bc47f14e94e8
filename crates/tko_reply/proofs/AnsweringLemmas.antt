-- Keys that are routed one after another, and the reply that they make.
use Rattle.std.proofs.Common.{◌≡◌, ℕ, Bool, true, false, List, [], ◌∷◌, ◌++◌, length, map, Option}
use Rattle.std.proofs.Common.{Some, None, refl, sym, ap, subst, ◌∙◌, append_assoc, append-nil}
use Rattle.std.proofs.Common.{arith, inl, inr}
use Rattle.std.specs.Prelude.{◌⊎◌, unwrap_or, IsSome}
use Rattle.std.proofs.lemmas.Grind.{flat_map-append}
use Rattle.std.proofs.lemmas.List.Elements.{All-cons, All-nil}
use Rattle.tko_text.specs.declared.request.Request.{Request}
use Rattle.tko_text.specs.declared.request.Request.TheVariants.{Get, Gets, Store, Cas, Delete, Incr}
use Rattle.tko_text.specs.declared.request.Request.TheVariants.{Decr, Touch, Version, Quit}
use Rattle.tko_text.specs.declared.request.Request.TheVariants.{StatsTko}
use Rattle.tko_text.specs.declared.response.Response.{Response}
use Rattle.tko_text.specs.declared.response.Response.TheVariants as response
use Rattle.tko_text.specs.Responses.{response_text}
use Rattle.tko_pools.specs.Configs.{Configuration, targets_of}
use Rattle.tko_route.specs.Calls.{RoutedCall}
use Rattle.tko_route.specs.Trail.{IsTrail, MakesTrail, answer_of}
use Rattle.tko_route.specs.declared.attempt.Attempt.{Attempt}
use Rattle.tko_reply.specs.Answering.{retrieval}
use Rattle.tko_reply.specs.Answers.{AreKeysRouted, IsKeyRouted, form_in, request_for, request_keys}
use Rattle.tko_reply.specs.Interactions.{Interaction, Made, Recorded}
use Rattle.tko_reply.specs.Replies.{HasValues, IsReply, RoutedKey, all_values, end_line}
use Rattle.tko_reply.specs.Replies.{first_other, joined_values, reply_written, routed_key}
use Rattle.tko_reply.specs.Replies.{text_of_answer, trail_reply_text, values_text_in}
use Rattle.tko_reply.specs.TrailEvents.{Tried}

-- a request of one key is routed as it is
pub request_for_alone : (request : Request) (key : List ℕ) → request_keys request ≡ key ∷ []
    → request_for request key ≡ request
request_for_alone (Get keys) key is = ap Get (sym is)
request_for_alone (Gets keys) key is = ap Gets (sym is)
request_for_alone (Store verb entry noreply) key is = refl
request_for_alone (Cas entry unique noreply) key is = refl
request_for_alone (Delete it noreply) key is = refl
request_for_alone (Incr it amount noreply) key is = refl
request_for_alone (Decr it amount noreply) key is = refl
request_for_alone (Touch it expiry noreply) key is = refl
request_for_alone Version key is = refl
request_for_alone Quit key is = refl
request_for_alone StatsTko key is = refl

-- one of several keys is asked for alone
pub request_for_one : (keys : List (List ℕ)) (unique : Bool) (key : List ℕ)
    → retrieval (key ∷ []) unique ≡ request_for (retrieval keys unique) key
request_for_one keys true key = refl
request_for_one keys false key = refl

pub retrieval_keys : (keys : List (List ℕ)) (unique : Bool)
    → request_keys (retrieval keys unique) ≡ keys
retrieval_keys keys true = refl
retrieval_keys keys false = refl

pub retrieval_written : (keys : List (List ℕ)) (unique : Bool) (reply : List ℕ)
    → reply_written (retrieval keys unique) reply ≡ reply
retrieval_written keys true reply = refl
retrieval_written keys false reply = refl

pub joined-append : (routed more : List RoutedKey)
    → joined_values (routed ++ more) ≡ joined_values routed ++ joined_values more
joined-append routed more =
    flat_map-append (λ one. unwrap_or (values_text_in (answer_of one.trail)) []) routed more

-- a response is a list of values, which `END` follows, or it is none
values_or_not : (found : Option Response)
    → (IsSome (values_text_in found)
    × (text_of_answer found ≡ unwrap_or (values_text_in found) [] ++ end_line))
    ⊎ ¬ (IsSome (values_text_in found))
unfolding response_text
values_or_not None = inr (λ some. cc)
values_or_not (Some (response.Values None)) = inl (refl, refl)
values_or_not (Some (response.Values (Some found))) = inl (refl, refl)
values_or_not (Some (response.Listed values)) = inr (λ some. cc)
values_or_not (Some response.Stored) = inr (λ some. cc)
values_or_not (Some response.NotStored) = inr (λ some. cc)
values_or_not (Some response.Exists) = inr (λ some. cc)
values_or_not (Some response.Deleted) = inr (λ some. cc)
values_or_not (Some response.Touched) = inr (λ some. cc)
values_or_not (Some response.NotFound) = inr (λ some. cc)
values_or_not (Some (response.Number n)) = inr (λ some. cc)
values_or_not (Some (response.Version text)) = inr (λ some. cc)
values_or_not (Some response.Error) = inr (λ some. cc)
values_or_not (Some (response.ClientError text)) = inr (λ some. cc)
values_or_not (Some (response.ServerError text)) = inr (λ some. cc)

-- the reply to one key is that of its trail
pub one_reply : (key : List ℕ) (trail : List Attempt)
    → IsReply 1 (key ∷ []) (routed_key key trail ∷ []) (trail_reply_text trail)
one_reply key trail = elim (values_or_not (answer_of trail)) [
  | inl (some, text) ↦ all_values refl
      (All-cons HasValues (routed_key key trail) [] some (All-nil HasValues))
      (text ∙ ap (λ xs. xs ++ end_line)
      (sym (append-nil (unwrap_or (values_text_in (answer_of trail)) []))))
  | inr none ↦ first_other [] (routed_key key trail) [] [] refl (omega arith) refl
      (All-nil HasValues) none refl
]

-- one more key at the end
pub keys_push : (config : Configuration) (request : Request) (routed : List RoutedKey)
    (last : RoutedKey) (was more : List Interaction)
    → AreKeysRouted config request routed was → IsKeyRouted config request last more
    → AreKeysRouted config request (routed ++ last ∷ []) (was ++ more)
keys_push config request [] last was more none is =
    (more, [], is, refl, ap (λ ds. ds ++ more) none ∙ sym (append-nil more))
keys_push config request (one ∷ routed) last was more (first, rest, key, later, are) is = (
  first,
  rest ++ more,
  key,
  keys_push config request routed last rest more later is,
  ap (λ ds. ds ++ more) are ∙ append_assoc first rest more,
)

-- a key that these calls gave its trail was routed, by a request for it that is asked so
pub routed_by : {config : Configuration} {targets : List ℕ} {asked : Request} (request : Request)
    (key : List ℕ) (trail : List Attempt) (calls : List RoutedCall)
    → targets ≡ targets_of config key → IsTrail targets trail
    → MakesTrail (form_in config asked) calls trail → asked ≡ request_for request key
    → IsKeyRouted config request (routed_key key trail)
    (map Made calls ++ Recorded (Tried trail) ∷ [])
routed_by {config} request key trail calls aims tried make is = record {
  tried = subst (λ targets. IsTrail targets trail) aims tried;
  calls = calls;
  make = subst (λ (r : Request). MakesTrail (form_in config r) calls trail) is make;
  are = refl;
}

-- the one key of a request of one key
pub one_key : (keys : List (List ℕ)) → length keys ≡ 1 → (key : List ℕ) × (keys ≡ key ∷ [])
one_key [] is = absurd (omega (arith, is))
one_key (key ∷ []) is = (key, refl)
one_key (key ∷ other ∷ keys) is = absurd (omega (arith, is))
