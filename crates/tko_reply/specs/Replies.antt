-- The texts that a client gets for its requests.
use Rattle.std.specs.Prelude.{◌≡◌, ◌<◌, ℕ, List, [], ◌∷◌, ◌++◌, codes, length, map, flat_map, All}
use Rattle.std.specs.Prelude.{Option, Some, None, IsSome, sum_by, unwrap_or, if◌then◌else◌}
use Rattle.tko_text.specs.declared.request.Request.{Request}
use Rattle.tko_text.specs.declared.response.Response.{Response}
use Rattle.tko_text.specs.declared.response.Response.TheVariants.{Values}
use Rattle.tko_text.specs.Responses.{response_text, value_text}
use Rattle.tko_text.specs.SentRequests.{asks_no_reply}
use Rattle.tko_route.specs.declared.attempt.Attempt.{Attempt}
use Rattle.tko_route.specs.Trail.{answer_of, sends_in}

abbrev pub version_text : List ℕ
version_text = codes "VERSION tkoproxy 1\r\n"

abbrev pub no_server : List ℕ
no_server = codes "SERVER_ERROR no server\r\n"

-- the line that ends a list of values
abbrev pub end_line : List ℕ
end_line = codes "END\r\n"

abbrev pub text_of_answer : Option Response → List ℕ
text_of_answer (Some response) = response_text response
text_of_answer None = no_server

-- the reply after a trail: the response of its last attempt, or that no server answered
abbrev pub trail_reply_text : List Attempt → List ℕ
trail_reply_text trail = text_of_answer (answer_of trail)

-- the text of the values in a response that is a list of values
abbrev pub values_text_in : Option Response → Option (List ℕ)
values_text_in (Some (Values None)) = Some []
values_text_in (Some (Values (Some found))) = Some (value_text found)
values_text_in _ = None

-- a key that was routed, and its trail
pub record RoutedKey : Type 0 where
  pub key : List ℕ
  pub trail : List Attempt

abbrev pub routed_key : List ℕ → List Attempt → RoutedKey
routed_key key trail = record { key = key; trail = trail }

abbrev pub keys_in : List RoutedKey → List (List ℕ)
keys_in routed = map (λ one. one.key) routed

abbrev pub trails_in : List RoutedKey → List (List Attempt)
trails_in routed = map (λ one. one.trail) routed

-- how often these trails sent to a server
abbrev pub sends_to : ℕ → List (List Attempt) → ℕ
sends_to server trails = sum_by (sends_in server) trails

-- the response to a key is a list of values
abbrev pub HasValues : RoutedKey → Type 0
HasValues one = IsSome (values_text_in (answer_of one.trail))

-- the values of these keys, one after another
abbrev pub joined_values : List RoutedKey → List ℕ
joined_values routed = flat_map (λ one. unwrap_or (values_text_in (answer_of one.trail)) []) routed

-- The reply to a request for these keys, of which these were routed, in order: all values and then
-- `END`; or the whole reply to the first key whose response is no list of values. Fewer than `most`
-- keys behind that one were routed: where at most so many are under way at once, they may have been
-- begun before its response came.
pub data IsReply (most : ℕ) (keys : List (List ℕ)) (routed : List RoutedKey) (reply : List ℕ)
    : Type 0 where
  all_values : keys ≡ keys_in routed → All HasValues routed
      → reply ≡ joined_values routed ++ end_line → IsReply most keys routed reply
  first_other : (before : List RoutedKey) (last : RoutedKey) (ahead : List RoutedKey)
      (unrouted : List (List ℕ)) → routed ≡ before ++ last ∷ ahead → length ahead < most
      → keys ≡ keys_in routed ++ unrouted → All HasValues before → ¬ (HasValues last)
      → reply ≡ trail_reply_text last.trail → IsReply most keys routed reply

-- the same where one key is routed after another: none is behind the first whose response is no
-- list of values
pub data IsReplyInTurn (keys : List (List ℕ)) (routed : List RoutedKey) (reply : List ℕ)
    : Type 0 where
  only_values : keys ≡ keys_in routed → All HasValues routed
      → reply ≡ joined_values routed ++ end_line → IsReplyInTurn keys routed reply
  last_other : (before : List RoutedKey) (last : RoutedKey) (unrouted : List (List ℕ))
      → routed ≡ before ++ last ∷ [] → keys ≡ keys_in routed ++ unrouted
      → All HasValues before → ¬ (HasValues last) → reply ≡ trail_reply_text last.trail
      → IsReplyInTurn keys routed reply

-- what the client gets of a reply: nothing where it asked for none
abbrev pub reply_written : Request → List ℕ → List ℕ
reply_written request reply = if asks_no_reply request then [] else reply

-- the number of bytes of replies that is enough to be written
abbrev pub reply_bound : ℕ
reply_bound = 65536
