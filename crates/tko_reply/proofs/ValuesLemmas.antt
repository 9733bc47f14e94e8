-- Laws of the values of several keys: one key more, one without values, and the whole reply.
use Rattle.std.proofs.Common.{◌≡◌, ℕ, ◌<◌, Bool, List, [], ◌∷◌, ◌++◌, length, take, refl, sym, ap}
use Rattle.std.proofs.Common.{subst, ◌∙◌, append_assoc, append-nil, arith}
use Rattle.std.specs.Prelude.{unwrap_or}
use Rattle.std.proofs.lemmas.List.{map-append, take_at}
use Rattle.std.proofs.lemmas.List.Elements.{All-append, All-cons, All-nil}
use Rattle.tko_pools.specs.Configs.{Configuration}
use Rattle.tko_route.specs.Trail.{answer_of}
use Rattle.tko_route.specs.declared.attempt.Attempt.{Attempt}
use Rattle.tko_reply.specs.Answering.{retrieval}
use Rattle.tko_reply.specs.Answers.{IsKeyRouted, request_keys}
use Rattle.tko_reply.specs.Answers as answers
use Rattle.tko_reply.specs.Interactions.{Interaction}
use Rattle.tko_reply.specs.Replies.{HasValues, RoutedKey, all_values, end_line, first_other}
use Rattle.tko_reply.specs.Replies.{joined_values, keys_in, routed_key, trail_reply_text}
use Rattle.tko_reply.specs.Replies.{values_text_in}
use Rattle.tko_reply.proofs.AnsweringLemmas.{joined-append, keys_push, retrieval_keys}
use Rattle.tko_reply.proofs.AnsweringLemmas.{retrieval_written}
use Rattle.tko_reply.proofs.StandsLemmas.{IsAnswered, JoinsOn}

module _ {config : Configuration} where
  -- the values of one of several keys were joined
  pub joins_more : {outbox outbox' outbox'' : List ℕ} {was : List Interaction} (all : List (List ℕ))
      (unique : Bool) (key : List ℕ) (rest : List (List ℕ)) (trail : List Attempt)
      (more : List Interaction)
      → JoinsOn config (retrieval all unique) all (key ∷ rest) outbox was outbox'
      → IsKeyRouted config (retrieval all unique) (routed_key key trail) more
      → HasValues (routed_key key trail)
      → outbox'' ≡ outbox' ++ unwrap_or (values_text_in (answer_of trail)) []
      → JoinsOn config (retrieval all unique) all rest outbox (was ++ more) outbox''
  joins_more {outbox} {outbox'} {outbox''} {was} all unique key rest trail more so_far is some
      then =
      let last : RoutedKey = routed_key key trail in
      record {
        routed = so_far.routed ++ last ∷ [];
        are =
            so_far.are ∙ sym (append_assoc (keys_in so_far.routed) (key ∷ []) rest)
            ∙ ap (λ xs. xs ++ rest) (sym (map-append (λ it. it.key) so_far.routed (last ∷ [])));
        each = keys_push config (retrieval all unique) so_far.routed last was more so_far.each is;
        values = All-append HasValues so_far.routed (last ∷ []) so_far.values
            (All-cons HasValues last [] some (All-nil HasValues));
        appended =
            then ∙ ap (λ xs. outbox' ++ xs)
            (sym (append-nil (unwrap_or (values_text_in (answer_of trail)) [])))
            ∙ ap (λ xs. xs ++ joined_values (last ∷ [])) so_far.appended
            ∙ append_assoc outbox (joined_values so_far.routed) (joined_values (last ∷ []))
            ∙ ap (λ xs. outbox ++ xs) (sym (joined-append so_far.routed (last ∷ [])));
      }

  -- one of several keys got no list of values
  pub joins_cut : {outbox outbox' outbox'' : List ℕ} {was : List Interaction} (all : List (List ℕ))
      (unique : Bool) (key : List ℕ) (rest : List (List ℕ)) (trail : List Attempt)
      (more : List Interaction)
      → 0 < length all → JoinsOn config (retrieval all unique) all (key ∷ rest) outbox was outbox'
      → IsKeyRouted config (retrieval all unique) (routed_key key trail) more
      → ¬ HasValues (routed_key key trail)
      → outbox'' ≡ take (length outbox) outbox' ++ trail_reply_text trail
      → IsAnswered config (retrieval all unique) outbox (was ++ more) outbox''
  joins_cut {outbox} {outbox'} {outbox''} {was} all unique key rest trail more some so_far is none
      then =
      let last : RoutedKey = routed_key key trail in
      let are : all ≡ keys_in (so_far.routed ++ last ∷ []) ++ rest =
      so_far.are ∙ sym (append_assoc (keys_in so_far.routed) (key ∷ []) rest)
      ∙ ap (λ xs. xs ++ rest) (sym (map-append (λ it. it.key) so_far.routed (last ∷ []))) in
      record {
        routed = so_far.routed ++ last ∷ [];
        text = trail_reply_text trail;
        answers = answers.by_keys (record {
          some = subst (λ keys. 0 < length keys) (sym (retrieval_keys all unique)) some;
          each = keys_push config (retrieval all unique) so_far.routed last was more so_far.each is;
          reply = trail_reply_text trail;
          is_reply = first_other so_far.routed last [] rest refl (omega arith)
              (retrieval_keys all unique ∙ are) so_far.values none refl;
          is_written = sym (retrieval_written all unique (trail_reply_text trail));
        });
        appended =
            let front : take (length outbox) outbox' ≡ outbox =
            ap (take (length outbox)) so_far.appended
            ∙ take_at outbox (joined_values so_far.routed) (length outbox) refl in
            then ∙ ap (λ xs. xs ++ trail_reply_text trail) front;
      }

  -- all of several keys got lists of values
  pub joins_all : {outbox outbox' outbox'' : List ℕ} {was : List Interaction} (all : List (List ℕ))
      (unique : Bool)
      → 0 < length all → JoinsOn config (retrieval all unique) all [] outbox was outbox'
      → outbox'' ≡ outbox' ++ end_line
      → IsAnswered config (retrieval all unique) outbox was outbox''
  joins_all {outbox} {outbox'} {outbox''} {was} all unique some so_far end = record {
    routed = so_far.routed;
    text = joined_values so_far.routed ++ end_line;
    answers = answers.by_keys (record {
      some = subst (λ keys. 0 < length keys) (sym (retrieval_keys all unique)) some;
      each = so_far.each;
      reply = joined_values so_far.routed ++ end_line;
      is_reply =
          let are : request_keys (retrieval all unique) ≡ keys_in so_far.routed =
          retrieval_keys all unique ∙ so_far.are ∙ append-nil (keys_in so_far.routed) in
          all_values are so_far.values refl;
      is_written = sym (retrieval_written all unique (joined_values so_far.routed ++ end_line));
    });
    appended = end ∙ ap (λ xs. xs ++ end_line) so_far.appended
        ∙ append_assoc outbox (joined_values so_far.routed) end_line;
  }
