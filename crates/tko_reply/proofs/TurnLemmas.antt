-- Where at most one key is under way, keys are routed one after another.
use Rattle.std.proofs.Common.{◌≡◌, ◌<◌, ℕ, List, [], ◌∷◌, ◌++◌, length, refl, subst, arith}
use Rattle.tko_reply.specs.Replies.{IsReply, IsReplyInTurn, RoutedKey}
use Rattle.tko_reply.specs.Replies as reply

none_ahead : (ahead : List RoutedKey) → length ahead < 1 → ahead ≡ []
none_ahead [] few = refl
none_ahead (one ∷ ahead) few = absurd (omega (arith, few))

pub to_turn : (keys : List (List ℕ)) (routed : List RoutedKey) (text : List ℕ)
    → IsReply 1 keys routed text → IsReplyInTurn keys routed text
to_turn keys routed text (reply.all_values are values is) = reply.only_values are values is
to_turn keys routed text
    (reply.first_other before last ahead unrouted parts few are values other is) =
    reply.last_other before last unrouted
    (subst (λ xs. routed ≡ before ++ last ∷ xs) (none_ahead ahead few) parts) are values other is

pub of_turn : (keys : List (List ℕ)) (routed : List RoutedKey) (text : List ℕ)
    → IsReplyInTurn keys routed text → IsReply 1 keys routed text
of_turn keys routed text (reply.only_values are values is) = reply.all_values are values is
of_turn keys routed text (reply.last_other before last unrouted parts are values other is) =
    reply.first_other before last [] unrouted parts (omega arith) are values other is
