-- A reply that begins earlier, since bytes before it were written.
use Rattle.std.proofs.Common.{◌≡◌, ◌≤◌, ℕ, List, ◌++◌, length, take, drop, refl, ap, ◌∙◌}
use Rattle.std.proofs.Common.{append_assoc}
use Rattle.std.specs.Prelude.{◌-◌}
use Rattle.std.proofs.lemmas.List.{drop-append-le, take-append-drop}
use Rattle.tko_text.specs.declared.request.Request.{Request}
use Rattle.tko_pools.specs.Configs.{Configuration}
use Rattle.tko_reply.specs.Replies.{joined_values}
use Rattle.tko_reply.specs.Standing.{SentKey, shifted_key, shifted_share}
use Rattle.tko_reply.specs.declared.asking.OneKey.{OneKey}
use Rattle.tko_session.specs.SoFar.{AsksForKey, HasJoined, IsKeyPast, IsOneKeyOf, IsSentFor}
use Rattle.tko_session.specs.SoFar.{PendingRequest}
use Rattle.tko_session.specs.SoFar as so_far

-- the first bytes of what waits were written
pub wrote_text : (count : ℕ) (sent waiting text : List ℕ) → sent ++ waiting ≡ text
    → (sent ++ take count waiting) ++ drop count waiting ≡ text
wrote_text count sent waiting text is =
    append_assoc sent (take count waiting) (drop count waiting)
    ∙ ap (λ xs. sent ++ xs) (take-append-drop count waiting) ∙ is

-- a key that is asked for, where the reply begins earlier
one_earlier : {request : Request} {begin begin' : ℕ} {key : List ℕ} {left : List (List ℕ)}
    {one : OneKey} (count : ℕ) → begin - count ≡ begin'
    → IsOneKeyOf request begin key left one
    → IsOneKeyOf request begin' key left (shifted_key count one)
one_earlier {left = left} count same is = record {
  all = is.all;
  unique = is.unique;
  whole = is.whole;
  some = is.some;
  alone = ap (shifted_key count) is.alone ∙ rw same refl;
}

asks_earlier : {request : Request} {begin begin' : ℕ} {key : List ℕ} {left : List (List ℕ)}
    {one : OneKey} (count : ℕ) → begin - count ≡ begin'
    → AsksForKey request begin key left one
    → AsksForKey request begin' key left (shifted_key count one)
asks_earlier count same (so_far.only keys none is) =
    so_far.only keys none (ap (shifted_key count) is)
asks_earlier count same (so_far.one_of is) = so_far.one_of (one_earlier count same is)

-- the same request, before which less waits
abbrev pub behind : ℕ → PendingRequest → PendingRequest
behind count it = record it { front = drop count it.front }

dropped_front : (count : ℕ) (front more outbox : List ℕ) → count ≤ length front
    → outbox ≡ front ++ more → drop count outbox ≡ drop count front ++ more
dropped_front count front more outbox within is =
    ap (drop count) is ∙ drop-append-le count front more within

module _ {config : Configuration} where
  joined_earlier : {it : PendingRequest} {left : List (List ℕ)} {outbox : List ℕ} (count : ℕ)
      → count ≤ length it.front
      → HasJoined config it left outbox
      → HasJoined config (behind count it) left (drop count outbox)
  joined_earlier {it} {outbox = outbox} count within on = record {
    routed = on.routed;
    keys = on.keys;
    each = on.each;
    values = on.values;
    appended = dropped_front count it.front (joined_values on.routed) outbox within on.appended;
  }

  pub past_earlier : {it : PendingRequest} {one : OneKey} {outbox : List ℕ} (count : ℕ)
      → count ≤ length it.front → length it.front - count ≡ length (drop count it.front)
      → IsKeyPast config it one outbox
      → IsKeyPast config (behind count it) (shifted_key count one) (drop count outbox)
  past_earlier {it} {outbox = outbox} count within same (so_far.complete silent is by_key done) =
      so_far.complete silent (ap (shifted_share count) is) by_key
      (record {
        routed = done.routed;
        text = done.text;
        answers = done.answers;
        appended = dropped_front count it.front done.text outbox within done.appended;
      })
  past_earlier count within same (so_far.values key left is on) =
      so_far.values key left (one_earlier count same is) (joined_earlier count within on)

  pub sent_earlier : {it : PendingRequest} {asking : SentKey} {targets outbox : List ℕ} (count : ℕ)
      → count ≤ length it.front → length it.front - count ≡ length (drop count it.front)
      → IsSentFor config it asking targets outbox
      → IsSentFor config (behind count it)
      (record asking { key = shifted_key count asking.key }) targets (drop count outbox)
  sent_earlier count within same sent = record {
    key = sent.key;
    left = sent.left;
    first = shifted_key count sent.first;
    before = sent.before;
    calls = sent.calls;
    asks = asks_earlier count same sent.asks;
    so_far = joined_earlier count within sent.so_far;
    aims = sent.aims;
    awaits = sent.awaits;
    found = sent.found;
    keeps = ap (shifted_key count) sent.keeps;
    are = sent.are;
  }
