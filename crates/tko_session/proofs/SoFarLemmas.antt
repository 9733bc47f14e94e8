-- How far a request was answered that is under way, and how far its answer came.
use Rattle.std.proofs.Common.{◌≡◌, ℕ, Bool, true, false, List, [], ◌∷◌, ◌++◌, length, refl, sym, ap}
use Rattle.std.proofs.Common.{subst, ◌∙◌, append-nil}
use Rattle.std.proofs.lemmas.List.Elements.{All-nil}
use Rattle.tko_text.specs.declared.request.Request.{Request}
use Rattle.tko_text.specs.declared.request.Request.TheVariants as asked
use Rattle.tko_pools.specs.Configs.{Configuration}
use Rattle.tko_reply.specs.Answering.{retrieval}
use Rattle.tko_reply.specs.Answers.{AreKeysRouted, IsKeyed, request_keys}
use Rattle.tko_reply.specs.Interactions.{Interaction}
use Rattle.tko_reply.specs.Replies.{HasValues, RoutedKey, joined_values, keys_in}
use Rattle.tko_reply.specs.Standing.{SentKey}
use Rattle.tko_reply.specs.declared.asking.OneKey.{OneKey}
use Rattle.tko_reply.proofs.AnsweringLemmas.{retrieval_keys}
use Rattle.tko_reply.proofs.StandsLemmas.{IsAt, IsPast, IsSending, JoinsOn, values_joined}
use Rattle.tko_reply.proofs.StandsLemmas as stands
use Rattle.tko_session.specs.SoFar.{AsksForKey, HasJoined, IsKeyPast, IsOneKeyOf, IsSentFor}
use Rattle.tko_session.specs.SoFar.{PendingRequest}
use Rattle.tko_session.specs.SoFar as so_far

abbrev pub pending : Request → List ℕ → List Interaction → PendingRequest
pending request front done = record { request = request; front = front; done = done }

nothing_before : (before : List (List ℕ)) (key : List ℕ) (left : List (List ℕ))
    → [] ≡ before ++ key ∷ left → ⊥
nothing_before [] key left same = cc
nothing_before (one ∷ before) key left same = cc

-- no key was routed before the only one
alone_first : (routed : List RoutedKey) (only key : List ℕ) (left : List (List ℕ))
    → only ∷ [] ≡ keys_in routed ++ key ∷ left → routed ≡ []
alone_first [] only key left same = refl
alone_first (one ∷ routed) only key left same =
    let rest : [] ≡ keys_in routed ++ key ∷ left = cc in
    absurd (nothing_before (keys_in routed) key left rest)

-- this key is to be asked for
pub record IsNextOf (config : Configuration) (it : PendingRequest) (key : List ℕ) (one : OneKey)
    (outbox : List ℕ) : Type 0 where
  pub left : List (List ℕ)
  pub asks : AsksForKey it.request (length it.front) key left one
  pub on : HasJoined config it (key ∷ left) outbox

-- a request that is asked for by its keys
retrieval_keyed : (keys : List (List ℕ)) (unique : Bool) → IsKeyed (retrieval keys unique)
retrieval_keyed keys true = tt
retrieval_keyed keys false = tt

has_key : (request : Request) (key : List ℕ) → request_keys request ≡ key ∷ [] → IsKeyed request
has_key (asked.Get keys) key is = tt
has_key (asked.Gets keys) key is = tt
has_key (asked.Store verb entry noreply) key is = tt
has_key (asked.Cas entry unique noreply) key is = tt
has_key (asked.Delete it noreply) key is = tt
has_key (asked.Incr it amount noreply) key is = tt
has_key (asked.Decr it amount noreply) key is = tt
has_key (asked.Touch it expiry noreply) key is = tt
has_key asked.Version key is = absurd (let none : ⊥ = cc in none)
has_key asked.Quit key is = absurd (let none : ⊥ = cc in none)
has_key asked.StatsTko key is = absurd (let none : ⊥ = cc in none)

pub asks_keyed : {request : Request} {begin : ℕ} {key : List ℕ} {left : List (List ℕ)}
    {one : OneKey} → AsksForKey request begin key left one → IsKeyed request
asks_keyed {request} {key = key} (so_far.only keys none is) = has_key request key keys
asks_keyed (so_far.one_of is) = subst IsKeyed (sym is.whole) (retrieval_keyed is.all is.unique)

module _ {config : Configuration} where
  -- keys of a retrieval were routed
  joins : {it : PendingRequest} {key : List ℕ} {left left' : List (List ℕ)} {one : OneKey}
      {outbox : List ℕ}
      → (is : IsOneKeyOf it.request (length it.front) key left one)
      → HasJoined config it left' outbox
      → JoinsOn config (retrieval is.all is.unique) is.all left' it.front it.done outbox
  joins {it} is on = record {
    routed = on.routed;
    are = sym (retrieval_keys is.all is.unique) ∙ ap request_keys (sym is.whole) ∙ on.keys;
    each = subst (λ (r : Request). AreKeysRouted config r on.routed it.done) is.whole on.each;
    values = on.values;
    appended = on.appended;
  }

  of_joins : {request : Request} {front outbox : List ℕ} {was : List Interaction}
      {left : List (List ℕ)} (all : List (List ℕ)) (unique : Bool)
      → request ≡ retrieval all unique
      → JoinsOn config (retrieval all unique) all left front was outbox
      → HasJoined config (pending request front was) left outbox
  of_joins {was = was} all unique whole on = record {
    routed = on.routed;
    keys = ap request_keys whole ∙ retrieval_keys all unique ∙ on.are;
    each = subst (λ (r : Request). AreKeysRouted config r on.routed was) (sym whole) on.each;
    values = on.values;
    appended = on.appended;
  }

  -- a key of it is the next one
  pub to_at : {it : PendingRequest} {key : List ℕ} {left : List (List ℕ)} {one : OneKey}
      {outbox : List ℕ}
      → AsksForKey it.request (length it.front) key left one
      → HasJoined config it (key ∷ left) outbox
      → IsAt config it.request it.front key one it.done outbox
  to_at {it} {key} {left} {outbox = outbox} (so_far.only keys none is) on =
      let first : on.routed ≡ [] = alone_first on.routed key key left (sym keys ∙ on.keys) in
      stands.alone is keys
      (subst (λ routed. AreKeysRouted config it.request routed it.done) first on.each)
      (on.appended ∙ ap (λ routed. it.front ++ joined_values routed) first ∙ append-nil it.front)
  to_at {left = left} (so_far.one_of is) on =
      stands.among is.all left is.unique is.whole is.some is.alone (joins is on)

  pub of_at : {request : Request} {front outbox : List ℕ} {was : List Interaction} {key : List ℕ}
      {one : OneKey}
      → IsAt config request front key one was outbox
      → IsNextOf config (pending request front was) key one outbox
  of_at {front = front} (stands.alone is keys none same) = record {
    left = [];
    asks = so_far.only keys refl is;
    on = record {
      routed = [];
      keys = keys;
      each = none;
      values = All-nil HasValues;
      appended = same ∙ sym (append-nil front);
    };
  }
  of_at (stands.among all left unique whole some is on) = record {
    left = left;
    asks = so_far.one_of
        (record { all = all; unique = unique; whole = whole; some = some; alone = is });
    on = of_joins all unique whole on;
  }

  -- a send is out for it
  pub to_sending : {it : PendingRequest} {asking : SentKey} {targets outbox : List ℕ}
      → IsSentFor config it asking targets outbox
      → IsSending config it.request it.front asking.awaited.server asking targets it.done outbox
  to_sending sent = record {
    key = sent.key;
    first = sent.first;
    before = sent.before;
    calls = sent.calls;
    at = to_at sent.asks sent.so_far;
    aims = sent.aims;
    reached = (sent.awaits, refl, sent.found);
    keeps = sent.keeps;
    are = sent.are;
  }

  pub of_sending : {request : Request} {front outbox : List ℕ} {was : List Interaction} {clear : ℕ}
      {asking : SentKey} {targets : List ℕ}
      → IsSending config request front clear asking targets was outbox
      → IsSentFor config (pending request front was) asking targets outbox
  of_sending sending =
      let at = of_at sending.at in
      record {
        key = sending.key;
        left = at.left;
        first = sending.first;
        before = sending.before;
        calls = sending.calls;
        asks = at.asks;
        so_far = at.on;
        aims = sending.aims;
        awaits = sending.reached.0;
        found = sending.reached.2;
        keeps = sending.keeps;
        are = sending.are;
      }

  -- a key of it was routed, and its trail recorded
  pub to_past : {it : PendingRequest} {one : OneKey} {outbox : List ℕ}
      → IsKeyPast config it one outbox → IsPast config it.request it.front one it.done outbox
  to_past (so_far.complete silent is by_key done) =
      stands.complete silent is (record {
        routed = done.routed;
        text = done.text;
        answers = done.answers;
        appended = done.appended;
      })
  to_past (so_far.values key left is on) =
      values_joined is.all left is.unique key is.whole is.some is.alone (joins is on)

  pub of_past : {request : Request} {front outbox : List ℕ} {was : List Interaction} {one : OneKey}
      → IsKeyed request
      → IsPast config request front one was outbox
      → IsKeyPast config (pending request front was) one outbox
  of_past by_key (stands.complete silent is done) =
      so_far.complete silent is by_key (record {
        routed = done.routed;
        text = done.text;
        answers = done.answers;
        appended = done.appended;
      })
  of_past by_key (values_joined all left unique key whole some is on) =
      so_far.values key left (record {
        all = all;
        unique = unique;
        whole = whole;
        some = some;
        alone = is;
      }) (of_joins all unique whole on)

  pub past_keyed : {it : PendingRequest} {one : OneKey} {outbox : List ℕ}
      → IsKeyPast config it one outbox → IsKeyed it.request
  past_keyed (so_far.complete silent is by_key done) = by_key
  past_keyed (so_far.values key left is on) =
      subst IsKeyed (sym is.whole) (retrieval_keyed is.all is.unique)
