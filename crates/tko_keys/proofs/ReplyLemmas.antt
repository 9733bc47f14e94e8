-- The reply to a request, once nothing of it is under way.
use Rattle.std.proofs.Common.{◌≡◌, ◌≤◌, ◌+◌, ℕ, true, List, [], ◌∷◌, ◌++◌, length}
use Rattle.std.proofs.Common.{Option, Some, None, Err, Ok, Result, refl, sym, ap, subst, ◌∙◌, arith}
use Rattle.std.proofs.Common.{suc, zero, false, cond}
use Rattle.std.specs.Prelude.{OnOk, flat_map, All, slice_get, unwrap_or}
use Rattle.std.proofs.lemmas.List.Elements.{All-cons, All-nil}
use Rattle.std.proofs.lemmas.Option.{slice_get_past, none-some, same_Some}
use Rattle.tko_text.specs.declared.request.Request.{Request}
use Rattle.tko_pools.specs.Configs.{Configuration}
use Rattle.tko_route.specs.Trail.{answer_of}
use Rattle.tko_reply.specs.Replies.{HasValues, RoutedKey, joined_values, keys_in}
use Rattle.tko_reply.specs.Replies.{routed_key, trail_reply_text, values_text_in}
use Rattle.tko_reply.specs.Answers.{IsKeyRouted}
use Rattle.tko_reply.specs.Asking.{Joins}
use Rattle.tko_reply.specs.Interactions.{Interaction}
use Rattle.tko_reply.specs.Asking as asked
use Rattle.tko_keys.specs.KeysState.{KeySlot, has_values, values_and_end, reply_at, reply_in, values_ahead}
use Rattle.tko_keys.specs.KeysState.{listed_by}
use Rattle.tko_keys.specs.KeysSoFar.{IsKeyEnded}

-- all values and `END` were put together
pub finish_ends : {E : Type 0} (slots : List KeySlot) (ahead : ℕ) (old new : List ℕ)
    (it : Result Unit E) → ahead ≡ values_ahead slots → length slots ≤ ahead
    → OnOk it (new ≡ old ++ values_and_end slots) → OnOk it (new ≡ old ++ reply_in slots)
finish_ends slots ahead old new (Err e) is past ends = tt
finish_ends slots ahead old new (Ok u) is past ends =
    let none : slice_get slots (values_ahead slots) ≡ None =
    slice_get_past slots (values_ahead slots) (omega (arith, is, past)) in
    ends ∙ ap (λ (o : Option KeySlot). old ++ reply_at o slots) (sym none)

-- what the outbox of an ended key holds
abbrev pub Holds : RoutedKey → KeySlot → Type 0
Holds one slot = (slot.awaited ≡ None)
    × Joins 0 [] (answer_of one.trail) [] slot.key.share slot.outbox

-- keys that have ended, each by its own interactions
pub record AreEnded (config : Configuration) (request : Request) (keys : List (List ℕ))
    (slots : List KeySlot) (done : ℕ → List Interaction) : Type 0 where
  pub routed : List RoutedKey
  pub are : keys_in routed ≡ keys
  pub all : length routed ≡ length slots
  pub each : (place : ℕ) (one : RoutedKey) → slice_get routed place ≡ Some one
      → IsKeyRouted config request one (done place)
  pub holds : (place : ℕ) (one : RoutedKey) (slot : KeySlot) → slice_get routed place ≡ Some one
      → slice_get slots place ≡ Some slot → Holds one slot

each_cons : (config : Configuration) (request : Request) (one : RoutedKey) (routed : List RoutedKey)
    (done : ℕ → List Interaction) → IsKeyRouted config request one (done 0)
    → ((place : ℕ) (other : RoutedKey) → slice_get routed place ≡ Some other
    → IsKeyRouted config request other (done (suc place)))
    → (place : ℕ) (other : RoutedKey) → slice_get (one ∷ routed) place ≡ Some other
    → IsKeyRouted config request other (done place)
each_cons config request one routed done first rest zero other has =
    subst (λ (r : RoutedKey). IsKeyRouted config request r (done 0)) (same_Some one other has) first
each_cons config request one routed done first rest (suc place) other has = rest place other has

holds_cons : (one : RoutedKey) (routed : List RoutedKey) (slot : KeySlot) (slots : List KeySlot)
    → Holds one slot
    → ((place : ℕ) (other : RoutedKey) (at : KeySlot) → slice_get routed place ≡ Some other
    → slice_get slots place ≡ Some at → Holds other at)
    → (place : ℕ) (other : RoutedKey) (at : KeySlot) → slice_get (one ∷ routed) place ≡ Some other
    → slice_get (slot ∷ slots) place ≡ Some at → Holds other at
holds_cons one routed slot slots first rest zero other at has is =
    subst (λ (r : RoutedKey). Holds r at) (same_Some one other has)
    (subst (λ (k : KeySlot). Holds one k) (same_Some slot at is) first)
holds_cons one routed slot slots first rest (suc place) other at has is = rest place other at has is

-- a key that has ended, by these interactions
pub record HasEnded (config : Configuration) (request : Request) (key : List ℕ) (slot : KeySlot)
    (done : List Interaction) : Type 0 where
  pub over : slot.awaited ≡ None
  pub is : IsKeyEnded config request key slot done

pub are_ended : {config : Configuration} {request : Request} (keys : List (List ℕ))
    (slots : List KeySlot) (done : ℕ → List Interaction) → length keys ≡ length slots
    → ((place : ℕ) (key : List ℕ) (slot : KeySlot) → slice_get keys place ≡ Some key
    → slice_get slots place ≡ Some slot → HasEnded config request key slot (done place))
    → AreEnded config request keys slots done
are_ended [] [] done same ended = record {
  routed = [];
  are = refl;
  all = refl;
  each = λ place one has. absurd (none-some one has);
  holds = λ place one slot has at. absurd (none-some one has);
}
are_ended [] (slot ∷ slots) done same ended = absurd (omega (arith, same))
are_ended (key ∷ keys) [] done same ended = absurd (omega (arith, same))
are_ended {config} {request} (key ∷ keys) (slot ∷ slots) done same ended =
    let first = ended 0 key slot refl refl in
    let rest = are_ended keys slots (λ place. done (suc place)) (omega (arith, same))
    (λ place. ended (suc place)) in
    let one : RoutedKey = routed_key key first.is.trail in
    record {
      routed = one ∷ rest.routed;
      are = ap (λ ks. key ∷ ks) rest.are;
      all = omega (arith, rest.all);
      each = each_cons config request one rest.routed done first.is.routed rest.each;
      holds = holds_cons one rest.routed slot slots (first.over, first.is.holds) rest.holds;
    }

-- all of these keys got lists of values; or one did not, and those before it did
pub data ReplyAt (routed : List RoutedKey) (slots : List KeySlot) : Type 0 where
  all_listed : values_ahead slots ≡ length slots → All HasValues routed
      → flat_map (λ (slot : KeySlot). slot.outbox) slots ≡ joined_values routed
      → ReplyAt routed slots
  one_other : (before : List RoutedKey) (last : RoutedKey) (ahead : List RoutedKey) (slot : KeySlot)
      → routed ≡ before ++ last ∷ ahead
      → length before ≡ values_ahead slots → All HasValues before → ¬ (HasValues last)
      → slice_get slots (values_ahead slots) ≡ Some slot
      → slot.outbox ≡ trail_reply_text last.trail → ReplyAt routed slots

one_more : (n : ℕ) → 1 + n ≡ suc n
one_more n = omega arith

joined_cons : (one : RoutedKey) (routed : List RoutedKey)
    → joined_values (one ∷ routed) ≡ unwrap_or (values_text_in (answer_of one.trail)) []
    ++ joined_values routed
joined_cons one routed = refl

reply_cons : (one : RoutedKey) (routed : List RoutedKey) (slot : KeySlot) (slots : List KeySlot)
    → Holds one slot → ReplyAt routed slots → ReplyAt (one ∷ routed) (slot ∷ slots)
reply_cons one routed slot slots (over, asked.other none kind text) rest =
    let fails : has_values slot ≡ false = ap (λ w. listed_by w slot.key.share) over
    ∙ ap (listed_by None) kind in
    let first : values_ahead (slot ∷ slots) ≡ 0 =
    ap (λ b. cond b (1 + values_ahead slots) 0) fails in
    one_other [] one routed slot refl (sym first) (All-nil HasValues) none
    (ap (slice_get (slot ∷ slots)) first) text
reply_cons one routed slot slots (over, asked.values found kind text)
    (all_listed many values same) =
    let passes : has_values slot ≡ true = ap (λ w. listed_by w slot.key.share) over
    ∙ ap (listed_by None) kind in
    let more : values_ahead (slot ∷ slots) ≡ suc (values_ahead slots) =
    ap (λ b. cond b (1 + values_ahead slots) 0) passes ∙ one_more (values_ahead slots) in
    all_listed (more ∙ ap suc many) (All-cons HasValues one routed found values)
    (ap (λ xs. xs ++ flat_map (λ (k : KeySlot). k.outbox) slots) text
    ∙ ap (λ xs. unwrap_or (values_text_in (answer_of one.trail)) [] ++ xs) same)
reply_cons one routed slot slots (over, asked.values found kind text)
    (one_other before last ahead at parts count values other is reply) =
    let passes : has_values slot ≡ true = ap (λ w. listed_by w slot.key.share) over
    ∙ ap (listed_by None) kind in
    let more : values_ahead (slot ∷ slots) ≡ suc (values_ahead slots) =
    ap (λ b. cond b (1 + values_ahead slots) 0) passes ∙ one_more (values_ahead slots) in
    one_other (one ∷ before) last ahead at (ap (λ xs. one ∷ xs) parts) (ap suc count ∙ sym more)
    (All-cons HasValues one before found values) other
    (ap (slice_get (slot ∷ slots)) more ∙ is) reply

pub reply_of : (routed : List RoutedKey) (slots : List KeySlot) → length routed ≡ length slots
    → ((place : ℕ) (one : RoutedKey) (slot : KeySlot) → slice_get routed place ≡ Some one
    → slice_get slots place ≡ Some slot → Holds one slot) → ReplyAt routed slots
reply_of [] [] same holds = all_listed refl (All-nil HasValues) refl
reply_of [] (slot ∷ slots) same holds = absurd (omega (arith, same))
reply_of (one ∷ routed) [] same holds = absurd (omega (arith, same))
reply_of (one ∷ routed) (slot ∷ slots) same holds =
    reply_cons one routed slot slots (holds 0 one slot refl refl)
    (reply_of routed slots (omega (arith, same)) (λ place. holds (suc place)))
