-- Keys that are due, and their requests under way: the last, and the first to a server.
use Rattle.std.proofs.Common.{◌≡◌, ◌≢◌, ℕ, ◌-◌, Bool, List, [], ◌∷◌, ◌++◌, All, length}
use Rattle.std.proofs.Common.{length-append, Option, Some, None, refl, sym, ap, subst, ◌∙◌, arith}
use Rattle.std.proofs.Common.{inl, inr}
use Rattle.std.specs.Prelude.{◌==◌, cond, IsSome, option_map, slice_get}
use Rattle.std.specs.Option.{option_and_then}
use Rattle.std.proofs.lemmas.Bool.{cases_Bool}
use Rattle.std.proofs.lemmas.List.Elements.{All-head, All-tail}
use Rattle.tko_pools.specs.Configs.{Configuration}
use Rattle.tko_route.specs.Calls.{RoutedCall}
use Rattle.tko_text.specs.declared.request.Request.{Request}
use Rattle.tko_keys.specs.declared.plan.Grouping.{Grouping}
use Rattle.tko_keys.specs.declared.step.KeyStep.{KeyStep}
use Rattle.tko_keys.specs.KeysDriven.{FirstTaken, IsDueAt, IsSentAt, NextBegun, due_by}
use Rattle.tko_keys.specs.KeysState.{DueKey, KeySend, KeySlot, KeysState, asked_last, first_send}
use Rattle.tko_keys.specs.KeysState.{request_by, request_of}
use Rattle.tko_keys.specs.Lines.{IsSentBy}
use Rattle.tko_keys.specs.declared.step.KeyStep.TheVariants as step
use Rattle.tko_keys.specs.KeysDriven as driven
use Rattle.tko_keys.proofs.PlaceLemmas.{get_end}
use Rattle.tko_client.specs.Keys.{IsDueAfter}

some_pushed : {A : Type 0} (xs : List A) (x : A) → xs ++ x ∷ [] ≢ []
some_pushed [] x = λ none. let no : ⊥ = cc in no
some_pushed (y ∷ xs) x = λ none. let no : ⊥ = cc in no

-- where a call said that a key is due, one is
due_pushed : (place : ℕ) (said : KeyStep) (due : List DueKey)
    → IsDueAfter said (due ++ due_by place said)
due_pushed place (step.Due server) due = some_pushed due (driven.due place server)
due_pushed place (step.Tried trail) due = tt

pub began_due : (config : Configuration) (old new : KeysState) (calls : List RoutedCall)
    (said : KeyStep) → NextBegun config old calls said new → IsDueAfter said new.due
began_due config old new calls said is =
    subst (λ (k : KeysState). IsDueAfter said k.due) (sym is.state)
    (due_pushed (length old.slots) said old.due)

pub took_due : (config : Configuration) (old new : KeysState) (calls : List RoutedCall)
    (said : KeyStep) → FirstTaken config old calls said new → IsDueAfter said new.due
took_due config old new calls said is =
    subst (λ (k : KeysState). IsDueAfter said k.due) (sym is.state)
    (due_pushed is.place said old.due)

pub last_pushed : (sends : List KeySend) (send : KeySend)
    → slice_get (sends ++ send ∷ []) (length (sends ++ send ∷ []) - 1) ≡ Some send
last_pushed sends send =
    let place : length (sends ++ send ∷ []) - 1 ≡ length sends =
    omega (arith, length-append sends (send ∷ [])) in
    ap (λ n. slice_get (sends ++ send ∷ []) n) place ∙ get_end sends send

abbrev pub last_of : List KeySend → Option KeySend
last_of sends = slice_get sends (length sends - 1)

-- where a request is there that is to be sent, one is under way
pub last_out : (keys : KeysState) → IsSome (asked_last keys) → keys.sends ≢ []
last_out keys is empty =
    let never : IsSome (option_and_then (request_of keys.slots) (last_of [])) =
    subst (λ sends. IsSome (option_and_then (request_of keys.slots) (last_of sends))) empty
    is in
    let no : ⊥ = cc in no

pub all_first : (P : KeySend → Type 0) (server : ℕ) (sends : List KeySend) (send : KeySend)
    → All P sends → first_send server sends ≡ Some send → P send
all_first P server [] send all is = absurd (let no : ⊥ = cc in no)
all_first P server (one ∷ sends) send all is =
    elim (cases_Bool (one.server == server)) [
      | inl same ↦
          let it : Some one ≡ Some send =
          sym (ap (λ (b : Bool). cond b (Some one) (first_send server sends)) same) ∙ is in
          let equal : one ≡ send = cc in subst P equal (All-head P one sends all)
      | inr other ↦
          let it : first_send server sends ≡ Some send =
          sym (ap (λ (b : Bool). cond b (Some one) (first_send server sends)) other) ∙ is in
          all_first P server sends send (All-tail P one sends all) it
    ]

pub all_between : (P : KeySend → Type 0) (before after : List KeySend) (send : KeySend)
    → All P (before ++ (send ∷ after)) → P send
all_between P [] after send all = All-head P send after all
all_between P (one ∷ before) after send all =
    all_between P before after send (All-tail P one (before ++ (send ∷ after)) all)

pub some_first : (found : Option KeySend) → IsSome found → (send : KeySend) × (found ≡ Some send)
some_first None is = absurd (let no : ⊥ = cc in no)
some_first (Some send) is = (send, refl)

-- a request that is under way is there
request_some : (config : Configuration) (grouping : Grouping) (unique : Bool) (slots : List KeySlot)
    (server : ℕ) (places : List ℕ) (line : Option Request)
    → All (λ place. IsDueAt config slots (driven.due place server)) places
    → IsSentBy grouping unique slots places line → IsSome (request_by slots places line)
request_some config grouping unique slots server places (Some line) each by = refl
request_some config grouping unique slots server [] None each one = absurd (omega (arith, one))
request_some config grouping unique slots server (place ∷ places) None each one =
    let is = All-head (λ (it : ℕ). IsDueAt config slots (driven.due it server)) place places each in
    subst IsSome (sym (ap (λ o. option_map (λ (s : KeySlot). s.key.request) o) is.at)) refl

pub sent_some : (config : Configuration) (grouping : Grouping) (unique : Bool)
    (slots : List KeySlot) (send : KeySend) → IsSentAt config grouping unique slots send
    → IsSome (request_of slots send)
sent_some config grouping unique slots send is =
    request_some config grouping unique slots send.server send.places send.line is.each is.by
