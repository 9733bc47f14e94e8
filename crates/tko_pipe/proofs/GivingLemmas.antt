-- Who may give up, and how one does at its place.
use Rattle.std.proofs.Common.{◌≡◌, ◌≢◌, ℕ, ◌+◌, ◌-◌, ◌<◌, ◌≤◌, true, false, List, [], ◌∷◌, ◌++◌, refl, sym, ap, subst, ◌∙◌, Option, Some, None, IfSome, IfNone, length, arith, drop, take, slice_get}
use Rattle.std.proofs.lemmas.List.{drop-drop, drop_more, length-take, take-append-drop}
use Rattle.std.proofs.lemmas.List.Elements.{All-cons, All-drop, All-same}
use Rattle.std.proofs.lemmas.Option.{get_or_from_slice_get}
use Rattle.tko_text.specs.declared.request.Request.{Request}
use Rattle.tko_text.specs.Responses.{request_kind}
use Rattle.tko_pipe.specs.declared.waiter.Asker.TheVariants.{Client}
use Rattle.tko_pipe.specs.declared.waiter.Waiter.{Waiter}
use Rattle.tko_pipe.specs.Giving.{AreHere, GivingUp, HasGivenUp, IsBehindGone, IsDueAlone, IsPlaceGivenUp}
use Rattle.tko_pipe.specs.Giving.{IsSecondDue, IsNextOverdue, MayGiveUp}
use Rattle.tko_pipe.specs.Pipes.{IsLive, PipeState, is_asked, is_silent}
use Rattle.tko_pipe.specs.Waiters.{HasForms, gone, has_gone, lengths_of}
use Rattle.tko_pipe.proofs.KeptLemmas.{forms_given, given-asked, given-lengths}
use Rattle.tko_pipe.proofs.WaiterLemmas.{due_within}

-- from a later place on none gave up either
here_later : (waiters : List Waiter) (from to : ℕ) → from ≤ to → AreHere (drop from waiters)
    → AreHere (drop to waiters)
here_later waiters from to within here =
    let sum : from + (to - from) ≡ to = omega (arith, within) in
    let same : drop to waiters ≡ drop (to - from) (drop from waiters) =
    ap (λ n. drop n waiters) (sym sum) ∙ sym (drop-drop (to - from) from waiters) in
    All-same (λ it. has_gone it.by ≡ false) (drop to waiters) (drop (to - from) (drop from waiters))
    same (All-drop (λ it. has_gone it.by ≡ false) (to - from) (drop from waiters) here)

due_of : (state : PipeState) (now place : ℕ) → MayGiveUp state now place
    → IsDueAlone state.waiters now place
due_of state now place may = record {
  waiter = may.waiter;
  number = may.number;
  at = may.at;
  is_client = may.is_client;
  due = may.due;
  alone = may.alone;
}

-- one that may give up is a place
pub may_within : (p old : PipeState) (now place : ℕ) → p ≡ old → MayGiveUp old now place
    → place < length p.waiters
may_within p old now place same may =
    due_within p.waiters now place (due_of p now place
    (subst (λ (s : PipeState). MayGiveUp s now place) (sym same) may))

-- the list around a place
pub split_at : (waiters : List Waiter) (place : ℕ) (waiter : Waiter) → place < length waiters
    → slice_get waiters place ≡ Some waiter
    → drop place waiters ≡ waiter ∷ drop (place + 1) waiters
split_at waiters place waiter within at_place =
    drop_more waiters place waiter within
    ∙ ap (λ (w : Waiter). w ∷ drop (place + 1) waiters)
    (get_or_from_slice_get waiters place waiter waiter at_place)

-- it is none before one that gave up
may_behind : (state : PipeState) (now place from : ℕ) → IsBehindGone state.waiters from
    → MayGiveUp state now place → from ≤ place
may_behind state now place from behind may =
    let P : Waiter → Type 0 = λ it. has_gone it.by ≡ false in
    let here : has_gone may.waiter.by ≡ false = ap has_gone may.is_client in
    let rest = drop (place + 1) state.waiters in
    behind.first place may.behind
    (All-same P (drop place state.waiters) (may.waiter ∷ rest)
    (split_at state.waiters place may.waiter
    (due_within state.waiters now place (due_of state now place may)) may.at)
    (All-cons P may.waiter rest here may.last))

may_of : (state : PipeState) (now place from : ℕ) → IsSecondDue state.waiters now
    → state.unread ≢ [] → is_silent state.heard state.limit now ≡ false → IsBehindGone state.waiters from
    → from ≤ place → IsDueAlone state.waiters now place → MayGiveUp state now place
may_of state now place from next_due received heard behind within is = record {
  waiter = is.waiter;
  number = is.number;
  at = is.at;
  is_client = is.is_client;
  behind = omega (arith, behind.behind, within);
  due = is.due;
  next_due = next_due;
  received = received;
  heard = heard;
  alone = is.alone;
  last = here_later state.waiters from (place + 1) (omega (arith, within)) behind.here;
}

-- what a search from the first place on that nobody behind gave up finds
pub next_overdue : (p old : PipeState) (now from : ℕ) (found : Option ℕ) → p ≡ old
    → IsSecondDue p.waiters now → p.unread ≢ [] → is_silent p.heard p.limit now ≡ false
    → IsBehindGone p.waiters from
    → IfSome found (λ place. (from ≤ place) × IsDueAlone p.waiters now place
    × ((k : ℕ) → from ≤ k → k < place → IsDueAlone p.waiters now k → ⊥))
    → IfSome found (λ place. IsNextOverdue old now place)
next_overdue p old now from None same next_due received heard behind is = tt
next_overdue p old now from (Some place) same next_due received heard behind is =
    let next : IsNextOverdue p now place = record {
      may = may_of p now place from next_due received heard behind is.0 is.1;
      first = λ earlier less may. is.2 earlier (may_behind p now earlier from behind may) less
          (due_of p now earlier may);
    } in
    subst (λ (s : PipeState). IsNextOverdue s now place) same next

pub none_overdue : (p old : PipeState) (now from : ℕ) (found : Option ℕ) → p ≡ old
    → IsBehindGone p.waiters from
    → IfNone found ((k : ℕ) → from ≤ k → IsDueAlone p.waiters now k → ⊥)
    → IfNone found ((place : ℕ) → MayGiveUp old now place → ⊥)
none_overdue p old now from (Some place) same behind is = tt
none_overdue p old now from None same behind is = λ place may.
    let may_p : MayGiveUp p now place =
    subst (λ (s : PipeState). MayGiveUp s now place) (sym same) may in
    is place (may_behind p now place from behind may_p) (due_of p now place may_p)

-- what a change at a place leaves
abbrev pub GivesUpAt : List Waiter → ℕ → List Waiter → Type 0
GivesUpAt waiters place new = (before after : List Waiter) (waiter : Waiter)
    → waiters ≡ before ++ waiter ∷ after → length before ≡ place
    → (number : ℕ) → waiter.by ≡ Client number → new ≡ before ++ gone number waiter ∷ after

-- the list around the place of one that may give up
pub record Around (waiters : List Waiter) (place : ℕ) : Type 0 where
  pub before : List Waiter
  pub waiter : Waiter
  pub number : ℕ
  pub after : List Waiter
  pub is : waiters ≡ before ++ waiter ∷ after
  pub at_place : length before ≡ place
  pub is_client : waiter.by ≡ Client number

around : (p old : PipeState) (now place : ℕ) → p ≡ old → MayGiveUp old now place
    → Around p.waiters place
around p old now place same given =
    let may : MayGiveUp p now place =
    subst (λ (s : PipeState). MayGiveUp s now place) (sym same) given in
    let within : place < length p.waiters = may_within p old now place same given in
    record {
      before = take place p.waiters;
      waiter = may.waiter;
      number = may.number;
      after = drop (place + 1) p.waiters;
      is = sym (take-append-drop place p.waiters)
          ∙ ap (λ (w : List Waiter). take place p.waiters ++ w)
          (split_at p.waiters place may.waiter within may.at);
      at_place = omega (arith, within, length-take place p.waiters);
      is_client = may.is_client;
    }

-- a pipe stays one where one gives up
pub still_a_pipe : (p old : PipeState) (now place queued : ℕ) (form : Request)
    (waiters : List Waiter) (forms : List Request)
    → p ≡ old → IsLive old.link → MayGiveUp old now place → GivesUpAt p.waiters place waiters
    → forms ≡ p.forms ++ form ∷ [] → queued ≡ lengths_of p.waiters
    → is_asked p.unread p.waiters p.unwritten ≡ true → HasForms p.link p.waiters p.forms
    → (queued ≡ lengths_of waiters) × (is_asked p.unread waiters p.unwritten ≡ true)
    × HasForms p.link waiters forms
still_a_pipe p old now place queued form waiters forms same live may changed is_forms is_queued
    asked has_forms =
    let at = around p old now place same may in
    let is_new = changed at.before at.after at.waiter at.is at.at_place at.number at.is_client in
    let live_p : IsLive p.link = subst (λ (s : PipeState). IsLive s.link) (sym same) live in
    let given = forms_given p.link at.before at.after at.waiter at.number p.forms form live_p
    at.is_client (subst (λ (w : List Waiter). HasForms p.link w p.forms) at.is has_forms) in (
      is_queued ∙ ap lengths_of at.is
          ∙ sym (given-lengths at.before at.after at.waiter at.number)
          ∙ sym (ap lengths_of is_new),
      ap (λ (w : List Waiter). is_asked p.unread w p.unwritten) is_new
          ∙ given-asked p.unread at.before at.after at.waiter at.number p.unwritten
          ∙ sym (ap (λ (w : List Waiter). is_asked p.unread w p.unwritten) at.is) ∙ asked,
      subst (λ (w : List Waiter). HasForms p.link w forms) (sym is_new)
          (subst (λ (f : List Request).
          HasForms p.link (at.before ++ gone at.number at.waiter ∷ at.after) f) (sym is_forms) given),
    )

-- one gave up
pub gave_up : (p old : PipeState) (now place : ℕ) (request form : Request)
    (waiters : List Waiter) (forms : List Request)
    → p ≡ old → IsLive old.link → MayGiveUp old now place
    → request_kind form ≡ request_kind request → forms ≡ p.forms ++ form ∷ []
    → GivesUpAt p.waiters place waiters
    → HasGivenUp old now place request (record p { waiters = waiters; forms = forms })
gave_up p old now place request form waiters forms same live may is_kind is_forms changed =
    let at = around p old now place same may in
    let is_new = changed at.before at.after at.waiter at.is at.at_place at.number at.is_client in
    let it : GivingUp = record {
      before = at.before;
      waiter = at.waiter;
      number = at.number;
      after = at.after;
      form = form;
      now = now;
    } in
    let new : PipeState = record p { waiters = waiters; forms = forms } in
    let given : IsPlaceGivenUp p it new = record {
      live = subst (λ (s : PipeState). IsLive s.link) (sym same) live;
      may = subst (λ n. MayGiveUp p now n) (sym at.at_place)
          (subst (λ (s : PipeState). MayGiveUp s now place) (sym same) may);
      is_client = at.is_client;
      waiters = at.is;
      state = ap (λ (w : List Waiter). record p { waiters = w; forms = forms }) is_new
          ∙ ap (λ (f : List Request). record p {
            waiters = at.before ++ gone at.number at.waiter ∷ at.after;
            forms = f;
          }) is_forms;
    } in
    let has : HasGivenUp p now place request new = record {
      it = it;
      now_is = refl;
      place_is = at.at_place;
      form = is_kind;
      given = given;
    } in
    subst (λ (s : PipeState). HasGivenUp s now place request new) same has
