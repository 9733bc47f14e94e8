-- What the calls on a connection leave.
use Rattle.std.proofs.Common.{◌≡◌, ◌≢◌, ℕ, ◌≤◌, ◌<◌, true, false, List, [], ◌∷◌, refl, sym, ap, subst, ◌∙◌, length, arith, drop, Option, Some, Result, slice_get, slice_index_or}
use Rattle.std.proofs.lemmas.Bool.{leb-true}
use Rattle.tko_text.specs.declared.request.Request.{Request}
use Rattle.tko_text.specs.declared.response.Response.{Response}
use Rattle.tko_pipe.specs.declared.waiter.Asker.{Asker}
use Rattle.tko_pipe.specs.declared.waiter.Asker.TheVariants.{Client, GaveUp, Probe}
use Rattle.tko_pipe.specs.declared.waiter.Waiter.{Waiter}
use Rattle.tko_pipe.specs.declared.fates.Fate.{Fate}
use Rattle.tko_pipe.specs.declared.fates.Fates.{Fates}
use Rattle.tko_pipe.specs.declared.fates.ShutCause.{ShutCause}
use Rattle.tko_pipe.specs.declared.link.Link.{Link}
use Rattle.tko_pipe.specs.declared.link.Link.TheVariants.{Connecting, Connected, Shut}
use Rattle.tko_pipe.specs.Ends.{EndsFirst, IsFirstAnswered, IsLeaving, IsTakenByForm, TakeEnds}
use Rattle.tko_pipe.specs.Fates.{Leaving, fate_for, fates_left}
use Rattle.tko_pipe.specs.Fronts.{IsFront}
use Rattle.tko_pipe.specs.Pipes.{IsLive, IsTaken, MayBeUnread, PipeState, is_asked}
use Rattle.tko_pipe.specs.Waiters.{HasForms, IsReadBy, forms_after, has_gone, is_first_gone, lengths_of}
use Rattle.tko_pipe.proofs.KeptLemmas.{first_form}

-- where bytes are unread, the first request was written wholly
first_written : (unread : List ℕ) (waiter : Waiter) (others : List Waiter) (unwritten : List ℕ)
    → unread ≢ [] → is_asked unread (waiter ∷ others) unwritten ≡ true
    → length unwritten ≤ lengths_of others
first_written [] waiter others unwritten some asked = absurd (some refl)
first_written (byte ∷ bytes) waiter others unwritten some asked =
    leb-true (length unwritten) (lengths_of others) asked

-- where bytes are unread, the requests behind the first are all that may be unwritten
written_behind : (p : PipeState) (waiter : Waiter) (others : List Waiter)
    → p.waiters ≡ waiter ∷ others → p.unread ≢ []
    → is_asked p.unread p.waiters p.unwritten ≡ true
    → length p.unwritten ≤ lengths_of others
written_behind p waiter others waiters some asked =
    first_written p.unread waiter others p.unwritten some
    (subst (λ (w : List Waiter). is_asked p.unread w p.unwritten ≡ true) waiters asked)

-- the response to the first was at the front
pub answered : (p old : PipeState) (request : Request) (waiter : Waiter) (others : List Waiter)
    (response : Response) (left : List ℕ) (new : PipeState)
    → p ≡ old → p.link ≡ Connected → p.waiters ≡ waiter ∷ others → p.unread ≢ []
    → is_asked p.unread p.waiters p.unwritten ≡ true → IsReadBy waiter.by request p.forms
    → IsFront request p.unread response left
    → EndsFirst (record p { unread = left }) waiter others new
    → IsFirstAnswered old request waiter.by response new
answered p old request waiter others response left new same connected waiters some asked read_by
    front ends =
    let mid : PipeState = record p {
      waiters = others;
      unread = left;
      forms = forms_after waiter.by p.forms;
    } in
    let taken : IsTaken p (record {
      waiter = waiter;
      request = request;
      response = response;
      bytes = front.bytes;
    }) mid = record {
      connected = connected;
      first = waiters;
      written = written_behind p waiter others waiters some asked;
      front = front.whole;
      response = front.is_response;
      form = read_by;
      state = refl;
    } in
    let is : IsFirstAnswered p request waiter.by response new = record {
      waiter = waiter;
      bytes = front.bytes;
      mid = mid;
      is_by = refl;
      taken = taken;
      checked = ends;
    } in
    subst (λ (s : PipeState). IsFirstAnswered s request waiter.by response new) same is

-- one that is there is read by its own request
pub read_by_own : (by : Asker) (request : Request) (forms : List Request) → has_gone by ≡ false
    → IsReadBy by request forms
read_by_own (Client number) request forms here = tt
read_by_own Probe request forms here = tt
read_by_own (GaveUp number) request forms here = absurd (let e = here in cc)

-- one that gave up by the first form
pub read_by_first : (by : Asker) (form : Request) (forms : List Request)
    → slice_get forms 0 ≡ Some form → IsReadBy by form forms
read_by_first (Client number) form forms is = tt
read_by_first Probe form forms is = tt
read_by_first (GaveUp number) form forms is = is

-- the response to the first, which gave up, is read by a form
pub by_form : (p old : PipeState) (found : Result (Option (Asker × Response)) ShutCause)
    (new : PipeState) → p ≡ old → IsLive old.link → HasForms p.link p.waiters p.forms
    → is_first_gone old.waiters ≡ true
    → ((form : Request) → slice_get old.forms 0 ≡ Some form → TakeEnds old form found new)
    → IsTakenByForm old found new
by_form p old found new same live has gone ends =
    let old_has : HasForms old.link old.waiters old.forms =
    subst (λ (s : PipeState). HasForms s.link s.waiters s.forms) same has in
    let first = first_form old.link old.waiters old.forms live old_has gone in
    record { form = first.0; is_form = first.1; ends = ends first.0 first.1 }

-- on a connection that is being made nothing is unread
pub none_unread : (p old : PipeState) → p ≡ old → p.link ≡ Connecting
    → MayBeUnread p.link p.unread → old.unread ≡ []
none_unread p old same connecting may =
    ap (λ (s : PipeState). s.unread) (sym same)
    ∙ subst (λ (l : Link). MayBeUnread l p.unread) connecting may

-- the first one, and those behind it
pub first_and_others : (waiters : List Waiter) (first : Waiter) → 0 < length waiters
    → first ≡ slice_index_or waiters 0 first → waiters ≡ first ∷ drop 1 waiters
first_and_others [] first some is = absurd (omega (arith, some))
first_and_others (waiter ∷ others) first some is = ap (λ (w : Waiter). w ∷ others) (sym is)

pub first_here : (waiters others : List Waiter) (first : Waiter) → waiters ≡ first ∷ others
    → is_first_gone waiters ≡ false → has_gone first.by ≡ false
first_here waiters others first is here = ap is_first_gone (sym is) ∙ here

-- the first of those that are left leaves
pub left_first : (p old : PipeState) (left next_fates : Fates) (waiter : Waiter)
    (others : List Waiter) (came : Fate)
    → p ≡ old → p.link ≡ Shut left → p.waiters ≡ waiter ∷ others
    → came ≡ fate_for waiter.by left → next_fates ≡ fates_left waiter.by left
    → IsLeaving old waiter.by came (record p { waiters = others; link = Shut next_fates })
left_first p old left next_fates waiter others came same shut waiters is_fate is_next =
    let it : Leaving = record { waiter = waiter; came = came } in
    let new = record p { waiters = others; link = Shut next_fates } in
    let is : IsLeaving p waiter.by came new = record {
      it = it;
      is_by = refl;
      is_fate = refl;
      left = record {
        left = left;
        shut = shut;
        first = waiters;
        came = is_fate;
        state = ap (λ (l : Fates). record p { waiters = others; link = Shut l }) is_next;
      };
    } in
    subst (λ (s : PipeState). IsLeaving s waiter.by came new) same is
