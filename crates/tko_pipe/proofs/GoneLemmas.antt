-- Those that gave up, in the order of the queue, and the forms of their requests.
use Rattle.std.proofs.Common.{◌≡◌, ℕ, ◌+◌, Bool, false, List, [], ◌∷◌, ◌++◌, refl, sym, ap, subst, ◌∙◌, Some, append-nil, append_assoc, length, length-append, arith, drop, slice_get}
use Rattle.std.proofs.lemmas.List.{drop_at, map-append}
use Rattle.std.proofs.lemmas.List.Concat.{flat_map-append}
use Rattle.std.proofs.lemmas.List.Elements.{All-head, All-tail}
use Rattle.tko_text.specs.declared.request.Request.{Request}
use Rattle.tko_pipe.specs.declared.waiter.Asker.{Asker}
use Rattle.tko_pipe.specs.declared.waiter.Asker.TheVariants.{Client, GaveUp, Probe}
use Rattle.tko_pipe.specs.declared.waiter.Waiter.{Waiter}
use Rattle.tko_pipe.specs.Giving.{AreHere, IsPlaceGivenUp, GivingUp}
use Rattle.tko_pipe.specs.Lives.{form_if}
use Rattle.tko_pipe.specs.Pipes.{PipeState}
use Rattle.tko_pipe.specs.Waiters.{IsReadBy, all_as_asked, as_asked, asker_as, forms_after, gone, gone_if, gone_of, has_gone}

gone_of-append : (xs ys : List Waiter) → gone_of (xs ++ ys) ≡ gone_of xs ++ gone_of ys
gone_of-append xs ys = flat_map-append (λ (it : Waiter). gone_if (has_gone it.by) it) xs ys

gone_of-here : (it : Waiter) → has_gone it.by ≡ false → gone_of (it ∷ []) ≡ []
gone_of-here it here = ap (λ (is_gone : Bool). gone_if is_gone it ++ []) here

-- one that is there is as it asked
asked_here : (by : Asker) → has_gone by ≡ false → asker_as by ≡ by
asked_here (Client number) here = refl
asked_here Probe here = refl
asked_here (GaveUp number) here = absurd (let e = here in cc)

-- one that is there asks behind the others
pub pushed_asked : (old mid : List Waiter) (it : Waiter) (more : List Waiter)
    → has_gone it.by ≡ false → mid ≡ old ++ it ∷ []
    → all_as_asked old ++ it ∷ more ≡ all_as_asked mid ++ more
pushed_asked old mid it more here is =
    let same : as_asked it ≡ it =
    ap (λ (by : Asker). record it { by = by }) (asked_here it.by here) in
    let all : all_as_asked mid ≡ all_as_asked old ++ it ∷ [] =
    ap all_as_asked is ∙ map-append as_asked old (it ∷ [])
    ∙ ap (λ (w : Waiter). all_as_asked old ++ w ∷ []) same in
    sym (append_assoc (all_as_asked old) (it ∷ []) more)
    ∙ ap (λ (w : List Waiter). w ++ more) (sym all)

pub pushed_gone : (old mid : List Waiter) (it : Waiter) → has_gone it.by ≡ false
    → mid ≡ old ++ it ∷ [] → gone_of old ≡ gone_of mid
pushed_gone old mid it here is =
    sym (ap gone_of is ∙ gone_of-append old (it ∷ [])
    ∙ ap (λ (w : List Waiter). gone_of old ++ w) (gone_of-here it here)
    ∙ append-nil (gone_of old))

-- where none gave up, there is none
none_gone : (waiters : List Waiter) → AreHere waiters → gone_of waiters ≡ []
none_gone [] here = refl
none_gone (first ∷ others) here =
    let P : Waiter → Type 0 = λ it. has_gone it.by ≡ false in
    ap (λ (is_gone : Bool). gone_if is_gone first ++ gone_of others) (All-head P first others here)
    ∙ none_gone others (All-tail P first others here)

-- one that gives up asked as before
pub given_asked : (before after : List Waiter) (it : Waiter) (number : ℕ) → it.by ≡ Client number
    → all_as_asked (before ++ it ∷ after) ≡ all_as_asked (before ++ gone number it ∷ after)
given_asked [] after it number is_client =
    ap (λ (by : Asker). record it { by = asker_as by } ∷ all_as_asked after) is_client
given_asked (first ∷ before) after it number is_client =
    ap (λ (w : List Waiter). as_asked first ∷ w) (given_asked before after it number is_client)

-- those behind it did not give up
after_here : (before after : List Waiter) (it : Waiter)
    → AreHere (drop (length before + 1) (before ++ it ∷ after)) → gone_of after ≡ []
after_here before after it here =
    let whole : before ++ it ∷ after ≡ (before ++ it ∷ []) ++ after =
    sym (append_assoc before (it ∷ []) after) in
    let len : length (before ++ it ∷ []) ≡ length before + 1 =
    omega (arith, length-append before (it ∷ [])) in
    let same : drop (length before + 1) (before ++ it ∷ after) ≡ after =
    ap (drop (length before + 1)) whole ∙ drop_at (before ++ it ∷ []) after (length before + 1) len
    in
    none_gone after (subst AreHere same here)

-- one more gave up, behind those that had
pub given_gone : (old mid : PipeState) (it : GivingUp) → IsPlaceGivenUp old it mid
    → gone_of mid.waiters ≡ gone_of old.waiters ++ gone it.number it.waiter ∷ []
given_gone old mid it step =
    let moved = gone it.number it.waiter in
    let none : gone_of it.after ≡ [] =
    after_here it.before it.after it.waiter
    (subst (λ (w : List Waiter). AreHere (drop (length it.before + 1) w)) step.waiters
    step.may.last) in
    let here : has_gone it.waiter.by ≡ false = ap has_gone step.is_client in
    let new : gone_of mid.waiters ≡ gone_of it.before ++ moved ∷ [] =
    ap (λ (s : PipeState). gone_of s.waiters) step.state
    ∙ gone_of-append it.before (moved ∷ it.after)
    ∙ ap (λ (w : List Waiter). gone_of it.before ++ moved ∷ w) none in
    let was : gone_of old.waiters ≡ gone_of it.before =
    ap gone_of step.waiters
    ∙ gone_of-append it.before (it.waiter ∷ it.after)
    ∙ ap (λ (is_gone : Bool). gone_of it.before ++ (gone_if is_gone it.waiter ++ gone_of it.after))
    here
    ∙ ap (λ (w : List Waiter). gone_of it.before ++ w) none
    ∙ append-nil (gone_of it.before) in
    new ∙ ap (λ (w : List Waiter). w ++ moved ∷ []) (sym was)

first_form_is : (form : Request) (forms : List Request) → slice_get forms 0 ≡ Some form
    → forms ≡ form ∷ drop 1 forms
first_form_is form [] is = absurd (let e = is in cc)
first_form_is form (first ∷ others) is =
    let same : first ≡ form = let e : Some first ≡ Some form = is in cc in
    ap (λ (f : Request). f ∷ others) same

-- the form that a response was read by is out
pub taken_forms : (by : Asker) (request : Request) (forms : List Request)
    → IsReadBy by request forms
    → forms ≡ form_if (has_gone by) request ++ forms_after by forms
taken_forms (Client number) request forms read_by = refl
taken_forms Probe request forms read_by = refl
taken_forms (GaveUp number) request forms read_by = first_form_is request forms read_by
