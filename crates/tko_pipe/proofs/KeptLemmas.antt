-- As long as a connection is there, a form is kept for each that gave up.
use Rattle.std.proofs.Common.{◌≡◌, ℕ, ◌+◌, true, false, List, [], ◌∷◌, ◌++◌, refl, sym, ap, ◌∙◌, Some, length, length-append, arith, nat_le, slice_get}
use Rattle.std.proofs.lemmas.List.Sums.{sum_by-append, sum_by-cons}
use Rattle.std.proofs.lemmas.Bool.{le-leb, leb-true}
use Rattle.tko_text.specs.declared.request.Request.{Request}
use Rattle.tko_pipe.specs.declared.waiter.Asker.{Asker}
use Rattle.tko_pipe.specs.declared.waiter.Asker.TheVariants.{Client, GaveUp, Probe}
use Rattle.tko_pipe.specs.declared.waiter.Waiter.{Waiter}
use Rattle.tko_pipe.specs.declared.link.Link.{Link}
use Rattle.tko_pipe.specs.declared.link.Link.TheVariants.{Connecting, Connected, Shut}
use Rattle.tko_pipe.specs.Pipes.{IsLive, is_asked, is_first_written}
use Rattle.tko_pipe.specs.Waiters.{HasForms, gave_up_by, gave_up_in, gone, has_gone, is_first_gone, lengths_of}

counts-append : (before after : List Waiter)
    → gave_up_in (before ++ after) ≡ gave_up_in before + gave_up_in after
counts-append before after = sum_by-append (λ (it : Waiter). gave_up_by it.by) before after

counts-cons : (it : Waiter) (others : List Waiter)
    → gave_up_in (it ∷ others) ≡ gave_up_by it.by + gave_up_in others
counts-cons it others = sum_by-cons (λ (one : Waiter). gave_up_by one.by) it others

here-counts : (by : Asker) → has_gone by ≡ false → gave_up_by by ≡ 0
here-counts (Client number) here = refl
here-counts Probe here = refl
here-counts (GaveUp number) here = absurd (let e = here in cc)

gone-counts : (by : Asker) → has_gone by ≡ true → gave_up_by by ≡ 1
gone-counts (Client number) is = absurd (let e = is in cc)
gone-counts Probe is = absurd (let e = is in cc)
gone-counts (GaveUp number) is = refl

pushed-counts : (waiters : List Waiter) (it : Waiter) → has_gone it.by ≡ false
    → gave_up_in (waiters ++ it ∷ []) ≡ gave_up_in waiters
pushed-counts waiters it here =
    omega (
      arith,
      counts-append waiters (it ∷ []),
      counts-cons it [],
      here-counts it.by here,
    )

-- somebody is pushed
pub forms_pushed : (link : Link) (waiters : List Waiter) (it : Waiter) (forms : List Request)
    → has_gone it.by ≡ false → HasForms link waiters forms → HasForms link (waiters ++ it ∷ []) forms
forms_pushed Connecting waiters it forms here is = pushed-counts waiters it here ∙ is
forms_pushed Connected waiters it forms here is = pushed-counts waiters it here ∙ is
forms_pushed (Shut left) waiters it forms here is = is

-- the text of one more is in the count
pub lengths_pushed : (queued sum : ℕ) (waiters new : List Waiter) (it : Waiter)
    → queued ≡ lengths_of waiters → sum ≡ queued + it.len → new ≡ waiters ++ it ∷ []
    → sum ≡ lengths_of new
lengths_pushed queued sum waiters new it is more pushed =
    let all : lengths_of new ≡ lengths_of (waiters ++ it ∷ []) = ap lengths_of pushed in
    omega (
      arith,
      is,
      more,
      all,
      sum_by-append (λ (one : Waiter). one.len) waiters (it ∷ []),
      sum_by-cons (λ (one : Waiter). one.len) it [],
    )

pub asked_pushed : (unread : List ℕ) (waiters : List Waiter) (it : Waiter) (unwritten more : List ℕ)
    → length more ≡ length unwritten + it.len → is_asked unread waiters unwritten ≡ true
    → is_asked unread (waiters ++ it ∷ []) more ≡ true
asked_pushed [] waiters it unwritten more len asked = refl
asked_pushed (byte ∷ bytes) [] it unwritten more len asked = absurd (let e = asked in cc)
asked_pushed (byte ∷ bytes) (first ∷ others) it unwritten more len asked =
    le-leb (length more) (lengths_of (others ++ it ∷ []))
    (omega (
      arith,
      len,
      leb-true (length unwritten) (lengths_of others) asked,
      sum_by-append (λ (one : Waiter). one.len) others (it ∷ []),
      sum_by-cons (λ (one : Waiter). one.len) it [],
    ))

given-counts : (before after : List Waiter) (it : Waiter) (number : ℕ) → it.by ≡ Client number
    → gave_up_in (before ++ gone number it ∷ after) ≡ gave_up_in (before ++ it ∷ after) + 1
given-counts before after it number is_client =
    omega (
      arith,
      counts-append before (gone number it ∷ after),
      counts-append before (it ∷ after),
      counts-cons (gone number it) after,
      counts-cons it after,
      ap gave_up_by is_client,
    )

given-forms : (before after : List Waiter) (it : Waiter) (number : ℕ) (forms : List Request)
    (form : Request) → it.by ≡ Client number
    → gave_up_in (before ++ it ∷ after) ≡ length forms
    → gave_up_in (before ++ gone number it ∷ after) ≡ length (forms ++ form ∷ [])
given-forms before after it number forms form is_client is =
    omega (arith, given-counts before after it number is_client, is, length-append forms (form ∷ []))

-- one gives up
pub forms_given : (link : Link) (before after : List Waiter) (it : Waiter) (number : ℕ)
    (forms : List Request) (form : Request) → IsLive link → it.by ≡ Client number
    → HasForms link (before ++ it ∷ after) forms
    → HasForms link (before ++ gone number it ∷ after) (forms ++ form ∷ [])
forms_given Connecting before after it number forms form live is_client is =
    given-forms before after it number forms form is_client is
forms_given Connected before after it number forms form live is_client is =
    given-forms before after it number forms form is_client is
forms_given (Shut left) before after it number forms form live is_client is = absurd live

form_of_first : (waiters : List Waiter) (forms : List Request)
    → gave_up_in waiters ≡ length forms → is_first_gone waiters ≡ true
    → (form : Request) × (slice_get forms 0 ≡ Some form)
form_of_first [] forms is first = absurd (let e = first in cc)
form_of_first (waiter ∷ others) [] is first =
    absurd (omega (arith, is, counts-cons waiter others, gone-counts waiter.by first))
form_of_first (waiter ∷ others) (form ∷ forms) is first = (form, refl)

-- the first one gave up, so there is a form
pub first_form : (link : Link) (waiters : List Waiter) (forms : List Request) → IsLive link
    → HasForms link waiters forms → is_first_gone waiters ≡ true
    → (form : Request) × (slice_get forms 0 ≡ Some form)
first_form Connecting waiters forms live is first = form_of_first waiters forms is first
first_form Connected waiters forms live is first = form_of_first waiters forms is first
first_form (Shut left) waiters forms live is first = absurd live

-- one that gives up stays in the count of the texts
pub given-lengths : (before after : List Waiter) (it : Waiter) (number : ℕ)
    → lengths_of (before ++ gone number it ∷ after) ≡ lengths_of (before ++ it ∷ after)
given-lengths before after it number =
    sum_by-append (λ (one : Waiter). one.len) before (gone number it ∷ after)
    ∙ ap (λ n. lengths_of before + n)
    (sum_by-cons (λ (one : Waiter). one.len) (gone number it) after
    ∙ sym (sum_by-cons (λ (one : Waiter). one.len) it after))
    ∙ sym (sum_by-append (λ (one : Waiter). one.len) before (it ∷ after))

given-written : (before after : List Waiter) (it : Waiter) (number : ℕ) (unwritten : List ℕ)
    → is_first_written (before ++ gone number it ∷ after) unwritten
    ≡ is_first_written (before ++ it ∷ after) unwritten
given-written [] after it number unwritten = refl
given-written (first ∷ before) after it number unwritten =
    ap (λ (n : ℕ). nat_le (length unwritten) n) (given-lengths before after it number)

pub given-asked : (unread : List ℕ) (before after : List Waiter) (it : Waiter) (number : ℕ)
    (unwritten : List ℕ)
    → is_asked unread (before ++ gone number it ∷ after) unwritten
    ≡ is_asked unread (before ++ it ∷ after) unwritten
given-asked [] before after it number unwritten = refl
given-asked (byte ∷ bytes) before after it number unwritten =
    given-written before after it number unwritten
