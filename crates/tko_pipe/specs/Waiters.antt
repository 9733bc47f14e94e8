-- Those that wait for responses, and those among them that gave up.
use Rattle.std.specs.Prelude.{ℕ, Bool, true, false, List, [], ◌∷◌, ◌≡◌, drop, flat_map, map, slice_get, sum_by, length, Some}
use Rattle.tko_text.specs.declared.request.Request.{Request}
use Rattle.tko_pipe.specs.declared.waiter.Asker.{Asker}
use Rattle.tko_pipe.specs.declared.waiter.Asker.TheVariants.{Client, GaveUp, Probe}
use Rattle.tko_pipe.specs.declared.waiter.Waiter.{Waiter}
use Rattle.tko_pipe.specs.declared.link.Link.{Link}
use Rattle.tko_pipe.specs.declared.link.Link.TheVariants.{Connecting, Connected, Shut}

-- how long the texts of those that wait are
abbrev pub lengths_of : List Waiter → ℕ
lengths_of waiters = sum_by (λ it. it.len) waiters

-- it asked, and gave up
abbrev pub has_gone : Asker → Bool
has_gone (Client number) = false
has_gone Probe = false
has_gone (GaveUp number) = true

-- the first one gave up
abbrev pub is_first_gone : List Waiter → Bool
is_first_gone [] = false
is_first_gone (first ∷ others) = has_gone first.by

-- as it asked
abbrev pub asker_as : Asker → Asker
asker_as (Client number) = Client number
asker_as Probe = Probe
asker_as (GaveUp number) = Client number

abbrev pub as_asked : Waiter → Waiter
as_asked it = record it { by = asker_as it.by }

abbrev pub all_as_asked : List Waiter → List Waiter
all_as_asked waiters = map as_asked waiters

-- the client of this number gave up, and its place stays
abbrev pub gone : ℕ → Waiter → Waiter
gone number it = record it { by = GaveUp number }

-- how many of them gave up
abbrev pub gave_up_by : Asker → ℕ
gave_up_by (GaveUp number) = 1
gave_up_by _ = 0

abbrev pub gave_up_in : List Waiter → ℕ
gave_up_in waiters = sum_by (λ it. gave_up_by it.by) waiters

-- those of them that gave up, in order
abbrev pub gone_if : Bool → Waiter → List Waiter
gone_if true it = it ∷ []
gone_if false it = []

abbrev pub gone_of : List Waiter → List Waiter
gone_of waiters = flat_map (λ it. gone_if (has_gone it.by) it) waiters

-- as long as the connection is there, a form is kept for each that gave up
abbrev pub HasForms : Link → List Waiter → List Request → Type 0
HasForms Connecting waiters forms = gave_up_in waiters ≡ length forms
HasForms Connected waiters forms = gave_up_in waiters ≡ length forms
HasForms (Shut left) waiters forms = forms ≡ []

-- the forms once the response to this one was taken
abbrev pub forms_after : Asker → List Request → List Request
forms_after (GaveUp number) forms = drop 1 forms
forms_after _ forms = forms

-- the response to one that gave up is read by the first form
abbrev pub IsReadBy : Asker → Request → List Request → Type 0
IsReadBy (GaveUp number) request forms = slice_get forms 0 ≡ Some request
IsReadBy _ request forms = Unit {0}
