-- What each call on a connection returns, and what it leaves.
use Rattle.std.specs.Prelude.{◌≡◌, ◌⊎◌, ℕ, Bool, true, false, List, [], Option, Some, None, Result, Ok, Err, slice_get}
use Rattle.tko_text.specs.declared.request.Request.{Request}
use Rattle.tko_text.specs.declared.response.Response.{Response}
use Rattle.tko_text.specs.declared.response.fault.ReadFault.TheVariants as fault
use Rattle.tko_text.specs.ResponseReads.{ReadsResponse}
use Rattle.tko_pipe.specs.declared.waiter.Asker.{Asker}
use Rattle.tko_pipe.specs.declared.waiter.Waiter.{Waiter}
use Rattle.tko_pipe.specs.declared.fates.Fate.{Fate}
use Rattle.tko_pipe.specs.declared.fates.ShutCause.{ShutCause}
use Rattle.tko_pipe.specs.declared.fates.ShutCause.TheVariants.{Silent, Late, Unreadable, Unasked, Memory}
use Rattle.tko_pipe.specs.Fates.{Leaving}
use Rattle.tko_pipe.specs.Lives.{leaving_in}
use Rattle.tko_pipe.specs.Waiters.{forms_after}
use Rattle.tko_pipe.specs.Pipes.{IsGot, IsLeft, IsShut, IsTaken, PipeState, is_asked, is_first_written, is_late, shutting}

-- after a read: the bytes wait to be taken; or the connection was shut, since nobody asked for
-- them, or since there was no memory for them
abbrev pub GotEnds : PipeState → List ℕ → ℕ → Result Unit ShutCause → PipeState → Type 0
GotEnds old bytes now (Ok done) new = IsGot old bytes now new
GotEnds old bytes now (Err Unasked) new =
    (is_first_written old.waiters old.unwritten ≡ false) × IsShut old (shutting old Unasked) new
GotEnds old bytes now (Err Memory) new = IsShut old (shutting old Memory) new
GotEnds old bytes now (Err _) new = ⊥

-- the connection stays as it is, if somebody can have asked for the bytes that are left, and else
-- it is shut
abbrev pub IsChecked : Bool → PipeState → PipeState → Type 0
IsChecked true mid new = new ≡ mid
IsChecked false mid new = IsShut mid (shutting mid Unasked) new

-- the first one is out, and what is left was asked for, or shuts the connection
abbrev pub EndsFirst : PipeState → Waiter → List Waiter → PipeState → Type 0
EndsFirst old waiter others new =
    IsChecked (is_asked old.unread others old.unwritten)
    (record old { waiters = others; forms = forms_after waiter.by old.forms }) new

-- the first that waited was answered
pub record IsFirstAnswered (old : PipeState) (request : Request) (by : Asker) (response : Response)
    (new : PipeState) : Type 0 where
  pub waiter : Waiter
  pub bytes : List ℕ
  pub mid : PipeState
  pub is_by : by ≡ waiter.by
  pub taken : IsTaken old
      (record { waiter = waiter; request = request; response = response; bytes = bytes }) mid
  pub checked : IsChecked (is_asked mid.unread mid.waiters mid.unwritten) mid new

-- after a take: the first was answered; or its response has not come yet; or the connection was
-- shut, since no response to this request came, or since there was no memory for it
abbrev pub TakeEnds : PipeState → Request → Result (Option (Asker × Response)) ShutCause → PipeState
    → Type 0
TakeEnds old request (Ok (Some taken)) new = IsFirstAnswered old request taken.0 taken.1 new
TakeEnds old request (Ok None) new =
    (new ≡ old) × ((old.unread ≡ []) ⊎ ReadsResponse request old.unread (Err fault.Short))
TakeEnds old request (Err Unreadable) new =
    ReadsResponse request old.unread (Err fault.Unreadable)
    × IsShut old (shutting old Unreadable) new
TakeEnds old request (Err Memory) new = IsShut old (shutting old Memory) new
TakeEnds old request (Err _) new = ⊥

-- the same where the first gave up: its response is read by the first form
pub record IsTakenByForm (old : PipeState)
    (result : Result (Option (Asker × Response)) ShutCause) (new : PipeState) : Type 0 where
  pub form : Request
  pub is_form : slice_get old.forms 0 ≡ Some form
  pub ends : TakeEnds old form result new

-- what shuts a connection whose first response is late at this moment
abbrev pub IsLateAt : ℕ → ShutCause → Type 0
IsLateAt now (Silent moment) = moment ≡ now
IsLateAt now (Late moment) = moment ≡ now
IsLateAt now _ = ⊥

-- whether the first response is late at this moment: if it is, the connection was shut
abbrev pub ExpireEnds : PipeState → ℕ → Option ShutCause → PipeState → Type 0
ExpireEnds old now None new = (is_late old now ≡ false) × (new ≡ old)
ExpireEnds old now (Some cause) new = IsLateAt now cause × IsShut old (shutting old cause) new

-- the first of those whose connection was shut left with this fate
pub record IsLeaving (old : PipeState) (by : Asker) (came : Fate) (new : PipeState) : Type 0 where
  pub it : Leaving
  pub is_by : by ≡ it.waiter.by
  pub is_fate : came ≡ it.came
  pub left : IsLeft old it new

-- the next that leaves, or none
abbrev pub LeaveEnds : PipeState → Option (Asker × Fate) → PipeState → Type 0
LeaveEnds old None new = (leaving_in old.link old.waiters ≡ []) × (new ≡ old)
LeaveEnds old (Some next) new = IsLeaving old next.0 next.1 new
