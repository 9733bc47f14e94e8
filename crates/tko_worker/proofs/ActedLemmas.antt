-- What the clients of a worker did by a call.
use Rattle.std.proofs.Common.{◌≡◌, ℕ, List, [], ◌∷◌, ◌++◌, refl, sym, ap, subst, Option, Some, None}
use Rattle.std.specs.Prelude.{IfNone, IfSome, Result, Ok, Err}
use Rattle.tko_model.proofs.RecordLemmas.{gains_append, gains_none, gains_one}
use Rattle.tko_text.specs.declared.request.Request.{Request}
use Rattle.tko_text.specs.declared.response.Response.{Response}
use Rattle.tko_pipe.specs.declared.fates.ShutCause.{ShutCause}
use Rattle.tko_pipe.specs.declared.waiter.Asker.{Asker}
use Rattle.tko_roster.specs.Rosters.{Acted, Admitted, Released, RosterState}
use Rattle.tko_roster.specs.Tagged.{tagged}
use Rattle.tko_mux.specs.declared.asking.Came.{Came}
use Rattle.tko_mux.specs.declared.asking.Given.{Given}
use Rattle.tko_mux.specs.declared.asking.Given.TheVariants.{Input, Outcome}
use Rattle.tko_mux.specs.declared.client.Client.{Client}
use Rattle.tko_mux.specs.declared.mux.delivery.Delivery.{Delivery}
use Rattle.tko_mux.specs.declared.mux.delivery.Delivery.TheVariants.{Dropped, Probed, Reached}
use Rattle.tko_mux.specs.declared.mux.delivery.Done.{Done}
use Rattle.tko_mux.specs.declared.asking.Came.TheVariants.{Unsent}
use Rattle.tko_mux.specs.Muxes.{GoesToClient, IsDelivered, IsMade, MuxState, SendEnds, TellEnds, WaitsFor}
use Rattle.tko_port.specs.declared.guest.ClientEvent.{ClientEvent}
use Rattle.tko_port.specs.declared.guest.ClientEvent.TheVariants.{Leave}
use Rattle.tko_port.specs.declared.guest.Turned.TheVariants as turned
use Rattle.tko_port.specs.declared.guest.Guest.{Guest}
use Rattle.tko_port.specs.declared.guest.SharedParts.{SharedParts}
use Rattle.tko_port.specs.declared.guest.Turned.{Turned}
use Rattle.tko_port.specs.declared.settling.End.{End}
use Rattle.tko_port.specs.Guests.{IsGuestCall}
use Rattle.tko_worker.specs.declared.ends.EndCounts.{EndCounts}
use Rattle.tko_worker.specs.Acts.{HasActed, HaveActed, RosterAndEnds}
use Rattle.tko_worker.specs.Changes.{OnlyLinesChange}
use Rattle.tko_worker.specs.Counts.{MuxAndEnds}
use Rattle.tko_worker.specs.Servers.{HasLeftNext, HasResponseTaken, ListsReached}
use Rattle.tko_worker.specs.Workers.{DropEnds, IsClientOpened, ListEnds, Sight, WorkerState}
use Rattle.tko_worker.specs.Workers as worker
use Rattle.tko_worker.proofs.NotedLemmas.{leave_acts}

-- nobody did anything
pub acted_none : {L T P : Type 0} (sight : Sight L T) (at : RosterAndEnds L T P)
    → HaveActed sight at at
acted_none sight at = record { acts = []; gains = gains_none at }

pub acted_on : {L T P : Type 0} (sight : Sight L T) (one two three : RosterAndEnds L T P)
    → HaveActed sight one two → HaveActed sight two three → HaveActed sight one three
acted_on sight one two three first second = record {
  acts = first.acts ++ second.acts;
  gains = gains_append first.gains second.gains;
}

pub acted_same : {L T P : Type 0} (sight : Sight L T) (old new : RosterAndEnds L T P)
    → new.0 ≡ old.0 → new.1 ≡ old.1 → HaveActed sight old new
acted_same {L} {T} {P} sight old new roster ends =
    subst (λ (r : RosterState (Client (Guest L T)) (SharedParts P)). HaveActed sight old (r, new.1))
    (sym roster)
    (subst (λ (e : EndCounts). HaveActed sight old (old.0, e)) (sym ends) (acted_none sight old))

-- one call after another of a worker
pub worker_acted_on : {L T P : Type 0} (sight : Sight L T) (one two three : WorkerState L T P)
    → HasActed sight one two → HasActed sight two three → HasActed sight one three
worker_acted_on sight one two three first second =
    acted_on sight (one.mux.roster, one.ends) (two.mux.roster, two.ends)
    (three.mux.roster, three.ends) first second

-- nobody, where only the lines to the servers change
pub lines_acted : {L T P : Type 0} (sight : Sight L T) (old new : WorkerState L T P)
    → OnlyLinesChange old new → HasActed sight old new
lines_acted sight old new only =
    acted_same sight (old.mux.roster, old.ends) (new.mux.roster, new.ends) only.roster only.ends

-- one call after another, and then only the lines to the servers change
pub acted_on_lines : {L T P : Type 0} (sight : Sight L T) (one two three four : WorkerState L T P)
    → HasActed sight one two → HasActed sight two three → OnlyLinesChange three four
    → HasActed sight one four
acted_on_lines sight one two three four first second only =
    worker_acted_on sight one three four (worker_acted_on sight one two three first second)
    (lines_acted sight three four only)

-- where memory ran out for a request, its session is called once more
send_acted : {L T P : Type 0} (sight : Sight L T) (asks_for : Guest L T → Option Request)
    (mid new : MuxState (Guest L T) (SharedParts P)) (ends : EndCounts) (number due : ℕ)
    (asked : Option ℕ) (stopped : Option Turned)
    → SendEnds (IsGuestCall sight.0 sight.1 sight.2) (λ guest. sight.0 guest.talk) asks_for mid
    number
    asked due stopped new
    → HaveActed sight (mid.roster, ends) (new.roster, ends)
send_acted {L} {T} {P} sight asks_for mid new ends number due None stopped sends =
    acted_same sight (mid.roster, ends) (new.roster, ends)
    (ap (λ (m : MuxState (Guest L T) (SharedParts P)). m.roster) sends.1) refl
send_acted sight asks_for mid new ends number due (Some server) None sends =
    acted_same sight (mid.roster, ends) (new.roster, ends) sends.kept refl
send_acted sight asks_for mid new ends number due (Some server) (Some did) sends = record {
  acts = tagged number (Acted (Outcome server Unsent, (None, did))) ∷ [];
  gains = gains_one (sends.told, refl);
}

pub made_acted : {L T P : Type 0} (sight : Sight L T) (asks_for : Guest L T → Option Request)
    (old new : MuxState (Guest L T) (SharedParts P)) (ends : EndCounts) (number due : ℕ)
    (given : Given ClientEvent) (done : Done Turned)
    → IsMade (IsGuestCall sight.0 sight.1 sight.2) (λ guest. sight.0 guest.talk) asks_for old number
    given due done new
    → HaveActed sight (old.roster, ends) (new.roster, ends)
made_acted sight asks_for old new ends number due given done made =
    acted_on sight (old.roster, ends) (made.mid, ends) (new.roster, ends)
    (record {
      acts = tagged number (Acted (given, (made.asked, done.did))) ∷ [];
      gains = gains_one (made.called, refl);
    })
    (send_acted sight asks_for (record old { roster = made.mid }) new ends number due made.asked
    done.stopped made.sends)

-- a call, if the number has a client
pub act_acted : {L T P : Type 0} (sight : Sight L T) (asks_for : Guest L T → Option Request)
    (old new : MuxState (Guest L T) (SharedParts P)) (ends : EndCounts) (number due : ℕ)
    (given : Given ClientEvent) (result : Option (Done Turned))
    → IfSome result (λ done. IsMade (IsGuestCall sight.0 sight.1 sight.2)
    (λ guest. sight.0 guest.talk) asks_for old number given due done new)
    → IfNone result (new ≡ old) → HaveActed sight (old.roster, ends) (new.roster, ends)
act_acted {L} {T} {P} sight asks_for old new ends number due given None made kept =
    acted_same sight (old.roster, ends) (new.roster, ends)
    (ap (λ (m : MuxState (Guest L T) (SharedParts P)). m.roster) kept) refl
act_acted sight asks_for old new ends number due given (Some done) made kept =
    made_acted sight asks_for old new ends number due given done made

-- a client that was to leave
pub dropped_acted : {L T P : Type 0} (sight : Sight L T) (why : End) (old new : MuxAndEnds L T P)
    (number : ℕ) → DropEnds sight why old number new
    → HaveActed sight (old.0.roster, old.1) (new.0.roster, new.1)
dropped_acted {L} {T} {P} sight why old new number (worker.kept none rests same) =
    subst (λ (m : MuxAndEnds L T P). HaveActed sight (old.0.roster, old.1) (m.0.roster, m.1))
    (sym same) (acted_none sight (old.0.roster, old.1))
dropped_acted {L} {T} {P} sight why old new number (worker.leaving kept here
    (worker.nobody none same) ends) =
    acted_same sight (old.0.roster, old.1) (new.0.roster, new.1)
    (ap (λ (m : MuxState (Guest L T) (SharedParts P)). m.roster) same) ends
dropped_acted {L} {T} {P} sight why old new number (worker.leaving kept here (worker.noted is) ends) =
    record {
      acts = tagged number (Acted (Input (Leave why), (None, turned.Noted))) ∷ [];
      gains = gains_one (leave_acts sight why old.0 new.0 number is, ends);
    }
dropped_acted sight why old new number (worker.left has counts) = record {
  acts = tagged number (Released has.client) ∷ [];
  gains = gains_one (has.released, (why, counts));
}

-- a client was noted
pub listed_acted : {L T P : Type 0} (sight : Sight L T) (old new : MuxAndEnds L T P) (number : ℕ)
    (off numbers now : List ℕ) → ListEnds sight old number off numbers new now
    → HaveActed sight (old.0.roster, old.1) (new.0.roster, new.1)
listed_acted {L} {T} {P} sight old new number off numbers now (worker.listed is same) =
    subst (λ (m : MuxAndEnds L T P). HaveActed sight (old.0.roster, old.1) (m.0.roster, m.1))
    (sym same) (acted_none sight (old.0.roster, old.1))
listed_acted {L} {T} {P} sight old new number off numbers now (worker.waits is kept same) =
    subst (λ (m : MuxAndEnds L T P). HaveActed sight (old.0.roster, old.1) (m.0.roster, m.1))
    (sym same) (acted_none sight (old.0.roster, old.1))
listed_acted sight old new number off numbers now (worker.lost is drops) =
    dropped_acted sight _ old new number drops

-- the same of the client that something reached
pub reached_acted : {L T P : Type 0} (sight : Sight L T) (old new : MuxAndEnds L T P)
    (delivery : Option (Delivery Turned)) (off numbers now : List ℕ)
    → ListsReached sight old delivery off numbers new now
    → HaveActed sight (old.0.roster, old.1) (new.0.roster, new.1)
reached_acted {L} {T} {P} sight old new None off numbers now is =
    subst (λ (m : MuxAndEnds L T P). HaveActed sight (old.0.roster, old.1) (m.0.roster, m.1))
    (sym is.0) (acted_none sight (old.0.roster, old.1))
reached_acted sight old new (Some (Reached number done)) off numbers now is =
    listed_acted sight old new number off numbers now is
reached_acted {L} {T} {P} sight old new (Some (Probed it)) off numbers now is =
    subst (λ (m : MuxAndEnds L T P). HaveActed sight (old.0.roster, old.1) (m.0.roster, m.1))
    (sym is.0) (acted_none sight (old.0.roster, old.1))
reached_acted {L} {T} {P} sight old new (Some (Dropped number)) off numbers now is =
    subst (λ (m : MuxAndEnds L T P). HaveActed sight (old.0.roster, old.1) (m.0.roster, m.1))
    (sym is.0) (acted_none sight (old.0.roster, old.1))

delivered_acted : {L T P : Type 0} (sight : Sight L T) (asks_for : Guest L T → Option Request)
    (old new : MuxState (Guest L T) (SharedParts P)) (ends : EndCounts) (server : ℕ) (by : Asker)
    (what : Came) (due : ℕ) (delivery : Delivery Turned)
    → IsDelivered (IsGuestCall sight.0 sight.1 sight.2) (λ guest. sight.0 guest.talk) asks_for old
    server by what due delivery new
    → HaveActed sight (old.roster, ends) (new.roster, ends)
delivered_acted sight asks_for old new ends server by what due (Reached number done) is =
    made_acted sight asks_for old new ends number due _ done is.1
delivered_acted {L} {T} {P} sight asks_for old new ends server by what due (Probed it) is =
    acted_same sight (old.roster, ends) (new.roster, ends)
    (ap (λ (m : MuxState (Guest L T) (SharedParts P)). m.roster) is.2) refl
delivered_acted {L} {T} {P} sight asks_for old new ends server by what due (Dropped number) is =
    acted_same sight (old.roster, ends) (new.roster, ends)
    (ap (λ (m : MuxState (Guest L T) (SharedParts P)). m.roster) is.1) refl

reads_acted : {L T P : Type 0} (sight : Sight L T) (asks_for : Guest L T → Option Request)
    (mid new : MuxState (Guest L T) (SharedParts P)) (ends : EndCounts) (server due : ℕ)
    (taken : Result (Option (Asker × Response)) ShutCause)
    (result : Result (Option (Delivery Turned)) ShutCause)
    → GoesToClient (IsGuestCall sight.0 sight.1 sight.2) (λ guest. sight.0 guest.talk) asks_for mid server
    taken due result new
    → HaveActed sight (mid.roster, ends) (new.roster, ends)
reads_acted {L} {T} {P} sight asks_for mid new ends server due (Ok None) result reaches =
    acted_same sight (mid.roster, ends) (new.roster, ends)
    (ap (λ (m : MuxState (Guest L T) (SharedParts P)). m.roster) reaches.1) refl
reads_acted {L} {T} {P} sight asks_for mid new ends server due (Err cause) result reaches =
    acted_same sight (mid.roster, ends) (new.roster, ends)
    (ap (λ (m : MuxState (Guest L T) (SharedParts P)). m.roster) reaches.1) refl
reads_acted sight asks_for mid new ends server due (Ok (Some found)) result reaches =
    delivered_acted sight asks_for mid new ends server found.0 _ due reaches.0 reaches.2

-- a response was looked for
pub taken_acted : {L T P : Type 0} (sight : Sight L T) (asks_for : Guest L T → Option Request)
    (waits_for : WaitsFor (Guest L T)) (old new : WorkerState L T P) (server due : ℕ)
    (result : Result (Option (Delivery Turned)) ShutCause)
    → HasResponseTaken sight asks_for waits_for old server due result new → HasActed sight old new
taken_acted sight asks_for waits_for old new server due result taken =
    let read = taken.read in
    acted_on sight (old.mux.roster, old.ends) (taken.mid.roster, old.ends)
    (new.mux.roster, new.ends)
    (reads_acted sight asks_for (record old.mux { lines = read.lines }) taken.mid old.ends server
    due read.taken result read.reaches)
    (reached_acted sight (taken.mid, old.ends) (new.mux, new.ends) _ old.spent old.touched new.touched
    taken.listed)

leaves_acted : {L T P : Type 0} (sight : Sight L T) (asks_for : Guest L T → Option Request)
    (old new : MuxState (Guest L T) (SharedParts P)) (ends : EndCounts) (server due : ℕ)
    (result : Option (Delivery Turned))
    → TellEnds (IsGuestCall sight.0 sight.1 sight.2) (λ guest. sight.0 guest.talk) asks_for old
    server due result new
    → HaveActed sight (old.roster, ends) (new.roster, ends)
leaves_acted sight asks_for old new ends server due None left =
    acted_same sight (old.roster, ends) (new.roster, ends) left.1 refl
leaves_acted sight asks_for old new ends server due (Some delivery) told =
    delivered_acted sight asks_for (record old { lines = told.lines }) new ends server told.by _ due
    delivery told.reaches

-- the next that waited on a connection that was shut was told
pub left_acted : {L T P : Type 0} (sight : Sight L T) (asks_for : Guest L T → Option Request)
    (old new : WorkerState L T P) (server due : ℕ) (result : Option (Delivery Turned))
    → HasLeftNext sight asks_for old server due result new → HasActed sight old new
left_acted sight asks_for old new server due result left =
    acted_on sight (old.mux.roster, old.ends) (left.mid.roster, old.ends) (new.mux.roster, new.ends)
    (leaves_acted sight asks_for old.mux left.mid old.ends server due result left.left)
    (reached_acted sight (left.mid, old.ends) (new.mux, new.ends) result old.spent old.touched
    new.touched left.listed)

-- a client came
pub opened_acted : {L T P : Type 0} (sight : Sight L T) (old new : WorkerState L T P) (port : L)
    (talk : T) (number : ℕ) → IsClientOpened sight old port talk number new → HasActed sight old new
opened_acted sight old new port talk number is =
    acted_on sight (old.mux.roster, old.ends) (is.mid.roster, old.ends) (new.mux.roster, new.ends)
    (record {
      acts = tagged number (Admitted _) ∷ [];
      gains = gains_one (is.admitted, refl);
    })
    (listed_acted sight (is.mid, old.ends) (new.mux, new.ends) number old.spent old.touched
    new.touched is.listed)
