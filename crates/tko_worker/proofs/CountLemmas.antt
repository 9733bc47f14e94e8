-- What is counted where one client is served.
use Rattle.std.proofs.Common.{◌≡◌, ℕ, List, [], ◌∷◌, ◌++◌, true, sym, ap, ◌∙◌, Option, Some, None}
use Rattle.std.specs.Prelude.{is_some}
use Rattle.tko_text.specs.declared.request.Request.{Request}
use Rattle.tko_model.specs.Records.{Gains, Lead}
use Rattle.tko_model.proofs.RecordLemmas.{gains_append, gains_none}
use Rattle.tko_roster.specs.Rosters.{RosterState, session_at}
use Rattle.tko_mux.specs.declared.asking.Given.{Given}
use Rattle.tko_mux.specs.declared.asking.Given.TheVariants.{Input}
use Rattle.tko_mux.specs.declared.client.Client.{Client}
use Rattle.tko_mux.specs.declared.mux.delivery.Done.{Done}
use Rattle.tko_mux.specs.Asks.{AskingActs}
use Rattle.tko_mux.specs.Muxes.{IsMade, MuxState, SendEnds}
use Rattle.tko_port.specs.declared.guest.ClientEvent.TheVariants.{Leave, Serve}
use Rattle.tko_port.specs.declared.guest.Guest.{Guest}
use Rattle.tko_port.specs.declared.guest.SharedParts.{SharedParts}
use Rattle.tko_port.specs.declared.guest.Turned.{Turned}
use Rattle.tko_port.specs.declared.guest.Turned.TheVariants.{Ends}
use Rattle.tko_port.specs.declared.settling.End.{End}
use Rattle.tko_port.specs.declared.settling.End.TheVariants.{Memory}
use Rattle.tko_port.specs.Guests.{IsGuestCall}
use Rattle.tko_worker.specs.declared.ends.EndCounts.{EndCounts}
use Rattle.tko_worker.specs.Counts.{MuxAndEnds, counted_end}
use Rattle.tko_worker.specs.Serving.{ServeCounts}
use Rattle.tko_worker.specs.Serving as serving
use Rattle.tko_worker.specs.Workers.{AsksOn, DropEnds, HasLeft, HasReached, ListEnds, Sight, WasServed}
use Rattle.tko_worker.specs.Workers as worker

-- after a session was called it is still there
send_there : {S P I O : Type 0} (acts : AskingActs S P I O) (awaited : S → List ℕ)
    (asks_for : S → Option Request) (mid new : MuxState S P) (number due : ℕ) (asked : Option ℕ)
    (stopped : Option O) (now : Client S) → session_at mid.roster.slots number ≡ Some now
    → SendEnds acts awaited asks_for mid number asked due stopped new
    → is_some (session_at new.roster.slots number) ≡ true
send_there {S} {P} acts awaited asks_for mid new number due None stopped now here sends =
    ap (λ (m : MuxState S P). is_some (session_at m.roster.slots number)) sends.1 ∙ ap is_some here
send_there {S} {P} acts awaited asks_for mid new number due (Some server) None now here sends =
    ap (λ (r : RosterState (Client S) P). is_some (session_at r.slots number)) sends.kept
    ∙ ap is_some here
send_there acts awaited asks_for mid new number due (Some server) (Some did) now here sends =
    ap is_some sends.told.moved.after

pub made_there : {S P I O : Type 0} (acts : AskingActs S P I O) (awaited : S → List ℕ)
    (asks_for : S → Option Request) (old new : MuxState S P) (number due : ℕ) (given : Given I)
    (done : Done O) → IsMade acts awaited asks_for old number given due done new
    → is_some (session_at new.roster.slots number) ≡ is_some (session_at old.roster.slots number)
made_there acts awaited asks_for old new number due given done made =
    send_there acts awaited asks_for (record old { roster = made.mid }) new number due made.asked
    done.stopped made.called.now made.called.moved.after made.sends
    ∙ sym (ap is_some made.called.moved.before)

module _ {L T P : Type 0} (sight : Sight L T) (asks_for : Guest L T → Option Request)
    (number due : ℕ) where
  asked_lead : (old new : MuxState (Guest L T) (SharedParts P)) (asks : List (Done Turned))
      → Lead (AsksOn sight asks_for number due) old asks new
      → is_some (session_at new.roster.slots number) ≡ is_some (session_at old.roster.slots number)
  asked_lead old new [] same =
      ap (λ (m : MuxState (Guest L T) (SharedParts P)). is_some (session_at m.roster.slots number)) same
  asked_lead old new (done ∷ asks) (mid, first, rest) =
      asked_lead mid new asks rest
      ∙ made_there (IsGuestCall sight.0 sight.1 sight.2) (λ guest. sight.0 guest.talk) asks_for old
      mid number due (Input Serve) done first.made

  -- after a client was served it is still there
  pub served_there : (old new : MuxState (Guest L T) (SharedParts P))
      → WasServed sight asks_for old number due new
      → is_some (session_at new.roster.slots number) ≡ is_some (session_at old.roster.slots number)
  served_there old new was =
      made_there (IsGuestCall sight.0 sight.1 sight.2) (λ guest. sight.0 guest.talk) asks_for
      was.before new number due (Input Serve) was.done was.made
      ∙ asked_lead old was.before was.asks was.asked.leads

  -- a client that was served once was served
  pub once_served : (old new : MuxState (Guest L T) (SharedParts P)) (done : Done Turned)
      → IsMade (IsGuestCall sight.0 sight.1 sight.2) (λ guest. sight.0 guest.talk) asks_for old
      number (Input Serve) due done new
      → WasServed sight asks_for old number due new
  once_served old new done made = record {
    asks = [];
    before = old;
    asked = gains_none old;
    done = done;
    made = made;
  }

  -- and after it asked, and could go on
  pub served_on : (old mid new : MuxState (Guest L T) (SharedParts P)) (asks : List (Done Turned))
      → Gains (AsksOn sight asks_for number due) old asks mid
      → WasServed sight asks_for mid number due new → WasServed sight asks_for old number due new
  served_on old mid new asks asked was = record {
    asks = asks ++ was.asks;
    before = was.before;
    asked = gains_append asked was.asked;
    done = was.done;
    made = was.made;
  }

  pub counts_on : (old mid new : MuxState (Guest L T) (SharedParts P)) (at ends now : EndCounts)
      (asks : List (Done Turned)) → Gains (AsksOn sight asks_for number due) old asks mid
      → at ≡ ends → ServeCounts sight asks_for (mid, at) number due (new, now)
      → ServeCounts sight asks_for (old, ends) number due (new, now)
  unfolding served_on
  counts_on old mid new at ends now asks asked is (serving.stayed there same) =
      serving.stayed (there ∙ asked_lead old mid asks asked.leads) (same ∙ is)
  counts_on old mid new at ends now asks asked is (serving.ended why has counts) =
      serving.ended why (record {
        mid = has.mid;
        served = served_on old mid has.mid asks asked has.served;
        ends = has.ends;
        left = has.left;
      }) (counts ∙ ap (counted_end why) is)
  counts_on old mid new at ends now asks asked is (serving.lost has counts) =
      serving.lost (record {
        mid = has.mid;
        served = served_on old mid has.mid asks asked has.served;
        left = has.left;
      }) (counts ∙ ap (counted_end Memory) is)

  -- a client that was served, and is served again later, is not counted
  pub served_counts : (old new : MuxState (Guest L T) (SharedParts P)) (ends now : EndCounts)
      → WasServed sight asks_for old number due new → now ≡ ends
      → ServeCounts sight asks_for (old, ends) number due (new, now)
  served_counts old new ends now was same = serving.stayed (served_there old new was) same

module _ {L T P : Type 0} (sight : Sight L T) (asks_for : Guest L T → Option Request)
    (old mid new : MuxState (Guest L T) (SharedParts P)) (ends now : EndCounts) (number due : ℕ) where
  -- after its client was to leave, a number has one exactly if it had, unless that left
  reached_there : (why : End) → HasReached sight.2 (Leave why) mid number new
      → is_some (session_at new.roster.slots number) ≡ is_some (session_at mid.roster.slots number)
  reached_there why (worker.nobody none same) =
      ap (λ (m : MuxState (Guest L T) (SharedParts P)). is_some (session_at m.roster.slots number)) same
  reached_there why (worker.noted is) =
      ap is_some is.moved.after ∙ sym (ap is_some is.moved.before)

  stays_served : (was : WasServed sight asks_for old number due mid) (why : End)
      → DropEnds sight why (mid, ends) number (new, now)
      → (HasLeft sight.0 mid number new → now ≡ counted_end why ends
      → ServeCounts sight asks_for (old, ends) number due (new, now))
      → ServeCounts sight asks_for (old, ends) number due (new, now)
  stays_served was why (worker.kept none rests same) left =
      serving.stayed
      (ap (λ (p : MuxAndEnds L T P). is_some (session_at p.0.roster.slots number)) same
      ∙ served_there sight asks_for number due old mid was)
      (ap (λ (p : MuxAndEnds L T P). p.1) same)
  stays_served was why (worker.leaving kept here reached same) left =
      serving.stayed
      (reached_there why reached ∙ served_there sight asks_for number due old mid was) same
  stays_served was why (worker.left has counts) left = left has counts

  -- a client that was served ended
  pub served_ends : (was : WasServed sight asks_for old number due mid) (why : End)
      → was.done.did ≡ Ends why → DropEnds sight why (mid, ends) number (new, now)
      → ServeCounts sight asks_for (old, ends) number due (new, now)
  served_ends was why is drops =
      stays_served was why drops (λ has counts.
      serving.ended why (record { mid = mid; served = was; ends = is; left = has }) counts)

  pub once_ends : (done : Done Turned)
      → IsMade (IsGuestCall sight.0 sight.1 sight.2) (λ guest. sight.0 guest.talk) asks_for old
      number (Input Serve) due done mid
      → (why : End) → done.did ≡ Ends why → DropEnds sight why (mid, ends) number (new, now)
      → ServeCounts sight asks_for (old, ends) number due (new, now)
  unfolding once_served
  once_ends done made why is drops =
      served_ends (once_served sight asks_for number due old mid done made) why is drops

  -- a client that was served was to be served again
  pub served_listed : (numbers listed : List ℕ) → WasServed sight asks_for old number due mid
      → ListEnds sight (mid, ends) number [] numbers (new, now) listed
      → ServeCounts sight asks_for (old, ends) number due (new, now)
  served_listed numbers listed was (worker.waits is kept same) = absurd is
  served_listed numbers listed was (worker.listed is same) =
      serving.stayed
      (ap (λ (p : MuxAndEnds L T P). is_some (session_at p.0.roster.slots number)) same
      ∙ served_there sight asks_for number due old mid was)
      (ap (λ (p : MuxAndEnds L T P). p.1) same)
  served_listed numbers listed was (worker.lost is drops) =
      stays_served was Memory drops (λ has counts.
      serving.lost (record { mid = mid; served = was; left = has }) counts)
