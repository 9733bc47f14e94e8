-- Who rests, and what was done, once one gave up.
use Rattle.std.proofs.Common.{◌≡◌, ℕ, List, refl, sym, ap, subst, ◌∙◌, Option, Some, None}
use Rattle.std.specs.Prelude.{Result, Ok, Err, IfOk}
use Rattle.tko_bytes.specs.declared.memory.NoMemory.{NoMemory}
use Rattle.tko_text.specs.declared.request.Request.{Request}
use Rattle.tko_mux.specs.declared.mux.delivery.Delivery.{Delivery}
use Rattle.tko_mux.specs.Giving.{AllWaitOn, GiveUpEnds, NextOf}
use Rattle.tko_mux.specs.Muxes.{MuxState, WaitsFor}
use Rattle.tko_port.specs.declared.guest.Guest.{Guest}
use Rattle.tko_port.specs.declared.guest.SharedParts.{SharedParts}
use Rattle.tko_port.specs.declared.guest.Turned.{Turned}
use Rattle.tko_port.specs.Guests.{IsGuestCall}
use Rattle.tko_worker.specs.declared.ends.EndCounts.{EndCounts}
use Rattle.tko_worker.specs.Acts.{HasActed, HaveActed}
use Rattle.tko_worker.specs.GivingUp.{HasGivenUpNext}
use Rattle.tko_worker.specs.Servers.{ListsReached}
use Rattle.tko_worker.specs.Workers.{OthersStayFor, Sight, WorkerState}
use Rattle.tko_worker.proofs.ActedLemmas.{acted_on, acted_same, made_acted, reached_acted}
use Rattle.tko_worker.proofs.RestLemmas.{made_others}

module _ {L T P : Type 0} (sight : Sight L T) (asks_for : Guest L T → Option Request)
    (waits_for : WaitsFor (Guest L T)) (has_next : NextOf (Guest L T)) where
  -- nobody else's session changes
  pub gave_others : (old new : MuxState (Guest L T) (SharedParts P)) (server now due : ℕ)
      (delivery : Delivery Turned)
      → GiveUpEnds (IsGuestCall sight.0 sight.1 sight.2) (λ guest. sight.0 guest.talk) asks_for
      waits_for has_next old server now due (Some delivery) new
      → OthersStayFor delivery old.roster.slots new.roster.slots
  gave_others old new server now due delivery gave =
      subst (λ d. OthersStayFor d old.roster.slots new.roster.slots) (sym gave.is)
      (made_others (IsGuestCall sight.0 sight.1 sight.2) (λ guest. sight.0 guest.talk) asks_for
      (record old { lines = gave.lines }) new gave.number due _ gave.done gave.made)

  gave_acted : (old new : MuxState (Guest L T) (SharedParts P)) (ends : EndCounts)
      (server now due : ℕ) (result : Option (Delivery Turned))
      → GiveUpEnds (IsGuestCall sight.0 sight.1 sight.2) (λ guest. sight.0 guest.talk) asks_for
      waits_for has_next old server now due result new
      → HaveActed sight (old.roster, ends) (new.roster, ends)
  gave_acted old new ends server now due None gave =
      acted_same sight (old.roster, ends) (new.roster, ends)
      (ap (λ (m : MuxState (Guest L T) (SharedParts P)). m.roster) gave.0) refl
  gave_acted old new ends server now due (Some delivery) gave =
      made_acted sight asks_for (record old { lines = gave.lines }) new ends gave.number due _
      gave.done gave.made

  pub given_acted : (old new : WorkerState L T P) (server now due : ℕ)
      (result : Option (Delivery Turned))
      → HasGivenUpNext sight asks_for waits_for has_next old server now due result new
      → HasActed sight old new
  given_acted old new server now due result given =
      acted_on sight (old.mux.roster, old.ends) (given.mid.roster, old.ends)
      (new.mux.roster, new.ends)
      (gave_acted old.mux given.mid old.ends server now due result given.gave)
      (reached_acted sight (given.mid, old.ends) (new.mux, new.ends) result old.spent old.touched
      new.touched given.listed)

  -- what came of the multiplexer's call, and whom it is told
  pub given_by : (inside old : WorkerState L T P) (mid mux : MuxState (Guest L T) (SharedParts P))
      (touched : List ℕ) (ends : EndCounts) (server now due : ℕ)
      (result : Result (Option (Delivery Turned)) NoMemory) (told : Option (Delivery Turned))
      → inside ≡ old → result ≡ Ok told
      → IfOk result (λ it. GiveUpEnds (IsGuestCall sight.0 sight.1 sight.2)
      (λ guest. sight.0 guest.talk) asks_for waits_for has_next inside.mux server now due it mid)
      → ListsReached sight (mid, inside.ends) told inside.spent inside.touched (mux, ends) touched
      → HasGivenUpNext sight asks_for waits_for has_next old server now due told
      (record { mux = mux; touched = touched; spent = inside.spent; ends = ends })
  given_by inside old mid mux touched ends server now due result told same is gave listed =
      subst (λ (w : WorkerState L T P). HasGivenUpNext sight asks_for waits_for has_next w server
      now due told (record { mux = mux; touched = touched; spent = inside.spent; ends = ends }))
      same
      (record {
        mid = mid;
        gave = subst (λ r. IfOk r (λ it. GiveUpEnds (IsGuestCall sight.0 sight.1 sight.2)
            (λ guest. sight.0 guest.talk) asks_for waits_for has_next inside.mux server now due it
            mid)) is gave;
        listed = listed;
        spent = refl;
      })

  same_worker : (old new : WorkerState L T P) → new.mux ≡ old.mux → new.touched ≡ old.touched
      → new.spent ≡ old.spent → new.ends ≡ old.ends → new ≡ old
  same_worker old new mux touched spent ends =
      ap (λ (m : MuxState (Guest L T) (SharedParts P)). record new { mux = m }) mux
      ∙ ap (λ (t : List ℕ). record new { mux = old.mux; touched = t }) touched
      ∙ ap (λ (t : List ℕ). record old { spent = t; ends = new.ends }) spent
      ∙ ap (λ (e : EndCounts). record old { ends = e }) ends

  none_gave : (old new : WorkerState L T P) (server now due : ℕ)
      → HasGivenUpNext sight asks_for waits_for has_next old server now due None new
      → (new ≡ old) × AllWaitOn has_next new.mux server now
  none_gave old new server now due given =
      let both = given.listed.0 in
      let mux : new.mux ≡ old.mux =
      ap (λ (p : MuxState (Guest L T) (SharedParts P) × EndCounts). p.0) both ∙ given.gave.0 in
      let ends : new.ends ≡ old.ends =
      ap (λ (p : MuxState (Guest L T) (SharedParts P) × EndCounts). p.1) both in (
        same_worker old new mux given.listed.1 given.spent ends,
        subst (λ (m : MuxState (Guest L T) (SharedParts P)). AllWaitOn has_next m server now)
            (sym mux) given.gave.1,
      )

  -- where nobody was to give up, nothing changed
  pub nobody_gave : (old new : WorkerState L T P) (server now due : ℕ)
      (told : Option (Delivery Turned))
      → HasGivenUpNext sight asks_for waits_for has_next old server now due told new
      → told ≡ None → (new ≡ old) × AllWaitOn has_next new.mux server now
  nobody_gave old new server now due told given is =
      none_gave old new server now due
      (subst (λ t. HasGivenUpNext sight asks_for waits_for has_next old server now due t new) is
      given)
