-- How much is done for one client in a turn.
use Rattle.std.proofs.Common.{arith, ◌≡◌, ℕ, ◌+◌, ◌*◌, List, [], ◌∷◌, ◌++◌, ap, false, length}
use Rattle.std.proofs.Common.{length-append, refl, subst, sym}
use Rattle.std.specs.Prelude.{◌≤◌, Result, Ok, Err, Option, None, Some, sum_by, take}
use Rattle.std.proofs.Math.Nat.{mul-le-mul_right}
use Rattle.std.proofs.lemmas.List.{length-take-le}
use Rattle.std.proofs.lemmas.List.Sums.{sum_by-append}
use Rattle.tko_model.proofs.RecordLemmas.{gains_append, gains_none, gains_one}
use Rattle.tko_port.specs.declared.port.Read.{Read}
use Rattle.tko_port.specs.declared.port.Read.TheVariants.{Bytes, Ended as ReadEnded, Fault, Nothing}
use Rattle.tko_text.specs.declared.request.Request.{Request}
use Rattle.tko_port.specs.declared.settling.Settled.TheVariants.{Rests}
use Rattle.tko_port.specs.Rests.{CannotWrite, IsToRead, RestsAt, SettledAlone}
use Rattle.tko_port.specs.Ports.{PortState, ReadGives, WriteGives}
use Rattle.tko_port.specs.Shares.{IsServedWithin, times_gone}
use Rattle.tko_port.specs.Talks.{Talk, TalkItem, fed_as, went_as}

-- one round more reads as much more
more_room : (rounds room : ℕ) → rounds * room + room ≡ (rounds + 1) * room
more_room rounds room = omega arith

-- a read takes no more bytes than the buffer has room for
pub read_within : (old new : PortState) (buffer : List ℕ) (result : Read)
    → ReadGives old buffer result new → length new.read ≤ length old.read + length buffer
read_within old new buffer (Bytes count) gives =
    let len : length new.read ≡ length (old.read ++ take count buffer) =
    ap (λ (p : PortState). length p.read) gives.state in
    omega (
      arith,
      len,
      length-append old.read (take count buffer),
      length-take-le count buffer gives.within,
      gives.within,
    )
read_within old new buffer Nothing gives =
    let len = ap (λ (p : PortState). length p.read) gives in omega (arith, len)
read_within old new buffer ReadEnded gives =
    let len = ap (λ (p : PortState). length p.read) gives in omega (arith, len)
read_within old new buffer Fault gives =
    let len = ap (λ (p : PortState). length p.read) gives in omega (arith, len)

-- a write reads nothing
pub written_within : (old new : PortState) (text : List ℕ) (result : Option ℕ)
    → WriteGives old text result new → length new.read ≤ length old.read + 0
written_within old new text (Some count) gives =
    let len = ap (λ (p : PortState). length p.read) gives.state in omega (arith, len)
written_within old new text None gives =
    let len = ap (λ (p : PortState). length p.read) gives in omega (arith, len)

-- going on counts once, however it ends; being fed does not count
pub went_once : {E : Type 0} (result : Result (Option ℕ) E)
    → sum_by times_gone (went_as result ∷ []) ≤ 1
went_once (Ok asked) = omega arith
went_once (Err fault) = omega arith

pub fed_never : {A E : Type 0} (bytes : List ℕ) (result : Result A E)
    → sum_by times_gone (fed_as bytes result ∷ []) ≤ 0
fed_never bytes (Ok done) = omega arith
fed_never bytes (Err fault) = omega arith

module _ {S : Type 0} (does : S → TalkItem → S → Type 0) where
  -- nothing was done with the session
  pub only_port : (at : S) (times bytes : ℕ) (was port : PortState)
      → length port.read ≤ length was.read + bytes
      → IsServedWithin does times bytes at was at port
  only_port at times bytes was port read = record {
    items = [];
    done = gains_none at;
    gone = omega arith;
    read = read;
  }

  -- one thing was done
  pub one_done : {old new : S} (item : TalkItem) (times bytes : ℕ) (was port : PortState)
      → does old item new → sum_by times_gone (item ∷ []) ≤ times
      → length port.read ≤ length was.read + bytes
      → IsServedWithin does times bytes old was new port
  one_done item times bytes was port first gone read = record {
    items = item ∷ [];
    done = gains_one first;
    gone = gone;
    read = read;
  }

  -- this was done, and then that
  pub served_on : {old mid new : S} (times more all bytes others sum : ℕ) (was at port : PortState)
      → times + more ≤ all → bytes + others ≤ sum
      → IsServedWithin does times bytes old was mid at
      → IsServedWithin does more others mid at new port
      → IsServedWithin does all sum old was new port
  served_on times more all bytes others sum was at port fits within first then = record {
    items = first.items ++ then.items;
    done = gains_append first.done then.done;
    gone = omega (
      arith,
      fits,
      first.gone,
      then.gone,
      sum_by-append times_gone first.items then.items,
    );
    read = omega (arith, within, first.read, then.read);
  }

  -- a round more, in which as much was read at most as the buffer holds
  pub round_on : {old mid new : S} (rounds room here : ℕ) (was at port : PortState)
      → here ≡ room → IsServedWithin does rounds (rounds * room) old was mid at
      → IsServedWithin does 1 here mid at new port
      → IsServedWithin does (rounds + 1) ((rounds + 1) * room) old was new port
  round_on rounds room here was at port same first then =
      served_on rounds 1 (rounds + 1) (rounds * room) here ((rounds + 1) * room) was at port
      (omega arith) (omega (arith, same, more_room rounds room)) first then

  -- in fewer rounds than a turn has
  pub rounds_within : {old new : S} (rounds all room : ℕ) (was port : PortState) → rounds ≤ all
      → IsServedWithin does rounds (rounds * room) old was new port
      → IsServedWithin does all (all * room) old was new port
  rounds_within rounds all room was port fits served = record {
    items = served.items;
    done = served.done;
    gone = omega (arith, fits, served.gone);
    read = omega (arith, served.read, mul-le-mul_right {m = rounds} {n = all} room fits);
  }

-- a session that needs more input rests where nothing can be read
pub nothing_read : (talk : Talk) (awaited : List ℕ) (old new : PortState)
    (asks_for : Option Request) → IsToRead talk old → new ≡ record old { readable = false }
    → SettledAlone Rests awaited talk new asks_for
nothing_read talk awaited old new asks_for needs same = record {
  ends = subst (λ s. RestsAt s awaited talk.output new) (sym needs.needs) (
    ap (λ (p : PortState). p.readable) same,
    subst (λ p. CannotWrite talk.output p) (sym same) needs.cannot,
  );
  asks = refl;
  request = tt;
}
