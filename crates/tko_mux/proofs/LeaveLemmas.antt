-- Who leaves a line, and what becomes of the request.
use Rattle.std.proofs.Common.{◌≡◌, ℕ, ◌<◌, List, [], ◌∷◌, ◌++◌, refl, sym, ap, subst, ◌∙◌, length, Option}
use Rattle.std.proofs.Common.{Some, None}
use Rattle.std.specs.Prelude.{slice_get, slice_set, slice_index_or}
use Rattle.tko_text.specs.declared.request.Request.{Request}
use Rattle.tko_pipe.specs.declared.waiter.Waiter.{Waiter}
use Rattle.tko_pipe.specs.declared.fates.Fate.{Fate}
use Rattle.tko_pipe.specs.declared.link.Link.{Link}
use Rattle.tko_pipe.specs.declared.link.Link.TheVariants.{Connected, Connecting, Shut}
use Rattle.tko_pipe.specs.Lives.{leaving_in}
use Rattle.tko_pipe.specs.Pipes.{PipeState}
use Rattle.tko_pipe.specs.declared.waiter.Asker.{Asker}
use Rattle.tko_roster.proofs.SlotLemmas.{at_index, get_set_same}
use Rattle.tko_mux.specs.declared.asking.Came.TheVariants as came
use Rattle.tko_mux.specs.declared.mux.delivery.Delivery.{Delivery}
use Rattle.tko_mux.specs.Asks.{AskingActs}
use Rattle.tko_mux.specs.Lines.{LineLeaves, LineState, WasShut, waiters, pipe_waiters}
use Rattle.tko_mux.specs.Linking.{AreLinked, IsFree, awaited_at, waiters_at}
use Rattle.tko_mux.specs.Muxes.{HasNoneLeaving, IsDelivered, IsTold, MuxState}
use Rattle.tko_mux.proofs.LineLemmas.{left_leaves}
use Rattle.tko_mux.proofs.ReadLemmas.{one_free}

nobody_in : (link : Link) (waiters : List Waiter) → WasShut link
    → leaving_in link waiters ≡ [] → waiters ≡ []
nobody_in Connecting waiters shut none = absurd shut
nobody_in Connected waiters shut none = absurd shut
nobody_in (Shut left) [] shut none = refl
nobody_in (Shut left) (it ∷ others) shut none = absurd (let f : ⊥ = cc none in f)

-- where nobody leaves a connection that was shut, nobody waits on it
pub nobody_left : (pipe : PipeState) → WasShut pipe.link → leaving_in pipe.link pipe.waiters ≡ []
    → pipe.waiters ≡ []
nobody_left pipe shut none = nobody_in pipe.link pipe.waiters shut none

-- one that left is free to take what became of its request
pub left_free : {S P : Type 0} (awaited : S → List ℕ) (p old : MuxState S P) (server : ℕ)
    (by : Asker) (fate : Fate) (was now : LineState) (left : Option (Asker × Fate)) → p ≡ old
    → server < length p.lines → was ≡ slice_index_or p.lines server was
    → AreLinked awaited old.roster.slots old.lines → LineLeaves was left now
    → left ≡ Some (by, fate)
    → IsFree (awaited_at awaited p.roster.slots) (waiters_at (slice_set p.lines server now)) server
    by
left_free {S} {P} awaited p old server by fate was now left same below read linked leaves is =
    let step : LineLeaves was (Some (by, fate)) now =
    subst (λ (l : Option (Asker × Fate)). LineLeaves was l now) is leaves in
    one_free awaited p old server by was now same below read linked
    (left_leaves was now by fate step)

-- the one that left was told
pub left_told : {S P I O : Type 0} (acts : AskingActs S P I O) (awaited : S → List ℕ)
    (asks_for : S → Option Request) (p old : MuxState S P) (server due : ℕ) (was now : LineState)
    (by : Asker) (fate : Fate) (left : Option (Asker × Fate)) (delivery : Delivery O)
    (new : MuxState S P) → p ≡ old → server < length p.lines
    → was ≡ slice_index_or p.lines server was → LineLeaves was left now → left ≡ Some (by, fate)
    → IsDelivered acts awaited asks_for (record p { lines = slice_set p.lines server now }) server
    by (came.Fate fate) due delivery new
    → IsTold acts awaited asks_for old server due delivery new
left_told {S} {P} {I} {O} acts awaited asks_for p old server due was now by fate left delivery new
    same below read leaves is reaches =
    let Told : MuxState S P → Type 0 = λ m.
    IsTold acts awaited asks_for m server due delivery new in
    subst Told same (record {
      by = by;
      fate = fate;
      lines = slice_set p.lines server now;
      on = record {
        was = was;
        now = now;
        from = at_index p.lines server was below read;
        ends = subst (λ (l : Option (Asker × Fate)). LineLeaves was l now) is leaves;
        to = refl;
      };
      reaches = reaches;
    })

-- nobody left
pub none_left : (was now : LineState) (left : Option (Asker × Fate)) → LineLeaves was left now
    → left ≡ None → waiters now ≡ waiters was
none_left was now left leaves is =
    let none : LineLeaves was None now =
    subst (λ (l : Option (Asker × Fate)). LineLeaves was l now) is leaves in
    ap waiters none.1
    ∙ ap (λ (w : List Waiter). w ++ pipe_waiters was.pipe) (sym none.0)

pub none_leave_now : (lines : List LineState) (server : ℕ) (was now : LineState)
    (left : Option (Asker × Fate)) → server < length lines → LineLeaves was left now → left ≡ None
    → HasNoneLeaving (slice_get (slice_set lines server now) server)
none_leave_now lines server was now left below leaves is =
    let none : LineLeaves was None now =
    subst (λ (l : Option (Asker × Fate)). LineLeaves was l now) is leaves in
    subst HasNoneLeaving (sym (get_set_same lines server now below))
    (ap (λ (line : LineState). line.ended) none.1)
