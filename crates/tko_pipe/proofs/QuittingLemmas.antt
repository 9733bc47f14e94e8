-- Those that gave up were behind the front, and their time limit had passed.
use Rattle.std.proofs.Common.{◌≡◌, ◌≢◌, ◌≤◌, List, [], ◌∷◌, refl, sym, ap, subst, ◌∙◌, length, take, slice_index_or}
use Rattle.std.specs.Prelude.{All, flat_map}
use Rattle.std.proofs.lemmas.List.{get_or_at, take_at}
use Rattle.std.proofs.lemmas.List.Elements.{All-cons, All-nil}
use Rattle.std.proofs.lemmas.Option.{get_or_from_slice_get}
use Rattle.tko_model.specs.Records.{Lead}
use Rattle.tko_pipe.specs.declared.waiter.Waiter.{Waiter}
use Rattle.tko_pipe.specs.Giving.{GivingUp, AskedOnce, IsPlaceGivenUp}
use Rattle.tko_pipe.specs.Lives.{GaveUp, Got, IsPipeStep, IsQuitting, Left, PipeItem, Pushed, Took}
use Rattle.tko_pipe.specs.Lives.{WasConnected, WasShut, Wrote, giving_in}
use Rattle.tko_pipe.specs.Pipes.{PipeState}

-- one that gives up
quits : (old new : PipeState) (it : GivingUp) → IsPlaceGivenUp old it new → IsQuitting it
quits old new it step =
    let may = step.may in
    let place = length it.before in
    let same : may.waiter ≡ it.waiter =
    sym (get_or_from_slice_get old.waiters place may.waiter it.waiter may.at)
    ∙ ap (λ (w : List Waiter). slice_index_or w place it.waiter) step.waiters
    ∙ get_or_at it.before it.waiter it.after it.waiter place refl in
    let front : take place old.waiters ≡ it.before =
    ap (take place) step.waiters ∙ take_at it.before (it.waiter ∷ it.after) place refl in
    let alone : AskedOnce old.waiters place it.waiter.by =
    subst (λ (w : Waiter). AskedOnce old.waiters place w.by) same may.alone in
    record {
      behind = may.behind;
      due = subst (λ (w : Waiter). w.due ≤ it.now) same may.due;
      alone = subst (All (λ one. one.by ≢ it.waiter.by)) front alone;
    }

pub all_quit : (old new : PipeState) (items : List PipeItem) → Lead IsPipeStep old items new
    → All IsQuitting (flat_map giving_in items)
all_quit old new [] same = All-nil IsQuitting
all_quit old new (WasConnected ∷ items) (mid, step, more) = all_quit mid new items more
all_quit old new (Pushed it ∷ items) (mid, step, more) = all_quit mid new items more
all_quit old new (Wrote bytes ∷ items) (mid, step, more) = all_quit mid new items more
all_quit old new (Got bytes now ∷ items) (mid, step, more) = all_quit mid new items more
all_quit old new (Took it ∷ items) (mid, step, more) = all_quit mid new items more
all_quit old new (GaveUp it ∷ items) (mid, step, more) =
    All-cons IsQuitting it (flat_map giving_in items) (quits old mid it step)
    (all_quit mid new items more)
all_quit old new (WasShut it ∷ items) (mid, step, more) = all_quit mid new items more
all_quit old new (Left it ∷ items) (mid, step, more) = all_quit mid new items more
