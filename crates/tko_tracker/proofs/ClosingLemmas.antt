-- Seats that meet and seats that are joined, and what a closed tracker leaves.
use Rattle.std.proofs.Common.{◌≡◌, ℕ, suc, List, [], ◌∷◌, ◌++◌, map, length, All, refl, sym, ap}
use Rattle.std.proofs.Common.{◌∙◌, ◌<◌, arith, subst}
use Rattle.std.proofs.lemmas.List.{append-nil, append_assoc, length-map}
use Rattle.std.proofs.lemmas.List.Elements.{All-append, All-cons, All-head, All-nil, All-tail}
use Rattle.atomic_table.specs.declared.shared.Seat.{Seat}
use Rattle.tko_steps.specs.declared.phase.ThreadState.TheVariants.{Idle}
use Rattle.tko_steps.specs.Core.{drawn_number}
use Rattle.tko_table.specs.declared.pass.Change.{Change}
use Rattle.tko_table.specs.declared.pass.PassView.{PassView}
use Rattle.tko_table.specs.Closing.{ClosedContents, IsDone, IsLeftByThreads}
use Rattle.tko_table.specs.History.{Begins, Replays, changes_in}
use Rattle.tko_table.specs.Passes.{StandsIn, HasItsChanges, pending}
use Rattle.tko_table.specs.Steps.{view_of}
use Rattle.tko_tracker.specs.Closing.{AreJoined, AreSame, IsFinal, IsSame, HasItsCalls}
use Rattle.tko_model.specs.Tracker.{opened}
use Rattle.tko_table.proofs.OpeningLemmas.{nothing-made}
use Rattle.tko_tracker.specs.Seated.{ArePasses, HasIdlePass, IsOf, Seated, TrackerId, first_pass}
use Rattle.tko_tracker.specs.Seated.{seated}

-- ---- passes that stay the same

same-refl : (pass : PassView) → IsSame pass pass
same-refl pass = record { state = refl; mine = refl; seen = refl; settings = refl }

are-refl : (passes : List PassView) → AreSame passes passes
are-refl [] = tt
are-refl (pass ∷ passes) = (same-refl pass, are-refl passes)

pub are-length : (one two : List PassView) → AreSame one two → length one ≡ length two
are-length [] [] are = refl
are-length [] (two ∷ twos) are = absurd are
are-length (one ∷ ones) [] are = absurd are
are-length (one ∷ ones) (two ∷ twos) are = ap suc (are-length ones twos are.1)

-- ---- seats that are joined one after another

abbrev pub pass_of : Seated → PassView
pass_of it = it.pass

-- the view has the first of these passes, and the others are left
pub record IsGathered (passes : List Seated) (view : List PassView)
    (left : List Seated) : Type 0 where
  pub same : AreSame (map pass_of passes) (view ++ map pass_of left)
  pub done : All IsDone view

done-first : (number : ℕ) (seat : Seat (Unit {0}) (List PassView)) (value : Seated)
    → HasIdlePass number seat → seated seat ≡ value
    → (view_of seat ≡ value.pass ∷ []) × All IsDone (view_of seat)
done-first number seat value has is =
    let alone : view_of seat ≡ value.pass ∷ [] =
    has.has.alone ∙ ap (λ (it : Seated). it.pass ∷ []) is in
    let done : IsDone (first_pass (view_of seat)) =
    record { number = number; idle = has.has.idle.state; none = has.none } in (
      alone,
      subst (All IsDone) (sym has.has.alone)
          (All-cons IsDone (first_pass (view_of seat)) [] done (All-nil IsDone)),
    )

pub gathered-first : (passes left : List Seated) (number : ℕ)
    (seat : Seat (Unit {0}) (List PassView)) (value : Seated) → HasIdlePass number seat
    → seated seat ≡ value → passes ≡ value ∷ left → IsGathered passes (view_of seat) left
gathered-first passes left number seat value has is all =
    let first = done-first number seat value has is in
    record {
      same = subst (λ it. AreSame (map pass_of passes) (it ++ map pass_of left)) (sym first.0)
          (subst (λ it. AreSame (map pass_of it) (value.pass ∷ map pass_of left)) (sym all)
          (are-refl (value.pass ∷ map pass_of left)));
      done = first.1;
    }

pub gathered-next : (passes left rest : List Seated) (view new : List PassView) (number : ℕ)
    (seat : Seat (Unit {0}) (List PassView)) (value : Seated)
    → IsGathered passes view left → HasIdlePass number seat → seated seat ≡ value
    → left ≡ value ∷ rest → new ≡ view ++ view_of seat
    → IsGathered passes new rest
gathered-next passes left rest view new number seat value gathered has is next made =
    let first = done-first number seat value has is in
    let both : List PassView = view ++ view_of seat in
    let as_left : view ++ map pass_of left ≡ both ++ map pass_of rest =
    ap (λ it. view ++ map pass_of it) next
    ∙ sym (append_assoc view (value.pass ∷ []) (map pass_of rest))
    ∙ ap (λ it. (view ++ it) ++ map pass_of rest) (sym first.0) in
    record {
      same = subst (λ it. AreSame (map pass_of passes) (it ++ map pass_of rest)) (sym made)
          (subst (AreSame (map pass_of passes)) as_left gathered.same);
      done = subst (All IsDone) (sym made)
          (All-append IsDone view (view_of seat) gathered.done first.1);
    }

-- the first seat, of a pass of this tracker
pub gathered-start : (tracker : TrackerId) (passes left : List Seated) (number : ℕ)
    (seat : Seat (Unit {0}) (List PassView)) (value : Seated)
    → HasIdlePass number seat → seated seat ≡ value → passes ≡ value ∷ left
    → All (IsOf tracker) passes
    → IsGathered passes (view_of seat) left × (seat.table_id ≡ tracker.table)
    × All (IsOf tracker) left
gathered-start tracker passes left number seat value has is all of =
    let of_all = subst (All (IsOf tracker)) all of in (
      gathered-first passes left number seat value has is all,
      ap (λ (it : Seated). it.table) is ∙ (All-head (IsOf tracker) value left of_all).table,
      All-tail (IsOf tracker) value left of_all,
    )

pub gathered-step : (tracker : TrackerId) (passes left rest : List Seated)
    (view new : List PassView) (number : ℕ) (seat : Seat (Unit {0}) (List PassView))
    (value : Seated)
    → IsGathered passes view left → HasIdlePass number seat → seated seat ≡ value
    → left ≡ value ∷ rest → new ≡ view ++ view_of seat
    → All (IsOf tracker) left → IsGathered passes new rest × All (IsOf tracker) rest
gathered-step tracker passes left rest view new number seat value gathered has is next made of = (
  gathered-next passes left rest view new number seat value gathered has is next made,
  All-tail (IsOf tracker) value rest (subst (All (IsOf tracker)) next of),
)

pub gathered-all : (passes left : List Seated) (view : List PassView) → IsGathered passes view left
    → left ≡ [] → AreJoined passes view
gathered-all passes left view gathered none =
    record {
      same = subst (AreSame (map pass_of passes))
          (ap (λ it. view ++ map pass_of it) none ∙ append-nil view) gathered.same;
      done = gathered.done;
    }

-- ---- what is left

told-of : (history : List Change) (old : Seated) (new : PassView) → IsSame old.pass new
    → HasItsChanges history new → HasItsCalls history old
told-of history old new same told number idle =
    let state : new.state ≡ Idle number = same.state ∙ idle in
    let tells = subst (λ drew. StandsIn drew history new) (ap drawn_number state) told in
    tells.0 ∙ (λ i. changes_in number (same.mine i) ++ pending (state i))
    ∙ append-nil (changes_in number old.pass.mine)

tell-all : (history : List Change) (passes : List Seated) (view : List PassView)
    → AreSame (map pass_of passes) view → All (HasItsChanges history) view
    → All (HasItsCalls history) passes
tell-all history [] view same told = All-nil (HasItsCalls history)
tell-all history (pass ∷ passes) [] same told = absurd same
tell-all history (pass ∷ passes) (new ∷ view) same told =
    All-cons (HasItsCalls history) pass passes
    (told-of history pass new same.0 (All-head (HasItsChanges history) new view told))
    (tell-all history passes view same.1 (All-tail (HasItsChanges history) new view told))

seen-all : (history : List Change) (passes : List Seated) (view : List PassView)
    → AreSame (map pass_of passes) view
    → All (λ (pass : PassView). Begins pass.seen history) view
    → All (λ (it : Seated). Begins it.pass.seen history) passes
seen-all history [] view same seen = All-nil (λ (it : Seated). Begins it.pass.seen history)
seen-all history (pass ∷ passes) [] same seen = absurd same
seen-all history (pass ∷ passes) (new ∷ view) same seen =
    let Sees : PassView → Type 0 = λ (it : PassView). Begins it.seen history in
    All-cons (λ (it : Seated). Begins it.pass.seen history) pass passes
    (subst (λ it. Begins it history) same.0.seen (All-head Sees new view seen))
    (seen-all history passes view same.1 (All-tail Sees new view seen))

pub final-is : (tracker : TrackerId) (passes : List Seated) (view : List PassView)
    (left : ClosedContents) → AreJoined passes view
    → left.settings ≡ tracker.settings → IsLeftByThreads tracker.settings view left.shared
    → IsFinal tracker passes left
final-is tracker passes view left joined settings is =
    record {
      settings = settings;
      history = is.history;
      replays = is.replays;
      seen = seen-all is.history passes view joined.same is.seen;
      mine = tell-all is.history passes view joined.same is.mine;
      drawn = is.drawn;
      unmarked = is.unmarked;
      free = is.free;
    }

pub joined-length : (passes : List Seated) (view : List PassView) → AreJoined passes view
    → length view ≡ length passes
joined-length passes view joined =
    sym (are-length (map pass_of passes) view joined.same) ∙ length-map passes pass_of

-- where no thread made a call, nothing was changed
pub up-at-once : (tracker : TrackerId) (passes : List Seated) (left : ClosedContents)
    → ArePasses tracker passes → length passes ≡ tracker.settings.threads
    → IsFinal tracker passes left → left.shared.servers ≡ (opened tracker.settings).servers
up-at-once tracker passes left are all final =
    let other : Seated = record { pass = first_pass []; table = tracker.table } in
    let none = λ (number : ℕ) (low : number < tracker.settings.threads).
    let inside : number < length passes = omega (arith, low, all) in
    final.mine number other inside number (are.each number other inside).1
    ∙ ap (changes_in number) (are.fresh number other inside).mine in
    let nothing : final.history ≡ [] =
    nothing-made tracker.settings.threads final.history none final.drawn in
    (subst (λ it. Replays tracker.settings it left.shared.servers) nothing final.replays).leads
