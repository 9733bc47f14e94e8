-- The marks of a thread, of which the first were released, and what one release says.
use Rattle.std.proofs.Common.{◌≡◌, ℕ, ◌+◌, ◌*◌, ◌<◌, ◌≤◌, Bool, true, false, cond, ◌||◌, eqb, List}
use Rattle.std.proofs.Common.{[], ◌∷◌, ◌++◌, All, length, refl, sym, ap, ◌∙◌, subst, ⊎_elim, arith}
use Rattle.std.proofs.lemmas.Bool.{cases_Bool, cases_lt, cond-false, cond-true}
use Rattle.std.proofs.lemmas.List.{append-nil, append_assoc}
use Rattle.std.proofs.lemmas.List.Elements.{All-nil}
use Rattle.tko_model.specs.declared.mark.Op.{Op}
use Rattle.tko_model.specs.declared.mark.Op.TheVariants.{Release}
use Rattle.tko_model.specs.declared.mark.Reply.{Reply}
use Rattle.tko_model.specs.declared.mark.Reply.TheVariants as reply
use Rattle.tko_steps.specs.declared.phase.ThreadState.TheVariants.{Idle}
use Rattle.tko_steps.specs.Steps.{begun_by}
use Rattle.tko_steps.proofs.CountLemmas.{bit}
use Rattle.tko_table.specs.declared.pass.Made.{Made}
use Rattle.tko_table.specs.declared.pass.PassView.{PassView}
use Rattle.tko_table.specs.History.{changes_in, made_by, made_with}
use Rattle.tko_table.proofs.AddedChangeLemmas.{changes_in-append, made_by-append}
use Rattle.tko_table.specs.Passes.{owns, without}
use Rattle.tko_tracker.specs.Calls.{answers_owner, owned_left}
use Rattle.tko_tracker.specs.History.{Adds}
use Rattle.tko_tracker.specs.Seated.{IsOf, IsRelease, Makes, calls_on, Seated, TrackerId}
use Rattle.tko_tracker.proofs.OwnedLemmas.{owns-without}

-- the marks of all servers before this one are released
pub record IsReleased (tracker : TrackerId) (first now : Seated) (place : ℕ) : Type 0 where
  pub of : IsOf tracker now
  pub state : now.pass.state ≡ first.pass.state
  pub none : (server : ℕ) → server < place → owns now.pass.owned server ≡ false
  pub steps : now.pass.steps + 4 * length now.pass.owned
      ≤ first.pass.steps + 4 * length first.pass.owned
  pub calls : List Made
  pub releases : All IsRelease calls
  pub each : (server : ℕ) → calls_on server calls + bit (owns now.pass.owned server)
      ≡ bit (owns first.pass.owned server)
  pub makes : (number : ℕ) → first.pass.state ≡ Idle number → Makes number first.pass calls now.pass

pub released-none : (tracker : TrackerId) (first : Seated) → IsOf tracker first
    → IsReleased tracker first first 0
released-none tracker first of =
    record {
      of = of;
      state = refl;
      none = λ server less. absurd (omega (arith, less));
      steps = omega arith;
      calls = [];
      releases = All-nil IsRelease;
      each = λ server. omega arith;
      makes = λ number idle. record {
        mine = sym (append-nil first.pass.mine);
        more = [];
        seen = sym (append-nil first.pass.seen);
        own = refl;
      };
    }

pub one-more : (P : ℕ → Type 0) (place : ℕ) → ((server : ℕ) → server < place → P server) → P place
    → (server : ℕ) → server < place + 1 → P server
one-more P place each here server less =
    ⊎_elim (λ (before : server < place). each server before)
    (λ (le : place ≤ server). let e : place ≡ server = omega (arith, less, le) in subst P e here)
    (cases_lt server place)

-- the thread does not own the next server
pub released-skip : (tracker : TrackerId) (first now : Seated) (place : ℕ)
    → IsReleased tracker first now place → owns now.pass.owned place ≡ false
    → IsReleased tracker first now (place + 1)
released-skip tracker first now place is not_own =
    record {
      of = is.of;
      state = is.state;
      none = one-more (λ server. owns now.pass.owned server ≡ false) place is.none not_own;
      steps = is.steps;
      calls = is.calls;
      releases = is.releases;
      each = is.each;
      makes = is.makes;
    }

pub released-is : (answer : Reply) → answers_owner Release answer ≡ true
    → (server : ℕ) (owned : List ℕ) → owned_left answer server owned ≡ without server owned
released-is (reply.Released mark) is server owned = refl
released-is (reply.Up count) is server owned = cc
released-is (reply.Marked mark) is server owned = cc
released-is (reply.Counted count) is server owned = cc
released-is reply.TookSoft is server owned = cc
released-is reply.Full is server owned = cc
released-is (reply.Already mark) is server owned = cc
released-is reply.Worn is server owned = cc
released-is reply.Contended is server owned = cc
released-is reply.TookHard is server owned = cc
released-is reply.Hardened is server owned = cc
released-is reply.Clean is server owned = cc
released-is (reply.Reset count) is server owned = cc
released-is (reply.Unmarked mark) is server owned = cc
released-is (reply.NotMine mark) is server owned = cc

-- on a server that the thread owns, a release is answered by the mark that it released
pub released-mark : (made : Made) → made.op ≡ Release → answers_owner Release made.reply ≡ true
    → IsRelease made
released-mark made op is = by made.reply refl is
  where
    by : (answer : Reply) → made.reply ≡ answer → answers_owner Release answer ≡ true
        → IsRelease made
    by (reply.Released mark) same own = record { op = op; mark = mark; reply = same }
    by (reply.Up count) same own = cc
    by (reply.Marked mark) same own = cc
    by (reply.Counted count) same own = cc
    by reply.TookSoft same own = cc
    by reply.Full same own = cc
    by (reply.Already mark) same own = cc
    by reply.Worn same own = cc
    by reply.Contended same own = cc
    by reply.TookHard same own = cc
    by reply.Hardened same own = cc
    by reply.Clean same own = cc
    by (reply.Reset count) same own = cc
    by (reply.Unmarked mark) same own = cc
    by (reply.NotMine mark) same own = cc

-- a pass made calls, and then one more
pub makes-more : (first now after : PassView) (number : ℕ) (op : Op) (server : ℕ) (answer : Reply)
    (calls : List Made) → now.state ≡ Idle number
    → Makes number first calls now → (adds : Adds now op server answer after)
    → Makes number first (calls ++ made_with (begun_by number op server) answer adds.at ∷ []) after
makes-more first now after number op server answer calls idle made adds =
    let same : adds.number ≡ number = let e : Idle adds.number ≡ Idle number =
    sym adds.idle ∙ idle in cc in
    let one : ℕ → List Made = λ n. made_with (begun_by n op server) answer adds.at ∷ [] in
    record {
      mine = adds.mine ∙ (λ i. made.mine i ++ one (same i))
          ∙ append_assoc first.mine calls (one number);
      more = made.more ++ adds.more;
      seen = adds.seen ∙ ap (λ it. it ++ adds.more) made.seen
          ∙ append_assoc first.seen made.more adds.more;
      own =
          made_by-append number made.more adds.more
          ∙ (λ i. made.own i ++ made_by (sym same i) adds.more)
          ∙ ap (λ it. changes_in number calls ++ it)
          (adds.own ∙ (λ i. changes_in (same i) (one (same i))))
          ∙ sym (changes_in-append number calls (one number));
    }

without-le : (server : ℕ) (owned : List ℕ) → length (without server owned) ≤ length owned
without-le server [] = omega arith
without-le server (own ∷ owned) =
    let rest = without-le server owned in
    ⊎_elim
    (λ (is : eqb own server ≡ true).
    let e : length (without server (own ∷ owned)) ≡ length (without server owned) =
    ap length (cond-true (eqb own server) (without server owned) (own ∷ without server owned) is) in
    omega (arith, rest, e))
    (λ (apart : eqb own server ≡ false).
    let e : length (without server (own ∷ owned)) ≡ length (own ∷ without server owned) =
    ap length (cond-false (eqb own server) (without server owned)
    (own ∷ without server owned) apart) in omega (arith, rest, e))
    (cases_Bool (eqb own server))

pub without-lt : (server : ℕ) (owned : List ℕ) → owns owned server ≡ true
    → length (without server owned) + 1 ≤ length owned
without-lt server [] has = cc
without-lt server (own ∷ owned) has =
    ⊎_elim
    (λ (is : eqb own server ≡ true).
    let e : length (without server (own ∷ owned)) ≡ length (without server owned) =
    ap length (cond-true (eqb own server) (without server owned) (own ∷ without server owned) is) in
    omega (arith, without-le server owned, e))
    (λ (apart : eqb own server ≡ false).
    let e : length (without server (own ∷ owned)) ≡ length (own ∷ without server owned) =
    ap length
    (cond-false (eqb own server) (without server owned) (own ∷ without server owned) apart) in
    let has_rest : owns owned server ≡ true = ap (λ b. b || owns owned server) (sym apart) ∙ has in
    omega (arith, without-lt server owned has_rest, e))
    (cases_Bool (eqb own server))

pub gone : (server other : ℕ) (owned : List ℕ) → owns owned other ≡ false
    → owns (without server owned) other ≡ false
gone server other owned not_own = owns-without server other owned
    ∙ ap (λ b. cond (eqb other server) false b) not_own ∙ both (eqb other server)
  where
    both : (b : Bool) → cond b false false ≡ false
    both true = refl
    both false = refl
