-- The marks of a thread, released one after another: the next one, and then all.
use Rattle.std.proofs.Common.{◌≡◌, ℕ, ◌+◌, ◌<◌, ◌≤◌, true, false, cond, ◌||◌, eqb, List, [], ◌∷◌}
use Rattle.std.proofs.Common.{◌++◌, length, refl, sym, ap, ◌∙◌, subst, ⊎_elim, arith}
use Rattle.std.proofs.lemmas.Bool.{cases_eq, cases_lt, cond-false, cond-true, cond_both, eq-eqb}
use Rattle.std.proofs.lemmas.Bool.{ne_eqb}
use Rattle.std.proofs.lemmas.List.Elements.{All-append, All-cons, All-nil}
use Rattle.std.proofs.lemmas.List.Sums.{sum_by-append}
use Rattle.atomic_table.specs.declared.shared.Seat.{Seat}
use Rattle.tko_model.specs.declared.mark.Op.{Op}
use Rattle.tko_model.specs.declared.mark.Op.TheVariants.{Release}
use Rattle.tko_model.specs.declared.mark.Reply.{Reply}
use Rattle.tko_model.specs.Settings.{Settings}
use Rattle.tko_steps.specs.declared.phase.ThreadState.TheVariants.{Idle}
use Rattle.tko_steps.specs.Steps.{begun_by}
use Rattle.tko_steps.proofs.CountLemmas.{bit}
use Rattle.tko_table.specs.declared.pass.Made.{Made}
use Rattle.tko_table.specs.declared.pass.PassView.{PassView}
use Rattle.tko_table.specs.History.{made_with}
use Rattle.tko_table.specs.Passes.{owns, without}
use Rattle.tko_table.specs.Steps.{view_of}
use Rattle.tko_tracker.specs.Calls.{gives, owned_left, takes}
use Rattle.tko_tracker.specs.Owned.{AreBitsOf}
use Rattle.tko_tracker.specs.Running.{RanCall}
use Rattle.tko_tracker.specs.Seated.{Answered, HasOwnedPass, IsRelease, OwnsBelow, Retired}
use Rattle.tko_tracker.specs.Seated.{calls_on, Seated, TrackerId, first_pass, seated}
use Rattle.tko_tracker.proofs.OwnedLemmas.{owns-without}
use Rattle.tko_tracker.proofs.RetireLemmas.{IsReleased, gone, makes-more, one-more, released-is}
use Rattle.tko_tracker.proofs.RetireLemmas.{released-mark, without-lt}

-- the next server is released
pub released-next : (tracker : TrackerId) (first now after : Seated) (place : ℕ) (answer : Reply)
    → IsReleased tracker first now place
    → owns now.pass.owned place ≡ true → Answered tracker now Release place answer after
    → IsReleased tracker first after (place + 1)
released-next tracker first now after place answer is own made =
    let left : after.pass.owned ≡ without place now.pass.owned =
    made.owned ∙ released-is answer (made.owner own) place now.pass.owned in
    let P : ℕ → List ℕ → Type 0 = λ server owned. owns owned server ≡ false in
    let here : owns (without place now.pass.owned) place ≡ false =
    owns-without place place now.pass.owned
    ∙ cond-true (eqb place place) false (owns now.pass.owned place) (same place) in
    let fewer = without-lt place now.pass.owned own in
    let count : length after.pass.owned ≡ length (without place now.pass.owned) = ap length left in
    record {
      of = made.of;
      state = made.state ∙ is.state;
      none = one-more (λ server. owns after.pass.owned server ≡ false) place
          (λ server less. ap (λ owned. owns owned server) left
          ∙ gone place server now.pass.owned (is.none server less))
          (ap (λ owned. owns owned place) left ∙ here);
      steps = omega (arith, made.steps, is.steps, fewer, count);
      calls = is.calls ++ call ∷ [];
      releases = All-append IsRelease is.calls (call ∷ []) is.releases
          (All-cons IsRelease call [] (released-mark call refl (made.owner own))
          (All-nil IsRelease));
      each = λ server.
          let split : calls_on server (is.calls ++ call ∷ [])
          ≡ calls_on server is.calls + (0 + bit (eqb place server)) =
          sum_by-append (λ (it : Made). bit (eqb it.server server)) is.calls (call ∷ []) in
          let left_is : bit (owns after.pass.owned server)
          ≡ bit (cond (eqb server place) false (owns now.pass.owned server)) =
          ap (λ owned. bit (owns owned server)) left
          ∙ ap bit (owns-without place server now.pass.owned) in
          ⊎_elim
          (λ (here : place ≡ server).
          let gone_now : bit (cond (eqb server place) false (owns now.pass.owned server)) ≡ 0 =
          ap bit (cond-true _ _ _ (eq-eqb server place (sym here))) in
          let was : bit (owns now.pass.owned server) ≡ 1 =
          ap bit (subst (λ it. owns now.pass.owned it ≡ true) here own) in
          omega (
            arith,
            split,
            left_is,
            gone_now,
            was,
            is.each server,
            ap bit (eq-eqb place server here),
          ))
          (λ (apart : place ≡ server → ⊥).
          let kept : bit (cond (eqb server place) false (owns now.pass.owned server))
          ≡ bit (owns now.pass.owned server) =
          ap bit (cond-false _ _ _ (ne_eqb server place (λ e. apart (sym e)))) in
          omega (arith, split, left_is, kept, is.each server, ap bit (ne_eqb place server apart)))
          (cases_eq place server);
      makes = λ number idle.
          let idle_now : now.pass.state ≡ Idle number = is.state ∙ idle in
          makes-more first.pass now.pass after.pass number Release place answer is.calls idle_now
          (is.makes number idle) made.adds;
    }
  where
    call : Made
    call = made_with (begun_by made.adds.number Release place) answer made.adds.at

    same : (n : ℕ) → eqb n n ≡ true
    same n = eq-eqb n n refl

-- all servers were visited
pub released-all : (tracker : TrackerId) (first now : Seated) (place number : ℕ)
    → IsReleased tracker first now place → tracker.settings.servers ≤ place
    → OwnsBelow now.pass → now.pass.state ≡ Idle number → Retired tracker first now
released-all tracker first now place number is all below idle =
    let none : (server : ℕ) → owns now.pass.owned server ≡ false = λ server.
    ⊎_elim (λ (less : server < place). is.none server less)
    (λ (le : place ≤ server).
    below server (subst (λ (it : Settings). it.servers ≤ server) (sym is.of.settings)
    (omega (arith, all, le))))
    (cases_lt server place) in
    let began : first.pass.state ≡ Idle number = sym is.state ∙ idle in
    record {
      of = is.of;
      number = number;
      idle = began;
      state = is.state;
      none = none;
      steps = omega (arith, is.steps);
      calls = is.calls;
      releases = is.releases;
      each = λ server. omega (arith, is.each server, ap bit (none server));
      makes = is.makes number began;
    }

-- a call on a server that there is leaves no other owned past the last
pub below-left : (answer : Reply) (server last : ℕ) (owned : List ℕ) → server < last
    → ((other : ℕ) → last ≤ other → owns owned other ≡ false)
    → (other : ℕ) → last ≤ other → owns (owned_left answer server owned) other ≡ false
below-left answer server last owned inside below other past =
    let P : List ℕ → Type 0 = λ it. owns it other ≡ false in
    let not_own = below other past in
    let fewer = gone server other owned not_own in
    cond_both (takes answer) (server ∷ without server owned)
    (cond (gives answer) (without server owned) owned) P
    (λ one. ap (λ b. b || owns (without server owned) other)
    (ne_eqb server other (λ e. omega (arith, inside, past, e))) ∙ fewer)
    (λ none. cond_both (gives answer) (without server owned) owned P (λ given. fewer)
    (λ kept. not_own))

-- the pass after a call, with its bits brought up to date
pub pass-after : (s : Settings) (number : ℕ) (words new : List ℕ)
    (seat after : Seat (Unit {0}) (List PassView)) (value : Seated) (op : Op) (server : ℕ)
    (answer : Reply) → HasOwnedPass number words seat → value ≡ seated seat
    → value.pass.settings ≡ s → server < s.servers
    → after.me.1 ≡ seat.me.1 → RanCall s number (view_of seat) op server answer (view_of after)
    → ((owned : List ℕ) → AreBitsOf owned words → AreBitsOf (owned_left answer server owned) new)
    → HasOwnedPass number new after
pass-after s number words new seat after value op server answer has is settings inside
    slots ran bits =
    let was = first_pass (view_of seat) in
    let old_is : ran.old ≡ was = sym (ap first_pass ran.was) in
    let new_is : first_pass (view_of after) ≡ ran.new = ap first_pass ran.is in
    let owned_is : (first_pass (view_of after)).owned ≡ owned_left answer server was.owned =
    ap (λ (it : PassView). it.owned) new_is ∙ ran.owned
    ∙ ap (λ (it : PassView). owned_left answer server it.owned) old_is in
    let same : (first_pass (view_of after)).settings ≡ was.settings =
    ap (λ (it : PassView). it.settings) new_is ∙ ran.settings
    ∙ ap (λ (it : PassView). it.settings) old_is in
    let its : was.settings ≡ s = sym (ap (λ (it : Seated). it.pass.settings) is) ∙ settings in
    record {
      has = record {
        alone = ran.is ∙ ap (λ (it : PassView). it ∷ []) (sym new_is);
        slots = slots ∙ has.has.slots;
        idle = record {
          state = ap (λ (it : PassView). it.state) new_is ∙ ran.state;
          within = subst (λ (it : Settings). number < it.threads) (sym same) has.has.idle.within;
        };
      };
      bits = subst (λ it. AreBitsOf it new) (sym owned_is) (bits was.owned has.bits);
      below = λ other past.
          ap (λ it. owns it other) owned_is
          ∙ below-left answer server s.servers was.owned inside
          (λ one le. has.below one (subst (λ (it : Settings). it.servers ≤ one) (sym its) le)) other
          (subst (λ (it : Settings). it.servers ≤ other) (same ∙ its) past);
    }
