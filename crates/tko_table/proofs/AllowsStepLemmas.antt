-- What each step on the table owes, from one call and phase to whichever the seat has.
use Rattle.std.proofs.Common.{◌≡◌, ℕ, ◌+◌, ◌^◌, ◌<◌, true, eqb, List, [], ◌∷◌, length, get_or, set}
use Rattle.std.proofs.Common.{refl, sym, ap, ◌∙◌, subst, arith}
use mathlib.Core.Option.{some}
use lib.ListN.{get_elem?}
use prog.Atomic.{either}
use Rattle.atomic_table.specs.Table.{Allows, keeps}
use Rattle.tko_model.specs.declared.mark.Mark.{Mark}
use Rattle.tko_model.specs.declared.mark.Op.{Op}
use Rattle.tko_model.specs.Settings.{Settings}
use Rattle.tko_model.specs.declared.state.ServerState.{ServerState}
use Rattle.tko_word.specs.Words.{IsWord, server_in}
use Rattle.tko_steps.specs.declared.phase.Call.{Call}
use Rattle.tko_steps.specs.declared.phase.Phase.{Phase}
use Rattle.tko_steps.specs.declared.phase.ThreadState.{ThreadState}
use Rattle.tko_steps.specs.declared.phase.ThreadState.TheVariants.{InCall}
use Rattle.tko_steps.specs.declared.table.Action.{Action}
use Rattle.tko_steps.specs.declared.table.Action.TheVariants as action
use Rattle.tko_steps.specs.Steps.{in_call, is_marked_state}
use Rattle.tko_steps.specs.Table.{action_of}
use Rattle.tko_table.specs.declared.pass.PassView.{PassView}
use Rattle.tko_table.specs.Rule.{IsKept, health_place, shared_in}
use Rattle.tko_table.specs.Steps.{Exchanged, IsSoundWord, Looked, Plays, Took, read_in}
use Rattle.tko_table.proofs.StepLemmas.{IsStepOn, all-sound, own-stands, looks-at-server}
use Rattle.tko_table.proofs.WordStepLemmas.{exchanges}
use Rattle.tko_table.proofs.AllowsLemmas.{Rule, Seat, Table, taken-call, taken-look}

pub head_is : (view : List PassView) (one other : PassView) → view ≡ one ∷ [] → view ≡ other ∷ []
    → one ≡ other
head_is view one other first second = let same : one ∷ [] ≡ other ∷ [] = sym first ∙ second in cc

took-any : (view new : List PassView) (found : ℕ) (pass : PassView) (call : Call) (phase : Phase)
    → view ≡ pass ∷ []
    → (state : ThreadState) → state ≡ InCall call phase
    → Took view call phase (read_in (action_of call.number phase) found) new
    → (other : Call) (at : Phase) → state ≡ InCall other at
    → Took view other at (read_in (action_of other.number at) found) new
took-any view new found pass call phase alone state stands took other at also =
    let same : InCall call phase ≡ InCall other at = sym stands ∙ also in
    let calls : call ≡ other = cc in
    let phases : phase ≡ at = cc in
    subst (λ it. Took view other it (read_in (action_of other.number it) found) new) phases
    (subst (λ it. Took view it phase (read_in (action_of it.number phase) found) new) calls took)

-- a step of the call under way
pub allows-call : (s : Settings) (slots id : ℕ) (me : Seat) (word : ℕ) (f : ℕ → ℕ) (pass : PassView)
    (call : Call) (phase : Phase)
    → me.0 ≡ pass ∷ [] → pass.state ≡ InCall call phase
    → ((state : Table) → IsKept s state.words state.views
    → get_elem? state.views id ≡ some (pass ∷ []) → get_or state.words word 0 < 2 ^ 64
    → IsStepOn s state.words (set state.words word (f (get_or state.words word 0))) call.server
    (action_of call.number phase)
    (get_or state.words word 0))
    → Allows (Rule s) slots id me word f (λ found new. Plays me found new × (new.1 ≡ me.1))
allows-call s slots id me word f pass call phase alone stands steps state kept homes at fits =
    let there : get_elem? state.views id ≡ some (pass ∷ []) = at ∙ ap some alone in
    let found = get_or state.words word 0 in
    let taken = taken-call s state.words (set state.words word (f found)) state.views id pass call
    phase found kept there stands (steps state kept there fits) in (
      taken.new ∷ [],
      keeps,
      tt,
      taken.kept,
      (
        (λ other own_call own_phase other_alone other_stands.
            let same : pass ≡ other = head_is me.0 pass other alone other_alone in
            took-any me.0 (taken.new ∷ []) found pass call phase alone pass.state stands
            (record { old = pass; new = taken.new; was = alone; is = refl; takes = taken.takes })
            own_call own_phase (ap (λ (it : PassView). it.state) same ∙ other_stands)),
        refl,
      ),
    )

-- a load of a server's word; the call is under way, or begins with it
pub allows-look : (s : Settings) (slots id : ℕ) (me : Seat) (op : Op) (pass : PassView)
    (call : Call) (phase : Phase)
    → me.0 ≡ pass ∷ [] → in_call pass.state op call.server ≡ InCall call phase
    → action_of call.number phase ≡ action.LookAtServer
    → pass.settings ≡ s → call.server < s.servers
    → Allows (Rule s) slots id me (health_place call.server) (λ n. n)
    (λ found new. Looked op (health_place call.server) me found new × (new.1 ≡ me.1))
allows-look s slots id me op pass call phase alone begins is_look same_settings on_server state kept
    homes at fits =
    let there : get_elem? state.views id ≡ some (pass ∷ []) = at ∙ ap some alone in
    let word = health_place call.server in
    let found = get_or state.words word 0 in
    let inside : call.server < length (shared_in s state.words).servers =
    omega (arith, on_server, kept.core.core.count) in
    let P : Action → Type 0 =
    λ it. IsStepOn s state.words (set state.words word found) call.server it found in
    let on =
    subst P (sym is_look) (looks-at-server s state.words call.server kept.core.valid inside) in
    let taken = taken-look s state.words (set state.words word found) state.views id pass call phase
    found kept there op begins inside on in
    let new = taken.new ∷ [] in (
      new,
      keeps,
      tt,
      taken.kept,
      (
        record {
          plays = λ other own_call own_phase other_alone same_word other_begins.
              let same : pass ≡ other = head_is me.0 pass other alone other_alone in
              let servers : own_call.server ≡ call.server = omega arith in
              let state_is : in_call pass.state op call.server ≡ InCall own_call own_phase =
              ap (λ (it : PassView). in_call it.state op call.server) same
              ∙ ap (in_call other.state op) (sym servers) ∙ other_begins in
              took-any me.0 new found pass call phase alone
              (in_call pass.state op call.server) begins
              (record { old = pass; new = taken.new; was = alone; is = refl; takes = taken.takes })
              own_call own_phase state_is;
          sound = λ other other_alone.
              let same : pass ≡ other = head_is me.0 pass other alone other_alone in
              let settings : s ≡ other.settings =
              sym same_settings ∙ ap (λ (it : PassView). it.settings) same in
              subst (λ it. IsSoundWord it found) settings
              (all-sound s state.words state.views kept call.server inside);
        },
        refl,
      ),
    )

-- a step that also tells a fact about the number that it found
pub allows-with : (holds : Table → Type 0) (slots id : ℕ) (me : Seat) (word : ℕ) (f : ℕ → ℕ)
    (told tells : ℕ → Seat → Type 0) (Fact : ℕ → Type 0)
    → Allows holds slots id me word f told
    → ((state : Table) → holds state → get_elem? state.views id ≡ some me.0
    → Fact (get_or state.words word 0))
    → ((found : ℕ) (new : Seat) → Fact found → told found new → tells found new)
    → Allows holds slots id me word f tells
allows-with holds slots id me word f told tells Fact allows fact both state kept homes at fits =
    let given = allows state kept homes at fits in (
      given.0,
      given.1,
      given.2,
      given.3,
      both (get_or state.words word 0) _ (fact state kept at) given.4,
    )

-- where the server of a call under way is
server-inside : (s : Settings) (words : List ℕ) (server : ℕ) → (views : List (List PassView))
    → IsKept s words views → server < s.servers
    → server < length (shared_in s words).servers
server-inside s words server views kept on_server = omega (arith, on_server, kept.core.core.count)

-- an exchange of a server's word
pub allows-exchange : (s : Settings) (slots id : ℕ) (me : Seat) (pass : PassView) (call : Call)
    (phase : Phase) (found : ServerState) (mark : Mark)
    (expected new : ℕ) → me.0 ≡ pass ∷ [] → pass.state ≡ InCall call phase
    → action_of call.number phase ≡ action.Exchange found mark
    → call.server < s.servers → IsWord expected → server_in expected ≡ found → IsWord new
    → server_in new ≡ record { mark = mark; stamp = found.stamp + 1 }
    → Allows (Rule s) slots id me (health_place call.server) (λ n. either (eqb n expected) new n)
    (λ n after. Exchanged (health_place call.server) me n after × (after.1 ≡ me.1))
allows-exchange s slots id me pass call phase found mark expected new alone stands is_exchange
    on_server is_expected expects is_new leaves =
    let word = health_place call.server in
    let f = λ (n : ℕ). either (eqb n expected) new n in
    let Fact : ℕ → Type 0 = λ n. IsWord n × ((other : PassView) (own_call : Call)
    (own_phase : Phase) (own_found : ServerState) (own_mark : Mark)
    → me.0 ≡ other ∷ [] → word ≡ health_place own_call.server
    → other.state ≡ InCall own_call own_phase
    → action_of own_call.number own_phase ≡ action.Exchange own_found own_mark
    → is_marked_state own_found.mark ≡ true → server_in n ≡ own_found) in
    allows-with (Rule s) slots id me word f (λ n after. Plays me n after × (after.1 ≡ me.1))
    (λ n after. Exchanged word me n after × (after.1 ≡ me.1)) Fact
    (allows-call s slots id me word f pass call phase alone stands (λ state kept there fits.
    let n = get_or state.words word 0 in
    let P : Action → Type 0 =
    λ it. IsStepOn s state.words (set state.words word (f n)) call.server it n in
    subst P (sym is_exchange)
    (exchanges s state.words call.server expected new found mark kept.core.valid
    (server-inside s state.words call.server state.views kept on_server)
    is_expected expects is_new leaves)))
    (λ state kept at. (
      (all-sound s state.words state.views kept call.server
          (server-inside s state.words call.server state.views kept on_server)).valid,
      λ other own_call own_phase own_found own_mark other_alone same other_stands is_own marked.
          let there : get_elem? state.views id ≡ some (other ∷ []) = at ∙ ap some other_alone in
          ap (λ it. server_in (get_or state.words it 0)) same
          ∙ own-stands s state.words state.views id [] [] other own_call own_phase own_found
          own_mark kept there other_stands is_own marked,
    ))
    (λ n after fact plays. (record { plays = plays.0; valid = fact.0; stands = fact.1 }, plays.1))
