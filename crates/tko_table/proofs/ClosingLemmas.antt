-- What the words hold once every thread is done, and one seat has all passes.
use Rattle.std.proofs.Common.{◌≡◌, ℕ, zero, suc, ◌+◌, ◌<◌, ◌≤◌, false, List, [], ◌∷◌, ◌++◌, length}
use Rattle.std.proofs.Common.{get_or, set, All, count_by, refl, sym, ap, ◌∙◌, subst, arith, drop}
use Rattle.std.proofs.lemmas.Bool.{cond-true, lt-ltb}
use Rattle.std.proofs.lemmas.List.{append-nil, length-append, length-drop, length-map}
use Rattle.std.proofs.lemmas.List.{length-take-le}
use Rattle.std.proofs.lemmas.List.Elements.{All-from_get_or, All-weaker}
use mathlib.Core.Option.{some, some-injective, some-ne-none}
use lib.ListN.{get_elem?}
use Rattle.tko_model.specs.declared.mark.Mark.TheVariants.{Up}
use Rattle.tko_model.specs.Settings.{Settings}
use Rattle.tko_model.specs.declared.state.ServerState.{ServerState}
use Rattle.tko_model.specs.Tracker.{server_at, softs_in}
use Rattle.tko_word.specs.Words.{IsWord, server_in}
use Rattle.tko_steps.specs.Core.{Shared, no_slots, slots_at, slots_in}
use Rattle.tko_steps.specs.Owners.{has_number}
use Rattle.tko_steps.specs.Invariant.{holds_in}
use Rattle.tko_steps.specs.Steps.{is_marked_state}
use Rattle.tko_steps.proofs.RoomLemmas.{enrolled-le}
use Rattle.tko_table.specs.declared.pass.Change.{Change}
use Rattle.tko_table.specs.declared.pass.PassView.{PassView}
use Rattle.tko_table.specs.Closing.{ClosedContents, IsDone, IsLeftByThreads}
use Rattle.tko_table.specs.History.{Begins}
use Rattle.tko_table.specs.Passes.{PassOwnsItsMarks, HasItsChanges}
use Rattle.tko_table.specs.Rule.{IsKept, core_in, health_in, health_place, joined_passes, shared_in}
use Rattle.tko_table.specs.Rule.{states_of, soft_in, soft_place}
use Rattle.tko_table.proofs.MovedLemmas.{taken-out}
use Rattle.tko_table.proofs.SharedLemmas.{health-get, server-there, slots-there}
use Rattle.tko_table.proofs.SplitLemmas.{kept-permuted}
use Rattle.tko_model.specs.Groups.{groups}
use Rattle.tko_table.proofs.NoneLeftLemmas.{names-owner, no-slots, none-hold, none-named, none-soft}
use Rattle.tko_table.proofs.NoneLeftLemmas.{unmarked-from}

module _ (s : Settings) (words : List ℕ) (views : List (List PassView)) (id : ℕ)
    (view : List PassView) (kept : IsKept s words views)
    (there : get_elem? views id ≡ some view) (all : length view ≡ s.threads) where
  abbrev rest : List PassView
  rest = joined_passes (set views id [])

  kept-first : IsKept s words (view ∷ set views id [])
  kept-first =
      kept-permuted s words views (view ∷ set views id []) (taken-out views id view there) kept

  none-left : (passes : List PassView) → length passes ≡ 0 → passes ≡ []
  none-left [] e = refl
  none-left (pass ∷ passes) e = absurd (omega (arith, e))

  rest-none : rest ≡ []
  rest-none =
      let threads = kept-first.core.core.threads in
      none-left rest (omega (
        arith,
        threads,
        all,
        length-map (view ++ rest) (λ (pass : PassView). pass.state),
        length-append view rest,
      ))

  whole : view ++ rest ≡ view
  whole = ap (λ it. view ++ it) rest-none ∙ append-nil view

  -- a fact of all passes is one of the seat's
  on-view : (P : PassView → Type 0) → All P (view ++ rest) → All P view
  on-view P facts = subst (All P) whole facts

  module _ (done : All IsDone view) where
    enrolled_le : (shared_in s words).enrolled ≤ s.threads
    enrolled_le = enrolled-le (core_in s words (view ++ rest)) kept-first.core.core

    unmarked-at : (server : ℕ)
        → is_marked_state (server_at (shared_in s words).servers server).mark ≡ false
    unmarked-at server =
        let servers = (shared_in s words).servers in
        let mark = (server_at servers server).mark in
        let is = kept-first.core.core in
        unmarked-from mark (λ number names.
        let drawn = is.owners server number names in
        let one : count_by (has_number number) (states_of view) ≡ 1 =
        ap (λ passes. count_by (has_number number) (states_of passes)) (sym whole)
        ∙ is.numbers number
        ∙ cond-true _ _ _ (lt-ltb number (shared_in s words).enrolled drawn) in
        let none = none-named servers server number view (names-owner mark number names)
        (on-view (PassOwnsItsMarks servers) kept-first.core.owned) done in
        omega (arith, one, none))

    unmarked-all : All (λ (server : ServerState). is_marked_state server.mark ≡ false)
        (shared_in s words).servers
    unmarked-all =
        All-from_get_or (λ (server : ServerState). is_marked_state server.mark ≡ false)
        (shared_in s words).servers (record { mark = Up 0; stamp = 0 })
        (λ server inside. unmarked-at server)

    no_softs : (group : ℕ) → softs_in s group (shared_in s words).servers ≡ 0
    no_softs group = none-soft s group 0 (shared_in s words).servers unmarked-all

    free : (group : ℕ) → group < groups s → slots_at (shared_in s words).slots group ≡ no_slots
    free group below =
        let is = kept-first.core.core.counts group below in
        let held = sym is.held ∙ ap (λ passes. count_by (holds_in s group) (states_of passes)) whole
        ∙ none-hold s group view done in
        no-slots (slots_at (shared_in s words).slots group)
        (omega (arith, is.firm, no_softs group)) held

    pub all-left : IsLeftByThreads s view (shared_in s words)
    all-left =
        let told = kept-first.told in
        let is = kept-first.core.core in
        record {
          history = kept-first.history;
          replays = told.replays;
          seen = on-view (λ (pass : PassView). Begins pass.seen kept-first.history) told.seen;
          mine = on-view (HasItsChanges kept-first.history) told.mine;
          drawn = All-weaker (λ (change : Change). change.number < (shared_in s words).enrolled)
              (λ (change : Change). change.number < s.threads)
              (λ change less. omega (arith, less, enrolled_le)) kept-first.history told.drawn;
          unmarked = unmarked-all;
          soft_words = is.soft_words;
          free = free;
        }

-- what a table that was closed with that seat holds
pub closed-left : (key s : Settings) (words shut : List ℕ) (views : List (List PassView)) (id : ℕ)
    (view : List PassView) → key ≡ s → words ≡ shut
    → IsKept key words views → get_elem? views id ≡ some view → length view ≡ s.threads
    → All IsDone view → IsLeftByThreads s view (shared_in s shut)
closed-left key s words shut views id view same shuts kept there all done =
    let P : Settings → Type 0 = λ it. IsKept it words views in
    subst (λ it. IsLeftByThreads s view (shared_in s it)) shuts
    (all-left s words views id view (subst P same kept) there all done)

at-get : (words : List ℕ) (place number d : ℕ) → get_elem? words place ≡ some number
    → get_or words place d ≡ number
at-get [] place number d e = absurd (some-ne-none number (sym e))
at-get (word ∷ words) zero number d e = some-injective word number e
at-get (word ∷ words) (suc place) number d e = at-get words place number d e

-- a server's word, and what it holds
pub closed-word : (s : Settings) (words : List ℕ) (place server number : ℕ)
    → place ≡ health_place server → get_elem? words place ≡ some number
    → server < length (health_in s words) → All IsWord (health_in s words) → IsWord number
closed-word s words place server number is there inside valid =
    let found : get_or words (health_place server) 0 ≡ number =
    ap (λ at. get_or words at 0) (sym is) ∙ at-get words place number 0 there in
    subst IsWord (sym (health-get s words server inside) ∙ found) (valid server 0 inside)

pub closed-server : (s : Settings) (words : List ℕ) (place server number : ℕ)
    → place ≡ health_place server → get_elem? words place ≡ some number
    → server < length (health_in s words)
    → server_in number ≡ server_at (shared_in s words).servers server
closed-server s words place server number is there inside =
    let found : get_or words (health_place server) 0 ≡ number =
    ap (λ at. get_or words at 0) (sym is) ∙ at-get words place number 0 there in
    ap server_in (sym found) ∙ sym (server-there s words server
    (omega (arith, inside, length-map (health_in s words) server_in)))

-- a server of the closed words has its word
pub server-inside : (s : Settings) (shared : Shared) (value : ClosedContents) (server : ℕ)
    (words : List ℕ) → record { settings = s; shared = shared } ≡ value
    → length words ≡ s.servers + 1 + groups s → server < value.settings.servers
    → server < length (health_in s words)
server-inside s shared value server words is count inside =
    let less : server < s.servers =
    subst (λ (it : ClosedContents). server < it.settings.servers) (sym is) inside in
    let enough : s.servers ≤ length (drop 1 words) = omega (arith, count, length-drop 1 words) in
    omega (arith, less, length-take-le s.servers (drop 1 words) enough)

-- the soft word of a group, and what it holds
pub closed-slots : (s : Settings) (words : List ℕ) (place group number : ℕ)
    → place ≡ soft_place s group → get_elem? words place ≡ some number
    → length words ≡ s.servers + 1 + groups s → group < groups s
    → slots_in number ≡ slots_at (shared_in s words).slots group
closed-slots s words place group number is there count below =
    let found : get_or words (soft_place s group) 0 ≡ number =
    ap (λ at. get_or words at 0) (sym is) ∙ at-get words place number 0 there in
    let inside : group < length (shared_in s words).slots =
    omega (
      arith,
      below,
      count,
      length-drop (s.servers + 1) words,
      length-map (soft_in s words) slots_in,
    ) in
    ap slots_in (sym found) ∙ sym (slots-there s words group inside)
