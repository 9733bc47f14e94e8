-- Where in the history a call is answered: what one more step makes of what is known of that.
use Rattle.std.proofs.Common.{◌≡◌, ℕ, ◌+◌, ◌≤◌, true, false, cond, eqb, List, [], ◌∷◌, ◌++◌, length}
use Rattle.std.proofs.Common.{refl, sym, ap, ◌∙◌, subst, arith, count_by}
use Rattle.std.proofs.lemmas.Bool.{cond-false, cond-true, cond_both, eqb-true, le-ltb}
use Rattle.std.proofs.lemmas.List.{append-nil, append_assoc}
use Rattle.tko_model.specs.declared.mark.Mark.TheVariants.{Soft}
use Rattle.tko_model.specs.declared.mark.Reply.{Reply}
use Rattle.tko_model.specs.declared.mark.Reply.TheVariants.{Contended, Full, TookSoft}
use Rattle.tko_model.specs.Settings.{Settings}
use Rattle.tko_model.specs.declared.state.ServerState.{ServerState}
use Rattle.tko_model.specs.declared.transition.Transition.{Transition}
use Rattle.tko_model.specs.Tracker.{after, becomes, changed, has_room, server_at, softs_beside}
use Rattle.tko_model.specs.Tracker.{stays, transition}
use Rattle.tko_steps.specs.declared.phase.Call.{Call}
use Rattle.tko_steps.specs.declared.phase.Phase.{Phase}
use Rattle.tko_steps.specs.declared.phase.Phase.TheVariants.{Start, Read, AtThreshold, Limit}
use Rattle.tko_steps.specs.declared.phase.Phase.TheVariants.{Reserving, Holding, Firming, Losing}
use Rattle.tko_steps.specs.declared.phase.Phase.TheVariants.{Loosening, Loosened, Emptied}
use Rattle.tko_steps.specs.declared.phase.Slots.{Slots}
use Rattle.tko_steps.specs.declared.table.Decision.{Decision}
use Rattle.tko_steps.specs.declared.table.Decision.TheVariants.{Goes, Answers}
use Rattle.tko_steps.specs.Core.{CoreState, seen_by, slots_at}
use Rattle.tko_steps.specs.Invariant.{IsCore, is_loose_in}
use Rattle.tko_steps.specs.Legal.{tracker_in}
use Rattle.tko_steps.specs.Steps.{is_done}
use Rattle.tko_steps.specs.Table.{action_of, from_start, goes, lost_try, next_of, same_server}
use Rattle.tko_steps.specs.Table.{same_slots}
use Rattle.tko_steps.proofs.EveryCallLemmas.{softs-le}
use Rattle.tko_steps.proofs.SoFarLemmas.{IsNotNewer, IsNotNewer-same}
use Rattle.tko_steps.proofs.StartLemmas.{from_start-is}
use Rattle.tko_steps.proofs.TableLemmas.{same_server-true}
use Rattle.tko_table.specs.declared.pass.Change.{Change}
use Rattle.tko_table.specs.History.{Replays, change_by, is_change}
use Rattle.tko_table.specs.Passes.{changes_by, decided_after}
use Rattle.tko_table.specs.Rule.{IsPlannedAt}
use Rattle.tko_table.proofs.ChangeLemmas.{puts-change, stays-no_change}
use Rattle.tko_table.proofs.AddedChangeLemmas.{IsSure, by_test}
use Rattle.tko_table.proofs.LeadsLemmas.{replays-last, replays-not-newer}
use Rattle.tko_tracker.specs.History.{IsAnsweredAt}
use Rattle.tko_model.specs.Groups.{group_of, limit_at}
use Rattle.tko_steps.proofs.CoreLemmas.{own-group}
use Rattle.tko_tracker.proofs.PlaceLemmas.{PlaceAfter, PlaceAt, Saw, SawLimit, answered-by}
use Rattle.tko_tracker.proofs.PlaceLemmas.{answered-more}

module _ (s : Settings) (begun more seen between : List Change) (same : seen ≡ begun ++ more)
    (decided : ℕ) (call : Call) (core : CoreState)
    (is : IsCore core) (settings : core.settings ≡ s)
    (found_by : Replays s (seen ++ between) core.shared.servers) where
  abbrev history : List Change
  history = seen ++ between

  abbrev servers : List ServerState
  servers = core.shared.servers

  abbrev now : ServerState
  now = server_at servers call.server

  abbrev slots : Slots
  slots = slots_at core.shared.slots (group_of s call.server)

  abbrev After : ℕ → List Change → Decision → Type 0
  After at new decision = PlaceAfter s call.number call.op call.server begun new at decision

  whole : history ≡ begun ++ (more ++ between)
  whole = ap (λ it. it ++ between) same ∙ append_assoc begun more between

  loses : (at : ℕ) (new : List Change) → After at new (lost_try s call)
  loses at new =
      cond_both (eqb s.tries (call.lost + 1)) (Answers Contended) (Goes (call.lost + 1) Start)
      (After at new)
      (λ last differs. absurd (differs refl))
      (λ left. tt)

  -- an answer that changes nothing, after the history or after what was seen before
  stays-at : (answer : Reply) (earlier since later new : List Change) (there : List ServerState)
      → earlier ≡ begun ++ since
      → Replays s earlier there → new ≡ earlier ++ later
      → transition s (has_room s there call.server) call.number call.op
      (server_at there call.server).mark (server_at there call.server).stamp ≡ stays answer
      → IsAnsweredAt s call.number call.op call.server answer (length earlier) begun new
  stays-at answer earlier since later new there begins replays is_new decides =
      let it = server_at there call.server in
      let none : is_change answer ≡ false = stays-no_change s
      (has_room s there call.server) call.number call.op it.mark it.stamp answer decides in
      let left : there ≡ (after (tracker_in s there) call.number call.op call.server).servers =
      sym (ap (λ (t : Transition). changed there call.server t.change) decides) in
      let kept : Replays s (earlier ++ []) there =
      subst (λ x. Replays s x there) (sym (append-nil earlier)) replays in
      answered-by s begun since earlier [] later new call.number call.op call.server answer
      there begins
      (cond-false (is_change answer) (change_by call answer ∷ []) [] none) replays is_new
      (ap (λ (t : Transition). t.reply) decides)
      (subst (Replays s (earlier ++ [])) left kept)

  -- an answer to a change, which is the last in the history
  changes-at : (answer : Reply) (last : List ServerState) → is_change answer ≡ true
      → Replays s (history ++ change_by call answer ∷ []) last
      → IsAnsweredAt s call.number call.op call.server answer (length history) begun
      (history ++ change_by call answer ∷ [])
  changes-at answer last changes left =
      let change = change_by call answer in
      let made = replays-last s history change servers last found_by left in
      answered-by s begun (more ++ between) history (change ∷ []) []
      (history ++ change ∷ []) call.number call.op call.server answer servers whole
      (cond-true (is_change answer) (change ∷ []) [] changes) found_by refl made.reply made.left

  start-after : After (length history) (history ++ []) (from_start s call now)
  start-after =
      from_start-is s call now (After (length history) (history ++ []))
      (λ answer is_answer is. λ differs.
      stays-at answer history (more ++ between) [] (history ++ []) servers whole found_by refl
      (is (has_room s servers call.server)))
      (λ soft fresh is.
      record {
        servers = servers;
        replays = subst (λ it. Replays s it servers)
            (sym (append-nil history)) found_by;
        is = refl;
      })
      (λ mark answer put can by is. tt)
      (λ mark answer put can own is. tt)

  -- the look at the soft word, which finds as many settled marks as may be
  limit-after : (found : ServerState) → Saw s seen call.server found
      → slots.firm ≡ (limit_at s call.server)
      → SawLimit s (history ++ []) call.server found (length history)
  limit-after found saw full =
      let no_more : softs_beside s call.server servers ≤ limit_at s call.server =
      subst (λ (it : Settings). softs_beside it call.server servers ≤ limit_at it call.server)
      settings (softs-le core call.server is) in
      let firm : softs_beside s call.server servers
      ≡ slots.firm + count_by (is_loose_in s (group_of s call.server)) core.threads =
      subst (λ (it : Settings). softs_beside it call.server servers
      ≡ (slots_at core.shared.slots (group_of it call.server)).firm
      + count_by (is_loose_in it (group_of it call.server)) core.threads) settings
      (own-group core call.server is).firm in
      record {
        servers = servers;
        replays = subst (λ it. Replays s it servers) (sym (append-nil history)) found_by;
        limit = omega (arith, full, no_more, firm);
        since_found = subst (λ it. IsNotNewer it now) saw.is
            (replays-not-newer s seen between saw.servers servers call.server saw.replays found_by);
        place = ap length (append-nil history);
      }

  -- the second look, which finds the server as the first did
  full-after : (found : ServerState) → SawLimit s seen call.server found decided
      → IsPlannedAt s call (Limit found) → found ≡ now
      → IsAnsweredAt s call.number call.op call.server Full decided begun (history ++ [])
  full-after found saw planned is_now =
      let there = server_at saw.servers call.server in
      let room = has_room s saw.servers call.server in
      let later =
      replays-not-newer s seen between saw.servers servers call.server saw.replays found_by in
      let pinned : there ≡ found = IsNotNewer-same found there now saw.since_found later is_now in
      let no_room : room ≡ false = le-ltb (softs_beside s call.server saw.servers)
      (limit_at s call.server) (omega (arith, saw.limit)) in
      let decides : transition s room call.number call.op there.mark there.stamp ≡ stays Full =
      ap (λ (it : ServerState). transition s room call.number call.op it.mark it.stamp) pinned
      ∙ planned room
      ∙ ap (λ it. cond it (becomes (Soft call.number) TookSoft) (stays Full)) no_room in
      let P : ℕ → Type 0 =
      λ at. IsAnsweredAt s call.number call.op call.server Full at begun (history ++ []) in
      subst P saw.place (stays-at Full seen more (between ++ [])
      (history ++ []) saw.servers same saw.replays (append_assoc seen between []) decides)

  answered-on : (answer : Reply)
      → IsAnsweredAt s call.number call.op call.server answer decided begun seen
      → IsAnsweredAt s call.number call.op call.server answer decided begun (history ++ [])
  answered-on answer it =
      answered-more s call.number call.op call.server answer decided begun history []
      (answered-more s call.number call.op call.server answer decided begun seen between it)

  -- what the step of this phase leaves, where the replay of the history then ends here
  abbrev pub PlaceNext : List ServerState → Phase → Type 0
  PlaceNext last phase =
      let it = seen_by s core.shared call.server (action_of call.number phase) in
      Replays s (history ++ changes_by call phase (is_done it)) last
      → After (decided_after phase decided (length history))
      (history ++ changes_by call phase (is_done it)) (next_of s call phase it)

  pub place-next : (last : List ServerState) (phase : Phase)
      → PlaceAt s call.number call.op call.server begun seen decided phase
      → IsPlannedAt s call phase → IsSure call core.shared phase → PlaceNext last phase
  place-next last Start knows planned sure left = start-after
  place-next last (Read found mark answer) knows planned sure left =
      let change = change_by call answer ∷ [] in
      by_test (λ won. Replays s (history ++ cond won change []) last → After (length history)
      (history ++ cond won change []) (cond won (Answers answer) (lost_try s call)))
      (same_server now found)
      (λ won left differs.
      changes-at answer last (puts-change s call found mark answer planned) left)
      (λ lost left. loses (length history) (history ++ []))
      left
  place-next last (AtThreshold found) knows planned sure left =
      let rest = cond (eqb (slots.firm + slots.held) (limit_at s call.server)) (lost_try s call)
      (goes call (Reserving found slots)) in
      let P : Decision → Type 0 = After (length history) (history ++ []) in
      cond_both (eqb slots.firm (limit_at s call.server)) (goes call (Limit found)) rest P
      (λ full. limit-after found knows (eqb-true slots.firm (limit_at s call.server) full))
      (λ below. cond_both (eqb (slots.firm + slots.held) (limit_at s call.server)) (lost_try s call)
      (goes call (Reserving found slots)) P
      (λ held. loses (length history) (history ++ []))
      (λ free. tt))
  place-next last (Limit found) knows planned sure left =
      cond_both (same_server found now) (Answers Full) (lost_try s call)
      (After decided (history ++ []))
      (λ is_same differs. full-after found knows planned (same_server-true found now is_same))
      (λ other. loses decided (history ++ []))
  place-next last (Reserving found taken) knows planned sure left =
      cond_both (same_slots slots taken) (goes call (Holding found)) (lost_try s call)
      (After (length history)
      (history ++ changes_by call (Reserving found taken) (same_slots slots taken)))
      (λ won. tt)
      (λ lost. loses (length history)
      (history ++ changes_by call (Reserving found taken) (same_slots slots taken)))
  place-next last (Holding found) knows planned sure left =
      let change = change_by call TookSoft ∷ [] in
      by_test (λ won. Replays s (history ++ cond won change []) last → After (length history)
      (history ++ cond won change []) (cond won (goes call Firming) (goes call Losing)))
      (same_server now found)
      (λ won left. changes-at TookSoft last refl left)
      (λ lost left. tt)
      left
  place-next last Firming knows planned sure left = λ differs. answered-on TookSoft knows
  place-next last Losing knows planned sure left = loses (length history) (history ++ [])
  place-next last (Loosening found mark answer) knows planned sure left = tt
  place-next last (Loosened found mark answer) knows planned sure left =
      let change = change_by call answer ∷ [] in
      by_test (λ won. Replays s (history ++ cond won change []) last
      → After (length history) (history ++ cond won change []) (goes call (Emptied answer)))
      (same_server now found)
      (λ won left. changes-at answer last (puts-change s call found mark answer planned) left)
      (λ lost left. let e : true ≡ false = sym sure ∙ lost in cc)
      left
  place-next last (Emptied answer) knows planned sure left = λ differs. answered-on answer knows
