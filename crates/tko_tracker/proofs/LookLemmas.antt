-- What the first look of a try found, and who changed it since.
use Rattle.std.proofs.Common.{◌≡◌, ℕ, ◌+◌, true, false, cond, eqb, List, [], ◌++◌, refl, sym, ap}
use Rattle.std.proofs.Common.{◌∙◌, subst}
use Rattle.std.proofs.lemmas.Bool.{cond_both}
use Rattle.std.proofs.lemmas.List.{append-nil, append_assoc}
use Rattle.tko_model.specs.declared.mark.Mark.{Mark}
use Rattle.tko_model.specs.declared.mark.Reply.TheVariants.{Contended, Full}
use Rattle.tko_model.specs.Settings.{Settings}
use Rattle.tko_model.specs.declared.state.ServerState.{ServerState}
use Rattle.tko_model.specs.Tracker.{server_at}
use Rattle.tko_steps.specs.declared.phase.Call.{Call}
use Rattle.tko_steps.specs.declared.phase.Phase.{Phase}
use Rattle.tko_steps.specs.declared.phase.Phase.TheVariants.{Start, Read, AtThreshold, Limit}
use Rattle.tko_steps.specs.declared.phase.Phase.TheVariants.{Reserving, Holding, Firming, Losing}
use Rattle.tko_steps.specs.declared.phase.Phase.TheVariants.{Loosening, Loosened, Emptied}
use Rattle.tko_steps.specs.declared.table.Action.TheVariants.{Exchange}
use Rattle.tko_steps.specs.declared.table.Decision.{Decision}
use Rattle.tko_steps.specs.declared.table.Decision.TheVariants.{Goes, Answers}
use Rattle.tko_steps.specs.declared.table.Observed.{Observed}
use Rattle.tko_steps.specs.declared.table.Observed.TheVariants as read_as
use Rattle.tko_steps.specs.Core.{Shared, seen_by, slots_at}
use Rattle.tko_steps.specs.Steps.{is_done, is_marked_state}
use Rattle.tko_steps.specs.Table.{action_of, goes, lost_try, next_of, same_server, same_slots}
use Rattle.tko_steps.proofs.StartLemmas.{from_start-is}
use Rattle.tko_steps.proofs.TableLemmas.{eq-same_server}
use Rattle.tko_table.specs.declared.pass.Change.{Change}
use Rattle.tko_table.specs.History.{Replays, made_by}
use Rattle.tko_table.specs.Passes.{changes_by}
use Rattle.tko_table.proofs.AddedChangeLemmas.{made_by-append}
use Rattle.tko_table.proofs.LeadsLemmas.{replays-changed}
use Rattle.tko_tracker.specs.Tries.{IsChangedByOthers}
use Rattle.tko_model.specs.Groups.{group_of, limit_at}

-- after a beginning of what was seen, the server was like this, and what was seen since is others'
pub record HasSeen (s : Settings) (number server : ℕ) (found : ServerState)
    (seen : List Change) : Type 0 where
  pub beginning : List Change
  pub since : List Change
  pub is : seen ≡ beginning ++ since
  pub servers : List ServerState
  pub replays : Replays s beginning servers
  pub was : server_at servers server ≡ found
  pub others : made_by number since ≡ []

abbrev pub SeenAt : Settings → ℕ → ℕ → List Change → Phase → Type 0
SeenAt s number server seen Start = Unit {0}
SeenAt s number server seen (Read found mark answer) = HasSeen s number server found seen
SeenAt s number server seen (AtThreshold found) = HasSeen s number server found seen
SeenAt s number server seen (Limit found) = HasSeen s number server found seen
SeenAt s number server seen (Reserving found slots) = HasSeen s number server found seen
SeenAt s number server seen (Holding found) = HasSeen s number server found seen
SeenAt s number server seen Firming = Unit {0}
SeenAt s number server seen Losing = Unit {0}
SeenAt s number server seen (Loosening found mark answer) = Unit {0}
SeenAt s number server seen (Loosened found mark answer) = is_marked_state found.mark ≡ true
SeenAt s number server seen (Emptied answer) = Unit {0}

abbrev pub SeenAfter : Settings → ℕ → ℕ → List Change → Decision → Type 0
SeenAfter s number server seen (Goes lost phase) = SeenAt s number server seen phase
SeenAfter s number server seen (Answers answer) = Unit {0}

module _ (s : Settings) (call : Call) (shared : Shared) (seen between : List Change)
    (found_by : Replays s (seen ++ between) shared.servers)
    (none : made_by call.number between ≡ []) where
  abbrev now : ServerState
  now = server_at shared.servers call.server

  abbrev history : List Change
  history = seen ++ between

  abbrev After : List Change → Decision → Type 0
  After new decision = SeenAfter s call.number call.server new decision

  seen-now : HasSeen s call.number call.server now (history ++ [])
  seen-now = record {
    beginning = history;
    since = [];
    is = refl;
    servers = shared.servers;
    replays = found_by;
    was = refl;
    others = refl;
  }

  seen-on : (found : ServerState) (more : List Change) → more ≡ []
      → HasSeen s call.number call.server found seen
      → HasSeen s call.number call.server found (history ++ more)
  seen-on found more empty has =
      record {
        beginning = has.beginning;
        since = has.since ++ between;
        is =
            ap (λ it. history ++ it) empty ∙ append-nil history
            ∙ ap (λ it. it ++ between) has.is ∙ append_assoc has.beginning has.since between;
        servers = has.servers;
        replays = has.replays;
        was = has.was;
        others = made_by-append call.number has.since between
            ∙ ap (λ it. it ++ made_by call.number between) has.others ∙ none;
      }

  loses : (new : List Change) → After new (lost_try s call)
  loses new =
      cond_both (eqb s.tries (call.lost + 1)) (Answers Contended) (Goes (call.lost + 1) Start)
      (After new) (λ last. tt) (λ left. tt)

  -- what the step of this phase leaves
  abbrev pub SeenNext : Phase → Type 0
  SeenNext phase =
      let it = seen_by s shared call.server (action_of call.number phase) in
      After (history ++ changes_by call phase (is_done it)) (next_of s call phase it)

  abbrev pub IsOwn : Phase → Type 0
  IsOwn (Loosening found mark answer) = is_marked_state found.mark ≡ true
  IsOwn phase = Unit {0}

  pub seen-next : (phase : Phase) → IsOwn phase → SeenAt s call.number call.server seen phase
      → SeenNext phase
  seen-next Start own knows =
      from_start-is s call now (After (history ++ [])) (λ answer is_answer is. tt)
      (λ soft fresh is. seen-now)
      (λ mark answer put can by is. seen-now) (λ mark answer put can own is. tt)
  seen-next (Read found mark answer) own knows =
      cond_both (same_server now found) (Answers answer) (lost_try s call)
      (After (history ++ changes_by call (Read found mark answer) (same_server now found)))
      (λ won. tt) (λ lost.
      loses (history ++ changes_by call (Read found mark answer) (same_server now found)))
  seen-next (AtThreshold found) own knows =
      let slots = slots_at shared.slots (group_of s call.server) in
      let rest = cond (eqb (slots.firm + slots.held) (limit_at s call.server)) (lost_try s call)
      (goes call (Reserving found slots)) in
      cond_both (eqb slots.firm (limit_at s call.server)) (goes call (Limit found)) rest
      (After (history ++ []))
      (λ full. seen-on found [] refl knows)
      (λ below. cond_both (eqb (slots.firm + slots.held) (limit_at s call.server)) (lost_try s call)
      (goes call (Reserving found slots)) (After (history ++ []))
      (λ held. loses (history ++ []))
      (λ free. seen-on found [] refl knows))
  seen-next (Limit found) own knows =
      cond_both (same_server found now) (Answers Full) (lost_try s call) (After (history ++ []))
      (λ same. tt) (λ other. loses (history ++ []))
  seen-next (Reserving found taken) own knows =
      let more = changes_by call (Reserving found taken)
      (same_slots (slots_at shared.slots (group_of s call.server)) taken) in
      cond_both (same_slots (slots_at shared.slots (group_of s call.server)) taken)
      (goes call (Holding found)) (lost_try s call) (After (history ++ more))
      (λ won. seen-on found more
      (ap (λ test. changes_by call (Reserving found taken) test) won) knows)
      (λ lost. loses (history ++ more))
  seen-next (Holding found) own knows =
      cond_both (same_server now found) (goes call Firming) (goes call Losing)
      (After (history ++ changes_by call (Holding found) (same_server now found)))
      (λ won. tt) (λ lost. tt)
  seen-next Firming own knows = tt
  seen-next Losing own knows = loses (history ++ [])
  seen-next (Loosening found mark answer) own knows = own
  seen-next (Loosened found mark answer) own knows = tt
  seen-next (Emptied answer) own knows = tt

  -- the server isn't as it was found
  changed-since : (found : ServerState) → HasSeen s call.number call.server found seen
      → (now ≡ found → ⊥)
      → IsChangedByOthers s call.number call.server found history
  changed-since found has differs =
      let is : history ≡ has.beginning ++ (has.since ++ between) =
      ap (λ it. it ++ between) has.is ∙ append_assoc has.beginning has.since between in
      record {
        beginning = has.beginning;
        since = has.since ++ between;
        is = is;
        servers = has.servers;
        replays = has.replays;
        was = has.was;
        others = made_by-append call.number has.since between
            ∙ ap (λ it. it ++ made_by call.number between) has.others ∙ none;
        changed = replays-changed s has.beginning
            (has.since ++ between) has.servers shared.servers call.server has.replays
            (subst (λ it. Replays s it shared.servers) is found_by) (λ e. differs (e ∙ has.was));
      }

  lost-to : (found : ServerState) (read : Observed) → HasSeen s call.number call.server found seen
      → read ≡ read_as.Done (same_server now found)
      → read ≡ read_as.Done false → IsChangedByOthers s call.number call.server found history
  lost-to found read has reads lost =
      changed-since found has (λ same.
      let both : read_as.Done (same_server now found) ≡ read_as.Done false = sym reads ∙ lost in
      let no : same_server now found ≡ false = cc in
      let yes : same_server now found ≡ true = eq-same_server now found same in
      cc)

  pub exchange-lost : (phase : Phase) (read : Observed) (found : ServerState) (mark : Mark)
      → SeenAt s call.number call.server seen phase
      → read ≡ seen_by s shared call.server (action_of call.number phase)
      → (is_marked_state found.mark ≡ true → read ≡ read_as.Done true)
      → action_of call.number phase ≡ Exchange found mark → read ≡ read_as.Done false
      → IsChangedByOthers s call.number call.server found history
  exchange-lost Start read found mark knows reads sure is lost = cc
  exchange-lost (Read expected new answer) read found mark knows reads sure is lost =
      let same : expected ≡ found = cc in
      subst (λ it. IsChangedByOthers s call.number call.server it history) same
      (lost-to expected read knows reads lost)
  exchange-lost (AtThreshold expected) read found mark knows reads sure is lost = cc
  exchange-lost (Limit expected) read found mark knows reads sure is lost = cc
  exchange-lost (Reserving expected slots) read found mark knows reads sure is lost = cc
  exchange-lost (Holding expected) read found mark knows reads sure is lost =
      let same : expected ≡ found = cc in
      subst (λ it. IsChangedByOthers s call.number call.server it history) same
      (lost-to expected read knows reads lost)
  exchange-lost Firming read found mark knows reads sure is lost = cc
  exchange-lost Losing read found mark knows reads sure is lost = cc
  exchange-lost (Loosening expected new answer) read found mark knows reads sure is lost = cc
  exchange-lost (Loosened expected new answer) read found mark knows reads sure is lost =
      let same : expected ≡ found = cc in
      let marked : is_marked_state found.mark ≡ true =
      ap (λ (it : ServerState). is_marked_state it.mark) (sym same) ∙ knows in
      let both : read_as.Done true ≡ read_as.Done false = sym (sure marked) ∙ lost in
      cc
  exchange-lost (Emptied answer) read found mark knows reads sure is lost = cc

  pub look-changed : (found then : ServerState) (read : Observed)
      → HasSeen s call.number call.server found seen → read ≡ read_as.Server now
      → read ≡ read_as.Server then → same_server found then ≡ false
      → IsChangedByOthers s call.number call.server found history
  look-changed found then read has reads is other =
      changed-since found has (λ same.
      let both : read_as.Server now ≡ read_as.Server then = sym reads ∙ is in
      let one : now ≡ then = cc in
      let yes : same_server found then ≡ true = eq-same_server found then (sym same ∙ one) in
      cc)
