-- Where in the history a call is answered, and what is known of that at each phase.
use Rattle.std.proofs.Common.{◌≡◌, ◌≢◌, ℕ, Bool, true, false, refl, List, ◌++◌, length, sym, ap}
use Rattle.std.proofs.Common.{◌∙◌, subst}
use Rattle.std.proofs.lemmas.List.{append-nil, append_assoc}
use Rattle.tko_model.specs.declared.mark.Op.{Op}
use Rattle.tko_model.specs.declared.mark.Reply.{Reply}
use Rattle.tko_model.specs.declared.mark.Reply.TheVariants.{Contended, TookSoft}
use Rattle.tko_model.specs.Settings.{Settings}
use Rattle.tko_model.specs.declared.state.ServerState.{ServerState}
use Rattle.tko_model.specs.Tracker.{after, reply_of, server_at, softs_beside}
use Rattle.tko_steps.specs.declared.phase.Phase.{Phase}
use Rattle.tko_steps.specs.declared.phase.Phase.TheVariants.{Start, Read, AtThreshold, Limit}
use Rattle.tko_steps.specs.declared.phase.Phase.TheVariants.{Reserving, Holding, Firming, Losing}
use Rattle.tko_steps.specs.declared.phase.Phase.TheVariants.{Loosening, Loosened, Emptied}
use Rattle.tko_steps.specs.declared.table.Decision.{Decision}
use Rattle.tko_steps.specs.declared.table.Decision.TheVariants.{Goes, Answers}
use Rattle.tko_steps.specs.Legal.{tracker_in}
use Rattle.tko_steps.proofs.SoFarLemmas.{IsNotNewer}
use Rattle.tko_table.specs.declared.pass.Change.{Change}
use Rattle.tko_table.specs.History.{Replays}
use Rattle.tko_tracker.specs.History.{IsAnsweredAt, own_change}
use Rattle.tko_table.specs.Passes.{changes_by, decided_after}
use Rattle.tko_steps.specs.declared.phase.Call.{Call}
use Rattle.tko_model.specs.Groups.{limit_at}

-- ---- an answer's place

pub answered-by : (s : Settings) (begun since earlier own later seen : List Change) (number : ℕ)
    (op : Op) (server : ℕ) (answer : Reply) (servers : List ServerState)
    → earlier ≡ begun ++ since → own_change number op server answer ≡ own
    → Replays s earlier servers → seen ≡ earlier ++ (own ++ later)
    → reply_of (tracker_in s servers) number op server ≡ answer
    → Replays s (earlier ++ own) (after (tracker_in s servers) number op server).servers
    → IsAnsweredAt s number op server answer (length earlier) begun seen
answered-by s begun since earlier own later seen number op server answer servers whole owns replays
    is reply left =
    record {
      since = since;
      later = later;
      place = ap length (sym whole);
      among = is ∙ (λ i. whole i ++ (sym owns i ++ later));
      servers = servers;
      replays = subst (λ it. Replays s it servers) whole replays;
      reply = reply;
      change = subst (λ it. Replays s it (after (tracker_in s servers) number op server).servers)
          (λ i. whole i ++ sym owns i) left;
    }

-- more of the history is seen
pub answered-more : (s : Settings) (number : ℕ) (op : Op) (server : ℕ) (answer : Reply) (at : ℕ)
    (begun seen more : List Change)
    → IsAnsweredAt s number op server answer at begun seen
    → IsAnsweredAt s number op server answer at begun (seen ++ more)
answered-more s number op server answer at begun seen more is =
    let own = own_change number op server answer in
    let earlier = begun ++ is.since in
    record {
      since = is.since;
      later = is.later ++ more;
      place = is.place;
      among =
          ap (λ it. it ++ more) is.among
          ∙ append_assoc earlier (own ++ is.later) more
          ∙ ap (λ it. earlier ++ it) (append_assoc own is.later more);
      servers = is.servers;
      replays = is.replays;
      reply = is.reply;
      change = is.change;
    }

-- ---- what is known at each phase

-- after what was seen the server is like this
pub record Saw (s : Settings) (seen : List Change) (server : ℕ) (found : ServerState) : Type 0 where
  pub servers : List ServerState
  pub replays : Replays s seen servers
  pub is : server_at servers server ≡ found

-- after what was seen, which has this length, as many marks are soft as may be, and the server is
-- no older than this
pub record SawLimit (s : Settings) (seen : List Change) (server : ℕ) (found : ServerState)
    (decided : ℕ) : Type 0 where
  pub servers : List ServerState
  pub replays : Replays s seen servers
  pub limit : softs_beside s server servers ≡ limit_at s server
  pub since_found : IsNotNewer found (server_at servers server)
  pub place : length seen ≡ decided

abbrev pub PlaceAt : Settings → ℕ → Op → ℕ → List Change → List Change → ℕ → Phase → Type 0
PlaceAt s number op server begun seen decided Start = Unit {0}
PlaceAt s number op server begun seen decided (Read found mark answer) = Unit {0}
PlaceAt s number op server begun seen decided (AtThreshold found) = Saw s seen server found
PlaceAt s number op server begun seen decided (Limit found) = SawLimit s seen server found decided
PlaceAt s number op server begun seen decided (Reserving found slots) = Unit {0}
PlaceAt s number op server begun seen decided (Holding found) = Unit {0}
PlaceAt s number op server begun seen decided Firming =
    IsAnsweredAt s number op server TookSoft decided begun seen
PlaceAt s number op server begun seen decided Losing = Unit {0}
PlaceAt s number op server begun seen decided (Loosening found mark answer) = Unit {0}
PlaceAt s number op server begun seen decided (Loosened found mark answer) = Unit {0}
PlaceAt s number op server begun seen decided (Emptied answer) =
    IsAnsweredAt s number op server answer decided begun seen

abbrev pub PlaceAfter : Settings → ℕ → Op → ℕ → List Change → List Change → ℕ → Decision → Type 0
PlaceAfter s number op server begun seen decided (Goes lost phase) =
    PlaceAt s number op server begun seen decided phase
PlaceAfter s number op server begun seen decided (Answers answer) =
    answer ≢ Contended → IsAnsweredAt s number op server answer decided begun seen

-- whether a try begins here
abbrev pub is_start : Phase → Bool
is_start Start = true
is_start phase = false

-- the first step of a try ends at the whole history
pub start-at-end : (call : Call) (phase : Phase) (won : Bool) (decided now : ℕ)
    (history : List Change) → is_start phase ≡ true
    → (decided_after phase decided now ≡ now) × (history ++ changes_by call phase won ≡ history)
start-at-end call Start true decided now history is = (refl, append-nil history)
start-at-end call Start false decided now history is = (refl, append-nil history)
start-at-end call (Read found mark answer) won decided now history is = cc
start-at-end call (AtThreshold found) won decided now history is = cc
start-at-end call (Limit found) won decided now history is = cc
start-at-end call (Reserving found taken) won decided now history is = cc
start-at-end call (Holding found) won decided now history is = cc
start-at-end call Firming won decided now history is = cc
start-at-end call Losing won decided now history is = cc
start-at-end call (Loosening found mark answer) won decided now history is = cc
start-at-end call (Loosened found mark answer) won decided now history is = cc
start-at-end call (Emptied answer) won decided now history is = cc
