-- Laws of the sequential tracker of one thread.
use Rattle.std.proofs.Common.{◌≡◌, ℕ, List, [], ◌∷◌, length, Option, Some, None, refl, ap, subst, ◌∙◌}
use Rattle.std.proofs.Math.ListN.{length-set}
use Rattle.tko_model.specs.declared.mark.Mark.{Mark}
use Rattle.tko_model.specs.declared.mark.Op.{Op}
use Rattle.tko_model.specs.declared.state.ServerState.{ServerState}
use Rattle.tko_model.specs.Records.{Gains, HealthItem, Lead}
use Rattle.tko_model.specs.Tracker.{Tracker, after, changed, transition_on}
use Rattle.tko_health.specs.Health.{HaveReplies, IsReplay, IsTrackerStep, OneThread, after_all, after_item}

length_changed : (servers : List ServerState) (server : ℕ) (change : Option Mark)
    → length (changed servers server change) ≡ length servers
length_changed servers server None = refl
length_changed servers server (Some mark) = length-set _ _ _

-- a call does not change the number of servers
pub length_after : (tracker : Tracker) (thread : ℕ) (op : Op) (server : ℕ)
    → length (after tracker thread op server).servers ≡ length tracker.servers
length_after tracker thread op server =
    length_changed tracker.servers server (transition_on tracker thread op server).change

replay : (old new : OneThread) (items : List HealthItem) → Lead IsTrackerStep old items new → IsReplay old items new
replay old new [] e = record { replies = tt; tracker = ap (λ (at : OneThread). at.tracker) e; thread = ap (λ (at : OneThread). at.thread) e }
replay old new (it ∷ items) (mid, step, rest) =
    let behind = replay mid new items rest in
    let P : Tracker → ℕ → Type 0 = λ tracker thread. HaveReplies tracker thread items × (new.tracker ≡ after_all tracker thread items) in
    let moved : P (after_item old.tracker old.thread it) old.thread =
    subst (λ (n : ℕ). P (after_item old.tracker old.thread it) n) step.thread
    (subst (λ (t : Tracker). P t mid.thread) step.tracker (behind.replies, behind.tracker)) in
    record { replies = (step.reply, moved.0); tracker = moved.1; thread = behind.thread ∙ step.thread }

-- a record of tracker steps is the tracker's replay
pub tracker_replay : (old new : OneThread) (items : List HealthItem) → Gains IsTrackerStep old items new → IsReplay old items new
tracker_replay old new items gains = replay old new items gains.leads
