-- The items of a health record, and what they mean where one thread has a tracker to itself.
use Rattle.std.specs.Prelude.{◌≡◌, ℕ, List, [], ◌∷◌, Some, None}
use Rattle.tko_model.specs.declared.look.Look.{Look}
use Rattle.tko_model.specs.declared.look.Look.TheVariants as look
use Rattle.tko_model.specs.declared.mark.Op.TheVariants.{LookUp}
use Rattle.tko_model.specs.declared.mark.Reply.{Reply}
use Rattle.tko_model.specs.declared.mark.Reply.TheVariants as reply
use Rattle.tko_model.specs.Looks.{duty_of}
use Rattle.tko_model.specs.Records.{HealthItem, Called, NoDuty}
use Rattle.tko_model.specs.Tracker.{Tracker, reply_of, after, server_at}

-- the reply that a look is
abbrev pub reply_of_look : Look → Reply
reply_of_look (look.Up count clear) = reply.Up count
reply_of_look (look.Marked mark) = reply.Marked mark

-- a look-up of this server found that
abbrev pub look_item : ℕ → Look → HealthItem
look_item server found = Called LookUp server (reply_of_look found)

-- a permission to send names this server
abbrev pub NamesServer : ℕ → Look → Type 0
NamesServer server (look.Up count clear) = clear ≡ server
NamesServer server (look.Marked mark) = Unit {0}

-- a tracker that one thread has to itself, and that thread's number
pub record OneThread : Type 0 where
  pub tracker : Tracker
  pub thread : ℕ

-- the thread has the right to probe a server: the server's mark is its own
abbrev pub IsGranted : OneThread → ℕ → Type 0
IsGranted at server =
    duty_of server (server_at at.tracker.servers server).mark at.thread ≡ Some server

-- an item has the reply that the tracker gives to this thread; the right to probe a server is
-- denied where its mark is not the thread's own
abbrev pub HasReply : Tracker → ℕ → HealthItem → Type 0
HasReply tracker thread (Called op server answer) = answer ≡ reply_of tracker thread op server
HasReply tracker thread (NoDuty server) =
    duty_of server (server_at tracker.servers server).mark thread ≡ None

-- the tracker after an item of this thread
abbrev pub after_item : Tracker → ℕ → HealthItem → Tracker
after_item tracker thread (Called op server answer) = after tracker thread op server
after_item tracker thread (NoDuty server) = tracker

-- the tracker's own reply, and the tracker after it
pub record IsTrackerStep (old : OneThread) (it : HealthItem) (new : OneThread) : Type 0 where
  pub reply : HasReply old.tracker old.thread it
  pub tracker : new.tracker ≡ after_item old.tracker old.thread it
  pub thread : new.thread ≡ old.thread

-- the tracker after these items of a thread
abbrev pub after_all : Tracker → ℕ → List HealthItem → Tracker
after_all tracker thread [] = tracker
after_all tracker thread (it ∷ items) = after_all (after_item tracker thread it) thread items

-- each of these items of a thread has the tracker's own reply
abbrev pub HaveReplies : Tracker → ℕ → List HealthItem → Type 0
HaveReplies tracker thread [] = Unit {0}
HaveReplies tracker thread (it ∷ items) =
    HasReply tracker thread it × HaveReplies (after_item tracker thread it) thread items

-- a tracker's own replies and state, over these items
pub record IsReplay (old : OneThread) (items : List HealthItem) (new : OneThread) : Type 0 where
  pub replies : HaveReplies old.tracker old.thread items
  pub tracker : new.tracker ≡ after_all old.tracker old.thread items
  pub thread : new.thread ≡ old.thread
