-- The sequential tracker: for each server its mark and its stamp, which counts the changes of that
-- mark; and for each operation of a thread on a server the reply and the mark that it leaves.
use Rattle.std.specs.Prelude.{◌≡◌, ℕ, ◌+◌, ◌<◌, ◌≤◌, Bool, true, false, ◌==◌, ◌&&◌, nat_le, nat_lt, if◌then◌else◌, List, [], ◌∷◌, length, slice_index_or, slice_set, replicate, All, Option, Some, None}
use Rattle.tko_model.specs.declared.mark.Mark.{Mark}
use Rattle.tko_model.specs.declared.mark.Mark.TheVariants.{Up, Soft, Hard}
use Rattle.tko_model.specs.declared.mark.Op.{Op}
use Rattle.tko_model.specs.declared.mark.Op.TheVariants.{LookUp, SoftFailure, HardFailure, Success, Release}
use Rattle.tko_model.specs.declared.mark.Reply.{Reply}
use Rattle.tko_model.specs.declared.mark.Reply.TheVariants as reply
use Rattle.tko_model.specs.declared.state.ServerState.{ServerState}
use Rattle.tko_model.specs.Settings.{Settings}
use Rattle.tko_model.specs.declared.transition.Transition.{Transition}
use Rattle.tko_model.specs.Groups.{group_of, is_in, limit_at}
use Rattle.tko_model.specs.Looks.{look_reply}
use Rattle.tko_model.specs.Limits.{worn}
use Rattle.tko_model.specs.Ranges.{IsWithinRanges}

-- a reply that changes nothing
abbrev pub stays : Reply → Transition
stays answer = record { reply = answer; change = None }

-- a reply with which the server gets this mark
abbrev pub becomes : Mark → Reply → Transition
becomes mark answer = record { reply = answer; change = Some mark }

-- on a server that another thread marked
abbrev pub on_others : Op → Mark → Transition
on_others LookUp mark = stays (look_reply mark)
on_others SoftFailure mark = stays (reply.Already mark)
on_others HardFailure mark = stays (reply.Already mark)
on_others Success mark = stays (reply.Already mark)
on_others Release mark = stays (reply.NotMine mark)

-- on the thread's own soft mark
abbrev pub on_own_soft : ℕ → Op → Transition
on_own_soft thread LookUp = stays (look_reply (Soft thread))
on_own_soft thread SoftFailure = stays (reply.Already (Soft thread))
on_own_soft thread HardFailure = becomes (Hard thread) reply.Hardened
on_own_soft thread Success = becomes (Up 0) (reply.Unmarked (Soft thread))
on_own_soft thread Release = becomes (Up 0) (reply.Released (Soft thread))

-- on the thread's own hard mark
abbrev pub on_own_hard : ℕ → Op → Transition
on_own_hard thread LookUp = stays (look_reply (Hard thread))
on_own_hard thread SoftFailure = stays (reply.Already (Hard thread))
on_own_hard thread HardFailure = stays (reply.Already (Hard thread))
on_own_hard thread Success = becomes (Up 0) (reply.Unmarked (Hard thread))
on_own_hard thread Release = becomes (Up 0) (reply.Released (Hard thread))

-- a soft failure on an unmarked server with this count, which isn't worn: it is counted, or it
-- marks the server, where there is room for one more soft mark
abbrev pub on_soft_failure : Settings → Bool → ℕ → ℕ → Transition
on_soft_failure s room thread count =
    if nat_lt (count + 1) s.failures
    then becomes (Up (count + 1)) (reply.Counted (count + 1))
    else (if room then becomes (Soft thread) reply.TookSoft else stays reply.Full)

-- a worn server does not change
abbrev pub unless_worn : ℕ → Transition → Transition
unless_worn stamp given = if nat_le worn stamp then stays reply.Worn else given

-- on an unmarked server with this count of soft failures
abbrev pub on_unmarked : Settings → Bool → ℕ → Op → ℕ → ℕ → Transition
on_unmarked s room thread LookUp count stamp = stays (look_reply (Up count))
on_unmarked s room thread SoftFailure count stamp =
    unless_worn stamp (on_soft_failure s room thread count)
on_unmarked s room thread HardFailure count stamp =
    unless_worn stamp (becomes (Hard thread) reply.TookHard)
on_unmarked s room thread Success count stamp =
    if count == 0
    then stays reply.Clean
    else unless_worn stamp (becomes (Up 0) (reply.Reset count))
on_unmarked s room thread Release count stamp = stays (reply.NotMine (Up count))

-- the whole table: what an operation of a thread does to a server with this mark and stamp, by
-- whether there is room for one more soft mark
abbrev pub transition : Settings → Bool → ℕ → Op → Mark → ℕ → Transition
transition s room thread op (Up count) stamp = on_unmarked s room thread op count stamp
transition s room thread op (Soft owner) stamp =
    if owner == thread then on_own_soft thread op else on_others op (Soft owner)
transition s room thread op (Hard owner) stamp =
    if owner == thread then on_own_hard thread op else on_others op (Hard owner)

-- a tracker: its settings, and the servers in the order of their numbers
pub record Tracker : Type 0 where
  pub settings : Settings
  pub servers : List ServerState

-- the server of that number
abbrev pub server_at : List ServerState → ℕ → ServerState
server_at servers server = slice_index_or servers server (record { mark = Up 0; stamp = 0 })

-- whether a mark is soft
abbrev pub is_soft : Mark → Bool
is_soft (Up count) = false
is_soft (Soft thread) = true
is_soft (Hard thread) = false

-- whether a server with this number and this mark is one of the group that has a soft mark
abbrev pub is_soft_in : Settings → ℕ → ℕ → Mark → Bool
is_soft_in s group server mark = is_soft mark && is_in s group server

-- how many of these servers, which are numbered from the first one's number on, are of the group
-- and have a soft mark
abbrev pub softs_from : Settings → ℕ → ℕ → List ServerState → ℕ
softs_from s group first [] = 0
softs_from s group first (server ∷ others) =
    (if is_soft_in s group first server.mark then 1 else 0) + softs_from s group (first + 1) others

-- how many servers of a group have a soft mark
abbrev pub softs_in : Settings → ℕ → List ServerState → ℕ
softs_in s group servers = softs_from s group 0 servers

-- how many servers of the group of this one have a soft mark
abbrev pub softs_beside : Settings → ℕ → List ServerState → ℕ
softs_beside s server servers = softs_in s (group_of s server) servers

-- whether there is room for one more soft mark in the group of a server
abbrev pub has_room : Settings → List ServerState → ℕ → Bool
has_room s servers server = nat_lt (softs_beside s server servers) (limit_at s server)

-- what an operation of a thread on a server answers and changes
abbrev pub transition_on : Tracker → ℕ → Op → ℕ → Transition
transition_on tracker thread op server =
    let it = server_at tracker.servers server in
    let room = has_room tracker.settings tracker.servers server in
    transition tracker.settings room thread op it.mark it.stamp

-- the servers after a change of one of them: its stamp is one more
abbrev pub changed : List ServerState → ℕ → Option Mark → List ServerState
changed servers server None = servers
changed servers server (Some mark) =
    slice_set servers server (record { mark = mark; stamp = (server_at servers server).stamp + 1 })

-- the reply of the sequential tracker
abbrev pub reply_of : Tracker → ℕ → Op → ℕ → Reply
reply_of tracker thread op server = (transition_on tracker thread op server).reply

-- the sequential tracker after an operation
abbrev pub after : Tracker → ℕ → Op → ℕ → Tracker
after tracker thread op server =
    let change = (transition_on tracker thread op server).change in
    record tracker { servers = changed tracker.servers server change }

-- a tracker as it opens: each server up, without failures
abbrev pub opened : Settings → Tracker
opened s =
    let server : ServerState = record { mark = Up 0; stamp = s.opening_stamp } in
    record { settings = s; servers = replicate s.servers server }

-- a mark and a stamp that a server can have together: past the worn stamp come only the last change
-- of a server that is not worn yet, and the changes that the marking thread then makes
abbrev pub IsFit : Settings → Mark → ℕ → Type 0
IsFit s (Up count) stamp = (count < s.failures) × (stamp ≤ worn + 2)
IsFit s (Soft thread) stamp = stamp ≤ worn
IsFit s (Hard thread) stamp = stamp ≤ worn + 1

-- what holds of each opened tracker, whatever was applied to it
pub record IsTracker (tracker : Tracker) : Type 0 where
  pub settings : IsWithinRanges tracker.settings
  pub count : length tracker.servers ≡ tracker.settings.servers
  pub fit : All (λ server. IsFit tracker.settings server.mark server.stamp) tracker.servers
