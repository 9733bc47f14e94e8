-- What a mark means to a caller: the tracker's reply to a look-up and what it finds, and whose
-- right it is to probe the server.
use Rattle.std.specs.Prelude.{ℕ, ◌==◌, Option, Some, None, if◌then◌else◌}
use Rattle.tko_model.specs.declared.look.Look.{Look}
use Rattle.tko_model.specs.declared.look.Look.TheVariants as look
use Rattle.tko_model.specs.declared.mark.Mark.{Mark}
use Rattle.tko_model.specs.declared.mark.Mark.TheVariants as mark
use Rattle.tko_model.specs.declared.mark.Reply.{Reply}
use Rattle.tko_model.specs.declared.mark.Reply.TheVariants as reply

-- the reply to a look-up of a server with this mark
abbrev pub look_reply : Mark → Reply
look_reply (mark.Up count) = reply.Up count
look_reply (mark.Soft thread) = reply.Marked (mark.Soft thread)
look_reply (mark.Hard thread) = reply.Marked (mark.Hard thread)

-- what a look-up with this reply finds, of a server with this mark: only the reply Up gives the
-- permission to send
abbrev pub look_from : ℕ → Mark → Reply → Look
look_from server mark (reply.Up count) = look.Up count server
look_from server mark _ = look.Marked mark

-- what a look-up of a server with this mark finds
abbrev pub look_of : ℕ → Mark → Look
look_of server mark = look_from server mark (look_reply mark)

-- the right of a thread to probe a server, where the mark is its own
abbrev pub duty_of : ℕ → Mark → ℕ → Option ℕ
duty_of server (mark.Up count) thread = None
duty_of server (mark.Soft owner) thread = if owner == thread then Some server else None
duty_of server (mark.Hard owner) thread = if owner == thread then Some server else None
