-- A key of a request: as it was read, once replies before its own were written, and while it is
-- sent.
use Rattle.std.specs.Prelude.{ℕ, ◌-◌, Bool, true, false, []}
use Rattle.tko_text.specs.declared.request.Request.{Request}
use Rattle.tko_text.specs.SentRequests.{asks_no_reply}
use Rattle.tko_route.specs.Underway.{Awaited}
use Rattle.tko_reply.specs.declared.asking.OneKey.{OneKey}
use Rattle.tko_reply.specs.declared.asking.ReplyPart.{ReplyPart}
use Rattle.tko_reply.specs.declared.asking.ReplyPart.TheVariants as share

-- a request as it was read: the response to it is all of the reply, which goes to the client unless
-- the request is silent
abbrev pub whole_of : Request → OneKey
whole_of request = record { request = request; share = share.Whole (asks_no_reply request) }

-- a request for one of several keys whose replies are kept apart: its response is the values of one
-- key, which no other bytes of its outbox come before
abbrev pub one_of : Request → OneKey
one_of request = record { request = request; share = share.Joined 0 [] }

-- the values of a key are joined with those of others
abbrev pub is_joined : ReplyPart → Bool
is_joined (share.Whole silent) = false
is_joined (share.Joined begin left) = true

-- the share once so many bytes were dropped from the front of the outbox
abbrev pub shifted_share : ℕ → ReplyPart → ReplyPart
shifted_share count (share.Whole silent) = share.Whole silent
shifted_share count (share.Joined begin left) = share.Joined (begin - count) left

abbrev pub shifted_key : ℕ → OneKey → OneKey
shifted_key count one = record one { share = shifted_share count one.share }

-- a key whose request was sent to a server, until the outcome is recorded
pub record SentKey : Type 0 where
  pub awaited : Awaited
  pub key : OneKey

abbrev pub asking : Awaited → OneKey → SentKey
asking awaited one = record { awaited = awaited; key = one }
