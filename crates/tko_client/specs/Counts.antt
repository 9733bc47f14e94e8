-- Sends that a worker counts.
use Rattle.std.specs.Prelude.{◌≡◌, ◌≢◌, ◌+◌, ℕ, true, List, length, replicate, slice_index}
use Rattle.tko_model.specs.Records.{Gains}
use Rattle.tko_links.specs.Links.{most_sends, part_of}
use Rattle.tko_reply.specs.Interactions.{with_links}
use Rattle.tko_reply.specs.declared.parts.Parts.{Parts}

-- a send to this server was counted
pub record IsSendCounted {H T C : Type 0} (old : Parts H (List ℕ) T C) (server : ℕ)
    (new : Parts H (List ℕ) T C) : Type 0 where
  pub rises : (at : ℕ) → slice_index new.backend.links at
      ≡ slice_index old.backend.links at + part_of true server at
  pub room : slice_index old.backend.links server ≢ most_sends
  pub servers : length new.backend.links ≡ length old.backend.links
  pub others : new ≡ with_links new.backend.links old

-- so many sends to it were counted, one after another
abbrev pub AreSendsCounted : {H T C : Type 0} → ℕ → ℕ → Parts H (List ℕ) T C → Parts H (List ℕ) T C
    → Type 0
AreSendsCounted server count old new = Gains IsSendCounted old (replicate count server) new
