use Rattle.std.proofs.Common.{rules}
use Rattle.tko_reach.proofs.reach.Reach.heard.Goals as goal

pub returns : goal.returns
returns c = (
  record { read = c.read.result; is_read = c.read.ensures.reads; other = search rules },
  c.in_ok-from_slice-in-Ok.ensures.items,
)
