use Rattle.std.proofs.Common.{◌≡◌, ◌-◌, ◌∙◌, ap, arith, length, take}
use Rattle.std.specs.Prelude.{[], unwrap_or}
use Rattle.tko_reply.proofs.PieceLemmas.{take_three}
use Rattle.tko_reply.proofs.outbox.Outbox.truncate.Goals as goal

pub returns : goal.returns
returns c =
    let before = c.self.inside.before.items in
    let long = unwrap_or c.self.inside.long [] in
    let bytes = c.self.inside.bytes.items in
    let second : c.saturating_sub-of_long.result ≡ c.args.len - length before =
    omega (arith, c.saturating_sub-of_long.ensures, c.len.ensures) in
    let third : c.saturating_sub-of_bytes.result ≡ c.saturating_sub-of_long.result - length long =
    omega (arith, c.saturating_sub-of_bytes.ensures, ap length c.text_in.ensures) in
    rw (c.truncate.ensures.items, c.cut_long.ensures, c.truncate-2.ensures.items)
    (take_three c.args.len _ _ before long bytes second third ∙ ap (take c.args.len) c.self.view_is)
