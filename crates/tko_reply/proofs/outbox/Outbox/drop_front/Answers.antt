use Rattle.std.proofs.Common.{◌≡◌, ◌-◌, ◌∙◌, ap, arith, length, drop}
use Rattle.std.specs.Prelude.{[], unwrap_or}
use Rattle.tko_reply.proofs.PieceLemmas.{drop_three}
use Rattle.tko_reply.proofs.outbox.Outbox.drop_front.Goals as goal

pub returns : goal.returns
returns c =
    let before = c.self.inside.before.items in
    let long = unwrap_or c.self.inside.long [] in
    let bytes = c.self.inside.bytes.items in
    let second : c.saturating_sub-of_long.result ≡ c.args.count - length before =
    omega (arith, c.saturating_sub-of_long.ensures, c.len.ensures) in
    let third : c.saturating_sub-of_bytes.result ≡ c.saturating_sub-of_long.result - length long =
    omega (arith, c.saturating_sub-of_bytes.ensures, ap length c.text_in.ensures) in
    rw (c.drop_bytes.ensures, c.drop_long.ensures, c.drop_bytes-2.ensures)
    (drop_three c.args.count _ _ before long bytes second third
    ∙ ap (drop c.args.count) c.self.view_is)
