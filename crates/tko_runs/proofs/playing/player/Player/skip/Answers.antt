use Rattle.std.proofs.Common.{◌≡◌, length, refl, rules}
use Rattle.tko_runs.proofs.PlayStepLemmas.{one_by_one-push}
use Rattle.tko_runs.proofs.playing.player.Player.skip.Goals as goal

pub returns : goal.returns
returns c =
    let len : c.len.result ≡ length c.self.inside.events.items = search rules in
    rw (c.in_ok-push.ensures.items, one_by_one-push, len, ← c.self.view_is) refl
