use Rattle.std.proofs.Common.{◌∙◌, ap, length, refl, sym}
use Rattle.tko_prober.proofs.RoundLemmas.{visited_more, visited_none}
use Rattle.tko_session.proofs.EventLemmas.{visited_others}
use Rattle.tko_session.proofs.rounds.visit_all.Goals as goal

pub loop-server-init : goal.loop-server-init
loop-server-init g c = (visited_none c.args.moment c.args.parts.now.backend, λ server. refl, refl, refl, c.requires.reach)

pub loop-server-preserved : goal.loop-server-preserved
loop-server-preserved g c =
    let (visits, sends, others, slots, reach) = c.loop-server.invariant in
    let one = c.visit-short.ensures in (
      visited_more visits one.visit,
      λ server. one.sends server ∙ sends server,
      visited_others c.args.parts.now c.loop-server.parts others one.others,
      one.reach.probers ∙ ap (λ parts. length parts.config.addresses) one.others ∙ sym reach.probers ∙ slots,
      one.reach,
    )
