use Rattle.std.proofs.Common.{◌∙◌, ap, length, sym}
use Rattle.tko_server.proofs.MemberLemmas.{number_of_shares}
use Rattle.tko_server.proofs.tracked.shared_by_all.Goals as goal
use Rattle.tko_server.specs.declared.running.Options.{Options}

pub returns-clause-shares : goal.returns-clause-shares
returns-clause-shares g c =
    ap length c.in_ok-book.ensures.list_is ∙ number_of_shares 0 _
    ∙ ap (λ (it : Options). it.settings.threads) c.options.view_is
    ∙ sym (ap (λ settings. settings.threads) c.requires.asked)
