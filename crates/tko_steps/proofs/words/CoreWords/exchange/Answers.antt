use Rattle.std.proofs.Common.{◌≡◌, ◌∙◌, true, ap, set, subst, sym}
use Rattle.tko_model.specs.declared.state.ServerState.{ServerState}
use Rattle.tko_model.specs.Tracker.{server_at}
use Rattle.tko_steps.specs.declared.table.Action.TheVariants.{Exchange}
use Rattle.tko_steps.specs.Core.{Shared, servers_after}
use Rattle.tko_steps.specs.Table.{same_server}
use Rattle.tko_steps.proofs.WordsLemmas.{exchange_is, shared_in}
use Rattle.tko_steps.proofs.words.CoreWords.exchange.Goals as goal

pub returns-clause-state : goal.returns-clause-state
returns-clause-state c =
    let health = c.self.inside.health.items in
    let server = c.args.server in
    let found = c.args.found in
    let new = shared_in (set health server c.pack.result) c.self.inside.soft.items c.self.inside.enrolled in
    let P : Shared → Type 0 = λ now.
    same_server (server_at now.servers server) found ≡ true → new ≡ record now { servers = servers_after now.servers server (Exchange found c.args.mark) } in
    let same : same_server (server_at c.args.self.now.servers server) found ≡ true =
    ap (λ (it : ServerState). same_server it found) (sym c.server.ensures) ∙ sym c.is_same.ensures ∙ c.if-not-is_same.false in
    subst P c.self.view_is
    (exchange_is health c.self.inside.soft.items c.self.inside.enrolled server c.pack.result found c.args.mark c.pack.ensures.back) same
