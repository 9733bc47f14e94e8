use Rattle.std.proofs.Common.{◌≡◌, ◌++◌, rules}
use Rattle.tko_scrapes.proofs.pages.Pages.fill_health.Goals as goal

pub returns-clause-health : goal.returns-clause-health
returns-clause-health c =
    let filled : c.put_slice.new.self.items ≡ c.args.response.now.body.items ++ c.in-Ok.report.text.items = search rules in
    record {
      report = c.in-Ok.report;
      is_health = c.in-Ok.ensures;
      status = c.status-response.ensures;
      body = filled;
    }
