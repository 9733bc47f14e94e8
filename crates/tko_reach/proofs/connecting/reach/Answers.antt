use Rattle.std.proofs.Common.{◌≡◌, ◌∙◌, rules, subst}
use Rattle.tko_reach.specs.Printing.{reaches_text}
use Rattle.tko_reach.proofs.connecting.reach.Goals as goal

pub returns-clause-ok : goal.returns-clause-ok
returns-clause-ok g c =
    let text : c.append_servers.new.out.items ≡ reaches_text c.in_ok-servers.servers.items =
    rw (c.new-text.ensures.items, c.deref.ensures.value) at c.in_ok-append_servers.ensures in
    record {
      config = c.in_ok-config.config;
      means = rw c.as_bytes.ensures.value at c.in_ok-config.ensures.ok;
      servers = c.in_ok-servers.servers.items;
      reached = rw c.addresses.ensures at c.in_ok-servers.ensures;
      whole = search rules;
      went = subst (λ shown. g.O.Outlet.takes c.args.output.now shown c.write_text.new.outlet)
          (c.deref-2.ensures.value ∙ text) c.in_ok-write_text.ensures.ok;
    }
