use Rattle.std.proofs.Common.{refl, rules}
use Rattle.tko_commands.proofs.dry.parts_of.Goals as goal

pub returns : goal.returns
returns c = record {
  health = search rules;
  links = rw (← c.servers-servers.ensures) c.in_ok-new.ensures;
  trails = search rules;
  over = refl;
  delays = c.default_delays.result;
  by_default = c.default_delays.ensures;
  probers = rw (← c.servers-servers.ensures) c.in_ok-new-2.ensures;
}
