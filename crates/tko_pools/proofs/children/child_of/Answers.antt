use Rattle.std.proofs.Common.{◌∙◌, ap, map}
use Rattle.serde_json.specs.View.{view}
use Rattle.tko_pools.specs.Numbering.{number_in}
use Rattle.tko_pools.proofs.ChildLemmas.{sound-child}
use Rattle.tko_pools.proofs.children.child_of.Goals as goal

pub new-requires : goal.new-requires
new-requires c =
    sound-child c.args.addresses.now (view c.args.pool.now) _ (record { some = c.requires.some; placed = c.requires.placed }) (record {
      servers = c.in_ok-servers.ensures ∙ ap (map (number_in c.args.addresses.now)) c.servers_of.ensures;
      hash = c.in_ok-hashing.ensures.hash;
      part = c.in_ok-hashing.ensures.part;
      ring = c.in_ok-ring.ensures;
    })
