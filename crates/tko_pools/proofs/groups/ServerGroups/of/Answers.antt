use Rattle.std.proofs.Common.{◌∙◌, length, map}
use Rattle.tko_model.specs.Limits.{max_servers}
use Rattle.tko_pools.proofs.GroupLemmas.{few-owned}
use Rattle.tko_pools.proofs.groups.ServerGroups.of.Goals as goal

pub groups_of-requires : goal.groups_of-requires
groups_of-requires c =
    let children = map (λ child. child.servers) c.args.children.now in
    record {
      few = few-owned children c.args.servers (length c.args.children.now) max_servers _ _ (c.deref.ensures.value ∙ c.in_ok-owners.ensures) (c.deref-3.ensures.value ∙ c.in_ok-places.ensures) c.requires.few;
    }
