use Rattle.std.proofs.Common.{◌≡◌, ◌≤◌, rules, length, map}
use Rattle.std.specs.Prelude.{None}
use Rattle.serde_json.specs.View.{view}
use Rattle.tko_pools.specs.Configs.{numbers_of, soft_limits_in}
use Rattle.tko_pools.specs.Groups.{groups_in}
use Rattle.tko_model.specs.Limits.{max_servers}
use Rattle.tko_pools.specs.Reasons.{unknown_child}
use Rattle.tko_pools.proofs.SoundLemmas.{children-sound, is-sound}
use Rattle.tko_pools.proofs.config.Config.over.Goals as goal

pub children_of-requires : goal.children_of-requires
children_of-requires c =
    let pools = view c.args.pools.now in
    let names = map (λ name. name.now) c.children-names.result.now in
    let named : unknown_child pools names ≡ None = search rules in
    children-sound pools names c.requires.sound named

pub invariant_of-result : goal.invariant_of-result
invariant_of-result c =
    let pools = view c.args.pools.now in
    let names = map (λ name. name.now) c.children-names.result.now in
    let addresses = c.in_ok-addresses.addresses in
    let children = c.in_ok-children.children.items in
    let named : unknown_child pools names ≡ None = search rules in
    let within : length addresses ≤ max_servers = search rules in
    let grouped : c.in_ok-grouping.grouping.groups.items ≡ groups_in (numbers_of children) (length addresses) = search rules in
    let limited : c.in_ok-grouping.grouping.soft_limits.items ≡ soft_limits_in pools names (numbers_of children) (length addresses) = search rules in
    is-sound pools names addresses _ children _ _ _ (record {
      are_addresses = c.in_ok-addresses.ensures;
      are_names = c.in_ok-copies.ensures;
      are_children = c.in_ok-children.ensures;
      sound = children-sound pools names c.requires.sound named;
      some = rw c.children-names.ensures c.requires.some;
      within = within;
      are_groups = grouped;
      are_limits = limited;
    })
