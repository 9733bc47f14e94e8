use Rattle.std.proofs.Common.{subst}
use Rattle.tko_pools.proofs.ChildLemmas.{are-targets, targets-below}
use Rattle.tko_pools.specs.Configs.{AreOwners, AreServers, Configuration, targets_of}
use Rattle.tko_pools.proofs.config.Config.replace_targets.Goals as goal

pub returns-then-is_err-clause-within : goal.returns-then-is_err-clause-within
unfolding targets_of
returns-then-is_err-clause-within c =
    subst
    (λ (config : Configuration). AreServers config (targets_of config c.args.key.now))
    c.self.view_is
    (targets-below c.args.key.now _ _ c.self.invariant.children c.self.invariant.numbers)

pub returns-else-is_err-clause-within : goal.returns-else-is_err-clause-within
unfolding targets_of
returns-else-is_err-clause-within c =
    subst
    (λ (config : Configuration). AreServers config (targets_of config c.args.key.now))
    c.self.view_is
    (targets-below c.args.key.now _ _ c.self.invariant.children c.self.invariant.numbers)

pub returns-then-is_err-clause-owners : goal.returns-then-is_err-clause-owners
unfolding targets_of
returns-then-is_err-clause-owners c =
    subst
    (λ (config : Configuration). AreOwners config c.args.key.now (targets_of config c.args.key.now))
    c.self.view_is
    (are-targets c.args.key.now _ c.self.invariant.children)

pub returns-else-is_err-clause-owners : goal.returns-else-is_err-clause-owners
unfolding targets_of
returns-else-is_err-clause-owners c =
    subst
    (λ (config : Configuration). AreOwners config c.args.key.now (targets_of config c.args.key.now))
    c.self.view_is
    (are-targets c.args.key.now _ c.self.invariant.children)
