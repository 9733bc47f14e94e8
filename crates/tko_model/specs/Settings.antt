-- What a tracker is opened with, as a value.
use Rattle.std.specs.Prelude.{ℕ, List, [], ◌∷◌, min, replicate}
use Rattle.tko_model.specs.declared.one_group.OneGroup.{OneGroup}
use Rattle.tko_model.specs.Limits.{max_servers}

pub record Settings : Type 0 where
  pub servers : ℕ
  pub threads : ℕ
  pub failures : ℕ
  -- of each group: how many soft marks it may have
  pub limits : List ℕ
  -- of each server: its group
  pub group_of : List ℕ
  pub tries : ℕ
  pub opening_stamp : ℕ

-- the settings of servers that are all in one group. Settings of more servers than may be are
-- refused for that, whatever their groups
abbrev pub in_one_group : OneGroup → Settings
in_one_group it = record {
  servers = it.servers;
  threads = it.threads;
  failures = it.failures;
  limits = it.limit ∷ [];
  group_of = replicate (min it.servers max_servers) 0;
  tries = it.tries;
  opening_stamp = it.opening_stamp;
}

-- the same settings with another number of servers
abbrev pub with_servers : ℕ → Settings → Settings
with_servers servers s = record {
  servers = servers;
  threads = s.threads;
  failures = s.failures;
  limits = s.limits;
  group_of = s.group_of;
  tries = s.tries;
  opening_stamp = s.opening_stamp;
}
