-- The groups of the servers: each server is in one of them, and each has a limit of soft marks of
-- its own. Proofs use only that the group of a server is one of the groups, and that there are at
-- most as many groups, with limits at most as high, as the ranges of the settings say.
use Rattle.std.specs.Prelude.{ℕ, Bool, ◌==◌, get_or, length}
use Rattle.tko_model.specs.Settings.{Settings}

-- how many groups there are; they are numbered from 0
unfoldable pub groups : Settings → ℕ
groups s = length s.limits

-- the group of a server
unfoldable pub group_of : Settings → ℕ → ℕ
group_of s server = get_or s.group_of server 0

-- how many servers of a group may have a soft mark
unfoldable pub limit_of : Settings → ℕ → ℕ
limit_of s group = get_or s.limits group 0

-- whether a server is of this group
abbrev pub is_in : Settings → ℕ → ℕ → Bool
is_in s group server = group_of s server == group

-- the limit of the group of a server
abbrev pub limit_at : Settings → ℕ → ℕ
limit_at s server = limit_of s (group_of s server)
