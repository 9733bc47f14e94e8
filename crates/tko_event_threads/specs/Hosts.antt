-- What the host of an event-driven worker makes its clients with.
use Rattle.std.specs.Prelude.{max}
use Rattle.tko_keys.specs.declared.plan.KeyPlan.{KeyPlan}

-- how the keys of a client's requests are sent, of which one may be under way in any case
abbrev pub for_client : KeyPlan → KeyPlan
for_client keys = record { most = max keys.most 1; grouping = keys.grouping }
