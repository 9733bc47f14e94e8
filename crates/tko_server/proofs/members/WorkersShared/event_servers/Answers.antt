use Rattle.std.proofs.Common.{rules, string_bytes}
use Rattle.tko_server.proofs.EventMemberLemmas.{next_address, one_more_server}
use Rattle.tko_server.proofs.members.WorkersShared.event_servers.Goals as goal

pub loop-address-preserved : goal.loop-address-preserved
loop-address-preserved g c = (
  (search rules),
  one_more_server _ _ _ _ _ _ c.in_ok-of.ensures c.in_ok-push.ensures.items
      (next_address string_bytes c.addresses-address-items.result.now
      c.loop-address.address-index _ _ c.loop-address-test.true c.address-item.is
      c.as_str.ensures.value)
      c.loop-address.invariant.1,
)
