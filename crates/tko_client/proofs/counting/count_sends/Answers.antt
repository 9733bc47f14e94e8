use Rattle.std.proofs.Common.{◌<◌, subst, sym}
use Rattle.tko_client.proofs.CountLemmas.{counted_more}
use Rattle.tko_client.proofs.counting.count_sends.Goals as goal

pub loop-preserved : goal.loop-preserved
loop-preserved g c =
    let sent = c.count_send.ensures in
    let more = counted_more c.loop.counter c.loop.invariant.counts
    (record {
      rises = sent.counted;
      room = sent.room;
      servers = sent.servers;
      others = sent.others;
    }) in
    record {
      counts = more;
      within = subst (λ n. c.args.server < n) (sym sent.servers)
          c.loop.invariant.within;
    }
