use Rattle.std.proofs.Common.{refl, arith}
use Rattle.tko_links.specs.Incoming.{ResponseSoFar, arrival}
use Rattle.tko_links.proofs.ReceiveLemmas.{got_more, got_none, receives_failed}
use Rattle.tko_links.proofs.ReceiveLemmas.{receives_judged, receives_reply}
use Rattle.tko_links.proofs.exchanging.receive.Goals as goal

pub loop-init : goal.loop-init
loop-init g c =
    record {
      got = got_none c.args.wire.now
          (arrival c.args.incoming.now) c.requires.connected c.requires.nothing;
      looked = omega (arith, c.requires.looked);
    }

pub loop-preserved : goal.loop-preserved
loop-preserved g c =
    let next : ResponseSoFar = record { bytes = c.read.new.self; least = c.loop.incoming.least } in
    record {
      got =
          got_more next (arrival c.look.new.self) c.loop.invariant.got c.in-Ok.ensures
          ((rw c.in-Ok-None.field-0-is at c.in-Ok-None.ensures.kept) refl)
          (rw c.in-Ok-None.field-0-is at c.in-Ok-None.ensures.judges);
      looked = (rw c.in-Ok-None.field-0-is at c.in-Ok-None.ensures.looked) refl;
    }

pub returns-in-Ok-Some : goal.returns-in-Ok-Some
returns-in-Ok-Some g c =
    receives_reply (record {
      bytes = c.read.new.self;
      least = c.loop.incoming.least;
    }) c.in-Ok-Some.reply c.loop.invariant.got c.in-Ok.ensures
    (rw c.in-Ok-Some.field-0-is at c.in-Ok-Some.ensures.judges)

pub returns-in-Err-look : goal.returns-in-Err-look
returns-in-Err-look g c =
    receives_judged (record {
      bytes = c.read.new.self;
      least = c.loop.incoming.least;
    }) (arrival c.look.new.self)
    c.in-Err-look.fault c.loop.invariant.got c.in-Ok.ensures c.in-Err-look.ensures.judges

pub returns-in-Err : goal.returns-in-Err
returns-in-Err g c =
    receives_failed c.read.new.self c.in-Err.fault c.loop.invariant.got c.in-Err.ensures
