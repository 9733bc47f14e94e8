use Rattle.std.proofs.Common.{◌≡◌, None, length, set, arith, ap, refl}
use Rattle.tko_runs.proofs.checking.calls.CheckedCalls.begin.Goals as goal

pub returns : goal.returns
returns c =
    let own = c.args.self.now in
    let count : c.len.result ≡ length own.all.items = omega (arith, c.len.ensures, own.all.ok.0) in
    record {
      call = record { number = c.args.number; op = c.args.op; server = c.args.server; answer = None; steps = c.new.result };
      numbered = refl;
      asks = refl;
      on_server = refl;
      open_yet = refl;
      no_step = c.new.ensures.items;
      calls = c.in_ok-push.ensures.items;
      latest = ap (λ place. set own.latest.items c.args.thread place) count;
    }
