use Rattle.std.proofs.Common.{◌≡◌, ℕ, List, get_or, set, ap, refl}
use Rattle.std.proofs.lemmas.List.{get_or_read}
use Rattle.tko_runs.proofs.checking.calls.CheckedCalls.step.Goals as goal

pub returns : goal.returns
returns c =
    let own = c.args.self.now in
    let latest = own.latest.items in
    let same : c.index-latest.result.now ≡ get_or latest c.args.thread 0 =
    get_or_read latest _ _ c.requires.thread c.index-latest.ensures 0 in
    record {
      call = c.index_mut.result.now;
      now = c.grow.new.call;
      is = rw same at c.index_mut.ensures.value;
      grown = c.in_ok-grow.ensures;
      calls = ap (λ place. set own.all.items place c.grow.new.call) same;
      latest = refl {A = List ℕ};
    }
