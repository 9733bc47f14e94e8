use Rattle.std.proofs.Common.{rules, refl}
use Rattle.tko_threads.proofs.working.Working.serve_met.Goals as goal

pub returns-clause-session : goal.returns-clause-session
returns-clause-session g c = (
  c.serve-served.result,
  record {
    reader = c.new-reader.result;
    reader_left = c.serve-served.new.reader;
    writer = c.args.writer;
    writer_left = c.serve-served.new.writer;
    ends = c.serve-served.ensures.ends;
    report = search rules;
    probes = refl;
  },
)
