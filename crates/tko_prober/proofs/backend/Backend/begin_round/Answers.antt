use Rattle.tko_prober.proofs.RoundLemmas.{round_quiet}
use Rattle.tko_prober.proofs.backend.Backend.begin_round.Goals as goal

pub returns-then-is_quiet-clause-over : goal.returns-then-is_quiet-clause-over
returns-then-is_quiet-clause-over g c =
    round_quiet c.next-moment.result c.args.self.now c.next-moment.new.self c.next-moment.ensures
    (c.is_quiet.ensures.0 c.if-is_quiet.true)
