use Rattle.std.proofs.Common.{refl}
use Rattle.tko_text.proofs.StepLemmas.{skips_bytes, skips_line, reads_nothing}
use Rattle.tko_text.proofs.reader.Reader.next.Goals as goal

pub returns-in-Skip-clause-none : goal.returns-in-Skip-clause-none
returns-in-Skip-clause-none c = (skips_bytes c.args.self.now c.self.inside.state c.self.inside.buffer _ c.self.view_is c.in-Skip.is, refl)

pub returns-in-SkipLine-clause-none : goal.returns-in-SkipLine-clause-none
returns-in-SkipLine-clause-none c = (skips_line c.args.self.now c.self.inside.state c.self.inside.buffer c.self.view_is c.in-SkipLine.is, refl)

pub returns-in-Never-clause-none : goal.returns-in-Never-clause-none
returns-in-Never-clause-none c = (reads_nothing c.args.self.now c.self.inside.state c.self.inside.buffer c.self.view_is c.in-Never.is, refl)
