use Rattle.std.proofs.Common.{refl}
use Rattle.tko_word.specs.Words.{server_in}
use Rattle.tko_word.proofs.WordLemmas.{masked}
use Rattle.tko_word.proofs.health.unpack.Goals as goal

pub returns-clause-read : goal.returns-clause-read
unfolding server_in
returns-clause-read c = rw (c.mark_of.ensures, masked c.args.word) refl
