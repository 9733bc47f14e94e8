use Rattle.tko_keys.proofs.KeysLife.{keys_answer, keys_cut, keys_new, keys_on}
use Rattle.tko_keys.proofs.laws.keys_life.Goals as goal

pub returns-clause-new : goal.returns-clause-new
returns-clause-new c = keys_new

pub returns-clause-on : goal.returns-clause-on
returns-clause-on c = keys_on

pub returns-clause-answers : goal.returns-clause-answers
returns-clause-answers c = keys_answer

pub returns-clause-cut : goal.returns-clause-cut
returns-clause-cut c = keys_cut
