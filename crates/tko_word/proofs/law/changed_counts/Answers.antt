use Rattle.tko_word.proofs.SoftLemmas.{soft_word-give, soft_word-loosen, soft_word-reserve, soft_word-settle}
use Rattle.tko_word.proofs.law.changed_counts.Goals as goal

pub returns-clause-reserve : goal.returns-clause-reserve
returns-clause-reserve c = soft_word-reserve

pub returns-clause-settle : goal.returns-clause-settle
returns-clause-settle c = soft_word-settle

pub returns-clause-loosen : goal.returns-clause-loosen
returns-clause-loosen c = soft_word-loosen

pub returns-clause-give : goal.returns-clause-give
returns-clause-give c = soft_word-give
