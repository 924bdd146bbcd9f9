-- Each clause is a lemma.
use Rattle.tdf_fixed.proofs.DecimalTexts.{value_text_is, time_text}
use Rattle.tdf_fixed.proofs.ReadBack.{reads_back}
use Rattle.tdf_fixed.proofs.laws.law_texts.Goals as goal

pub returns-clause-values : goal.returns-clause-values
returns-clause-values c = value_text_is

pub returns-clause-times : goal.returns-clause-times
returns-clause-times c = time_text

pub returns-clause-reads_back : goal.returns-clause-reads_back
returns-clause-reads_back c = reads_back
