use Rattle.tdf_save.proofs.Passing.{finds_text}
use Rattle.tdf_save.proofs.TextStarts.{start_is_one}
use Rattle.tdf_save.proofs.WholeOnes.{saved_is_one}
use Rattle.tdf_save.proofs.laws.law_text.Goals as goal

pub returns-clause-one : goal.returns-clause-one
returns-clause-one c = saved_is_one

pub returns-clause-start : goal.returns-clause-start
returns-clause-start c = start_is_one

pub returns-clause-found : goal.returns-clause-found
returns-clause-found c = finds_text
