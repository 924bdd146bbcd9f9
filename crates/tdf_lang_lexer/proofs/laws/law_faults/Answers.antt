use Rattle.tdf_lang_lexer.proofs.FaultLaws.{faults_are_first, no_fault_is_clean}
use Rattle.tdf_lang_lexer.proofs.laws.law_faults.Goals as goal

pub returns : goal.returns
returns c = record { first = faults_are_first; none = no_fault_is_clean }
