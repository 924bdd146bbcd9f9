use Rattle.tdf_expr_names.proofs.FaultLines.{faults_stand}
use Rattle.tdf_expr_names.proofs.laws.law_fault_lines.Goals as goal

pub returns : goal.returns
returns c = faults_stand
