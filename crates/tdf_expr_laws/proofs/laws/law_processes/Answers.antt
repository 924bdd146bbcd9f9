use Rattle.tdf_expr_laws.proofs.Processes.{processes_leave_soon}
use Rattle.tdf_expr_laws.proofs.laws.law_processes.Goals as goal

pub returns : goal.returns
returns c = processes_leave_soon
