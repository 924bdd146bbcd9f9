use Rattle.tdf_exec_firing.proofs.Formats.{modules_keep, samplers_keep, sinks_keep}
use Rattle.tdf_exec_firing.proofs.laws.law_formats.Goals as goal

pub returns-clause-modules : goal.returns-clause-modules
returns-clause-modules c = modules_keep

pub returns-clause-samplers : goal.returns-clause-samplers
returns-clause-samplers c = samplers_keep

pub returns-clause-sinks : goal.returns-clause-sinks
returns-clause-sinks c = sinks_keep
