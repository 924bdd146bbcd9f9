use Rattle.tdf_exec_layout.proofs.Edges.{edges_are_rows, ports_give_once, samplers_read_none, sinks_are_read, sinks_write_none}
use Rattle.tdf_exec_layout.proofs.laws.law_edges.Goals as goal

pub returns-clause-rows : goal.returns-clause-rows
returns-clause-rows c = edges_are_rows

pub returns-clause-once : goal.returns-clause-once
returns-clause-once c = ports_give_once

pub returns-clause-sinks : goal.returns-clause-sinks
returns-clause-sinks c = sinks_are_read

pub returns-clause-samplers_read : goal.returns-clause-samplers_read
returns-clause-samplers_read c = samplers_read_none

pub returns-clause-sinks_write : goal.returns-clause-sinks_write
returns-clause-sinks_write c = sinks_write_none
