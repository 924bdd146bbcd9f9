use Rattle.std.proofs.Common.{sym, subst}
use Rattle.std.specs.Prelude.{All}
use Rattle.tdf_dynamic_plans.proofs.Api.{assigned_fit, from_period}
use Rattle.tdf_cluster_plans.proofs.OwnNets.{net_ports_are}
use Rattle.tdf_dynamic_plans.specs.Assignments.{assignments}
use Rattle.tdf_dynamic_plans.specs.Rates.{net_of}
use Rattle.tdf_timestep.specs.Period.{IsAssigned}
use Rattle.tdf_cluster_plans.proofs.own_timing.cluster_timing.Goals as goal

pub own_steps_or-requires-clause-assigned : goal.own_steps_or-requires-clause-assigned
own_steps_or-requires-clause-assigned c = subst (λ ps. All (IsAssigned ps c.in-Ok.counts.items) (assignments c.args.table.now)) (sym (net_ports_are c.args.tables.now c.args.table.now))
    (assigned_fit c.args.tables.now c.args.cluster c.args.table.now (net_of c.args.tables.now c.args.table.now).edges c.in-Ok.counts.items c.in-Ok.ensures.counts.counts_are c.requires.modules c.requires.table)

pub returns-in-Err-own_steps_or-clause-refused : goal.returns-in-Err-own_steps_or-clause-refused
returns-in-Err-own_steps_or-clause-refused c = from_period c.args.tables.now (net_of c.args.tables.now c.args.table.now) c.args.cluster c.args.table.now c.in-Ok.counts.items c.in-Err-own_steps_or.refused c.in-Ok.ensures.counts
    c.in-Err-own_steps_or.ensures.refused
