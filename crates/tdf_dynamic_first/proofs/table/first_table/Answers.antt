use Rattle.std.proofs.Common.{◌∙◌, ◌<◌, length, subst, sym}
use Rattle.tdf_cluster_plans.proofs.Api.{in_count}
use Rattle.tdf_dynamic_first.proofs.Own.{by_groups, own_is}
use Rattle.tdf_dynamic_first.specs.machine.Placed.{ArePortsByModule}
use Rattle.tdf_dynamic_plans.proofs.Api.{modules_few, rows_same}
use Rattle.tdf_dynamic_plans.specs.Attributes.{clusters_of}
use Rattle.tdf_dynamic_first.proofs.table.first_table.Goals as goal

pub actors-requires : goal.actors-requires
actors-requires c = subst (λ n. c.args.cluster < n) (sym c.requires.groups.actors.long) (in_count (clusters_of c.args.flat.now.tables) c.args.cluster c.requires.groups.count c.requires.has c.requires.groups.all)

pub table_rows-requires-clause-ports : goal.table_rows-requires-clause-ports
table_rows-requires-clause-ports c = subst (ArePortsByModule c.args.flat.now.tables.ports (length c.args.flat.now.tables.modules)) (sym c.ports_by_actor.ensures)
    (by_groups c.args.flat.now.tables c.args.groups.now.actor_ports (modules_few c.args.flat.now.tables c.requires.plannable.wired) c.requires.groups.actor_ports)

pub returns-clause-rows : goal.returns-clause-rows
returns-clause-rows c = rows_same c.new-2.ensures.table ∙ c.in_ok-rows.ensures
    ∙ own_is c.args.flat.now c.args.cluster c.args.groups.now c.actors.result.now c.requires.plannable.wired c.requires.has c.requires.groups c.actors.ensures
