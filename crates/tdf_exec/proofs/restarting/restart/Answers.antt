use Rattle.std.proofs.Common.{rules}
use Rattle.tdf_exec.proofs.Restarts.{restarted_as}
use Rattle.tdf_exec.specs.contracts.runners.ModuleRunner.{the_view}
use Rattle.tdf_exec.proofs.restarting.restart.Goals as goal

pub returns : goal.returns
returns c = restarted_as c.args.checked.now (the_view c.runner.inside) c.args.runner.now c.runner.view_is c.deref.result.now.block c.deref_mut-instance.result.now (search rules) (search rules)
    c.begin.new.ports c.run_body.new.ports c.run_body.new.frame c.requires c.begin.ensures c.run_body.ensures.after c.run_body.ensures.frame c.run_body.ensures.inputs
