use Rattle.tdf_save_reading.proofs.ModuleReads.{why_weaker}
use Rattle.tdf_save_reading.proofs.ModuleSteps.{modules_each}
use Rattle.tdf_save_reading.proofs.ReadSteps.{each_none_read, each_piece, each_read, each_stuck}
use Rattle.tdf_save.specs.Members.{IsModuleFor}
use Rattle.tdf_save.specs.Text.{saved_module}
use Rattle.tdf_save.specs.machine.Pieces.{Any}
use Rattle.tdf_save_reading.proofs.modules.read_modules.Goals as goal

pub loop-k-init : goal.loop-k-init
loop-k-init c = rw c.new-list.ensures.items (each_none_read saved_module IsModuleFor Any c.args.members.now c.args.text.now)

pub loop-k-preserved : goal.loop-k-preserved
loop-k-preserved c =
    rw c.in_ok-put-in-Ok.ensures.put
    (each_read saved_module IsModuleFor Any modules_each c.args.members.now c.args.text.now c.loop-k.k c.index-members-k.result c.loop-k.list.items c.in-Ok.state c.loop-k.rest.now c.in-Ok.left.now
    c.loop-k-test.true c.index-members-k.is c.loop-k.invariant c.in-Ok.ensures.is)

pub returns-in-Err-clause-refused : goal.returns-in-Err-clause-refused
returns-in-Err-clause-refused c = why_weaker c.in-Err.why
    (each_stuck saved_module IsModuleFor Any modules_each c.args.members.now c.args.text.now c.loop-k.k c.index-members-k.result c.loop-k.list.items c.loop-k.rest.now
    c.loop-k-test.true c.index-members-k.is c.loop-k.invariant) c.in-Err.ensures.refused

pub returns-clause-is : goal.returns-clause-is
returns-clause-is c = each_piece saved_module IsModuleFor Any c.args.members.now c.args.text.now c.loop-k.k c.loop-k.list.items c.loop-k.rest.now c.loop-k-test.false tt c.loop-k.invariant
