use Rattle.tdf_exec_firing.proofs.Moves.{all_put}
use Rattle.tdf_exec_firing.proofs.firing.fire_sampler.Goals as goal

pub returns-clause-put : goal.returns-clause-put
returns-clause-put c = all_put c.args.value c.args.list.now.items c.args.edges.now.rings c.put_on_all.new.edges.rings c.put_on_all.ensures.put
