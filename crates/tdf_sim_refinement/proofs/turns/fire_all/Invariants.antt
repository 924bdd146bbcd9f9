use Rattle.std.proofs.Common.{List}
use Rattle.tdf_convert.specs.declared.outputs.Sent.{Sent}
use Rattle.tdf_sim_refinement.proofs.turns.fire_all.Given as goal
use Rattle.tdf_sim_refinement.specs.Pass.{HavePassed, pass_of, pass_run}

abbrev pub invariant-loop-n : goal.invariant-loop-n
invariant-loop-n l = (sent : List Sent) × HavePassed l.flat (pass_of l.moment) l.n (pass_run l.initial.clusters.items l.initial.outputs l.initial.left) (pass_run l.clusters.items l.outputs l.left) sent
