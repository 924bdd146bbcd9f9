use Rattle.std.proofs.Common.{◌-◌, length}
use Rattle.tdf_exec.specs.machine.Steps.{ArePlayed}
use Rattle.tdf_exec.proofs.cluster.Cluster.fire_at.Given as goal

abbrev pub invariant-loop-self : goal.invariant-loop-self
invariant-loop-self l = ArePlayed l.initial.flat l.initial.offset l.initial.inputs l.initial.self l.self l.initial.outputs l.outputs

abbrev pub decreases-loop-self : goal.decreases-loop-self
decreases-loop-self l = length l.self.entries - l.self.place
