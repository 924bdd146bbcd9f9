use Rattle.tdf_convert.specs.machine.Sampling.{AreSampledUpTo}
use Rattle.tdf_convert.proofs.sampling.sample_all.Given as goal

abbrev pub invariant-loop-i : goal.invariant-loop-i
invariant-loop-i l = AreSampledUpTo l.entries l.low l.i l.links l.values l.initial.inputs l.inputs
