use Rattle.tdf_events.specs.machine.Making.{AreFrames}
use Rattle.tdf_events.proofs.making.start_frames.Given as goal

abbrev pub invariant-loop-i : goal.invariant-loop-i
invariant-loop-i l = AreFrames l.checked l.blocks l.i l.frames.items
