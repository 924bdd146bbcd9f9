use Rattle.std.proofs.Common.{arith, length-drop}
use Rattle.std.proofs.lemmas.List.{take_rest}
use Rattle.std.proofs.KnownBytes.{Appends-trans}
use Rattle.tdf_io.proofs.Windows.{range_more}
use Rattle.tdf_io.proofs.gather.write_on.Goals as goal

pub loop-written-preserved : goal.loop-written-preserved
loop-written-preserved g c = record {
  up = omega (arith, c.loop-written.invariant.up);
  within = omega (arith, length-drop c.loop-written.written c.args.bytes.now, simp take_rest at c.in-Ok.ensures.bound);
  wrote = rw (range_more c.args.bytes.now c.args.from c.loop-written.written c.in-Ok.count c.loop-written.invariant.up)
      (Appends-trans _ _ _ _ _ c.loop-written.invariant.wrote (simp take_rest at c.in-Ok.ensures.bytes));
}
