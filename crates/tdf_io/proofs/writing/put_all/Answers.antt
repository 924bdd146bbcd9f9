use Rattle.std.proofs.Common.{◌∙◌, take, drop, sym, take-append-drop, arith, length-drop}
use Rattle.std.proofs.Math.Seq.{take-add}
use Rattle.std.proofs.lemmas.List.{take_rest, take_all}
use Rattle.std.proofs.KnownBytes.{Appends-trans, Appends-kept}
use Rattle.tdf_io.proofs.writing.put_all.Goals as goal

pub loop-done-preserved : goal.loop-done-preserved
loop-done-preserved g c = record {
  within = omega (arith, length-drop c.loop-done.done c.args.bytes.now, simp take_rest at c.in-Ok.ensures.bound);
  wrote = rw take-add (Appends-trans _ _ _ _ _ c.loop-done.invariant.wrote (simp take_rest at c.in-Ok.ensures.bytes));
  faults = c.in-Ok.ensures.counted.kept ∙ c.loop-done.invariant.faults;
}

pub returns-in-Err : goal.returns-in-Err
returns-in-Err g c =
    let counted = c.in-Err.ensures.counted in
    let same = c.loop-done.invariant.faults in record {
      all = tt;
      part = record {
        front = take c.loop-done.done c.args.bytes.now;
        rest = drop c.loop-done.done c.args.bytes.now;
        whole = sym (take-append-drop c.loop-done.done c.args.bytes.now);
        gained = Appends-kept _ _ _ _ c.loop-done.invariant.wrote c.in-Err.ensures.bytes;
      };
      counted = record {
        later = omega (arith, same, counted.later);
        kept = λ other. counted.kept other ∙ same;
        rose = λ failed. rw same at (counted.rose failed);
      };
    }

pub returns : goal.returns
returns g c = record {
  all = rw (take_all c.loop-done.done c.args.bytes.now (omega arith)) at c.loop-done.invariant.wrote;
  part = tt;
  counted = record {
    later = omega (arith, c.loop-done.invariant.faults);
    kept = c.loop-done.invariant.faults;
    rose = tt;
  };
}
