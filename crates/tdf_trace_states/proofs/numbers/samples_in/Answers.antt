use Rattle.std.proofs.Common.{◌≤◌, All, List, sym, subst, take}
use Rattle.tdf_fixed.specs.declared.raw.Raw.{Raw}
use Rattle.tdf_trace_states.proofs.Fits.{few_in}
use Rattle.tdf_trace_states.proofs.numbers.samples_in.Goals as goal

pub returns-clause-few : goal.returns-clause-few
returns-clause-few c = subst (λ (xs : List Raw). All (λ (v : Raw). v.frac ≤ 120) xs) (sym c.loop-i.invariant) (few_in c.args.format (take c.loop-i.i c.args.nums.now))
