use Rattle.std.proofs.Common.{rules, ◌≡◌, ℤ, slice_index_or, pos, refl, arith, subst, to_z, of_z}
use Rattle.std.proofs.lemmas.Int.{to_z-of_z}
use Rattle.std.proofs.lemmas.Option.{slice_get-get_or}
use Rattle.std.specs.Int.{w128}
use Rattle.tdf_trace_states.proofs.Fits.{so_all, so_more}
use Rattle.tdf_trace_states.proofs.fitting.are_numbers.Goals as goal
use Rattle.tdf_trace_states.specs.ColumnStates.{IsInFormat}

pub loop-i-preserved : goal.loop-i-preserved
loop-i-preserved c =
    let num : ℤ = slice_index_or c.args.nums.now c.loop-i.i (pos 0) in
    let same : to_z w128 (of_z w128 num) ≡ num = to_z-of_z w128 num (search rules) in
    so_more (λ k n. IsInFormat c.args.format n) c.args.nums.now c.loop-i.i num (slice_get-get_or c.args.nums.now c.loop-i.i (pos 0) c.loop-i-test.true) c.loop-i.invariant
    (subst (IsInFormat c.args.format) same (c.holds.ensures.0 c.if-not-holds.false))

pub returns : goal.returns
returns c = (λ e. so_all (λ k n. IsInFormat c.args.format n) c.args.nums.now c.loop-i.i (omega (arith, c.loop-i-test.false)) c.loop-i.invariant, λ all. refl)
