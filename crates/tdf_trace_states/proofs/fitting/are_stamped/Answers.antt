use Rattle.std.proofs.Common.{rules, ◌≡◌, slice_index_or, refl, arith, subst, to_z, of_z}
use Rattle.std.proofs.lemmas.Int.{to_z-of_z}
use Rattle.std.proofs.lemmas.Option.{slice_get-get_or}
use Rattle.std.specs.Int.{w128}
use Rattle.tdf_saved.specs.declared.state.Stamp.{Stamp}
use Rattle.tdf_trace_states.proofs.Fits.{no_stamp, so_all, so_more}
use Rattle.tdf_trace_states.proofs.fitting.are_stamped.Goals as goal
use Rattle.tdf_trace_states.specs.ColumnStates.{IsInFormat}

pub loop-i-preserved : goal.loop-i-preserved
loop-i-preserved c =
    let x : Stamp = slice_index_or c.args.samples.now c.loop-i.i no_stamp in
    let same : to_z w128 (of_z w128 x.num) ≡ x.num = to_z-of_z w128 x.num (search rules) in
    so_more (λ k (y : Stamp). IsInFormat c.args.format y.num) c.args.samples.now c.loop-i.i x (slice_get-get_or c.args.samples.now c.loop-i.i no_stamp c.loop-i-test.true) c.loop-i.invariant
    (subst (IsInFormat c.args.format) same (c.holds.ensures.0 c.if-not-holds.false))

pub returns : goal.returns
returns c = (λ e. so_all (λ k (y : Stamp). IsInFormat c.args.format y.num) c.args.samples.now c.loop-i.i (omega (arith, c.loop-i-test.false)) c.loop-i.invariant, λ all. refl)
