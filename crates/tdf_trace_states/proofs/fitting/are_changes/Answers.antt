use Rattle.std.proofs.Common.{rules, ◌+◌, ◌≡◌, ◌≢◌, ◌<◌, ◌∙◌, Some, slice_index_or, refl, sym, ap, arith, subst, to_z, of_z}
use Rattle.std.proofs.lemmas.Int.{of_z-to_z, to_z-of_z}
use Rattle.std.proofs.lemmas.Option.{slice_get-get_or}
use Rattle.std.specs.Int.{w128}
use Rattle.tdf_saved.specs.declared.state.Stamp.{Stamp}
use Rattle.tdf_trace_states.proofs.Fits.{HaveChangedTo, changed_more, no_stamp, so_all}
use Rattle.tdf_trace_states.proofs.fitting.are_changes.Goals as goal
use Rattle.tdf_trace_states.specs.machine.{shown_before}

pub loop-i-preserved : goal.loop-i-preserved
loop-i-preserved c =
    let x : Stamp = slice_index_or c.args.samples.now c.loop-i.i no_stamp in
    let same : to_z w128 (of_z w128 x.num) ≡ x.num = to_z-of_z w128 x.num (search rules) in
    let carry = to_z w128 (of_z w128 c.args.carry) in
    subst (HaveChangedTo carry c.args.samples.now c.args.time (c.loop-i.i + 1)) (sym same)
    (changed_more carry c.args.samples.now c.args.time c.loop-i.i (to_z w128 c.loop-i.before-bits) x (slice_get-get_or c.args.samples.now c.loop-i.i no_stamp c.loop-i-test.true)
    c.loop-i.invariant (omega (arith, c.if-time-sample.false)) (λ e. c.if-sample-before.false (ap (of_z w128) e ∙ of_z-to_z w128 c.loop-i.before-bits c.loop-i.auto.before.fits)))

pub returns : goal.returns
returns c =
    let first : to_z w128 (of_z w128 c.args.carry) ≡ c.args.carry = to_z-of_z w128 c.args.carry (search rules) in (
      λ e. so_all (λ k (x : Stamp). (x.time < c.args.time) × (shown_before c.args.carry c.args.samples.now k ≢ Some x.num)) c.args.samples.now c.loop-i.i (omega (arith, c.loop-i-test.false))
          (subst (λ n. HaveChangedTo n c.args.samples.now c.args.time c.loop-i.i (to_z w128 c.loop-i.before-bits)) first c.loop-i.invariant).so,
      λ all. refl,
    )
