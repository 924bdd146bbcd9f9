use Rattle.std.proofs.Common.{rules, ◌≡◌, ◌≢◌, ◌∙◌, ◌+◌, ℤ, slice_index_or, ap, arith, refl, subst, sym, to_z, of_z}
use Rattle.std.proofs.lemmas.Bool.{eq-eqb, eqb-true}
use Rattle.std.proofs.lemmas.Int.{of_z-to_z, to_z-of_z}
use Rattle.std.proofs.lemmas.List.{drop_all, drop_more}
use Rattle.std.specs.Int.{w128}
use Rattle.tdf_saved.specs.declared.state.Stamp.{Stamp}
use Rattle.tdf_trace_states.proofs.Changing.{ChangedTo, changed_all, changed_here, changed_not}
use Rattle.tdf_trace_states.proofs.Fits.{no_stamp}
use Rattle.tdf_trace_states.proofs.windows.are_changes_to.Goals as goal

pub returns-then-samples-i : goal.returns-then-samples-i
returns-then-samples-i c =
    let x : Stamp = slice_index_or c.args.samples.now c.loop-i.i no_stamp in
    let before : ℤ = to_z w128 c.loop-i.before-bits in
    let at = drop_more c.args.samples.now c.loop-i.i no_stamp c.loop-i-test.true in
    let first : to_z w128 (of_z w128 c.args.value) ≡ c.args.value = to_z-of_z w128 c.args.value (search rules) in
    let final : to_z w128 (of_z w128 c.args.last) ≡ c.args.last = to_z-of_z w128 c.args.last (search rules) in
    let num : to_z w128 (of_z w128 x.num) ≡ x.num = to_z-of_z w128 x.num (search rules) in
    let so = subst (λ v. ChangedTo v c.args.samples.now c.args.last c.loop-i.i before) first (subst (λ l. ChangedTo (to_z w128 (of_z w128 c.args.value)) c.args.samples.now l c.loop-i.i before) final c.loop-i.invariant) in (
      λ e. absurd cc,
      λ s. absurd (changed_not c.args.value c.args.samples.now c.args.last c.loop-i.i before x at so (sym (ap (to_z w128) c.if-samples-i.true) ∙ num) s),
    )

pub loop-i-preserved : goal.loop-i-preserved
loop-i-preserved c =
    let x : Stamp = slice_index_or c.args.samples.now c.loop-i.i no_stamp in
    let before : ℤ = to_z w128 c.loop-i.before-bits in
    let at = drop_more c.args.samples.now c.loop-i.i no_stamp c.loop-i-test.true in
    let num : to_z w128 (of_z w128 x.num) ≡ x.num = to_z-of_z w128 x.num (search rules) in
    subst (λ v. ChangedTo (to_z w128 (of_z w128 c.args.value)) c.args.samples.now (to_z w128 (of_z w128 c.args.last)) (c.loop-i.i + 1) v) (sym num)
    (changed_here (to_z w128 (of_z w128 c.args.value)) c.args.samples.now (to_z w128 (of_z w128 c.args.last)) c.loop-i.i before x at c.loop-i.invariant
    (λ e. c.if-samples-i.false (sym (ap (of_z w128) e) ∙ of_z-to_z w128 c.loop-i.before-bits c.loop-i.auto.before.fits)))

pub returns : goal.returns
returns c =
    let before : ℤ = to_z w128 c.loop-i.before-bits in
    let first : to_z w128 (of_z w128 c.args.value) ≡ c.args.value = to_z-of_z w128 c.args.value (search rules) in
    let final : to_z w128 (of_z w128 c.args.last) ≡ c.args.last = to_z-of_z w128 c.args.last (search rules) in
    let so = subst (λ v. ChangedTo v c.args.samples.now c.args.last c.loop-i.i before) first (subst (λ l. ChangedTo (to_z w128 (of_z w128 c.args.value)) c.args.samples.now l c.loop-i.i before) final c.loop-i.invariant) in
    let all = changed_all c.args.value c.args.samples.now c.args.last c.loop-i.i before (drop_all c.loop-i.i c.args.samples.now (omega (arith, c.loop-i-test.false))) so in (
      λ e. all.0 (ap (to_z w128) (eqb-true c.loop-i.before-bits (of_z w128 c.args.last) e) ∙ final),
      λ s. eq-eqb c.loop-i.before-bits (of_z w128 c.args.last) (sym (of_z-to_z w128 c.loop-i.before-bits c.loop-i.auto.before.fits) ∙ ap (of_z w128) (all.1 s)),
    )
