use Rattle.std.proofs.Common.{rules, ◌≡◌, ◌∙◌, ◌<◌, Some, length, slice_get, refl, sym, arith, subst, to_z, of_z}
use Rattle.std.proofs.lemmas.Int.{to_z-of_z}
use Rattle.std.specs.Int.{w128}
use Rattle.std.proofs.lemmas.List.{length-map}
use Rattle.std.proofs.lemmas.Option.{slice_get_read}
use Rattle.tdf_expr.proofs.Held.{AreHeld, fits_one, held_fit, held_more}
use Rattle.tdf_expr.proofs.holding.are_held.Goals as goal
use Rattle.tdf_expr.specs.Plans.{shape_written}
use Rattle.tdf_expr_state.specs.State.{cell_at}
use Rattle.tdf_fixed.specs.Overflow.{IsOfWidth}

pub returns-then-nums-formats : goal.returns-then-nums-formats
returns-then-nums-formats c = (λ e. absurd cc, λ fits. absurd (c.if-nums-formats.true (fits.long ∙ length-map c.args.formats.now shape_written)))

pub returns-then-not-holds : goal.returns-then-not-holds
returns-then-not-holds c =
    let f = c.index-formats-i.result in
    let less : c.loop-i.i < length c.args.formats.now = omega (arith, c.loop-i-test.true, c.if-nums-formats.false) in
    let at : slice_get c.args.formats.now c.loop-i.i ≡ Some f = slice_get_read c.args.formats.now (length c.args.formats.now) c.loop-i.i f refl less c.index-formats-i.is in
    let same : to_z w128 (of_z w128 (cell_at c.args.nums.now c.loop-i.i)) ≡ cell_at c.args.nums.now c.loop-i.i = to_z-of_z w128 (cell_at c.args.nums.now c.loop-i.i) (search rules) in (
      λ e. absurd cc,
      λ fits. sym c.if-not-holds.true
          ∙ c.holds.ensures.1 (subst (λ n. IsOfWidth f.signed f.wl n) (sym same) (fits_one c.args.formats.now c.args.nums.now c.loop-i.i f at fits)),
    )

pub loop-i-preserved : goal.loop-i-preserved
loop-i-preserved c =
    let f = c.index-formats-i.result in
    let less : c.loop-i.i < length c.args.formats.now = omega (arith, c.loop-i-test.true, c.if-nums-formats.false) in
    let at : slice_get c.args.formats.now c.loop-i.i ≡ Some f = slice_get_read c.args.formats.now (length c.args.formats.now) c.loop-i.i f refl less c.index-formats-i.is in
    let same : to_z w128 (of_z w128 (cell_at c.args.nums.now c.loop-i.i)) ≡ cell_at c.args.nums.now c.loop-i.i = to_z-of_z w128 (cell_at c.args.nums.now c.loop-i.i) (search rules) in
    held_more c.args.formats.now c.args.nums.now c.loop-i.i f at c.loop-i.invariant (subst (λ n. IsOfWidth f.signed f.wl n) same (c.holds.ensures.0 c.if-not-holds.false))

pub returns : goal.returns
returns c =
    let all : c.loop-i.i ≡ length c.args.nums.now = omega (arith, c.loop-i-test.false, c.loop-i.auto.i-end) in
    (λ same. held_fit c.args.formats.now c.args.nums.now c.if-nums-formats.false (subst (AreHeld c.args.formats.now c.args.nums.now) all c.loop-i.invariant), λ fits. refl)
