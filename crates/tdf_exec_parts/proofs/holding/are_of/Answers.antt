use Rattle.std.proofs.Common.{rules, ◌≡◌, ◌∙◌, Some, pos, length, slice_get, refl, sym, arith, subst, to_z, of_z}
use Rattle.std.proofs.lemmas.Int.{to_z-of_z}
use Rattle.std.proofs.lemmas.Option.{slice_get-get_or}
use Rattle.std.specs.Int.{w128}
use Rattle.std.specs.Prelude.{slice_index_or}
use Rattle.tdf_exec_parts.proofs.Fits.{in_format, pass_all, pass_more, pass_one}
use Rattle.tdf_exec_parts.proofs.holding.are_of.Goals as goal
use Rattle.tdf_fixed.specs.Overflow.{IsOfWidth}

pub returns-then-not-holds : goal.returns-then-not-holds
returns-then-not-holds c =
    let f = c.args.format in
    let x = slice_index_or c.args.nums.now c.loop-i.i (pos 0) in
    let at : slice_get c.args.nums.now c.loop-i.i ≡ Some x = slice_get-get_or c.args.nums.now c.loop-i.i (pos 0) c.loop-i-test.true in
    let same : to_z w128 (of_z w128 x) ≡ x = to_z-of_z w128 x (search rules) in (
      λ e. absurd cc,
      λ fits. sym c.if-not-holds.true
          ∙ c.holds.ensures.1 (subst (λ n. IsOfWidth f.signed f.wl n) (sym same) (pass_one (IsOfWidth f.signed f.wl) c.args.nums.now c.loop-i.i x at (fits f refl))),
    )

pub loop-i-preserved : goal.loop-i-preserved
loop-i-preserved c =
    let f = c.args.format in
    let x = slice_index_or c.args.nums.now c.loop-i.i (pos 0) in
    let at : slice_get c.args.nums.now c.loop-i.i ≡ Some x = slice_get-get_or c.args.nums.now c.loop-i.i (pos 0) c.loop-i-test.true in
    let same : to_z w128 (of_z w128 x) ≡ x = to_z-of_z w128 x (search rules) in
    pass_more (IsOfWidth f.signed f.wl) c.args.nums.now c.loop-i.i x at c.loop-i.invariant (subst (λ n. IsOfWidth f.signed f.wl n) same (c.holds.ensures.0 c.if-not-holds.false))

pub returns : goal.returns
returns c =
    let f = c.args.format in
    let all : length c.args.nums.now ≡ c.loop-i.i = omega (arith, c.loop-i-test.false, c.loop-i.auto.i-end) in
    (λ same. in_format f c.args.nums.now (pass_all (IsOfWidth f.signed f.wl) c.args.nums.now c.loop-i.i all c.loop-i.invariant), λ fits. refl)
