use Rattle.std.proofs.Common.{rules, ◌≤◌, ◌+◌}
use Rattle.tdf_expr_machine.proofs.Bits.{narrow_choice, narrow_compare, narrow_difference, narrow_sum, narrow_up}
use Rattle.tdf_expr_machine.specs.machine.Steps.{IsNarrow}
use Rattle.tdf_expr_machine.proofs.narrow.+bits.Goals as goal

pub bits_of-returns-in_ok-most-in-Up-clause-narrow : goal.bits_of-returns-in_ok-most-in-Up-clause-narrow
bits_of-returns-in_ok-most-in-Up-clause-narrow t c =
    let x = c.in_ok-x-in-Up.x in
    let most = c.in_ok-most-in-Up.most in
    let inner : IsNarrow c.in-Up.a.value x = search rules in
    let low : x + c.in-Up.n ≤ most = search rules in
    let few : most ≤ 60 = search rules in
    narrow_up c.args.node.now c.in-Up.a x inner c.in-Up.n most c.in-Up.is low few

pub bits_of_parts-returns-in_ok-most-in-Sum-clause-narrow : goal.bits_of_parts-returns-in_ok-most-in-Sum-clause-narrow
bits_of_parts-returns-in_ok-most-in-Sum-clause-narrow t c =
    let a = c.in-Sum.a in
    let b = c.in-Sum.b in
    let x = c.in_ok-x-in-Sum.x in
    let y = c.in_ok-y-in-Sum.y in
    let most = c.in_ok-most-in-Sum.most in
    let first : IsNarrow a.value x = search rules in
    let second : IsNarrow b.value y = search rules in
    let low : x + c.in-Sum.m ≤ most = search rules in
    let also : y + c.in-Sum.n ≤ most = search rules in
    let few : most ≤ 60 = search rules in
    narrow_sum c.args.node.now a b c.in-Sum.m c.in-Sum.n x y most first second low also few c.in-Sum.is

pub bits_of_parts-returns-in_ok-most-in-Difference-clause-narrow : goal.bits_of_parts-returns-in_ok-most-in-Difference-clause-narrow
bits_of_parts-returns-in_ok-most-in-Difference-clause-narrow t c =
    let a = c.in-Difference.a in
    let b = c.in-Difference.b in
    let x = c.in_ok-x-in-Difference.x in
    let y = c.in_ok-y-in-Difference.y in
    let most = c.in_ok-most-in-Difference.most in
    let first : IsNarrow a.value x = search rules in
    let second : IsNarrow b.value y = search rules in
    let low : x + c.in-Difference.m ≤ most = search rules in
    let also : y + c.in-Difference.n ≤ most = search rules in
    let few : most ≤ 60 = search rules in
    narrow_difference c.args.node.now a b c.in-Difference.m c.in-Difference.n x y most first second low also few c.in-Difference.is

pub bits_of_parts-returns-in_ok-joint_bits-in-Compare-clause-narrow : goal.bits_of_parts-returns-in_ok-joint_bits-in-Compare-clause-narrow
bits_of_parts-returns-in_ok-joint_bits-in-Compare-clause-narrow t c =
    let a = c.in-Compare.a in
    let b = c.in-Compare.b in
    let x = c.in_ok-x-in-Compare.x in
    let y = c.in_ok-y-in-Compare.y in
    let most = c.in_ok-joint_bits-in-Compare.field-0 in
    let first : IsNarrow a.value x = search rules in
    let second : IsNarrow b.value y = search rules in
    let low : x + c.in-Compare.m ≤ most = search rules in
    let also : y + c.in-Compare.n ≤ most = search rules in
    let few : most ≤ 60 = search rules in
    narrow_compare c.args.node.now a b c.in-Compare.m c.in-Compare.n x y most first second low also few c.in-Compare.field-0 c.in-Compare.is

pub bits_of_parts-returns-in_ok-most-in-Choice-clause-narrow : goal.bits_of_parts-returns-in_ok-most-in-Choice-clause-narrow
bits_of_parts-returns-in_ok-most-in-Choice-clause-narrow t c =
    let a = c.in-Choice.a in
    let b = c.in-Choice.b in
    let x = c.in_ok-x-in-Choice.x in
    let y = c.in_ok-y-in-Choice.y in
    let z = c.in_ok-bits_of-in-Choice.field-0 in
    let most = c.in_ok-most-in-Choice.most in
    let tested : IsNarrow c.in-Choice.test.value z = search rules in
    let first : IsNarrow a.value x = search rules in
    let second : IsNarrow b.value y = search rules in
    let low : x + c.in-Choice.m ≤ most = search rules in
    let also : y + c.in-Choice.n ≤ most = search rules in
    let few : most ≤ 60 = search rules in
    narrow_choice c.args.node.now a b c.in-Choice.m c.in-Choice.n x y most first second low also few c.in-Choice.test z tested c.in-Choice.is
