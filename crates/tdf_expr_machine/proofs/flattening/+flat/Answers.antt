use Rattle.std.proofs.Common.{subst}
use Rattle.tdf_expr_flat.specs.declared.steps.Operation.TheVariants as operation
use Rattle.tdf_expr_machine.proofs.Flats.{IsThen, difference_goes, if_ok_more, product_goes, sum_goes}
use Rattle.tdf_expr_machine.specs.machine.Flattening.{GoesOn, IsOperandOf}
use Rattle.tdf_expr_machine.proofs.flattening.+flat.Goals as goal

pub take_parts-returns-in-Some : goal.take_parts-returns-in-Some
take_parts-returns-in-Some t c =
    let o = c.in-Some.operand in
    let old = c.args.code.now.items in
    let new = c.take_then.new.code.items in
    let second : IsOperandOf c.in-Sum.b.value c.in-Sum.n o = subst (λ x. IsOperandOf x c.in-Sum.n o) c.deref.ensures c.in-Some.ensures in
    if_ok_more (λ so told yes. sum_goes c.args.node.now c.in-Sum.a c.in-Sum.b c.in-Sum.m c.in-Sum.n o old new c.in-Sum.is second
    (subst (λ x. GoesOn (IsThen x c.in-Sum.m (operation.Add o)) old new) c.deref-in-Some.ensures (told yes)))
    c.take_then.result c.take_then.ensures

pub take_parts-returns-in-Some-operand_of : goal.take_parts-returns-in-Some-operand_of
take_parts-returns-in-Some-operand_of t c =
    let o = c.in-Some-operand_of.operand in
    let d = c.in-Difference in
    let old = c.args.code.now.items in
    let new = c.take_then-in-Some-operand_of.new.code.items in
    let second : IsOperandOf d.b.value d.n o = subst (λ x. IsOperandOf x d.n o) c.deref-in-Difference.ensures c.in-Some-operand_of.ensures in
    if_ok_more (λ so told yes. difference_goes c.args.node.now d.a d.b d.m d.n o old new d.is second
    (subst (λ x. GoesOn (IsThen x d.m (operation.Subtract o)) old new) c.deref-in-Some-operand_of.ensures (told yes)))
    c.take_then-in-Some-operand_of.result c.take_then-in-Some-operand_of.ensures

pub take_parts-returns-in-Some-operand_of-2 : goal.take_parts-returns-in-Some-operand_of-2
take_parts-returns-in-Some-operand_of-2 t c =
    let o = c.in-Some-operand_of-2.operand in
    let p = c.in-Product in
    let old = c.args.code.now.items in
    let new = c.take_then-in-Some-operand_of-2.new.code.items in
    let second : IsOperandOf p.b.value 0 o = subst (λ x. IsOperandOf x 0 o) c.deref-in-Product.ensures c.in-Some-operand_of-2.ensures in
    if_ok_more (λ so told yes. product_goes c.args.node.now p.a p.b o old new p.is second
    (subst (λ x. GoesOn (IsThen x 0 (operation.Multiply o)) old new) c.deref-in-Some-operand_of-2.ensures (told yes)))
    c.take_then-in-Some-operand_of-2.result c.take_then-in-Some-operand_of-2.ensures
