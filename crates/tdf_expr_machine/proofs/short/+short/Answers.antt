use Rattle.std.proofs.Common.{rules, SFits, ◌≡◌, ◌∙◌, ◌^◌, ℤ, pos, ◌*ℤ◌, ap, sym}
use Rattle.std.proofs.lemmas.Int.{to_z-of_z}
use Rattle.std.specs.Int.{w64}
use Rattle.tdf_expr_machine.specs.Nodes.{node_value, relates, truth_number}
use Rattle.tdf_expr_state.specs.State.{state_of}
use Rattle.tdf_expr_machine.proofs.short.+short.Goals as goal

pub short_value-returns-in_ok-raised_part-in-Compare-clause-value : goal.short_value-returns-in_ok-raised_part-in-Compare-clause-value
short_value-returns-in_ok-raised_part-in-Compare-clause-value t c =
    let s = state_of c.args.at.now.cells.now c.args.at.now.signals.now in
    let l = c.args.at.now.loops.now in
    let a : c.in_ok-a-in-Compare.a ≡ node_value c.in-Compare.a.value s l *ℤ pos (2 ^ c.in-Compare.m) = search rules in
    let b : c.in_ok-raised_part-in-Compare.field-0 ≡ node_value c.in-Compare.b.value s l *ℤ pos (2 ^ c.in-Compare.n) = search rules in
    let told : c.relates.result ≡ relates c.in-Compare.relation c.in_ok-a-in-Compare.a c.in_ok-raised_part-in-Compare.field-0 = search rules in
    let so : c.relates.result ≡ relates c.in-Compare.relation (node_value c.in-Compare.a.value s l *ℤ pos (2 ^ c.in-Compare.m)) (node_value c.in-Compare.b.value s l *ℤ pos (2 ^ c.in-Compare.n)) =
    told ∙ ap (λ x. relates c.in-Compare.relation x c.in_ok-raised_part-in-Compare.field-0) a
    ∙ ap (λ x. relates c.in-Compare.relation (node_value c.in-Compare.a.value s l *ℤ pos (2 ^ c.in-Compare.m)) x) b in
    let is : truth_number c.relates.result ≡ node_value c.args.node.now s l = ap truth_number so ∙ sym (ap (λ n. node_value n s l) c.in-Compare.is) in
    let fits : SFits w64 c.truth.result = search rules in
    to_z-of_z w64 c.truth.result fits ∙ c.truth.ensures ∙ is
