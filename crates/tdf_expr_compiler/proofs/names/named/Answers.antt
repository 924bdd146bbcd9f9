use Rattle.std.proofs.Common.{map, sym, ap, ◌∙◌}
use Rattle.tdf_expr_compiler.proofs.Stored.{computes_loop}
use Rattle.tdf_expr_compiler.proofs.names.named.Goals as goal
use Rattle.tdf_expr_symbols.specs.Seen.{seen_loop}
use Rattle.tdf_expr_symbols.specs.Scope.{loop_place}

pub returns-in-Some : goal.returns-in-Some
returns-in-Some c =
    let loops = map seen_loop c.args.loops.now in
    rw c.small.ensures (computes_loop c.args.scope.now loops c.args.name.now c.in-Some.depth (ap (loop_place loops) (sym c.as_bytes.ensures) ∙ sym c.loop_place.ensures ∙ c.in-Some.is))
