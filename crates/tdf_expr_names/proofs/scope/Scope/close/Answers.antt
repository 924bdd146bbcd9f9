use Rattle.std.proofs.Common.{◌∙◌, ap, sym, take}
use Rattle.std.specs.Prelude.{map}
use Rattle.std.proofs.lemmas.List.{take-map}
use Rattle.tdf_expr_names.specs.machine.Scope.{Held}
use Rattle.tdf_expr_names.proofs.scope.Scope.close.Goals as goal

pub returns : goal.returns
returns c = ap (λ loops. record { globals = c.self.inside.globals.now; own = c.self.inside.own; loops = map (λ k. k.now) loops }) c.truncate.ensures.items
    ∙ ap (λ loops. record { globals = c.self.inside.globals.now; own = c.self.inside.own; loops = loops }) (sym (take-map (λ k. k.now) c.args.depth c.self.inside.loops.items))
    ∙ ap (λ (held : Held). record held { loops = take c.args.depth held.loops }) c.self.view_is
