use Rattle.std.proofs.Common.{◌≡◌, ◌∙◌, ap, sym, Bor, List, ℕ, false}
use Rattle.std.specs.Prelude.{map, nat_eq}
use Rattle.std.specs.Cmp.Lexicographic.{pointwise}
use Rattle.std.specs.List.{list_any}
use Rattle.tdf_expr_names.specs.Names.{has}
use Rattle.tdf_expr_names.specs.machine.Scope.{Held, locals}
use Rattle.tdf_expr_names.proofs.Tables.{has_bytes, has_loop}
use Rattle.tdf_expr_names.proofs.scope.Scope.has_local.Goals as goal

pub returns-else-has : goal.returns-else-has
returns-else-has c =
    let other : has c.self.inside.own c.args.name.now ≡ false = sym c.has.ensures ∙ c.if-has.false in
    c.found.ensures ∙ ap (λ (known : List (Bor (List ℕ))). list_any (λ k. pointwise nat_eq c.args.name.now k.now) known) c.deref.ensures.value
    ∙ has_bytes c.self.inside.loops.items c.args.name.now
    ∙ has_loop c.self.inside.own (map (λ k. k.now) c.self.inside.loops.items) c.args.name.now other
    ∙ ap (λ (held : Held). has (locals held) c.args.name.now) c.self.view_is
