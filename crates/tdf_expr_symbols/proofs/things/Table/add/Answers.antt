use Rattle.std.proofs.Common.{◌∙◌, List, sym, ap}
use Rattle.std.specs.Prelude.{map}
use Rattle.tdf_expr_symbols.proofs.Tables.{added, stayed, map_push}
use Rattle.tdf_expr_symbols.proofs.things.Table.add.Goals as goal
use Rattle.tdf_expr_symbols.specs.Names.{Thing, with_name}
use Rattle.tdf_expr_symbols.specs.Seen.{seen}
use Rattle.tdf_expr_symbols.specs.declared.things.Thing.{Thing as Held}

pub returns-in_ok-push : goal.returns-in_ok-push
returns-in_ok-push c =
    let names = map (λ k. k.now) c.insert_full.new.self.keys in
    ap (λ (ts : List Held). record { names = names; things = map seen ts }) c.in_ok-push.ensures.items
    ∙ ap (λ (ts : List Thing). record { names = names; things = ts }) (map_push seen c.self.inside.things.items c.args.thing)
    ∙ added c.self.inside.set.keys c.insert_full.new.self.keys c.args.name (map seen c.self.inside.things.items) (seen c.args.thing)
    (sym c.in_ok-is_new.ensures.added ∙ c.if-is_new.true) c.in_ok-is_new.ensures.keys
    ∙ ap (with_name c.args.name.now (seen c.args.thing)) c.self.view_is

pub returns-else-is_new : goal.returns-else-is_new
returns-else-is_new c =
    stayed c.self.inside.set.keys c.insert_full.new.self.keys c.args.name (map seen c.self.inside.things.items) (seen c.args.thing)
    (sym c.in_ok-is_new.ensures.added ∙ c.if-is_new.false) c.in_ok-is_new.ensures.keys
    ∙ ap (with_name c.args.name.now (seen c.args.thing)) c.self.view_is
