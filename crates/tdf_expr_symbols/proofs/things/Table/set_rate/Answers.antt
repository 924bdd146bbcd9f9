use Rattle.std.proofs.Common.{◌∙◌, sym, ap, arith, refl}
use Rattle.std.proofs.lemmas.Option.{slice_get_read}
use Rattle.std.specs.Prelude.{map, length}
use Rattle.tdf_expr_symbols.proofs.Tables.{changed_is}
use Rattle.tdf_expr_symbols.proofs.things.Table.set_rate.Goals as goal
use Rattle.tdf_expr_symbols.specs.Names.{at_rate, names_changed, place_of}

pub returns-then-place-len : goal.returns-then-place-len
returns-then-place-len c =
    let place_is = ap (λ s. place_of s c.args.port.now) c.self.view_is ∙ sym c.place.ensures ∙ c.in-Some.is in
    let held_is = slice_get_read c.self.inside.things.items (length c.self.inside.things.items) c.in-Some.place c.index.result.now
    refl (omega (arith, c.if-place-len.true)) c.index.ensures in
    changed_is (at_rate c.args.rate.now) (map (λ k. k.now) c.self.inside.set.keys) c.args.port.now c.self.inside.things.items c.in-Some.place
    c.index.result.now c.at_rate.result place_is held_is c.at_rate.ensures
    ∙ ap (names_changed (at_rate c.args.rate.now) c.args.port.now) c.self.view_is
