use Rattle.std.proofs.Common.{◌≡◌, ◌≤◌, ◌<◌, ◌∙◌, Some, length, map, refl, sym, ap, subst}
use Rattle.std.specs.Prelude.{IfOk}
use Rattle.tdf_bind_attributes.proofs.Ported.{steps_enough, maps_within, port_is}
use Rattle.tdf_bind_attributes.proofs.ports.port_data.Goals as goal
use Rattle.tdf_bind_attributes.specs.machine.Found.{IsFound, initials_at, port_with}
use Rattle.tdf_expr_symbols.specs.Seen.{seen}
use Rattle.tdf_lang_tree.specs.Views.{pure_tdf}
use Rattle.tdf_bind_connections.specs.declared.roles.PortData.{PortData}

pub find-requires : goal.find-requires
find-requires c =
    subst (λ l. length c.args.scope.now.own.things ≤ length l) (sym c.deref.ensures.value)
    (steps_enough c.args.scope.now.own c.args.block.now.attrs.items c.args.block.now.initials.items c.args.gathered.now c.requires)

pub initials_at-requires : goal.initials_at-requires
initials_at-requires c =
    subst (λ l. c.in-Some.found.place < length l) (sym c.deref-in-Some.ensures.value)
    (maps_within c.args.scope.now.own c.args.block.now.attrs.items c.args.block.now.initials.items c.args.gathered.now c.requires
    c.in-Some.found.place (seen c.in-Some.found.thing) c.in-Some.ensures.is)

pub returns-in_ok-initials-in-Some : goal.returns-in_ok-initials-in-Some
returns-in_ok-initials-in-Some c =
    let own = c.args.scope.now.own in
    let t = seen c.in-Some.found.thing in
    let found : IsFound own c.args.gathered.now.steps.items c.args.port.now.name t c.in-Some.found.step c.in-Some.found.place =
    subst (λ l. IsFound own l c.args.port.now.name t c.in-Some.found.step c.in-Some.found.place) c.deref.ensures.value c.in-Some.ensures in
    let initials = c.in_ok-initials-in-Some.ensures ∙ ap (λ l. initials_at t (map (λ m. m.entries) l) c.in-Some.found.place) c.deref-in-Some.ensures.value in
    subst (λ (x : PortData). IfOk c.made-in-Some.result (λ m. m ≡ x))
    (ap (port_with own c.args.port.now (Some t) c.in-Some.found.step) initials
    ∙ port_is own c.args.block.now.attrs.items c.args.block.now.initials.items c.args.gathered.now c.requires c.args.scope.now.globals c.args.scope.now.does
    (pure_tdf c.args.block.now) refl refl c.args.port.now t c.in-Some.found.step c.in-Some.found.place found)
    c.made-in-Some.ensures
