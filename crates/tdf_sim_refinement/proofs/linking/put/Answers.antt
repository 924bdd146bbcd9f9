use Rattle.std.proofs.Common.{◌≡◌, ◌∙◌, Some, ap, sym, slice_get}
use Rattle.tdf_bind_tables.specs.FlatTables.{FlatTablesOf}
use Rattle.tdf_bind_tables.specs.declared.actors.ActorRow.{ActorRow}
use Rattle.tdf_sim_history.specs.Instant.{signal_of_row}
use Rattle.tdf_sim_refinement.proofs.Found.{added, passed_over, row_read, wanted_converts}
use Rattle.tdf_sim_refinement.proofs.linking.put.Goals as goal

pub returns-then-not-is_wanted : goal.returns-then-not-is_wanted
returns-then-not-is_wanted c =
    let t = c.args.tables.now in
    let row : ActorRow = c.index-row.result.now in
    let at : slice_get t.actors c.args.m ≡ Some row = row_read c.tables.inside.actors.items t.actors c.args.m row (ap (λ (x : FlatTablesOf). x.actors) c.tables.view_is) c.requires.inside c.index-row.ensures in
    passed_over t c.args.wanted c.args.m row at c.args.links.now.list.items c.requires.linked (sym c.is_wanted.ensures ∙ c.if-not-is_wanted.true)

pub signal_at-requires : goal.signal_at-requires
signal_at-requires c =
    let t = c.args.tables.now in
    let row : ActorRow = c.index-row.result.now in
    let at : slice_get t.actors c.args.m ≡ Some row = row_read c.tables.inside.actors.items t.actors c.args.m row (ap (λ (x : FlatTablesOf). x.actors) c.tables.view_is) c.requires.inside c.index-row.ensures in
    c.requires.ports c.args.m row at (wanted_converts c.args.wanted row (sym c.is_wanted.ensures ∙ c.if-not-is_wanted.false))

pub returns : goal.returns
returns c =
    let t = c.args.tables.now in
    let row : ActorRow = c.index-row.result.now in
    let at : slice_get t.actors c.args.m ≡ Some row = row_read c.tables.inside.actors.items t.actors c.args.m row (ap (λ (x : FlatTablesOf). x.actors) c.tables.view_is) c.requires.inside c.index-row.ensures in
    added t c.args.wanted c.args.m row at c.args.links.now.list.items c.requires.linked c.signal_at.result c.signal_at.ensures.inside (c.signal_at.ensures.own ∙ sym (ap (signal_of_row t) at))
    (sym c.is_wanted.ensures ∙ c.if-not-is_wanted.false) c.add.result c.in_ok-row_number.field-0 c.of_samplers.result c.add.new.self.list.items c.in_ok-row_number.ensures.number c.of_samplers.ensures
    c.add.ensures.added c.add.ensures.links
