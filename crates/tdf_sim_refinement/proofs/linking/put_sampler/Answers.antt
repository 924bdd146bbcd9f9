use Rattle.std.proofs.Common.{◌≡◌, ◌∙◌, ◌-◌, Some, ap, arith, length, rules, slice_get, sym}
use Rattle.std.proofs.lemmas.Result.{on_ok_weaker}
use Rattle.tdf_bind_tables.specs.FlatTables.{FlatTablesOf}
use Rattle.tdf_bind_tables.specs.declared.actors.ActorRow.{ActorRow}
use Rattle.tdf_sim_refinement.proofs.Found.{row_read}
use Rattle.tdf_sim_refinement.proofs.Gathered.{has_place, linked_here, none_linked, one_linked}
use Rattle.tdf_sim_refinement.specs.machine.Linking.{is_some_sampler}
use Rattle.tdf_sim_refinement.proofs.linking.put_sampler.Goals as goal

pub returns-then-not-is_some_sampler : goal.returns-then-not-is_some_sampler
returns-then-not-is_some_sampler c =
    let t = c.args.tables.now in
    let row : ActorRow = c.index-row.result.now in
    let count : c.len.result ≡ length c.args.links.now.items = search rules in
    let at : slice_get t.actors c.args.m ≡ Some row = row_read c.tables.inside.actors.items t.actors c.args.m row (ap (λ (x : FlatTablesOf). x.actors) c.tables.view_is) c.requires.inside c.index-row.ensures in
    none_linked t (length c.args.links.now.items) c.args.m row at c.args.links.now.items c.requires.linked (ap (λ k. is_some_sampler k row) (sym count) ∙ sym c.is_some_sampler.ensures ∙ c.if-not-is_some_sampler.true)

pub put-requires-clause-linked : goal.put-requires-clause-linked
put-requires-clause-linked c =
    let t = c.args.tables.now in
    let links = c.args.links.now.items in
    let row : ActorRow = c.index-row.result.now in
    let count : c.len.result ≡ length c.args.links.now.items = search rules in
    let at : slice_get t.actors c.args.m ≡ Some row = row_read c.tables.inside.actors.items t.actors c.args.m row (ap (λ (x : FlatTablesOf). x.actors) c.tables.view_is) c.requires.inside c.index-row.ensures in
    let has = has_place row (length links) (ap (λ k. is_some_sampler k row) (sym count) ∙ sym c.is_some_sampler.ensures ∙ c.if-not-is_some_sampler.false) in
    linked_here t (length links) c.args.m row at links c.requires.linked (row.cluster - 1) c.index_mut.result.now (omega (arith, has)) (omega (arith, has)) c.index_mut.ensures.value

pub returns : goal.returns
returns c =
    let t = c.args.tables.now in
    let links = c.args.links.now.items in
    let row : ActorRow = c.index-row.result.now in
    let count : c.len.result ≡ length c.args.links.now.items = search rules in
    let at : slice_get t.actors c.args.m ≡ Some row = row_read c.tables.inside.actors.items t.actors c.args.m row (ap (λ (x : FlatTablesOf). x.actors) c.tables.view_is) c.requires.inside c.index-row.ensures in
    let has = has_place row (length links) (ap (λ k. is_some_sampler k row) (sym count) ∙ sym c.is_some_sampler.ensures ∙ c.if-not-is_some_sampler.false) in
    on_ok_weaker c.put.result (one_linked t (length links) c.args.m row at links c.requires.linked (row.cluster - 1) c.put.new.links (omega (arith, has)) (omega (arith, has))) c.put.ensures
