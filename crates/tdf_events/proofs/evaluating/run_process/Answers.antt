use Rattle.std.proofs.Common.{rules, ◌≡◌, ◌<◌, Some, length, slice_get, refl, ap, sym, ◌∙◌, subst}
use Rattle.std.proofs.lemmas.Option.{slice_get_read}
use Rattle.tdf_bind_tables.specs.FlatTables.{FlatTablesOf}
use Rattle.tdf_events.proofs.Evaluated.{can_run, keeps, ran_is}
use Rattle.tdf_events.specs.views.Parts.{kernel_of}
use Rattle.tdf_bind_connections.specs.ProcessBlocks.{ProcessRowOf}
use Rattle.tdf_events.proofs.evaluating.run_process.Goals as goal

pub run_in-requires : goal.run_in-requires
run_in-requires c =
    let pat : slice_get c.args.flat.now.tables.processes c.args.process ≡ Some c.index-row.result.now = sym (ap (λ (t : FlatTablesOf). slice_get t.processes c.args.process) c.tables.view_is)
    ∙ slice_get_read c.tables.inside.processes.items (length c.tables.inside.processes.items) c.args.process c.index-row.result.now refl (subst (λ (t : FlatTablesOf). c.args.process < length t.processes) (sym c.tables.view_is) c.requires.process) (search rules) in
    let there : c.row.inside.owner < length c.tables.inside.blocks.items = search rules in
    let bat : slice_get c.args.flat.now.tables.blocks c.row.inside.owner ≡ Some c.index-block.result.now = sym (ap (λ (t : FlatTablesOf). slice_get t.blocks c.row.inside.owner) c.tables.view_is)
    ∙ slice_get_read c.tables.inside.blocks.items (length c.tables.inside.blocks.items) c.row.inside.owner c.index-block.result.now refl there (search rules) in
    can_run c.args.flat.now (kernel_of c.args.parts.now) c.row.inside.owner c.index-block.result.now c.requires.runnable c.requires.kernel bat

pub returns-clause-kernel : goal.returns-clause-kernel
returns-clause-kernel c =
    let pat : slice_get c.args.flat.now.tables.processes c.args.process ≡ Some c.index-row.result.now = sym (ap (λ (t : FlatTablesOf). slice_get t.processes c.args.process) c.tables.view_is)
    ∙ slice_get_read c.tables.inside.processes.items (length c.tables.inside.processes.items) c.args.process c.index-row.result.now refl (subst (λ (t : FlatTablesOf). c.args.process < length t.processes) (sym c.tables.view_is) c.requires.process) (search rules) in
    let there : c.row.inside.owner < length c.tables.inside.blocks.items = search rules in
    let bat : slice_get c.args.flat.now.tables.blocks c.row.inside.owner ≡ Some c.index-block.result.now = sym (ap (λ (t : FlatTablesOf). slice_get t.blocks c.row.inside.owner) c.tables.view_is)
    ∙ slice_get_read c.tables.inside.blocks.items (length c.tables.inside.blocks.items) c.row.inside.owner c.index-block.result.now refl there (search rules) in
    keeps c.args.flat.now c.args.time c.row.inside.owner c.row.inside.number c.index-block.result.now (kernel_of c.args.parts.now) (kernel_of c.run_in.new.parts) c.requires.runnable bat c.requires.kernel c.run_in.ensures

pub returns-clause-ran : goal.returns-clause-ran
returns-clause-ran c =
    let pat : slice_get c.args.flat.now.tables.processes c.args.process ≡ Some c.index-row.result.now = sym (ap (λ (t : FlatTablesOf). slice_get t.processes c.args.process) c.tables.view_is)
    ∙ slice_get_read c.tables.inside.processes.items (length c.tables.inside.processes.items) c.args.process c.index-row.result.now refl (subst (λ (t : FlatTablesOf). c.args.process < length t.processes) (sym c.tables.view_is) c.requires.process) (search rules) in
    let there : c.row.inside.owner < length c.tables.inside.blocks.items = search rules in
    let bat : slice_get c.args.flat.now.tables.blocks c.row.inside.owner ≡ Some c.index-block.result.now = sym (ap (λ (t : FlatTablesOf). slice_get t.blocks c.row.inside.owner) c.tables.view_is)
    ∙ slice_get_read c.tables.inside.blocks.items (length c.tables.inside.blocks.items) c.row.inside.owner c.index-block.result.now refl there (search rules) in
    λ model checked. ran_is c.args.flat.now c.args.time c.row.inside.owner c.row.inside.number c.index-block.result.now (kernel_of c.args.parts.now) (kernel_of c.run_in.new.parts) c.requires.runnable bat c.requires.kernel c.run_in.ensures
    model checked c.args.process c.index-row.result.now pat (sym (ap (λ (r : ProcessRowOf). r.owner) c.row.view_is)) (sym (ap (λ (r : ProcessRowOf). r.number) c.row.view_is))
