use Rattle.std.proofs.Common.{◌∙◌, ap, map}
use Rattle.tdf_lang_tree.specs.Views.{pure_tree}
use Rattle.tdf_stim.proofs.Plans.{refused_by}
use Rattle.tdf_stim.specs.Signals.{source_named}
use Rattle.tdf_stim.specs.machine.Maps.{seen}
use Rattle.tdf_tables.specs.Rows.{row_of}
use Rattle.tdf_stim.proofs.planning.plan_tree.Goals as goal

pub returns-in-Ok-clause-refused : goal.returns-in-Ok-clause-refused
returns-in-Ok-clause-refused c =
    let tree = pure_tree c.args.tree.now in
    refused_by tree c.args.table.now (map seen c.as_slice.result.now) (map row_of c.rows.result.now) c.in-Err-plan_driver.why
    (ap (map seen) c.as_slice.ensures.value ∙ c.in-Ok.ensures.sources ∙ ap (map (source_named tree)) c.labels.ensures) c.rows.ensures c.in-Err-plan_driver.ensures.refused
