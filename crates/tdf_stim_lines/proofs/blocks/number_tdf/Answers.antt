use Rattle.std.proofs.Common.{arith, map}
use Rattle.tdf_lang_tree.specs.Views.{pure_body, pure_tdf, pure_tdf_line}
use Rattle.tdf_stim_lines.proofs.BlockWalks.{tdf_walks}
use Rattle.tdf_stim_lines.proofs.blocks.number_tdf.Goals as goal

pub returns : goal.returns
returns c =
    let lines = c.number_tdf_lines-attributes in
    let attributes = c.number_attributes-initialize in
    let initialize = c.number_initialize-processing in
    let processing = c.number_part-change in
    let change = c.number_part-reinitialize in
    let reinitialize = c.number_part-end in
    tdf_walks c.args.at c.saturating_add.result lines.result attributes.result initialize.result processing.result change.result reinitialize.result c.saturating_add-2.result (pure_tdf c.args.block.now)
    (map pure_tdf_line lines.new.list.items) attributes.new.list.items initialize.new.initials.items
    (pure_body initialize.new.body) (pure_body processing.new.body) (pure_body change.new.body) (pure_body reinitialize.new.body)
    (omega arith) c.saturating_add.ensures lines.ensures attributes.ensures initialize.ensures processing.ensures change.ensures reinitialize.ensures (omega arith) c.saturating_add-2.ensures
