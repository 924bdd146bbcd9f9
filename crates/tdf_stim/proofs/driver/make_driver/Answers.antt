use Rattle.std.proofs.Common.{◌∙◌, ◌∷◌, ap, map, sym}
use Rattle.tdf_lang_tree.specs.Views.{pure_de_line, pure_process}
use Rattle.tdf_lang_tree.specs.declared.blocks.Member.TheVariants as member
use Rattle.tdf_stim.proofs.Building.{block_is}
use Rattle.tdf_stim.proofs.ColumnLists.{labels_are}
use Rattle.tdf_stim.specs.Driver.{bind_lines}
use Rattle.tdf_stim.specs.machine.Maps.{seen}
use Rattle.tdf_tables.specs.Rows.{row_of}
use Rattle.tdf_stim.proofs.driver.make_driver.Goals as goal

pub returns-clause-block : goal.returns-clause-block
returns-clause-block c =
    block_is c.args.name (map row_of c.args.rows.now) (map seen c.args.sources.now) c.args.times.now c.count_driving.result _ _ _ _
    c.count_driving.ensures.count (sym c.requires.same) c.in_ok-lines.ensures c.in_ok-process.ensures c.in_ok-block.ensures

pub returns-clause-members : goal.returns-clause-members
returns-clause-members c =
    c.in_ok-members.ensures
    ∙ ap (λ labels. member.Instance 0 c.args.name c.args.name ∷ bind_lines c.args.name 0 labels) (sym (labels_are (map row_of c.args.rows.now) 0 (map seen c.args.sources.now)))
