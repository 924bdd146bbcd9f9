use Rattle.std.proofs.Common.{◌<◌, arith, length, map}
use Rattle.tdf_lang_tree.specs.Views.{pure_tree}
use Rattle.tdf_stim.proofs.ColumnLists.{count_is}
use Rattle.tdf_stim.proofs.Plans.{parts_made}
use Rattle.tdf_stim.specs.Signals.{columns_from}
use Rattle.tdf_stim.specs.machine.Maps.{seen}
use Rattle.tdf_tables.specs.Rows.{row_of}
use Rattle.tdf_stim.proofs.planning.made.Goals as goal

pub returns : goal.returns
returns c =
    let rows = map row_of c.args.rows.now in
    let sources = map seen c.args.sources.now in
    let some : 0 < length (columns_from rows 0 sources) = omega (arith, count_is rows 0 sources, c.requires.driven) in
    parts_made c.make_driver.result (pure_tree c.args.tree.now) (columns_from rows 0 sources) c.args.times.now c.in_ok-name.name some c.in_ok-name.ensures.named c.in_ok-name.ensures.name
    c.make_driver.ensures.block c.make_driver.ensures.members
