use Rattle.std.proofs.Common.{map}
use Rattle.tdf_lang_tree.specs.Views.{pure_de_line}
use Rattle.tdf_stim.specs.machine.Cells.{ColumnsUpTo}
use Rattle.tdf_stim.specs.machine.Maps.{seen}
use Rattle.tdf_tables.specs.Rows.{row_of}
use Rattle.tdf_tables.specs.Words.{words_of}
use Rattle.tdf_stim.proofs.columns.push_columns.Given as goal

abbrev pub invariant-loop-source : goal.invariant-loop-source
invariant-loop-source l = ColumnsUpTo (map row_of l.rows) (map seen l.sources) l.source-index l.number (map (λ text. words_of text.now) l.cells.items)
    (map pure_de_line l.fn.lines.items) (map pure_de_line l.lines.items)
