use Rattle.std.proofs.Common.{◌≡◌, map, take}
use Rattle.tdf_tables.specs.Rows.{row_of}
use Rattle.tdf_tables.specs.Words.{words_of}
use Rattle.tdf_stim.proofs.literals.all_cells.Given as goal

abbrev pub invariant-loop-row : goal.invariant-loop-row
invariant-loop-row l = map (λ text. words_of text.now) l.cells.items ≡ map (λ row. row.cells) (map row_of (take l.row-index l.rows))
