use Rattle.std.proofs.Common.{ℕ, Vec, Global, map}
use Rattle.tdf_save.specs.Text.{saved_column}
use Rattle.tdf_save.specs.machine.Pieces.{IsNext}
use Rattle.tdf_save_reading.proofs.ColumnSteps.{ColumnFits}
use Rattle.tdf_save_reading.proofs.ReadSteps.{HasEach}
use Rattle.tdf_save_reading.proofs.columns.read_columns.Given as goal

abbrev pub invariant-loop-k : goal.invariant-loop-k
invariant-loop-k l = HasEach saved_column ColumnFits IsNext (map (λ (z : Vec ℕ Global). z.items) l.labels) l.text l.k l.list.items l.rest × IsNext l.rest
