use Rattle.std.proofs.Common.{◌≡◌, drop}
use Rattle.tdf_sampling.proofs.groups.add_row.Given as goal
use Rattle.tdf_sampling.specs.machine.Measures.{HasRowUpto}
use Rattle.tdf_tables.specs.Words.{words_of}

abbrev pub invariant-loop-place : goal.invariant-loop-place
invariant-loop-place l = record {
  rest : words_of l.rest ≡ drop l.place (words_of l.cells);
  added : HasRowUpto l.place l.initial.columns.items l.columns.items (words_of l.cells);
}
