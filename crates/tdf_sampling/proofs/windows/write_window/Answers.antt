use Rattle.tdf_io.proofs.Api.{writes_then}
use Rattle.tdf_sampling.proofs.windows.write_window.Goals as goal
use Rattle.tdf_sampling.specs.Statistics.{group_text, window_line}
use Rattle.tdf_sampling.specs.machine.Windows.{rows_of}
use Rattle.tdf_tables.specs.Words.{words_of}

pub returns-in-Ok-clause-wrote : goal.returns-in-Ok-clause-wrote
returns-in-Ok-clause-wrote g c = writes_then g.K.Sink.taken g.K.Sink.faults _ _ _ (window_line c.args.start) (group_text (words_of c.args.labels.now) (rows_of c.args.rows.now)) tt _ c.in-Ok.ensures c.write_group.ensures.wrote
