use Rattle.std.proofs.Common.{◌≡◌, ℕ, List, length, sym, ap, subst, ◌∙◌}
use Rattle.std.proofs.lemmas.List.{length-map}
use Rattle.tdf_io.specs.Bytes.{WritesText, pieces_text}
use Rattle.tdf_sampling.proofs.Measuring.{group_is}
use Rattle.tdf_sampling.proofs.groups.write_group.Goals as goal
use Rattle.tdf_sampling.specs.Statistics.{group_text}
use Rattle.tdf_sampling.specs.machine.Measures.{measured_piece}
use Rattle.tdf_sampling.specs.machine.Windows.{rows_of}
use Rattle.tdf_tables.specs.Rows.{row_of}
use Rattle.tdf_tables.specs.Words.{words_of}

pub returns-clause-wrote : goal.returns-clause-wrote
returns-clause-wrote g c =
    let text : pieces_text (measured_piece (words_of c.args.labels.now) (length c.args.rows.now) c.measure.new.columns.items) (length c.measure.new.columns.items) ≡ group_text (words_of c.args.labels.now) (rows_of c.args.rows.now) =
    ap (pieces_text (measured_piece (words_of c.args.labels.now) (length c.args.rows.now) c.measure.new.columns.items)) c.measure.ensures.many
    ∙ group_is (length c.args.kept.now.columns.items) (length c.args.rows.now) (words_of c.args.labels.now) (rows_of c.args.rows.now) c.measure.new.columns.items c.requires.many (sym (length-map c.args.rows.now row_of)) c.requires.rows c.measure.ensures in
    subst (λ (t : List ℕ). WritesText g.K.Sink.taken g.K.Sink.faults c.args.sink.now c.write_lines.new.sink t c.write_lines.result) text c.write_lines.ensures
