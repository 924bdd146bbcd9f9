use Rattle.std.proofs.Common.{ℕ, List, Ok, Err, length, subst}
use Rattle.tdf_io.proofs.Api.{writes_as}
use Rattle.tdf_io.specs.Bytes.{WritesText}
use Rattle.tdf_sampling.proofs.Texts.{refused_as}
use Rattle.tdf_sampling.proofs.WindowLaws.{first_words, is_first, taken_rows}
use Rattle.tdf_sampling.proofs.windows.write_first.Goals as goal
use Rattle.tdf_tables.specs.Tables.{IsRow}
use Rattle.tdf_tables.specs.Words.{words_of}

pub write_window-requires-clause-rows : goal.write_window-requires-clause-rows
write_window-requires-clause-rows g c = taken_rows (IsRow (length c.args.kept.now.columns.items)) c.args.rows.now c.count_before-count.result c.requires.rows

pub returns-in-Ok-clause-count : goal.returns-in-Ok-clause-count
returns-in-Ok-clause-count g c = (is_first c.args.rows.now _ c.args.step c.count_before-count.result c.requires.some c.count_before-count.ensures.count).count

pub returns-in-Ok-clause-wrote : goal.returns-in-Ok-clause-wrote
returns-in-Ok-clause-wrote g c =
    let h = is_first c.args.rows.now _ c.args.step c.count_before-count.result c.requires.some c.count_before-count.ensures.count in
    subst (λ (t : List ℕ). WritesText {T = ℕ} g.K.Sink.taken g.K.Sink.faults c.args.sink.now c.write_window.new.sink t (Ok c.count_before-count.result))
    (first_words (words_of c.args.labels.now) c.args.rows.now c.args.step _ c.count_before-count.result h)
    (writes_as g.K.Sink.taken g.K.Sink.faults _ _ _ tt c.count_before-count.result c.in-Ok.ensures.wrote)

pub returns-in-Err-clause-wrote : goal.returns-in-Err-clause-wrote
returns-in-Err-clause-wrote g c =
    let h = is_first c.args.rows.now _ c.args.step c.count_before-count.result c.requires.some c.count_before-count.ensures.count in
    subst (λ (t : List ℕ). WritesText {T = ℕ} g.K.Sink.taken g.K.Sink.faults c.args.sink.now c.write_window.new.sink t (Err c.in-Err.error))
    (first_words (words_of c.args.labels.now) c.args.rows.now c.args.step _ c.count_before-count.result h)
    (refused_as g.K.Sink.taken g.K.Sink.faults _ _ _ c.in-Err.error c.in-Err.ensures.wrote)
