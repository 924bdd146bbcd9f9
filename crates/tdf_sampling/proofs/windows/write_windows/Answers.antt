use Rattle.std.proofs.Common.{◌≡◌, ◌<◌, ◌≤◌, ◌+◌, ◌-◌, ◌/◌, ◌++◌, ℕ, List, [], Ok, Err, length, take, drop, refl, sym, ap, subst, ◌∙◌, arith}
use Rattle.std.proofs.lemmas.List.{drop_all, length-map}
use Rattle.tdf_io.proofs.Api.{pieces_more, pieces_none, writes_as, writes_none, writes_piece, writes_then}
use Rattle.tdf_io.specs.Bytes.{WritesText, pieces_text}
use Rattle.tdf_sampling.proofs.Rising.{begun}
use Rattle.tdf_sampling.proofs.WindowLaws.{ahead_first, at_first, gone_on, rest_rows}
use Rattle.tdf_sampling.proofs.windows.write_windows.Goals as goal
use Rattle.tdf_sampling.specs.Choice.{end_time}
use Rattle.tdf_sampling.specs.Statistics.{window_piece, windows_text}
use Rattle.tdf_sampling.specs.machine.Windows.{count_before, first_limit, first_text, next_window, rows_of}
use Rattle.tdf_tables.specs.Rows.{row_of}
use Rattle.tdf_tables.specs.Tables.{TableRow}
use Rattle.tdf_tables.specs.Words.{words_of}

pub loop-from-init : goal.loop-from-init
loop-from-init g c =
    let some : 0 < length (rows_of c.args.rows.now) = omega (arith, c.requires.some, length-map c.args.rows.now row_of) in
    record {
      many = refl;
      within = omega arith;
      ahead = ahead_first (rows_of c.args.rows.now) c.args.step;
      wrote = subst (λ (n : ℕ). WritesText g.K.Sink.taken g.K.Sink.faults c.args.sink.now c.args.sink.now (pieces_text (window_piece (words_of c.args.labels.now) c.args.step (rows_of c.args.rows.now)) n) (Ok tt))
          (sym (at_first (rows_of c.args.rows.now) c.args.step c.requires.step (begun (length c.args.kept.now.columns.items) (rows_of c.args.rows.now) c.requires.rows some)))
          (rw pieces_none (writes_none g.K.Sink.taken g.K.Sink.faults c.args.sink.now tt));
    }

pub write_first-requires-clause-rows : goal.write_first-requires-clause-rows
write_first-requires-clause-rows g c =
    rest_rows (length c.args.kept.now.columns.items) (length c.loop-from.kept.columns.items) c.args.rows.now c.loop-from.from c.requires.rows c.loop-from.invariant.many

pub loop-from-preserved : goal.loop-from-preserved
loop-from-preserved g c =
    let h = gone_on (words_of c.args.labels.now) c.args.rows.now (length c.args.kept.now.columns.items) c.args.step c.loop-from.from c.in-Ok.count c.requires.step c.requires.rows (omega arith)
    c.loop-from.invariant.ahead c.in-Ok.ensures.count in
    let piece = window_piece (words_of c.args.labels.now) c.args.step (rows_of c.args.rows.now) in
    let w = next_window c.args.step (rows_of (drop c.loop-from.from c.args.rows.now)) (end_time (rows_of c.args.rows.now)) in
    let rest = take (length c.args.rows.now - c.loop-from.from) (drop c.loop-from.from c.args.rows.now) in
    let text : pieces_text piece w ++ first_text (words_of c.args.labels.now) c.args.step (rows_of rest)
    ≡ pieces_text piece (next_window c.args.step (rows_of (drop (c.loop-from.from + c.in-Ok.count) c.args.rows.now)) (end_time (rows_of c.args.rows.now))) =
    ap (λ t. pieces_text piece w ++ t) h.text ∙ sym (pieces_more piece w) ∙ sym h.pieces in
    record {
      many = c.write_first.ensures.same ∙ c.loop-from.invariant.many;
      within = h.within;
      ahead = h.ahead;
      wrote = subst (λ (t : List ℕ). WritesText g.K.Sink.taken g.K.Sink.faults c.args.sink.now c.write_first.new.sink t (Ok tt)) text
          (writes_then g.K.Sink.taken g.K.Sink.faults _ _ _ (pieces_text piece w) (first_text (words_of c.args.labels.now) c.args.step (rows_of rest)) tt (Ok tt) c.loop-from.invariant.wrote
          (writes_as g.K.Sink.taken g.K.Sink.faults _ _ _ c.in-Ok.count tt c.in-Ok.ensures.wrote));
    }

pub loop-from-smaller : goal.loop-from-smaller
loop-from-smaller g c =
    let h = gone_on (words_of c.args.labels.now) c.args.rows.now (length c.args.kept.now.columns.items) c.args.step c.loop-from.from c.in-Ok.count c.requires.step c.requires.rows (omega arith)
    c.loop-from.invariant.ahead c.in-Ok.ensures.count in
    let more : 0 < c.in-Ok.count = h.more in
    let within : c.loop-from.from + c.in-Ok.count ≤ length c.args.rows.now = h.within in
    omega arith

pub returns-in-Err : goal.returns-in-Err
unfolding windows_text
returns-in-Err g c =
    let rest = take (length c.args.rows.now - c.loop-from.from) (drop c.loop-from.from c.args.rows.now) in
    let h = gone_on (words_of c.args.labels.now) c.args.rows.now (length c.args.kept.now.columns.items) c.args.step c.loop-from.from (count_before (first_limit c.args.step (rows_of rest)) (rows_of rest)) c.requires.step c.requires.rows (omega arith)
    c.loop-from.invariant.ahead refl in
    let piece = window_piece (words_of c.args.labels.now) c.args.step (rows_of c.args.rows.now) in
    let w = next_window c.args.step (rows_of (drop c.loop-from.from c.args.rows.now)) (end_time (rows_of c.args.rows.now)) in
    let wrote = subst (λ (t : List ℕ). WritesText {T = ℕ} g.K.Sink.taken g.K.Sink.faults c.loop-from.sink c.write_first.new.sink t (Err c.in-Err.error)) h.text c.in-Err.ensures.wrote in
    writes_piece g.K.Sink.taken g.K.Sink.faults _ _ _ piece w (end_time (rows_of c.args.rows.now) / c.args.step + 1) tt c.in-Err.error h.below c.loop-from.invariant.wrote wrote

pub returns : goal.returns
unfolding windows_text
returns g c =
    let none : drop c.loop-from.from c.args.rows.now ≡ [] = drop_all c.loop-from.from c.args.rows.now (omega arith) in
    subst (λ (l : List TableRow). WritesText g.K.Sink.taken g.K.Sink.faults c.args.sink.now c.loop-from.sink
    (pieces_text (window_piece (words_of c.args.labels.now) c.args.step (rows_of c.args.rows.now)) (next_window c.args.step l (end_time (rows_of c.args.rows.now)))) (Ok tt))
    (ap rows_of none) c.loop-from.invariant.wrote
