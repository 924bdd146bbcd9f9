use Rattle.std.proofs.Common.{◌≡◌, ◌<◌, ℕ, List, Some, Ok, Err, length, refl, sym, subst, ◌∙◌, arith}
use Rattle.std.proofs.lemmas.Option.{slice_get_read}
use Rattle.std.specs.Prelude.{slice_get}
use Rattle.tdf_io.proofs.Api.{pieces_more, pieces_none, writes_none, writes_piece, writes_then}
use Rattle.tdf_io.specs.Bytes.{WritesText, pieces_text}
use Rattle.tdf_sampling.proofs.Measuring.{no_word, piece_is, word_next}
use Rattle.tdf_sampling.proofs.groups.write_lines.Goals as goal
use Rattle.tdf_sampling.specs.machine.Measures.{measured_piece}
use Rattle.tdf_tables.specs.Words.{words_of}

pub loop-place-init : goal.loop-place-init
loop-place-init g c = record {
  rest = refl;
  wrote = rw pieces_none (writes_none g.K.Sink.taken g.K.Sink.faults c.args.sink.now tt);
}

pub returns-in-Err : goal.returns-in-Err
returns-in-Err g c =
    let less : c.loop-place.place < length c.args.columns.now.items = omega arith in
    let within : c.loop-place.place < length (words_of c.args.labels.now) = omega (arith, c.requires.many) in
    let next = word_next (words_of c.args.labels.now) c.loop-place.place c.in-Some.label.now (words_of c.in-Some.after.now) within (sym c.loop-place.invariant.rest ∙ c.in-Some.ensures.word) in
    let column : slice_get c.args.columns.now.items c.loop-place.place ≡ Some c.index.result.now =
    slice_get_read c.args.columns.now.items (length c.args.columns.now.items) c.loop-place.place c.index.result.now refl less c.index.ensures in
    let wrote = subst (λ (text : List ℕ). WritesText {T = Unit {0}} g.K.Sink.taken g.K.Sink.faults c.loop-place.sink c.write_line.new.sink text (Err c.in-Err.error))
    (piece_is (words_of c.args.labels.now) c.args.count c.args.columns.now.items c.loop-place.place c.in-Some.label.now c.index.result.now next.0 column) c.in-Err.ensures in
    writes_piece g.K.Sink.taken g.K.Sink.faults _ _ _ (measured_piece (words_of c.args.labels.now) c.args.count c.args.columns.now.items) c.loop-place.place (length c.args.columns.now.items) tt c.in-Err.error
    less c.loop-place.invariant.wrote wrote

pub returns-in-None : goal.returns-in-None
returns-in-None g c =
    let within : c.loop-place.place < length (words_of c.args.labels.now) = omega (arith, c.requires.many) in
    absurd (no_word (words_of c.args.labels.now) c.loop-place.place within (sym c.loop-place.invariant.rest ∙ c.in-None.ensures.none refl))

pub loop-place-preserved : goal.loop-place-preserved
loop-place-preserved g c =
    let less : c.loop-place.place < length c.args.columns.now.items = omega arith in
    let within : c.loop-place.place < length (words_of c.args.labels.now) = omega (arith, c.requires.many) in
    let next = word_next (words_of c.args.labels.now) c.loop-place.place c.in-Some.label.now (words_of c.in-Some.after.now) within (sym c.loop-place.invariant.rest ∙ c.in-Some.ensures.word) in
    let column : slice_get c.args.columns.now.items c.loop-place.place ≡ Some c.index.result.now =
    slice_get_read c.args.columns.now.items (length c.args.columns.now.items) c.loop-place.place c.index.result.now refl less c.index.ensures in
    let wrote = subst (λ (text : List ℕ). WritesText g.K.Sink.taken g.K.Sink.faults c.loop-place.sink c.write_line.new.sink text (Ok tt))
    (piece_is (words_of c.args.labels.now) c.args.count c.args.columns.now.items c.loop-place.place c.in-Some.label.now c.index.result.now next.0 column) c.in-Ok.ensures in
    record {
      rest = sym next.1;
      wrote = rw pieces_more (writes_then g.K.Sink.taken g.K.Sink.faults _ _ _ (pieces_text (measured_piece (words_of c.args.labels.now) c.args.count c.args.columns.now.items) c.loop-place.place)
          (measured_piece (words_of c.args.labels.now) c.args.count c.args.columns.now.items c.loop-place.place) tt (Ok tt) c.loop-place.invariant.wrote wrote);
    }
