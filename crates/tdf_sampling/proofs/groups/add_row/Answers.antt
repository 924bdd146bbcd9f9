use Rattle.std.proofs.Common.{◌≡◌, ◌<◌, ◌+◌, Some, length, refl, sym, subst, ◌∙◌, arith}
use Rattle.std.proofs.lemmas.Option.{slice_get_read}
use Rattle.std.specs.Prelude.{slice_get, slice_set}
use Rattle.tdf_sampling.proofs.Measuring.{no_word, row_all, row_more, word_next}
use Rattle.tdf_sampling.proofs.groups.add_row.Goals as goal
use Rattle.tdf_sampling.specs.machine.Measures.{HasRowUpto, Measured}
use Rattle.tdf_tables.specs.Words.{words_of}

pub returns-in-None : goal.returns-in-None
returns-in-None c =
    let within : c.loop-place.place < length (words_of c.args.cells.now) = omega (arith, c.requires.many) in
    absurd (no_word (words_of c.args.cells.now) c.loop-place.place within (sym c.loop-place.invariant.rest ∙ c.in-None.ensures.none refl))

pub loop-place-preserved : goal.loop-place-preserved
loop-place-preserved c =
    let within : c.loop-place.place < length (words_of c.args.cells.now) = omega (arith, c.requires.many) in
    let inside : c.loop-place.place < length c.loop-place.columns.items = omega (arith, c.loop-place.invariant.added.same) in
    let less : c.loop-place.place < length c.args.columns.now.items = omega arith in
    let next = word_next (words_of c.args.cells.now) c.loop-place.place c.in-Some.cell.now (words_of c.in-Some.after.now) within (sym c.loop-place.invariant.rest ∙ c.in-Some.ensures.word) in
    let at : slice_get c.loop-place.columns.items c.loop-place.place ≡ Some c.index_mut.result.now =
    slice_get_read c.loop-place.columns.items (length c.loop-place.columns.items) c.loop-place.place c.index_mut.result.now refl inside c.index_mut.ensures.value in
    record {
      rest = sym next.1;
      added = subst (λ (m : Measured). HasRowUpto (c.loop-place.place + 1) c.args.columns.now.items (slice_set c.loop-place.columns.items c.loop-place.place m) (words_of c.args.cells.now)) (sym c.add.ensures)
          (row_more c.loop-place.place c.args.columns.now.items c.loop-place.columns.items (words_of c.args.cells.now) c.in-Some.cell.now c.index_mut.result.now c.loop-place.invariant.added less at next.0);
    }

pub returns : goal.returns
returns c = row_all c.loop-place.place c.args.columns.now.items c.loop-place.columns.items (words_of c.args.cells.now) c.loop-place.invariant.added (omega arith)
