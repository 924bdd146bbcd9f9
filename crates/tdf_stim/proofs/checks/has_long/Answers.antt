use Rattle.std.proofs.Common.{◌+◌, ◌∙◌, ◌||◌, ap, arith, drop, map, sym}
use Rattle.tdf_stim.proofs.CheckedRows.{long_end, long_none, long_step}
use Rattle.tdf_stim.specs.Drivable.{has_long}
use Rattle.tdf_stim.specs.machine.Maps.{seen}
use Rattle.tdf_tables.specs.Words.{words_of}
use Rattle.tdf_stim.proofs.checks.has_long.Goals as goal

pub returns-in-None : goal.returns-in-None
returns-in-None c =
    let left = drop c.loop-source.source-index c.args.sources.now in
    sym (sym c.loop-source.invariant ∙ ap (has_long (map seen left)) (c.cut_word.ensures.none c.in-None.is) ∙ long_none left)

pub returns-then-is_long_at : goal.returns-then-is_long_at
returns-then-is_long_at c =
    let i = c.loop-source.source-index in
    let sources = c.args.sources.now in
    sym (sym c.loop-source.invariant ∙ ap (has_long (map seen (drop i sources))) c.in-Some.ensures.word
    ∙ long_step sources i c.source-item.result c.in-Some.cell.now (words_of c.in-Some.after.now) c.loop-source-test.true c.source-item.is
    ∙ ap (λ b. b || has_long (map seen (drop (i + 1) sources)) (words_of c.in-Some.after.now)) (sym c.is_long_at.ensures ∙ c.if-is_long_at.true))

pub loop-source-preserved : goal.loop-source-preserved
loop-source-preserved c =
    let i = c.loop-source.source-index in
    let sources = c.args.sources.now in
    sym (ap (has_long (map seen (drop i sources))) c.in-Some.ensures.word
    ∙ long_step sources i c.source-item.result c.in-Some.cell.now (words_of c.in-Some.after.now) c.loop-source-test.true c.source-item.is
    ∙ ap (λ b. b || has_long (map seen (drop (i + 1) sources)) (words_of c.in-Some.after.now)) (sym c.is_long_at.ensures ∙ c.if-is_long_at.false))
    ∙ c.loop-source.invariant

pub returns : goal.returns
returns c = sym (sym c.loop-source.invariant ∙ long_end c.args.sources.now c.loop-source.source-index (words_of c.loop-source.rest.now) (omega arith))
