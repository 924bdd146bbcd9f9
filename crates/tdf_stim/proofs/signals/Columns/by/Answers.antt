use Rattle.std.proofs.Common.{◌∙◌, ◌++◌, ◌∷◌, [], ap, map, sym, if◌then◌else◌}
use Rattle.std.specs.Option.{option_map}
use Rattle.tdf_stim.proofs.Loops.{seen_all, seen_more, seen_none, still_some}
use Rattle.tdf_stim.specs.machine.Maps.{found_source, seen, source_at}
use Rattle.tdf_tables.specs.Words.{words_of}
use Rattle.tdf_stim.proofs.signals.Columns.by.Goals as goal

pub loop-label-init : goal.loop-label-init
loop-label-init c = seen_none (found_source c.args.signals.now) _ _ (words_of c.args.labels.now) (ap (map seen) c.new.ensures.items) c.new-2.ensures.items

pub loop-label-preserved : goal.loop-label-preserved
loop-label-preserved c =
    let label = c.in-Some.label.now in
    let ignored = c.loop-label.columns.ignored.items in
    seen_more (found_source c.args.signals.now) (map seen c.loop-label.columns.sources.items) _ ignored _
    (words_of c.loop-label.rest.now) (words_of c.in-Some.after.now) (words_of c.args.labels.now) label (option_map (source_at label) c.find.result)
    c.loop-label.invariant c.in-Some.ensures.word (sym c.find.ensures) c.in_ok-add.ensures.sources
    (c.in_ok-add.ensures.ignored ∙ ap (λ b. ignored ++ (if b then [] else label ∷ [])) (still_some (source_at label) c.find.result))

pub returns-clause-sources : goal.returns-clause-sources
returns-clause-sources c = (seen_all (found_source c.args.signals.now) _ _ (words_of c.loop-label.rest.now) (words_of c.args.labels.now) c.loop-label.invariant (c.cut_word.ensures.none c.in_default.is)).0

pub returns-clause-ignored : goal.returns-clause-ignored
returns-clause-ignored c = (seen_all (found_source c.args.signals.now) _ _ (words_of c.loop-label.rest.now) (words_of c.args.labels.now) c.loop-label.invariant (c.cut_word.ensures.none c.in_default.is)).1
