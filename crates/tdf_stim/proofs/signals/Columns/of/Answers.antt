use Rattle.std.proofs.Common.{◌∙◌}
use Rattle.std.proofs.lemmas.List.Elements.{filter_agree}
use Rattle.std.proofs.lemmas.Result.{IfOk-weaker}
use Rattle.std.proofs.Common.{ap}
use Rattle.std.specs.Prelude.{is_some, not}
use Rattle.tdf_lang_tree.specs.Views.{pure_tree}
use Rattle.tdf_stim.proofs.Loops.{map_same}
use Rattle.tdf_stim.specs.Signals.{source_named}
use Rattle.tdf_stim.specs.machine.Maps.{found_source}
use Rattle.tdf_tables.specs.Words.{words_of}
use Rattle.tdf_stim.proofs.signals.Columns.of.Goals as goal

pub returns-clause-sources : goal.returns-clause-sources
returns-clause-sources c = IfOk-weaker c.by.result _ _ (λ columns h. h
    ∙ map_same (found_source c.in_ok-signals.signals) (source_named (pure_tree c.args.tree.now)) c.in_ok-signals.ensures (words_of c.args.labels.now)) c.by.ensures.sources

pub returns-clause-ignored : goal.returns-clause-ignored
returns-clause-ignored c = IfOk-weaker c.by.result _ _ (λ columns h. h
    ∙ filter_agree (λ label. not (is_some (found_source c.in_ok-signals.signals label))) (λ label. not (is_some (source_named (pure_tree c.args.tree.now) label)))
    (λ label. ap (λ o. not (is_some o)) (c.in_ok-signals.ensures label)) (words_of c.args.labels.now)) c.by.ensures.ignored
