use Rattle.std.proofs.Common.{inl, sym, ◌∙◌}
use Rattle.tdf_cli.specs.Input.{reading}
use Rattle.tdf_cli_words.specs.Words.{texts_of}
use Rattle.tdf_cli.proofs.Complete.{met, met_load, read_fault_rose, read_noted}
use Rattle.tdf_cli.proofs.command.tool.Goals as goal

pub returns-in-Ok-clause-read_fault : goal.returns-in-Ok-clause-read_fault
returns-in-Ok-clause-read_fault g c = λ is.
    read_fault_rose (texts_of c.args.words.now.items) (reading c.input_of-input.result) c.in-Ok.status _ _ _ _ _ _ _ _
    c.input_of-input.ensures.input c.in-Ok.ensures.all (sym c.number.ensures ∙ is)

pub returns-in-Ok-clause-source_kept : goal.returns-in-Ok-clause-source_kept
returns-in-Ok-clause-source_kept g c = λ apart other more.
    c.input_of-input.ensures.kept (λ is. apart (c.number.ensures ∙ read_noted c.law_one_outcome.ensures (reading c.input_of-input.result) c.in-Ok.status _ _ _ _ c.in-Ok.ensures.all is))

pub returns-in-Ok-clause-complete : goal.returns-in-Ok-clause-complete
returns-in-Ok-clause-complete g c = λ job text o asks reads told short has read_well out_well notes_well.
    inl (c.number.ensures ∙ met c.law_one_outcome.ensures
    (texts_of c.args.words.now.items) (reading c.input_of-input.result) c.in-Ok.status job text o _ _ _ _ _ _ _ _
    c.input_of-input.ensures.input c.in-Ok.ensures.all asks reads told short has read_well)

pub returns-in-Ok-clause-complete_load : goal.returns-in-Ok-clause-complete_load
returns-in-Ok-clause-complete_load g c = λ seed size o asks has out_well notes_well.
    inl (c.number.ensures ∙ met_load c.law_one_outcome.ensures
    (texts_of c.args.words.now.items) (reading c.input_of-input.result) c.in-Ok.status seed size o _ _ _ _ _ _ _ _
    c.input_of-input.ensures.input c.in-Ok.ensures.all asks has)
