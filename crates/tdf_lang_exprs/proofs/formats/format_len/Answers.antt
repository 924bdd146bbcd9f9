use Rattle.std.proofs.Common.{ap, ◌∙◌}
use Rattle.tdf_lang_exprs.specs.machine.Formats.{format_len}
use Rattle.tdf_lang_exprs.proofs.Parts.{format_ends}
use Rattle.tdf_lang_exprs.proofs.formats.format_len.Goals as goal

pub returns-clause-ends : goal.returns-clause-ends
returns-clause-ends c = λ a rest f is d quiet. c.measure.ensures ∙ ap format_len is ∙ format_ends d rest quiet
