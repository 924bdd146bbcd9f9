use Rattle.std.proofs.Common.{◌∙◌, sym}
use Rattle.tdf_save.proofs.TextStarts.{no_start, starts_of}
use Rattle.tdf_save.proofs.start.text_start.Goals as goal

pub returns-clause-place : goal.returns-clause-place
returns-clause-place c = starts_of c.args.bytes.now c.find_start.result c.find_start.ensures

pub returns-clause-none : goal.returns-clause-none
returns-clause-none c = λ e. no_start c.args.bytes.now (sym c.find_start.ensures ∙ e)
