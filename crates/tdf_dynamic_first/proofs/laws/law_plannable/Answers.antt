use Rattle.tdf_dynamic_first.proofs.Plannable.{plannable}
use Rattle.tdf_dynamic_first.proofs.laws.law_plannable.Goals as goal

pub returns : goal.returns
returns c model flat kept short is = plannable c.law_ranges.ensures model flat kept short is
