use Rattle.std.proofs.Common.{rules}
use Rattle.std.proofs.lemmas.Bool.Decides.{not_from_Decides}
use Rattle.std.proofs.lemmas.Slice.Eq.{slice_eq-Decides}
use Rattle.tdf_dynamic_plans.proofs.known.are_same_steps.Goals as goal

pub returns-clause-same : goal.returns-clause-same
returns-clause-same c = (slice_eq-Decides (λ a b. search (rules)) c.args.one.now c.args.other.now c.eq.result c.eq.ensures).0

pub returns-clause-other : goal.returns-clause-other
returns-clause-other c = not_from_Decides c.eq.result (slice_eq-Decides (λ a b. search (rules)) c.args.one.now c.args.other.now c.eq.result c.eq.ensures)
