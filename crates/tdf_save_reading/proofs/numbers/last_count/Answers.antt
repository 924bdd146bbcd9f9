use Rattle.std.proofs.Common.{decimal, refl, ◌∷◌}
use Rattle.tdf_save.proofs.Api.{count64_one, line_end, spaced_one}
use Rattle.tdf_save_reading.proofs.ReadSteps.{post_absent, post_none, post_piece}
use Rattle.tdf_save.specs.Members.{IsCount64}
use Rattle.tdf_save.specs.machine.Pieces.{Stops}
use Rattle.tdf_save_reading.proofs.numbers.last_count.Goals as goal

pub returns-in_default-clause-none : goal.returns-in_default-clause-none
returns-in_default-clause-none c = λ _. post_none (λ v. 32 ∷ decimal v) line_end IsCount64 Stops c.args.text.now (λ r. refl) (c.in_default.ensures.none refl)

pub returns-in-Some-cut-clause-is : goal.returns-in-Some-cut-clause-is
returns-in-Some-cut-clause-is c = (post_piece (λ v. 32 ∷ decimal v) line_end IsCount64 Stops c.args.text.now c.in-Some.rest.now c.in-Some.number c.in-Some-cut.left.now c.in-Some.ensures.is c.in-Some-cut.ensures)

pub returns-in-None-clause-none : goal.returns-in-None-clause-none
returns-in-None-clause-none c = λ _. post_absent (λ v. 32 ∷ decimal v) line_end IsCount64 Stops c.args.text.now c.in-Some.rest.now c.in-Some.number (λ r. refl) (spaced_one decimal IsCount64 count64_one) c.in-Some.ensures.is c.in-None.ensures
