use Rattle.std.proofs.Common.{rules, SFits, refl, ◌∷◌}
use Rattle.std.proofs.lemmas.Int.{to_z-of_z}
use Rattle.std.specs.Int.{w128}
use Rattle.std.specs.Fmt.{signed_decimal}
use Rattle.tdf_save.proofs.Api.{line_end, num_one, spaced_one}
use Rattle.tdf_save_reading.proofs.ReadSteps.{post_absent, post_none, post_piece}
use Rattle.tdf_save.specs.Members.{IsNum}
use Rattle.tdf_save.specs.machine.Pieces.{Stops}
use Rattle.tdf_save_reading.proofs.numbers.last_num.Goals as goal

pub returns-in_default-clause-none : goal.returns-in_default-clause-none
returns-in_default-clause-none c = λ _. post_none (λ v. 32 ∷ signed_decimal v) line_end IsNum Stops c.args.text.now (λ r. refl) (c.in_default.ensures.none refl)

pub returns-in-Some-cut-clause-is : goal.returns-in-Some-cut-clause-is
returns-in-Some-cut-clause-is c = let f : SFits w128 c.in-Some.number = search rules in rw (to_z-of_z w128 c.in-Some.number f) (post_piece (λ v. 32 ∷ signed_decimal v) line_end IsNum Stops c.args.text.now c.in-Some.rest.now c.in-Some.number c.in-Some-cut.left.now c.in-Some.ensures.is c.in-Some-cut.ensures)

pub returns-in-None-clause-none : goal.returns-in-None-clause-none
returns-in-None-clause-none c = λ _. post_absent (λ v. 32 ∷ signed_decimal v) line_end IsNum Stops c.args.text.now c.in-Some.rest.now c.in-Some.number (λ r. refl) (spaced_one signed_decimal IsNum num_one) c.in-Some.ensures.is c.in-None.ensures
