use Rattle.tdf_cli.proofs.Driven.{early_only, writes_note}
use Rattle.tdf_cli.proofs.drive.drive_parts.Goals as goal
use Rattle.tdf_cli.specs.Driven.{HasDrivenOutcome, early}
use Rattle.tdf_cli.specs.declared.status.Status.TheVariants.{Refused}
use Rattle.tdf_sim.specs.FirstFault.{of_no_tree}

pub returns-in-Some-clause-writes : goal.returns-in-Some-clause-writes
returns-in-Some-clause-writes g c =
    let is = of_no_tree (c.in-Some.ensures c.args.model.now c.in-Err.ensures.refused) in
    writes_note (HasDrivenOutcome c.args.asked c.args.model.now c.args.bytes.now) c.refuse.result Refused _ (early is)
    (early_only c.args.asked c.args.model.now c.args.bytes.now c.law_early_fault.ensures.text_apart c.law_early_fault.ensures.one_of_text c.in-Some.fault is)
    c.refuse.ensures.status c.refuse.ensures.writes
