use Rattle.tdf_exec.proofs.Formed.{first_rows}
use Rattle.tdf_exec.proofs.Kept.{is_made, stands}
use Rattle.tdf_exec.proofs.Planned.{has, text_first}
use Rattle.tdf_exec.proofs.cluster.Cluster.new.Goals as goal

pub first_parts-requires-clause-plan : goal.first_parts-requires-clause-plan
first_parts-requires-clause-plan c = text_first c.args.flat.now c.args.cluster c.args.first (c.law_laid.ensures.laid c.args.flat.now c.requires.sound).limits c.requires.plan

pub first_parts-requires-clause-once : goal.first_parts-requires-clause-once
first_parts-requires-clause-once c = (first_rows c.args.flat.now c.args.cluster c.args.first (c.law_laid.ensures.laid c.args.flat.now c.requires.sound) c.requires.plan).once

pub invariant_of-result : goal.invariant_of-result
invariant_of-result c =
    let laid = c.law_laid.ensures.laid c.args.flat.now c.requires.sound in
    let h = has c.args.flat.now c.args.cluster c.args.first c.requires.sound laid (text_first c.args.flat.now c.args.cluster c.args.first laid.limits c.requires.plan) c.law_laid.ensures.present in
    record { sorted = c.law_laid.ensures.sorted _ _ _ c.args.first.plan.entries.items h.plan_is.planned; rising = c.in-Ok.ensures.rising; counted = c.in-Ok.ensures.counted; room = c.in-Ok.ensures.room }

pub returns-in-Ok-clause-of : goal.returns-in-Ok-clause-of
returns-in-Ok-clause-of c =
    is_made c.args.flat.now c.args.cluster c.args.first c.requires.sound (c.law_laid.ensures.laid c.args.flat.now c.requires.sound) c.requires.plan c.law_laid.ensures.present
    c.in-Ok.parts.edges.reads c.in-Ok.parts.edges.writes c.in-Ok.parts.edges.rings c.in-Ok.parts.actors.runners c.in-Ok.parts.actors.positions c.in-Ok.ensures.parts

pub returns-in-Ok-clause-stands : goal.returns-in-Ok-clause-stands
returns-in-Ok-clause-stands c =
    stands c.args.flat.now c.args.cluster c.args.first c.requires.sound (c.law_laid.ensures.laid c.args.flat.now c.requires.sound) c.requires.plan c.law_laid.ensures.present
    c.in-Ok.parts.edges.rings c.in-Ok.parts.actors.runners c.in-Ok.parts.actors.positions c.in-Ok.ensures.parts.rings_are c.in-Ok.ensures.parts.runners_are c.in-Ok.ensures.parts.none_done
