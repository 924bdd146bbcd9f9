use Rattle.std.proofs.lemmas.List.Elements.{All-get_or}
use Rattle.std.proofs.Common.{◌∙◌, length, sym, ◌<◌}
use Rattle.tdf_schedule.specs.declared.entry.Entry.{Entry}
use Rattle.tdf_schedule.specs.views.Table.{AreInputs, AreOutputs}
use Rattle.tdf_schedule.specs.views.Work.{links_at}
use Rattle.tdf_schedule.proofs.Flows.{walked_more}
use Rattle.tdf_schedule.proofs.bounds.walk.Goals as goal

pub loop-i-preserved : goal.loop-i-preserved
loop-i-preserved c = walked_more (length c.args.done.now.items) c.loop-i.i c.args.entries.now _ c.args.edges.now c.loop-i.done.items c.fire.new.done.items c.loop-i.bounds.items c.fire.new.bounds.items
    c.loop-i-test.true (All-get_or (λ (x : Entry). x.actor < length c.args.done.now.items) c.args.entries.now c.loop-i.i _ c.loop-i-test.true c.requires.actors) c.requires.fit c.loop-i.invariant
    c.fire.ensures.done c.fire.ensures.raised

pub fire-requires-clause-into : goal.fire-requires-clause-into
fire-requires-clause-into c = All-get_or (λ (x : Entry). AreInputs c.args.edges.now x.actor (links_at c.args.inputs.now x.actor)) c.args.entries.now c.loop-i.i _ c.loop-i-test.true c.requires.into

pub fire-requires-clause-out : goal.fire-requires-clause-out
fire-requires-clause-out c = All-get_or (λ (x : Entry). AreOutputs c.args.edges.now x.actor (links_at c.args.outputs.now x.actor)) c.args.entries.now c.loop-i.i _ c.loop-i-test.true c.requires.out

pub fire-requires-clause-inputs_long : goal.fire-requires-clause-inputs_long
fire-requires-clause-inputs_long c = c.requires.inputs_long ∙ sym c.loop-i.invariant.long

pub fire-requires-clause-outputs_long : goal.fire-requires-clause-outputs_long
fire-requires-clause-outputs_long c = c.requires.outputs_long ∙ sym c.loop-i.invariant.long
