use Rattle.std.proofs.Common.{◌∙◌, None, Ok, Some, ap, map, refl, subst, sym}
use Rattle.tdf_convert.specs.Emitted.{write_of_sent as write_to}
use Rattle.tdf_sim_instants.proofs.Acting.{before_events, can_fire, can_settle, engine_after, ready_after, roomy_if_none, rooms_known, writes_room}
use Rattle.tdf_sim_instants.proofs.Calm.{calm_after}
use Rattle.tdf_sim_instants.proofs.Spending.{crossing_now, fired_all, fired_part, on_is, rest_now, same_answer, settles_as}
use Rattle.tdf_sim_instants.specs.Crossing.{crossing_of}
use Rattle.tdf_sim_instants.specs.Engine.{AreRoomsBut, AreRoomy, HasBeenSpent, HaveBoundaries, HaveFired}
use Rattle.tdf_sim_instants.specs.declared.crossing.Pass.TheVariants.{Done, Spent, Stopped}
use Rattle.tdf_sim_instants.specs.declared.engine.Engine.{Engine}
use Rattle.tdf_events.specs.Kernel.{side_of}
use Rattle.tdf_sim_refinement.specs.Pass.{pass_run}
use Rattle.tdf_sim_instants.proofs.engine.Engine.instant.Goals as goal

pub returns-in_default : goal.returns-in_default
returns-in_default c =
    let crossed = crossing_of c.cross.new.self.clusters.items c.cross.new.self.since.items c.cross.new.left c.cross.new.self.planned.items in
    record {
      engine = λ same. absurd (c.in_default.not-Done (same_answer c.in_ok-ended.ended Done same));
      had = λ same. absurd (c.in_default.not-Done (same_answer c.in_ok-ended.ended Done same));
      later = λ same. absurd (c.in_default.not-Done (same_answer c.in_ok-ended.ended Done same));
      spent = λ same. HasBeenSpent.InBoundaries crossed (c.cross.ensures.part (c.in_ok-ended.was ∙ same)) refl refl;
      stopped = λ number fault same. record { crossed = crossed; stopped = c.cross.ensures.stopped number fault (c.in_ok-ended.was ∙ same); clusters = refl; since = refl; planned = refl; rest = c.cross.ensures.rest };
      groups = ap (λ (z : Engine). z.groups) c.cross.ensures.rest;
      never = λ none. refl;
    }

pub make_room-requires : goal.make_room-requires
make_room-requires c = record {
  kept = λ none. subst (λ (z : Engine). AreRoomy c.cross.new.self.clusters.items z.outputs z.writes) (sym c.cross.ensures.rest)
      (roomy_if_none c.args.flat.now c.args.time c.args.left.now c.args.self.now c.requires.engine c.requires.ready (c.law_limits.ensures c.requires.sound.model c.args.flat.now c.requires.sound.sound.kept c.requires.sound.sound.types c.requires.sound.is)
      c.cross.new.self c.cross.new.left (c.cross.ensures.all (c.in_ok-ended.was ∙ ap Ok c.in-Done.is)) none c.requires.none);
  rooms = subst (λ (z : Engine). AreRoomsBut c.cross.new.self.planned.items c.cross.new.self.clusters.items z.rooms.items) (sym c.cross.ensures.rest)
      (rooms_known c.args.flat.now c.args.time c.args.left.now c.args.self.now c.requires.engine c.requires.ready (c.law_limits.ensures c.requires.sound.model c.args.flat.now c.requires.sound.sound.kept c.requires.sound.sound.types c.requires.sound.is)
      c.cross.new.self c.cross.new.left (c.cross.ensures.all (c.in_ok-ended.was ∙ ap Ok c.in-Done.is)));
}

pub fire-requires : goal.fire-requires
fire-requires c = can_fire c.args.flat.now c.args.time c.args.left.now c.args.self.now c.requires.engine c.requires.ready (c.law_limits.ensures c.requires.sound.model c.args.flat.now c.requires.sound.sound.kept c.requires.sound.sound.types c.requires.sound.is) c.make_room.new.self c.cross.new.left
    (subst (HaveBoundaries c.args.flat.now c.args.time c.args.self.now c.args.left.now) (crossing_now c.args.self.now c.cross.new.self c.make_room.new.self c.make_room.ensures.rest c.cross.new.left) (c.cross.ensures.all (c.in_ok-ended.was ∙ ap Ok c.in-Done.is)))
    c.requires.sound (on_is c.make_room.result c.in_ok-make_room.was c.make_room.ensures.roomy) (rest_now c.args.self.now c.cross.new.self c.make_room.new.self c.make_room.ensures.rest c.cross.ensures.rest)

pub returns-then-not-fire-clause-spent : goal.returns-then-not-fire-clause-spent
returns-then-not-fire-clause-spent c = λ same. HasBeenSpent.InFirings (crossing_of c.make_room.new.self.clusters.items c.make_room.new.self.since.items c.cross.new.left c.make_room.new.self.planned.items)
    c.fire.new.self.inputs.items (pass_run c.fire.new.self.clusters.items c.fire.new.self.outputs c.fire.new.left)
    (subst (HaveBoundaries c.args.flat.now c.args.time c.args.self.now c.args.left.now) (crossing_now c.args.self.now c.cross.new.self c.make_room.new.self c.make_room.ensures.rest c.cross.new.left) (c.cross.ensures.all (c.in_ok-ended.was ∙ ap Ok c.in-Done.is)))
    (fired_part c.args.flat.now c.args.time c.args.left.now c.args.self.now c.make_room.new.self c.fire.new.self c.cross.new.left c.fire.new.left (rest_now c.args.self.now c.cross.new.self c.make_room.new.self c.make_room.ensures.rest c.cross.ensures.rest) c.fire.ensures.sampled (c.fire.ensures.part c.if-not-fire.true))
    refl (ap (λ (z : Engine). z.planned.items) c.fire.ensures.rest)

pub settle-requires-clause-room : goal.settle-requires-clause-room
settle-requires-clause-room c = writes_room c.args.flat.now c.args.time c.args.left.now c.args.self.now c.requires.engine c.requires.ready (c.law_limits.ensures c.requires.sound.model c.args.flat.now c.requires.sound.sound.kept c.requires.sound.sound.types c.requires.sound.is) c.make_room.new.self c.cross.new.left
    (subst (HaveBoundaries c.args.flat.now c.args.time c.args.self.now c.args.left.now) (crossing_now c.args.self.now c.cross.new.self c.make_room.new.self c.make_room.ensures.rest c.cross.new.left) (c.cross.ensures.all (c.in_ok-ended.was ∙ ap Ok c.in-Done.is)))
    c.law_by_offset.ensures c.requires.sound (on_is c.make_room.result c.in_ok-make_room.was c.make_room.ensures.roomy) (rest_now c.args.self.now c.cross.new.self c.make_room.new.self c.make_room.ensures.rest c.cross.ensures.rest) c.fire.new.self c.fire.new.left (c.fire.ensures.all c.if-not-fire.false) c.fire.ensures.rest

pub settle-requires-clause-settle : goal.settle-requires-clause-settle
settle-requires-clause-settle c = can_settle c.args.flat.now c.args.time c.args.left.now c.args.self.now c.requires.engine c.requires.ready (c.law_limits.ensures c.requires.sound.model c.args.flat.now c.requires.sound.sound.kept c.requires.sound.sound.types c.requires.sound.is) c.make_room.new.self c.cross.new.left
    (subst (HaveBoundaries c.args.flat.now c.args.time c.args.self.now c.args.left.now) (crossing_now c.args.self.now c.cross.new.self c.make_room.new.self c.make_room.ensures.rest c.cross.new.left) (c.cross.ensures.all (c.in_ok-ended.was ∙ ap Ok c.in-Done.is)))
    c.law_by_offset.ensures c.requires.sound (on_is c.make_room.result c.in_ok-make_room.was c.make_room.ensures.roomy) (rest_now c.args.self.now c.cross.new.self c.make_room.new.self c.make_room.ensures.rest c.cross.ensures.rest) c.fire.new.self c.fire.new.left (c.fire.ensures.all c.if-not-fire.false) c.fire.ensures.rest c.requires.runnable

pub returns-clause-engine : goal.returns-clause-engine
returns-clause-engine c = λ same. engine_after c.args.flat.now c.args.time c.args.left.now c.args.self.now c.requires.engine c.requires.ready (c.law_limits.ensures c.requires.sound.model c.args.flat.now c.requires.sound.sound.kept c.requires.sound.sound.types c.requires.sound.is) c.make_room.new.self c.cross.new.left
    (subst (HaveBoundaries c.args.flat.now c.args.time c.args.self.now c.args.left.now) (crossing_now c.args.self.now c.cross.new.self c.make_room.new.self c.make_room.ensures.rest c.cross.new.left) (c.cross.ensures.all (c.in_ok-ended.was ∙ ap Ok c.in-Done.is)))
    c.law_by_offset.ensures c.requires.sound (on_is c.make_room.result c.in_ok-make_room.was c.make_room.ensures.roomy) (rest_now c.args.self.now c.cross.new.self c.make_room.new.self c.make_room.ensures.rest c.cross.ensures.rest) c.fire.new.self c.fire.new.left (c.fire.ensures.all c.if-not-fire.false) c.fire.ensures.rest c.settle.new.self c.settle.ensures.rest c.fire.ensures.sampled
    (on_is c.make_room.result c.in_ok-make_room.was c.make_room.ensures.rooms) (c.settle.ensures.kernel (same_answer c.settle.result Done same))

pub returns-clause-had : goal.returns-clause-had
returns-clause-had c = λ same. record {
  crossed = crossing_of c.make_room.new.self.clusters.items c.make_room.new.self.since.items c.cross.new.left c.make_room.new.self.planned.items;
  boundaries = subst (HaveBoundaries c.args.flat.now c.args.time c.args.self.now c.args.left.now) (crossing_now c.args.self.now c.cross.new.self c.make_room.new.self c.make_room.ensures.rest c.cross.new.left) (c.cross.ensures.all (c.in_ok-ended.was ∙ ap Ok c.in-Done.is));
  since = ap (λ (z : Engine). z.since.items) c.settle.ensures.rest ∙ ap (λ (z : Engine). z.since.items) c.fire.ensures.rest;
  planned = ap (λ (z : Engine). z.planned.items) c.settle.ensures.rest ∙ ap (λ (z : Engine). z.planned.items) c.fire.ensures.rest;
  run = pass_run c.fire.new.self.clusters.items c.fire.new.self.outputs c.fire.new.left;
  fired = subst (λ inputs. HaveFired c.args.flat.now c.args.time c.args.self.now (crossing_of c.make_room.new.self.clusters.items c.make_room.new.self.since.items c.cross.new.left c.make_room.new.self.planned.items)
      inputs (pass_run c.fire.new.self.clusters.items c.fire.new.self.outputs c.fire.new.left)) (sym (ap (λ (z : Engine). z.inputs.items) c.settle.ensures.rest))
      (fired_all c.args.flat.now c.args.time c.args.left.now c.args.self.now c.make_room.new.self c.fire.new.self c.cross.new.left c.fire.new.left (rest_now c.args.self.now c.cross.new.self c.make_room.new.self c.make_room.ensures.rest c.cross.ensures.rest) c.fire.ensures.sampled (on_is c.make_room.result c.in_ok-make_room.was c.make_room.ensures.roomy) (c.fire.ensures.all c.if-not-fire.false));
  clusters = ap (λ (z : Engine). z.clusters.items) c.settle.ensures.rest;
  traced = ap (λ (z : Engine). z.outputs) c.settle.ensures.rest;
  events = settles_as c.args.flat.now c.args.time c.args.left.now c.args.self.now c.make_room.new.self c.fire.new.self c.cross.new.left c.fire.new.left (rest_now c.args.self.now c.cross.new.self c.make_room.new.self c.make_room.ensures.rest c.cross.ensures.rest) c.fire.ensures.sampled (Some (side_of c.settle.new.self.kernel, c.settle.new.left)) c.fire.ensures.rest (λ model checked. c.settle.ensures.events model checked (same_answer c.settle.result Done same));
}

pub returns-clause-later : goal.returns-clause-later
returns-clause-later c = λ same. ready_after c.args.flat.now c.args.time c.args.left.now c.args.self.now c.requires.engine c.requires.ready (c.law_limits.ensures c.requires.sound.model c.args.flat.now c.requires.sound.sound.kept c.requires.sound.sound.types c.requires.sound.is) c.make_room.new.self c.cross.new.left
    (subst (HaveBoundaries c.args.flat.now c.args.time c.args.self.now c.args.left.now) (crossing_now c.args.self.now c.cross.new.self c.make_room.new.self c.make_room.ensures.rest c.cross.new.left) (c.cross.ensures.all (c.in_ok-ended.was ∙ ap Ok c.in-Done.is)))
    c.law_by_offset.ensures c.requires.sound (on_is c.make_room.result c.in_ok-make_room.was c.make_room.ensures.roomy) (rest_now c.args.self.now c.cross.new.self c.make_room.new.self c.make_room.ensures.rest c.cross.ensures.rest) c.fire.new.self c.fire.new.left (c.fire.ensures.all c.if-not-fire.false) c.fire.ensures.rest c.settle.new.self c.settle.ensures.rest
    (calm_after c.requires.runnable.checked_is.model c.args.flat.now c.args.time c.fire.new.left c.settle.new.left (map (write_to c.fire.new.self.sinks.list.items) c.fire.new.self.outputs.sent) (side_of c.fire.new.self.kernel) (side_of c.settle.new.self.kernel) c.requires.early
    (before_events c.args.flat.now c.args.time c.args.left.now c.args.self.now c.requires.engine c.requires.ready (c.law_limits.ensures c.requires.sound.model c.args.flat.now c.requires.sound.sound.kept c.requires.sound.sound.types c.requires.sound.is) c.make_room.new.self c.cross.new.left
    (subst (HaveBoundaries c.args.flat.now c.args.time c.args.self.now c.args.left.now) (crossing_now c.args.self.now c.cross.new.self c.make_room.new.self c.make_room.ensures.rest c.cross.new.left) (c.cross.ensures.all (c.in_ok-ended.was ∙ ap Ok c.in-Done.is)))
    c.law_by_offset.ensures c.requires.sound (on_is c.make_room.result c.in_ok-make_room.was c.make_room.ensures.roomy) (rest_now c.args.self.now c.cross.new.self c.make_room.new.self c.make_room.ensures.rest c.cross.ensures.rest) c.fire.new.self c.fire.new.left (c.fire.ensures.all c.if-not-fire.false) c.fire.ensures.rest)
    (c.settle.ensures.events c.requires.runnable.checked_is.model c.requires.runnable.checked_is.are (same_answer c.settle.result Done same)))

pub returns-clause-spent : goal.returns-clause-spent
returns-clause-spent c = λ same. HasBeenSpent.InEvents (crossing_of c.make_room.new.self.clusters.items c.make_room.new.self.since.items c.cross.new.left c.make_room.new.self.planned.items)
    c.fire.new.self.inputs.items (pass_run c.fire.new.self.clusters.items c.fire.new.self.outputs c.fire.new.left)
    (subst (HaveBoundaries c.args.flat.now c.args.time c.args.self.now c.args.left.now) (crossing_now c.args.self.now c.cross.new.self c.make_room.new.self c.make_room.ensures.rest c.cross.new.left) (c.cross.ensures.all (c.in_ok-ended.was ∙ ap Ok c.in-Done.is)))
    (fired_all c.args.flat.now c.args.time c.args.left.now c.args.self.now c.make_room.new.self c.fire.new.self c.cross.new.left c.fire.new.left (rest_now c.args.self.now c.cross.new.self c.make_room.new.self c.make_room.ensures.rest c.cross.ensures.rest) c.fire.ensures.sampled (on_is c.make_room.result c.in_ok-make_room.was c.make_room.ensures.roomy) (c.fire.ensures.all c.if-not-fire.false))
    (settles_as c.args.flat.now c.args.time c.args.left.now c.args.self.now c.make_room.new.self c.fire.new.self c.cross.new.left c.fire.new.left (rest_now c.args.self.now c.cross.new.self c.make_room.new.self c.make_room.ensures.rest c.cross.ensures.rest) c.fire.ensures.sampled None c.fire.ensures.rest (λ model checked. c.settle.ensures.spent model checked (same_answer c.settle.result Spent same)))
    (ap (λ (z : Engine). z.clusters.items) c.settle.ensures.rest) (ap (λ (z : Engine). z.planned.items) c.settle.ensures.rest ∙ ap (λ (z : Engine). z.planned.items) c.fire.ensures.rest)

pub returns-clause-stopped : goal.returns-clause-stopped
returns-clause-stopped c = λ number fault same. absurd (c.settle.ensures.never number fault (same_answer c.settle.result (Stopped number fault) same))
