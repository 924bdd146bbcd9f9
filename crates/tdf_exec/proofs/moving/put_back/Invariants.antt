use Rattle.std.proofs.Common.{◌≡◌, ◌≤◌, length, take}
use Rattle.std.specs.Vec.{vec_capacity}
use Rattle.tdf_exec.specs.machine.Moving.{AreBack, numbers_of}
use Rattle.tdf_exec.specs.views.Actors.{with_runners}
use Rattle.tdf_exec.proofs.moving.put_back.Given as goal

abbrev pub invariant-loop-left : goal.invariant-loop-left
invariant-loop-left l = record {
  rest : l.actors ≡ with_runners l.actors.runners l.initial.actors;
  few : l.left ≤ length l.rows;
  back : AreBack (numbers_of l.rows) l.left l.initial.actors.runners l.actors.runners l.initial.frames.items l.initial.rests.items;
  frames : l.frames.items ≡ take l.left l.initial.frames.items;
  rests : l.rests.items ≡ take l.left l.initial.rests.items;
  frames_room : vec_capacity l.initial.frames ≤ vec_capacity l.frames;
  rests_room : vec_capacity l.initial.rests ≤ vec_capacity l.rests;
}

abbrev pub decreases-loop-left : goal.decreases-loop-left
decreases-loop-left l = l.left
