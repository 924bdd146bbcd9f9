use Rattle.std.proofs.Common.{◌≡◌, ◌≤◌}
use Rattle.std.specs.Vec.{vec_capacity}
use Rattle.tdf_exec.specs.machine.Moving.{AreOut, numbers_of}
use Rattle.tdf_exec.specs.views.Actors.{with_runners}
use Rattle.tdf_exec.proofs.moving.take_out.Given as goal

abbrev pub invariant-loop-i : goal.invariant-loop-i
invariant-loop-i l = record {
  rest : l.actors ≡ with_runners l.actors.runners l.initial.actors;
  out : AreOut (numbers_of l.rows) l.i l.initial.actors.runners l.actors.runners l.frames.items l.rests.items;
  frames_room : vec_capacity l.initial.frames ≤ vec_capacity l.frames;
  rests_room : vec_capacity l.initial.rests ≤ vec_capacity l.rests;
}
