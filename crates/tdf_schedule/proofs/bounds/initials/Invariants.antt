use Rattle.std.proofs.Common.{◌≡◌, ◌<◌, ℕ, Some, length}
use Rattle.std.specs.Prelude.{slice_get, slice_index}
use Rattle.tdf_graph.specs.declared.actors.Edge.{Edge}
use Rattle.tdf_schedule.proofs.bounds.initials.Given as goal

abbrev pub invariant-loop-k : goal.invariant-loop-k
invariant-loop-k l = record {
  long : length l.held.items ≡ length l.edges;
  each : (k : ℕ) (e : Edge) → k < l.k → slice_get l.edges k ≡ Some e → slice_index l.held.items k ≡ e.initial;
}
