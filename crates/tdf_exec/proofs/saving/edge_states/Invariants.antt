use Rattle.std.proofs.Common.{◌≡◌, ℤ, Vec, Global, map, take}
use Rattle.tdf_exec.specs.Saved.{edge_states}
use Rattle.tdf_rings.specs.Rings.{RingOf}
use Rattle.tdf_exec.proofs.saving.edge_states.Given as goal

abbrev pub invariant-loop-i : goal.invariant-loop-i
invariant-loop-i l = map (λ (x : Vec ℤ Global). x.items) l.edges.items ≡ edge_states (map (λ (r : RingOf). r.samples) l.own.rings) (take l.i l.numbers.items)
