use Rattle.std.proofs.Common.{◌≡◌, ℕ, [], ◌∷◌}
use Rattle.tdf_exec_firing.specs.Edges.{with_rings}
use Rattle.tdf_exec_firing.specs.machine.Moving.{AreChangedUpTo, with_more}
use Rattle.tdf_exec_firing.proofs.putting.put_on_all.Given as goal

abbrev pub invariant-loop-i : goal.invariant-loop-i
invariant-loop-i l = record {
  put : AreChangedUpTo (λ (e : ℕ). e) (λ (e : ℕ). with_more (l.value ∷ [])) l.list.items l.i l.initial.edges.rings l.edges.rings;
  rest : l.edges ≡ with_rings l.edges.rings l.initial.edges;
}
