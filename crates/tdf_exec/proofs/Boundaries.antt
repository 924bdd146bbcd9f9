-- The two ends of a boundary: no module of the cluster has changes, or one has.
use Rattle.std.proofs.Common.{◌≡◌, ◌∙◌, ℕ, ℤ, true, false, List, Some, None, refl, sym, ap, subst}
use Rattle.std.specs.Prelude.{slice_get}
use Rattle.tdf_dynamic.specs.Change.{IsChangeFault, IsSame, asks_of, table_after}
use Rattle.tdf_base.specs.declared.faults.Fault.{Fault}
use Rattle.tdf_dynamic_plans.specs.Attributes.{AttrsOf}
use Rattle.tdf_exec.proofs.Asks.{row_own}
use Rattle.tdf_exec.proofs.Changing.{still_same, still_table}
use Rattle.tdf_exec.proofs.Crosses.{crosses, of_crossed}
use Rattle.tdf_exec.proofs.Kept.{true_false}
use Rattle.tdf_exec.proofs.Nexts.{like_self}
use Rattle.tdf_exec.specs.Cluster.{ClusterOf, next_offset}
use Rattle.tdf_exec.specs.Crossing.{CrossesFrom, HasCrossed, HasNoChanges, at_place}
use Rattle.tdf_exec.specs.Made.{IsClusterOf}
use Rattle.tdf_exec.specs.machine.Laid.{IsLaid}
use Rattle.tdf_bind.specs.declared.model.Flat.{Flat}
use Rattle.tdf_streams.specs.Periods.{AreAttributes}
use Rattle.tdf_streams.specs.Places.{has_changes}
use Rattle.tdf_lang_tree.specs.Pure.{PureTree}

module _ (flat : Flat) (c : ClusterOf) (laid : IsLaid flat) (of : IsClusterOf flat c) (end : next_offset c ≡ None) where
  -- no row is that of a module with changes
  module _ (none : (i : ℕ) (a : AttrsOf) → slice_get c.table i ≡ Some a → has_changes flat.tables.modules a.number ≡ false) where
    pub no_changes : HasNoChanges flat.tables c.number
    no_changes m below own =
        let r = of.rows.each m below own in
        ap (has_changes flat.tables.modules) (sym r.3) ∙ none r.0 r.1 r.2

    pub still_next : (model : PureTree) (cells : ℕ → List ℤ) → IsSame (asks_of model flat cells) c.table × (c.table ≡ table_after (asks_of model flat cells) c.table)
    still_next model cells = (still_same flat model cells c.table none, still_table flat model cells c.table none)

    pub still_after : (model : PureTree) (cells : ℕ → List ℤ) → AreAttributes flat c.number (table_after (asks_of model flat cells) c.table)
    still_after model cells = subst (AreAttributes flat c.number) (still_next model cells).1 of.attributes

    pub still_crossed : HasCrossed c (at_place c c.place true)
    still_crossed = record {
      rest = refl;
      rows = refl;
      flags = λ i a at. (a.accepts, at);
      same = refl;
      runners = λ m r at. (r, at, like_self r);
    }

    pub still_crosses : CrossesFrom flat c (at_place c c.place true)
    still_crosses = crosses flat c.table c of end no_changes

    pub still_of : IsClusterOf flat (at_place c c.place true)
    still_of = of_crossed flat c.table c true of end

    pub no_fault : {P : Type 0} (model : PureTree) (cells : ℕ → List ℤ) (fault : Fault) → IsChangeFault flat.tables c.number (asks_of model flat cells) c.table fault → P
    no_fault model cells fault is = absurd (is.differs (still_next model cells).0)

  -- one is
  pub not_still : {P : Type 0} (i : ℕ) (a : AttrsOf) → slice_get c.table i ≡ Some a → has_changes flat.tables.modules a.number ≡ true → HasNoChanges flat.tables c.number → P
  not_still i a at has none = let own = row_own flat c laid of i a at in true_false (sym has ∙ none a.number own.is_module own.inside)
