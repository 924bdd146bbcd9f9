-- The tables of a whole walk.
use Rattle.std.proofs.Common.{◌≡◌, ℕ, Bool, true, false, List, [], length, refl, sym, subst}
use Rattle.std.specs.List.{AllZip}
use Rattle.std.specs.Prelude.{None, filter_map}
use Rattle.tdf_bind_hierarchy.proofs.Adds.{Adds, walks}
use Rattle.tdf_bind_hierarchy.specs.Blocks.{BlockOf}
use Rattle.tdf_bind_hierarchy.specs.Bound.{AreBound}
use Rattle.tdf_bind_hierarchy.specs.Met.{Met, met_in}
use Rattle.tdf_bind_hierarchy.specs.Tables.{TablesOf, IsTable, IsRowOf, met_instance}
use Rattle.tdf_bind_hierarchy.specs.machine.Walk.{no_tables, walked}

is_table : (t : TablesOf) (ms : List Met) → Adds no_tables t ms → IsTable ms t
is_table t ms a = record {
  signals = a.signals false;
  event_signals = a.signals true;
  order = a.order [] counts;
  instances = subst (λ rows. AllZip (IsRowOf t) rows (filter_map met_instance ms)) (sym a.rows) a.fit;
}
  where
    counts : (e : Bool) → length (Rattle.tdf_bind_hierarchy.specs.Tables.table e no_tables) ≡ 0
    counts true = refl
    counts false = refl

pub tables_all : (blocks : List BlockOf) (top : ℕ) → AreBound blocks top → IsTable (met_in blocks top) (walked blocks (length blocks) top None [] no_tables)
tables_all blocks top bound = is_table _ _ ((walks blocks top (length blocks) bound).at top None [] [] no_tables tt (λ b is. sym (bound.closed b is)))

pub tables_next : (blocks : List BlockOf) (top : ℕ) (u : TablesOf) → AreBound blocks top → u ≡ walked blocks (length blocks) top None [] no_tables → IsTable (met_in blocks top) u
tables_next blocks top u bound is = subst (IsTable (met_in blocks top)) (sym is) (tables_all blocks top bound)

pub ruleset table_laws = (tables_next)
