-- Bodies look at the table of attributes of a period alone.
use Rattle.std.proofs.Common.{◌≡◌, ◌∙◌, ℕ, List, [], ◌∷◌, ◌++◌, Option, Some, None, if◌then◌else◌, refl, ap, ℤ}
use Rattle.tdf_bind.specs.declared.model.Flat.{Flat}
use Rattle.tdf_dynamic_plans.specs.Attributes.{AttrsOf, attrs_at, rates_in}
use Rattle.tdf_expr.specs.declared.bodies.Body.TheVariants as body
use Rattle.tdf_fixed.specs.declared.raw.Raw.{Raw}
use Rattle.tdf_graph.specs.declared.actors.Actor.{Actor}
use Rattle.tdf_graph.specs.declared.actors.Actor.TheVariants as actor
use Rattle.tdf_lang_tree.specs.Pure.{PureTree}
use Rattle.tdf_streams.specs.Bodies.{module_acted, changed, done_by, nothing_read, written_by}
use Rattle.tdf_streams.specs.Cluster.{Start, cluster_net}
use Rattle.tdf_streams.specs.Periods.{PeriodInfo, PeriodRecord}
use Rattle.tdf_streams.specs.Places.{actor_kind, has_changes, read_through}
use Rattle.tdf_streams_onward.specs.Laws.{BodiesGoByTable, table_of}

module _ (model : PureTree) (flat : Flat) (m : ℕ) where
  acted_same : (kind : Option Actor) (p q : PeriodInfo) → table_of p ≡ table_of q → module_acted model flat m kind p ≡ module_acted model flat m kind q
  acted_same (Some actor.Module) p q same = λ i cells inputs. written_by flat m (done_by model flat m body.Processing
      cells (rates_in (attrs_at (same i) m)) (read_through flat.tables.ports m flat.tables.edges inputs))
  acted_same _ p q same = refl

  changed_same : (p q : PeriodRecord) (later : List PeriodRecord) (cells : List ℤ) → table_of p.info ≡ table_of q.info → changed model flat m (p ∷ later) cells ≡ changed model flat m (q ∷ later) cells
  changed_same p q [] cells same = ap (λ (t : List AttrsOf). if has_changes flat.tables.modules m
      then (done_by model flat m body.Change cells (rates_in (attrs_at t m)) nothing_read).frame.cells else cells) same
  changed_same p q (r ∷ later) cells same = refl

  -- the periods before the last do not count
  changed_last : (old : List PeriodRecord) (p : PeriodRecord) (later : List PeriodRecord) (cells : List ℤ) → changed model flat m (old ++ p ∷ later) cells ≡ changed model flat m (p ∷ later) cells
  changed_last [] p later cells = refl
  changed_last (r ∷ []) p later cells = refl
  changed_last (r ∷ (s ∷ old)) p later cells = changed_last (s ∷ old) p later cells

pub go_by_table : BodiesGoByTable
go_by_table model flat cluster begun = record {
  change = λ m old p q later x same. changed_last model flat m old p later x ∙ changed_same model flat m p q later x same;
  process = λ m p q same. acted_same model flat m (actor_kind flat.tables m) p.info q.info same;
}
