-- A snapshot is valid for two flat models of one model, says one world for both, and its text names the same members.
use Rattle.std.proofs.Common.{◌≡◌, ◌∙◌, ℕ, ◌+◌, List, [], Option, None, Some, if◌then◌else◌, length, map, nat_eq, refl, sym, ap, subst}
use Rattle.std.proofs.lemmas.List.{length-map}
use Rattle.std.specs.List.{enumerate_from, filter_map, range_with_len, zip}
use Rattle.std.specs.Prelude.{ℤ, All, slice_get, slice_index, slice_index_or, unwrap_or}
use Rattle.tdf_bind.specs.declared.model.Flat.{Flat}
use Rattle.tdf_bind_connections.specs.ProcessBlocks.{BlockRowOf}
use Rattle.tdf_bind_connections.specs.declared.modules.ModuleRow.{ModuleRow}
use Rattle.tdf_bind_connections.specs.declared.traces.TraceRow.{TraceRow}
use Rattle.tdf_bind_invariants.specs.Limits.{limits_in}
use Rattle.tdf_dynamic_first.specs.Text.{first_attrs, first_table}
use Rattle.tdf_dynamic_first.specs.declared.first.First.{First}
use Rattle.tdf_dynamic_plans.specs.Attributes.{AttrsOf, attrs_at, clusters_of, rates_in}
use Rattle.tdf_dynamic_values.specs.States.{IsTableOfStates}
use Rattle.tdf_events.specs.State.{IsKernelState, resumed_side}
use Rattle.tdf_exec_parts.specs.States.{AreStatesOfRows}
use Rattle.tdf_expr.specs.Checked.{IsCheckedOf}
use Rattle.tdf_expr.specs.Frames.{limits_of_rate}
use Rattle.tdf_expr.specs.Made.{CellsFit, block_rates, cell_formats, formats_in, rate_spans_of}
use Rattle.tdf_expr.specs.Plans.{shape_written}
use Rattle.tdf_expr.specs.declared.checked.Checked.{Checked}
use Rattle.tdf_expr_semantics.specs.Fits.{NumbersFit, RatesFit}
use Rattle.tdf_expr_semantics.specs.Places.{RateLimits}
use Rattle.tdf_lang_tree.specs.Pure.{PureTree}
use Rattle.tdf_save_members.specs.OfFlat.{block_members, cluster_members, clusters_in, members_of, module_members}
use Rattle.tdf_saved.specs.State.{ClusterStateOf, ColumnStateOf, ModuleStateOf, SnapshotOf}
use Rattle.tdf_sim_history.specs.World.{Change, ClusterAt}
use Rattle.tdf_sim_resumed.specs.Restored.{list_for, state_start}
use Rattle.tdf_sim_resumed.specs.Resuming.{resumed_cluster, resumed_clusters}
use Rattle.tdf_sim_resumed.specs.Starting.{column_start_of, first_unknown, least_within, resumed_world, rows_from_saved, tracked_of}
use Rattle.tdf_sim_resumed.specs.Valid.{ArePlansOf, IsValid, IsValidColumn}
use Rattle.tdf_sim_unique.proofs.Bodies.{initialized_same, with_bodies}
use Rattle.tdf_sim_unique.proofs.Checks.{AreSame, in_checked}
use Rattle.tdf_sim_unique.proofs.Flats.{bodies_of, moved}
use Rattle.tdf_sim_unique.specs.PartLaws.{FlatsHaveMembers, FlatsHaveValid, FlatsSayWorlds}
use Rattle.tdf_streams.specs.Periods.{AreAttributes}
use Rattle.tdf_streams.specs.Places.{block_at}

-- what a snapshot reads of compiled bodies, beside what the history reads
pub record AreSameShapes (x y : Checked) : Type 0 where
  pub shapes : (n : ℕ) → map shape_written (cell_formats x n) ≡ map shape_written (cell_formats y n)
  pub rates : (n : ℕ) → rate_spans_of x n ≡ rate_spans_of y n

same_shapes : (model : PureTree) (x y : Checked) → IsCheckedOf model x → IsCheckedOf model y → AreSameShapes x y
same_shapes model x y h k = record {
  shapes = in_checked (λ b. map shape_written (formats_in b)) (λ globals p b c u v. u.shapes ∙ sym v.shapes) model x y h k;
  rates = in_checked block_rates (λ globals p b c u v. u.rates ∙ sym v.rates) model x y h k;
}

-- the time from which rows are written, by the clusters of the world that a snapshot says
abbrev rows_by : Flat → (time : ℕ) → List ClusterAt → ℕ
rows_by flat time clusters = least_within time (map (λ row. first_unknown time (tracked_of flat.tables clusters row)) flat.tables.traces)

module _ (model : PureTree) (a : Flat) (y : Checked) (same : AreSame a.checked y) (shapes : AreSameShapes a.checked y) where
  abbrev b : Flat
  b = with_bodies a y

  -- ---- tables and numbers

  table_same : (cluster : ℕ) → first_table a cluster ≡ first_table b cluster
  unfolding first_table
  table_same cluster = λ i. filter_map (λ (row : ℕ × ModuleRow). if nat_eq (slice_index (clusters_of a.tables) row.0) cluster
      then Some (record (first_attrs a row.0 row.1) { rates = same.rates row.1.block i }) else None) (enumerate_from 0 a.tables.modules)

  limits_same : (row : Option ModuleRow) → limits_in a.checked row ≡ limits_in y row
  limits_same None = refl
  limits_same (Some row) = ap (map limits_of_rate) (shapes.rates row.block)

  fit_same : (block : ℕ) (nums : List ℤ) → CellsFit a.checked block nums → CellsFit y block nums
  fit_same block nums = subst (λ formats. NumbersFit formats nums) (shapes.shapes block)

  attributes_same : (cluster : ℕ) (table : List AttrsOf) → AreAttributes a cluster table → AreAttributes b cluster table
  attributes_same cluster table is = record {
    own = is.own;
    allowed = subst (λ (l : Option ModuleRow → List RateLimits). All (λ (attrs : AttrsOf). RatesFit (l (slice_get a.tables.modules attrs.number)) attrs.rates) table)
        (λ i row. limits_same row i) is.allowed;
  }

  of_states_same : (cluster : ℕ) (modules : List ModuleStateOf) (table : List AttrsOf) → IsTableOfStates a cluster modules table → IsTableOfStates b cluster modules table
  of_states_same cluster modules table is = record {
    attributes = attributes_same cluster table is.attributes;
    holds = record {
      members = is.holds.members ∙ ap (map (λ (attrs : AttrsOf). attrs.number)) (table_same cluster);
      accepts_are = is.holds.accepts_are;
      rates_are = is.holds.rates_are;
      steps_are = is.holds.steps_are;
    };
  }

  rows_of_same : (table : List AttrsOf) (modules : List ModuleStateOf) → AreStatesOfRows a table modules → AreStatesOfRows b table modules
  rows_of_same table modules is = record {
    long = is.long;
    each = λ i attrs m at there. (let x = is.each i attrs m at there in record {
      rates = subst (λ (l : List RateLimits). RatesFit l m.rates) (limits_same (slice_get a.tables.modules attrs.number)) x.rates;
      long = x.long;
      short = x.short;
      cells = fit_same (block_at a.tables.modules attrs.number) m.cells x.cells;
    });
  }

  plans_same : (s : SnapshotOf) (firsts : List First) → ArePlansOf a s firsts → ArePlansOf b s firsts
  plans_same s firsts is = record {
    all = is.all;
    each = λ n first c at there. (let x = is.each n first c at there in record {
      modules = subst (λ (t : List AttrsOf). AreStatesOfRows b t c.modules) (table_same (n + 1)) (rows_of_same (first_table a (n + 1)) c.modules x.modules);
      table_is = of_states_same (n + 1) c.modules first.attrs.rows x.table_is;
      planned = x.planned;
      inside = x.inside;
      edges = x.edges;
    });
  }

  kernel_same : (s : SnapshotOf) → IsKernelState a s.time s.kernel → IsKernelState b s.time s.kernel
  kernel_same s is = record {
    values = is.values;
    blocks = record { long = is.blocks.long; each = λ n row nums at there. fit_same row.block nums (is.blocks.each n row nums at there) };
    pending = is.pending;
    first = is.first;
  }

  -- ---- the world

  start_same : (cluster : ℕ) (table : List AttrsOf) (s : ClusterStateOf) → state_start model a cluster table s ≡ state_start model b cluster table s
  start_same cluster table s = λ i. record (state_start model a cluster table s) {
    cells = map (λ m. unwrap_or (list_for (map (λ (attrs : AttrsOf). attrs.number) table) (map (λ (x : ModuleStateOf). x.cells) s.modules) m)
        (initialized_same model a y same m (rates_in (attrs_at table m)) i)) (range_with_len 0 (length a.tables.modules));
  }

  module _ (firsts : List First) (s : SnapshotOf) where
    clusters_same : (ahead : List (List Change)) → resumed_clusters model a firsts s ahead ≡ resumed_clusters model b firsts s ahead
    clusters_same ahead = λ i. map (λ (c : ℕ × (First × ClusterStateOf)). record (resumed_cluster model a (c.0 + 1) s.time c.1.0 c.1.1 (slice_index_or ahead c.0 [])) {
      begun = start_same (c.0 + 1) c.1.0.attrs.rows c.1.1 i;
    }) (enumerate_from 0 (zip firsts s.clusters))

    world_same : (ahead : List (List Change)) → resumed_world model a firsts s ahead ≡ resumed_world model b firsts s ahead
    world_same ahead = λ i. record (resumed_world model a firsts s ahead) {
      clusters = clusters_same ahead i;
      events = record (resumed_side a s.time s.kernel) {
        frames = map (λ (x : BlockRowOf × List ℤ). record { cells = x.1; rates = same.rates x.0.block i }) (zip a.tables.blocks s.kernel.blocks);
      };
      shown = map (λ c. column_start_of a.tables (rows_by a s.time (clusters_same [] i)) c.0 c.1 (tracked_of a.tables (clusters_same [] i) c.0)) (zip a.tables.traces s.columns);
    }

    column_same : (row : TraceRow) (column : ColumnStateOf)
        → IsValidColumn a (rows_from_saved model a firsts s) s row (tracked_of a.tables (resumed_clusters model a firsts s []) row) column
        → IsValidColumn b (rows_from_saved model a firsts s) s row (tracked_of a.tables (resumed_clusters model a firsts s []) row) column
    column_same row column is = (
      λ event. (let x = is.0 event in record {
        carry = x.carry;
        carried = x.carried;
        starts = x.starts;
        none_later = x.none_later;
        rising = x.rising;
        before = x.before;
        value = x.value;
        value_is = x.value_is;
        changes = x.changes;
      }),
      is.1,
    )

    valid_same : IsValid model a firsts s → IsValid model b firsts s
    valid_same is = record {
      times = is.times;
      members = record { clusters = is.members.clusters; columns = is.members.columns };
      clusters = plans_same s firsts is.clusters;
      kernel = kernel_same s is.kernel;
      columns = record {
        numbers = is.columns.numbers;
        each = λ n row column at there. subst (λ (c : List ClusterAt). IsValidColumn b (rows_by a s.time c) s row (tracked_of a.tables c row) column) (clusters_same [])
            (column_same row column (is.columns.each n row column at there));
      };
      alike = record { each = is.alike.each };
    }

  -- ---- members

  cells_long : (block : ℕ) → length (cell_formats a.checked block) ≡ length (cell_formats y block)
  cells_long block = sym (length-map (cell_formats a.checked block) shape_written) ∙ ap length (shapes.shapes block) ∙ length-map (cell_formats y block) shape_written

  members_same : members_of a ≡ members_of b
  members_same = λ i. record (members_of a) {
    clusters = map (λ cluster. record (cluster_members a cluster) {
      modules = map (λ (attrs : AttrsOf). record (module_members a attrs) { cells = cells_long (block_at a.tables.modules attrs.number) i }) (table_same cluster i);
    }) (clusters_in a);
    blocks = map (λ (row : BlockRowOf). record (block_members a row) { cells = cells_long row.block i }) a.tables.blocks;
  }

pub flats_have_valid : FlatsHaveValid
flats_have_valid model a b firsts s alike is = moved model a b (λ flat. IsValid model flat firsts s) alike
    (valid_same model a b.checked (bodies_of model a b alike) (same_shapes model a.checked b.checked alike.one.bodies alike.other.bodies) firsts s is)

pub flats_say_worlds : FlatsSayWorlds
flats_say_worlds model a b firsts s ahead alike = moved model a b (λ flat. resumed_world model a firsts s ahead ≡ resumed_world model flat firsts s ahead) alike
    (world_same model a b.checked (bodies_of model a b alike) (same_shapes model a.checked b.checked alike.one.bodies alike.other.bodies) firsts s ahead)

pub flats_have_members : FlatsHaveMembers
flats_have_members model a b alike = moved model a b (λ flat. members_of a ≡ members_of flat) alike
    (members_same model a b.checked (bodies_of model a b alike) (same_shapes model a.checked b.checked alike.one.bodies alike.other.bodies))
