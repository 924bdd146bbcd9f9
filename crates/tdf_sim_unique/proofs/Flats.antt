-- A history goes by two flat models of one model in one way, and has the same snapshots by both.
use Rattle.std.proofs.Common.{◌≡◌, ◌∙◌, ℕ, ◌+◌, ◌-◌, Bool, List, Option, None, Some, refl, sym, subst}
use Rattle.std.specs.List.{flat_map, range_with_len}
use Rattle.std.specs.Prelude.{ℤ, slice_get, slice_index}
use Rattle.tdf_bind.specs.declared.model.Flat.{Flat}
use Rattle.tdf_bind_connections.specs.declared.traces.TraceRow.{TraceRow}
use Rattle.tdf_dynamic_plans.specs.Attributes.{clusters_of}
use Rattle.tdf_events.specs.Side.{SideOf}
use Rattle.tdf_expr.specs.declared.checked.Checked.{Checked}
use Rattle.tdf_fixed.specs.declared.raw.Raw.{Raw}
use Rattle.tdf_lang_tree.specs.Pure.{PureTree}
use Rattle.tdf_saved.specs.State.{ClusterStateOf, ColumnStateOf, SnapshotOf}
use Rattle.tdf_sim_history.specs.Cells.{column_spans, driver_of_row, run_cells, samples_done}
use Rattle.tdf_sim_history.specs.Columns.{ColumnStart, start_of}
use Rattle.tdf_sim_history.specs.Instant.{periods_of, run_in}
use Rattle.tdf_sim_history.specs.Rules.{rules_of}
use Rattle.tdf_sim_history.specs.Texts.{state_at}
use Rattle.tdf_sim_history.specs.World.{ClusterAt, World}
use Rattle.tdf_sim_resumed.specs.Snapshot.{IsRowsFrom, IsSavedCluster, IsSavedColumn, IsSnapshot, later_of, number_of_sample}
use Rattle.tdf_sim_resumed.specs.Starting.{Tracked, tracked_of}
use Rattle.tdf_sim_unique.proofs.Answers.{answers_same}
use Rattle.tdf_sim_unique.proofs.Bodies.{net_same, with_bodies}
use Rattle.tdf_sim_unique.proofs.Cells.{cells_same, sample_same}
use Rattle.tdf_sim_unique.proofs.Checks.{AreSame, are_same}
use Rattle.tdf_sim_unique.proofs.Events.{rules_same}
use Rattle.tdf_sim_unique.proofs.Instants.{history_same}
use Rattle.tdf_sim_unique.proofs.News.{news_same}
use Rattle.tdf_sim_unique.specs.PartLaws.{AreFlatsAlike, FlatsGoAsOne, FlatsHaveSnapshots, GoAsOne}
use Rattle.tdf_streams.specs.Net.{Net}
use Rattle.tdf_streams.specs.Periods.{PeriodInfo}
use Rattle.tdf_streams.specs.Stands.{Stands}
use Rattle.tdf_trace_rows.specs.Positions.{count_of_spans}
use Rattle.tdf_trace_rows.specs.Rows.{Cells}

-- what holds with other compiled bodies of the text holds of the other flat model
pub moved : (model : PureTree) (a b : Flat) (P : Flat → Type 0) → AreFlatsAlike model a b → P (with_bodies a b.checked) → P b
moved model a b P alike = subst P (λ i. record { tables = alike.tables i; checked = b.checked; resolution = alike.unit i })

pub bodies_of : (model : PureTree) (a b : Flat) → AreFlatsAlike model a b → AreSame a.checked b.checked
bodies_of model a b alike = are_same model a.checked b.checked alike.one.bodies alike.other.bodies

module _ (model : PureTree) (a : Flat) (y : Checked) (same : AreSame a.checked y) where
  module _ (start : World SideOf) (stop : ℕ) where
    state_same : state_at model a (rules_of model a) start stop ≡ state_at model (with_bodies a y) (rules_of model (with_bodies a y)) start stop
    state_same = λ i. history_same model a y same (rules_same model a y same i) start stop i

    run_same : run_cells model a (rules_of model a) start stop ≡ run_cells model (with_bodies a y) (rules_of model (with_bodies a y)) start stop
    run_same = λ i. cells_same model a y same (rules_same model a y same i) start stop i

    go_as_one : GoAsOne model a (with_bodies a y) start stop
    go_as_one = record {
      state = state_same;
      cells = run_same;
      notes = λ i. news_same model a y same (rules_same model a y same i) start stop i;
      answers = answers_same model a y same (rules_of model a) (rules_of model (with_bodies a y)) start start stop (rules_same model a y same) refl;
    }

  cluster_same : (number time : ℕ) (h : ClusterAt) (s : ClusterStateOf) → IsSavedCluster model a number time h s → IsSavedCluster model (with_bodies a y) number time h s
  cluster_same number time h s is = record {
    start = is.start;
    play = is.play;
    steps = is.steps;
    turns = is.turns;
    actors = is.actors;
    stands = subst (λ (net : Net (List ℤ) Raw PeriodInfo). Stands net h.old h.now (run_in h).reads is.steps is.play) (net_same model a y same number h.begun) is.stands;
    modules = is.modules;
    edges = is.edges;
    done = is.done;
    own = is.own;
  }

  later_same : (s : ColumnStart) (x : Option Tracked) (driver : Option ℕ) → later_of model a s x driver ≡ later_of model (with_bodies a y) s x driver
  later_same s None driver = refl
  later_same s (Some x) None = refl
  later_same s (Some x) (Some number) = λ i. flat_map (λ j. number_of_sample (sample_same model a y same (slice_index (clusters_of a.tables) x.port.«module») x.cluster s x.port number j i))
      (range_with_len (count_of_spans (column_spans x.port s x.cluster.origin (periods_of x.cluster)))
      (samples_done s x.port x.cluster - count_of_spans (column_spans x.port s x.cluster.origin (periods_of x.cluster))))

  column_same : (start w : World SideOf) (cells others : Cells) → cells ≡ others → (rows time column : ℕ) (row : TraceRow) (s : ColumnStateOf)
      → IsSavedColumn model a start w cells rows time column row s → IsSavedColumn model (with_bodies a y) start w others rows time column row s
  column_same start w cells others shown rows time column row s is = subst (λ (c : Cells). IsSavedColumn model (with_bodies a y) start w c rows time column row s) shown (record {
    carry = is.carry;
    samples = is.samples;
    later = is.later ∙ later_same (start_of start.shown column) (tracked_of a.tables w.clusters row) (driver_of_row (slice_get a.tables.signals row.signal));
  })

  snapshot_same : (start w : World SideOf) (time budget : ℕ) (vcd : Bool) (s : SnapshotOf) → IsSnapshot model a start w time budget vcd s → IsSnapshot model (with_bodies a y) start w time budget vcd s
  snapshot_same start w time budget vcd s is = record {
    reached = sym (state_same start time) ∙ is.reached;
    vcd_is = is.vcd_is;
    time_is = is.time_is;
    used_is = is.used_is;
    budget_is = is.budget_is;
    clusters = record { same = is.clusters.same; each = λ n h c at there. cluster_same (n + 1) time h c (is.clusters.each n h c at there) };
    side = record {
      is = is.side.is;
      before = record {
        values = is.side.before.values;
        frames = is.side.before.frames;
        times = is.side.before.times;
        triggered = is.side.before.triggered;
        waiting = is.side.before.waiting;
        none = is.side.before.none;
        idle = is.side.before.idle;
      };
    };
    columns = record {
      rows = is.columns.rows;
      rows_are = subst (λ (c : Cells). IsRowsFrom c time is.columns.rows) (run_same start time) is.columns.rows_are;
      same = is.columns.same;
      each = λ n row c at there. column_same start w (run_cells model a (rules_of model a) start time) (run_cells model (with_bodies a y) (rules_of model (with_bodies a y)) start time) (run_same start time)
          is.columns.rows time n row c (is.columns.each n row c at there);
    };
  }

pub flats_go_as_one : FlatsGoAsOne
flats_go_as_one model a b start stop alike = moved model a b (λ flat. GoAsOne model a flat start stop) alike (go_as_one model a b.checked (bodies_of model a b alike) start stop)

pub flats_have_snapshots : FlatsHaveSnapshots
flats_have_snapshots model a b start w time budget vcd s alike is =
    moved model a b (λ flat. IsSnapshot model flat start w time budget vcd s) alike (snapshot_same model a b.checked (bodies_of model a b alike) start w time budget vcd s is)
