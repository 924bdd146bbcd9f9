-- The streams of a cluster, and how they start, are the same by compiled bodies of one text.
use Rattle.std.proofs.Common.{◌≡◌, ◌∙◌, ℕ, List, [], ◌∷◌, Option, Some, if◌then◌else◌, length, map, slice_get, refl, ap}
use Rattle.std.specs.List.{range_with_len}
use Rattle.std.specs.Prelude.{ℤ}
use Rattle.tdf_sim_unique.proofs.Checks.{AreSame}
use Rattle.tdf_dynamic_plans.specs.Attributes.{AttrsOf, attrs_at, rates_in}
use Rattle.tdf_expr.specs.Blocks.{blocks_of}
use Rattle.tdf_expr.specs.declared.bodies.Body.{Body}
use Rattle.tdf_expr.specs.declared.bodies.Body.TheVariants as body
use Rattle.tdf_expr.specs.declared.checked.Checked.{Checked}
use Rattle.tdf_exec_firing.specs.Activation.{ports_before, assigned_sample}
use Rattle.tdf_fixed.specs.declared.raw.Raw.{Raw}
use Rattle.tdf_bind.specs.declared.model.Flat.{Flat}
use Rattle.tdf_graph.specs.declared.actors.Actor.{Actor}
use Rattle.tdf_graph.specs.declared.actors.Actor.TheVariants as actor
use Rattle.tdf_expr_state.specs.State.{State, state_of}
use Rattle.tdf_streams.specs.Bodies.{module_acted, activation, after_part, changed, done_by, initialized, nothing_read, module_rates, reinitialized, written_by}
use Rattle.tdf_streams.specs.Cluster.{Start, cluster_net, text_start}
use Rattle.tdf_streams.specs.Periods.{PeriodInfo, PeriodRecord}
use Rattle.tdf_streams.specs.Places.{actor_kind, block_at, has_changes, place_of_port, read_through}
use Rattle.tdf_lang_tree.specs.Pure.{PureTree}

-- a flat model with other compiled bodies
abbrev pub with_bodies : Flat → Checked → Flat
with_bodies flat y = record flat { checked = y }

module _ (model : PureTree) (a : Flat) (y : Checked) (same : AreSame a.checked y) where
  pub done_same : (m : ℕ) (part : Body) (cells : List ℤ) (rates : List ℕ) (read : ℕ → List Raw)
      → done_by model a m part cells rates read ≡ done_by model (with_bodies a y) m part cells rates read
  unfolding done_by
  done_same m part cells rates read = λ i. after_part model (slice_get (blocks_of model.globals) (block_at a.tables.modules m)) part
      (state_of (record { cells = cells; rates = rates })
      (ports_before (same.spans (block_at a.tables.modules m) i) (same.events (block_at a.tables.modules m) i) read))

  written_same : (m : ℕ) (done : State) → written_by a m done ≡ written_by (with_bodies a y) m done
  written_same m done = λ i. record {
    state = done.frame.cells;
    outputs = λ port k. assigned_sample (same.spans (block_at a.tables.modules m) i) done.ports.samples (place_of_port a.tables.ports port) k;
  }

  activation_same : (m : ℕ) (info : PeriodInfo) (cells : List ℤ) (inputs : List (List Raw)) → activation model a m info cells inputs ≡ activation model (with_bodies a y) m info cells inputs
  activation_same m info cells inputs =
      let read : ℕ → List Raw = read_through a.tables.ports m a.tables.edges inputs in
      ap (written_by a m) (done_same m body.Processing cells (module_rates info m) read)
      ∙ written_same m (done_by model (with_bodies a y) m body.Processing cells (module_rates info m) read)

  acted_same : (m : ℕ) (kind : Option Actor) (info : PeriodInfo) (cells : List ℤ) (inputs : List (List Raw)) → module_acted model a m kind info cells inputs ≡ module_acted model (with_bodies a y) m kind info cells inputs
  acted_same m (Some actor.Module) info cells inputs = activation_same m info cells inputs
  acted_same m _ info cells inputs = refl

  changed_same : (m : ℕ) (periods : List PeriodRecord) (cells : List ℤ) → changed model a m periods cells ≡ changed model (with_bodies a y) m periods cells
  changed_same m [] cells = refl
  changed_same m (p ∷ []) cells = ap (λ (s : State). if has_changes a.tables.modules m then s.frame.cells else cells) (done_same m body.Change cells (module_rates p.info m) nothing_read)
  changed_same m (p ∷ (q ∷ ps)) cells = changed_same m (q ∷ ps) cells

  reinitialized_same : (m : ℕ) (info : PeriodInfo) (cells : List ℤ) → reinitialized model a m info cells ≡ reinitialized model (with_bodies a y) m info cells
  reinitialized_same m info cells = ap (λ (s : State). if info.is_new then s.frame.cells else cells) (done_same m body.Reinitialize cells (module_rates info m) nothing_read)

  pub initialized_same : (m : ℕ) (rates : List ℕ) → initialized model a m rates ≡ initialized model (with_bodies a y) m rates
  initialized_same m rates = λ i. (done_same m body.Initialize (same.cells (block_at a.tables.modules m) i) rates nothing_read i).frame.cells

  pub net_same : (cluster : ℕ) (start : Start) → cluster_net model a cluster start ≡ cluster_net model (with_bodies a y) cluster start
  net_same cluster start = λ i. record (cluster_net model a cluster start) {
    change = λ m periods cells. changed_same m periods cells i;
    reinitialize = λ m p cells. reinitialized_same m p.info cells i;
    process = λ m p cells inputs. acted_same m (actor_kind a.tables m) p.info cells inputs i;
  }

  pub start_same : (cluster : ℕ) (table : List AttrsOf) → text_start model a cluster table ≡ text_start model (with_bodies a y) cluster table
  start_same cluster table = λ i. record (text_start model a cluster table) {
    cells = map (λ m. initialized_same m (rates_in (attrs_at table m)) i) (range_with_len 0 (length a.tables.modules));
  }
