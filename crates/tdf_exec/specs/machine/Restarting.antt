-- How the next period begins with a new plan, and how the modules begin again.
-- Source: own.
use Rattle.std.specs.Prelude.{◌≡◌, ◌<◌, ◌≤◌, ℕ, List, length, Some, slice_get}
use Rattle.tdf_dynamic_plans.specs.Attributes.{AttrsOf}
use Rattle.tdf_dynamic_plans.specs.Known.{AttrsTable}
use Rattle.tdf_dynamic_plans.specs.Rates.{net_of}
use Rattle.tdf_exec.specs.Cluster.{ClusterOf}
use Rattle.tdf_exec.specs.Crossing.{with_new_plan}
use Rattle.tdf_exec.specs.Runners.{ModuleOf}
use Rattle.tdf_exec.specs.declared.runners.Runner.{Runner}
use Rattle.tdf_exec.specs.declared.runners.Runner.TheVariants as runner
use Rattle.tdf_exec.specs.machine.Tracing.{AreNumbered, with_rates}
use Rattle.tdf_expr.specs.Made.{AreMadeFor}
use Rattle.tdf_expr.specs.Runs.{Ran}
use Rattle.tdf_expr.specs.declared.bodies.Body.TheVariants.{Reinitialize}
use Rattle.tdf_expr.specs.declared.checked.Checked.{Checked}
use Rattle.tdf_exec_firing.specs.Activation.{ports_before}
use Rattle.tdf_exec_firing.specs.Firing.{AreZerosBehind}
use Rattle.tdf_exec_firing.specs.Wires.{WiresOf}
use Rattle.tdf_bind.specs.declared.model.Flat.{Flat}
use Rattle.tdf_rings.specs.Carried.{AreCarried}
use Rattle.tdf_schedule.specs.declared.entry.Plan.{Plan}
use Rattle.tdf_expr_state.specs.State.{state_of}
use Rattle.tdf_streams.specs.Bodies.{nothing_read}
use Rattle.tdf_streams.specs.Periods.{read_rates, write_rates}

-- a module whose ports were set back, and whose reinitialize body has then run
pub record HasRestarted (checked : Checked) (x y : ModuleOf) : Type 0 where
  pub block : y.block ≡ x.block
  pub wires : y.wires ≡ x.wires
  pub traced : y.traced ≡ x.traced
  pub made : AreMadeFor checked x.block y.frame y.ports
  pub zeros : (wires : WiresOf) (reads : List ℕ) → AreZerosBehind wires reads y.ports
  pub ran : Ran checked x.block Reinitialize
      (state_of x.frame.state
      (ports_before x.ports.spans (length x.ports.state.notified) nothing_read))
      (state_of y.frame.state y.ports.state)

abbrev pub CanRestart : Flat → Runner → Type 0
CanRestart flat (runner.Module x) =
    AreMadeFor flat.checked x.block x.frame x.ports × AreNumbered flat.tables.ports x.traced
CanRestart flat _ = Unit {0}

-- the same of an actor, whose traced ports then have their rates under a table
abbrev pub IsRestarted : Flat → List AttrsOf → Runner → Runner → Type 0
IsRestarted flat table (runner.Module x) r = (y : ModuleOf) × (r ≡ runner.Module y)
    × HasRestarted flat.checked (with_rates flat.tables table x) y
IsRestarted flat table other r = r ≡ other

-- all actors have begun again
pub record AreRestarted (flat : Flat) (table : List AttrsOf) (old new : List Runner) : Type 0 where
  pub same : length new ≡ length old
  pub done : (m : ℕ) (r s : Runner) → slice_get old m ≡ Some r → slice_get new m ≡ Some s
      → IsRestarted flat table r s

-- the first n have; the others are as they were
pub record AreRestartedUpTo (flat : Flat) (table : List AttrsOf) (n : ℕ) (old new : List Runner)
    : Type 0 where
  pub same : length new ≡ length old
  pub done : (m : ℕ) (r s : Runner) → m < n → slice_get old m ≡ Some r → slice_get new m ≡ Some s
      → IsRestarted flat table r s
  pub waiting : (m : ℕ) → n ≤ m → slice_get new m ≡ slice_get old m

-- a cluster for which the new table and plan are in force, and whose modules have begun again
pub record HasReplaced (flat : Flat) (c : ClusterOf) (attrs : AttrsTable) (plan : Plan)
    (d : ClusterOf) : Type 0 where
  pub d_is : d ≡ with_new_plan c attrs plan d.reads d.writes d.rings d.runners
  pub reads_are : d.reads ≡ read_rates (net_of flat.tables attrs.rows)
  pub writes_are : d.writes ≡ write_rates (net_of flat.tables attrs.rows)
  pub carried : AreCarried plan.bounds.items c.rings d.rings
  pub restarted : AreRestarted flat attrs.rows c.runners d.runners
