-- The runners of a cluster at its start, by actor.
-- Source: own.
use Rattle.std.specs.List.{count_by}
use Rattle.std.specs.Prelude.{◌≡◌, ◌≢◌, ℕ, ◌<◌, ◌≤◌, Bool, true, List, [], ◌∷◌, length, Some, if◌then◌else◌, nat_eq, slice_get, slice_index, take, All}
use Rattle.tdf_bind_tables.specs.declared.actors.ActorRow.{ActorRow}
use Rattle.tdf_exec.specs.Made.{is_sampler_runner, sampler_runners_before}
use Rattle.tdf_exec.specs.Runners.{ModuleOf}
use Rattle.tdf_exec.specs.Starts.{BeginWithRates}
use Rattle.tdf_exec.specs.declared.runners.Runner.{Runner}
use Rattle.tdf_exec.specs.declared.runners.Runner.TheVariants as runner
use Rattle.tdf_expr.specs.Checked.{IsChecked, IsCheckedOf}
use Rattle.tdf_expr.specs.Made.{AreMadeFor, block_count, start_rates}
use Rattle.tdf_expr_state.specs.State.{FrameState}
use Rattle.tdf_exec_firing.specs.Firing.{AreZerosBehind}
use Rattle.tdf_exec_firing.specs.Wires.{WiresOf}
use Rattle.tdf_bind.specs.declared.model.Flat.{Flat}
use Rattle.tdf_exec_layout.specs.declared.wiring.ActorWires.{ActorWires}
use Rattle.tdf_exec_layout.specs.declared.wiring.ActorWires.TheVariants as wires
use Rattle.tdf_streams.specs.Bodies.{initialized}
use Rattle.tdf_streams.specs.Places.{block_at}
use Rattle.tdf_lang_tree.specs.Pure.{PureTree}

-- what the modules of a flat model have, so that their initialize bodies can run
pub record CanBegin (flat : Flat) : Type 0 where
  pub checked : IsChecked flat.checked
  pub blocks : All (λ row. row.block < block_count flat.checked) flat.tables.modules
  pub begin : BeginWithRates flat.checked

-- what the instance of a module holds at the start that the text says: the rates that it starts
-- with, and, where initialize bodies run, the values after its own
pub record HoldsText (flat : Flat) (begins : Bool) (m : ℕ) (s : FrameState) : Type 0 where
  pub rates : s.rates ≡ start_rates flat.checked (block_at flat.tables.modules m)
  pub cells : begins ≡ true → (model : PureTree) → IsCheckedOf model flat.checked → s.cells
      ≡ initialized model flat m (start_rates flat.checked (block_at flat.tables.modules m))

-- the instance of a module at a start: it holds what is asked for by its number
pub record IsBegun (flat : Flat) (Holds : ℕ → FrameState → Type 0) (m : ℕ) (wires : WiresOf)
    (x : ModuleOf) : Type 0 where
  pub block_is : x.block ≡ block_at flat.tables.modules m
  pub made : AreMadeFor flat.checked x.block x.frame x.ports
  pub wires_are : x.wires ≡ wires
  pub zeros : (reads : List ℕ) → AreZerosBehind x.wires reads x.ports
  pub held : Holds m x.frame.state

-- only modules of the model are told of wires
abbrev pub IsOfModule : Flat → ℕ → ActorWires → Type 0
IsOfModule flat m (wires.Module w) = m < length flat.tables.modules
IsOfModule flat m _ = Unit {0}

-- what is kept for an actor at first, by what it is told of its edges and the number of samplers
-- before it
abbrev pub IsFirstRunner : Flat → (ℕ → FrameState → Type 0) → (m place : ℕ) → ActorWires → Runner
    → Type 0
IsFirstRunner flat Holds m place (wires.Module w) (runner.Module x) = IsBegun flat Holds m w x
IsFirstRunner flat Holds m place (wires.Sampler edges) (runner.Sampler s) =
    (s.edges ≡ edges.items) × (s.place ≡ place)
IsFirstRunner flat Holds m place (wires.Sink edge) (runner.Sink k) = k.edge ≡ edge
IsFirstRunner flat Holds m place wires.Elsewhere runner.Outside = Unit {0}
IsFirstRunner flat Holds m place _ _ = ⊥

-- a runner for each of the first n actors
pub record AreFirstRunners (flat : Flat) (Holds : ℕ → FrameState → Type 0) (n : ℕ)
    (told : List ActorWires) (samplers : ℕ) (runners : List Runner) : Type 0 where
  pub long : length runners ≡ n
  pub counted : samplers ≡ count_by is_sampler_runner runners
  pub each : (m : ℕ) (w : ActorWires) (r : Runner) → slice_get told m ≡ Some w
      → slice_get runners m ≡ Some r
      → IsFirstRunner flat Holds m (sampler_runners_before runners m) w r

-- what the actors of a cluster are told of their edges; of actors of other clusters nothing is told
abbrev pub own_wire : (cluster : ℕ) → ActorRow → ActorWires → ActorWires
own_wire cluster row w = if nat_eq row.cluster cluster then w else wires.Elsewhere

abbrev pub own_wires : List ActorRow → (cluster : ℕ) → List ActorWires → List ActorWires
own_wires [] cluster ws = []
own_wires (row ∷ rows) cluster [] = []
own_wires (row ∷ rows) cluster (w ∷ ws) = own_wire cluster row w ∷ own_wires rows cluster ws

-- so far the actors of a cluster have taken what they are told, and all others' is still there
pub record AreTakenUpTo (flat : Flat) (Holds : ℕ → FrameState → Type 0) (cluster n : ℕ)
    (old new : List ActorWires) (samplers : ℕ) (runners : List Runner) : Type 0 where
  pub first : AreFirstRunners flat Holds n (own_wires flat.tables.actors cluster old) samplers
      runners
  pub same : length new ≡ length old
  pub left : (m : ℕ) → n ≤ m → slice_get new m ≡ slice_get old m
  pub others : (m : ℕ) (row : ActorRow) → slice_get flat.tables.actors m ≡ Some row
      → row.cluster ≢ cluster → slice_get new m ≡ slice_get old m

-- the actors with the first i of these numbers have done so: they are the cluster's below a place,
-- and from there on nothing is kept yet
pub record AreTakenBy (flat : Flat) (Holds : ℕ → FrameState → Type 0) (cluster : ℕ)
    (numbers : List ℕ) (i : ℕ) (old new : List ActorWires) (samplers : ℕ) (runners : List Runner)
    : Type 0 where
  pub place : ℕ
  pub low : (j : ℕ) → j < i → slice_index numbers j < place
  pub high : (j : ℕ) → i ≤ j → j < length numbers → place ≤ slice_index numbers j
  pub long : length runners ≡ length old
  pub taken : AreTakenUpTo flat Holds cluster place old new samplers (take place runners)
  pub rest : (m : ℕ) → place ≤ m → m < length runners
      → slice_get runners m ≡ Some runner.Outside
