-- Which numbers of a net are in range.
-- Source: own.
use Rattle.std.specs.Prelude.{ℕ, ◌<◌, ◌≤◌, ◌*◌, List, All}
use Rattle.tdf_base.specs.Limits.{greatest_rate, greatest_delay}
use Rattle.tdf_graph.specs.declared.actors.Edge.{Edge}
use Rattle.tdf_graph.specs.declared.actors.Port.{Port}

pub record IsRate (rate : ℕ) : Type 0 where
  pub some : 1 ≤ rate
  pub few : rate ≤ greatest_rate

-- an edge between actors below `count`; the delays of its two ports give its initial samples
pub record IsEdge (count : ℕ) (edge : Edge) : Type 0 where
  pub writer : edge.writer < count
  pub reader : edge.reader < count
  pub writes : IsRate edge.write_rate
  pub reads : IsRate edge.read_rate
  pub starts : edge.initial ≤ 2 * greatest_delay

pub record IsGraphPort (count : ℕ) (port : Port) : Type 0 where
  pub actor : port.actor < count
  pub rate : IsRate port.rate

pub record IsGraphInRange (count : ℕ) (edges : List Edge) (ports : List Port) : Type 0 where
  pub edges_fit : All (IsEdge count) edges
  pub ports_fit : All (IsGraphPort count) ports
