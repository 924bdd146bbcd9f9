-- What samplers read by their links, and what sinks write by theirs.
-- Source: own; samplers and sinks after IEEE 1666.1-2016, converter ports of TDF modules.
use Rattle.std.specs.Prelude.{◌≡◌, ℕ, List, All, length, map}
use Rattle.tdf_convert.specs.Emitted.{write_of_sent}
use Rattle.tdf_convert.specs.Links.{samplers_in}
use Rattle.tdf_convert.specs.Sampled.{AreSampled}
use Rattle.tdf_convert.specs.declared.links.Link.{Link}
use Rattle.tdf_convert.specs.declared.outputs.Sent.{Sent}
use Rattle.tdf_sim_history.specs.Below.{AreOfSignals, AreWritesOf, signal_formats}
use Rattle.tdf_exec.specs.Cluster.{ClusterOf}
use Rattle.tdf_exec.specs.Gained.{IsSentOf}
use Rattle.tdf_exec.specs.Made.{IsClusterOf}
use Rattle.tdf_exec.specs.Played.{AreInputsFor}
use Rattle.tdf_fixed.specs.declared.raw.Raw.{Raw}
use Rattle.tdf_bind.specs.Flat.{IsFlatOf}
use Rattle.tdf_bind.specs.declared.model.Flat.{Flat}
use Rattle.tdf_bind_invariants.specs.Formats.{IsSoundModel}
use Rattle.tdf_sim_refinement.specs.Linked.{AreSamplerLinks, AreSinkLinks, HaveEventPorts}
use Rattle.tdf_sim_refinement.specs.At.{AreSettled}
use Rattle.tdf_sim_refinement.specs.Firings.{write_of as history_write_of}
use Rattle.tdf_lang_tree.specs.Pure.{PureTree}
use Rattle.tdf_sim_history.specs.Rules.{signal_write}

-- the converter ports of a flat model have event signals
abbrev pub PortsHaveEvents : Type 0
PortsHaveEvents = (model : PureTree) (flat : Flat) → IsSoundModel model → IsFlatOf model flat
    → HaveEventPorts flat.tables

-- samplers that were given the values of their signals have read what the history says, and the
-- cluster can fire with that
abbrev pub SamplersReadSignals : Type 0
SamplersReadSignals = (model : PureTree) (flat : Flat) (c : ClusterOf) (links : List Link)
    → (offset : ℕ) (values old new : List Raw) → IsSoundModel model → IsFlatOf model flat
    → IsClusterOf flat c → AreSamplerLinks flat.tables c.number links
    → length old ≡ samplers_in links → AreOfSignals (signal_formats flat) values
    → AreSampled c.entries offset links values old new
    → AreSettled flat.tables values offset c new × AreInputsFor flat offset c new

-- what sinks sent goes to the signals that the history says, in their formats
abbrev pub SinksWriteSignals : Type 0
SinksWriteSignals = (model : PureTree) (flat : Flat) (links : List Link) (sent : List Sent)
    → IsSoundModel model → IsFlatOf model flat → AreSinkLinks flat.tables links
    → All (IsSentOf flat.tables) sent
    → (map (write_of_sent links) sent ≡ map signal_write (map (history_write_of flat.tables) sent))
    × AreWritesOf (signal_formats flat) (map (write_of_sent links) sent)
