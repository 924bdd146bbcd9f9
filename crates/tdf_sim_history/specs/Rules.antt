-- By which rules a model runs: its event side, and how it starts.
-- Source: own; the event side after IEEE 1666-2011, 4.2.1.2 to 4.2.1.5.
use Rattle.std.specs.List.{list_any}
use Rattle.std.specs.Prelude.{ℕ, Bool, ◌||◌, not, Option, option_map, List, map}
use Rattle.tdf_convert.specs.declared.writes.SignalWrite.{SignalWrite}
use Rattle.tdf_events.specs.Delta.{event_part, is_due, is_idle}
use Rattle.tdf_events.specs.Side.{SideOf, start_side}
use Rattle.tdf_dynamic.specs.Below.{First, Flat}
use Rattle.tdf_sim_history.specs.Instant.{RunFault, engine}
use Rattle.tdf_sim_history.specs.Start.{first_world}
use Rattle.tdf_sim_history.specs.World.{Change, EventSide, Rules, Settled, SinkWrite, World}
use Rattle.tdf_sim_history.specs.History.{Engine}
use Rattle.tdf_lang_tree.specs.Pure.{PureTree}

-- what a sink wrote, as the event side takes it
abbrev pub signal_write : SinkWrite → SignalWrite
signal_write write = record { signal = write.signal; value = write.value }

-- the event part of an instant, with what sinks wrote, within so many turns
abbrev pub settle : PureTree → Flat → (time : ℕ) → List SinkWrite → (left : ℕ) → SideOf
    → Option (Settled SideOf)
settle model flat time writes left side =
    option_map (λ (after : SideOf × ℕ). record { events = after.0; left = after.1 })
    (event_part model flat time (map signal_write writes) side left)

-- a process is to run, or a notification of this time is pending
abbrev pub is_side_due : SideOf → (time : ℕ) → Bool
is_side_due side time = not (is_idle side) || list_any (is_due time) side.notices.times

abbrev pub event_side : PureTree → Flat → EventSide SideOf
event_side model flat = record {
  values = λ side. side.values;
  is_due = is_side_due;
  settle = settle model flat;
}

abbrev pub rules_of : PureTree → Flat → Rules SideOf
rules_of model flat = record { event_side = event_side model flat }

-- how it starts, with what is told of the boundaries of each cluster, and with so many turns
abbrev pub start_world : PureTree → Flat → List First → (ahead : List (List Change))
    → (turns : ℕ) → World SideOf
start_world model flat firsts ahead turns =
    first_world model flat firsts ahead (start_side flat) turns

abbrev pub world_engine : PureTree → Flat → Engine (World SideOf) RunFault
world_engine model flat = engine model flat (rules_of model flat)
