-- The values of event signals of a history are of their formats.
-- Source: own.
use Rattle.std.specs.Prelude.{◌≤◌, ℕ}
use Rattle.tdf_bind.specs.declared.model.Flat.{Flat}
use Rattle.tdf_events.specs.Runnable.{AreOfSignals, signal_formats}
use Rattle.tdf_events.specs.Side.{SideOf}
use Rattle.tdf_lang_tree.specs.Pure.{PureTree}
use Rattle.tdf_sim_history.specs.Cells.{world_before}
use Rattle.tdf_sim_history.specs.Rules.{rules_of}
use Rattle.tdf_sim_history.specs.World.{World}

-- at each time up to one the event signals of a history have values of their formats
abbrev pub AreInFormatsTo : PureTree → Flat → (start : World SideOf) → (time : ℕ) → Type 0
AreInFormatsTo model flat start time = (t : ℕ) → t ≤ time → AreOfSignals (signal_formats flat)
    (world_before model flat (rules_of model flat) start t).events.values
