-- A history in two parts.
-- Source: own.
use Rattle.std.specs.Prelude.{◌≡◌, ◌+◌, ◌<◌, ℕ, false}
use Rattle.tdf_bind.specs.declared.model.Flat.{Flat}
use Rattle.tdf_events.specs.Side.{SideOf}
use Rattle.tdf_lang_tree.specs.Pure.{PureTree}
use Rattle.tdf_sim_history.specs.History.{On, history}
use Rattle.tdf_sim_history.specs.Rules.{world_engine}
use Rattle.tdf_sim_history.specs.World.{World}

-- nothing is due before a time
abbrev pub IsWorldQuiet : PureTree → Flat → World SideOf → (time : ℕ) → Type 0
IsWorldQuiet model flat w time = (t : ℕ) → t < time → (world_engine model flat).is_due w t ≡ false

-- a history is that up to a time and then that from there
abbrev pub HistorySplits : Type 0
HistorySplits = (model : PureTree) (flat : Flat) (from : ℕ) (start w : World SideOf) (a b : ℕ)
    → history (world_engine model flat) from start a ≡ On w
    → history (world_engine model flat) from start (a + b)
    ≡ history (world_engine model flat) (from + a) w b

-- and it is one from time 0 on, where nothing is due before the time at which it begins
abbrev pub QuietIsFromZero : Type 0
QuietIsFromZero = (model : PureTree) (flat : Flat) (from : ℕ) (w : World SideOf) (b : ℕ)
    → IsWorldQuiet model flat w from
    → history (world_engine model flat) 0 w (from + b)
    ≡ history (world_engine model flat) from w b
