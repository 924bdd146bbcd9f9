-- What holds of the resolved blocks of each model.
-- Source: own.
use Rattle.std.specs.Prelude.{◌≡◌, ◌-◌, ◌≤◌, false, List, [], length, filter_map}
use Rattle.tdf_base.specs.Limits.{most_instances, most_signals}
use Rattle.tdf_bind_ports.specs.Links.{link_faults}
use Rattle.tdf_bind_ports.specs.Ports.{ports_of_composite}
use Rattle.tdf_bind_names.specs.Counts.{is_too_many}
use Rattle.tdf_bind_names.specs.Resolved.{AreResolved}
use Rattle.tdf_lang_tree.specs.Pure.{PureTree}
use Rattle.tdf_bind_hierarchy.specs.Blocks.{BlockOf}
use Rattle.tdf_bind_hierarchy.specs.Bound.{AreBound}
use Rattle.tdf_bind_hierarchy.specs.Laws.{AreEarlier}
use Rattle.tdf_bind_hierarchy.specs.Met.{Met, met_in}
use Rattle.tdf_bind_hierarchy.specs.Tables.{met_instance, met_signal}

-- each instance is of a block before the one that it is in
abbrev pub RefersBack : Type 0
RefersBack = (model : PureTree) (blocks : List BlockOf) → AreResolved model blocks
    → AreEarlier blocks

-- where no `bind` and no `instance` line is at fault, and `top` has no port, all ports are bound
abbrev pub BindsAll : Type 0
BindsAll = (model : PureTree) (blocks : List BlockOf) → AreResolved model blocks
    → link_faults model ≡ [] → ports_of_composite model.top ≡ []
    → AreBound blocks (length blocks - 1)

-- a model has no more signals and instances than there may be
pub record HasFew (met : List Met) : Type 0 where
  pub signals : length (filter_map met_signal met) ≤ most_signals
  pub instances : length (filter_map met_instance met) ≤ most_instances

-- what holds no more than there may be has few signals and instances
abbrev pub CountsAll : Type 0
CountsAll = (model : PureTree) (blocks : List BlockOf) → AreResolved model blocks
    → is_too_many model blocks ≡ false → HasFew (met_in blocks (length blocks - 1))
