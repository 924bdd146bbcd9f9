-- What a model holds of each kind that there is a limit for, over all instances at all depths.
-- Source: own.
use Rattle.std.specs.Prelude.{ℕ, ◌+◌, ◌-◌, Bool, true, false, ◌||◌, if◌then◌else◌, nat_lt, List, [], ◌∷◌, length, slice_index}
use Rattle.std.specs.List.{flat_map, sum_by}
use Rattle.tdf_base.specs.Limits.{most_cells, most_events, most_instances, most_ports, most_processes, most_signals}
use Rattle.tdf_bind_names.specs.Resolved.{whole}
use Rattle.tdf_bind_names.specs.declared.measures.Measure.{Measure}
use Rattle.tdf_bind_names.specs.declared.measures.Measure.TheVariants as measure
use Rattle.tdf_lang_tree.specs.Pure.{PureStore, SConst, SVar, SArray, PureTdfLine, TPort, TStore, TRate, PureDeLine, DPort, DStore, DEvent, PureTdf, PureDe, PureGlobal, GShape, GTdf, GDe, GNet, PureTree}
use Rattle.tdf_bind_hierarchy.specs.Blocks.{BlockOf}
use Rattle.tdf_bind_hierarchy.specs.Met.{Met, MetSignal, MetInstance, met_in}

-- the cells of a store: an array has one for each element
abbrev pub store_cells : PureStore → ℕ
store_cells (SConst line name x value) = 1
store_cells (SVar line name x start) = 1
store_cells (SArray line name x size starts) = size

abbrev pub tdf_line_weight : Measure → PureTdfLine → ℕ
tdf_line_weight measure.Ports (TPort port) = 1
tdf_line_weight measure.Cells (TStore store) = store_cells store
tdf_line_weight measure.Cells (TRate line name least greatest start) = 1
tdf_line_weight _ _ = 0

abbrev pub de_line_weight : Measure → PureDeLine → ℕ
de_line_weight measure.Ports (DPort port) = 1
de_line_weight measure.Cells (DStore store) = store_cells store
de_line_weight measure.Events (DEvent line name) = 1
de_line_weight _ _ = 0

abbrev pub processes_weight : Measure → ℕ → ℕ
processes_weight measure.Processes count = count
processes_weight _ count = 0

-- what each instance is by itself
abbrev pub instance_weight : Measure → ℕ
instance_weight measure.Instances = 1
instance_weight _ = 0

abbrev pub tdf_weight : Measure → PureTdf → ℕ
tdf_weight m block = instance_weight m + sum_by (tdf_line_weight m) block.decls

abbrev pub de_weight : Measure → PureDe → ℕ
de_weight m block =
    instance_weight m
    + (sum_by (de_line_weight m) block.decls + processes_weight m (length block.processes))

-- what an instance of a block adds, but for what is inside it: ports of composites are not counted
abbrev pub weight_of : Measure → PureGlobal → List ℕ
weight_of m (GShape t) = []
weight_of m (GTdf block) = tdf_weight m block ∷ []
weight_of m (GDe block) = de_weight m block ∷ []
weight_of m (GNet block) = instance_weight m ∷ []

abbrev pub weights_of : Measure → PureTree → List ℕ
weights_of m model = flat_map (weight_of m) (whole model)

-- signals of both kinds count together
abbrev pub counts_signals : Measure → Bool
counts_signals measure.Signals = true
counts_signals _ = false

-- what a signal or an instance of a model adds, by the weights of the blocks
abbrev pub met_weight : (signals : Bool) → (weights : List ℕ) → Met → ℕ
met_weight signals weights (MetSignal signal) = if signals then 1 else 0
met_weight signals weights (MetInstance instance) = slice_index weights instance.block

-- what a model holds: all that is inside `top`, its last block
abbrev pub total_of : Measure → PureTree → List BlockOf → ℕ
total_of m model blocks =
    sum_by (met_weight (counts_signals m) (weights_of m model)) (met_in blocks (length blocks - 1))

abbrev pub limit_of : Measure → ℕ
limit_of measure.Instances = most_instances
limit_of measure.Ports = most_ports
limit_of measure.Signals = most_signals
limit_of measure.Cells = most_cells
limit_of measure.Processes = most_processes
limit_of measure.Events = most_events

abbrev pub is_past : Measure → PureTree → List BlockOf → Bool
is_past m model blocks = nat_lt (limit_of m) (total_of m model blocks)

-- whether a model holds more of some kind than there may be
abbrev pub is_too_many : PureTree → List BlockOf → Bool
is_too_many model blocks =
    is_past measure.Instances model blocks || is_past measure.Ports model blocks
    || is_past measure.Signals model blocks || is_past measure.Cells model blocks
    || is_past measure.Processes model blocks || is_past measure.Events model blocks
