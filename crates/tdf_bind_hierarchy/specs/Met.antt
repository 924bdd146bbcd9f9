-- What a model holds, in preorder: of a block its signals in order, then its instances in order,
-- each followed by what is inside it.
-- Source: own.
use Rattle.std.specs.Prelude.{ℕ, zero, suc, List, [], ◌∷◌, ◌++◌, length, map, Option, Some, None, slice_get, slice_index_or, flat_map}
use Rattle.tdf_bind_hierarchy.specs.Blocks.{InstanceOf, BlockOf}
use Rattle.tdf_bind_hierarchy.specs.Paths.{path_in}
use Rattle.tdf_bind_hierarchy.specs.declared.blocks.SignalLine.{SignalLine}
use Rattle.tdf_bind_hierarchy.specs.declared.blocks.Target.{Target}
use Rattle.tdf_bind_hierarchy.specs.declared.blocks.Target.TheVariants.{Own, Outer}
use Rattle.tdf_bind_hierarchy.specs.declared.tables.Signal.{Signal}

-- an instance at its place in the model; `reached` is the signal that each of its ports reaches,
-- `None` at a port that is not bound
pub record PlacedInstance : Type 0 where
  pub path : List ℕ
  pub block : ℕ
  pub reached : List (Option Signal)

pub data Met : Type 0 where
  MetSignal : (signal : Signal) → Met
  MetInstance : (instance : PlacedInstance) → Met

-- the signal that a line of a composite declares; `path` is the path of the composite,
-- `None` that of the whole model
abbrev pub placed_signal : Option (List ℕ) → SignalLine → Signal
placed_signal path line = record {
  event = line.event;
  path = path_in path line.name;
  format = line.format;
  start = line.start;
}

-- the signal that a target reaches, where the ports of the composite reach `outer`
abbrev pub reached_by : Option (List ℕ) → BlockOf → List (Option Signal) → Target → Option Signal
reached_by path composite outer (Own signal) =
    slice_get (map (placed_signal path) composite.signals) signal
reached_by path composite outer (Outer port) = slice_index_or outer port None

-- an instance of a composite at its place
abbrev pub placed : Option (List ℕ) → BlockOf → List (Option Signal) → InstanceOf → PlacedInstance
placed path composite outer instance = record {
  path = path_in path instance.name;
  block = instance.block;
  reached = map (reached_by path composite outer) instance.targets;
}

-- what is inside a block, by its number, its path and what its ports reach
abbrev pub InsideOf : Type 0
InsideOf = ℕ → Option (List ℕ) → List (Option Signal) → List Met

-- an instance, then what is inside it
abbrev pub with_inside : InsideOf → PlacedInstance → List Met
with_inside within instance =
    MetInstance instance ∷ within instance.block (Some instance.path) instance.reached

-- what is in a block, if it is there: its signals, then its instances with what is inside them
abbrev pub in_block : InsideOf → Option BlockOf → Option (List ℕ) → List (Option Signal) → List Met
in_block within None path outer = []
in_block within (Some block) path outer =
    map (λ line. MetSignal (placed_signal path line)) block.signals
    ++ flat_map (λ instance. with_inside within (placed path block outer instance)) block.instances

-- what is inside a block, `depth` levels deep
abbrev pub inside : List BlockOf → ℕ → InsideOf
inside blocks zero block path outer = []
inside blocks (suc depth) block path outer =
    in_block (λ inner. inside blocks depth inner) (slice_get blocks block) path outer

-- what the whole model holds, where `top` is the number of its outermost block:
-- no model is deeper than its number of blocks
abbrev pub met_in : List BlockOf → ℕ → List Met
met_in blocks top = inside blocks (length blocks) top None []
