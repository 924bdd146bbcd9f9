-- What the maps of the code have, by names.
-- Source: own.
use Rattle.indexmap.specs.IndexMap.{get_by}
use Rattle.std.specs.Cmp.Lexicographic.{pointwise}
use Rattle.std.specs.List.{list_any}
use Rattle.std.specs.Option.{option_map, option_or}
use Rattle.std.specs.Prelude.{ℕ, Bool, nat_eq, cond, List, Option, Some, None}
use Rattle.tdf_lang_tree.specs.Pure.{PureGlobal, GShape}
use Rattle.tdf_lang_tree.specs.declared.blocks.Member.{Member}
use Rattle.tdf_lang_tree.specs.declared.blocks.Member.TheVariants as member
use Rattle.tdf_lang_tree.specs.declared.shapes.Shape.{Shape}
use Rattle.tdf_stim.specs.Signals.{SourceOf, shape_by, signal_named, source_of}
use Rattle.tdf_stim.specs.declared.names.Names.{Names}
use Rattle.tdf_stim.specs.declared.signals.Signal.{Signal}
use Rattle.tdf_stim.specs.declared.signals.Signals.{Signals}
use Rattle.tdf_stim.specs.declared.signals.Source.{Source}
use Rattle.tdf_stim.specs.declared.types.Types.{Types}

-- what stands for `other` where this is put for a name: of equal names the first stands
abbrev pub put : {V : Type 0} → (name : List ℕ) → V → (other : List ℕ) → Option V → Option V
put name value other before =
    option_or before (cond (pointwise nat_eq name other) (Some value) None)

abbrev pub found_type : Types → (name : List ℕ) → Option Shape
found_type types name = get_by (λ k. pointwise nat_eq name k.now) types.map

abbrev pub type_of : (name : List ℕ) → PureGlobal → Option Shape
type_of name (GShape shape) = cond (pointwise nat_eq shape.name name) (Some shape.shape) None
type_of name _ = None

-- the source that a signal is for a label
abbrev pub source_at : (label : List ℕ) → Signal → SourceOf
source_at label signal =
    record { label = label; shape = signal.shape; start = signal.start.now }

abbrev pub found_source : Signals → (label : List ℕ) → Option SourceOf
found_source signals label =
    option_map (source_at label) (get_by (λ k. pointwise nat_eq label k.now) signals.map)

abbrev pub source_by : (List ℕ → Option Shape) → List Member → (label : List ℕ) → Option SourceOf
source_by type members label =
    option_map (source_of (shape_by type) label) (signal_named members label)

-- what one line of `top` gives
abbrev pub source_of_member : (List ℕ → Option Shape) → (label : List ℕ) → Member → Option SourceOf
source_of_member type label (member.DeSignal line name format start) =
    cond (pointwise nat_eq name label)
    (Some (record { label = label; shape = shape_by type format; start = start })) None
source_of_member type label _ = None

abbrev pub seen_source : Source → SourceOf
seen_source s = record { label = s.label.now; shape = s.shape; start = s.start.now }

abbrev pub seen : Option Source → Option SourceOf
seen source = option_map seen_source source

-- the set of names has one
abbrev pub holds : Names → (name : List ℕ) → Bool
holds names name = list_any (λ k. pointwise nat_eq name k.now) names.set.keys
