-- What a port or signal carries: events or samples, and values of which format.
-- Source: own.
use Rattle.std.specs.Option.{option_map}
use Rattle.std.specs.Prelude.{◌≡◌, ℕ, Bool, List, [], map, Option, Some, None, slice_get, slice_index_or, All}
use Rattle.tdf_expr.specs.Plans.{shape_of_format}
use Rattle.tdf_bind_ports.specs.Ports.{no_blocks, known_after_all}
use Rattle.tdf_expr_symbols.specs.Names.{Names, format_of, globals_of}
use Rattle.tdf_bind_names.specs.Resolved.{whole}
use Rattle.tdf_lang_tree.specs.Pure.{PureTree}
use Rattle.tdf_lang_tree.specs.declared.blocks.PortLine.{PortLine}
use Rattle.tdf_lang_tree.specs.declared.shapes.Shape.{Shape}
use Rattle.tdf_bind_hierarchy.specs.Blocks.{BlockOf}
use Rattle.tdf_bind_hierarchy.specs.Tables.{TablesOf, table}
use Rattle.tdf_bind_hierarchy.specs.declared.blocks.SignalLine.{SignalLine}
use Rattle.tdf_bind_hierarchy.specs.declared.blocks.Target.{Target}
use Rattle.tdf_bind_hierarchy.specs.declared.blocks.Target.TheVariants.{Own, Outer}
use Rattle.tdf_bind_hierarchy.specs.declared.tables.Signal.{Signal}
use Rattle.tdf_bind_hierarchy.specs.declared.tables.SignalNumber.{SignalNumber}
use Rattle.tdf_bind_connections.specs.Edges.{is_event_port}

pub record Tag : Type 0 where
  pub event : Bool
  pub shape : Shape

abbrev pub tag_with : Bool → Option Shape → Option Tag
tag_with event shape = option_map (λ (s : Shape). record { event = event; shape = s }) shape

-- of a port, by the line that declares it
abbrev pub port_tag : Names → PortLine → Option Tag
port_tag globals port = tag_with (is_event_port port.kind) (format_of globals port.format)

abbrev pub port_tags : Names → List PortLine → List (Option Tag)
port_tags globals ports = map (port_tag globals) ports

-- of a signal, as a composite declares it, and as it was met
abbrev pub line_tag : SignalLine → Tag
line_tag line = record { event = line.event; shape = shape_of_format line.format }

abbrev pub signal_tag : Signal → Tag
signal_tag signal = record { event = signal.event; shape = shape_of_format signal.format }

-- of the signal of a number
abbrev pub numbered_tag : Bool → Signal → Tag
numbered_tag event signal = record { event = event; shape = shape_of_format signal.format }

abbrev pub number_tag : TablesOf → SignalNumber → Option Tag
number_tag tables n =
    option_map (numbered_tag n.event) (slice_get (table n.event tables) n.number)

-- the tags of the ports of each block of a model
abbrev pub tags_at : List (List (Option Tag)) → ℕ → List (Option Tag)
tags_at tags block = slice_index_or tags block []

abbrev pub block_tags : Names → List (List PortLine) → List (List (Option Tag))
block_tags globals ports = map (port_tags globals) ports

abbrev pub model_tags : PureTree → List (List (Option Tag))
model_tags model =
    block_tags (globals_of model.globals) (known_after_all (whole model) no_blocks).ports

-- of a target in a composite whose ports have these tags
abbrev pub target_tag : BlockOf → List (Option Tag) → Target → Option Tag
target_tag composite ports (Own k) = option_map line_tag (slice_get composite.signals k)
target_tag composite ports (Outer k) = slice_index_or ports k None

-- each port is bound to a signal or port of its own tag
pub record KeepTags (tags : List (List (Option Tag))) (blocks : List BlockOf) (top : ℕ)
    : Type 0 where
  pub each : (n : ℕ) (composite : BlockOf) → slice_get blocks n ≡ Some composite
      → All (λ instance. map (target_tag composite (tags_at tags n)) instance.targets
      ≡ tags_at tags instance.block) composite.instances
  pub closed : tags_at tags top ≡ []
