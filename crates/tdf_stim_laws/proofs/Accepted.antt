-- The model that `drive` runs drives its signals.
use Rattle.std.proofs.Common.{List, [], ◌∷◌}
use Rattle.std.specs.List.{AllByRecursion}
use Rattle.tdf_events_invariants.specs.Runnable.{DeclareEventPorts, IsEventKind, IsEventLine, HasEventPorts}
use Rattle.tdf_lang_parser.specs.Formed.{IsFormed}
use Rattle.tdf_lang_parser.specs.Formed as formed
use Rattle.tdf_lang_tree.specs.Pure.{PureDeLine, DPort, DStore, DEvent, PureGlobal, GShape, GTdf, GDe, GNet, PureTree}
use Rattle.tdf_lang_tree.specs.declared.blocks.PortKind.{PortKind}
use Rattle.tdf_lang_tree.specs.declared.blocks.PortKind.TheVariants.{In, Out, DeIn, DeOut}
use Rattle.tdf_stim_laws.specs.Settled.{DrivesAcceptedSignals, DrivesSignals}

event_kind : (kind : PortKind) → formed.IsEventKind kind → IsEventKind kind
event_kind In h = absurd h
event_kind Out h = absurd h
event_kind DeIn h = tt
event_kind DeOut h = tt

event_lines : (lines : List PureDeLine) → AllByRecursion formed.IsEventLine lines → AllByRecursion IsEventLine lines
event_lines [] h = tt
event_lines (DPort port ∷ lines) h = (event_kind port.kind h.0, event_lines lines h.1)
event_lines (DStore store ∷ lines) h = (tt, event_lines lines h.1)
event_lines (DEvent line name ∷ lines) h = (tt, event_lines lines h.1)

event_ports : (g : PureGlobal) → formed.HasEventPorts g → HasEventPorts g
event_ports (GShape shape) h = tt
event_ports (GTdf block) h = tt
event_ports (GDe block) h = event_lines block.decls h
event_ports (GNet block) h = tt

events_declared : (gs : List PureGlobal) → AllByRecursion formed.HasEventPorts gs → AllByRecursion HasEventPorts gs
events_declared [] h = tt
events_declared (g ∷ gs) h = (event_ports g h.0, events_declared gs h.1)

pub drives_accepted : DrivesSignals → DrivesAcceptedSignals
drives_accepted drives tree table sim ahead turns time w is fine model on =
    drives tree table sim.flat sim.firsts.items ahead turns time w is fine
    (record { kept = model.kept; names = model.accepted.lines.names; types = model.accepted.lines.types })
    (events_declared _ model.formed.events) model.accepted.is_flat on
