-- The event side of a flat model: how many rows it has, the numbers in them, and that it can run.
-- Source: own.
use Rattle.std.specs.Prelude.{◌≡◌, ◌<◌, ◌≤◌, ℕ, length, Some, All, filter, nat_eq, slice_get}
use Rattle.std.specs.List.{AllByRecursion}
use Rattle.tdf_base.specs.Limits.{most_events, most_instances, most_ports, most_processes, most_signals}
use Rattle.tdf_events.specs.Runnable.{IsRunnable}
use Rattle.tdf_expr.specs.Frames.{IsOfFormat}
use Rattle.tdf_expr.specs.Made.{block_count, event_count, port_spans_of}
use Rattle.tdf_expr.specs.declared.spans.PortSpan.{PortSpan}
use Rattle.tdf_bind.specs.Flat.{IsFlatOf}
use Rattle.tdf_bind.specs.declared.model.Flat.{Flat}
use Rattle.tdf_bind_invariants.specs.Formats.{IsSoundModel}
use Rattle.tdf_lang_tree.specs.Pure.{PureDeLine, DPort, PureGlobal, GDe, PureTree}
use Rattle.tdf_lang_tree.specs.declared.blocks.PortKind.{PortKind}
use Rattle.tdf_lang_tree.specs.declared.blocks.PortKind.TheVariants.{DeIn, DeOut}
use Rattle.tdf_bind_connections.specs.ProcessBlocks.{BlockRowOf}
use Rattle.tdf_bind_connections.specs.declared.drivers.SignalRow.{SignalRow}

-- no more of each kind than a model may have
pub record HasFewRows (flat : Flat) : Type 0 where
  pub signals : length flat.tables.de_signals ≤ most_signals
  pub blocks : length flat.tables.blocks ≤ most_instances
  pub processes : length flat.tables.processes ≤ most_processes
  pub events : length flat.tables.events ≤ most_events

abbrev pub EventRowsAreFew : Type 0
EventRowsAreFew = (model : PureTree) (flat : Flat) → IsFlatOf model flat → HasFewRows flat

-- processes and events belong to instances, and processes are sensitive to events, that there are
pub record HasOwners (flat : Flat) : Type 0 where
  pub owners : All (λ row. row.owner < length flat.tables.blocks) flat.tables.processes
  pub sensitive : All (λ row. All (λ event. event < length flat.tables.events) row.events)
      flat.tables.processes
  pub events : All (λ row. row.owner < length flat.tables.blocks) flat.tables.events

abbrev pub EventRowsHaveOwners : Type 0
EventRowsHaveOwners = (model : PureTree) (flat : Flat) → IsFlatOf model flat → HasOwners flat

-- a signal starts with a value of its format
abbrev pub StartsInFormat : SignalRow → Type 0
StartsInFormat row = IsOfFormat row.format row.start

pub record HasStarts (flat : Flat) : Type 0 where
  pub signals : All StartsInFormat flat.tables.signals
  pub de_signals : All StartsInFormat flat.tables.de_signals

abbrev pub SignalsStartInFormat : Type 0
SignalsStartInFormat = (model : PureTree) (flat : Flat) → IsFlatOf model flat → HasStarts flat

-- an instance is of a compiled block with no more ports than a model may have, one sample for
-- each, in order; it has as many event rows as its block has events
pub record HasBlock (flat : Flat) (number : ℕ) (row : BlockRowOf) : Type 0 where
  pub block : row.block < block_count flat.checked
  pub few : length (port_spans_of flat.checked row.block) ≤ most_ports
  pub first : (n : ℕ) (p : PortSpan) → slice_get (port_spans_of flat.checked row.block) n ≡ Some p
      → p.first ≡ n
  pub one : (n : ℕ) (p : PortSpan) → slice_get (port_spans_of flat.checked row.block) n ≡ Some p
      → p.count ≡ 1
  pub events : length (filter (λ event. nat_eq event.owner number) flat.tables.events)
      ≡ event_count flat.checked row.block

abbrev pub InstancesHaveBlocks : Type 0
InstancesHaveBlocks = (model : PureTree) (flat : Flat) → IsSoundModel model → IsFlatOf model flat
    → (number : ℕ) (row : BlockRowOf) → slice_get flat.tables.blocks number ≡ Some row
    → HasBlock flat number row

-- each port that a block of processes declares carries events: it is a `de_in` or a `de_out`;
-- these are the words of the clause `formed` of the reader of models (`events` of `IsFormed` of
-- tdf_lang_parser), so that what it gives is what is asked for here
abbrev pub IsEventKind : PortKind → Type 0
IsEventKind DeIn = Unit {0}
IsEventKind DeOut = Unit {0}
IsEventKind _ = ⊥

abbrev pub IsEventLine : PureDeLine → Type 0
IsEventLine (DPort port) = IsEventKind port.kind
IsEventLine _ = Unit {0}

abbrev pub HasEventPorts : PureGlobal → Type 0
HasEventPorts (GDe block) = AllByRecursion IsEventLine block.decls
HasEventPorts _ = Unit {0}

abbrev pub DeclareEventPorts : PureTree → Type 0
DeclareEventPorts tree = AllByRecursion HasEventPorts tree.globals

-- the event side of the flat model of a sound model can run
abbrev pub SoundIsRunnable : Type 0
SoundIsRunnable = (model : PureTree) (flat : Flat) → IsSoundModel model → DeclareEventPorts model
    → IsFlatOf model flat → IsRunnable flat
