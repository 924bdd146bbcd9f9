-- The tables of a model, as clauses see them, and which are those of what was met.
-- Source: own.
use Rattle.std.specs.Prelude.{◌≡◌, ℕ, Bool, true, false, List, [], ◌∷◌, ◌++◌, length, Option, Some, None, slice_get, filter, filter_map}
use Rattle.std.specs.List.{AllZip}
use Rattle.tdf_bind_hierarchy.specs.Met.{PlacedInstance, Met, MetSignal, MetInstance}
use Rattle.tdf_bind_hierarchy.specs.declared.tables.Signal.{Signal}
use Rattle.tdf_bind_hierarchy.specs.declared.tables.SignalNumber.{SignalNumber}

-- an instance: its path, its block, and the number of the signal that each of its ports reaches
pub record RowOf : Type 0 where
  pub path : List ℕ
  pub block : ℕ
  pub signals : List SignalNumber

-- the signals of samples, the event signals, the numbers of both in preorder, and the instances
pub record TablesOf : Type 0 where
  pub signals : List Signal
  pub event_signals : List Signal
  pub order : List SignalNumber
  pub instances : List RowOf

-- the signals of a kind: event signals, or those of samples
abbrev pub table : Bool → TablesOf → List Signal
table true tables = tables.event_signals
table false tables = tables.signals

abbrev pub met_signal : Met → Option Signal
met_signal (MetSignal signal) = Some signal
met_signal (MetInstance instance) = None

abbrev pub met_instance : Met → Option PlacedInstance
met_instance (MetSignal signal) = None
met_instance (MetInstance instance) = Some instance

abbrev pub same_kind : Bool → Bool → Bool
same_kind true event = event
same_kind false true = false
same_kind false false = true

-- whether a signal is of a kind
abbrev pub is_of : Bool → Signal → Bool
is_of event signal = same_kind event signal.event

-- the signals of a kind that were met
abbrev pub signals_of : Bool → List Met → List Signal
signals_of event met = filter (is_of event) (filter_map met_signal met)

-- the number of each signal, after the signals `before`: how many of its kind come before it
abbrev pub numbers_after : List Signal → List Signal → List SignalNumber
numbers_after before [] = []
numbers_after before (signal ∷ later) =
    record { event = signal.event; number = length (filter (is_of signal.event) before) }
    ∷ numbers_after (before ++ signal ∷ []) later

-- a number stands for the signal that a port reaches
pub record IsNumberOf (tables : TablesOf) (number : SignalNumber) (signal : Signal) : Type 0 where
  pub kind : number.event ≡ signal.event
  pub place : slice_get (table number.event tables) number.number ≡ Some signal

abbrev pub StandsFor : TablesOf → SignalNumber → Option Signal → Type 0
StandsFor tables number None = ⊥
StandsFor tables number (Some signal) = IsNumberOf tables number signal

-- a row stands for an instance
pub record IsRowOf (tables : TablesOf) (row : RowOf) (instance : PlacedInstance) : Type 0 where
  pub path : row.path ≡ instance.path
  pub block : row.block ≡ instance.block
  pub signals : AllZip (StandsFor tables) row.signals instance.reached

-- the tables are those of what was met
pub record IsTable (met : List Met) (tables : TablesOf) : Type 0 where
  pub signals : tables.signals ≡ signals_of false met
  pub event_signals : tables.event_signals ≡ signals_of true met
  pub order : tables.order ≡ numbers_after [] (filter_map met_signal met)
  pub instances : AllZip (IsRowOf tables) tables.instances (filter_map met_instance met)
