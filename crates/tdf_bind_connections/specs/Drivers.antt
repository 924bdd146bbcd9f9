-- The drivers of signals, and the signals that have none or several.
-- Source: own.
use Rattle.std.specs.List.{enumerate_from}
use Rattle.std.specs.Prelude.{◌≡◌, ◌<◌, ℕ, Bool, true, false, List, [], ◌∷◌, length, map, Option, Some, None, nat_eq, filter, filter_map, slice_get, slice_index_or}
use Rattle.tdf_base.specs.declared.codes.Code.{Code}
use Rattle.tdf_base.specs.declared.codes.Code.TheVariants.{NoDriver, TwoDrivers}
use Rattle.tdf_bind_hierarchy.specs.Tables.{TablesOf}
use Rattle.tdf_bind_hierarchy.specs.declared.tables.Signal.{Signal}
use Rattle.tdf_bind_hierarchy.specs.declared.tables.SignalNumber.{SignalNumber}
use Rattle.tdf_bind_connections.specs.Writers.{writers_to}
use Rattle.tdf_bind_connections.specs.declared.drivers.Driver.{Driver}
use Rattle.tdf_bind_connections.specs.declared.drivers.Driver.TheVariants.{Missing, One, Several}
use Rattle.tdf_bind_connections.specs.declared.drivers.DriverErr.{DriverErr}
use Rattle.tdf_bind_connections.specs.declared.drivers.DriverErr.TheVariants.{Refused, Memory}
use Rattle.tdf_bind_connections.specs.declared.drivers.DriverFault.{DriverFault}
use Rattle.tdf_bind_connections.specs.declared.drivers.SignalRow.{SignalRow}
use Rattle.tdf_bind_connections.specs.declared.modules.PortRow.{PortRow}
use Rattle.tdf_bind_connections.specs.declared.roles.Role.{Role}
use Rattle.tdf_bind_connections.specs.declared.writers.Writer.{Writer}

-- the driver that some writers of one signal make
abbrev pub driver_of : List Writer → Driver
driver_of [] = Missing
driver_of (writer ∷ []) = One writer.port
driver_of (writer ∷ other ∷ writers) = Several

-- the driver of a signal among the writers of the signals of its kind
abbrev pub driver : ℕ → List Writer → Driver
driver signal writers = driver_of (filter (λ writer. nat_eq writer.signal signal) writers)

abbrev pub with_writer : Option ℕ → Driver → Driver
with_writer port Missing = One port
with_writer port _ = Several

-- the port of a module that drives
abbrev pub module_port : Driver → Option ℕ
module_port (One port) = port
module_port _ = None

abbrev pub signal_row : List Writer → ℕ → Signal → SignalRow
signal_row writers number signal = record {
  path = signal.path;
  format = signal.format;
  start = signal.start;
  driver = module_port (driver number writers);
}

-- the signals of a kind with their drivers
abbrev pub signal_rows : List Writer → List Signal → List SignalRow
signal_rows writers signals =
    map (λ signal. signal_row writers signal.0 signal.1) (enumerate_from 0 signals)

-- what is wrong with the driver of a signal: an event signal may have none
abbrev pub driver_fault : Bool → Driver → Option Code
driver_fault false Missing = Some NoDriver
driver_fault true Missing = None
driver_fault event (One port) = None
driver_fault event Several = Some TwoDrivers

abbrev pub fault_of_driver : SignalNumber → Option Code → Option DriverFault
fault_of_driver number None = None
fault_of_driver number (Some code) = Some (record { code = code; signal = number })

-- the faults of drivers, in the order of the signals; `writers` are those of each kind
abbrev pub driver_faults : (Bool → List Writer) → List SignalNumber → List DriverFault
driver_faults writers order =
    filter_map (λ n. fault_of_driver n (driver_fault n.event (driver n.number (writers n.event))))
    order

-- the ports that write the signals of each kind in a model
abbrev pub writers_in : List Role → TablesOf → List PortRow → Bool → List Writer
writers_in roles tables ports event = writers_to event roles tables.instances ports

-- the faults of drivers in a model, in preorder of the signals
abbrev pub misdriven : List Role → TablesOf → List PortRow → List DriverFault
misdriven roles tables ports = driver_faults (writers_in roles tables ports) tables.order

-- the drivers of the signals 0 to `count`
pub record AreDrivers (count : ℕ) (writers : List Writer) (drivers : List Driver) : Type 0 where
  pub long : length drivers ≡ count
  pub each : (signal : ℕ) → signal < count
      → slice_index_or drivers signal Missing ≡ driver signal writers

pub record SignalsOf : Type 0 where
  pub signals : List SignalRow
  pub de_signals : List SignalRow

-- the tables are those of the signals of samples and of the event signals
pub record AreSignals (writers : Bool → List Writer) (samples events : List Signal)
    (tables : SignalsOf) : Type 0 where
  pub signals : tables.signals ≡ signal_rows (writers false) samples
  pub de_signals : tables.de_signals ≡ signal_rows (writers true) events

-- a refusal names the first fault; want of memory is free
abbrev pub IsDriverRefusal : List DriverFault → DriverErr → Type 0
IsDriverRefusal faults (Refused fault) = slice_get faults 0 ≡ Some fault
IsDriverRefusal faults Memory = Unit {0}
