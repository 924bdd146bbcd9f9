-- How drivers are found.
-- Source: own.
use Rattle.std.specs.List.{enumerate_from}
use Rattle.std.specs.Prelude.{ℕ, map, Bool, true, false, length, List, Option, cond, slice_index_or, slice_set}
use Rattle.tdf_bind_hierarchy.specs.Tables.{TablesOf}
use Rattle.tdf_bind_hierarchy.specs.declared.tables.Signal.{Signal}
use Rattle.tdf_bind_hierarchy.specs.declared.tables.SignalNumber.{SignalNumber}
use Rattle.tdf_bind_connections.specs.Drivers.{with_writer, driver_fault, fault_of_driver, module_port, AreDrivers, SignalsOf}
use Rattle.tdf_bind_connections.specs.declared.drivers.Driver.{Driver}
use Rattle.tdf_bind_connections.specs.declared.drivers.Driver.TheVariants.{Missing}
use Rattle.tdf_bind_connections.specs.declared.drivers.DriverFault.{DriverFault}
use Rattle.tdf_bind_connections.specs.declared.drivers.SignalRow.{SignalRow}
use Rattle.tdf_bind_connections.specs.declared.writers.Writer.{Writer}

abbrev pub driver_in : List Driver → ℕ → Driver
driver_in drivers signal = slice_index_or drivers signal Missing

abbrev pub noted : Writer → List Driver → List Driver
noted writer drivers =
    slice_set drivers writer.signal (with_writer writer.port (driver_in drivers writer.signal))

abbrev pub driver_by : List Driver → List Driver → SignalNumber → Driver
driver_by signals events n = driver_in (cond n.event events signals) n.number

abbrev pub fault_by : List Driver → List Driver → SignalNumber → Option DriverFault
fault_by signals events n = fault_of_driver n (driver_fault n.event (driver_by signals events n))

abbrev pub row_by : List Driver → ℕ → Signal → SignalRow
row_by drivers number signal = record {
  path = signal.path;
  format = signal.format;
  start = signal.start;
  driver = module_port (driver_in drivers number);
}

abbrev pub signals_by : List Driver → List Driver → TablesOf → SignalsOf
signals_by samples events tables = record {
  signals = map (λ s. row_by samples s.0 s.1) (enumerate_from 0 tables.signals);
  de_signals = map (λ s. row_by events s.0 s.1) (enumerate_from 0 tables.event_signals);
}

-- the drivers of the signals of both kinds
pub record AreAllDrivers (writers : Bool → List Writer) (tables : TablesOf)
    (samples events : List Driver) : Type 0 where
  pub samples_are : AreDrivers (length tables.signals) (writers false) samples
  pub events_are : AreDrivers (length tables.event_signals) (writers true) events
