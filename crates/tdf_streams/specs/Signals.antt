-- The samples of a signal: their positions, their times, and their values.
-- Source: IEEE 1666.1-2016, timing of TDF samples and delays of ports.
use Rattle.std.specs.Prelude.{ℕ, ◌+◌, ◌-◌, ◌*◌, ◌/◌, ◌%◌, List, [], Option, Some, option_map, nat_lt, if◌then◌else◌, ℤ, slice_index}
use Rattle.std.specs.List.{sum_by}
use Rattle.std.specs.Option.{option_and_then}
use Rattle.tdf_bind_tables.specs.FlatTables.{FlatTablesOf}
use Rattle.tdf_dynamic_plans.specs.Rates.{port_rate}
use Rattle.tdf_fixed.specs.declared.raw.Raw.{Raw}
use Rattle.tdf_streams.specs.Net.{Past, Turn}
use Rattle.tdf_streams.specs.Streams.{Spot, find}
use Rattle.tdf_streams.specs.Cluster.{initial_sample}
use Rattle.tdf_streams.specs.Periods.{PeriodInfo, PeriodRecord}
use Rattle.tdf_bind_connections.specs.declared.modules.PortRow.{PortRow}

-- samples of a port in one activation, in a period
abbrev pub rate_in : PortRow → PeriodRecord → ℕ
rate_in port p = port_rate p.info.table port

-- the positions of its signal in a period, and the time from one to the next
abbrev pub positions : PortRow → PeriodRecord → ℕ
positions port p = slice_index p.info.counts port.«module» * rate_in port p

abbrev pub step_in : PortRow → PeriodRecord → ℕ
step_in port p = p.info.period / positions port p

-- the time that periods take
abbrev pub time_of_periods : List PeriodRecord → ℕ
time_of_periods periods = sum_by (λ (p : PeriodRecord). p.info.period) periods

-- the time of position j of the signal that a port drives, from the start of the first period on,
-- if the periods have so many positions; that period has all its positions, also where some of its
-- firings were done before the start
abbrev pub time_at_spot : PortRow → Spot PeriodInfo → ℕ
time_at_spot port s = time_of_periods s.before + s.rest * step_in port s.period

unfoldable pub position_time : List PeriodRecord → PortRow → ℕ → Option ℕ
position_time periods port j = option_map (time_at_spot port) (find (positions port) [] periods j)

-- the outputs of a port in a period
abbrev pub outputs_in : PortRow → PeriodRecord → ℕ
outputs_in port p = slice_index p.counts port.«module» * rate_in port p

-- output number j of a port: of the activation that writes it
abbrev pub output_at_spot : PortRow → (number : ℕ) → Past (List ℤ) Raw → Spot PeriodInfo
    → Option Raw
output_at_spot port number past s =
    option_map (λ (t : Turn (List ℤ) Raw). t.outputs number (s.rest % rate_in port s.period))
    (past port.«module»
    (sum_by (λ (p : PeriodRecord). slice_index p.counts port.«module») s.before
    + s.rest / rate_in port s.period))

unfoldable pub port_output : List PeriodRecord → PortRow → (number : ℕ) → Past (List ℤ) Raw → ℕ
    → Option Raw
port_output periods port number past j =
    option_and_then (output_at_spot port number past) (find (outputs_in port) [] periods j)

-- the sample at position j of the signal that a port drives, from the text's start on: first its
-- initial samples
abbrev pub signal_sample : FlatTablesOf → List PeriodRecord → PortRow → (number : ℕ)
    → Past (List ℤ) Raw → ℕ → Option Raw
signal_sample tables periods port number past j = if nat_lt j port.delay
    then Some (initial_sample tables port j)
    else port_output periods port number past (j - port.delay)
