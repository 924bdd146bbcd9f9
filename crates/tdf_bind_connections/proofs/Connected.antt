-- Tables of drivers against the writers.
use Rattle.std.proofs.Common.{◌≡◌, ◌∙◌, ℕ, ◌+◌, ◌<◌, Bool, true, false, List, [], ◌∷◌, Option, Some, None, length, refl, ap, subst, arith}
use Rattle.std.proofs.lemmas.List.Elements.{recursion_from_All}
use Rattle.std.specs.List.{enumerate_from, cons_option, AllByRecursion}
use Rattle.std.specs.Prelude.{map, slice_get, filter_map, cond, All}
use Rattle.tdf_bind_hierarchy.specs.Laws.{IsInRange}
use Rattle.tdf_bind_hierarchy.specs.Tables.{TablesOf, table}
use Rattle.tdf_bind_hierarchy.specs.declared.tables.Signal.{Signal}
use Rattle.tdf_bind_hierarchy.specs.declared.tables.SignalNumber.{SignalNumber}
use Rattle.tdf_bind_connections.specs.Drivers.{driver, driver_fault, fault_of_driver, driver_faults, module_port, signal_row, signal_rows, AreDrivers, AreSignals}
use Rattle.tdf_bind_connections.specs.machine.DriverSteps.{driver_in, fault_by, row_by, signals_by, AreAllDrivers}
use Rattle.tdf_bind_connections.specs.declared.drivers.Driver.{Driver}
use Rattle.tdf_bind_connections.specs.declared.writers.Writer.{Writer}

module _ (writers : Bool → List Writer) (tables : TablesOf) (samples events : List Driver) (h : AreAllDrivers writers tables samples events) where
  kind_same : (event : Bool) (number : ℕ) → number < length (table event tables) → driver_in (cond event events samples) number ≡ driver number (writers event)
  kind_same true number within = h.events_are.each number within
  kind_same false number within = h.samples_are.each number within

  faults_at : (order : List SignalNumber) → AllByRecursion (IsInRange tables) order → filter_map (fault_by samples events) order ≡ driver_faults writers order
  faults_at [] within = refl
  faults_at (n ∷ order) within =
      ap (λ d. cons_option (fault_of_driver n (driver_fault n.event d)) (filter_map (fault_by samples events) order)) (kind_same n.event n.number within.0)
      ∙ ap (cons_option (fault_of_driver n (driver_fault n.event (driver n.number (writers n.event))))) (faults_at order within.1)

  pub faults_same : (order : List SignalNumber) → All (IsInRange tables) order → filter_map (fault_by samples events) order ≡ driver_faults writers order
  faults_same order within = faults_at order (recursion_from_All (IsInRange tables) order within)

rows_at : (ws : List Writer) (ds : List Driver) (n : ℕ) (signals : List Signal) → ((k : ℕ) → k < n + length signals → driver_in ds k ≡ driver k ws)
    → map (λ s. row_by ds s.0 s.1) (enumerate_from n signals) ≡ map (λ s. signal_row ws s.0 s.1) (enumerate_from n signals)
rows_at ws ds n [] each = refl
rows_at ws ds n (s ∷ signals) each =
    ap (λ d. record { path = s.path; format = s.format; start = s.start; driver = module_port d } ∷ map (λ s. row_by ds s.0 s.1) (enumerate_from (n + 1) signals)) (each n (omega arith))
    ∙ ap (λ l. signal_row ws n s ∷ l) (rows_at ws ds (n + 1) signals (λ k less. each k (omega (arith, less))))

pub rows_same : (ws : List Writer) (ds : List Driver) (signals : List Signal) → AreDrivers (length signals) ws ds
    → map (λ s. row_by ds s.0 s.1) (enumerate_from 0 signals) ≡ signal_rows ws signals
rows_same ws ds signals h = rows_at ws ds 0 signals (λ k less. h.each k (omega (arith, less)))

pub none_first : {X : Type 0} (xs : List X) → slice_get xs 0 ≡ None → xs ≡ []
none_first [] e = refl
none_first {X} (x ∷ xs) e = absurd (subst some_only e tt)
  where
    some_only : Option X → Type 0
    some_only None = ⊥
    some_only (Some y) = Unit {0}

pub signals_same : (writers : Bool → List Writer) (tables : TablesOf) (samples events : List Driver) → AreAllDrivers writers tables samples events
    → AreSignals writers tables.signals tables.event_signals (signals_by samples events tables)
signals_same writers tables samples events h = record {
  signals = rows_same (writers false) samples tables.signals h.samples_are;
  de_signals = rows_same (writers true) events tables.event_signals h.events_are;
}
