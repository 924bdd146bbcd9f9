-- No two signals of a flat model have the same path, and their paths are those that were met.
use Rattle.std.proofs.Common.{◌≡◌, ◌∙◌, ℕ, ◌+◌, Bool, true, false, List, [], ◌∷◌, ◌++◌, map, refl, sym, ap, subst, true≢false}
use Rattle.std.specs.List.{AllByRecursion, enumerate_from}
use Rattle.std.specs.Prelude.{filter, filter_map}
use Rattle.tdf_bind_tables.specs.FlatTables.{FlatTablesOf, IsFlat}
use Rattle.tdf_bind.proofs.Lists.{Differ, all_values, both_differ, kept_all}
use Rattle.tdf_bind_hierarchy.specs.Blocks.{BlockOf}
use Rattle.tdf_bind_hierarchy.specs.Met.{met_in}
use Rattle.tdf_bind_hierarchy.specs.Tables.{is_of, same_kind, met_signal}
use Rattle.tdf_bind_hierarchy.specs.declared.tables.Signal.{Signal}
use Rattle.tdf_bind_connections.specs.Drivers.{signal_row, signal_rows}
use Rattle.tdf_bind_connections.specs.declared.drivers.SignalRow.{SignalRow}
use Rattle.tdf_bind_connections.specs.declared.roles.Role.{Role}
use Rattle.tdf_bind_connections.specs.declared.traces.TraceLine.{TraceLine}
use Rattle.tdf_bind_connections.specs.declared.writers.Writer.{Writer}

abbrev path_of : Signal → List ℕ
path_of signal = signal.path

-- a row has the path of its signal
rows_from : (writers : List Writer) (number : ℕ) (signals : List Signal)
    → map (λ (row : SignalRow). row.path) (map (λ signal. signal_row writers signal.0 signal.1) (enumerate_from number signals)) ≡ map path_of signals
rows_from writers number [] = refl
rows_from writers number (signal ∷ signals) = ap (λ l. signal.path ∷ l) (rows_from writers (number + 1) signals)

never_both : (signal : Signal) → is_of false signal ≡ true → is_of true signal ≡ true → ⊥
never_both signal one other = go signal.event one other
  where
    go : (e : Bool) → same_kind false e ≡ true → same_kind true e ≡ true → ⊥
    go true is are = true≢false (sym is)
    go false is are = true≢false (sym are)

paths_are : (writers : List Writer) (rows : List SignalRow) (table signals : List Signal) → rows ≡ signal_rows writers table → table ≡ signals → map (λ (row : SignalRow). row.path) rows ≡ map path_of signals
paths_are writers rows table signals is same = ap (map (λ (row : SignalRow). row.path)) is ∙ rows_from writers 0 table ∙ ap (map path_of) same

pub flat_differ : (blocks : List BlockOf) (top : ℕ) (roles : List Role) (lines : List TraceLine) (flat : FlatTablesOf) → IsFlat blocks top roles lines flat
    → Differ (map (λ (signal : Signal). signal.path) (filter_map met_signal (met_in blocks top)))
    → Differ (map (λ (row : SignalRow). row.path) flat.signals ++ map (λ (row : SignalRow). row.path) flat.de_signals)
flat_differ blocks top roles lines flat is differ =
    let signals = filter_map met_signal (met_in blocks top) in
    subst (λ l. Differ (l ++ map (λ (row : SignalRow). row.path) flat.de_signals)) (sym (paths_are _ flat.signals is.tables.signals (filter (is_of false) signals) is.follows.signals.signals is.met.signals))
    (subst (λ l. Differ (map path_of (filter (is_of false) signals) ++ l)) (sym (paths_are _ flat.de_signals is.tables.event_signals (filter (is_of true) signals) is.follows.signals.de_signals is.met.event_signals))
    (both_differ path_of (is_of false) (is_of true) never_both signals differ))

-- a fact of the paths of all signals
module _ (blocks : List BlockOf) (top : ℕ) (roles : List Role) (lines : List TraceLine) (flat : FlatTablesOf) (is : IsFlat blocks top roles lines flat) (P : List ℕ → Type 0)
    (all : AllByRecursion P (map (λ (signal : Signal). signal.path) (filter_map met_signal (met_in blocks top)))) where
  abbrev met_signals : List Signal
  met_signals = filter_map met_signal (met_in blocks top)

  pub signals_have : AllByRecursion (λ (row : SignalRow). P row.path) flat.signals
  signals_have =
      all_values P (λ (row : SignalRow). row.path) flat.signals
      (subst (AllByRecursion P) (sym (paths_are _ flat.signals is.tables.signals (filter (is_of false) met_signals) is.follows.signals.signals is.met.signals)) (kept_all P path_of (is_of false) met_signals all))

  pub de_signals_have : AllByRecursion (λ (row : SignalRow). P row.path) flat.de_signals
  de_signals_have =
      all_values P (λ (row : SignalRow). row.path) flat.de_signals
      (subst (AllByRecursion P) (sym (paths_are _ flat.de_signals is.tables.event_signals (filter (is_of true) met_signals) is.follows.signals.de_signals is.met.event_signals)) (kept_all P path_of (is_of true) met_signals all))
