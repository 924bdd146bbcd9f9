-- What holds of the body of a driver.
-- Source: own.
use Rattle.std.specs.Prelude.{◌≡◌, ◌<◌, ℕ, List, [], length, Some, slice_get}
use Rattle.tdf_expr_names.specs.Names.{de_lines_faults}
use Rattle.tdf_expr_semantics.specs.Bodies.{after_all, after_body}
use Rattle.tdf_expr_state.specs.State.{State}
use Rattle.tdf_expr_symbols.specs.Names.{Names, de_names}
use Rattle.tdf_expr_symbols.specs.Scope.{OpenLoop, Scope}
use Rattle.tdf_lang_tree.specs.Pure.{PureStmts}
use Rattle.tdf_stim.specs.Driver.{driver_block, driver_body}
use Rattle.tdf_stim.specs.Signals.{Column}
use Rattle.tdf_stim_body.specs.Names.{HasDriverNames}
use Rattle.tdf_stim_body.specs.Runs.{FewRows, HasCounted, RanOnce}
use Rattle.tdf_stim_lines.specs.Numbered.{de_at, stmts_at}

-- the numbers of lines change nothing
abbrev pub LinesChangeNothing : Type 0
LinesChangeNothing = (scope : Scope) (loops : List OpenLoop) (turns : List ℕ) (at : ℕ)
    → (body : PureStmts) (s : State)
    → after_all scope loops turns (stmts_at at body) s ≡ after_all scope loops turns body s

-- where the driver's block declares no name twice, on whatever lines, its names stand at their
-- places
abbrev pub DriverNamesStand : Type 0
DriverNamesStand = (globals : Names) (names : List (List ℕ)) (name : List ℕ)
    → (columns : List Column) (times : List ℕ) (at : ℕ)
    → ((j : ℕ) (c : Column) → slice_get columns j ≡ Some c → length c.cells ≡ length times)
    → de_lines_faults names [] (de_at at (driver_block name columns times)).decls ≡ []
    → HasDriverNames (de_names globals (de_at at (driver_block name columns times))) columns
    (length times)

-- run m of the body of a driver, while there are rows
abbrev pub BodyDrives : Type 0
BodyDrives = (scope : Scope) (columns : List Column) (times : List ℕ) (m : ℕ) (s : State)
    → HasDriverNames scope.own columns (length times) → FewRows (length times)
    → m < length times → HasCounted columns (length times) m s
    → RanOnce columns times m s (after_body scope (driver_body (length columns) times) s)
