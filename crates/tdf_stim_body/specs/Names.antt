-- Where the names of a driver stand in its block: for each column a port and an array, then the
-- count, and then an event for each row but the first.
-- Source: own.
use Rattle.std.specs.Prelude.{◌≡◌, ◌<◌, ℕ, ◌+◌, ◌*◌, false, List, length, Some, codes, slice_get}
use Rattle.tdf_expr_symbols.specs.Names.{Array, Event, Names, Port, Thing, Var, place_of}
use Rattle.tdf_lang_tree.specs.declared.blocks.PortKind.TheVariants.{DeOut}
use Rattle.tdf_lang_tree.specs.declared.names.Lit.{Lit}
use Rattle.tdf_lang_tree.specs.declared.stmt.Limit.TheVariants.{Int}
use Rattle.tdf_stim.specs.Driver.{array_name, event_name, literals, port_name}
use Rattle.tdf_stim.specs.Signals.{Column, count_shape}

-- a name is that of a place, where this thing stands
pub record IsNameAt (own : Names) (name : List ℕ) (n : ℕ) (thing : Thing) : Type 0 where
  pub place : place_of own name ≡ Some n
  pub is : slice_get own.things n ≡ Some thing

-- a port of one sample, in the column's format
abbrev pub port_thing : Column → Thing
port_thing c = Port DeOut (Some c.shape) (Int 1) 0

abbrev pub array_thing : Column → Thing
array_thing c = Array (Some c.shape) (length c.cells) (literals c.start c.cells)

-- the count of runs, which starts at 0
abbrev pub no_runs : Lit
no_runs = record { minus = false; digits = codes "0" }

abbrev pub count_thing : Thing
count_thing = Var (Some count_shape) no_runs

pub record HasDriverNames (own : Names) (columns : List Column) (rows : ℕ) : Type 0 where
  pub port : (j : ℕ) (c : Column) → slice_get columns j ≡ Some c
      → IsNameAt own (port_name j) (2 * j) (port_thing c)
  pub array : (j : ℕ) (c : Column) → slice_get columns j ≡ Some c
      → IsNameAt own (array_name j) (2 * j + 1) (array_thing c)
  pub count : IsNameAt own (codes "k") (2 * length columns) count_thing
  pub event : (i : ℕ) → i + 1 < rows
      → IsNameAt own (event_name (i + 1)) (2 * length columns + (i + 1)) Event
  -- each column has a cell for each row
  pub cells : (j : ℕ) (c : Column) → slice_get columns j ≡ Some c → length c.cells ≡ rows
