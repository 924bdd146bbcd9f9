-- The names in force on a line as the code holds them (own): loop variables apart.
use Rattle.std.specs.Prelude.{List, ◌++◌}
use Rattle.tdf_expr_names.specs.Names.{Name, with_names}

pub record Held : Type 0 where
  pub globals : List Name
  pub own : List Name
  pub loops : List Name

abbrev pub locals : Held → List Name
locals held = held.own ++ held.loops

-- the block has declared some more names
abbrev pub declared : Held → List Name → Held
declared held names = record held { own = with_names held.own names }
