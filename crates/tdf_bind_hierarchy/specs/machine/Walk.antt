-- How the code walks.
-- Source: own.
use Rattle.std.specs.Prelude.{◌≡◌, ℕ, Bool, true, false, zero, suc, List, [], ◌∷◌, ◌++◌, length, map, Option, Some, None, slice_get}
use Rattle.tdf_bind_hierarchy.specs.Blocks.{InstanceOf, BlockOf}
use Rattle.tdf_bind_hierarchy.specs.Met.{placed_signal}
use Rattle.tdf_bind_hierarchy.specs.Paths.{path_in}
use Rattle.tdf_bind_hierarchy.specs.Tables.{RowOf, TablesOf, table}
use Rattle.tdf_bind_hierarchy.specs.declared.blocks.SignalLine.{SignalLine}
use Rattle.tdf_bind_hierarchy.specs.declared.blocks.Target.{Target}
use Rattle.tdf_bind_hierarchy.specs.declared.blocks.Target.TheVariants.{Own, Outer}
use Rattle.tdf_bind_hierarchy.specs.declared.tables.Signal.{Signal}
use Rattle.tdf_bind_hierarchy.specs.declared.tables.SignalNumber.{SignalNumber}

abbrev pub no_tables : TablesOf
no_tables = record { signals = []; event_signals = []; order = []; instances = [] }

-- the number that the next signal of a kind gets
abbrev pub next_number : Bool → TablesOf → SignalNumber
next_number event t = record { event = event; number = length (table event t) }

abbrev pub put_number : SignalNumber → TablesOf → TablesOf
put_number number t = record {
  signals = t.signals;
  event_signals = t.event_signals;
  order = t.order ++ number ∷ [];
  instances = t.instances;
}

abbrev pub put_in : Bool → Signal → TablesOf → TablesOf
put_in true signal t = record {
  signals = t.signals;
  event_signals = t.event_signals ++ signal ∷ [];
  order = t.order;
  instances = t.instances;
}
put_in false signal t = record {
  signals = t.signals ++ signal ∷ [];
  event_signals = t.event_signals;
  order = t.order;
  instances = t.instances;
}

abbrev pub put_signal : Signal → TablesOf → TablesOf
put_signal signal t = put_in signal.event signal (put_number (next_number signal.event t) t)

abbrev pub put_row : RowOf → TablesOf → TablesOf
put_row row t = record {
  signals = t.signals;
  event_signals = t.event_signals;
  order = t.order;
  instances = t.instances ++ row ∷ [];
}

abbrev pub number_at : List SignalNumber → ℕ → SignalNumber
number_at [] place = record { event = false; number = 0 }
number_at (number ∷ numbers) zero = number
number_at (number ∷ numbers) (suc place) = number_at numbers place

abbrev pub number_of : List SignalNumber → List SignalNumber → Target → SignalNumber
number_of own outer (Own signal) = number_at own signal
number_of own outer (Outer port) = number_at outer port

-- the signals of a block, with the numbers that they get
abbrev pub put_signals : Option (List ℕ) → List SignalLine → TablesOf → TablesOf
put_signals path [] t = t
put_signals path (line ∷ lines) t = put_signals path lines (put_signal (placed_signal path line) t)

abbrev pub numbered_in : Option (List ℕ) → List SignalLine → TablesOf → List SignalNumber
numbered_in path [] t = []
numbered_in path (line ∷ lines) t =
    next_number line.event t ∷ numbered_in path lines (put_signal (placed_signal path line) t)

-- the row of an instance
abbrev pub row_of : Option (List ℕ) → List SignalNumber → List SignalNumber → InstanceOf → RowOf
row_of path own outer instance = record {
  path = path_in path instance.name;
  block = instance.block;
  signals = map (number_of own outer) instance.targets;
}

-- a walk through a block, by its number, its path and the numbers that its ports reach
abbrev pub WalkOf : Type 0
WalkOf = ℕ → Option (List ℕ) → List SignalNumber → TablesOf → TablesOf

-- an instance and what is inside it
abbrev pub walked_row : WalkOf → RowOf → TablesOf → TablesOf
walked_row go row t = go row.block (Some row.path) row.signals (put_row row t)

abbrev pub walked_all : WalkOf → List InstanceOf
    → Option (List ℕ) → List SignalNumber → List SignalNumber → TablesOf → TablesOf
walked_all go [] path own outer t = t
walked_all go (instance ∷ instances) path own outer t =
    walked_all go instances path own outer (walked_row go (row_of path own outer instance) t)

abbrev pub walked_in : WalkOf → Option BlockOf
    → Option (List ℕ) → List SignalNumber → TablesOf → TablesOf
walked_in go None path outer t = t
walked_in go (Some block) path outer t =
    walked_all go block.instances path (numbered_in path block.signals t) outer
    (put_signals path block.signals t)

unfoldable pub walked : List BlockOf → ℕ → WalkOf
walked blocks zero block path outer t = t
walked blocks (suc depth) block path outer t =
    walked_in (λ m p o u. walked blocks depth m p o u) (slice_get blocks block) path outer t

-- the code's loop over the signals: `own` are the numbers so far
pub record IsPut (path : Option (List ℕ)) (lines : List SignalLine) (old : TablesOf)
    (own : List SignalNumber) (new : TablesOf) : Type 0 where
  pub own_is : own ≡ numbered_in path lines old
  pub new_is : new ≡ put_signals path lines old
