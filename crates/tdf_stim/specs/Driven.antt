-- The tree of a model whose event signals a table drives: a block after the last global, and its
-- instance with its `bind` lines at the end of `top`. Where no column drives, it stays as it is.
-- Source: own.
use Rattle.std.specs.Cmp.Lexicographic.{pointwise}
use Rattle.std.specs.List.{flat_map, list_any}
use Rattle.std.specs.Prelude.{ℕ, zero, suc, ◌+◌, Bool, nat_eq, if◌then◌else◌, List, [], ◌∷◌, ◌++◌, map, length, codes}
use Rattle.tdf_lang_tree.specs.Pure.{PureDe, PureGlobal, GShape, GTdf, GDe, GNet, PureTree}
use Rattle.tdf_lang_tree.specs.declared.blocks.Member.{Member}
use Rattle.tdf_lang_tree.specs.declared.blocks.Member.TheVariants as member
use Rattle.tdf_stim.specs.Driver.{counts, driver_block, driver_members, name_with}
use Rattle.tdf_stim.specs.Signals.{Column, driving}
use Rattle.tdf_stim_lines.specs.Numbered.{numbered}
use Rattle.tdf_tables.specs.Tables.{TableOf}

abbrev pub name_of_global : PureGlobal → List ℕ
name_of_global (GShape shape) = shape.name
name_of_global (GTdf block) = block.name
name_of_global (GDe block) = block.name
name_of_global (GNet block) = block.name

-- the names that a line of `top` declares
abbrev pub member_names : Member → List (List ℕ)
member_names (member.Port port) = port.name ∷ []
member_names (member.Signal line name format) = name ∷ []
member_names (member.DeSignal line name format start) = name ∷ []
member_names (member.Instance line name block) = name ∷ []
member_names (member.Bind line instance port target) = []

-- the global names and the names of `top`
abbrev pub names_in_use : PureTree → List (List ℕ)
names_in_use tree = map name_of_global tree.globals ++ flat_map member_names tree.top.members

-- `stim0`, `stim1` and so on
abbrev pub stim_name : (k : ℕ) → List ℕ
stim_name k = name_with (codes "stim") k

-- a name is in use
abbrev pub is_listed : List (List ℕ) → (name : List ℕ) → Bool
is_listed names name = list_any (pointwise nat_eq name) names

-- the least number from k on whose name is not in use; `room` is enough of tries
unfoldable pub free_from : (is_used : List ℕ → Bool) → (room k : ℕ) → ℕ
free_from is_used zero k = k
free_from is_used (suc room) k =
    if is_used (stim_name k) then free_from is_used room (k + 1) else k

-- tries that are enough: one more than lines that declare a name
abbrev pub tries : PureTree → ℕ
tries tree = length tree.globals + length tree.top.members + 1

-- the name of the driver and of its instance
abbrev pub driver_name : PureTree → List ℕ
driver_name tree = stim_name (free_from (is_listed (names_in_use tree)) (tries tree) 0)

-- a block after the last global, and lines at the end of `top`
abbrev pub with_parts : PureTree → PureDe → List Member → PureTree
with_parts tree block members = record {
  version = tree.version;
  resolution = tree.resolution;
  globals = tree.globals ++ GDe block ∷ [];
  top = record {
    line = tree.top.line;
    name = tree.top.name;
    members = tree.top.members ++ members;
  };
  traces = tree.traces;
}

-- the times of the rows as counts of the tree's resolution
abbrev pub times_of : PureTree → TableOf → List ℕ
times_of tree table = map (λ row. counts tree.resolution row.time) table.rows

abbrev pub with_driver : PureTree → List Column → (times : List ℕ) → PureTree
with_driver tree columns times = with_parts tree (driver_block (driver_name tree) columns times)
    (driver_members (driver_name tree) columns)

abbrev pub driven_by : PureTree → List Column → (times : List ℕ) → PureTree
driven_by tree [] times = tree
driven_by tree (column ∷ columns) times = numbered (with_driver tree (column ∷ columns) times)

-- the driven tree, its lines numbered as in its canonical text
unfoldable pub driven_tree : PureTree → TableOf → PureTree
driven_tree tree table = driven_by tree (driving tree table) (times_of tree table)
