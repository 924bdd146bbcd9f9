-- The driver that is planned gives the driven tree.
use Rattle.std.proofs.Common.{◌≡◌, ◌∙◌, ◌<◌, ℕ, false, List, [], ◌∷◌, Option, Some, None, Result, Ok, Err, IfOk, length, map, sym, ap, subst, arith}
use Rattle.std.proofs.lemmas.List.{length-map, nil_from_length}
use Rattle.tdf_base.specs.declared.memory.Memory.{Memory}
use Rattle.tdf_lang_tree.specs.Kept.{IsName}
use Rattle.tdf_lang_tree.specs.Pure.{PureDe, PureTree}
use Rattle.tdf_lang_tree.specs.Views.{pure_de}
use Rattle.tdf_lang_tree.specs.declared.blocks.Member.{Member}
use Rattle.tdf_stim.proofs.ColumnLists.{count_is}
use Rattle.tdf_stim.specs.Drivable.{IsDrivable, IsStimRefusal, first_row_line, has_long, is_off, is_too_large}
use Rattle.tdf_stim.specs.Driven.{driven_by, driven_tree, driver_name, times_of, with_parts}
use Rattle.tdf_stim.specs.Driver.{driver_block, driver_members}
use Rattle.tdf_stim.specs.Signals.{Column, SourceOf, columns_from, driving, sources_of}
use Rattle.tdf_stim.specs.declared.driver.Driver.{Driver}
use Rattle.tdf_stim.specs.declared.err.StimErr.{StimErr}
use Rattle.tdf_stim.specs.declared.err.StimErr.TheVariants as why
use Rattle.tdf_stim.specs.declared.signals.Source.{Source}
use Rattle.tdf_stim.specs.machine.Counted.{count_driving}
use Rattle.tdf_stim.specs.machine.Maps.{seen}
use Rattle.tdf_stim.specs.machine.Planned.{AreFine, HasParts, IsDriver, IsDriverFor, IsRefusal, finished_tree}
use Rattle.tdf_stim.specs.machine.Refused.{IsDigits, IsMemory, IsTime}
use Rattle.tdf_stim_lines.specs.Numbered.{numbered}
use Rattle.tdf_tables.specs.Rows.{row_of}
use Rattle.tdf_tables.specs.Tables.{TableOf, TableRow}
use Rattle.tdf_tables.specs.declared.table.Row.{Row}

pub finished_is : (tree : PureTree) (columns : List Column) (times : List ℕ) (d : Option Driver) → IsDriverFor tree columns times d → finished_tree tree d ≡ driven_by tree columns times
finished_is tree columns times None h = sym (ap (λ cs. driven_by tree cs times) h)
finished_is tree [] times (Some d) h = absurd (omega (arith, h.some))
finished_is tree (c ∷ cs) times (Some d) h =
    ap (λ (b : PureDe). numbered (with_parts tree b d.members.items)) h.block
    ∙ ap (λ (ms : List Member). numbered (with_parts tree (driver_block (driver_name tree) (c ∷ cs) times) ms)) h.members

pub planned_name : (tree : PureTree) (columns : List Column) (times : List ℕ) (d : Option Driver) → IsDriverFor tree columns times d → 0 < length columns → IsName (driver_name tree)
planned_name tree columns times None h some = absurd (omega (arith, ap length h))
planned_name tree columns times (Some d) h some = h.named

-- the parts that the code made
pub parts_made : (r : Result Driver Memory) (tree : PureTree) (columns : List Column) (times name : List ℕ) → 0 < length columns → IsName (driver_name tree) → name ≡ driver_name tree
    → IfOk r (λ d. pure_de d.block ≡ driver_block name columns times) → IfOk r (λ d. d.members.items ≡ driver_members name columns) → IfOk r (λ d. HasParts tree columns times d)
parts_made (Ok d) tree columns times name some named is block_is members_are = record {
  some = some;
  named = named;
  block = block_is ∙ ap (λ n. driver_block n columns times) is;
  members = members_are ∙ ap (λ n. driver_members n columns) is;
}
parts_made (Err e) tree columns times name some named is block_is members_are = tt

-- no column drives
pub none_driven : (rows : List TableRow) (sources : List (Option SourceOf)) → count_driving sources ≡ 0 → columns_from rows 0 sources ≡ []
none_driven rows sources none = nil_from_length (columns_from rows 0 sources) (count_is rows 0 sources ∙ none)

-- the size by what the code counts
pub size_is : (rows : List Row) (sources : List (Option Source)) (n m : ℕ) → n ≡ length rows → m ≡ count_driving (map seen sources)
    → is_too_large (length (map row_of rows)) (length (columns_from (map row_of rows) 0 (map seen sources))) ≡ is_too_large n m
size_is rows sources n m long many =
    ap (λ k. is_too_large k (length (columns_from (map row_of rows) 0 (map seen sources)))) (length-map rows row_of ∙ sym long)
    ∙ ap (is_too_large n) (count_is (map row_of rows) 0 (map seen sources) ∙ sym many)

pub fine_from : (tree : PureTree) (sources : List (Option SourceOf)) (rows : List TableRow) → is_too_large (length rows) (length (columns_from rows 0 sources)) ≡ false
    → first_row_line (λ row. has_long sources row.cells) rows ≡ None → first_row_line (λ row. is_off tree.resolution row.time) rows ≡ None → AreFine tree sources rows
fine_from tree sources rows few short on = record { few = few; short = short; on = on }

-- why a check refuses is why the table does
pub digits_refused : (tree : PureTree) (sources : List (Option SourceOf)) (rows : List TableRow) (e : StimErr) → is_too_large (length rows) (length (columns_from rows 0 sources)) ≡ false
    → IsDigits (first_row_line (λ row. has_long sources row.cells) rows) e → IsRefusal tree sources rows e
digits_refused tree sources rows why.TooMany few h = absurd h
digits_refused tree sources rows (why.Digits line) few h = (few, h)
digits_refused tree sources rows (why.Time line) few h = absurd h
digits_refused tree sources rows why.Memory few h = tt

pub time_refused : (tree : PureTree) (sources : List (Option SourceOf)) (rows : List TableRow) (e : StimErr) → is_too_large (length rows) (length (columns_from rows 0 sources)) ≡ false
    → first_row_line (λ row. has_long sources row.cells) rows ≡ None → IsTime (first_row_line (λ row. is_off tree.resolution row.time) rows) e → IsRefusal tree sources rows e
time_refused tree sources rows why.TooMany few short h = absurd h
time_refused tree sources rows (why.Digits line) few short h = absurd h
time_refused tree sources rows (why.Time line) few short h = (few, short, h)
time_refused tree sources rows why.Memory few short h = tt

-- ---- of the code's columns and rows, and of the table

pub planned_by : (tree : PureTree) (table : TableOf) (sources : List (Option SourceOf)) (rows : List TableRow) (d : Option Driver) → sources ≡ sources_of tree table → rows ≡ table.rows
    → IsDriver tree sources rows d → IsDriver tree (sources_of tree table) table.rows d
planned_by tree table sources rows d sources_are rows_are h =
    subst (λ rs. IsDriver tree (sources_of tree table) rs d) rows_are (subst (λ ss. IsDriver tree ss rows d) sources_are h)

pub fine_by : (tree : PureTree) (table : TableOf) (sources : List (Option SourceOf)) (rows : List TableRow) → sources ≡ sources_of tree table → rows ≡ table.rows
    → AreFine tree sources rows → IsDrivable tree table
fine_by tree table sources rows sources_are rows_are h = of_table (subst (λ rs. AreFine tree (sources_of tree table) rs) rows_are (subst (λ ss. AreFine tree ss rows) sources_are h))
  where
    of_table : AreFine tree (sources_of tree table) table.rows → IsDrivable tree table
    of_table fine = record { few = fine.few; short = fine.short; on = fine.on }

pub refused_by : (tree : PureTree) (table : TableOf) (sources : List (Option SourceOf)) (rows : List TableRow) (e : StimErr) → sources ≡ sources_of tree table → rows ≡ table.rows
    → IsRefusal tree sources rows e → IsStimRefusal tree table e
refused_by tree table sources rows e sources_are rows_are h = of_table e (subst (λ rs. IsRefusal tree (sources_of tree table) rs e) rows_are (subst (λ ss. IsRefusal tree ss rows e) sources_are h))
  where
    of_table : (e : StimErr) → IsRefusal tree (sources_of tree table) table.rows e → IsStimRefusal tree table e
    of_table why.TooMany h = h
    of_table (why.Digits line) h = h
    of_table (why.Time line) h = h
    of_table why.Memory h = tt

pub memory_refused : (tree : PureTree) (table : TableOf) (e : StimErr) → IsMemory e → IsStimRefusal tree table e
memory_refused tree table why.TooMany h = absurd h
memory_refused tree table (why.Digits line) h = absurd h
memory_refused tree table (why.Time line) h = absurd h
memory_refused tree table why.Memory h = tt

-- the planned driver makes the driven tree
pub driven_is : (tree : PureTree) (table : TableOf) (d : Option Driver) → IsDriver tree (sources_of tree table) table.rows d → finished_tree tree d ≡ driven_tree tree table
unfolding driven_tree
driven_is tree table d h = finished_is tree (driving tree table) (times_of tree table) d h
