-- The columns of a table: each has a cell for each row, and where one drives there are few rows.
use Rattle.std.proofs.Common.{◌≡◌, ◌∙◌, ℕ, zero, suc, ◌+◌, ◌*◌, ◌<◌, ◌≤◌, Bool, true, false, ◌&&◌, ◌||◌, nat_lt, List, [], ◌∷◌, length, Option, Some, None, slice_get, slice_index_or, refl, sym, ap, inl, inr, arith}
use Rattle.std.proofs.lemmas.Bool.{true≢false}
use Rattle.std.proofs.lemmas.Bool.Decides.{leb_tells}
use Rattle.std.proofs.lemmas.List.{length-map}
use Rattle.std.proofs.lemmas.Option.{same_Some}
use Rattle.tdf_base.specs.Limits.{greatest_rate, heaviest_body}
use Rattle.tdf_lang_tree.specs.Pure.{PureTree}
use Rattle.tdf_stim.specs.Drivable.{has_too_many, is_too_large}
use Rattle.tdf_stim.specs.Driven.{times_of}
use Rattle.tdf_stim.specs.Driver.{counts}
use Rattle.tdf_stim.specs.Signals.{Column, SourceOf, column_cells, columns_from, driving, sources_of}
use Rattle.tdf_tables.specs.Tables.{TableOf, TableRow}

column_long : (rows : List TableRow) (place : ℕ) (sources : List (Option SourceOf)) (j : ℕ) (c : Column) → slice_get (columns_from rows place sources) j ≡ Some c → length c.cells ≡ length rows
unfolding columns_from
column_long rows place [] j c at = absurd (cc)
column_long rows place (None ∷ sources) j c at = column_long rows (place + 1) sources j c at
column_long rows place (Some s ∷ sources) zero c at =
    let same = same_Some (record { label = s.label; shape = s.shape; start = s.start; cells = column_cells place rows }) c at in
    ap (λ (x : Column). length x.cells) (sym same) ∙ length-map rows (λ (row : TableRow). slice_index_or row.cells place [])
column_long rows place (Some s ∷ sources) (suc j) c at = column_long rows (place + 1) sources j c at

pub cells_long : (tree : PureTree) (table : TableOf) (j : ℕ) (c : Column) → slice_get (driving tree table) j ≡ Some c → length c.cells ≡ length (times_of tree table)
cells_long tree table j c at = column_long table.rows 0 (sources_of tree table) j c at ∙ sym (length-map table.rows (λ (row : TableRow). counts tree.resolution row.time))

or_first : (a b : Bool) → (a || b) ≡ false → a ≡ false
or_first true b h = absurd (cc)
or_first false b h = refl

and_second : (a b : Bool) → (a && b) ≡ false → a ≡ true → b ≡ false
and_second true b h is = h
and_second false b h is = absurd (cc)

few_by : (rows columns : ℕ) → is_too_large rows columns ≡ false → 0 < columns → rows ≤ greatest_rate
few_by rows columns small some =
    let test : nat_lt 0 columns ≡ true = elim (leb_tells 1 columns) [ inl y ↦ y.0 | inr n ↦ (let none = n.1 in absurd (omega (arith, none, some))) ] in
    let few : nat_lt greatest_rate rows ≡ false = or_first (nat_lt greatest_rate rows) (nat_lt heaviest_body (rows * (2 + columns) + 2)) (and_second (nat_lt 0 columns) _ small test) in
    elim (leb_tells (suc greatest_rate) rows) [ inl y ↦ absurd (true≢false (sym y.0 ∙ few)) | inr n ↦ (let low = n.1 in omega (arith, low)) ]

pub few_rows : (tree : PureTree) (table : TableOf) → has_too_many tree table ≡ false → 0 < length (driving tree table) → length (times_of tree table) ≤ greatest_rate
few_rows tree table small some =
    let e = length-map table.rows (λ (row : TableRow). counts tree.resolution row.time) in
    let f = few_by (length table.rows) (length (driving tree table)) small some in
    omega (arith, e, f)
