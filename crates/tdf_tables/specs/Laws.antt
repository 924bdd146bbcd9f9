-- What holds of tables and their texts.
-- Source: own.
use Rattle.std.specs.Prelude.{◌≡◌, ℕ, List}
use Rattle.tdf_tables.specs.Faults.{HasTableFault}
use Rattle.tdf_tables.specs.Tables.{TableOf, SpellsTable}

-- a text is that of one table
abbrev pub TableIsOne : Type 0
TableIsOne = (text : List ℕ) (s t : TableOf) → SpellsTable text s → SpellsTable text t → s ≡ t

-- a text has one line at fault
abbrev pub LineIsOne : Type 0
LineIsOne = (text : List ℕ) (m n : ℕ) → HasTableFault text m → HasTableFault text n → m ≡ n

-- the text of a table has no line at fault
abbrev pub TableOrFault : Type 0
TableOrFault = (text : List ℕ) (t : TableOf) (line : ℕ) → SpellsTable text t
    → HasTableFault text line → ⊥
