-- The literal of a column at a time: that of the last row at or before it.
-- Source: own.
use Rattle.std.specs.Prelude.{◌≡◌, ◌<◌, ◌≤◌, ℕ, List, [], ◌∷◌, length, Option, Some, None, nat_le, if◌then◌else◌, slice_get, slice_index}
use Rattle.tdf_lang_tree.specs.declared.names.Lit.{Lit}

-- the first of two that is there
abbrev pub first_literal : Option Lit → Option Lit → Option Lit
first_literal None other = other
first_literal (Some lit) other = Some lit

-- the literal of the last row at or before a time, by the times of the rows and their literals
unfoldable pub literal_at : (times : List ℕ) → List Lit → (time : ℕ) → Option Lit
literal_at [] lits time = None
literal_at (t ∷ ts) [] time = None
literal_at (t ∷ ts) (lit ∷ lits) time =
    first_literal (literal_at ts lits time) (if nat_le t time then Some lit else None)

-- where a row is at or before a time and all later ones are after it, its literal is that
abbrev pub LastRowGives : Type 0
LastRowGives = (times : List ℕ) (lits : List Lit) (time row : ℕ) → length lits ≡ length times
    → row < length times → slice_index times row ≤ time
    → ((later : ℕ) → row < later → later < length times → time < slice_index times later)
    → literal_at times lits time ≡ slice_get lits row
