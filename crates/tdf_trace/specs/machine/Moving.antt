-- How writing goes on, for all cells that the columns stand for.
-- Source: own.
use Rattle.std.specs.Io.KnownBytes.{Appends}
use Rattle.std.specs.Prelude.{◌≡◌, ◌⊎◌, ℕ, ◌≤◌, Bool, true, Option, List}
use Rattle.tdf_io.specs.Bytes.{AppendsFront}
use Rattle.tdf_trace_rows.specs.Rows.{Cells}
use Rattle.tdf_trace.specs.Stands.{AreGiven, NextRowWaits, RowsSeen, Stands}
use Rattle.tdf_trace.specs.Writings.{AboutSeen, rows_text}

-- rows were written; where they wait for cells, each of theirs was given
pub record Moves (about : AboutSeen) (waits : Bool) (cells : Cells) (old new : RowsSeen)
    (before after : Option (List ℕ)) : Type 0 where
  pub later : old.upto ≤ new.upto
  pub stands : Stands cells new
  pub given : waits ≡ true → AreGiven cells old.upto new.upto
  pub took : Appends before after (rows_text about cells old.upto new.upto)

abbrev pub MovesOn : AboutSeen → (waits : Bool) → (old new : RowsSeen)
    → (before after : Option (List ℕ)) → Type 0
MovesOn about waits old new before after =
    (cells : Cells) → Stands cells old → Moves about waits cells old new before after

-- a front part of the rows below a limit was written
abbrev pub Breaks : AboutSeen → RowsSeen → (limit : ℕ) → (before after : Option (List ℕ))
    → Type 0
Breaks about old limit before after =
    (cells : Cells) → Stands cells old
    → AppendsFront before after (rows_text about cells old.upto limit)

-- all rows below the limit are written, or, where rows wait, those up to the first that does
abbrev pub IsDone : (waits : Bool) → RowsSeen → (limit : ℕ) → Type 0
IsDone waits rows limit = (cells : Cells) → Stands cells rows
    → (limit ≤ rows.upto) ⊎ ((waits ≡ true) × NextRowWaits cells rows.upto limit)
