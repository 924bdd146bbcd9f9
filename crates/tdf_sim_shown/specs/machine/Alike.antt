-- Traces of one signal, and the first of them.
-- Source: own.
use Rattle.std.specs.Prelude.{◌≡◌, ◌<◌, ◌≤◌, ℕ, List, Some, slice_get}
use Rattle.tdf_bind_connections.specs.declared.traces.TraceRow.{TraceRow}
use Rattle.tdf_saved.specs.State.{ColumnStateOf}

-- two traces show one signal
pub record IsLike (traces : List TraceRow) (m n : ℕ) : Type 0 where
  pub one : TraceRow
  pub other : TraceRow
  pub one_at : slice_get traces m ≡ Some one
  pub other_at : slice_get traces n ≡ Some other
  pub events : one.event ≡ other.event
  pub signals : one.signal ≡ other.signal

-- the first that shows the signal of a trace
pub record IsFirstLike (traces : List TraceRow) (n first : ℕ) : Type 0 where
  pub within : first ≤ n
  pub is : IsLike traces first n
  pub none : (k : ℕ) → k < first → IsLike traces k n → ⊥

-- columns of one signal are equal
abbrev pub AreAlike : List TraceRow → List ColumnStateOf → Type 0
AreAlike traces columns = (m n : ℕ) → IsLike traces m n → slice_get columns m ≡ slice_get columns n

-- those of the first n traces are, each with the first of its signal
abbrev pub AreAlikeTo : List TraceRow → List ColumnStateOf → (n : ℕ) → Type 0
AreAlikeTo traces columns n = (m : ℕ) → m < n → (first : ℕ) × IsFirstLike traces m first
    × (slice_get columns first ≡ slice_get columns m)
