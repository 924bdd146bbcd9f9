-- The samplers that are due at an offset of a plan (own): each with an entry of this offset gets
-- the value of its signal, and no other changes.
use Rattle.std.specs.List.Sorted.{IsNonDecreasingBy}
use Rattle.std.specs.Prelude.{◌≡◌, ℕ, true, List, length, Some, slice_get}
use Rattle.tdf_convert.specs.declared.links.Link.{Link}
use Rattle.tdf_fixed.specs.declared.raw.Raw.{Raw}
use Rattle.tdf_graph.specs.declared.actors.Edge.{Edge}
use Rattle.tdf_schedule.specs.Plan.{IsPlan}
use Rattle.tdf_schedule.specs.declared.entry.Entry.{Entry}

-- the entries of a plan go by offset
abbrev pub AreByOffset : List Entry → Type 0
AreByOffset entries = IsNonDecreasingBy (λ x. x.offset) entries

-- those of each plan do
abbrev pub PlansGoByOffset : Type 0
PlansGoByOffset = (edges : List Edge) (pace : ℕ → ℕ) (counts : List ℕ) (entries : List Entry)
    → IsPlan edges pace counts entries → AreByOffset entries

-- an actor has an entry of this offset
pub record IsDue (entries : List Entry) (offset actor : ℕ) : Type 0 where
  pub place : ℕ
  pub entry : Entry
  pub at : slice_get entries place ≡ Some entry
  pub when : entry.offset ≡ offset
  pub who : entry.actor ≡ actor

pub record AreSampled (entries : List Entry) (offset : ℕ) (links : List Link) (values : List Raw)
    (old new : List Raw) : Type 0 where
  pub same : length new ≡ length old
  pub due : (j : ℕ) (l : Link) → slice_get links j ≡ Some l → l.sampler ≡ true
      → IsDue entries offset l.actor → slice_get new l.place ≡ slice_get values l.signal
  pub others : (i : ℕ) → ((j : ℕ) (l : Link) → slice_get links j ≡ Some l → l.sampler ≡ true
      → IsDue entries offset l.actor → l.place ≡ i → ⊥) → slice_get new i ≡ slice_get old i
