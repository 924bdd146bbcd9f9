-- How samplers get their values, entry by entry (own).
use Rattle.std.specs.Prelude.{◌≡◌, ℕ, ◌<◌, ◌≤◌, true, if◌then◌else◌, List, length, Option, Some, None, pos, slice_get, slice_set, slice_index_or}
use Rattle.tdf_convert.specs.Links.{link_of}
use Rattle.tdf_convert.specs.declared.links.Link.{Link}
use Rattle.tdf_fixed.specs.declared.raw.Raw.{Raw}
use Rattle.tdf_schedule.specs.declared.entry.Entry.{Entry}

abbrev pub no_value : Raw
no_value = record { num = pos 0; frac = 0 }

abbrev pub sampled_in : Option Link → List Raw → List Raw → List Raw
sampled_in None values inputs = inputs
sampled_in (Some l) values inputs =
    if l.sampler
    then slice_set inputs l.place (slice_index_or values l.signal no_value)
    else inputs

-- the inputs once an actor's entry was looked at
abbrev pub sampled_by : List Link → List Raw → (actor : ℕ) → List Raw → List Raw
sampled_by links values actor inputs = sampled_in (link_of links actor) values inputs

-- an actor has one of the entries from `low` up to `high`
pub record IsAmong (entries : List Entry) (low high actor : ℕ) : Type 0 where
  pub place : ℕ
  pub entry : Entry
  pub from : low ≤ place
  pub below : place < high
  pub at : slice_get entries place ≡ Some entry
  pub who : entry.actor ≡ actor

pub record AreSampledUpTo (entries : List Entry) (low high : ℕ) (links : List Link)
    (values : List Raw) (old new : List Raw) : Type 0 where
  pub same : length new ≡ length old
  pub due : (j : ℕ) (l : Link) → slice_get links j ≡ Some l → l.sampler ≡ true
      → IsAmong entries low high l.actor → slice_get new l.place ≡ slice_get values l.signal
  pub others : (i : ℕ) → ((j : ℕ) (l : Link) → slice_get links j ≡ Some l → l.sampler ≡ true
      → IsAmong entries low high l.actor → l.place ≡ i → ⊥) → slice_get new i ≡ slice_get old i
