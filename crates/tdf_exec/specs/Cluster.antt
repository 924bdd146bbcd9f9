-- A cluster in progress, and what its plan still holds.
-- Source: own.
use Rattle.std.specs.List.{count_by}
use Rattle.std.specs.Prelude.{ℕ, Bool, false, List, Option, Some, None, drop, nat_eq, option_map, slice_get}
use Rattle.tdf_dynamic_plans.specs.Attributes.{AttrsOf}
use Rattle.tdf_dynamic_plans.specs.Known.{PlansOf}
use Rattle.tdf_exec.specs.declared.runners.Runner.{Runner}
use Rattle.tdf_rings.specs.Rings.{RingOf}
use Rattle.tdf_schedule.specs.declared.entry.Entry.{Entry}

pub record ClusterOf : Type 0 where
  pub number : ℕ
  -- the attributes in force, and the plan under them
  pub table : List AttrsOf
  pub entries : List Entry
  pub bounds : List ℕ
  pub period : ℕ
  -- the plans that are known
  pub known : PlansOf
  -- how many entries are done in this period, and whether its change bodies have run
  pub place : ℕ
  pub crossed : Bool
  -- by edge of the flat model: the rates in force, and the samples that are held
  pub reads : List ℕ
  pub writes : List ℕ
  pub rings : List RingOf
  -- by actor of the flat model: what it needs to fire, and its activations done since the cluster
  -- was made
  pub runners : List Runner
  pub positions : List ℕ

abbrev pub offset_in : Option Entry → Option ℕ
offset_in entry = option_map (λ (x : Entry). x.offset) entry

-- the offset of the next entry, none where the period is done
abbrev pub next_offset : ClusterOf → Option ℕ
next_offset c = offset_in (slice_get c.entries c.place)

-- how many entries of an offset are still to come
unfoldable pub due_from : (place offset : ℕ) → List Entry → ℕ
due_from place offset entries =
    count_by (λ (x : Entry). nat_eq x.offset offset) (drop place entries)

abbrev pub due_count : ClusterOf → (offset : ℕ) → ℕ
due_count c offset = due_from c.place offset c.entries

abbrev pub is_offset : Option ℕ → ℕ → Bool
is_offset None offset = false
is_offset (Some next) offset = nat_eq next offset

-- whether the next entry has this offset
abbrev pub is_next_due : ClusterOf → (offset : ℕ) → Bool
is_next_due c offset = is_offset (next_offset c) offset
