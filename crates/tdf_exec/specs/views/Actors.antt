-- What a cluster has by actor of the flat model, and the places of its own actors.
-- Source: own.
use Rattle.std.specs.Prelude.{ℕ, ◌≡◌, ◌+◌, ◌-◌, ◌^◌, List, Some, length, min, slice_get, slice_index, slice_index_or, slice_set}
use Rattle.tdf_bind_tables.specs.FlatTables.{FlatTablesOf}
use Rattle.tdf_convert.specs.Outputs.{OutputsOf}
use Rattle.tdf_exec.specs.declared.runners.Runner.{Runner}
use Rattle.tdf_exec.specs.declared.runners.Runner.TheVariants as runner
use Rattle.tdf_exec.specs.machine.Fired.{HasGiven, HasRun}
use Rattle.tdf_exec_firing.specs.Edges.{EdgesOf}
use Rattle.tdf_expr.specs.declared.checked.Checked.{Checked}
use Rattle.tdf_fixed.specs.declared.raw.Raw.{Raw}
use Rattle.tdf_places.specs.Places.{PlacesOf}
use Rattle.tdf_places.specs.Spread.{spread_by}
use Rattle.tdf_rings.specs.Rings.{RingOf}

pub record ActorsOf : Type 0 where
  pub places : PlacesOf
  -- what each needs to fire, and how often each has fired
  pub runners : List Runner
  pub positions : List ℕ

-- other things are kept for the actors
abbrev pub with_runners : List Runner → ActorsOf → ActorsOf
with_runners runners actors = record actors { runners = runners }

-- what is kept for an actor by its number
abbrev pub kept_at : List Runner → ℕ → Runner
kept_at runners m = slice_index_or runners m runner.Outside

-- an actor has fired once, and its activations are counted, up to the greatest number; the others
-- are as they were
pub record HasFiredOnce (checked : Checked) (inputs : List Raw) (actor : ℕ) (edges : EdgesOf)
    (rings : List RingOf) (old new : ActorsOf) (before after : OutputsOf) : Type 0 where
  pub was : Runner
  pub at : slice_get old.runners actor ≡ Some was
  pub now : Runner
  pub position : ℕ
  pub counted : position ≡ min (slice_index old.positions actor + 1) (2 ^ 64 - 1)
  pub new_is : new ≡ record old {
    runners = slice_set old.runners actor now;
    positions = slice_set old.positions actor position;
  }
  pub ran : HasRun checked inputs edges.reads edges.writes edges.rings rings was now
  pub given : HasGiven actor edges.rings now before after

-- what is kept for all actors of a model, out of what is kept for those with these numbers
abbrev pub spread_runners : FlatTablesOf → (numbers : List ℕ) → List Runner → List Runner
spread_runners tables numbers runners =
    spread_by (length tables.actors) runner.Outside numbers runners
