-- What is kept for one of a cluster's own actors is replaced, seen by the numbers of the model.
use Rattle.std.proofs.Common.{◌≡◌, ◌≢◌, ◌∙◌, ℕ, ◌<◌, List, Some, length, sym, ap}
use Rattle.std.proofs.Math.ListN.{get_or}
use Rattle.std.proofs.lemmas.List.{set-get_or}
use Rattle.std.proofs.lemmas.Option.{get_or_from_slice_get, slice_get-get_or}
use Rattle.std.specs.Prelude.{slice_get, slice_index, slice_set}
use Rattle.tdf_bind_tables.specs.FlatTables.{FlatTablesOf}
use Rattle.tdf_exec.proofs.Owned.{value_there}
use Rattle.tdf_exec.specs.declared.runners.Runner.{Runner}
use Rattle.tdf_exec.specs.declared.runners.Runner.TheVariants as runner
use Rattle.tdf_exec.specs.views.Actors.{spread_runners}
use Rattle.tdf_places.proofs.Api.{spread_nowhere, spread_put}
use Rattle.tdf_places.specs.Places.{AreDistinct, PlacesOf}

module _ (tables : FlatTablesOf) (numbers : List ℕ) (apart : AreDistinct (length tables.actors) numbers) (runners : List Runner) (long : length runners ≡ length numbers) (m : ℕ) where
  abbrev own : PlacesOf
  own = record { numbers = numbers; count = length tables.actors }

  module _ (place : ℕ) (inside : place < length numbers) (is : slice_index numbers place ≡ m) where
    number_at : slice_get numbers place ≡ Some m
    number_at = slice_get-get_or numbers place 0 inside ∙ ap Some is

    pub kept_here : (r : Runner) → r ≡ get_or runners place r → slice_get (spread_runners tables numbers runners) m ≡ Some r
    kept_here r read = value_there runner.Outside own apart runners long place m r number_at read

    pub kept_set : (r : Runner) → spread_runners tables numbers (slice_set runners place r) ≡ slice_set (spread_runners tables numbers runners) m r
    kept_set r = spread_put runner.Outside own apart runners long place m number_at r

  -- nothing is kept for an actor with another number
  module _ (none : (i : ℕ) → i < length numbers → slice_index numbers i ≢ m) where
    pub kept_none : (r : Runner) → slice_get (spread_runners tables numbers runners) m ≡ Some r → r ≡ runner.Outside
    kept_none r at = sym (get_or_from_slice_get (spread_runners tables numbers runners) m r runner.Outside at) ∙ spread_nowhere runner.Outside own runners m none

    pub none_set : spread_runners tables numbers runners ≡ slice_set (spread_runners tables numbers runners) m runner.Outside
    none_set = sym (ap (slice_set (spread_runners tables numbers runners) m) (sym (spread_nowhere runner.Outside own runners m none)) ∙ set-get_or (spread_runners tables numbers runners) m runner.Outside)
