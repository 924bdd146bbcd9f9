-- A list that is made of values by their numbers has them there, and 0 elsewhere; and values that are picked from a list.
use Rattle.std.proofs.Common.{◌≡◌, ℕ, ◌<◌, List, length, map, refl, sym, subst}
use Rattle.std.proofs.lemmas.List.{get_or-map, length-map}
use Rattle.std.specs.Prelude.{slice_index}
use Rattle.tdf_cluster_net.proofs.Edges.{number_once}
use Rattle.tdf_cluster_net.specs.Numbers.{AllBelow, AreNumbers, AreSpread, IsAmong, Rise}
use Rattle.tdf_places.proofs.Api.{spread_at, spread_long, spread_nowhere}
use Rattle.tdf_places.specs.Places.{PlacesOf, StandApart}
use Rattle.tdf_places.specs.Spread.{spread_by}

module _ (numbers : List ℕ) (count : ℕ) (within : AllBelow count numbers) (rising : Rise numbers) where
  are_numbers : AreNumbers count (IsAmong numbers) numbers
  are_numbers = record {
    within = within;
    rising = rising;
    meant = λ i i_in. (i, i_in, refl);
    all = λ m m_in found. found;
  }

  abbrev places : PlacesOf
  places = record { numbers = numbers; count = count }

  apart : StandApart places
  apart = record { within = within; once = number_once numbers count (IsAmong numbers) are_numbers }

  pub spread_by_are : (values all : List ℕ) → length values ≡ length numbers → all ≡ spread_by count 0 numbers values → AreSpread numbers count values all
  spread_by_are values all long is = subst (AreSpread numbers count values) (sym is) (record {
    long = spread_long 0 places values;
    at = λ i i_in. spread_at 0 places apart values i long i_in;
    elsewhere = λ m none. spread_nowhere 0 places values m none;
  })

module _ (numbers all own : List ℕ) (is : own ≡ map (slice_index all) numbers) where
  pub picked_long : length own ≡ length numbers
  picked_long = subst (λ (l : List ℕ). length l ≡ length numbers) (sym is) (length-map numbers (slice_index all))

  pub picked_each : (i : ℕ) → i < length numbers → slice_index own i ≡ slice_index all (slice_index numbers i)
  picked_each i i_in = subst (λ (l : List ℕ). slice_index l i ≡ slice_index all (slice_index numbers i)) (sym is) (get_or-map (slice_index all) numbers i 0 0 i_in)
