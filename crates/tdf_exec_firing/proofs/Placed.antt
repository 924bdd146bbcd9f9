-- An edge of a cluster, at its place and by its number.
use Rattle.std.proofs.Common.{◌≡◌, ◌∙◌, ◌⊎◌, inl, inr, ℕ, ◌<◌, List, [], Some, length, sym, ap, subst, arith}
use Rattle.std.proofs.Math.ListN.{get_or}
use Rattle.std.proofs.lemmas.List.{get_or_default}
use Rattle.std.proofs.lemmas.Option.{get_or_from_slice_get, slice_get_within}
use Rattle.std.specs.Prelude.{slice_get, slice_index, slice_set}
use Rattle.std.specs.Vec.{with_item}
use Rattle.tdf_exec_firing.specs.Edges.{EdgesOf, with_rings}
use Rattle.tdf_exec_firing.specs.contracts.edges.Edges.{the_invariant, the_view}
use Rattle.tdf_exec_firing.specs.declared.edges.Edges.TheInside.{Inside}
use Rattle.tdf_places.proofs.Api.{spread_at, spread_elsewhere, spread_long, spread_set, stands}
use Rattle.tdf_places.specs.Places.{IsAmong, IsNowhere, PlacesOf, StandApart}
use Rattle.tdf_places.specs.Spread.{spread}
use Rattle.tdf_rings.specs.Carried.{ring_at}
use Rattle.tdf_rings.specs.Rings.{RingOf, ring_of}

-- after one more change of the samples the rates are still those of the beginning
pub rest_more : (old cur new : EdgesOf) (rings : List RingOf) → cur ≡ with_rings cur.rings old → new ≡ with_rings rings cur → new ≡ with_rings new.rings old
rest_more old cur new rings rest is = is ∙ ap (with_rings rings) rest ∙ ap (λ l. with_rings l old) (sym (ap (λ (e : EdgesOf). e.rings) is))

-- what isn't nowhere is somewhere
pub somewhere : (places : PlacesOf) (edge : ℕ) → (IsNowhere places edge → ⊥) → IsAmong places.numbers edge
somewhere places edge not = go (stands places.numbers edge)
  where
    go : IsAmong places.numbers edge ⊎ IsNowhere places edge → IsAmong places.numbers edge
    go (inl found) = found
    go (inr none) = absurd (not none)

module _ (inside : Inside) (old : EdgesOf) (seen : the_view inside ≡ old) where
  -- an edge at no place
  module _ (edge : ℕ) (below : edge < length old.rings) (none : IsNowhere inside.places edge) where
    within : edge < inside.places.count
    within =
        let many : length (the_view inside).rings ≡ length old.rings = ap (λ (e : EdgesOf). length e.rings) seen in
        let long = spread_long (ring_of [] 0) inside.places inside.rings.items in omega (arith, below, many, long)

    pub no_ring_at : ring_at old.rings edge ≡ ring_of [] 0
    no_ring_at = ap (λ (e : EdgesOf). ring_at e.rings edge) (sym seen) ∙ spread_elsewhere (ring_of [] 0) inside.places inside.rings.items edge within none

    one_at : (values : List ℕ) → slice_index (spread 1 inside.places values) edge ≡ 1
    one_at values =
        get_or_default (spread 1 inside.places values) edge 0 1 (let long = spread_long 1 inside.places values in let w = within in omega (arith, w, long))
        ∙ spread_elsewhere 1 inside.places values edge within none

    pub one_read_at : slice_index old.reads edge ≡ 1
    one_read_at = ap (λ (e : EdgesOf). slice_index e.reads edge) (sym seen) ∙ one_at inside.reads.items

    pub one_written_at : slice_index old.writes edge ≡ 1
    one_written_at = ap (λ (e : EdgesOf). slice_index e.writes edge) (sym seen) ∙ one_at inside.writes.items

  -- an edge at a place
  module _ (apart : StandApart inside.places) (kept : the_invariant inside) (place edge : ℕ) (found : slice_get inside.places.numbers place ≡ Some edge) where
    here : place < length inside.places.numbers
    here = slice_get_within inside.places.numbers place edge found

    number : slice_index inside.places.numbers place ≡ edge
    number = get_or_from_slice_get inside.places.numbers place edge 0 found

    pub ring_is : (ring : RingOf) → ring ≡ get_or inside.rings.items place ring → ring ≡ ring_at old.rings edge
    ring_is ring is =
        is ∙ get_or_default inside.rings.items place ring (ring_of [] 0) (let h = here in let long = kept.rings_long in omega (arith, h, long))
        ∙ sym (spread_at (ring_of [] 0) inside.places apart inside.rings.items place kept.rings_long here)
        ∙ ap (ring_at (spread (ring_of [] 0) inside.places inside.rings.items)) number ∙ ap (λ (e : EdgesOf). ring_at e.rings edge) seen

    rate_is : (values : List ℕ) → length values ≡ length inside.places.numbers → (n : ℕ) → n ≡ get_or values place n → n ≡ slice_index (spread 1 inside.places values) edge
    rate_is values long n is =
        is ∙ get_or_default values place n 1 (let h = here in omega (arith, h, long)) ∙ sym (spread_at 1 inside.places apart values place long here)
        ∙ ap (λ m. get_or (spread 1 inside.places values) m 1) number
        ∙ get_or_default (spread 1 inside.places values) edge 1 0
        (let w = subst (λ m. m < inside.places.count) number (apart.within place here) in let whole = spread_long 1 inside.places values in omega (arith, w, whole))

    pub read_is : (n : ℕ) → n ≡ get_or inside.reads.items place n → n ≡ slice_index old.reads edge
    read_is n is = rate_is inside.reads.items kept.reads_long n is ∙ ap (λ (e : EdgesOf). slice_index e.reads edge) seen

    pub write_is : (n : ℕ) → n ≡ get_or inside.writes.items place n → n ≡ slice_index old.writes edge
    write_is n is = rate_is inside.writes.items kept.writes_long n is ∙ ap (λ (e : EdgesOf). slice_index e.writes edge) seen

    pub ring_set : (ring new : RingOf) → ring ≡ new → the_view (record inside { rings = with_item inside.rings place ring }) ≡ with_rings (slice_set old.rings edge new) old
    ring_set ring new is =
        ap (λ l. with_rings l (the_view inside)) (spread_set (ring_of [] 0) inside.places apart inside.rings.items place ring kept.rings_long here
        ∙ ap (λ n. slice_set (spread (ring_of [] 0) inside.places inside.rings.items) n ring) number)
        ∙ ap (λ (e : EdgesOf). with_rings (slice_set e.rings edge ring) e) seen ∙ ap (λ r. with_rings (slice_set old.rings edge r) old) is
