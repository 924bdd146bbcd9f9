-- What a cluster has for its own edges, by the numbers of the model.
use Rattle.std.proofs.Common.{◌≡◌, ◌∙◌, ◌⊎◌, inl, inr, ℕ, ◌<◌, ◌≤◌, List, [], length, map, sym, ap, subst, arith}
use Rattle.std.proofs.lemmas.List.{get_or-map, length-map}
use Rattle.std.specs.Prelude.{slice_index}
use Rattle.tdf_places.proofs.Api.{spread_at, spread_elsewhere, spread_long, stands}
use Rattle.tdf_places.specs.Places.{IsNowhere, PlacesOf, StandApart}
use Rattle.tdf_places.specs.Spread.{spread}
use Rattle.tdf_rings.specs.Carried.{AreCarried, FitIn, ring_at}
use Rattle.tdf_rings.specs.Rings.{RingOf, ring_of}

module _ (places : PlacesOf) (apart : StandApart places) where
  module _ (rings : List RingOf) (bounds own : List ℕ) (long : length rings ≡ length places.numbers) (is : own ≡ map (slice_index bounds) places.numbers) where
    own_at : (i : ℕ) → i < length places.numbers → slice_index own i ≡ slice_index bounds (slice_index places.numbers i)
    own_at i less = ap (λ (l : List ℕ). slice_index l i) is ∙ get_or-map (slice_index bounds) places.numbers i 0 0 less

    -- the samples of the own rings have room in their bounds
    pub own_fit : FitIn bounds (spread (ring_of [] 0) places rings) → FitIn own rings
    own_fit fit = record {
      same = ap (λ (l : List ℕ). length l) is ∙ length-map places.numbers (slice_index bounds) ∙ sym long;
      fits = λ e less.
          let inside : e < length places.numbers = omega (arith, less, long) in
          let at = spread_at (ring_of [] 0) places apart rings e long inside in
          let all_long = spread_long (ring_of [] 0) places rings in
          let below = apart.within e inside in
          let room = fit.fits (slice_index places.numbers e) (omega (arith, below, all_long)) in
          subst (λ (b : ℕ). length (ring_at rings e).samples ≤ b) (sym (own_at e inside))
          (subst (λ (r : RingOf). length r.samples ≤ slice_index bounds (slice_index places.numbers e)) at room);
    }

    -- the own rings are carried: so are all
    pub all_carried : ((e : ℕ) → e < length (spread (ring_of [] 0) places rings) → (ring_at (spread (ring_of [] 0) places rings) e).capacity ≡ 0 → slice_index bounds e ≡ 0)
        → (new : List RingOf) → AreCarried own rings new → AreCarried bounds (spread (ring_of [] 0) places rings) (spread (ring_of [] 0) places new)
    all_carried others new carried = record {
      same = spread_long (ring_of [] 0) places new ∙ sym (spread_long (ring_of [] 0) places rings);
      moved = λ e less. go e less (stands places.numbers e);
    }
      where
        at : (i : ℕ) → i < length places.numbers → ring_at (spread (ring_of [] 0) places new) (slice_index places.numbers i)
            ≡ ring_of (ring_at (spread (ring_of [] 0) places rings) (slice_index places.numbers i)).samples (slice_index bounds (slice_index places.numbers i))
        at i less =
            spread_at (ring_of [] 0) places apart new i (carried.same ∙ long) less
            ∙ carried.moved i (omega (arith, less, long))
            ∙ ap (λ (b : ℕ). ring_of (ring_at rings i).samples b) (own_at i less)
            ∙ ap (λ (r : RingOf). ring_of r.samples (slice_index bounds (slice_index places.numbers i))) (sym (spread_at (ring_of [] 0) places apart rings i long less))

        go : (e : ℕ) → e < length (spread (ring_of [] 0) places rings) → ((i : ℕ) × (i < length places.numbers) × (slice_index places.numbers i ≡ e)) ⊎ IsNowhere places e
            → ring_at (spread (ring_of [] 0) places new) e ≡ ring_of (ring_at (spread (ring_of [] 0) places rings) e).samples (slice_index bounds e)
        go e less (inl found) =
            subst (λ (k : ℕ). ring_at (spread (ring_of [] 0) places new) k ≡ ring_of (ring_at (spread (ring_of [] 0) places rings) k).samples (slice_index bounds k)) found.2 (at found.0 found.1)
        go e less (inr none) =
            let inside : e < places.count = (let l = spread_long (ring_of [] 0) places rings in omega (arith, less, l)) in
            let old = spread_elsewhere (ring_of [] 0) places rings e inside none in
            spread_elsewhere (ring_of [] 0) places new e inside none
            ∙ ap (λ (b : ℕ). ring_of [] b) (sym (others e less (ap (λ (r : RingOf). r.capacity) old)))
            ∙ ap (λ (r : RingOf). ring_of r.samples (slice_index bounds e)) (sym old)
