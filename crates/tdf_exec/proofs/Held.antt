-- What a cluster holds, list by list.
use Rattle.std.proofs.Common.{◌≡◌, ◌∙◌, ◌+◌, ◌<◌, ◌++◌, ◌∷◌, [], ℕ, ℤ, List, Some, length, map, slice_get, slice_index, slice_index_or, sym, take, ap}
use Rattle.std.proofs.Math.ListN.{get_or-map}
use Rattle.std.proofs.lemmas.List.{map_more}
use Rattle.std.proofs.lemmas.Option.{get_or_from_slice_get, slice_get_within}
use Rattle.tdf_exec.specs.Saved.{edge_states, nums_of}
use Rattle.tdf_fixed.specs.declared.raw.Raw.{Raw}
use Rattle.tdf_rings.specs.Carried.{ring_at}
use Rattle.tdf_rings.specs.Rings.{RingOf, ring_of}

-- one sample more
pub nums_next : (samples : List Raw) (i : ℕ) (v : Raw) (nums new : List ℤ) → slice_get samples i ≡ Some v → nums ≡ nums_of (take i samples) → new ≡ nums ++ v.num ∷ []
    → new ≡ nums_of (take (i + 1) samples)
nums_next samples i v nums new at before is =
    is ∙ ap (λ (l : List ℤ). l ++ v.num ∷ []) before
    ∙ sym (map_more (λ (x : Raw). x.num) samples i v (slice_get_within samples i v at) ∙ ap (λ (x : Raw). nums_of (take i samples) ++ x.num ∷ []) (get_or_from_slice_get samples i v v at))

-- one edge more
module _ (rings : List RingOf) (numbers : List ℕ) (i : ℕ) where
  abbrev lists : List (List Raw)
  lists = map (λ (r : RingOf). r.samples) rings

  pub state_next : (edges : List (List ℤ)) → edges ≡ edge_states lists (take i numbers) → i < length numbers → (e : ℕ) → e ≡ slice_index numbers i → (nums : List ℤ)
      → nums ≡ nums_of (ring_at rings e).samples → (new : List (List ℤ)) → new ≡ edges ++ nums ∷ [] → new ≡ edge_states lists (take (i + 1) numbers)
  state_next edges before within e e_is nums nums_are new is =
      let there : nums_of (slice_index_or lists (slice_index numbers i) []) ≡ nums_of (ring_at rings e).samples =
      ap nums_of (get_or-map (λ (r : RingOf). r.samples) rings (slice_index numbers i) (ring_of [] 0)) ∙ ap (λ k. nums_of (ring_at rings k).samples) (sym e_is) in
      is ∙ ap (λ (l : List (List ℤ)). l ++ nums ∷ []) before
      ∙ ap (λ (l : List ℤ). edge_states lists (take i numbers) ++ l ∷ []) (nums_are ∙ sym there)
      ∙ sym (map_more (λ k. nums_of (slice_index_or lists k [])) numbers i 0 within)
