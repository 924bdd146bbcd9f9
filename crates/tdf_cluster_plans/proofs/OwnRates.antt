-- Values that are set by place.
use Rattle.std.proofs.Common.{◌≡◌, ◌∙◌, ℕ, ◌+◌, ◌<◌, ◌≤◌, ◌⊎◌, inl, inr, List, length, map, set, sym, ap, arith}
use Rattle.std.proofs.lemmas.Bool.{cases_lt}
use Rattle.std.proofs.lemmas.Grind.{get_or-set_at}
use Rattle.std.proofs.lemmas.List.{ext_get_or, get_or-map, get_or-set_other, length-map, length-set}
use Rattle.std.specs.Prelude.{slice_index}
use Rattle.tdf_cluster_plans.specs.machine.Setting.{AreSet}

module _ (wanted numbers list : List ℕ) (i : ℕ) (are : AreSet wanted numbers i list) where
  -- one more
  pub set_more : (v : ℕ) → i < length numbers → v ≡ slice_index wanted (slice_index numbers i) → AreSet wanted numbers (i + 1) (set list i v)
  set_more v less is = record {
    long = length-set list i v ∙ are.long;
    each = λ k below. go k below (cases_lt k i);
  }
    where
      go : (k : ℕ) → k < i + 1 → (k < i) ⊎ (i ≤ k) → slice_index (set list i v) k ≡ slice_index wanted (slice_index numbers k)
      go k below (inl before) = get_or-set_other list i k v 0 (λ same. absurd (omega (arith, before, same))) ∙ are.each k before
      go k below (inr past) =
          let same : k ≡ i = omega (arith, below, past) in
          get_or-set_at list i k v 0 same (let l = are.long in omega (arith, less, l)) ∙ is ∙ ap (λ (n : ℕ). slice_index wanted (slice_index numbers n)) (sym same)

  -- all
  pub set_all : length numbers ≤ i → list ≡ map (slice_index wanted) numbers
  set_all past =
      ext_get_or 0 list (map (slice_index wanted) numbers) (are.long ∙ sym (length-map numbers (slice_index wanted)))
      (λ k below.
      let inside : k < length numbers = (let l = are.long in omega (arith, below, l)) in
      are.each k (omega (arith, inside, past)) ∙ sym (get_or-map (slice_index wanted) numbers k 0 0 inside))
