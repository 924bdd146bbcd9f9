-- The stack of actors.
use Rattle.std.proofs.Common.{◌≡◌, ◌∙◌, ℕ, ◌+◌, ◌<◌, ◌⊎◌, inl, inr, Bool, true, false, Some, List, [], ◌∷◌, length, sym, ap, subst, arith}
use Rattle.std.proofs.Math.ListN.{get_or}
use Rattle.std.proofs.lemmas.Bool.{cases_eq}
use Rattle.std.proofs.lemmas.List.{get_or-map, length-map}
use Rattle.std.proofs.lemmas.Option.{slice_get-get_or}
use Rattle.std.specs.Prelude.{slice_get}
use Rattle.tdf_graph.specs.declared.actors.Edge.{Edge}
use Rattle.tdf_schedule.specs.views.Work.{ArePushed, reader_of, readers_in}

-- the reader of an edge of a list
pub reader_at : (edges : List Edge) (list : List ℕ) (i : ℕ) (d : Edge) → i < length list → get_or list i 0 < length edges → (get_or edges (get_or list i 0) d).reader ≡ get_or (readers_in edges list) i 0
reader_at edges list i d here inside =
    sym (get_or-map (λ (k : ℕ). reader_of (slice_get edges k)) list i 0 0 here ∙ ap reader_of (slice_get-get_or edges (get_or list i 0) d inside))

pub readers_long : (edges : List Edge) (list : List ℕ) → length (readers_in edges list) ≡ length list
readers_long edges list = length-map list (λ (k : ℕ). reader_of (slice_get edges k))

-- the first i + 1 of a list
pub pushed_more : (list : List ℕ) (i a : ℕ) (s0 s s2 : List ℕ) (o0 o o2 : List Bool) → i < length list → a ≡ get_or list i 0
    → ArePushed list i s0 s o0 o → ArePushed (a ∷ []) 1 s s2 o o2 → ArePushed list (i + 1) s0 s2 o0 o2
pushed_more list i a s0 s s2 o0 o o2 within a_is before step = record {
  flags = step.flags ∙ before.flags;
  few = let a' = step.few in let b = before.few in omega (arith, a', b);
  kept = λ j k h. step.kept j k (before.kept j k h);
  inside = λ j k h. inside j k (step.inside j k h);
  pushed = λ j k below at. pushed j k below at (cases_eq j i);
  on = λ k h. step.on k (before.on k h);
  stacked = λ k h. stacked k (step.stacked k h);
}
  where
    here : slice_get list i ≡ Some a
    here = slice_get-get_or list i 0 within ∙ ap Some (sym a_is)

    inside : (j k : ℕ) → (k < length o) ⊎ (slice_get s j ≡ Some k) → (k < length o0) ⊎ (slice_get s0 j ≡ Some k)
    inside j k (inl below) = inl (subst (λ n. k < n) before.flags below)
    inside j k (inr old) = before.inside j k old

    pushed : (j k : ℕ) → j < i + 1 → slice_get list j ≡ Some k → (j ≡ i) ⊎ (j ≡ i → ⊥) → get_or o2 k false ≡ true
    pushed j k below at (inl now) = step.pushed 0 k (omega arith) (sym here ∙ ap (slice_get list) (sym now) ∙ at)
    pushed j k below at (inr other) = step.on k (before.pushed j k (omega (arith, other, below)) at)

    stacked : (k : ℕ) → (get_or o k false ≡ true) ⊎ ((j : ℕ) × (slice_get s2 j ≡ Some k)) → (get_or o0 k false ≡ true) ⊎ ((j : ℕ) × (slice_get s2 j ≡ Some k))
    stacked k (inr w) = inr w
    stacked k (inl was) = go (before.stacked k was)
      where
        go : (get_or o0 k false ≡ true) ⊎ ((j : ℕ) × (slice_get s j ≡ Some k)) → (get_or o0 k false ≡ true) ⊎ ((j : ℕ) × (slice_get s2 j ≡ Some k))
        go (inl x) = inl x
        go (inr w) = inr (w.0, step.kept w.0 k w.1)
