-- The values of names are a map.
use Rattle.std.proofs.Common.{◌≡◌, ℕ, zero, suc, ◌+◌, ◌<◌, List, [], ◌∷◌, Option, Some, None, refl, sym, ap, subst, arith, ℤ, pos}
use Rattle.std.proofs.lemmas.List.{get_or-set_same, get_or-set_other}
use Rattle.std.proofs.lemmas.Option.{slice_get_within}
use Rattle.std.specs.Prelude.{slice_get, slice_set}
use Rattle.tdf_expr_semantics.proofs.Placed.{placed}
use Rattle.tdf_expr_semantics.specs.Fits.{StateFits}
use Rattle.tdf_expr_semantics.specs.Laws.{AreMaps}
use Rattle.tdf_expr_semantics.specs.Places.{HasElement, before, cells_of, samples_of, first_cell, first_sample, port_number, cell_shapes, sample_shapes}
use Rattle.tdf_expr_semantics.specs.Value.{element, of_shape, cast_number}
use Rattle.tdf_expr_symbols.specs.Names.{Names, Thing, Var, Array, Port, shape_of}
use Rattle.tdf_expr_state.specs.State.{State, cell_at, with_sample, with_cell}
use Rattle.tdf_lang_tree.specs.declared.shapes.Shape.{Shape}

some_is : (x t : Thing) → Some x ≡ Some t → x ≡ t
some_is x t e = ap held e
  where
    held : Option Thing → Thing
    held None = x
    held (Some y) = y

-- one place has one name and element
apart : (count : Thing → ℕ) (things : List Thing) (n m k j : ℕ) (t u : Thing) → slice_get things n ≡ Some t → slice_get things m ≡ Some u
    → k < count t → j < count u → before count things n + k ≡ before count things m + j → (n ≡ m) × (k ≡ j)
unfolding before
apart count [] n m k j t u at ut below uelow same = absurd cc
apart count (x ∷ things) zero zero k j t u at ut below uelow same = (refl, omega (arith, same))
apart count (x ∷ things) zero (suc m) k j t u at ut below uelow same =
    let less : k < count x = subst (λ (y : Thing). k < count y) (sym (some_is x t at)) below in
    absurd (omega (arith, same, less))
apart count (x ∷ things) (suc n) zero k j t u at ut below uelow same =
    let less : j < count x = subst (λ (y : Thing). j < count y) (sym (some_is x u ut)) uelow in
    absurd (omega (arith, same, less))
apart count (x ∷ things) (suc n) (suc m) k j t u at ut below uelow same =
    let rest = apart count things n m k j t u at ut below uelow (omega (arith, same)) in
    (ap suc rest.0, rest.1)

module _ (own : Names) (s : State) (n k : ℕ) (t : Thing) (at : slice_get own.things n ≡ Some t) where
  -- a cell or a sample that is set
  set_cell : (num : ℤ) (shape : Shape) → StateFits own s → slice_get (cell_shapes own) (first_cell own n + k) ≡ Some (Some shape)
      → cell_at (slice_set s.frame.cells (first_cell own n + k) num) (first_cell own n + k) ≡ num
  set_cell num shape fits is =
      get_or-set_same s.frame.cells (first_cell own n + k) num (pos 0)
      (subst (λ l. first_cell own n + k < l) (sym fits.frame.cells.long) (slice_get_within (cell_shapes own) (first_cell own n + k) (Some shape) is))

  set_sample : (num : ℤ) (shape : Shape) → StateFits own s → slice_get (sample_shapes own) (first_sample own n + k) ≡ Some (Some shape)
      → cell_at (slice_set s.ports.samples (first_sample own n + k) num) (first_sample own n + k) ≡ num
  set_sample num shape fits is =
      get_or-set_same s.ports.samples (first_sample own n + k) num (pos 0)
      (subst (λ l. first_sample own n + k < l) (sym fits.ports.samples.long) (slice_get_within (sample_shapes own) (first_sample own n + k) (Some shape) is))

  -- one that isn't
  keep_cell : (num : ℤ) (m j : ℕ) (u : Thing) → slice_get own.things m ≡ Some u → k < cells_of t → j < cells_of u → (n ≡ m → k ≡ j → ⊥)
      → cell_at (slice_set s.frame.cells (first_cell own n + k) num) (first_cell own m + j) ≡ cell_at s.frame.cells (first_cell own m + j)
  keep_cell num m j u ut below uelow other =
      get_or-set_other s.frame.cells (first_cell own n + k) (first_cell own m + j) num (pos 0)
      (λ same. let both = apart cells_of own.things n m k j t u at ut below uelow (sym same) in other both.0 both.1)

  keep_sample : (num : ℤ) (m j : ℕ) (u : Thing) → slice_get own.things m ≡ Some u → k < samples_of own t → j < samples_of own u → (n ≡ m → k ≡ j → ⊥)
      → cell_at (slice_set s.ports.samples (first_sample own n + k) num) (first_sample own m + j) ≡ cell_at s.ports.samples (first_sample own m + j)
  keep_sample num m j u ut below uelow other =
      get_or-set_other s.ports.samples (first_sample own n + k) (first_sample own m + j) num (pos 0)
      (λ same. let both = apart (samples_of own) own.things n m k j t u at ut below uelow (sym same) in other both.0 both.1)

other_cell : (own : Names) (s : State) (n k : ℕ) (t : Thing) (num : ℤ) → slice_get own.things n ≡ Some t → k < cells_of t
    → (m j : ℕ) (u : Thing) → slice_get own.things m ≡ Some u → HasElement own u j → (n ≡ m → k ≡ j → ⊥)
    → element own (with_cell (first_cell own n + k) num s) m u j ≡ element own s m u j
other_cell own s n k t num at below m j (Var shape a) ut uelow other = ap (of_shape shape) (keep_cell own s n k t at num m j (Var shape a) ut below uelow other)
other_cell own s n k t num at below m j (Array shape size a) ut uelow other = ap (of_shape shape) (keep_cell own s n k t at num m j (Array shape size a) ut below uelow other)
other_cell own s n k t num at below m j _ ut uelow other = refl

other_sample : (own : Names) (s : State) (n k port : ℕ) (t : Thing) (num : ℤ) → slice_get own.things n ≡ Some t → k < samples_of own t
    → (m j : ℕ) (u : Thing) → slice_get own.things m ≡ Some u → HasElement own u j → (n ≡ m → k ≡ j → ⊥)
    → element own (with_sample port (first_sample own n + k) num s) m u j ≡ element own s m u j
other_sample own s n k port t num at below m j (Port word shape rate delay) ut uelow other =
    ap (of_shape shape) (keep_sample own s n k t at num m j (Port word shape rate delay) ut below uelow other)
other_sample own s n k port t num at below m j _ ut uelow other = refl

pub maps : AreMaps
maps own s n k (Var (Some shape) a) v fits at assignable below = record {
  same = ap (of_shape (Some shape)) (set_cell own s n k (Var (Some shape) a) at (cast_number shape v) shape fits (placed cells_of shape_of own.things n k (Var (Some shape) a) at below));
  other = other_cell own s n k (Var (Some shape) a) (cast_number shape v) at below;
}
maps own s n k (Array (Some shape) size a) v fits at assignable below = record {
  same = ap (of_shape (Some shape)) (set_cell own s n k (Array (Some shape) size a) at (cast_number shape v) shape fits (placed cells_of shape_of own.things n k (Array (Some shape) size a) at below));
  other = other_cell own s n k (Array (Some shape) size a) (cast_number shape v) at below;
}
maps own s n k (Port word (Some shape) rate delay) v fits at assignable below = record {
  same = ap (of_shape (Some shape)) (set_sample own s n k (Port word (Some shape) rate delay) at (cast_number shape v) shape fits
      (placed (samples_of own) shape_of own.things n k (Port word (Some shape) rate delay) at below));
  other = other_sample own s n k (port_number own n) (Port word (Some shape) rate delay) (cast_number shape v) at below;
}
maps own s n k _ v fits at assignable below = absurd assignable
