-- Columns without cells.
use Rattle.std.proofs.Common.{◌≡◌, ℕ, zero, suc, List, [], ◌∷◌, map, slice_get, Some, refl, ap, sym, ◌∙◌, subst, arith}
use Rattle.std.proofs.lemmas.List.{length-map, map_more}
use Rattle.tdf_trace_rows.specs.Noted.{cell_noted}
use Rattle.tdf_trace_rows.specs.Rows.{last}
use Rattle.tdf_trace.specs.Columns.{ColumnSeen, HasFewPlaces, held_at}
use Rattle.tdf_trace.specs.Stands.{Stands, no_cells}
use Rattle.tdf_trace.specs.Writings.{first_value}
use Rattle.tdf_trace.specs.declared.about.Variable.{Variable}
use Rattle.tdf_trace.specs.machine.Turning.{AreSound, HaveFewPlaces, IsSound, Rising}
use Rattle.tdf_trace.specs.views.Seen.{fresh}

pub ruleset fresh_laws = (map_more)

-- the variable of a column
pub fresh_of : (variables : List Variable) (c : ℕ) (column : ColumnSeen) → slice_get (map fresh variables) c ≡ Some column → (v : Variable) × (slice_get variables c ≡ Some v) × (column ≡ fresh v)
fresh_of [] c column h = absurd (grind (arith, h))
fresh_of (v ∷ vs) zero column h = (v, refl, grind (arith, h))
fresh_of (v ∷ vs) (suc c) column h = fresh_of vs c column h

first_at : (variables : List Variable) (c : ℕ) (v : Variable) → slice_get variables c ≡ Some v → first_value variables c ≡ v.first
first_at [] c v h = absurd (grind (arith, h))
first_at (w ∷ ws) zero v h = let e : w ≡ v = grind (arith, h) in ap (λ (x : Variable). x.first) e
first_at (w ∷ ws) (suc c) v h = first_at ws c v h

pub fresh_stands : (variables : List Variable) → Stands (no_cells variables) (record { columns = map fresh variables; upto = 0 })
unfolding held_at last cell_noted
fresh_stands variables = record {
  count = length-map variables fresh;
  held = λ c t column here low. (let w = fresh_of variables c column here in ap (λ (x : ColumnSeen). held_at x.held t) w.2);
  shown = λ c column here. (let w = fresh_of variables c column here in ap (λ (x : ColumnSeen). x.shown) w.2 ∙ sym (first_at variables c w.0 w.1));
}

pub fresh_sound : (variables : List Variable) → ((c : ℕ) (v : Variable) → slice_get variables c ≡ Some v → HasFewPlaces v.first) → AreSound 0 (map fresh variables)
unfolding Rising HaveFewPlaces
fresh_sound variables few c column here =
    let w = fresh_of variables c column here in
    subst (λ (x : ColumnSeen). IsSound 0 x) (sym w.2) (record { rising = tt; few = tt; shown = few c w.0 w.1 })
