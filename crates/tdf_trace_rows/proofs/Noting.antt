-- One cell more.
use Rattle.std.proofs.Common.{◌≡◌, ℕ, zero, suc, ◌≤◌, Bool, true, false, nat_eq, ◌&&◌, if◌then◌else◌, List, [], ◌∷◌, ◌++◌, Option, Some, None, is_some, refl, ap, ◌∙◌, arith}
use Rattle.std.proofs.lemmas.Bool.{ne_eqb}
use Rattle.tdf_fixed.specs.declared.raw.Raw.{Raw}
use Rattle.tdf_trace_rows.specs.Noted.{is_cell_of, cell_noted, with_noted_cell}
use Rattle.tdf_trace_rows.specs.Rows.{Cells, last}
use Rattle.tdf_trace_rows.specs.declared.cell.Cell.{Cell}

pushes : {V : Type 0} (p : Bool) (v : V) (o e : Option V) → (if is_some (if p then Some v else o) then (if p then Some v else o) else e) ≡ (if p then Some v else (if is_some o then o else e))
pushes true v o e = refl
pushes false v o e = refl

pub noted_more : (xs : List Cell) (x : Cell) (c t : ℕ) → cell_noted (xs ++ x ∷ []) c t ≡ (if is_cell_of x c t then Some x.value else cell_noted xs c t)
unfolding cell_noted
noted_more [] x c t = refl
noted_more (y ∷ ys) x c t = ap (λ (o : Option (Option Raw)). if is_some o then o else (if is_cell_of y c t then Some y.value else None)) (noted_more ys x c t)
    ∙ pushes (is_cell_of x c t) x.value (cell_noted ys c t) _

and_false : (p : Bool) → (p && false) ≡ false
and_false true = refl
and_false false = refl

-- a cell changes nothing that is shown up to its time
pub last_with_cell : (g : Cells) (x : Cell) (d u : ℕ) → u ≤ x.time → last (with_noted_cell g x) d u ≡ last g d u
unfolding last
last_with_cell g x d zero low = refl
last_with_cell g x d (suc u) low = rw (ne_eqb x.time u (λ e. omega (arith, e, low)), and_false (nat_eq x.column d), last_with_cell g x d u (omega (arith, low))) refl
