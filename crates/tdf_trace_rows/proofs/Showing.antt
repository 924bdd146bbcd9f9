-- What columns show, when each shows its last cell.
use Rattle.std.proofs.Common.{◌≡◌, ℕ, ◌+◌, List, length, map, slice_get, Option, Some, ap, ◌∙◌, arith}
use Rattle.std.specs.List.{range_with_len}
use Rattle.tdf_fixed.specs.declared.raw.Raw.{Raw}
use Rattle.tdf_trace_rows.proofs.Lists.{shown_list}
use Rattle.tdf_trace_rows.specs.Rows.{Cells, last, shown}

pub shown_is : {A : Type 0} (f : A → Option Raw) (g : Cells) (t : ℕ) (xs : List A) → length xs ≡ g.columns
    → ((c : ℕ) (x : A) → slice_get xs c ≡ Some x → f x ≡ last g c t) → map f xs ≡ shown g t
unfolding shown
shown_is f g t xs count each =
    shown_list f (λ c. last g c t) 0 xs (λ c x here. (let e : c ≡ 0 + c = omega arith in each c x here ∙ ap (λ k. last g k t) e))
    ∙ ap (λ n. map (λ c. last g c t) (range_with_len 0 n)) count
