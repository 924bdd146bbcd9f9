-- The rows of a trace before a time, and those of a run that goes on from it.
use Rattle.std.proofs.Common.{◌≡◌, ◌∙◌, ℕ, zero, suc, ◌+◌, ◌-◌, ◌<◌, ◌≤◌, ◌||◌, nat_eq, if◌then◌else◌, [], ◌∷◌, ◌++◌, map, Option, None, is_some, unwrap_or, refl, ap, sym, arith}
use Rattle.std.specs.List.{range_with_len}
use Rattle.tdf_fixed.specs.declared.raw.Raw.{Raw}
use Rattle.tdf_trace_rows.proofs.Api.{last_kept, text_same, text_split}
use Rattle.tdf_trace_rows.specs.Laws.{Agree}
use Rattle.tdf_trace_rows.specs.Rows.{Cells, Line, has_cell, last, row_text, shown, text_from}

-- the cells of a run that goes on: there are none before a time; from it on and below an end they are those of the whole run; and each column shows first what the whole one did just before it
pub record AreRestOf (all rest : Cells) (from end : ℕ) : Type 0 where
  pub columns : rest.columns ≡ all.columns
  pub first : (column : ℕ) → column < all.columns → rest.first column ≡ last all column from
  pub none : (column time : ℕ) → column < all.columns → time < from → rest.at column time ≡ None
  pub cells : (column time : ℕ) → column < all.columns → from ≤ time → time < end → rest.at column time ≡ all.at column time

first_is : (g : Cells) (column : ℕ) → last g column 0 ≡ g.first column
unfolding last
first_is g column = refl

last_next : (g : Cells) (column t : ℕ) → last g column (suc t) ≡ unwrap_or (g.at column t) (last g column t)
unfolding last
last_next g column t = refl

range_alike : {A : Type 0} (f h : ℕ → A) (a n : ℕ) → ((k : ℕ) → a ≤ k → k < a + n → f k ≡ h k) → map f (range_with_len a n) ≡ map h (range_with_len a n)
range_alike f h a zero same = refl
range_alike f h a (suc n) same = λ i. same a (omega arith) (omega arith) i ∷ range_alike f h (a + 1) n (λ k low high. same k (omega (arith, low)) (omega (arith, high))) i

module _ (all rest : Cells) (from end : ℕ) (are : AreRestOf all rest from end) where
  at_from : (column : ℕ) → column < all.columns → last rest column from ≡ last all column from
  at_from column inside = last_kept rest column 0 from (omega arith) (λ t low less. are.none column t inside less) ∙ first_is rest column ∙ are.first column inside

  last_after : (column k : ℕ) → column < all.columns → from + k ≤ end → last rest column (from + k) ≡ last all column (from + k)
  last_after column zero inside low = let z : from + 0 ≡ from = omega arith in rw z (at_from column inside)
  last_after column (suc k) inside low = let z : from + suc k ≡ suc (from + k) = omega arith in
      rw z (last_next rest column (from + k) ∙ ap (λ o. unwrap_or o (last rest column (from + k))) (are.cells column (from + k) inside (omega arith) (omega (arith, low)))
      ∙ ap (unwrap_or (all.at column (from + k))) (last_after column k inside (omega (arith, low))) ∙ sym (last_next all column (from + k)))

  shown_after : (k : ℕ) → from + k ≤ end → shown rest (from + k) ≡ shown all (from + k)
  unfolding shown
  shown_after k low = ap (λ n. map (λ c. last rest c (from + k)) (range_with_len 0 n)) are.columns
      ∙ range_alike (λ c. last rest c (from + k)) (λ c. last all c (from + k)) 0 all.columns (λ c _ less. last_after c k (omega (arith, less)) low)

  has_after : (t n : ℕ) → n ≤ all.columns → from ≤ t → t < end → has_cell rest t n ≡ has_cell all t n
  unfolding has_cell
  has_after t zero inside low high = refl
  has_after t (suc n) inside low high = ap (λ b. b || is_some (rest.at n t)) (has_after t n (omega (arith, inside)) low high)
      ∙ ap (λ (o : Option (Option Raw)). has_cell all t n || is_some o) (are.cells n t (omega (arith, inside)) low high)

  row_after : (line : Line) (k : ℕ) → from + k < end → row_text line rest (from + k) ≡ row_text line all (from + k)
  unfolding row_text
  row_after line k low = let z : from + k + 1 ≡ from + (k + 1) = omega arith in
      ap (λ n. if nat_eq (from + k) 0 || has_cell rest (from + k) n then line (from + k) (shown rest (from + k)) (shown rest (from + k + 1)) else []) are.columns
      ∙ ap (λ b. if nat_eq (from + k) 0 || b then line (from + k) (shown rest (from + k)) (shown rest (from + k + 1)) else []) (has_after (from + k) all.columns (omega arith) (omega arith) low)
      ∙ ap (λ u. if nat_eq (from + k) 0 || has_cell all (from + k) all.columns then line (from + k) u (shown rest (from + k + 1)) else []) (shown_after k (omega (arith, low)))
      ∙ ap (λ u. if nat_eq (from + k) 0 || has_cell all (from + k) all.columns then line (from + k) (shown all (from + k)) u else [])
      (ap (shown rest) z ∙ shown_after (k + 1) (omega (arith, low)) ∙ ap (shown all) (sym z))

  text_after : (line : Line) (k : ℕ) → from + k ≤ end → text_from line rest from k ≡ text_from line all from k
  unfolding text_from
  text_after line zero low = refl
  text_after line (suc k) low = ap (λ u. u ++ row_text line rest (from + k)) (text_after line k (omega (arith, low)))
      ∙ ap (λ u. text_from line all from k ++ u) (row_after line k (omega (arith, low)))

  -- where a part of the run has the cells below the time, too
  pub rows_split : (line : Line) (part : Cells) → from ≤ end → Agree part all from → text_from line all 0 end ≡ text_from line part 0 from ++ text_from line rest from (end - from)
  rows_split line part low agree = let z : end ≡ end - 0 = omega arith in let f : from - 0 ≡ from = omega arith in
      ap (text_from line all 0) z ∙ text_split line all 0 from end (omega arith) low
      ∙ ap (λ k. text_from line all 0 k ++ text_from line all from (end - from)) f
      ∙ ap (λ u. text_from line all 0 from ++ u) (sym (text_after line (end - from) (omega (arith, low))))
      ∙ ap (λ u. u ++ text_from line rest from (end - from)) (sym (text_same line part all from 0 from agree (omega arith)))
