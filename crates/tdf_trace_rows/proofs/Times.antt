-- The text of rows, by the list of their times.
use Rattle.std.proofs.Common.{◌≡◌, ℕ, zero, suc, ◌+◌, Bool, true, false, if◌then◌else◌, List, [], ◌∷◌, ◌++◌, filter, refl, ap, sym, ◌∙◌, arith, append-nil}
use Rattle.std.specs.List.{flat_map, range_with_len}
use Rattle.std.proofs.lemmas.Grind.{flat_map-append}
use Rattle.tdf_trace_rows.specs.Laws.{row_times}
use Rattle.tdf_trace_rows.specs.Rows.{Cells, Line, is_row, row_text, shown, text_from}

-- the times are those before and then the last, if it is one
range_more : (p : ℕ → Bool) (a n : ℕ) → filter p (range_with_len a (suc n)) ≡ filter p (range_with_len a n) ++ (if p (a + n) then (a + n) ∷ [] else [])
range_more p a zero = let e : a + 0 ≡ a = omega arith in rw e (last_one (p a) a)
  where
    last_one : (b : Bool) (x : ℕ) → (if b then x ∷ [] else []) ≡ [] ++ (if b then x ∷ [] else [])
    last_one true x = refl
    last_one false x = refl
range_more p a (suc n) = let e : a + 1 + n ≡ a + suc n = omega arith in
    ap (λ ys. if p a then a ∷ ys else ys) (range_more p (a + 1) n ∙ ap (λ m. filter p (range_with_len (a + 1) n) ++ (if p m then m ∷ [] else [])) e)
    ∙ moves (p a) a (filter p (range_with_len (a + 1) n)) (if p (a + suc n) then (a + suc n) ∷ [] else [])
  where
    moves : (b : Bool) (x : ℕ) (ys zs : List ℕ) → (if b then x ∷ (ys ++ zs) else ys ++ zs) ≡ (if b then x ∷ ys else ys) ++ zs
    moves true x ys zs = refl
    moves false x ys zs = refl

abbrev line_at : Line → Cells → ℕ → List ℕ
line_at line g t = line t (shown g t) (shown g (t + 1))

pub text_times : (line : Line) (g : Cells) (k : ℕ) → text_from line g 0 k ≡ flat_map (line_at line g) (row_times g k)
unfolding text_from row_text
text_times line g zero = refl
text_times line g (suc k) = let z : 0 + k ≡ k = omega arith in
    ap (λ u. u ++ row_text line g (0 + k)) (text_times line g k)
    ∙ ap (λ n. flat_map (line_at line g) (row_times g k) ++ row_text line g n) z
    ∙ ap (λ u. flat_map (line_at line g) (row_times g k) ++ u) (one (is_row g k) k)
    ∙ sym (flat_map-append (line_at line g) (row_times g k) (if is_row g k then k ∷ [] else []))
    ∙ ap (flat_map (line_at line g)) (ap (λ n. row_times g k ++ (if is_row g n then n ∷ [] else [])) (sym z) ∙ sym (range_more (is_row g) 0 k))
  where
    one : (b : Bool) (t : ℕ) → (if b then line_at line g t else []) ≡ flat_map (line_at line g) (if b then t ∷ [] else [])
    one true t = sym (append-nil (line_at line g t))
    one false t = refl
