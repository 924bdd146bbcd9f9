-- Cells that agree below a time have the same rows below it.
use Rattle.std.proofs.Common.{◌≡◌, ℕ, zero, suc, ◌+◌, ◌<◌, ◌≤◌, ◌||◌, nat_eq, if◌then◌else◌, [], ◌++◌, map, Option, is_some, unwrap_or, refl, ap, sym, ◌∙◌, subst, arith}
use Rattle.std.specs.List.{range_with_len}
use Rattle.tdf_fixed.specs.declared.raw.Raw.{Raw}
use Rattle.tdf_trace_rows.proofs.Lists.{range_same}
use Rattle.tdf_trace_rows.specs.Laws.{Agree, AreCellsSteady}
use Rattle.tdf_trace_rows.specs.Rows.{Cells, Line, has_cell, last, row_text, shown, text_from}

pub last_same : (g h : Cells) (b c t : ℕ) → Agree g h b → c < g.columns → t ≤ b → last g c t ≡ last h c t
unfolding last
last_same g h b c zero a inside low = a.first c inside
last_same g h b c (suc t) a inside low = ap (λ (o : Option (Option Raw)). unwrap_or o (last g c t)) (a.cells c t inside (omega (arith, low)))
    ∙ ap (λ (o : Option Raw). unwrap_or (h.at c t) o) (last_same g h b c t a inside (omega (arith, low)))

has_same : (g h : Cells) (b t n : ℕ) → Agree g h b → n ≤ g.columns → t < b → has_cell g t n ≡ has_cell h t n
unfolding has_cell
has_same g h b t zero a inside low = refl
has_same g h b t (suc n) a inside low = ap (λ p. p || is_some (g.at n t)) (has_same g h b t n a (omega (arith, inside)) low)
    ∙ ap (λ (o : Option (Option Raw)). has_cell h t n || is_some o) (a.cells n t (omega (arith, inside)) low)

shown_same : (g h : Cells) (b t : ℕ) → Agree g h b → t ≤ b → shown g t ≡ shown h t
unfolding shown
shown_same g h b t a low = range_same (λ c. last g c t) (λ c. last h c t) 0 g.columns (λ c _ less. last_same g h b c t a (omega (arith, less)) low)
    ∙ ap (λ n. map (λ c. last h c t) (range_with_len 0 n)) a.columns

row_same : (line : Line) (g h : Cells) (b t : ℕ) → Agree g h b → t < b → row_text line g t ≡ row_text line h t
unfolding row_text
row_same line g h b t a low = ap (λ p. if nat_eq t 0 || p then line t (shown g t) (shown g (t + 1)) else []) (has_same g h b t g.columns a (omega arith) low ∙ ap (has_cell h t) a.columns)
    ∙ ap (λ u. if nat_eq t 0 || has_cell h t h.columns then line t u (shown g (t + 1)) else []) (shown_same g h b t a (omega (arith, low)))
    ∙ ap (λ u. if nat_eq t 0 || has_cell h t h.columns then line t (shown h t) u else []) (shown_same g h b (t + 1) a (omega (arith, low)))

pub text_same : (line : Line) (g h : Cells) (b s k : ℕ) → Agree g h b → s + k ≤ b → text_from line g s k ≡ text_from line h s k
unfolding text_from
text_same line g h b s zero a low = refl
text_same line g h b s (suc k) a low = ap (λ u. u ++ row_text line g (s + k)) (text_same line g h b s k a (omega (arith, low)))
    ∙ ap (λ u. text_from line h s k ++ u) (row_same line g h b (s + k) a (omega (arith, low)))

-- states that change above a mark alone
mark_up : (cells : ℕ → Cells) (mark : ℕ → ℕ) → AreCellsSteady cells mark → (n k : ℕ) → mark n ≤ mark (k + n)
mark_up cells mark is n zero = let e : 0 + n ≡ n = omega arith in subst (λ m. mark n ≤ mark m) (sym e) (omega arith)
mark_up cells mark is n (suc k) = let e : k + n + 1 ≡ suc k + n = omega arith in let a : mark n ≤ mark (k + n) = mark_up cells mark is n k in
    let b : mark (k + n) ≤ mark (k + n + 1) = is.rising (k + n) in subst (λ m. mark n ≤ mark m) e (omega (arith, a, b))

pub agree_trans : (f g h : Cells) (a b : ℕ) → a ≤ b → Agree f g a → Agree g h b → Agree f h a
agree_trans f g h a b low x y = record {
  columns = x.columns ∙ y.columns;
  first = λ c inside. x.first c inside ∙ y.first c (subst (λ n. c < n) x.columns inside);
  cells = λ c t inside less. x.cells c t inside less ∙ y.cells c t (subst (λ n. c < n) x.columns inside) (omega (arith, less, low));
}

pub stays_below : (cells : ℕ → Cells) (mark : ℕ → ℕ) → AreCellsSteady cells mark → (n k : ℕ) → Agree (cells n) (cells (k + n)) (mark n)
stays_below cells mark is n zero = let e : n ≡ 0 + n = omega arith in subst (λ m. Agree (cells n) (cells m) (mark n)) e (record { columns = refl; first = λ c _. refl; cells = λ c t _ _. refl })
stays_below cells mark is n (suc k) = let e : k + n + 1 ≡ suc k + n = omega arith in
    subst (λ m. Agree (cells n) (cells m) (mark n)) e
    (agree_trans (cells n) (cells (k + n)) (cells (k + n + 1)) (mark n) (mark (k + n)) (mark_up cells mark is n k) (stays_below cells mark is n k) (is.step (k + n)))
