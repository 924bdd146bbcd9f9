-- Rows and their text.
use Rattle.std.proofs.Common.{◌≡◌, ℕ, zero, suc, ◌+◌, ◌-◌, ◌<◌, ◌≤◌, ◌⊎◌, Bool, true, false, ◌||◌, [], ◌++◌, Option, None, is_some, unwrap_or, refl, ap, sym, ◌∙◌, subst, inl, inr, arith, add-one, append_assoc, append-nil}
use Rattle.std.proofs.lemmas.Bool.{cases_eq, ne_eqb, true≢false}
use Rattle.tdf_fixed.specs.declared.raw.Raw.{Raw}
use Rattle.tdf_trace_rows.specs.Laws.{HasNoCell, ShowsLast}
use Rattle.tdf_trace_rows.specs.Rows.{Cells, Line, has_cell, is_row, last, row_text, shown, text_from}

pub or_true : (p q : Bool) → p ≡ true → (p || q) ≡ true
or_true true q h = refl
or_true false q h = absurd (true≢false (sym h))

pub or_true_right : (p q : Bool) → q ≡ true → (p || q) ≡ true
or_true_right true q h = refl
or_true_right false q h = h

-- no cell, no row
pub has_none : (g : Cells) (t n : ℕ) → ((c : ℕ) → c < n → g.at c t ≡ None) → has_cell g t n ≡ false
unfolding has_cell
has_none g t zero none = refl
has_none g t (suc n) none = rw (has_none g t n (λ c less. none c (omega (arith, less))), none n (omega arith)) refl

pub has_some : (g : Cells) (t c n : ℕ) → c < n → is_some (g.at c t) ≡ true → has_cell g t n ≡ true
unfolding has_cell
has_some g t c zero less some = absurd (omega (arith, less))
has_some g t c (suc n) less some = elim (cases_eq c n) [
  | inl same ↦ or_true_right (has_cell g t n) (is_some (g.at n t)) (subst (λ k. is_some (g.at k t) ≡ true) same some)
  | inr apart ↦ or_true (has_cell g t n) (is_some (g.at n t)) (has_some g t c n (omega (arith, less, apart)) some)
]

-- no row, no text
pub no_row : (line : Line) (g : Cells) (t : ℕ) → is_row g t ≡ false → row_text line g t ≡ []
unfolding row_text
no_row line g t none = rw none refl

pub quiet_time : (g : Cells) (t : ℕ) → 0 < t → ((c : ℕ) → c < g.columns → g.at c t ≡ None) → is_row g t ≡ false
quiet_time g t more none = rw (ne_eqb t 0 (λ e. omega (arith, e, more)), has_none g t g.columns none) refl

pub row_here : (line : Line) (g : Cells) (t : ℕ) → is_row g t ≡ true → row_text line g t ≡ line t (shown g t) (shown g (t + 1))
unfolding row_text
row_here line g t is = rw is refl

pub last_more : (g : Cells) (c t : ℕ) → last g c (t + 1) ≡ unwrap_or (g.at c t) (last g c t)
unfolding last
last_more g c t = rw (add-one t) refl

pub text_none : (line : Line) (g : Cells) (a : ℕ) → text_from line g a 0 ≡ []
unfolding text_from
text_none line g a = refl

pub without_row : (line : Line) (g : Cells) (a k : ℕ) → ((t : ℕ) → a ≤ t → t < a + k → is_row g t ≡ false) → text_from line g a k ≡ []
unfolding text_from
without_row line g a zero none = refl
without_row line g a (suc k) none =
    let e : text_from line g a k ≡ [] = without_row line g a k (λ t low high. none t low (omega (arith, high))) in
    let r : row_text line g (a + k) ≡ [] = no_row line g (a + k) (none (a + k) (omega arith) (omega arith)) in
    rw (e, r) refl

pub quiet_text : (line : Line) (g : Cells) (a k : ℕ) → (0 < a) ⊎ (k ≡ 0) → ((c s : ℕ) → c < g.columns → a ≤ s → s < a + k → g.at c s ≡ None) → text_from line g a k ≡ []
quiet_text line g a k (inl first) none = without_row line g a k (λ t low high. quiet_time g t (omega (arith, first, low)) (λ c less. none c t less low high))
quiet_text line g a k (inr empty) none = without_row line g a k (λ t low high. absurd (omega (arith, low, high, empty)))

-- what is shown while there is no cell
pub last_kept : (g : Cells) (c a t : ℕ) → a ≤ t → HasNoCell g c a t → last g c t ≡ last g c a
unfolding last
last_kept g c a zero low none = let e : 0 ≡ a = omega (arith, low) in ap (last g c) e
last_kept g c a (suc t) low none = elim (cases_eq a (suc t)) [
  | inl same ↦ ap (last g c) (sym same)
  | inr apart ↦ rw (none t (omega (arith, low, apart)) (omega arith)) (last_kept g c a t (omega (arith, low, apart)) (λ s l h. none s l (omega (arith, h))))
]

last_first : (g : Cells) (c : ℕ) → last g c 0 ≡ g.first c
unfolding last
last_first g c = refl

pub last_cell : (g : Cells) (c t : ℕ) → ShowsLast g c t
last_cell g c t = record {
  cell = λ s v less at none. last_kept g c (s + 1) t (omega (arith, less)) none ∙ last_more g c s ∙ ap (λ (o : Option (Option Raw)). unwrap_or o (last g c s)) at;
  none = λ none. last_kept g c 0 t (omega arith) none ∙ last_first g c;
}

text_joins : (line : Line) (g : Cells) (a k l : ℕ) → text_from line g a (k + l) ≡ text_from line g a k ++ text_from line g (a + k) l
unfolding text_from
text_joins line g a k zero = let e : k + 0 ≡ k = omega arith in ap (text_from line g a) e ∙ sym (append-nil (text_from line g a k))
text_joins line g a k (suc l) = let e : k + suc l ≡ suc (k + l) = omega arith in let f : a + (k + l) ≡ a + k + l = omega arith in
    ap (text_from line g a) e ∙ ap (λ x. x ++ row_text line g (a + (k + l))) (text_joins line g a k l)
    ∙ append_assoc (text_from line g a k) (text_from line g (a + k) l) (row_text line g (a + (k + l)))
    ∙ ap (λ n. text_from line g a k ++ (text_from line g (a + k) l ++ row_text line g n)) f

pub text_split : (line : Line) (g : Cells) (a b d : ℕ) → a ≤ b → b ≤ d → text_from line g a (d - a) ≡ text_from line g a (b - a) ++ text_from line g b (d - b)
text_split line g a b d low high = let e : d - a ≡ b - a + (d - b) = omega (arith, low, high) in let f : a + (b - a) ≡ b = omega (arith, low) in
    ap (text_from line g a) e ∙ text_joins line g a (b - a) (d - b) ∙ ap (λ n. text_from line g a (b - a) ++ text_from line g n (d - b)) f

pub text_one : (line : Line) (g : Cells) (t : ℕ) → text_from line g t (t + 1 - t) ≡ row_text line g t
unfolding text_from
text_one line g t = let e : t + 1 - t ≡ suc 0 = omega arith in let f : t + 0 ≡ t = omega arith in ap (text_from line g t) e ∙ ap (row_text line g) f
