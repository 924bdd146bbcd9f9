-- The literal at a time is that of the last row at or before it.
use Rattle.std.proofs.Common.{◌≡◌, ℕ, zero, suc, ◌<◌, ◌≤◌, nat_le, if◌then◌else◌, List, [], ◌∷◌, length, Option, Some, None, slice_get, slice_index, refl, ap, sym, ◌∙◌, inl, inr, arith}
use Rattle.std.proofs.lemmas.Bool.Decides.{leb_tells}
use Rattle.tdf_lang_tree.specs.declared.names.Lit.{Lit}
use Rattle.tdf_stim_history.specs.Literals.{LastRowGives, literal_at, first_literal}

abbrev AllAfter : List ℕ → ℕ → Type 0
AllAfter times time = (row : ℕ) → row < length times → time < slice_index times row

abbrev no_lit : Option Lit
no_lit = None

after_by : (time t : ℕ) (lit : Lit) → time < t → (if nat_le t time then Some lit else None) ≡ no_lit
after_by time t lit late = elim (leb_tells t time) [ inl y ↦ (let low = y.1 in absurd (omega (arith, low, late))) | inr n ↦ ap (λ b. if b then Some lit else None) n.0 ]

before_by : (time t : ℕ) (lit : Lit) → t ≤ time → (if nat_le t time then Some lit else None) ≡ Some lit
before_by time t lit low = elim (leb_tells t time) [ inl y ↦ ap (λ b. if b then Some lit else None) y.0 | inr n ↦ (let late = n.1 in absurd (omega (arith, low, late))) ]

-- where all rows are later, there is none
none_at : (times : List ℕ) (lits : List Lit) (time : ℕ) → AllAfter times time → literal_at times lits time ≡ None
unfolding literal_at
none_at [] lits time late = refl
none_at (t ∷ ts) [] time late = refl
none_at (t ∷ ts) (lit ∷ lits) time late =
    ap (λ o. first_literal o (if nat_le t time then Some lit else None)) (none_at ts lits time (λ row less. late (suc row) (omega (arith, less))))
    ∙ after_by time t lit (late 0 (omega arith))

row_gives : (times : List ℕ) (lits : List Lit) (time row : ℕ) → length lits ≡ length times → row < length times → slice_index times row ≤ time
    → ((later : ℕ) → row < later → later < length times → time < slice_index times later) → literal_at times lits time ≡ slice_get lits row
unfolding literal_at
row_gives [] lits time row same less low last = absurd (omega (arith, less))
row_gives (t ∷ ts) [] time row same less low last = absurd (omega (arith, same))
row_gives (t ∷ ts) (lit ∷ lits) time zero same less low last =
    ap (λ o. first_literal o (if nat_le t time then Some lit else None)) (none_at ts lits time (λ row in_it. last (suc row) (omega arith) (omega (arith, in_it))))
    ∙ before_by time t lit low
row_gives (t ∷ ts) (lit ∷ lits) time (suc row) same less low last =
    let found : literal_at ts lits time ≡ slice_get lits row =
    row_gives ts lits time row (omega (arith, same)) (omega (arith, less)) low (λ later up in_it. last (suc later) (omega (arith, up)) (omega (arith, in_it))) in
    let there : row < length lits = omega (arith, same, less) in
    some_first (literal_at ts lits time) (slice_get lits row) (if nat_le t time then Some lit else None) found (has_item lits row there)
  where
    has_item : (xs : List Lit) (n : ℕ) → n < length xs → (x : Lit) × (slice_get xs n ≡ Some x)
    has_item [] n inside = absurd (omega (arith, inside))
    has_item (x ∷ xs) zero inside = (x, refl)
    has_item (x ∷ xs) (suc n) inside = has_item xs n (omega (arith, inside))

    some_first : (a b other : Option Lit) → a ≡ b → (x : Lit) × (b ≡ Some x) → first_literal a other ≡ b
    some_first a b other is has = ap (λ o. first_literal o other) (is ∙ has.1) ∙ sym has.1

pub last_row_gives : LastRowGives
last_row_gives = row_gives
