-- Events have one owner, and numbers in a row are found at their places.
use Rattle.std.proofs.Common.{◌≡◌, ◌≢◌, ◌∙◌, ℕ, zero, suc, ◌+◌, ◌<◌, ◌≤◌, Bool, true, false, ◌||◌, nat_eq, if◌then◌else◌, List, [], ◌∷◌, length, Some, slice_get, slice_index, refl, sym, ap, inl, inr, arith}
use Rattle.std.proofs.lemmas.Bool.{true≢false}
use Rattle.std.proofs.lemmas.Bool.Decides.{eqb_tells}
use Rattle.std.specs.List.{list_any, range_with_len}
use Rattle.tdf_bind_connections.specs.declared.blocks.EventRow.{EventRow}
use Rattle.tdf_events.specs.Processes.{owned_from}

-- the row of a number among those that an instance owns
pub record IsOwned (rows : List EventRow) (owner k : ℕ) : Type 0 where
  pub row : EventRow
  pub at : slice_get rows k ≡ Some row
  pub owner_is : row.owner ≡ owner

owned_more : (r : EventRow) (rows : List EventRow) (owner k : ℕ) → IsOwned rows owner k → IsOwned (r ∷ rows) owner (suc k)
owned_more r rows owner k is = record { row = is.row; at = is.at; owner_is = is.owner_is }

abbrev RowEach : ℕ → ℕ → List EventRow → Type 0
RowEach owner first rows = (j : ℕ) → j < length (owned_from owner (first + 1) rows) → (k : ℕ) × (slice_index (owned_from owner (first + 1) rows) j ≡ first + 1 + k) × IsOwned rows owner k

-- each number that an instance owns is that of such a row
pub owned_row : (owner first : ℕ) (rows : List EventRow) (i : ℕ) → i < length (owned_from owner first rows) → (k : ℕ) × (slice_index (owned_from owner first rows) i ≡ first + k) × IsOwned rows owner k
unfolding owned_from
owned_row owner first [] i less = absurd (omega (arith, less))
owned_row owner first (r ∷ rows) i less = go (nat_eq r.owner owner) refl i less (owned_row owner (first + 1) rows)
  where
    later : RowEach owner first rows → (j : ℕ) → j < length (owned_from owner (first + 1) rows) → (k : ℕ) × (slice_index (owned_from owner (first + 1) rows) j ≡ first + k) × IsOwned (r ∷ rows) owner k
    later rest j below = (
        let found = rest j below in
        let f : first + 1 + found.0 ≡ first + suc found.0 = omega arith in
        (suc found.0, found.1 ∙ f, owned_more r rows owner found.0 found.2))

    go : (b : Bool) → nat_eq r.owner owner ≡ b → (j : ℕ) → j < length (if b then first ∷ owned_from owner (first + 1) rows else owned_from owner (first + 1) rows) → RowEach owner first rows
        → (k : ℕ) × (slice_index (if b then first ∷ owned_from owner (first + 1) rows else owned_from owner (first + 1) rows) j ≡ first + k) × IsOwned (r ∷ rows) owner k
    go true is zero below rest = (
        let f : first ≡ first + 0 = omega arith in
        (0, f, record { row = r; at = refl; owner_is = elim (eqb_tells r.owner owner) [ inl y ↦ y.1 | inr n ↦ absurd (true≢false (sym is ∙ n.0)) ] }))
    go true is (suc j) below rest = later rest j (omega (arith, below))
    go false is j below rest = later rest j below

-- so two instances own no event both
pub apart_owners : (one other : ℕ) (rows : List EventRow) (i j : ℕ) → one ≢ other → i < length (owned_from one 0 rows) → j < length (owned_from other 0 rows)
    → slice_index (owned_from one 0 rows) i ≢ slice_index (owned_from other 0 rows) j
apart_owners one other rows i j apart less below same =
    let a = owned_row one 0 rows i less in
    let b = owned_row other 0 rows j below in
    let e : a.0 ≡ b.0 = (let x = a.1 in let y = b.1 in omega (arith, x, y, same)) in
    let p : IsOwned rows one a.0 = a.2 in
    let q : IsOwned rows other b.0 = b.2 in
    let r : p.row ≡ q.row = row_same p.row q.row (sym p.at ∙ ap (slice_get rows) e ∙ q.at) in
    apart (sym p.owner_is ∙ ap (λ (x : EventRow). x.owner) r ∙ q.owner_is)
  where
    row_same : (x y : EventRow) → Some x ≡ Some y → x ≡ y
    row_same x y is = cc

-- numbers in a row
pub range_at : (first count k : ℕ) → k < count → slice_index (range_with_len first count) k ≡ first + k
range_at first zero k less = absurd (omega (arith, less))
range_at first (suc count) zero less = omega arith
range_at first (suc count) (suc k) less = let e = range_at (first + 1) count k (omega (arith, less)) in omega (arith, e)

pub range_long : (first count : ℕ) → length (range_with_len first count) ≡ count
range_long first zero = refl
range_long first (suc count) = ap suc (range_long (first + 1) count)

-- a number that is among some is at a place
pub among_at : (numbers : List ℕ) (x : ℕ) → list_any (nat_eq x) numbers ≡ true → (j : ℕ) × (j < length numbers) × (slice_index numbers j ≡ x) × (slice_get numbers j ≡ Some x)
among_at [] x is = absurd (cc)
among_at (n ∷ ns) x is = elim (eqb_tells x n) [
  | inl y ↦ (let some : 0 < length (n ∷ ns) = omega arith in (0, some, sym y.1, ap Some (sym y.1)))
  | inr m ↦ (
      let more : list_any (nat_eq x) ns ≡ true = sym (ap (λ (b : Bool). b || list_any (nat_eq x) ns) m.0) ∙ is in
      let found = among_at ns x more in
      let inside : suc found.0 < length (n ∷ ns) = (let l = found.1 in omega (arith, l)) in
      (suc found.0, inside, found.2, found.3))
]

pub is_among_of : (numbers : List ℕ) (x j : ℕ) → slice_get numbers j ≡ Some x → list_any (nat_eq x) numbers ≡ true
is_among_of [] x j at = absurd (cc)
is_among_of (n ∷ ns) x zero at = (let same : n ≡ x = cc in elim (eqb_tells x n) [ inl y ↦ ap (λ (b : Bool). b || list_any (nat_eq x) ns) y.0 | inr m ↦ absurd (m.1 (sym same)) ])
is_among_of (n ∷ ns) x (suc j) at = ap (λ (b : Bool). nat_eq x n || b) (is_among_of ns x j at) ∙ or_true (nat_eq x n)
  where
    or_true : (b : Bool) → (b || true) ≡ true
    or_true true = refl
    or_true false = refl

-- a number in a row, by its bounds
pub range_among : (first count x : ℕ) → list_any (nat_eq x) (range_with_len first count) ≡ true → (first ≤ x) × (x < first + count)
range_among first count x is =
    let found = among_at (range_with_len first count) x is in
    let less : found.0 < count = (let l = found.1 in let e = range_long first count in omega (arith, l, e)) in
    let at = range_at first count found.0 less in
    let is_it = found.2 in
    (omega (arith, at, is_it), omega (arith, at, is_it, less))

pub in_range_among : (first count k : ℕ) → k < count → list_any (nat_eq (first + k)) (range_with_len first count) ≡ true
in_range_among first count k less = is_among_of (range_with_len first count) (first + k) k (get_range first count k less)
  where
    get_range : (a n i : ℕ) → i < n → slice_get (range_with_len a n) i ≡ Some (a + i)
    get_range a zero i below = absurd (omega (arith, below))
    get_range a (suc n) zero below = (let e : a ≡ a + 0 = omega arith in ap Some e)
    get_range a (suc n) (suc i) below = (let e : a + 1 + i ≡ a + suc i = omega arith in get_range (a + 1) n i (omega (arith, below)) ∙ ap Some e)
