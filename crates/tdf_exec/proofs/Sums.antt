-- Sums over a list whose elements have keys and weights, and sums over two lists.
use Rattle.std.proofs.Common.{◌≡◌, ◌∙◌, ◌≢◌, ℕ, suc, ◌+◌, ◌-◌, ◌<◌, ◌≤◌, Bool, List, [], ◌∷◌, Some, length, map, set, nat_eq, if◌then◌else◌, refl, sym, ap, subst, inl, inr, arith}
use Rattle.std.proofs.lemmas.Bool.{cases_eq, cases_lt, eq-eqb, ne_eqb}
use Rattle.std.proofs.lemmas.List.{get_or-set_other, get_or-set_same, get_or_past}
use Rattle.std.proofs.lemmas.List.Sums.{sum_by-cons, sum_by-set}
use Rattle.std.specs.Prelude.{slice_get, slice_index, sum, sum_by}

-- elements that have keys and weights
module _ {X : Type 0} (key weight : X → ℕ) where
  -- what those with one key weigh together
  abbrev pub by_key : ℕ → List X → ℕ
  by_key k xs = sum_by (λ (x : X). if nat_eq (key x) k then weight x else 0) xs

  -- one more with the key, and one more with another
  pub own : (k : ℕ) (x : X) (xs : List X) → key x ≡ k → by_key k (x ∷ xs) ≡ weight x + by_key k xs
  own k x xs same = sum_by-cons (λ (y : X). if nat_eq (key y) k then weight y else 0) x xs
      ∙ ap (λ (b : Bool). (if b then weight x else 0) + by_key k xs) (eq-eqb (key x) k same)

  pub other : (k : ℕ) (x : X) (xs : List X) → key x ≢ k → by_key k (x ∷ xs) ≡ by_key k xs
  other k x xs apart =
      let s = sum_by-cons (λ (y : X). if nat_eq (key y) k then weight y else 0) x xs in
      let z : (if nat_eq (key x) k then weight x else 0) ≡ 0 = ap (λ (b : Bool). if b then weight x else 0) (ne_eqb (key x) k apart) in
      omega (arith, s, z)

  -- one element less
  abbrev less : X → List ℕ → List ℕ
  less x most = set most (key x) (slice_index most (key x) - weight x)

  lowered : (x : X) (xs : List X) (most : List ℕ) → ((k : ℕ) → by_key k (x ∷ xs) ≤ slice_index most k) → key x < length most
      → (k : ℕ) → by_key k xs ≤ slice_index (less x most) k
  lowered x xs most each inside k = elim (cases_eq k (key x)) [
    | inl same ↦ subst (λ j. by_key j xs ≤ slice_index (less x most) j) (sym same) (
        let h = each (key x) in
        let o = own (key x) x xs refl in
        let g : slice_index (less x most) (key x) ≡ slice_index most (key x) - weight x = get_or-set_same most (key x) _ 0 inside in
        omega (arith, h, o, g))
    | inr apart ↦ (
        let h = each k in
        let o = other k x xs (λ e. apart (sym e)) in
        let g : slice_index (less x most) k ≡ slice_index most k = get_or-set_other most (key x) k _ 0 apart in
        omega (arith, h, o, g))
  ]

  -- where those with each key weigh at most a number, all weigh at most the sum of these numbers
  pub all_keys : (xs : List X) (most : List ℕ) → ((k : ℕ) → by_key k xs ≤ slice_index most k) → sum_by weight xs ≤ sum most
  all_keys [] most each = omega arith
  all_keys (x ∷ xs) most each =
      let s = sum_by-cons weight x xs in
      let o = own (key x) x xs refl in
      let h = each (key x) in
      elim (cases_lt (key x) (length most)) [
        | inl inside ↦ (
            let r = all_keys xs (less x most) (lowered x xs most each inside) in
            let t : sum (less x most) + slice_index most (key x) ≡ sum most + (slice_index most (key x) - weight x) =
            sum_by-set (λ n. n) most (key x) _ 0 inside in
            omega (arith, s, o, h, r, t))
        | inr past ↦ (
            let z : slice_index most (key x) ≡ 0 = get_or_past most (key x) 0 past in
            let r = all_keys xs most (λ k. omega (arith, sum_by-cons (λ (y : X). if nat_eq (key y) k then weight y else 0) x xs, each k)) in
            omega (arith, s, o, h, z, r))
      ]

  none : (k : ℕ) (xs : List X) → ((j : ℕ) (x : X) → slice_get xs j ≡ Some x → key x ≢ k) → by_key k xs ≡ 0
  none k [] away = refl
  none k (x ∷ xs) away = other k x xs (away 0 x refl) ∙ none k xs (λ j y at. away (suc j) y at)

  -- where no two have one key
  pub once : (k n : ℕ) (xs : List X) → ((i j : ℕ) (x y : X) → slice_get xs i ≡ Some x → slice_get xs j ≡ Some y → key x ≡ key y → i ≡ j)
      → ((j : ℕ) (x : X) → slice_get xs j ≡ Some x → key x ≡ k → weight x ≤ n) → by_key k xs ≤ n
  once k n [] apart small = omega arith
  once k n (x ∷ xs) apart small = elim (cases_eq (key x) k) [
    | inl same ↦ (
        let o = own k x xs same in
        let w = small 0 x refl same in
        let z = none k xs (λ j y at e. let q = apart 0 (suc j) x y refl at (same ∙ sym e) in omega (arith, q)) in
        omega (arith, o, w, z))
    | inr away ↦ (
        let o = other k x xs away in
        let r = once k n xs (λ i j y z yat zat e. let q = apart (suc i) (suc j) y z yat zat e in omega (arith, q)) (λ j y at e. small (suc j) y at e) in
        omega (arith, o, r))
  ]

-- a sum over one list is at most two sums over another
pub pair_sums : {X Y : Type 0} (f : X → ℕ) (g h : Y → ℕ) (xs : List X) (ys : List Y) → length xs ≡ length ys
    → ((e : ℕ) (x : X) (y : Y) → slice_get xs e ≡ Some x → slice_get ys e ≡ Some y → f x ≤ g y + h y) → sum_by f xs ≤ sum_by g ys + sum_by h ys
pair_sums f g h [] ys same each = omega arith
pair_sums f g h (x ∷ xs) [] same each = absurd (omega (arith, same))
pair_sums f g h (x ∷ xs) (y ∷ ys) same each =
    let a = sum_by-cons f x xs in
    let b = sum_by-cons g y ys in
    let c = sum_by-cons h y ys in
    let i = each 0 x y refl refl in
    let r = pair_sums f g h xs ys (omega (arith, same)) (λ e v w vat wat. each (suc e) v w vat wat) in
    omega (arith, a, b, c, i, r)

-- a sum over the images
pub over_map : {X Y : Type 0} (g : X → Y) (f : Y → ℕ) (xs : List X) → sum_by f (map g xs) ≡ sum_by (λ (x : X). f (g x)) xs
over_map g f [] = refl
over_map g f (x ∷ xs) = omega (arith, sum_by-cons f (g x) (map g xs), sum_by-cons (λ y. f (g y)) x xs, over_map g f xs)
