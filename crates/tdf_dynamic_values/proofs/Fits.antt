-- Rates that fit the limits of several modules, one after the other, fit those of each.
use Rattle.std.proofs.Common.{◌≡◌, ◌∙◌, ◌+◌, ◌++◌, ◌∷◌, [], ℕ, zero, suc, List, Some, drop, length, slice_index, take, ap, arith}
use Rattle.std.proofs.lemmas.List.{get_or-drop, get_or-take, length-append, length-drop, length-take-le}
use Rattle.std.proofs.lemmas.Option.{slice_get_within}
use Rattle.std.specs.Prelude.{slice_get}
use Rattle.tdf_expr_semantics.specs.Fits.{RatesFit}
use Rattle.tdf_expr_semantics.specs.Places.{RateLimits}

get_front : {X : Type 0} (xs ys : List X) (j : ℕ) (x : X) → slice_get xs j ≡ Some x → slice_get (xs ++ ys) j ≡ Some x
get_front [] ys j x at = absurd cc
get_front (z ∷ xs) ys zero x at = at
get_front (z ∷ xs) ys (suc j) x at = get_front xs ys j x at

get_back : {X : Type 0} (xs ys : List X) (j : ℕ) → slice_get (xs ++ ys) (length xs + j) ≡ slice_get ys j
get_back [] ys j = let e : 0 + j ≡ j = omega arith in ap (slice_get ys) e
get_back (z ∷ xs) ys j = let e : length (z ∷ xs) + j ≡ suc (length xs + j) = omega arith in ap (slice_get (z ∷ xs ++ ys)) e ∙ get_back xs ys j

module _ (front back : List RateLimits) (rates : List ℕ) (fit : RatesFit (front ++ back) rates) where
  both_long : length rates ≡ length front + length back
  both_long = fit.long ∙ length-append front back

  pub fits_front : (n : ℕ) → n ≡ length front → RatesFit front (take n rates)
  fits_front n is = record {
    long = length-take-le n rates (let l = both_long in omega (arith, l, is)) ∙ is;
    each = λ j l at.
        let within = slice_get_within front j l at in
        let same : slice_index (take n rates) j ≡ slice_index rates j = get_or-take n rates j 0 (omega (arith, within, is)) in
        let both = fit.each j l (get_front front back j l at) in
        (omega (arith, same, both.0), omega (arith, same, both.1));
  }

  pub fits_back : (n : ℕ) → n ≡ length front → RatesFit back (drop n rates)
  fits_back n is = record {
    long = let d = length-drop n rates in let l = both_long in omega (arith, d, l, is);
    each = λ j l at.
        let same : slice_index (drop n rates) j ≡ slice_index rates (n + j) = get_or-drop n rates j 0 in
        let there : slice_get (front ++ back) (n + j) ≡ Some l = ap (λ k. slice_get (front ++ back) (k + j)) is ∙ get_back front back j ∙ at in
        let both = fit.each (n + j) l there in
        (omega (arith, same, both.0), omega (arith, same, both.1));
  }
