-- Texts that are put together piece by piece.
use Rattle.std.proofs.Common.{◌≡◌, ◌+◌, ℕ, zero, suc, arith, List, [], ◌∷◌, ◌++◌, append_assoc, append-nil, refl, sym, ap, ◌∙◌, Result, Ok, Err, OnOk}
use Rattle.std.proofs.lemmas.List.{flat_map_more}
use Rattle.std.specs.List.{flat_map, range_with_len}

pub ruleset text_laws = (append_assoc, append-nil)

-- one number more
range_next : (a n j : ℕ) → a + n ≡ j → range_with_len a (n + 1) ≡ range_with_len a n ++ j ∷ []
range_next a zero j is = let e : a ≡ j = omega (arith, is) in ap (λ k. k ∷ []) e
range_next a (suc n) j is = let e : suc n + 1 ≡ suc (n + 1) = omega arith in ap (range_with_len a) e ∙ ap (λ list. a ∷ list) (range_next (a + 1) n j (omega (arith, is)))

-- the text of one number more
pub texts_next : (f : ℕ → List ℕ) (a n j : ℕ) (before out new : List ℕ) → a + n ≡ j → out ≡ before ++ flat_map f (range_with_len a n) → new ≡ out ++ f j
    → new ≡ before ++ flat_map f (range_with_len a (n + 1))
texts_next f a n j before out new at is more =
    more ∙ ap (λ text. text ++ f j) is ∙ flat_map_more f before (range_with_len a n) j
    ∙ ap (λ list. before ++ flat_map f list) (sym (range_next a n j at))

-- three pieces, one after the other
pub three_joined : {T E : Type 0} (r : Result T E) (before a b c one two new : List ℕ) → one ≡ before ++ a → two ≡ one ++ b → OnOk r (new ≡ two ++ c)
    → OnOk r (new ≡ before ++ (a ++ (b ++ c)))
three_joined (Ok x) before a b c one two new first second third =
    third ∙ ap (λ l. l ++ c) (second ∙ ap (λ l. l ++ b) first) ∙ append_assoc (before ++ a) b c ∙ append_assoc before a (b ++ c)
three_joined (Err e) before a b c one two new first second third = tt
