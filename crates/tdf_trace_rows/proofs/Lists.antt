-- Lists that go by a range of numbers.
use Rattle.std.proofs.Common.{◌≡◌, ℕ, zero, suc, ◌+◌, ◌<◌, ◌≤◌, List, [], ◌∷◌, length, map, slice_get, Some, refl, ap, ◌∙◌, arith}
use Rattle.std.specs.List.{range_with_len}

-- two functions that agree on a range
pub range_same : {A : Type 0} (f h : ℕ → A) (a n : ℕ) → ((c : ℕ) → a ≤ c → c < a + n → f c ≡ h c)
    → map f (range_with_len a n) ≡ map h (range_with_len a n)
range_same f h a zero same = refl
range_same f h a (suc n) same =
    ap (λ x. x ∷ map f (range_with_len (a + 1) n)) (same a (omega arith) (omega arith))
    ∙ ap (λ xs. h a ∷ xs) (range_same f h (a + 1) n (λ c low high. same c (omega (arith, low)) (omega (arith, high))))

-- a list whose items are those of a function, place by place
pub shown_list : {A B : Type 0} (f : A → B) (h : ℕ → B) (a : ℕ) (xs : List A)
    → ((c : ℕ) (x : A) → slice_get xs c ≡ Some x → f x ≡ h (a + c)) → map f xs ≡ map h (range_with_len a (length xs))
shown_list f h a [] same = refl
shown_list f h a (x ∷ xs) same =
    let here : a + 0 ≡ a = omega arith in
    ap (λ y. y ∷ map f xs) (same 0 x refl ∙ ap h here)
    ∙ ap (λ ys. h a ∷ ys) (shown_list f h (a + 1) xs (λ c y at. (let e : a + suc c ≡ a + 1 + c = omega arith in same (suc c) y at ∙ ap h e)))
