-- Words of lines, one after the other.
use Rattle.std.proofs.Common.{◌≡◌, ℕ, ℤ, ◌+◌, ◌<◌, ◌≤◌, List, [], ◌∷◌, ◌++◌, length, map, take, get_or, refl, ◌∙◌, sym, ap, append_assoc, append-nil, arith}
use Rattle.std.proofs.lemmas.Grind.{flat_map-append}
use Rattle.std.proofs.lemmas.List.{length-append, map_more, take-append-le, take-take, take_all}
use Rattle.tdf_save.specs.Text.{after_spaces, saved_line}

pub words_none : after_spaces [] ≡ []
unfolding after_spaces
words_none = refl

pub words_some : (w : List ℕ) (ws : List (List ℕ)) → after_spaces (w ∷ ws) ≡ 32 ∷ (w ++ after_spaces ws)
unfolding after_spaces
words_some w ws = refl

pub line_is : (keyword : List ℕ) (ws : List (List ℕ)) → saved_line keyword ws ≡ keyword ++ (after_spaces ws ++ 10 ∷ [])
unfolding saved_line
line_is keyword ws = refl

words_both : (us ws : List (List ℕ)) → after_spaces (us ++ ws) ≡ after_spaces us ++ after_spaces ws
unfolding after_spaces
words_both us ws = flat_map-append (λ (w : List ℕ). 32 ∷ w) us ws

words_one : (w : List ℕ) → after_spaces (w ∷ []) ≡ 32 ∷ w
words_one w = words_some w [] ∙ ap (λ x. 32 ∷ (w ++ x)) words_none ∙ ap (λ x. 32 ∷ x) (append-nil w)

-- the words of the first of some items
abbrev pub words_before : {A : Type 0} → (A → List ℕ) → List A → ℕ → List ℕ
words_before f xs k = after_spaces (map f (take k xs))

pub before_none : {A : Type 0} (f : A → List ℕ) (xs : List A) → words_before f xs 0 ≡ []
before_none f xs = words_none

pub before_more : {A : Type 0} (f : A → List ℕ) (xs : List A) (k : ℕ) (d : A) → k < length xs
    → words_before f xs (k + 1) ≡ words_before f xs k ++ (32 ∷ f (get_or xs k d))
before_more f xs k d less = ap after_spaces (map_more f xs k d less)
    ∙ words_both (map f (take k xs)) (f (get_or xs k d) ∷ [])
    ∙ ap (λ x. words_before f xs k ++ x) (words_one (f (get_or xs k d)))

pub before_all : {A : Type 0} (f : A → List ℕ) (xs : List A) (k : ℕ) → length xs ≤ k → words_before f xs k ≡ after_spaces (map f xs)
before_all f xs k all = ap (λ ys. after_spaces (map f ys)) (take_all k xs all)

-- what was there is there still
pub kept_on : (old new newer more : List ℕ) → new ≡ old ++ more → take (length new) newer ≡ new → take (length old) newer ≡ old
kept_on old new newer more is h =
    let short : length old ≤ length new = rw is (rw (length-append old more) (omega arith)) in
    sym (take-take (length old) (length new) newer short) ∙ ap (take (length old)) h ∙ ap (take (length old)) is ∙ take-append-le (length old) old more (omega arith) ∙ take_all (length old) old (omega arith)

pub none_before : {A : Type 0} (f : A → List ℕ) (out : List ℕ) (xs : List A) → out ≡ out ++ words_before f xs 0
none_before f out xs = sym (ap (λ x. out ++ x) (before_none f xs) ∙ append-nil out)

pub one_more : {A : Type 0} (f : A → List ℕ) (out mid new : List ℕ) (xs : List A) (k : ℕ) (d : A) → k < length xs
    → mid ≡ out ++ words_before f xs k → new ≡ mid ++ (32 ∷ f (get_or xs k d)) → new ≡ out ++ words_before f xs (k + 1)
one_more f out mid new xs k d less is h = h ∙ ap (λ x. x ++ (32 ∷ f (get_or xs k d))) is
    ∙ append_assoc out (words_before f xs k) (32 ∷ f (get_or xs k d))
    ∙ ap (λ x. out ++ x) (sym (before_more f xs k d less))

pub ruleset word_laws = (take-append-le, append_assoc, append-nil)

pub ruleset line_laws = (words_none, words_some, line_is, take-append-le, append_assoc, append-nil)

pub ruleset list_laws = (none_before, one_more, kept_on, before_all, take-append-le, append_assoc, append-nil)
