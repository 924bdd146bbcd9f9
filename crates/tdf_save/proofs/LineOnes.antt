-- Lines of words are cut in one way.
use Rattle.std.proofs.Common.{◌≡◌, ℕ, false, List, [], ◌∷◌, ◌++◌, map, refl, ◌∙◌, ap, append_assoc}
use Rattle.std.specs.List.{AllByRecursion, flat_map}
use Rattle.tdf_save.proofs.Ones.{along_one, items_one, pair_one, post_one, pre_one}
use Rattle.tdf_save.proofs.WordLists.{line_is, words_none, words_some}
use Rattle.tdf_save.specs.Text.{after_spaces, saved_line}
use Rattle.tdf_save.specs.machine.Pieces.{Any, IsOne, Stops, begins_with_byte}

after_more : (w : List ℕ) (ws : List (List ℕ)) (t : List ℕ) → after_spaces (w ∷ ws) ++ t ≡ (32 ∷ w) ++ (after_spaces ws ++ t)
after_more w ws t = ap (λ x. x ++ t) (words_some w ws) ∙ append_assoc (32 ∷ w) (after_spaces ws) t

after_none : (t : List ℕ) → after_spaces [] ++ t ≡ t
after_none t = ap (λ x. x ++ t) words_none

abbrev pub line_end : List ℕ
line_end = 10 ∷ []

pub one_is : (keyword a : List ℕ) → saved_line keyword (a ∷ []) ≡ keyword ++ ((32 ∷ a) ++ line_end)
one_is keyword a = line_is keyword (a ∷ []) ∙ ap (λ x. keyword ++ x) (after_more a [] line_end ∙ ap (λ x. (32 ∷ a) ++ x) (after_none line_end))

pub two_is : (keyword a b : List ℕ) → saved_line keyword (a ∷ (b ∷ [])) ≡ keyword ++ ((32 ∷ a) ++ ((32 ∷ b) ++ line_end))
two_is keyword a b = line_is keyword (a ∷ (b ∷ [])) ∙ ap (λ x. keyword ++ x)
    (after_more a (b ∷ []) line_end ∙ ap (λ x. (32 ∷ a) ++ x) (after_more b [] line_end ∙ ap (λ x. (32 ∷ b) ++ x) (after_none line_end)))

pub three_is : (keyword a b c : List ℕ) → saved_line keyword (a ∷ (b ∷ (c ∷ []))) ≡ keyword ++ ((32 ∷ a) ++ ((32 ∷ b) ++ ((32 ∷ c) ++ line_end)))
three_is keyword a b c = line_is keyword (a ∷ (b ∷ (c ∷ []))) ∙ ap (λ x. keyword ++ x)
    (after_more a (b ∷ (c ∷ [])) line_end ∙ ap (λ x. (32 ∷ a) ++ x)
    (after_more b (c ∷ []) line_end ∙ ap (λ x. (32 ∷ b) ++ x) (after_more c [] line_end ∙ ap (λ x. (32 ∷ c) ++ x) (after_none line_end))))

pub more_is : (keyword a : List ℕ) (ws : List (List ℕ)) → saved_line keyword (a ∷ ws) ≡ keyword ++ ((32 ∷ a) ++ (after_spaces ws ++ line_end))
more_is keyword a ws = line_is keyword (a ∷ ws) ∙ ap (λ x. keyword ++ x) (after_more a ws line_end)

-- ---- one word, and a list of words

pub spaced_one : {V : Type 0} (word : V → List ℕ) (fits : V → Type 0) → IsOne word fits Stops → IsOne (λ v. 32 ∷ word v) fits Stops
spaced_one word fits one = pre_one (32 ∷ []) word fits Stops one

abbrev pub NoMore : List ℕ → Type 0
NoMore r = Stops r × (begins_with_byte 32 r ≡ false)

pub list_is : {V : Type 0} (word : V → List ℕ) (vs : List V) → after_spaces (map word vs) ≡ flat_map (λ v. 32 ∷ word v) vs
list_is word [] = words_none
list_is word (v ∷ vs) = words_some (word v) (map word vs) ∙ ap (λ x. 32 ∷ (word v ++ x)) (list_is word vs)

pub list_one : {V : Type 0} (word : V → List ℕ) (fits : V → Type 0) → IsOne word fits Stops → IsOne (λ vs. after_spaces (map word vs)) (AllByRecursion fits) NoMore
list_one word fits one = along_one (λ vs. vs) (λ vs. after_spaces (map word vs)) (flat_map (λ v. 32 ∷ word v)) (AllByRecursion fits) (AllByRecursion fits) NoMore
    (λ v w e. e) (list_is word) (λ v f. f)
    (items_one (λ v. 32 ∷ word v) fits Stops 32 (spaced_one word fits one) (λ v r. refl) (λ v r f. refl))

-- ---- to the end of the line

pub last_one : {V : Type 0} (word : V → List ℕ) (fits : V → Type 0) → IsOne word fits Stops → IsOne (λ v. (32 ∷ word v) ++ line_end) fits Any
last_one word fits one = post_one (λ v. 32 ∷ word v) line_end fits Stops (λ r. refl) (spaced_one word fits one)

pub lasts_one : {V : Type 0} (word : V → List ℕ) (fits : V → Type 0) → IsOne word fits Stops → IsOne (λ vs. after_spaces (map word vs) ++ line_end) (AllByRecursion fits) Any
lasts_one word fits one = post_one (λ vs. after_spaces (map word vs)) line_end (AllByRecursion fits) NoMore (λ r. (refl, refl)) (list_one word fits one)

-- ---- lines

-- a keyword and one word
pub word_line_one : {V : Type 0} (keyword : List ℕ) (word : V → List ℕ) (fits : V → Type 0) → IsOne word fits Stops → IsOne (λ v. saved_line keyword (word v ∷ [])) fits Any
word_line_one keyword word fits one = along_one (λ v. v) (λ v. saved_line keyword (word v ∷ [])) (λ v. keyword ++ ((32 ∷ word v) ++ line_end)) fits fits Any
    (λ v w e. e) (λ v. one_is keyword (word v)) (λ v f. f)
    (pre_one keyword (λ v. (32 ∷ word v) ++ line_end) fits Any (last_one word fits one))

-- a keyword, something fixed, and one word
pub path_line_one : {V : Type 0} (keyword path : List ℕ) (word : V → List ℕ) (fits : V → Type 0) → IsOne word fits Stops → IsOne (λ v. saved_line keyword (path ∷ (word v ∷ []))) fits Any
path_line_one keyword path word fits one = along_one (λ v. v) (λ v. saved_line keyword (path ∷ (word v ∷ []))) (λ v. keyword ++ ((32 ∷ path) ++ ((32 ∷ word v) ++ line_end))) fits fits Any
    (λ v w e. e) (λ v. two_is keyword path (word v)) (λ v f. f)
    (pre_one keyword (λ v. (32 ∷ path) ++ ((32 ∷ word v) ++ line_end)) fits Any
    (pre_one (32 ∷ path) (λ v. (32 ∷ word v) ++ line_end) fits Any (last_one word fits one)))

-- a keyword and a list
pub list_line_one : {V : Type 0} (keyword : List ℕ) (word : V → List ℕ) (fits : V → Type 0) → IsOne word fits Stops → IsOne (λ vs. saved_line keyword (map word vs)) (AllByRecursion fits) Any
list_line_one keyword word fits one = along_one (λ v. v) (λ vs. saved_line keyword (map word vs)) (λ vs. keyword ++ (after_spaces (map word vs) ++ line_end)) (AllByRecursion fits) (AllByRecursion fits) Any
    (λ v w e. e) (λ vs. line_is keyword (map word vs)) (λ v f. f)
    (pre_one keyword (λ vs. after_spaces (map word vs) ++ line_end) (AllByRecursion fits) Any (lasts_one word fits one))

-- a keyword, something fixed, and a list
pub path_list_one : {V : Type 0} (keyword path : List ℕ) (word : V → List ℕ) (fits : V → Type 0) → IsOne word fits Stops → IsOne (λ vs. saved_line keyword (path ∷ map word vs)) (AllByRecursion fits) Any
path_list_one keyword path word fits one = along_one (λ v. v) (λ vs. saved_line keyword (path ∷ map word vs)) (λ vs. keyword ++ ((32 ∷ path) ++ (after_spaces (map word vs) ++ line_end))) (AllByRecursion fits) (AllByRecursion fits) Any
    (λ v w e. e) (λ vs. more_is keyword path (map word vs)) (λ v f. f)
    (pre_one keyword (λ vs. (32 ∷ path) ++ (after_spaces (map word vs) ++ line_end)) (AllByRecursion fits) Any
    (pre_one (32 ∷ path) (λ vs. after_spaces (map word vs) ++ line_end) (AllByRecursion fits) Any (lasts_one word fits one)))

-- a keyword and two words
pub two_line_one : {A B : Type 0} (keyword : List ℕ) (word : A → List ℕ) (other : B → List ℕ) (fits : A → Type 0) (suits : B → Type 0) → IsOne word fits Stops → IsOne other suits Stops
    → IsOne (λ (p : A × B). saved_line keyword (word p.0 ∷ (other p.1 ∷ []))) (λ (p : A × B). fits p.0 × suits p.1) Any
two_line_one {A} {B} keyword word other fits suits one two = along_one (λ (p : A × B). p) (λ (p : A × B). saved_line keyword (word p.0 ∷ (other p.1 ∷ []))) (λ (p : A × B). keyword ++ ((32 ∷ word p.0) ++ ((32 ∷ other p.1) ++ line_end)))
    (λ (p : A × B). fits p.0 × suits p.1) (λ (p : A × B). fits p.0 × suits p.1) Any
    (λ v w e. e) (λ v. two_is keyword (word v.0) (other v.1)) (λ v f. f)
    (pre_one keyword (λ (p : A × B). (32 ∷ word p.0) ++ ((32 ∷ other p.1) ++ line_end)) (λ (p : A × B). fits p.0 × suits p.1) Any
    (pair_one (λ v. 32 ∷ word v) (λ v. (32 ∷ other v) ++ line_end) fits suits Stops Any (spaced_one word fits one) (last_one other suits two) (λ b r f e. refl)))

-- a keyword and three words
pub three_line_one : {A B C : Type 0} (keyword : List ℕ) (word : A → List ℕ) (other : B → List ℕ) (third : C → List ℕ) (fits : A → Type 0) (suits : B → Type 0) (meets : C → Type 0)
    → IsOne word fits Stops → IsOne other suits Stops → IsOne third meets Stops
    → IsOne (λ (p : A × (B × C)). saved_line keyword (word p.0 ∷ (other p.1.0 ∷ (third p.1.1 ∷ [])))) (λ (p : A × (B × C)). fits p.0 × (suits p.1.0 × meets p.1.1)) Any
three_line_one {A} {B} {C} keyword word other third fits suits meets one two three =
    along_one (λ (p : A × (B × C)). p) (λ (p : A × (B × C)). saved_line keyword (word p.0 ∷ (other p.1.0 ∷ (third p.1.1 ∷ []))))
    (λ (p : A × (B × C)). keyword ++ ((32 ∷ word p.0) ++ ((32 ∷ other p.1.0) ++ ((32 ∷ third p.1.1) ++ line_end))))
    (λ (p : A × (B × C)). fits p.0 × (suits p.1.0 × meets p.1.1)) (λ (p : A × (B × C)). fits p.0 × (suits p.1.0 × meets p.1.1)) Any
    (λ v w e. e) (λ v. three_is keyword (word v.0) (other v.1.0) (third v.1.1)) (λ v f. f)
    (pre_one keyword (λ (p : A × (B × C)). (32 ∷ word p.0) ++ ((32 ∷ other p.1.0) ++ ((32 ∷ third p.1.1) ++ line_end))) (λ (p : A × (B × C)). fits p.0 × (suits p.1.0 × meets p.1.1)) Any
    (pair_one (λ v. 32 ∷ word v) (λ (q : B × C). (32 ∷ other q.0) ++ ((32 ∷ third q.1) ++ line_end)) fits (λ (q : B × C). suits q.0 × meets q.1) Stops Any
    (spaced_one word fits one)
    (pair_one (λ v. 32 ∷ other v) (λ v. (32 ∷ third v) ++ line_end) suits meets Stops Any (spaced_one other suits two) (last_one third meets three) (λ b r f e. refl))
    (λ b r f e. refl)))
