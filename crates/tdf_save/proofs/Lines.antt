-- Lines that are passed on the way to the text of the model.
use Rattle.std.proofs.Common.{◌≡◌, ℕ, zero, suc, ◌+◌, ◌<◌, ◌≤◌, Bool, true, false, nat_eq, nat_lt, List, [], ◌∷◌, ◌++◌, length, drop, refl, ◌∙◌, sym, ap, append_assoc, arith, codes, Option, Some, None, ⊎_elim, if◌then◌else◌}
use Rattle.std.proofs.lemmas.Bool.{cases_Bool, lt-ltb}
use Rattle.std.proofs.lemmas.Bool.Decides.{nat_tests}
use Rattle.std.proofs.lemmas.List.{length-append}
use Rattle.std.proofs.lemmas.List.Folds.{list_any-append}
use Rattle.std.specs.List.{AllByRecursion, AllZip, flat_map, list_any, position, position_or_len, starts_with}
use Rattle.tdf_save.proofs.WordLists.{line_is, words_none, words_some}
use Rattle.tdf_save.specs.Start.{IsInLine, ends_a_line}
use Rattle.tdf_save.specs.Text.{after_spaces, each_text, saved_line}
use Rattle.tdf_save.specs.machine.Start.{start_by_line, text_start_in}

-- ---- room enough

drop_short : (n : ℕ) (xs : List ℕ) → length (drop n xs) ≤ length xs
drop_short zero xs = omega arith
drop_short (suc n) [] = omega arith
drop_short (suc n) (x ∷ xs) = omega (arith, drop_short n xs)

in_step : (n place : ℕ) (text : List ℕ) → text_start_in (suc n) place text
    ≡ start_by_line place (starts_with nat_eq text (codes "text ")) (λ size. text_start_in n (place + size) (drop size text)) (position ends_a_line text)
unfolding text_start_in
in_step n place text = refl

in_none : (n place : ℕ) → text_start_in n place [] ≡ None
unfolding text_start_in
in_none zero place = refl
in_none (suc n) place = refl

by_later : (place : ℕ) (is_text : Bool) (f g : ℕ → Option ℕ) (end : Option ℕ) → ((k : ℕ) → f (k + 1) ≡ g (k + 1)) → start_by_line place is_text f end ≡ start_by_line place is_text g end
by_later place is_text f g None h = refl
by_later place true f g (Some end) h = refl
by_later place false f g (Some end) h = h end

drop_less : (k : ℕ) (c : ℕ) (cs : List ℕ) (n : ℕ) → length (c ∷ cs) ≤ suc n → length (drop (k + 1) (c ∷ cs)) ≤ n
drop_less k c cs n h =
    let e : k + 1 ≡ suc k = omega arith in
    let short = drop_short k cs in
    rw e (omega (arith, h, short))

room_enough : (m n place : ℕ) (text : List ℕ) → length text ≤ m → length text ≤ n → text_start_in m place text ≡ text_start_in n place text
room_enough m n place [] a b = in_none m place ∙ sym (in_none n place)
room_enough zero n place (c ∷ text) a b = absurd (omega (arith, a))
room_enough (suc m) zero place (c ∷ text) a b = absurd (omega (arith, b))
room_enough (suc m) (suc n) place (c ∷ text) a b =
    in_step m place (c ∷ text)
    ∙ by_later place (starts_with nat_eq (c ∷ text) (codes "text ")) (λ size. text_start_in m (place + size) (drop size (c ∷ text))) (λ size. text_start_in n (place + size) (drop size (c ∷ text))) (position ends_a_line (c ∷ text))
    (λ k. room_enough m n (place + (k + 1)) (drop (k + 1) (c ∷ text)) (drop_less k c text m a) (drop_less k c text n b))
    ∙ sym (in_step n place (c ∷ text))

-- ---- a line that is passed

-- what a text at a place gives
abbrev pub found : ℕ → List ℕ → Option ℕ
found place text = text_start_in (length text) place text

end_by : (c : ℕ) (b : Bool) → ends_a_line c ≡ b → (line rest : List ℕ) → list_any ends_a_line (c ∷ line) ≡ false → position_or_len ends_a_line (line ++ (10 ∷ rest)) ≡ length line
    → position_or_len ends_a_line (c ∷ (line ++ (10 ∷ rest))) ≡ suc (length line)
end_by c true e line rest h is = absurd (let f : true ≡ false = rw e at h in cc)
end_by c false e line rest h is = rw e (rw is (omega arith))

pub tail_of : (c : ℕ) (line : List ℕ) → list_any ends_a_line (c ∷ line) ≡ false → list_any ends_a_line line ≡ false
tail_of c line h = ⊎_elim
    (λ (here : ends_a_line c ≡ true). absurd (let f : true ≡ false = rw here at h in cc))
    (λ (other : ends_a_line c ≡ false). rw other at h)
    (cases_Bool (ends_a_line c))

end_at : (line rest : List ℕ) → IsInLine line → position_or_len ends_a_line (line ++ (10 ∷ rest)) ≡ length line
end_at [] rest h = refl
end_at (c ∷ line) rest h = end_by c (ends_a_line c) refl line rest h (end_at line rest (tail_of c line h))

position_by : (n : ℕ) (text : List ℕ) → position_or_len ends_a_line text ≡ n → n < length text → position ends_a_line text ≡ Some n
position_by n text is less = rw is (let f : nat_lt n (length text) ≡ true = lt-ltb n (length text) less in rw f refl)

line_found : (line rest : List ℕ) → IsInLine line → position ends_a_line (line ++ (10 ∷ rest)) ≡ Some (length line)
line_found line rest h = position_by (length line) (line ++ (10 ∷ rest)) (end_at line rest h)
    (rw (length-append line (10 ∷ rest)) (omega arith))

drop_line : (line rest : List ℕ) → drop (length line + 1) (line ++ (10 ∷ rest)) ≡ rest
drop_line [] rest = refl
drop_line (c ∷ line) rest =
    let e : suc (length line) + 1 ≡ suc (length line + 1) = omega arith in
    rw e (drop_line line rest)

no_end : (text : List ℕ) → IsInLine text → position_or_len ends_a_line text ≡ length text
no_end [] h = refl
no_end (c ∷ text) h = no_end_by c (ends_a_line c) refl text h (no_end text (tail_of c text h))
  where
    no_end_by : (c : ℕ) (b : Bool) → ends_a_line c ≡ b → (text : List ℕ) → IsInLine (c ∷ text) → position_or_len ends_a_line text ≡ length text → position_or_len ends_a_line (c ∷ text) ≡ suc (length text)
    no_end_by c true e text h is = absurd (let f : true ≡ false = rw e at h in cc)
    no_end_by c false e text h is = rw e (rw is (omega arith))

-- a text without an LF gives nothing
pub found_none : (place : ℕ) (text : List ℕ) → IsInLine text → found place text ≡ None
found_none place [] h = in_none 0 place
found_none place (c ∷ text) h =
    let long = length (c ∷ text) in
    let less : nat_lt long long ≡ false = grind (arith, nat_tests) in
    let none : position ends_a_line (c ∷ text) ≡ None = rw (no_end (c ∷ text) h) (rw less refl) in
    in_step (length text) place (c ∷ text)
    ∙ ap (start_by_line place (starts_with nat_eq (c ∷ text) (codes "text ")) (λ size. text_start_in (length text) (place + size) (drop size (c ∷ text)))) none

-- what a line gives
pub found_line : (place : ℕ) (line rest : List ℕ) → IsInLine line
    → found place (line ++ (10 ∷ rest)) ≡ (if starts_with nat_eq (line ++ (10 ∷ rest)) (codes "text ") then Some (place + (length line + 1)) else found (place + (length line + 1)) rest)
found_line place line rest h =
    let text = line ++ (10 ∷ rest) in
    let long : length text ≡ suc (length line + length rest) = rw (length-append line (10 ∷ rest)) (omega arith) in
    let at = line_found line rest h in
    let more : text_start_in (length line + length rest) (place + (length line + 1)) (drop (length line + 1) text) ≡ found (place + (length line + 1)) rest =
    ap (λ t. text_start_in (length line + length rest) (place + (length line + 1)) t) (drop_line line rest) ∙ room_enough (length line + length rest) (length rest) (place + (length line + 1)) rest (omega arith) (omega arith) in
    ap (λ n. text_start_in n place text) long ∙ in_step (length line + length rest) place text
    ∙ ap (start_by_line place (starts_with nat_eq text (codes "text ")) (λ size. text_start_in (length line + length rest) (place + size) (drop size text))) at
    ∙ ap (λ o. if starts_with nat_eq text (codes "text ") then Some (place + (length line + 1)) else o) more

-- a text that is passed
abbrev pub Passes : List ℕ → Type 0
Passes text = (place : ℕ) (rest : List ℕ) → found place (text ++ rest) ≡ found (place + length text) rest

pub passes_none : Passes []
passes_none place rest = let e : place + 0 ≡ place = omega arith in rw e refl

pub passes_both : (a b : List ℕ) → Passes a → Passes b → Passes (a ++ b)
passes_both a b f g place rest =
    let e : place + length a + length b ≡ place + length (a ++ b) = rw (length-append a b) (omega arith) in
    ap (found place) (append_assoc a b rest) ∙ f place (b ++ rest) ∙ g (place + length a) rest ∙ ap (λ n. found n rest) e

-- a keyword that doesn't begin with `t`
abbrev pub IsOther : List ℕ → Type 0
IsOther keyword = (rest : List ℕ) → starts_with nat_eq (keyword ++ rest) (codes "text ") ≡ false

words_in_line : (words : List (List ℕ)) → AllByRecursion IsInLine words → IsInLine (after_spaces words)
words_in_line [] h = ap (list_any ends_a_line) words_none
words_in_line (w ∷ ws) h = ap (list_any ends_a_line) (words_some w ws) ∙ list_any-append ends_a_line w (after_spaces ws) ∙ rw (h.0, words_in_line ws h.1) refl

pub passes_line : (keyword : List ℕ) (words : List (List ℕ)) → IsOther keyword → IsInLine keyword → AllByRecursion IsInLine words → Passes (saved_line keyword words)
passes_line keyword words other plain all place rest =
    let line = keyword ++ after_spaces words in
    let plain_line : IsInLine line = list_any-append ends_a_line keyword (after_spaces words) ∙ rw (plain, words_in_line words all) refl in
    let is : saved_line keyword words ≡ line ++ (10 ∷ []) = line_is keyword words ∙ sym (append_assoc keyword (after_spaces words) (10 ∷ [])) in
    let whole : saved_line keyword words ++ rest ≡ line ++ (10 ∷ rest) = ap (λ x. x ++ rest) is ∙ append_assoc line (10 ∷ []) rest in
    let no_text : starts_with nat_eq (line ++ (10 ∷ rest)) (codes "text ") ≡ false =
    ap (λ x. starts_with nat_eq x (codes "text ")) (append_assoc keyword (after_spaces words) (10 ∷ rest)) ∙ other (after_spaces words ++ (10 ∷ rest)) in
    let size : length line + 1 ≡ length (saved_line keyword words) = sym (ap length is ∙ length-append line (10 ∷ [])) in
    ap (found place) whole ∙ found_line place line rest plain_line
    ∙ ap (λ b. if b then Some (place + (length line + 1)) else found (place + (length line + 1)) rest) no_text
    ∙ ap (λ n. found (place + n) rest) size

pub passes_items : {V : Type 0} (f : V → List ℕ) (fits : V → Type 0) → ((v : V) → fits v → Passes (f v)) → (vs : List V) → AllByRecursion fits vs → Passes (flat_map f vs)
passes_items f fits goes [] all = passes_none
passes_items f fits goes (v ∷ vs) all = passes_both (f v) (flat_map f vs) (goes v all.0) (passes_items f fits goes vs all.1)

pub passes_each : {A V : Type 0} (f : A → V → List ℕ) (good : A → Type 0) (fits : A → V → Type 0) → ((a : A) (v : V) → good a → fits a v → Passes (f a v))
    → (xs : List A) (vs : List V) → AllByRecursion good xs → AllZip fits xs vs → Passes (each_text f xs vs)
unfolding each_text
passes_each f good fits goes [] vs g all = passes_none
passes_each f good fits goes (a ∷ xs) [] g all = passes_none
passes_each f good fits goes (a ∷ xs) (v ∷ vs) g all = passes_both (f a v) (each_text f xs vs) (goes a v g.0 all.0) (passes_each f good fits goes xs vs g.1 all.1)
