-- Numbers as words: no space, no LF, and each number has a word of its own.
use Rattle.std.proofs.Common.{◌≡◌, ℕ, suc, ◌+◌, ◌<◌, ◌≤◌, ◌^◌, ◌%◌, ℤ, pos, negsuc, Bool, true, false, nat_eq, List, [], ◌∷◌, ◌++◌, length, refl, ◌∙◌, sym, ap, subst, arith, decimal, Option, Some, None, IfSome}
use Rattle.std.proofs.lemmas.Bool.Decides.{nat_tests}
use Rattle.std.proofs.lemmas.Fmt.{decimal_by_steps, decimal_injective, decimal_nonempty}
use Rattle.std.proofs.lemmas.List.Folds.{list_any-append}
use Rattle.std.specs.Fmt.{signed_decimal}
use Rattle.std.specs.List.{list_any}
use Rattle.tdf_save.proofs.Ones.{word_one}
use Rattle.tdf_save.specs.Members.{IsCount32, IsCount64, IsNum}
use Rattle.tdf_save.specs.Text.{accept_word, carry_word, kind_word}
use Rattle.tdf_save.specs.machine.Pieces.{AnyFlag, IsOne, Stops, is_stop}

-- ---- the bytes of a number

none_one : (p : ℕ → Bool) → ((d : ℕ) → d < 10 → p (48 + d) ≡ false) → (n : ℕ) → n < 10 → list_any p ((48 + n) ∷ []) ≡ false
none_one p never n h = rw (never n h) refl

none_more : (p : ℕ → Bool) → ((d : ℕ) → d < 10 → p (48 + d) ≡ false) → (n : ℕ) (ds : List ℕ) → 10 ≤ n → list_any p ds ≡ false → list_any p (ds ++ ((48 + n % 10) ∷ [])) ≡ false
none_more p never n ds h k = list_any-append p ds ((48 + n % 10) ∷ []) ∙ rw (k, none_one p never (n % 10) (omega arith)) refl

pub none_in : (p : ℕ → Bool) → ((d : ℕ) → d < 10 → p (48 + d) ≡ false) → (n : ℕ) → n < 2 ^ 64 → list_any p (decimal n) ≡ false
none_in p never n small = decimal_by_steps (λ m ds. list_any p ds ≡ false) (none_one p never) (none_more p never) n small

digit_goes_on : (d : ℕ) → d < 10 → is_stop (48 + d) ≡ false
digit_goes_on d h =
    let a : nat_eq (48 + d) 32 ≡ false = grind (arith, nat_tests) in
    let b : nat_eq (48 + d) 10 ≡ false = grind (arith, nat_tests) in
    rw (a, b) refl

abbrev is_dash : ℕ → Bool
is_dash byte = nat_eq byte 45

digit_no_dash : (d : ℕ) → d < 10 → is_dash (48 + d) ≡ false
digit_no_dash d h = grind (arith, nat_tests)

pub count_plain : (n : ℕ) → n < 2 ^ 64 → list_any is_stop (decimal n) ≡ false
count_plain n h = none_in is_stop digit_goes_on n h

-- no count begins with a dash
pub no_dash : (n : ℕ) (rest : List ℕ) → n < 2 ^ 64 → decimal n ≡ 45 ∷ rest → ⊥
no_dash n rest h e =
    let f : list_any is_dash (45 ∷ rest) ≡ false = subst (λ t. list_any is_dash t ≡ false) e (none_in is_dash digit_no_dash n h) in
    let apart : true ≡ false = f in
    cc

pub num_plain : (n : ℤ) → IsNum n → list_any is_stop (signed_decimal n) ≡ false
num_plain (pos n) h = count_plain n h
num_plain (negsuc n) h = count_plain (suc n) (omega (arith, h))

pub num_same : (m n : ℤ) → IsNum m → IsNum n → signed_decimal m ≡ signed_decimal n → m ≡ n
num_same (pos m) (pos n) g h e = ap pos (decimal_injective m n g h e)
num_same (pos m) (negsuc n) g h e = absurd (no_dash m (decimal (suc n)) g e)
num_same (negsuc m) (pos n) g h e = absurd (no_dash n (decimal (suc m)) h (sym e))
num_same (negsuc m) (negsuc n) g h e =
    let f : decimal (suc m) ≡ decimal (suc n) = cc in
    let same : suc m ≡ suc n = decimal_injective (suc m) (suc n) (omega (arith, g)) (omega (arith, h)) f in
    let less : m ≡ n = omega (arith, same) in
    ap negsuc less

-- ---- words that are one

pub count64_one : IsOne decimal IsCount64 Stops
count64_one = word_one decimal IsCount64 count_plain (λ v w f g e. decimal_injective v w f g e)

pub count32_one : IsOne decimal IsCount32 Stops
count32_one = word_one decimal IsCount32 (λ v f. count_plain v (omega (arith, f))) (λ v w f g e. decimal_injective v w (omega (arith, f)) (omega (arith, g)) e)

pub num_one : IsOne signed_decimal IsNum Stops
num_one = word_one signed_decimal IsNum num_plain num_same

-- ---- other words

accept_plain : (flag : Bool) → AnyFlag flag → list_any is_stop (accept_word flag) ≡ false
accept_plain true h = refl
accept_plain false h = refl

abbrev is_one : ℕ → Bool
is_one byte = nat_eq byte 49

accept_same : (v w : Bool) → AnyFlag v → AnyFlag w → accept_word v ≡ accept_word w → v ≡ w
accept_same true true f g e = refl
accept_same false false f g e = refl
accept_same true false f g e = absurd (let h : true ≡ false = ap (list_any is_one) e in cc)
accept_same false true f g e = absurd (let h : false ≡ true = ap (list_any is_one) e in cc)

pub accept_one : IsOne accept_word AnyFlag Stops
accept_one = word_one accept_word AnyFlag accept_plain accept_same

kind_plain : (flag : Bool) → AnyFlag flag → list_any is_stop (kind_word flag) ≡ false
kind_plain true h = refl
kind_plain false h = refl

abbrev is_v : ℕ → Bool
is_v byte = nat_eq byte 118

kind_same : (v w : Bool) → AnyFlag v → AnyFlag w → kind_word v ≡ kind_word w → v ≡ w
kind_same true true f g e = refl
kind_same false false f g e = refl
kind_same true false f g e = absurd (let h : true ≡ false = ap (list_any is_v) e in cc)
kind_same false true f g e = absurd (let h : false ≡ true = ap (list_any is_v) e in cc)

pub kind_one : IsOne kind_word AnyFlag Stops
kind_one = word_one kind_word AnyFlag kind_plain kind_same

abbrev pub IsCarry : Option ℤ → Type 0
IsCarry carry = IfSome carry IsNum

carry_plain : (c : Option ℤ) → IsCarry c → list_any is_stop (carry_word c) ≡ false
carry_plain None h = refl
carry_plain (Some n) h = num_plain n h

-- a dash alone is no number
not_dash : (n : ℤ) → IsNum n → signed_decimal n ≡ 45 ∷ [] → ⊥
not_dash (pos n) h e = no_dash n [] h e
not_dash (negsuc n) h e =
    let f : decimal (suc n) ≡ [] = cc in
    let some : 0 < length (decimal (suc n)) = decimal_nonempty (suc n) (omega (arith, h)) in
    let none : length (decimal (suc n)) ≡ 0 = ap length f in
    omega (arith, some, none)

carry_same : (v w : Option ℤ) → IsCarry v → IsCarry w → carry_word v ≡ carry_word w → v ≡ w
carry_same None None f g e = refl
carry_same None (Some n) f g e = absurd (not_dash n g (sym e))
carry_same (Some m) None f g e = absurd (not_dash m f e)
carry_same (Some m) (Some n) f g e = ap Some (num_same m n f g e)

pub carry_one : IsOne carry_word IsCarry Stops
carry_one = word_one carry_word IsCarry carry_plain carry_same
