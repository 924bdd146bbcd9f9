-- The driver's name: it has the form of a name, it is not in use, and each lesser number's name is.
use Rattle.std.proofs.Common.{◌≡◌, ◌∙◌, ℕ, zero, suc, ◌+◌, ◌-◌, ◌<◌, ◌≤◌, ◌^◌, Bool, true, false, cond, ◌||◌, ◌&&◌, nat_eq, nat_le, if◌then◌else◌, ◌⊎◌, inl, inr, List, [], ◌∷◌, ◌++◌, length, map, codes, refl, sym, ap, arith}
use Rattle.std.proofs.lemmas.Bool.{and_from, and_parts, cases_eq, cases_lt, false_from_ne_true, le-leb, or_right}
use Rattle.std.proofs.lemmas.Fmt.{length-decimal-le_wide}
use Rattle.std.proofs.lemmas.List.{append_cancel_left, length-append, length-map}
use Rattle.std.specs.Cmp.Lexicographic.{pointwise, same_text}
use Rattle.std.specs.Fmt.{decimal}
use Rattle.std.specs.List.{flat_map, list_all}
use Rattle.tdf_base.proofs.Api.{digits_decimal, number_decimal}
use Rattle.tdf_base.specs.Digits.{is_digit, number}
use Rattle.tdf_base.specs.Names.{is_letter, is_name, is_part}
use Rattle.tdf_lang_tree.specs.Pure.{PureTree}
use Rattle.tdf_lang_tree.specs.declared.blocks.Member.{Member}
use Rattle.tdf_lang_tree.specs.declared.blocks.Member.TheVariants as member
use Rattle.tdf_stim.specs.Driven.{driver_name, free_from, is_listed, name_of_global, names_in_use, member_names, stim_name, tries}
use Rattle.tdf_stim.specs.Driver.{name_with}
use Rattle.tdf_stim.specs.Laws.{NamesAreLeast, driver_number}

-- ---- the form

digit_part : (c : ℕ) → is_digit c ≡ true → is_part c ≡ true
digit_part c is = or_right (is_letter c) (is_digit c) is

digits_parts : (ds : List ℕ) → list_all is_digit ds ≡ true → list_all is_part ds ≡ true
digits_parts [] h = refl
digits_parts (d ∷ ds) h =
    let both = and_parts (is_digit d) (list_all is_digit ds) h in
    and_from (is_part d) (list_all is_part ds) (digit_part d both.0) (digits_parts ds both.1)

parts_both : (xs ys : List ℕ) → list_all is_part xs ≡ true → list_all is_part ys ≡ true → list_all is_part (xs ++ ys) ≡ true
parts_both [] ys h k = k
parts_both (x ∷ xs) ys h k =
    let both = and_parts (is_part x) (list_all is_part xs) h in
    and_from (is_part x) (list_all is_part (xs ++ ys)) both.0 (parts_both xs ys both.1 k)

-- letters and a number make a name
pub named : (c : ℕ) (cs : List ℕ) (n : ℕ) → is_letter c ≡ true → list_all is_part cs ≡ true → length cs ≤ 3 → n < 10 ^ 20
    → is_name (name_with (c ∷ cs) n) ≡ true
named c cs n letter parts few small =
    let wide : n < 10 ^ 64 = omega arith in
    let digits = and_parts _ (list_all is_digit (decimal n)) (digits_decimal n wide) in
    let short : length (decimal n) ≤ 20 = length-decimal-le_wide 20 n (omega arith) small wide in
    let fits : length (c ∷ (cs ++ decimal n)) ≤ 64 = omega (arith, length-append cs (decimal n)) in
    let rest : list_all is_part (cs ++ decimal n) ≡ true = parts_both cs (decimal n) parts (digits_parts (decimal n) digits.1) in
    and_from (is_letter c && list_all is_part (cs ++ decimal n)) (nat_le (length (c ∷ (cs ++ decimal n))) 64)
    (and_from (is_letter c) (list_all is_part (cs ++ decimal n)) letter rest)
    (le-leb (length (c ∷ (cs ++ decimal n))) 64 fits)

-- ---- the number

name_one : (j k : ℕ) → j < 2 ^ 64 → k < 2 ^ 64 → stim_name j ≡ stim_name k → j ≡ k
name_one j k small few same =
    let wide : j < 10 ^ 64 = omega arith in
    let broad : k < 10 ^ 64 = omega arith in
    sym (number_decimal j wide) ∙ ap number (append_cancel_left (codes "stim") (decimal j) (decimal k) same) ∙ number_decimal k broad

abbrev hit : Bool → ℕ
hit true = 1
hit false = 0

-- how many of the first n names are used
hits : (List ℕ → Bool) → ℕ → ℕ
hits used zero = 0
hits used (suc n) = hits used n + hit (used (stim_name n))

all_hit : (used : List ℕ → Bool) (n : ℕ) → ((k : ℕ) → k < n → used (stim_name k) ≡ true) → hits used n ≡ n
unfolding hits
all_hit used zero h = refl
all_hit used (suc n) h =
    let last : hit (used (stim_name n)) ≡ 1 = ap hit (h n (omega arith)) in
    omega (arith, all_hit used n (λ k less. h k (omega arith)), last)

none_hit : (used : List ℕ → Bool) (n : ℕ) → ((k : ℕ) → k < n → used (stim_name k) ≡ false) → hits used n ≡ 0
unfolding hits
none_hit used zero h = refl
none_hit used (suc n) h =
    let last : hit (used (stim_name n)) ≡ 0 = ap hit (h n (omega arith)) in
    omega (arith, none_hit used n (λ k less. h k (omega arith)), last)

either : (a b : Bool) → hit (a || b) ≤ hit a + hit b
either true b = omega arith
either false b = omega arith

more_hits : (x : List ℕ) (xs : List (List ℕ)) (n : ℕ) → hits (is_listed (x ∷ xs)) n ≤ hits (λ name. pointwise nat_eq name x) n + hits (is_listed xs) n
unfolding hits
more_hits x xs zero = omega arith
more_hits x xs (suc n) =
    omega (arith, more_hits x xs n, either (pointwise nat_eq (stim_name n) x) (is_listed xs (stim_name n)))

one_hit : (x : List ℕ) (n : ℕ) → n < 2 ^ 64 → hits (λ name. pointwise nat_eq name x) n ≤ 1
unfolding hits
one_hit x zero small = omega arith
one_hit x (suc n) small = here (one_hit x n (omega arith)) (pointwise nat_eq (stim_name n) x) refl
  where
    before : pointwise nat_eq (stim_name n) x ≡ true → (k : ℕ) → k < n → pointwise nat_eq (stim_name k) x ≡ false
    before is k less = false_from_ne_true (pointwise nat_eq (stim_name k) x) (λ same.
        let e : k ≡ n = name_one k n (omega arith) (omega arith) (same_text (stim_name k) x (sym same) ∙ sym (same_text (stim_name n) x (sym is))) in omega (arith, e, less))

    here : hits (λ name. pointwise nat_eq name x) n ≤ 1 → (b : Bool) → pointwise nat_eq (stim_name n) x ≡ b → hits (λ name. pointwise nat_eq name x) n + hit b ≤ 1
    here few false is = omega (arith, few)
    here few true is = omega (arith, none_hit (λ name. pointwise nat_eq name x) n (before is))

few_hits : (names : List (List ℕ)) (n : ℕ) → n < 2 ^ 64 → hits (is_listed names) n ≤ length names
few_hits [] n small = omega (arith, none_hit (is_listed []) n (λ k less. refl))
few_hits (x ∷ xs) n small = omega (arith, more_hits x xs n, one_hit x n small, few_hits xs n small)

-- ---- the search

found_above : (used : List ℕ → Bool) (room k : ℕ) → k ≤ free_from used room k
unfolding free_from
found_above used zero k = omega arith
found_above used (suc room) k = go (found_above used room (k + 1)) (used (stim_name k))
  where
    go : k + 1 ≤ free_from used room (k + 1) → (b : Bool) → k ≤ (if b then free_from used room (k + 1) else k)
    go more true = omega (arith, more)
    go more false = omega arith

found_within : (used : List ℕ → Bool) (room k : ℕ) → free_from used room k ≤ k + room
unfolding free_from
found_within used zero k = omega arith
found_within used (suc room) k = go (found_within used room (k + 1)) (used (stim_name k))
  where
    go : free_from used room (k + 1) ≤ k + 1 + room → (b : Bool) → (if b then free_from used room (k + 1) else k) ≤ k + suc room
    go more true = omega (arith, more)
    go more false = omega arith

found_least : (used : List ℕ → Bool) (room k j : ℕ) → k ≤ j → j < free_from used room k → used (stim_name j) ≡ true
unfolding free_from
found_least used zero k j h less = absurd (omega (arith, h, less))
found_least used (suc room) k j h less = go (λ above before. found_least used room (k + 1) j above before) (used (stim_name k)) refl less
  where
    pick : (k + 1 ≤ j → used (stim_name j) ≡ true) → used (stim_name k) ≡ true → (k ≡ j) ⊎ (k ≡ j → ⊥) → used (stim_name j) ≡ true
    pick later is (inl same) = ap (λ n. used (stim_name n)) (sym same) ∙ is
    pick later is (inr other) = later (omega (arith, h, other))

    go : (k + 1 ≤ j → j < free_from used room (k + 1) → used (stim_name j) ≡ true) → (b : Bool) → used (stim_name k) ≡ b → j < (if b then free_from used room (k + 1) else k)
        → used (stim_name j) ≡ true
    go later false is before = absurd (omega (arith, h, before))
    go later true is before = pick (λ above. later above before) is (cases_eq k j)

found_free : (used : List ℕ → Bool) (room k : ℕ) → free_from used room k < k + room → used (stim_name (free_from used room k)) ≡ false
unfolding free_from
found_free used zero k less = absurd (omega arith)
found_free used (suc room) k less = go (λ before. found_free used room (k + 1) before) (used (stim_name k)) refl less
  where
    go : (free_from used room (k + 1) < k + 1 + room → used (stim_name (free_from used room (k + 1))) ≡ false) → (b : Bool) → used (stim_name k) ≡ b
        → (if b then free_from used room (k + 1) else k) < k + suc room → used (stim_name (if b then free_from used room (k + 1) else k)) ≡ false
    go later true is before = later (omega (arith, before))
    go later false is before = is

-- ---- both

member_few : (m : Member) → length (member_names m) ≤ 1
member_few (member.Port port) = omega arith
member_few (member.Signal line name format) = omega arith
member_few (member.DeSignal line name format start) = omega arith
member_few (member.Instance line name block) = omega arith
member_few (member.Bind line instance port target) = omega arith

members_few : (ms : List Member) → length (flat_map member_names ms) ≤ length ms
members_few [] = omega arith
members_few (m ∷ ms) = omega (arith, length-append (member_names m) (flat_map member_names ms), member_few m, members_few ms)

names_few : (tree : PureTree) → length (names_in_use tree) < tries tree
names_few tree = omega (arith, length-append (map name_of_global tree.globals) (flat_map member_names tree.top.members), length-map tree.globals name_of_global, members_few tree.top.members)

number_inside : (tree : PureTree) → tries tree < 2 ^ 64 → driver_number tree < tries tree
number_inside tree small = go (cases_lt (driver_number tree) (tries tree))
  where
    go : (driver_number tree < tries tree) ⊎ (tries tree ≤ driver_number tree) → driver_number tree < tries tree
    go (inl less) = less
    go (inr all) =
        let used = all_hit (is_listed (names_in_use tree)) (tries tree) (λ k less. found_least (is_listed (names_in_use tree)) (tries tree) 0 k (omega arith) (omega (arith, less, all))) in
        absurd (omega (arith, used, few_hits (names_in_use tree) (tries tree) small, names_few tree))

pub names_least : NamesAreLeast
names_least tree small = record {
  free = found_free (is_listed (names_in_use tree)) (tries tree) 0 (omega (arith, number_inside tree small));
  least = λ k less. found_least (is_listed (names_in_use tree)) (tries tree) 0 k (omega arith) less;
}

-- the driver's name has the form of a name
pub driver_named : (tree : PureTree) → tries tree < 2 ^ 66 → is_name (driver_name tree) ≡ true
driver_named tree small =
    named 115 (codes "tim") (driver_number tree) refl refl (omega arith) (omega (arith, found_within (is_listed (names_in_use tree)) (tries tree) 0))

-- ---- one try more

free_step : (used : List ℕ → Bool) (room k : ℕ) → 0 < room → free_from used room k ≡ (if used (stim_name k) then free_from used (room - 1) (k + 1) else k)
unfolding free_from
free_step used zero k some = absurd (omega arith)
free_step used (suc room) k some = let e : suc room - 1 ≡ room = omega arith in ap (λ n. if used (stim_name k) then free_from used n (k + 1) else k) (sym e)

pub try_more : (used : List ℕ → Bool) (tries k found : ℕ) → k < tries → used (stim_name k) ≡ true → free_from used (tries - k) k ≡ found → free_from used (tries - (k + 1)) (k + 1) ≡ found
try_more used tries k found less is h =
    let e : tries - k - 1 ≡ tries - (k + 1) = omega arith in
    sym (free_step used (tries - k) k (omega arith) ∙ ap (λ b. if b then free_from used (tries - k - 1) (k + 1) else k) is ∙ ap (λ n. free_from used n (k + 1)) e) ∙ h

pub try_here : (used : List ℕ → Bool) (tries k found : ℕ) → k < tries → used (stim_name k) ≡ false → free_from used (tries - k) k ≡ found → k ≡ found
try_here used tries k found less is h =
    sym (free_step used (tries - k) k (omega arith) ∙ ap (λ b. if b then free_from used (tries - k - 1) (k + 1) else k) is) ∙ h

pub try_last : (used : List ℕ → Bool) (tries k found : ℕ) → k ≡ tries → free_from used (tries - k) k ≡ found → tries ≡ found
unfolding free_from
try_last used tries k found is h =
    let e : tries - k ≡ 0 = omega (arith, is) in
    sym is ∙ sym (ap (λ n. free_from used n k) e) ∙ h

pub try_first : (used : List ℕ → Bool) (tries : ℕ) → free_from used (tries - 0) 0 ≡ free_from used tries 0
try_first used tries = let e : tries - 0 ≡ tries = omega arith in ap (λ n. free_from used n 0) e

-- the search by a test that agrees
pub free_same : (f g : List ℕ → Bool) → ((name : List ℕ) → f name ≡ g name) → (room k : ℕ) → free_from f room k ≡ free_from g room k
unfolding free_from
free_same f g same zero k = refl
free_same f g same (suc room) k =
    ap (λ b. if b then free_from f room (k + 1) else k) (same (stim_name k))
    ∙ ap (λ n. if g (stim_name k) then n else k) (free_same f g same room (k + 1))
