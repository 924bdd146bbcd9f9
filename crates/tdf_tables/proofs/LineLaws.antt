-- Lines: where they end, the cells on them, and that a text is cut at its first LF in one way.
use Rattle.std.proofs.Common.{◌≡◌, ◌≢◌, ℕ, zero, suc, ◌+◌, ◌-◌, ◌<◌, ◌≤◌, Bool, true, false, ◌&&◌, ◌||◌, not, nat_eq, nat_lt, List, [], ◌∷◌, ◌++◌, length, take, drop, get_or, refl, arith, ◌∙◌, sym, ap, append-nil, Some, None, ⊎_elim}
use Rattle.std.proofs.lemmas.Bool.{eqb-true, cases_Bool}
use Rattle.std.proofs.lemmas.List.{append_cancel_right, take_all, drop_all, take_rest}
use Rattle.std.proofs.lemmas.List.Sums.{prefix_len-le-length, split_at_first, passes_at_first}
use Rattle.std.specs.List.{list_any, before_first, after_first, position_or_len}
use Rattle.tdf_tables.specs.machine.Scan.{after_cell, are_cells, is_line_end}

pub position_or_len-le : (p : ℕ → Bool) (xs : List ℕ) → position_or_len p xs ≤ length xs
position_or_len-le p xs = prefix_len-le-length (λ x. not (p x)) xs

pub before_first-more : (p : ℕ → Bool) (byte : ℕ) (rest : List ℕ) → p byte ≡ false → before_first p (byte ∷ rest) ≡ byte ∷ before_first p rest
before_first-more p byte rest e = rw e (let f : 1 + position_or_len p rest ≡ suc (position_or_len p rest) = omega arith in rw f)

pub before_first-here : (p : ℕ → Bool) (byte : ℕ) (rest : List ℕ) → p byte ≡ true → before_first p (byte ∷ rest) ≡ []
before_first-here p byte rest e = rw e

-- nothing before the first passes
none_by : (p : ℕ → Bool) (byte : ℕ) (rest : List ℕ) (b : Bool) → p byte ≡ b → list_any p (before_first p rest) ≡ false
    → list_any p (before_first p (byte ∷ rest)) ≡ false
none_by p byte rest true e h = rw (before_first-here p byte rest e) refl
none_by p byte rest false e h = rw (before_first-more p byte rest e, e) h

pub none_before : (p : ℕ → Bool) (xs : List ℕ) → list_any p (before_first p xs) ≡ false
none_before p [] = refl
none_before p (x ∷ xs) = none_by p x xs (p x) refl (none_before p xs)

all_by : (p : ℕ → Bool) (byte : ℕ) (rest : List ℕ) (b : Bool) → p byte ≡ b
    → (length rest ≤ position_or_len p rest → list_any p rest ≡ false)
    → length (byte ∷ rest) ≤ position_or_len p (byte ∷ rest) → list_any p (byte ∷ rest) ≡ false
all_by p byte rest true e more h = absurd (let g : suc (length rest) ≤ 0 = rw e at h in omega arith)
all_by p byte rest false e more h =
    let g : suc (length rest) ≤ 1 + position_or_len p rest = rw e at h in
    rw e (more (omega arith))

pub none_at_all : (p : ℕ → Bool) (xs : List ℕ) → length xs ≤ position_or_len p xs → list_any p xs ≡ false
none_at_all p [] h = refl
none_at_all p (x ∷ xs) h = all_by p x xs (p x) refl (none_at_all p xs) h

-- a line that ends: what stands before its LF, and after it
pub line_cut : (xs : List ℕ) (e : ℕ) → e ≡ position_or_len is_line_end xs → e < length xs
    → xs ≡ take e xs ++ (10 ∷ take (length xs - (e + 1)) (drop (e + 1) xs))
line_cut xs e is h =
    let at : position_or_len is_line_end xs < length xs = rw (sym is) h in
    let byte : get_or xs (position_or_len is_line_end xs) 0 ≡ 10 = eqb-true (get_or xs (position_or_len is_line_end xs) 0) 10 (passes_at_first is_line_end xs 0 at) in
    let cut : xs ≡ before_first is_line_end xs ++ (10 ∷ after_first is_line_end xs) =
    split_at_first is_line_end xs 0 at ∙ ap (λ c. before_first is_line_end xs ++ (c ∷ after_first is_line_end xs)) byte in
    let rest : take (length xs - (e + 1)) (drop (e + 1) xs) ≡ drop (e + 1) xs = take_rest xs (e + 1) in
    rw rest (rw is cut)

pub line_none : (xs : List ℕ) (e : ℕ) → e ≡ position_or_len is_line_end xs → list_any is_line_end (take e xs) ≡ false
line_none xs e is = rw is (none_before is_line_end xs)

pub ruleset cut_laws = (position_or_len-le, append-nil, take_all, drop_all, take_rest)

pub cells_end : (n k : ℕ) (text : List ℕ) → n ≤ k → are_cells (n - k) text ≡ nat_eq (length text) 0
unfolding are_cells
cells_end n k text h = let f : n - k ≡ 0 = omega arith in rw f refl

pub cells_more : (n k : ℕ) (text rest : List ℕ) → k < n → after_cell text ≡ Some rest → are_cells (n - k) text ≡ are_cells (n - (k + 1)) rest
unfolding are_cells
cells_more n k text rest h e = let f : n - k ≡ suc (n - (k + 1)) = omega arith in rw (f, e) refl

pub cells_stop : (n k : ℕ) (text : List ℕ) → k < n → after_cell text ≡ None → are_cells (n - k) text ≡ false
unfolding are_cells
cells_stop n k text h e = let f : n - k ≡ suc (n - (k + 1)) = omega arith in rw (f, e) refl

pub ruleset cell_steps = (cells_end, cells_more, cells_stop)

-- ---- a text is cut at its first line end in one way

tail_of : (x : ℕ) (xs : List ℕ) → list_any is_line_end (x ∷ xs) ≡ false → list_any is_line_end xs ≡ false
tail_of x xs h = ⊎_elim
    (λ (here : is_line_end x ≡ true). absurd (let f : true ≡ false = rw here at h in cc))
    (λ (other : is_line_end x ≡ false). rw other at h)
    (cases_Bool (is_line_end x))

pub or_true : (b : Bool) → (b || true) ≡ true
or_true true = refl
or_true false = refl

pub append_cancel : (xs ys : List ℕ) → xs ++ (10 ∷ []) ≡ ys ++ (10 ∷ []) → xs ≡ ys
append_cancel xs ys e = append_cancel_right xs ys (10 ∷ []) e

pub cut_once : (xs ys us vs : List ℕ) → list_any is_line_end xs ≡ false → list_any is_line_end us ≡ false
    → xs ++ (10 ∷ ys) ≡ us ++ (10 ∷ vs) → (xs ≡ us) × (ys ≡ vs)
cut_once [] ys [] vs a b e = (refl, cc)
cut_once [] ys (u ∷ us) vs a b e =
    let same : 10 ≡ u = cc in absurd (let f : true ≡ false = rw (sym same) at b in cc)
cut_once (x ∷ xs) ys [] vs a b e =
    let same : x ≡ 10 = cc in absurd (let f : true ≡ false = rw same at a in cc)
cut_once (x ∷ xs) ys (u ∷ us) vs a b e =
    let same : x ≡ u = cc in
    let rest : xs ++ (10 ∷ ys) ≡ us ++ (10 ∷ vs) = cc in
    let more = cut_once xs ys us vs (tail_of x xs a) (tail_of u us b) rest in
    (cc, more.1)

pub ends_there : (xs ys : List ℕ) → list_any is_line_end (xs ++ (10 ∷ ys)) ≡ true
ends_there [] ys = refl
ends_there (x ∷ xs) ys = rw (ends_there xs ys) (or_true (is_line_end x))
