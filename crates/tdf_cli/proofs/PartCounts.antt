-- The bytes before the line `stimulus`, counted one by one.
use Rattle.std.proofs.Common.{◌≡◌, ◌∙◌, ℕ, ◌+◌, ◌<◌, ◌≤◌, suc, Bool, true, false, ◌&&◌, List, [], ◌∷◌, length, drop, get_or, refl, sym, ap, arith}
use Rattle.std.proofs.lemmas.List.{drop_more, length-drop}
use Rattle.std.proofs.Math.ListN.{drop_of_length-le}
use Rattle.std.specs.Prelude.{if◌then◌else◌, nat_eq}
use Rattle.tdf_cli.specs.Parts.{bytes_before, is_parted_here, table_part}

none_before : (begins : Bool) (c : ℕ) (cs : List ℕ) → (begins && is_parted_here (c ∷ cs)) ≡ true → bytes_before begins (c ∷ cs) ≡ 0
unfolding bytes_before
none_before begins c cs is = rw is refl

one_before : (begins : Bool) (c : ℕ) (cs : List ℕ) → (begins && is_parted_here (c ∷ cs)) ≡ false → bytes_before begins (c ∷ cs) ≡ bytes_before (nat_eq c 10) cs + 1
unfolding bytes_before
one_before begins c cs is = rw is refl

pub nothing_left : (begins : Bool) → bytes_before begins [] ≡ 0
unfolding bytes_before
nothing_left begins = refl

module _ (begins : Bool) (text : List ℕ) (i y : ℕ) (within : i < length text) where
  pub parted_at : (begins && is_parted_here (drop i text)) ≡ true → bytes_before begins (drop i text) ≡ 0
  parted_at is =
      let here : drop i text ≡ get_or text i y ∷ drop (i + 1) text = drop_more text i y within in
      ap (bytes_before begins) here ∙ none_before begins (get_or text i y) (drop (i + 1) text) (sym (ap (λ t. begins && is_parted_here t) here) ∙ is)

  pub next_at : (begins && is_parted_here (drop i text)) ≡ false → bytes_before begins (drop i text) ≡ bytes_before (nat_eq (get_or text i y) 10) (drop (i + 1) text) + 1
  next_at is =
      let here : drop i text ≡ get_or text i y ∷ drop (i + 1) text = drop_more text i y within in
      ap (bytes_before begins) here ∙ one_before begins (get_or text i y) (drop (i + 1) text) (sym (ap (λ t. begins && is_parted_here t) here) ∙ is)

-- they are no more than all
pub before_within : (begins : Bool) (text : List ℕ) → bytes_before begins text ≤ length text
unfolding bytes_before
before_within begins [] = omega arith
before_within begins (c ∷ cs) = by (begins && is_parted_here (c ∷ cs)) (before_within (nat_eq c 10) cs)
  where
    by : (here : Bool) → bytes_before (nat_eq c 10) cs ≤ length cs → (if here then 0 else bytes_before (nat_eq c 10) cs + 1) ≤ suc (length cs)
    by true less = omega arith
    by false less = omega (arith, less)

-- a text of less than the line behind the model has no table
pub no_more : (text : List ℕ) → length text < 9 → drop 9 text ≡ []
no_more text few =
    let short : length text ≤ 9 = omega (arith, few) in
    drop_of_length-le text short

-- a table is no longer than its text
pub table_within : (text : List ℕ) → length (table_part text) ≤ length text
table_within text = omega (arith, length-drop 9 (drop (bytes_before true text) text), length-drop (bytes_before true text) text)
