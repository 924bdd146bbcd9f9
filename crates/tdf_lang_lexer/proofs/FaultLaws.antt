-- The first fault of bytes and line lengths, without a scan.
use Rattle.std.proofs.Common.{◌≡◌, ℕ, ◌+◌, Bool, true, false, List, [], ◌∷◌, ◌++◌, length, Option, Some, None, refl, ap, sym, ◌∙◌, subst, arith}
use Rattle.std.proofs.lemmas.Bool.Decides.{nat_tests}
use Rattle.std.specs.List.{list_all}
use Rattle.std.specs.Prelude.{nat_lt, nat_le}
use Rattle.tdf_base.specs.Limits.{longest_line}
use Rattle.tdf_lang_lexer.specs.FirstFault.{is_faultless, IsFirstTextFault, FaultsAreFirst, NoFaultIsClean}
use Rattle.tdf_lang_lexer.specs.Text.{is_allowed_byte, line_fault_of, first_found, first_fault, fault_of, lines_of}
use Rattle.tdf_lang_lexer.specs.declared.text.TextFault.{TextFault}
use Rattle.tdf_lang_lexer.specs.declared.text.TextFault.TheVariants.{Byte, LongLine}
use Rattle.tdf_lang_lexer.proofs.LongestLaws.{and_left, and_right, and_both}
use Rattle.tdf_lang_lexer.proofs.OnlyLaws.{lines_only}

not_long : (m n : ℕ) → nat_le m n ≡ true → nat_lt n m ≡ false
not_long m n h = grind (arith, nat_tests)

not_short : (m n : ℕ) → nat_lt n m ≡ false → nat_le m n ≡ true
not_short m n h = grind (arith, nat_tests)

clean_none : (number : ℕ) (line : List ℕ) → is_faultless line ≡ true → line_fault_of number line ≡ None
clean_none number line h =
    let a : list_all is_allowed_byte line ≡ true = and_left (list_all is_allowed_byte line) (nat_le (length line) longest_line) h in
    let b : nat_lt longest_line (length line) ≡ false =
    not_long (length line) longest_line (and_right (list_all is_allowed_byte line) (nat_le (length line) longest_line) h) in
    rw (a, b) refl

none_at : (number : ℕ) (line : List ℕ) (a b : Bool) → list_all is_allowed_byte line ≡ a → nat_lt longest_line (length line) ≡ b
    → line_fault_of number line ≡ None → is_faultless line ≡ true
none_at number line true false e f h = and_both (list_all is_allowed_byte line) (nat_le (length line) longest_line) e (not_short (length line) longest_line f)
none_at number line true true e f h = let g : Some (LongLine number) ≡ None = rw (e, f) at h in absurd cc
none_at number line false b e f h = let g : Some (Byte number) ≡ None = rw e at h in absurd cc

none_clean : (number : ℕ) (line : List ℕ) → line_fault_of number line ≡ None → is_faultless line ≡ true
none_clean number line h = none_at number line (list_all is_allowed_byte line) (nat_lt longest_line (length line)) refl refl h

-- as IsFirstTextFault, of lines that are numbered from any number
record Found (number : ℕ) (lines : List (List ℕ)) (fault : TextFault) : Type 0 where
  pub before : List (List ℕ)
  pub line : List ℕ
  pub after : List (List ℕ)
  pub split : lines ≡ before ++ line ∷ after
  pub clean : list_all is_faultless before ≡ true
  pub has : line_fault_of (number + length before) line ≡ Some fault

found_at : (number : ℕ) (l : List ℕ) (ls : List (List ℕ)) (fault : TextFault) (o : Option TextFault)
    → (first_fault (number + 1) ls ≡ Some fault → Found (number + 1) ls fault) → line_fault_of number l ≡ o
    → first_found o (first_fault (number + 1) ls) ≡ Some fault → Found number (l ∷ ls) fault
found_at number l ls fault None ih e h =
    let g = ih h in
    let same : number + 1 + length g.before ≡ number + length (l ∷ g.before) = omega arith in
    record {
      before = l ∷ g.before;
      line = g.line;
      after = g.after;
      split = ap (λ (x : List (List ℕ)). l ∷ x) g.split;
      clean = and_both (is_faultless l) (list_all is_faultless g.before) (none_clean number l e) g.clean;
      has = subst (λ (n : ℕ). line_fault_of n g.line ≡ Some fault) same g.has;
    }
found_at number l ls fault (Some f) ih e h =
    let same : number ≡ number + length {A = List ℕ} [] = omega arith in
    record {
      before = [];
      line = l;
      after = ls;
      split = refl;
      clean = refl;
      has = subst (λ (n : ℕ). line_fault_of n l ≡ Some fault) same (e ∙ h);
    }

found : (number : ℕ) (lines : List (List ℕ)) (fault : TextFault) → first_fault number lines ≡ Some fault → Found number lines fault
unfolding first_fault
found number [] fault h = absurd cc
found number (l ∷ ls) fault h = found_at number l ls fault (line_fault_of number l) (λ (e : first_fault (number + 1) ls ≡ Some fault). found (number + 1) ls fault e) refl h

first : (number : ℕ) (before : List (List ℕ)) (line : List ℕ) (after : List (List ℕ)) (fault : TextFault) → list_all is_faultless before ≡ true
    → line_fault_of (number + length before) line ≡ Some fault → first_fault number (before ++ line ∷ after) ≡ Some fault
unfolding first_fault
first number [] line after fault h e =
    let same : number + length {A = List ℕ} [] ≡ number = omega arith in
    ap (λ (o : Option TextFault). first_found o (first_fault (number + 1) after)) (subst (λ (n : ℕ). line_fault_of n line ≡ Some fault) same e)
first number (b ∷ bs) line after fault h e =
    let same : number + length (b ∷ bs) ≡ number + 1 + length bs = omega arith in
    ap (λ (o : Option TextFault). first_found o (first_fault (number + 1) (bs ++ line ∷ after))) (clean_none number b (and_left (is_faultless b) (list_all is_faultless bs) h))
    ∙ first (number + 1) bs line after fault (and_right (is_faultless b) (list_all is_faultless bs) h) (subst (λ (n : ℕ). line_fault_of n line ≡ Some fault) same e)

none_all_at : (number : ℕ) (l : List ℕ) (ls : List (List ℕ)) (o : Option TextFault)
    → (first_fault (number + 1) ls ≡ None → list_all is_faultless ls ≡ true) → line_fault_of number l ≡ o
    → first_found o (first_fault (number + 1) ls) ≡ None → list_all is_faultless (l ∷ ls) ≡ true
none_all_at number l ls None ih e h = and_both (is_faultless l) (list_all is_faultless ls) (none_clean number l e) (ih h)
none_all_at number l ls (Some f) ih e h = absurd cc

none_all : (number : ℕ) (lines : List (List ℕ)) → first_fault number lines ≡ None → list_all is_faultless lines ≡ true
unfolding first_fault
none_all number [] h = refl
none_all number (l ∷ ls) h = none_all_at number l ls (line_fault_of number l) (λ (e : first_fault (number + 1) ls ≡ None). none_all (number + 1) ls e) refl h

all_none : (number : ℕ) (lines : List (List ℕ)) → list_all is_faultless lines ≡ true → first_fault number lines ≡ None
unfolding first_fault
all_none number [] h = refl
all_none number (l ∷ ls) h =
    ap (λ (o : Option TextFault). first_found o (first_fault (number + 1) ls)) (clean_none number l (and_left (is_faultless l) (list_all is_faultless ls) h))
    ∙ all_none (number + 1) ls (and_right (is_faultless l) (list_all is_faultless ls) h)

pub faults_are_first : FaultsAreFirst
unfolding fault_of
faults_are_first text lines fault d =
    let same : lines ≡ lines_of text = lines_only d in (
      λ (e : first_fault 1 (lines_of text) ≡ Some fault).
          let f = found 1 lines fault (ap (first_fault 1) same ∙ e) in
          record { before = f.before; line = f.line; after = f.after; split = f.split; clean = f.clean; has = f.has },
      λ (f : IsFirstTextFault lines fault).
          ap (first_fault 1) (sym same ∙ f.split) ∙ first 1 f.before f.line f.after fault f.clean f.has,
    )

pub no_fault_is_clean : NoFaultIsClean
unfolding fault_of
no_fault_is_clean text lines d =
    let same : lines ≡ lines_of text = lines_only d in (
      λ (e : first_fault 1 (lines_of text) ≡ None). none_all 1 lines (ap (first_fault 1) same ∙ e),
      λ (h : list_all is_faultless lines ≡ true). ap (first_fault 1) (sym same) ∙ all_none 1 lines h,
    )
