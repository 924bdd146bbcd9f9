-- The place after the first line that begins with `text ` is the one that is found line by line.
use Rattle.std.proofs.Common.{◌≡◌, ℕ, zero, suc, ◌+◌, ◌<◌, Bool, true, false, nat_eq, List, [], ◌∷◌, ◌++◌, length, take, refl, ◌∙◌, sym, ap, subst, append_assoc, arith, codes, Option, Some, None, IfSome, ◌⊎◌, inl, inr, ⊎_elim, if◌then◌else◌}
use Rattle.std.proofs.lemmas.Bool.{cases_Bool}
use Rattle.std.proofs.lemmas.Bool.Decides.{nat_tests}
use Rattle.std.proofs.lemmas.List.{length-append}
use Rattle.std.specs.Cmp.Lexicographic.{pointwise}
use Rattle.std.specs.List.{AllByRecursion, starts_with}
use Rattle.std.specs.Prelude.{◌&&◌, unwrap_or}
use Rattle.tdf_save.proofs.Lines.{Passes, found, found_line, found_none, passes_items, tail_of}
use Rattle.tdf_save.proofs.Starts.{start_whole}
use Rattle.tdf_save.specs.Laws.{StartIsOne}
use Rattle.tdf_save.specs.Start.{IsInLine, IsOtherLine, IsTextStart, ended, ends_a_line, names_text}
use Rattle.tdf_save.specs.machine.Start.{text_start_of}

some_same : (a b : ℕ) → Some a ≡ Some b → a ≡ b
some_same a b e = ap (λ o. unwrap_or o 0) e

-- ---- how a line begins

head_of : (c : ℕ) (line : List ℕ) → IsInLine (c ∷ line) → ends_a_line c ≡ false
head_of c line h = ⊎_elim
    (λ (here : ends_a_line c ≡ true). absurd (let f : true ≡ false = rw here at h in cc))
    (λ (other : ends_a_line c ≡ false). other)
    (cases_Bool (ends_a_line c))

-- whether a line begins with a word goes by the line alone
begins_same : (word line rest : List ℕ) → IsInLine word → pointwise nat_eq word (take (length word) (line ++ (10 ∷ rest))) ≡ pointwise nat_eq word (take (length word) line)
begins_same [] line rest h = refl
begins_same (c ∷ word) [] rest h = let e : nat_eq c 10 ≡ false = head_of c word h in rw e refl
begins_same (c ∷ word) (d ∷ line) rest h = ap (λ b. nat_eq c d && b) (begins_same word line rest (tail_of c word h))

names_line : (line rest : List ℕ) → starts_with nat_eq (line ++ (10 ∷ rest)) (codes "text ") ≡ names_text line
names_line line rest = begins_same (codes "text ") line rest refl

-- what a line gives, by whether it is that of the text
line_gives : (place : ℕ) (line rest : List ℕ) (b : Bool) → IsInLine line → names_text line ≡ b
    → found place (line ++ (10 ∷ rest)) ≡ (if b then Some (place + (length line + 1)) else found (place + (length line + 1)) rest)
line_gives place line rest b plain names = found_line place line rest plain
    ∙ ap (λ b. if b then Some (place + (length line + 1)) else found (place + (length line + 1)) rest) (names_line line rest ∙ names)

-- ---- a start is found

other_passes : (line : List ℕ) → IsOtherLine line → Passes (line ++ 10 ∷ [])
other_passes line h place rest =
    let size : length line + 1 ≡ length (line ++ 10 ∷ []) = sym (length-append line (10 ∷ [])) in
    ap (found place) (append_assoc line (10 ∷ []) rest) ∙ line_gives place line rest false h.plain h.names ∙ ap (λ n. found (place + n) rest) size

others_pass : (lines : List (List ℕ)) → AllByRecursion IsOtherLine lines → Passes (ended lines)
others_pass lines all = passes_items (λ line. line ++ 10 ∷ []) IsOtherLine other_passes lines all

start_found : (text : List ℕ) (place : ℕ) → IsTextStart text place → text_start_of text ≡ Some place
start_found text place h =
    let front = ended h.before in
    let more = h.line ++ (10 ∷ h.rest) in
    let none : 0 + length front ≡ length front = omega arith in
    start_whole text ∙ ap (found 0) h.is ∙ others_pass h.before h.others 0 more ∙ ap (λ n. found n more) none
    ∙ line_gives (length front) h.line h.rest true h.own.plain h.own.names ∙ ap Some (sym h.after)

pub no_start : (text : List ℕ) → text_start_of text ≡ None → (place : ℕ) → IsTextStart text place → ⊥
no_start text none place h = let e : None ≡ Some place = sym none ∙ start_found text place h in cc

pub start_is_one : StartIsOne
start_is_one text place other h k = some_same place other (sym (start_found text place h) ∙ start_found text other k)

-- ---- what is found is a start

-- a text with an LF
record HasLine (text : List ℕ) : Type 0 where
  pub line : List ℕ
  pub rest : List ℕ
  pub plain : IsInLine line
  pub is : text ≡ line ++ (10 ∷ rest)

is_lf : (c : ℕ) → ends_a_line c ≡ true → c ≡ 10
is_lf c h = grind (arith, nat_tests, h)

cut_by : (c : ℕ) (b : Bool) → ends_a_line c ≡ b → (text : List ℕ) → IsInLine text ⊎ HasLine text → IsInLine (c ∷ text) ⊎ HasLine (c ∷ text)
cut_by c true e text more = inr (record { line = []; rest = text; plain = refl; is = ap (λ d. d ∷ text) (is_lf c e) })
cut_by c false e text (inl none) = inl (rw (e, none) refl)
cut_by c false e text (inr h) = inr (record { line = c ∷ h.line; rest = h.rest; plain = rw (e, h.plain) refl; is = ap (λ t. c ∷ t) h.is })

cut_line : (text : List ℕ) → IsInLine text ⊎ HasLine text
cut_line [] = inl refl
cut_line (c ∷ text) = cut_by c (ends_a_line c) refl text (cut_line text)

-- a text that stands at a place has its start at another
record StartsAt (place : ℕ) (text : List ℕ) (at : ℕ) : Type 0 where
  pub inside : ℕ
  pub start : IsTextStart text inside
  pub is : at ≡ place + inside

here : (place : ℕ) (text line rest : List ℕ) (at : ℕ) → IsInLine line → names_text line ≡ true → text ≡ line ++ (10 ∷ rest) → at ≡ place + (length line + 1) → StartsAt place text at
here place text line rest at plain names is e = record {
  inside = length line + 1;
  start = record { before = []; line = line; rest = rest; is = is; others = tt; own = record { plain = plain; names = names }; after = omega arith };
  is = e;
}

later : (place : ℕ) (text line rest : List ℕ) (at : ℕ) → IsInLine line → names_text line ≡ false → text ≡ line ++ (10 ∷ rest) → StartsAt (place + (length line + 1)) rest at → StartsAt place text at
later place text line rest at plain names is h =
    let s = h.start in
    let more = s.line ++ (10 ∷ s.rest) in
    let size : length (ended (line ∷ s.before)) ≡ length line + 1 + length (ended s.before) =
    length-append (line ++ 10 ∷ []) (ended s.before) ∙ ap (λ n. n + length (ended s.before)) (length-append line (10 ∷ [])) in
    let whole : text ≡ ended (line ∷ s.before) ++ more =
    is ∙ ap (λ x. line ++ (10 ∷ x)) s.is ∙ sym (append_assoc line (10 ∷ []) (ended s.before ++ more)) ∙ sym (append_assoc (line ++ 10 ∷ []) (ended s.before) more) in
    let after : length line + 1 + h.inside ≡ length (ended (line ∷ s.before)) + (length s.line + 1) = omega (arith, size, s.after) in
    record {
      inside = length line + 1 + h.inside;
      start = record {
        before = line ∷ s.before;
        line = s.line;
        rest = s.rest;
        is = whole;
        others = (record { plain = plain; names = names }, s.others);
        own = s.own;
        after = after;
      };
      is = omega (arith, h.is);
    }

by_line : (n place : ℕ) (text : List ℕ) (at : ℕ) → length text < suc n → found place text ≡ Some at
    → ((place : ℕ) (text : List ℕ) (at : ℕ) → length text < n → found place text ≡ Some at → StartsAt place text at)
    → (cut : HasLine text) (b : Bool) → names_text cut.line ≡ b → StartsAt place text at
by_line n place text at room h goes cut true e =
    let gives = ap (found place) cut.is ∙ line_gives place cut.line cut.rest true cut.plain e in
    here place text cut.line cut.rest at cut.plain e cut.is (some_same at (place + (length cut.line + 1)) (sym h ∙ gives))
by_line n place text at room h goes cut false e =
    let gives = ap (found place) cut.is ∙ line_gives place cut.line cut.rest false cut.plain e in
    let size : length text ≡ length cut.line + suc (length cut.rest) = ap length cut.is ∙ length-append cut.line (10 ∷ cut.rest) in
    later place text cut.line cut.rest at cut.plain e cut.is (goes (place + (length cut.line + 1)) cut.rest at (omega (arith, room, size)) (sym gives ∙ h))

by_cut : (n place : ℕ) (text : List ℕ) (at : ℕ) → length text < suc n → found place text ≡ Some at
    → ((place : ℕ) (text : List ℕ) (at : ℕ) → length text < n → found place text ≡ Some at → StartsAt place text at)
    → IsInLine text ⊎ HasLine text → StartsAt place text at
by_cut n place text at room h goes (inl none) = absurd (let e : None ≡ Some at = sym (found_none place text none) ∙ h in cc)
by_cut n place text at room h goes (inr cut) = by_line n place text at room h goes cut (names_text cut.line) refl

starts_in : (n place : ℕ) (text : List ℕ) (at : ℕ) → length text < n → found place text ≡ Some at → StartsAt place text at
starts_in zero place text at room h = absurd (omega (arith, room))
starts_in (suc n) place text at room h = by_cut n place text at room h (λ place text at room h. starts_in n place text at room h) (cut_line text)

pub found_start : (text : List ℕ) (place : ℕ) → text_start_of text ≡ Some place → IsTextStart text place
found_start text place h =
    let s = starts_in (suc (length text)) 0 text place (omega arith) (sym (start_whole text) ∙ h) in
    let same : s.inside ≡ place = omega (arith, s.is) in
    subst (IsTextStart text) same s.start

pub starts_of : (text : List ℕ) (o : Option ℕ) → o ≡ text_start_of text → IfSome o (IsTextStart text)
starts_of text None e = tt
starts_of text (Some place) e = found_start text place (sym e)
