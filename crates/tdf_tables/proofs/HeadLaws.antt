-- The head is read exactly, and a text has one.
use Rattle.std.proofs.Common.{◌≡◌, ℕ, ◌<◌, Bool, true, false, nat_eq, List, [], ◌∷◌, ◌++◌, length, take, drop, codes, refl, arith, ◌∙◌, sym, ap, Some, None, append_assoc}
use Rattle.std.proofs.lemmas.List.{take-append-drop}
use Rattle.std.proofs.lemmas.List.Folds.{list_any-append}
use Rattle.std.specs.Cmp.Lexicographic.{pointwise}
use Rattle.std.specs.List.{list_all, list_any}
use Rattle.tdf_lang_lexer.proofs.Api.{same_text}
use Rattle.tdf_tables.proofs.LabelLaws.{labels_complete, labels_marked, labels_sound}
use Rattle.tdf_tables.proofs.LineLaws.{cut_once, ends_there}
use Rattle.tdf_tables.proofs.Marks.{spaced_no_end, without_spaces}
use Rattle.tdf_tables.proofs.Words.{spaced_more, spaced_words, words_spaced, words_step}
use Rattle.tdf_tables.specs.Faults.{HasNoHead}
use Rattle.tdf_tables.specs.Tables.{AreColumnLabels, table_head_text}
use Rattle.tdf_tables.specs.Words.{spaced, words_of}
use Rattle.tdf_tables.specs.machine.Scan.{is_label, is_line_end, label_part}

-- ---- what stands before its end

abbrev pub head_line : List (List ℕ) → List ℕ
head_line labels = codes "%time" ++ spaced labels

head_joined : (labels : List (List ℕ)) (rest : List ℕ) → table_head_text labels ++ rest ≡ head_line labels ++ (10 ∷ rest)
head_joined labels rest =
    append_assoc (codes "%time") (spaced labels ++ (10 ∷ [])) rest
    ∙ ap (λ x. codes "%time" ++ x) (append_assoc (spaced labels) (10 ∷ []) rest)
    ∙ sym (append_assoc (codes "%time") (spaced labels) (10 ∷ rest))

head_no_end : (labels : List (List ℕ)) → AreColumnLabels labels → list_any is_line_end (head_line labels) ≡ false
head_no_end labels h =
    let more = spaced_no_end labels (labels_marked labels h.each) in
    list_any-append is_line_end (codes "%time") (spaced labels) ∙ rw more refl

labels_back : (labels : List (List ℕ)) → AreColumnLabels labels → words_of (spaced labels) ≡ labels
labels_back labels h = words_spaced labels (without_spaces labels (labels_marked labels h.each))

-- ---- one head

pub head_one : (ks ls : List (List ℕ)) (m n : List ℕ) → AreColumnLabels ks → AreColumnLabels ls → table_head_text ks ++ m ≡ table_head_text ls ++ n → (ks ≡ ls) × (m ≡ n)
head_one ks ls m n g h e =
    let both = cut_once (head_line ks) m (head_line ls) n (head_no_end ks g) (head_no_end ls h) (sym (head_joined ks m) ∙ e ∙ head_joined ls n) in
    let texts : spaced ks ≡ spaced ls = ap (drop 5) both.0 in
    (sym (labels_back ks g) ∙ ap words_of texts ∙ labels_back ls h, both.1)

-- ---- the part with labels

-- it begins with a space
record IsPart (line labels : List ℕ) : Type 0 where
  more : List ℕ
  line_is : line ≡ codes "%time" ++ (32 ∷ more)
  labels_is : labels ≡ 32 ∷ more

part_by : (line labels : List ℕ) (b : Bool) → pointwise nat_eq (codes "%time ") (take 6 line) ≡ b → label_part line ≡ Some labels → IsPart line labels
part_by line labels false e h = absurd (let g : None ≡ Some labels = rw e at h in cc)
part_by line labels true e h =
    let front : codes "%time " ≡ take 6 line = same_text (codes "%time ") (take 6 line) e in
    let whole : line ≡ codes "%time " ++ drop 6 line = sym (take-append-drop 6 line) ∙ ap (λ x. x ++ drop 6 line) (sym front) in
    let g : Some (drop 5 line) ≡ Some labels = rw e at h in
    let same : drop 5 line ≡ labels = cc in
    record { more = drop 6 line; line_is = whole; labels_is = sym same ∙ ap (drop 5) whole }

part_is : (line labels : List ℕ) → label_part line ≡ Some labels → IsPart line labels
part_is line labels h = part_by line labels (pointwise nat_eq (codes "%time ") (take 6 line)) refl h

some_spaced : (labels : List (List ℕ)) → 0 < length labels → (more : List ℕ) × (spaced labels ≡ 32 ∷ more)
some_spaced [] some = absurd (omega (arith, some))
some_spaced (w ∷ ws) some = (w ++ spaced ws, spaced_more w ws)

part_there : (line more : List ℕ) → line ≡ codes "%time" ++ (32 ∷ more) → label_part line ≡ Some (32 ∷ more)
part_there line more e = rw e refl

head_part : (line : List ℕ) (labels : List (List ℕ)) → AreColumnLabels labels → line ≡ head_line labels → label_part line ≡ Some (spaced labels)
head_part line labels h e =
    let s = some_spaced labels h.some in
    part_there line s.0 (e ∙ ap (λ x. codes "%time" ++ x) s.1) ∙ ap Some (sym s.1)

-- ---- reading

-- the labels of a head that is read
pub read_labels : (line labels : List ℕ) → label_part line ≡ Some labels → list_all is_label (words_of labels) ≡ true → AreColumnLabels (words_of labels)
read_labels line labels part all =
    let p = part_is line labels part in
    record { some = omega (arith, ap (λ t. length (words_of t)) p.labels_is, ap length (words_step 32 p.more)); each = labels_sound (words_of labels) all }

pub read_is : (text line labels rest : List ℕ) → text ≡ line ++ (10 ∷ rest) → label_part line ≡ Some labels → text ≡ table_head_text (words_of labels) ++ rest
read_is text line labels rest cut part =
    let p = part_is line labels part in
    let back : spaced (words_of labels) ≡ labels = ap (λ t. spaced (words_of t)) p.labels_is ∙ spaced_words 32 p.more ∙ sym p.labels_is in
    let is : line ≡ head_line (words_of labels) = p.line_is ∙ ap (λ x. codes "%time" ++ x) (sym p.labels_is ∙ sym back) in
    cut ∙ ap (λ x. x ++ (10 ∷ rest)) is ∙ sym (head_joined (words_of labels) rest)

-- no head where no line ends
pub no_line : (text : List ℕ) → list_any is_line_end text ≡ false → HasNoHead text
no_line text none = λ labels rest h e.
    (let there : list_any is_line_end text ≡ true = ap (list_any is_line_end) (e ∙ head_joined labels rest) ∙ ends_there (head_line labels) rest in
    let apart : true ≡ false = sym there ∙ none in
    cc)

line_of : (text line rest : List ℕ) (labels : List (List ℕ)) (more : List ℕ) → text ≡ line ++ (10 ∷ rest) → list_any is_line_end line ≡ false
    → AreColumnLabels labels → text ≡ table_head_text labels ++ more → line ≡ head_line labels
line_of text line rest labels more cut none h e =
    (cut_once line rest (head_line labels) more none (head_no_end labels h) (sym cut ∙ e ∙ head_joined labels more)).0

-- no head where the line has no part with labels
pub no_part : (text line rest : List ℕ) → text ≡ line ++ (10 ∷ rest) → list_any is_line_end line ≡ false → label_part line ≡ None → HasNoHead text
no_part text line rest cut none part = λ labels more h e.
    (let there = head_part line labels h (line_of text line rest labels more cut none h e) in
    let apart : None ≡ Some (spaced labels) = sym part ∙ there in
    cc)

-- no head where a word is no label
pub no_labels : (text line rest part : List ℕ) → text ≡ line ++ (10 ∷ rest) → list_any is_line_end line ≡ false → label_part line ≡ Some part
    → list_all is_label (words_of part) ≡ false → HasNoHead text
no_labels text line rest part cut none is others = λ labels more h e.
    (let there = head_part line labels h (line_of text line rest labels more cut none h e) in
    let apart : Some part ≡ Some (spaced labels) = sym is ∙ there in
    let same : part ≡ spaced labels = cc in
    let all : list_all is_label (words_of part) ≡ true = ap (λ t. list_all is_label (words_of t)) same ∙ ap (list_all is_label) (labels_back labels h) ∙ labels_complete labels h.each in
    let two : true ≡ false = sym all ∙ others in
    cc)
