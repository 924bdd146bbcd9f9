-- A text is that of one table, or it has one line at fault.
use Rattle.std.proofs.Common.{◌≡◌, ℕ, ◌+◌, ◌<◌, ◌⊎◌, List, [], ◌++◌, length, refl, ◌∙◌, sym, ap, subst, append_assoc, inl, inr, Result, Ok, Err, IfOk, IfErr}
use Rattle.tdf_tables.proofs.HeadLaws.{head_one}
use Rattle.tdf_tables.proofs.Only.{apart, fault_one, one}
use Rattle.tdf_tables.specs.Faults.{HasNoHead, HasNoRow, HasTableFault, IsTableRefusal, of_head, of_row}
use Rattle.tdf_tables.specs.Laws.{LineIsOne, TableIsOne, TableOrFault}
use Rattle.tdf_tables.specs.Tables.{AreColumnLabels, AreRows, IsFront, TableRow, SpellsTable, TableOf, table_head_text, table_rows_text, table_text}
use Rattle.tdf_tables.specs.declared.err.TableErr.{TableErr}
use Rattle.tdf_tables.specs.declared.err.TableErr.TheVariants.{Line, Memory}
use Rattle.tdf_tables.specs.machine.Body.{HasFault, IsRowsText, IsWhy}

abbrev pub table_at : List (List ℕ) → List TableRow → TableOf
table_at labels rows = record { labels = labels; rows = rows }

text_is : (t : TableOf) → table_text t ≡ table_head_text t.labels ++ table_rows_text t.rows
unfolding table_text
text_is t = refl

text_and : (t : TableOf) (rest : List ℕ) → table_text t ++ rest ≡ table_head_text t.labels ++ (table_rows_text t.rows ++ rest)
text_and t rest = ap (λ x. x ++ rest) (text_is t) ∙ append_assoc (table_head_text t.labels) (table_rows_text t.rows) rest

-- ---- from the head and the rows

pub table_read : (text rest : List ℕ) (labels : List (List ℕ)) (rows : List TableRow) → AreColumnLabels labels → text ≡ table_head_text labels ++ rest
    → IsRowsText (length labels) rest rows → SpellsTable text (table_at labels rows)
table_read text rest labels rows l is h = record {
  is = is ∙ ap (λ x. table_head_text labels ++ x) h.is ∙ sym (text_is (table_at labels rows));
  table = record { front = record { labels = l; rows = h.rows_are }; some = h.some };
}

pub fault_read : (text rest : List ℕ) (labels : List (List ℕ)) (line : ℕ) → AreColumnLabels labels → text ≡ table_head_text labels ++ rest
    → HasFault (length labels) rest line → HasTableFault text line
fault_read text rest labels line l is h =
    let whole : text ≡ table_text (table_at labels h.rows) ++ h.rest =
    is ∙ ap (λ x. table_head_text labels ++ x) h.is ∙ sym (text_and (table_at labels h.rows) h.rest) in
    subst (HasTableFault text) (sym h.line_is)
    (of_row (table_at labels h.rows) h.rest (record { labels = l; rows = h.before }) whole h.goes_on h.none)

pub why_read : (text rest : List ℕ) (labels : List (List ℕ)) (why : TableErr) → AreColumnLabels labels → text ≡ table_head_text labels ++ rest
    → IsWhy (length labels) rest why → IsTableRefusal text why
why_read text rest labels (Line line) l is h = fault_read text rest labels line l is h
why_read text rest labels Memory l is h = tt

-- ---- the rows of a table, and the line at fault among rows

body_of : (text : List ℕ) (t : TableOf) → SpellsTable text t → IsRowsText (length t.labels) (table_rows_text t.rows) t.rows
body_of text t h = record { is = refl; some = h.table.some; rows_are = h.table.front.rows }

fault_of : (t : TableOf) (rest body : List ℕ) → IsFront t → body ≡ table_rows_text t.rows ++ rest → (t.rows ≡ []) ⊎ (0 < length rest)
    → HasNoRow (length t.labels) t.rows rest → HasFault (length t.labels) body (length t.rows + 2)
fault_of t rest body front is goes none = record {
  rows = t.rows;
  rest = rest;
  is = is;
  before = front.rows;
  goes_on = goes;
  none = none;
  line_is = refl;
}

-- ---- the laws

pub table_by : (s t : TableOf) → s.labels ≡ t.labels → s.rows ≡ t.rows → s ≡ t
table_by s t a b = ap (λ x. table_at x s.rows) a ∙ ap (λ x. table_at t.labels x) b

pub table_is_one : TableIsOne
table_is_one text s t g h =
    let both = head_one s.labels t.labels (table_rows_text s.rows) (table_rows_text t.rows) g.table.front.labels h.table.front.labels
    (sym (text_is s) ∙ sym g.is ∙ h.is ∙ text_is t) in
    let rows : IsRowsText (length s.labels) (table_rows_text s.rows) t.rows = record {
      is = both.1;
      some = h.table.some;
      rows_are = subst (λ (l : List (List ℕ)). AreRows (length l) t.rows) (sym both.0) h.table.front.rows;
    } in
    table_by s t both.0 (one (length s.labels) (table_rows_text s.rows) s.rows t.rows (body_of text s g) rows)

no_front : (text : List ℕ) (t : TableOf) (rest : List ℕ) → HasNoHead text → AreColumnLabels t.labels → text ≡ table_text t ++ rest → ⊥
no_front text t rest none l is = none t.labels (table_rows_text t.rows ++ rest) l (is ∙ text_and t rest)

table_no_front : (text : List ℕ) (t : TableOf) → SpellsTable text t → HasNoHead text → ⊥
table_no_front text t h none = none t.labels (table_rows_text t.rows) h.table.front.labels (h.is ∙ text_is t)

pub table_or_fault : TableOrFault
table_or_fault text t line h (of_head none) = table_no_front text t h none
table_or_fault text t line h (of_row s rest front is goes none) =
    let both = head_one t.labels s.labels (table_rows_text t.rows) (table_rows_text s.rows ++ rest) h.table.front.labels front.labels
    (sym (text_is t) ∙ sym h.is ∙ is ∙ text_and s rest) in
    let fault = fault_of s rest (table_rows_text t.rows) front both.1 goes none in
    let here : HasFault (length t.labels) (table_rows_text t.rows) (length s.rows + 2) =
    subst (λ (l : List (List ℕ)). HasFault (length l) (table_rows_text t.rows) (length s.rows + 2)) (sym both.0) fault in
    apart (length t.labels) (table_rows_text t.rows) t.rows (length s.rows + 2) (body_of text t h) here

pub fault_is_one : LineIsOne
fault_is_one text m n (of_head g) (of_head h) = refl
fault_is_one text m n (of_head g) (of_row t rest front is goes none) = absurd (no_front text t rest g front.labels is)
fault_is_one text m n (of_row t rest front is goes none) (of_head h) = absurd (no_front text t rest h front.labels is)
fault_is_one text m n (of_row s xs f is goes none) (of_row t ys g are go never) =
    let both = head_one s.labels t.labels (table_rows_text s.rows ++ xs) (table_rows_text t.rows ++ ys) f.labels g.labels
    (sym (text_and s xs) ∙ sym is ∙ are ∙ text_and t ys) in
    let first = fault_of s xs (table_rows_text s.rows ++ xs) f refl goes none in
    let other = fault_of t ys (table_rows_text s.rows ++ xs) g both.1 go never in
    let here : HasFault (length s.labels) (table_rows_text s.rows ++ xs) (length t.rows + 2) =
    subst (λ (l : List (List ℕ)). HasFault (length l) (table_rows_text s.rows ++ xs) (length t.rows + 2)) (sym both.0) other in
    fault_one (length s.labels) (table_rows_text s.rows ++ xs) (length s.rows + 2) (length t.rows + 2) first here

-- ---- each answer comes wherever its cause is there

pub table_always : (text : List ℕ) (result : Result TableOf TableErr) → IfOk result (λ t. SpellsTable text t) → IfErr result (IsTableRefusal text)
    → (t : TableOf) → SpellsTable text t → (result ≡ Ok t) ⊎ (result ≡ Err Memory)
table_always text (Ok s) good bad t h = inl (ap Ok (table_is_one text s t good h))
table_always text (Err (Line line)) good bad t h = absurd (table_or_fault text t line h bad)
table_always text (Err Memory) good bad t h = inr refl

pub line_always : (text : List ℕ) (result : Result TableOf TableErr) → IfOk result (λ t. SpellsTable text t) → IfErr result (IsTableRefusal text)
    → (line : ℕ) → HasTableFault text line → (result ≡ Err (Line line)) ⊎ (result ≡ Err Memory)
line_always text (Ok s) good bad line h = absurd (table_or_fault text s line good h)
line_always text (Err (Line n)) good bad line h = inl (ap (λ k. Err (Line k)) (fault_is_one text n line bad h))
line_always text (Err Memory) good bad line h = inr refl
