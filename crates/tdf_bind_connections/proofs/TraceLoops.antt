-- One signal more, one line more.
use Rattle.std.proofs.Common.{◌≡◌, ◌∙◌, ℕ, ◌+◌, ◌<◌, ◌≤◌, Bool, true, false, List, [], ◌∷◌, ◌++◌, Option, Some, None, Result, Ok, Err, IfOk, OnOk, length, take, refl, sym, ap, subst, arith}
use Rattle.std.proofs.Math.ListN.{get_or}
use Rattle.std.proofs.lemmas.List.{take_more, take_all}
use Rattle.std.proofs.lemmas.List.Folds.{find-append}
use Rattle.std.specs.Cmp.Lexicographic.{pointwise, same_text}
use Rattle.std.proofs.lemmas.List.Elements.{recursion_from_All}
use Rattle.std.specs.List.{AllZip, AllByRecursion, cons_option}
use Rattle.std.specs.Option.{option_or}
use Rattle.std.specs.Prelude.{nat_eq, cond, find, slice_get, All}
use Rattle.tdf_bind_hierarchy.specs.Tables.{TablesOf}
use Rattle.tdf_bind_hierarchy.specs.declared.tables.SignalNumber.{SignalNumber}
use Rattle.tdf_bind_connections.proofs.DriverLoops.{first_none, first_some}
use Rattle.tdf_bind_connections.specs.Traces.{leads_to, traced, unknown_line, unknown_lines, IsTraceOf, IsTraceRefusal}
use Rattle.tdf_bind_connections.specs.machine.TraceSteps.{found, put_path, put_found, Finds, Puts, IsRowBy, IsRefusalBy, unknown_by, TracesUpTo}
use Rattle.tdf_bind_connections.specs.declared.traces.PathMap.{PathMap}
use Rattle.tdf_bind_connections.specs.declared.traces.TraceErr.{TraceErr}
use Rattle.tdf_bind_connections.specs.declared.traces.TraceErr.TheVariants.{Unknown, Memory}
use Rattle.tdf_bind_connections.specs.declared.traces.TraceLine.{TraceLine}
use Rattle.tdf_bind_connections.specs.declared.traces.TraceRow.{TraceRow}

-- texts of two lengths differ
pub other_length : (a b : List ℕ) → length b < length a → pointwise nat_eq a b ≡ false
other_length a b less = by_test (pointwise nat_eq a b) refl
  where
    by_test : (t : Bool) → t ≡ pointwise nat_eq a b → pointwise nat_eq a b ≡ false
    by_test false e = sym e
    by_test true e = absurd (let same = ap length (same_text a b e) in omega (arith, less, same))

or_none : (o : Option SignalNumber) → o ≡ option_or o None
or_none None = refl
or_none (Some n) = refl

pub longer : (text other : List ℕ) (limit : ℕ) (n : SignalNumber) (before : Option SignalNumber) → length other ≤ limit → limit < length text → before ≡ put_path text n other before
longer text other limit n before within more = or_none before ∙ ap (λ b. option_or before (cond b (Some n) None)) (sym (other_length text other (omega (arith, within, more))))

pub puts_longer : (text : List ℕ) (limit : ℕ) (n : SignalNumber) (paths : PathMap) → limit < length text → Puts (put_path text n) limit paths paths
puts_longer text limit n paths more = record { each = λ other within. longer text other limit n (found paths other) within more }

pub ruleset path_laws = (puts_longer)

find_more : (p : SignalNumber → Bool) (ns : List SignalNumber) (n : SignalNumber) → find p (ns ++ n ∷ []) ≡ option_or (find p ns) (cond (p n) (Some n) None)
find_more p ns n = find-append p ns (n ∷ [])

pub finds_next : (tables : TablesOf) (limit : ℕ) (numbers : List SignalNumber) (i : ℕ) (n d : SignalNumber) (old new : PathMap) → i < length numbers → Finds tables limit (take i numbers) old
    → n ≡ get_or numbers i d → Puts (put_found tables n) limit old new → Finds tables limit (take (i + 1) numbers) new
finds_next tables limit numbers i n d old new within h n_is step = record {
  each = λ text short.
      step.each text short ∙ ap (put_found tables n text) (h.each text short) ∙ sym (find_more (leads_to tables text) (take i numbers) n)
      ∙ ap (find (leads_to tables text)) (ap (λ (x : SignalNumber). take i numbers ++ x ∷ []) n_is ∙ sym (take_more numbers i d within));
}

zip_push : {A B : Type 0} (R : A → B → Type 0) (xs : List A) (ys : List B) (x : A) (y : B) → AllZip R xs ys → R x y → AllZip R (xs ++ x ∷ []) (ys ++ y ∷ [])
zip_push R [] [] x y h r = (r, tt)
zip_push R (a ∷ xs) (b ∷ ys) x y h r = (h.0, zip_push R xs ys x y h.1 r)
zip_push R [] (b ∷ ys) x y h r = absurd h
zip_push R (a ∷ xs) [] x y h r = absurd h

pub traces_next : (paths : PathMap) (lines : List TraceLine) (i : ℕ) (line : TraceLine) (row : TraceRow) (rows next : List TraceRow) → i < length lines → TracesUpTo paths lines i rows
    → line ≡ get_or lines i line → IsRowBy paths row line → next ≡ rows ++ row ∷ [] → TracesUpTo paths lines (i + 1) next
traces_next paths lines i line row rows next within h line_is fits next_is = record {
  rows_are = subst (λ l. AllZip (IsRowBy paths) l (take (i + 1) lines)) (sym next_is)
      (subst (AllZip (IsRowBy paths) (rows ++ row ∷ [])) (ap (λ (x : TraceLine). take i lines ++ x ∷ []) line_is ∙ sym (take_more lines i line within))
      (zip_push (IsRowBy paths) rows (take i lines) row line h.rows_are fits));
  rest_is = first_none (λ l. unknown_line l (found paths l.path)) lines i line (slice_get (unknown_by paths lines) 0) within line_is (ap (unknown_line line) fits.signal) h.rest_is;
}

pub refused_here : (paths : PathMap) (lines : List TraceLine) (i : ℕ) (line : TraceLine) (rows : List TraceRow) (e : TraceErr) → i < length lines → TracesUpTo paths lines i rows
    → line ≡ get_or lines i line → IsRefusalBy paths line e → IsTraceRefusal (unknown_by paths lines) e
refused_here paths lines i line rows (Unknown number) within h line_is refusal =
    sym h.rest_is ∙ first_some (λ l. unknown_line l (found paths l.path)) lines i line line.line within line_is (ap (unknown_line line) refusal.1) ∙ ap Some (sym refusal.0)
refused_here paths lines i line rows Memory within h line_is refusal = tt

pub traces_done : (paths : PathMap) (lines : List TraceLine) (i : ℕ) (rows : List TraceRow) → length lines ≤ i → TracesUpTo paths lines i rows → AllZip (IsRowBy paths) rows lines
traces_done paths lines i rows past h = subst (AllZip (IsRowBy paths) rows) (take_all i lines past) h.rows_are

-- the map against the tables
found_is : (tables : TablesOf) (limit : ℕ) (paths : PathMap) → Finds tables limit tables.order paths → (lines : List TraceLine) → AllByRecursion (λ line. length line.path ≤ limit) lines
    → unknown_by paths lines ≡ unknown_lines tables lines
found_is tables limit paths h [] short = refl
found_is tables limit paths h (line ∷ lines) short =
    ap (λ o. cons_option (unknown_line line o) (unknown_by paths lines)) (h.each line.path short.0)
    ∙ ap (cons_option (unknown_line line (traced tables line.path))) (found_is tables limit paths h lines short.1)

rows_are : (tables : TablesOf) (limit : ℕ) (paths : PathMap) → Finds tables limit tables.order paths → (rows : List TraceRow) (lines : List TraceLine) → AllByRecursion (λ line. length line.path ≤ limit) lines
    → AllZip (IsRowBy paths) rows lines → AllZip (IsTraceOf tables) rows lines
rows_are tables limit paths h [] [] short fits = tt
rows_are tables limit paths h (row ∷ rows) (line ∷ lines) short fits =
    (record { label = fits.0.label; signal = sym (h.each line.path short.0) ∙ fits.0.signal }, rows_are tables limit paths h rows lines short.1 fits.1)
rows_are tables limit paths h [] (line ∷ lines) short fits = absurd fits
rows_are tables limit paths h (row ∷ rows) [] short fits = absurd fits

pub traces_are : (tables : TablesOf) (limit : ℕ) (paths : PathMap) → Finds tables limit tables.order paths → (rows : List TraceRow) (lines : List TraceLine) → All (λ line. length line.path ≤ limit) lines
    → AllZip (IsRowBy paths) rows lines → AllZip (IsTraceOf tables) rows lines
traces_are tables limit paths h rows lines short fits = rows_are tables limit paths h rows lines (recursion_from_All (λ line. length line.path ≤ limit) lines short) fits

pub unknown_are : (tables : TablesOf) (limit : ℕ) (paths : PathMap) → Finds tables limit tables.order paths → (lines : List TraceLine) → All (λ line. length line.path ≤ limit) lines → unknown_by paths lines ≡ unknown_lines tables lines
unknown_are tables limit paths h lines short = found_is tables limit paths h lines (recursion_from_All (λ line. length line.path ≤ limit) lines short)

-- traces of all lines leave none unknown
pub none_unknown : (tables : TablesOf) (rows : List TraceRow) (lines : List TraceLine) → AllZip (IsTraceOf tables) rows lines → unknown_lines tables lines ≡ []
none_unknown tables [] [] h = refl
none_unknown tables (row ∷ rows) (line ∷ lines) h = ap (λ o. cons_option (unknown_line line o) (unknown_lines tables lines)) h.0.signal ∙ none_unknown tables rows lines h.1
none_unknown tables [] (line ∷ lines) h = absurd h
none_unknown tables (row ∷ rows) [] h = absurd h

-- more of what holds at Ok
pub if_ok_more : {A E : Type 0} {P Q : A → Type 0} → ((a : A) → P a → Q a) → (r : Result A E) → IfOk r P → IfOk r Q
if_ok_more f (Ok a) h = f a h
if_ok_more f (Err e) h = tt

pub on_ok_more : {A E T : Type 0} {P : A → Type 0} → ((a : A) → P a → T) → (r : Result A E) → IfOk r P → OnOk r T
on_ok_more f (Ok a) h = f a h
on_ok_more f (Err e) h = tt
