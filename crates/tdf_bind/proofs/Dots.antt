-- Names joined by points, and lines of traces.
use Rattle.std.proofs.Common.{◌≡◌, ◌∙◌, ℕ, zero, suc, ◌+◌, ◌<◌, ◌≤◌, List, [], ◌∷◌, ◌++◌, length, take, drop, map, refl, sym, ap, arith, append_assoc, append-nil}
use Rattle.std.proofs.Math.ListN.{get_or}
use Rattle.std.proofs.lemmas.List.{drop_more, drop_all, take_all}
use Rattle.tdf_bind.specs.Flat.{dotted, trace_line}
use Rattle.tdf_bind.specs.machine.Steps.{dotted_after}
use Rattle.tdf_lang_tree.specs.Views.{pure_trace}
use Rattle.tdf_lang_tree.specs.declared.tree.Trace1.{Trace1}
use Rattle.tdf_bind_connections.specs.declared.traces.TraceLine.{TraceLine}

-- one name more
pub dots_more : (names : List (List ℕ)) (i : ℕ) (d : List ℕ) → i < length names → dotted_after (dotted (take i names)) i (get_or names i d) ≡ dotted (take (i + 1) names)
dots_more [] i d within = absurd (omega (arith, within))
dots_more (n ∷ names) zero d within = refl
dots_more (n ∷ m ∷ names) (suc zero) d within = refl
dots_more (n ∷ m ∷ names) (suc (suc i)) d within =
    let low : suc i + 1 ≡ suc (i + 1) = omega arith in
    let high : suc (suc i) + 1 ≡ suc (suc (i + 1)) = omega arith in
    append_assoc n (46 ∷ dotted (take (suc i) (m ∷ names))) (46 ∷ get_or (m ∷ names) (suc i) d)
    ∙ ap (λ l. n ++ 46 ∷ l) (dots_more (m ∷ names) (suc i) d (omega (arith, within)) ∙ ap (λ k. dotted (take k (m ∷ names))) low)
    ∙ sym (ap (λ k. dotted (take k (n ∷ m ∷ names))) high)
dots_more (n ∷ []) (suc i) d within = absurd (omega (arith, within))

pub dots_none : (names : List (List ℕ)) → [] ≡ dotted (take 0 names)
dots_none [] = refl
dots_none (n ∷ names) = refl

pub dots_all : (names : List (List ℕ)) (i : ℕ) → length names ≤ i → dotted (take i names) ≡ dotted names
dots_all names i past = ap dotted (take_all i names past)

pub ruleset dot_laws = (dots_more, dots_none, dots_all)

pub line_more : (xs : List Trace1) (i : ℕ) (d : Trace1) (lines : List TraceLine) → i < length xs
    → (lines ++ trace_line (pure_trace (get_or xs i d)) ∷ []) ++ map trace_line (map pure_trace (drop (i + 1) xs)) ≡ lines ++ map trace_line (map pure_trace (drop i xs))
line_more xs i d lines within =
    append_assoc lines (trace_line (pure_trace (get_or xs i d)) ∷ []) (map trace_line (map pure_trace (drop (i + 1) xs)))
    ∙ ap (λ (l : List Trace1). lines ++ map trace_line (map pure_trace l)) (sym (drop_more xs i d within))

pub line_all : (xs : List Trace1) (i : ℕ) (lines : List TraceLine) → length xs ≤ i → lines ++ map trace_line (map pure_trace (drop i xs)) ≡ lines
line_all xs i lines past = ap (λ (l : List Trace1). lines ++ map trace_line (map pure_trace l)) (drop_all i xs past) ∙ append-nil lines

pub ruleset line_laws = (line_more, line_all)
