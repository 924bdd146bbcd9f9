-- The ports of a block, one after another.
use Rattle.std.proofs.Common.{◌≡◌, ◌∙◌, ℕ, zero, suc, ◌+◌, ◌<◌, ◌≤◌, List, [], ◌∷◌, ◌++◌, Option, Some, None, length, drop, refl, sym, ap, arith, append_assoc, append-nil}
use Rattle.std.proofs.lemmas.List.{drop_all, length-append, length-replicate, map-append}
use Rattle.std.specs.List.{flat_map}
use Rattle.std.specs.Prelude.{map, slice_get, replicate}
use Rattle.tdf_expr.proofs.Planned.{drop_at, has_at}
use Rattle.tdf_expr_semantics.specs.Places.{before, total, samples_of, sample_shapes}
use Rattle.tdf_expr.specs.Plans.{PortPlace, shape_written, place_of_span, places_from, port_places}
use Rattle.tdf_expr_compiler.specs.Formats.{IsFormatOf}
use Rattle.tdf_expr.proofs.Pushes.{written_is}
use Rattle.tdf_expr.specs.declared.spans.PortSpan.{PortSpan}
use Rattle.tdf_fixed.specs.declared.format.Format.{Format}
use Rattle.tdf_expr_symbols.specs.Names.{Names, Thing, Const, Var, Array, Port, shape_of}
use Rattle.tdf_expr_symbols.specs.Scope.{greatest_of}
use Rattle.tdf_lang_tree.specs.declared.blocks.PortKind.{PortKind}
use Rattle.tdf_lang_tree.specs.declared.names.Lit.{Lit}
use Rattle.tdf_lang_tree.specs.declared.shapes.Shape.{Shape}
use Rattle.tdf_lang_tree.specs.declared.stmt.Limit.{Limit}

-- a port
pub span_port : (own : Names) (xs : List PortSpan) (word : PortKind) (shape : Shape) (format : Format) (rate : Limit) (delay first count next : ℕ) (rest : List Thing)
    → IsFormatOf shape format → count ≡ greatest_of own rate → next ≡ first + count
    → map place_of_span (xs ++ record { word = word; format = format; first = first; count = count } ∷ []) ++ places_from own next rest
    ≡ map place_of_span xs ++ places_from own first (Port word (Some shape) rate delay ∷ rest)
unfolding places_from
span_port own xs word shape format rate delay first count next rest is count_is next_is =
    ap (λ l. l ++ places_from own next rest) (map-append place_of_span xs _)
    ∙ append_assoc (map place_of_span xs) (record { word = word; shape = shape_written format; first = first; count = count } ∷ []) (places_from own next rest)
    ∙ rw (next_is, count_is, written_is shape format is) refl

pub span_const : (own : Names) (a : Option Shape) (b : Lit) (first : ℕ) (rest : List Thing) → places_from own first (Const a b ∷ rest) ≡ places_from own first rest
unfolding places_from
span_const own a b first rest = refl

pub span_var : (own : Names) (a : Option Shape) (b : Lit) (first : ℕ) (rest : List Thing) → places_from own first (Var a b ∷ rest) ≡ places_from own first rest
unfolding places_from
span_var own a b first rest = refl

pub span_array : (own : Names) (a : Option Shape) (n : ℕ) (b : List Lit) (first : ℕ) (rest : List Thing) → places_from own first (Array a n b ∷ rest) ≡ places_from own first rest
unfolding places_from
span_array own a n b first rest = refl

pub ruleset port_laws = (span_port)

pub before_next : (count : Thing → ℕ) (things : List Thing) (n : ℕ) (t : Thing) → slice_get things n ≡ Some t
    → before count things (n + 1) ≡ before count things n + count t
unfolding before
before_next count [] n t e = absurd cc
before_next count (x ∷ things) zero t e =
    let one : 0 + 1 ≡ 1 = omega arith in
    ap (before count (x ∷ things)) one ∙ first things ∙ ap count (held_is e) ∙ start
  where
    held : Option Thing → Thing
    held None = x
    held (Some y) = y

    held_is : Some x ≡ Some t → x ≡ t
    held_is e = ap held e

    first : (rest : List Thing) → count x + before count rest 0 ≡ count x
    first [] = omega arith
    first (y ∷ rest) = omega arith

    start : count t ≡ 0 + count t
    start = omega arith
before_next count (x ∷ things) (suc n) t e =
    let next : suc n + 1 ≡ suc (n + 1) = omega arith in
    ap (before count (x ∷ things)) next ∙ ap (λ k. count x + k) (before_next count things n t e) ∙ assoc
  where
    assoc : count x + (before count things n + count t) ≡ count x + before count things n + count t
    assoc = omega arith

pub before_all : {A : Type 0} (count : Thing → ℕ) (see : Thing → A) (things : List Thing) (n : ℕ) → length things ≤ n
    → before count things n ≡ length (flat_map (λ t. replicate (count t) (see t)) things)
unfolding before
before_all count see [] n past = refl
before_all count see (x ∷ things) zero past = absurd (omega (arith, past))
before_all count see (x ∷ things) (suc n) past =
    let rest = before_all count see things n (omega (arith, past)) in
    ap (λ k. count x + k) rest ∙ sym (length-append (replicate (count x) (see x)) (flat_map (λ t. replicate (count t) (see t)) things)
    ∙ ap (λ k. k + length (flat_map (λ t. replicate (count t) (see t)) things)) (length-replicate (count x) (see x)))

pub spans_step : (own : Names) (things : List Thing) (old new whole : List PortPlace) (n first next : ℕ) → n < length things
    → ((t : Thing) (rest : List Thing) → slice_get things n ≡ Some t → new ++ places_from own next rest ≡ old ++ places_from own first (t ∷ rest))
    → old ++ places_from own first (drop n things) ≡ whole → new ++ places_from own next (drop (n + 1) things) ≡ whole
spans_step own things old new whole n first next within step before =
    let t = has_at things n within in
    step t.0 (drop (n + 1) things) t.1 ∙ ap (λ (l : List Thing). old ++ places_from own first l) (sym (drop_at things n t.0 t.1)) ∙ before

pub samples_step : (count : Thing → ℕ) (things : List Thing) (n first next : ℕ) → n < length things
    → ((t : Thing) → slice_get things n ≡ Some t → next ≡ first + count t) → first ≡ before count things n → next ≡ before count things (n + 1)
samples_step count things n first next within step is =
    let t = has_at things n within in
    step t.0 t.1 ∙ ap (λ k. k + count t.0) is ∙ sym (before_next count things n t.0 t.1)

pub spans_all : (own : Names) (things : List Thing) (xs : List PortPlace) (n first : ℕ) → length things ≤ n → xs ++ places_from own first (drop n things) ≡ xs
unfolding places_from
spans_all own things xs n first past = ap (λ (l : List Thing). xs ++ places_from own first l) (drop_all n things past) ∙ append-nil xs

pub samples_all : (own : Names) (n : ℕ) → length own.things ≤ n → before (samples_of own) own.things n ≡ length (sample_shapes own)
samples_all own n past = before_all (samples_of own) shape_of own.things n past

pub spans_none : (own : Names) → [] ++ places_from own 0 (drop 0 own.things) ≡ port_places own
spans_none own = refl

pub before_none : (count : Thing → ℕ) (things : List Thing) → 0 ≡ before count things 0
unfolding before
before_none count [] = refl
before_none count (x ∷ things) = refl

pub ruleset plan_laws = (spans_all, samples_all, spans_none, before_none)

pub before_total : (count : Thing → ℕ) (things : List Thing) (n : ℕ) → length things ≤ n → before count things n ≡ total count things
unfolding before total
before_total count [] n past = refl
before_total count (x ∷ things) zero past = absurd (omega (arith, past))
before_total count (x ∷ things) (suc n) past = ap (λ k. count x + k) (before_total count things n (omega (arith, past)))

pub ruleset event_laws = (before_none)
