-- Numbers that fit their formats.
use Rattle.std.proofs.Common.{◌≡◌, ◌∙◌, ℕ, zero, suc, ◌+◌, ◌-◌, ◌<◌, ◌≤◌, Bool, true, false, List, [], ◌∷◌, ◌++◌, Option, Some, None, ℤ, pos, length, take, drop, refl, sym, ap, subst, arith}
use Rattle.std.proofs.lemmas.Int.{ints}
use Rattle.std.proofs.lemmas.List.{replicate-append-replicate, length-append, length-replicate, length-map}
use Rattle.std.proofs.lemmas.Nat.{pow_pos}
use Rattle.std.specs.List.{flat_map}
use Rattle.std.specs.Prelude.{map, replicate, slice_get, slice_index}
use Rattle.tdf_base.specs.Number.{Numeral, numeral_of}
use Rattle.tdf_expr.specs.Frames.{limits_of_rate}
use Rattle.tdf_expr.specs.Plans.{start_number, starts_of, cell_starts, rate_span, rate_spans}
use Rattle.tdf_expr.specs.declared.spans.RateSpan.{RateSpan}
use Rattle.tdf_expr.specs.machine.Fitting.{FitsShape, AllFit}
use Rattle.tdf_fixed.proofs.Api.{in_range}
use Rattle.tdf_fixed.specs.Overflow.{IsOfWidth}
use Rattle.tdf_expr_semantics.specs.Fits.{NumbersFit, RatesFit}
use Rattle.tdf_expr_semantics.specs.Places.{RateLimits, cells_of, cell_shapes, limits_of, rate_limits}
use Rattle.tdf_expr_semantics.specs.Value.{literal_number}
use Rattle.tdf_expr_symbols.specs.Names.{Names, Thing, Var, Array, RateVar, shape_of}
use Rattle.tdf_expr_symbols.specs.Scope.{Scope}
use Rattle.tdf_expr_symbols.specs.Sound.{HasFormat, IsSound, IsThingSound}
use Rattle.tdf_expr_state.specs.State.{cell_at}
use Rattle.tdf_lang_tree.specs.declared.names.Lit.{Lit}
use Rattle.tdf_lang_tree.specs.declared.shapes.Shape.{Shape}

-- 0 is a number of every range
pub zero_in : (signed : Bool) (wl : ℕ) → IsOfWidth signed wl (pos 0)
zero_in true wl = record { low = omega (arith, ints); high = omega (arith, ints) }
zero_in false wl = record { low = omega (arith, ints); high = omega (arith, ints) }

pub zero_fits : (s : Option Shape) → FitsShape s (pos 0)
zero_fits None = tt
zero_fits (Some s) = zero_in s.signed s.wl

pub zeros_fit : (shapes : List (Option Shape)) → AllFit shapes (replicate (length shapes) (pos 0))
zeros_fit [] = tt
zeros_fit (s ∷ ss) = (zero_fits s, zeros_fit ss)

-- both views of numbers that fit
pub numbers_fit : (shapes : List (Option Shape)) (nums : List ℤ) → AllFit shapes nums → NumbersFit shapes nums
numbers_fit shapes nums all = record { long = long shapes nums all; each = each shapes nums all }
  where
    long : (shapes : List (Option Shape)) (nums : List ℤ) → AllFit shapes nums → length nums ≡ length shapes
    long [] [] all = refl
    long [] (n ∷ ns) all = absurd all
    long (s ∷ ss) [] all = absurd all
    long (s ∷ ss) (n ∷ ns) all = ap suc (long ss ns all.1)

    each : (shapes : List (Option Shape)) (nums : List ℤ) → AllFit shapes nums → (j : ℕ) (s : Shape) → slice_get shapes j ≡ Some (Some s)
        → IsOfWidth s.signed s.wl (cell_at nums j)
    each [] nums all j s at = absurd cc
    each (t ∷ ss) [] all j s at = absurd all
    each (t ∷ ss) (n ∷ ns) all zero s at = subst (λ x. FitsShape x n) (held at) all.0
      where
        given : Option (Option Shape) → Option Shape
        given None = t
        given (Some x) = x

        held : Some t ≡ Some (Some s) → t ≡ Some s
        held e = ap given e
    each (t ∷ ss) (n ∷ ns) all (suc j) s at = each ss ns all.1 j s at

pub all_fit : (shapes : List (Option Shape)) (nums : List ℤ) → NumbersFit shapes nums → AllFit shapes nums
all_fit [] [] fits = tt
all_fit [] (n ∷ ns) fits = absurd (omega (arith, fits.long))
all_fit (s ∷ ss) [] fits = absurd (omega (arith, fits.long))
all_fit (s ∷ ss) (n ∷ ns) fits = (first s (λ t e. fits.each 0 t (ap Some e)), all_fit ss ns (record { long = omega (arith, fits.long); each = λ j t e. fits.each (suc j) t e }))
  where
    first : (o : Option Shape) → ((t : Shape) → o ≡ Some t → IsOfWidth t.signed t.wl n) → FitsShape o n
    first None is = tt
    first (Some t) is = is t refl

-- two lists joined, and taken apart
pub fit_both : (ss ts : List (Option Shape)) (ns ms : List ℤ) → AllFit ss ns → AllFit ts ms → AllFit (ss ++ ts) (ns ++ ms)
fit_both [] ts [] ms first second = second
fit_both [] ts (n ∷ ns) ms first second = absurd first
fit_both (s ∷ ss) ts [] ms first second = absurd first
fit_both (s ∷ ss) ts (n ∷ ns) ms first second = (first.0, fit_both ss ts ns ms first.1 second)

pub fit_first : (ss ts : List (Option Shape)) (nums : List ℤ) → AllFit (ss ++ ts) nums → AllFit ss (take (length ss) nums)
fit_first [] ts [] all = tt
fit_first [] ts (n ∷ ns) all = tt
fit_first (s ∷ ss) ts [] all = absurd all
fit_first (s ∷ ss) ts (n ∷ ns) all = (all.0, fit_first ss ts ns all.1)

pub fit_second : (ss ts : List (Option Shape)) (nums : List ℤ) → AllFit (ss ++ ts) nums → AllFit ts (drop (length ss) nums)
fit_second [] ts [] all = all
fit_second [] ts (n ∷ ns) all = all
fit_second (s ∷ ss) ts [] all = absurd all
fit_second (s ∷ ss) ts (n ∷ ns) all = fit_second ss ts ns all.1

-- a literal is a number of its format
literal_fits : (s : Shape) (minus : Bool) (n : Option Numeral) → 1 ≤ s.wl → IsOfWidth s.signed s.wl (literal_number s minus n)
literal_fits s minus None some = zero_in s.signed s.wl
literal_fits s minus (Some n) some = in_range s.over s.signed s.wl _ some

start_fits : (o : Option Shape) (v : Lit) → HasFormat o → FitsShape o (start_number o v)
start_fits None v has = absurd has
start_fits (Some s) v has = literal_fits s v.minus (numeral_of v.digits) has.some_bits

starts_fit : (o : Option Shape) (vs : List Lit) → HasFormat o → AllFit (replicate (length vs) o) (map (start_number o) vs)
starts_fit o [] has = tt
starts_fit o (v ∷ vs) has = (start_fits o v has, starts_fit o vs has)

pub blanks_fit : (o : Option Shape) (n : ℕ) → AllFit (replicate n o) (replicate n (pos 0))
blanks_fit o zero = tt
blanks_fit o (suc n) = (zero_fits o, blanks_fit o n)

-- the starting values of a name
thing_fits : (own : Names) (t : Thing) → IsThingSound own t → AllFit (replicate (cells_of t) (shape_of t)) (starts_of t)
thing_fits own (Var shape start) sound = (start_fits shape start sound.0, tt)
thing_fits own (Array shape size starts) sound =
    let whole : length starts + (size - length starts) ≡ size = omega (arith, sound.2) in
    subst (λ l. AllFit l (map (start_number shape) starts ++ replicate (size - length starts) (pos 0)))
    (replicate-append-replicate (length starts) (size - length starts) shape ∙ ap (λ n. replicate n shape) whole)
    (fit_both (replicate (length starts) shape) (replicate (size - length starts) shape) (map (start_number shape) starts) (replicate (size - length starts) (pos 0))
    (starts_fit shape starts sound.0) (blanks_fit shape (size - length starts)))
thing_fits own _ sound = tt

things_fit : (own : Names) (things : List Thing) → ((n : ℕ) (t : Thing) → slice_get things n ≡ Some t → IsThingSound own t)
    → AllFit (flat_map (λ t. replicate (cells_of t) (shape_of t)) things) (flat_map starts_of things)
things_fit own [] sound = tt
things_fit own (t ∷ things) sound =
    fit_both (replicate (cells_of t) (shape_of t)) (flat_map (λ u. replicate (cells_of u) (shape_of u)) things) (starts_of t) (flat_map starts_of things)
    (thing_fits own t (sound 0 t refl)) (things_fit own things (λ n u e. sound (suc n) u e))

pub cells_start : (scope : Scope) → IsSound scope → NumbersFit (cell_shapes scope.own) (cell_starts scope.own)
cells_start scope sound = numbers_fit (cell_shapes scope.own) (cell_starts scope.own) (things_fit scope.own scope.own.things sound.own)

-- rate variables
pub limits_same : (things : List Thing) → flat_map limits_of things ≡ map limits_of_rate (flat_map rate_span things)
limits_same [] = refl
limits_same (RateVar least greatest start ∷ things) = ap (λ l. record { least = least; greatest = greatest } ∷ l) (limits_same things)
limits_same (_ ∷ things) = limits_same things

pub rates_in_order : (own : Names) (things : List Thing) → ((n : ℕ) (t : Thing) → slice_get things n ≡ Some t → IsThingSound own t)
    → (n : ℕ) (r : RateSpan) → slice_get (flat_map rate_span things) n ≡ Some r → (r.least ≤ r.start) × (r.start ≤ r.greatest)
rates_in_order own [] sound n r at = absurd cc
rates_in_order own (RateVar least greatest start ∷ things) sound zero r at =
    let kept = sound 0 (RateVar least greatest start) refl in
    subst (λ (x : RateSpan). (x.least ≤ x.start) × (x.start ≤ x.greatest)) (ap held at) (kept.1, kept.2)
  where
    held : Option RateSpan → RateSpan
    held None = record { least = least; greatest = greatest; start = start }
    held (Some x) = x
rates_in_order own (RateVar least greatest start ∷ things) sound (suc n) r at = rates_in_order own things (λ k t e. sound (suc k) t e) n r at
rates_in_order own (_ ∷ things) sound n r at = rates_in_order own things (λ k t e. sound (suc k) t e) n r at

pub rates_start : (spans : List RateSpan) → ((n : ℕ) (r : RateSpan) → slice_get spans n ≡ Some r → (r.least ≤ r.start) × (r.start ≤ r.greatest))
    → RatesFit (map limits_of_rate spans) (map (λ r. r.start) spans)
rates_start spans order = record { long = length-map spans (λ r. r.start) ∙ sym (length-map spans limits_of_rate); each = each spans order }
  where
    each : (spans : List RateSpan) → ((n : ℕ) (r : RateSpan) → slice_get spans n ≡ Some r → (r.least ≤ r.start) × (r.start ≤ r.greatest))
        → (j : ℕ) (l : RateLimits) → slice_get (map limits_of_rate spans) j ≡ Some l
        → (l.least ≤ slice_index (map (λ r. r.start) spans) j) × (slice_index (map (λ r. r.start) spans) j ≤ l.greatest)
    each [] order j l at = absurd cc
    each (r ∷ spans) order zero l at =
        subst (λ (x : RateLimits). (x.least ≤ r.start) × (r.start ≤ x.greatest)) (ap held at) (order 0 r refl)
      where
        held : Option RateLimits → RateLimits
        held None = limits_of_rate r
        held (Some x) = x
    each (r ∷ spans) order (suc j) l at = each spans (λ n x e. order (suc n) x e) j l at
