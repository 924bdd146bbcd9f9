-- Positions and times.
use Rattle.std.proofs.Common.{◌≡◌, ℕ, zero, suc, ◌+◌, ◌-◌, ◌*◌, ◌/◌, ◌%◌, ◌<◌, ◌≤◌, Bool, true, false, nat_eq, nat_lt, nat_le, ◌&&◌, if◌then◌else◌, Option, Some, None, option_map, List, [], ◌∷◌, ◌++◌, length, slice_get, refl, ap, sym, ◌∙◌, inl, inr, arith, ◌⊎◌}
use Rattle.std.proofs.lemmas.Bool.{cases_eq, cases_lt, eq-eqb, ne_eqb, lt-ltb, le-ltb, le-leb, lt-leb}
use Rattle.std.proofs.Math.Nat.{mul-le-mul_right}
use Rattle.std.proofs.lemmas.Nat.{div-add-mod', div-mul-add, mod-mul-add}
use Rattle.tdf_fixed.specs.declared.raw.Raw.{Raw}
use Rattle.tdf_trace_rows.specs.Positions.{AreChained, Span, cell_of, span_end, is_position, place_in_span, position_at, time_in_spans, count_of_spans}

get_push : (xs : List Raw) (v : Raw) (j : ℕ) → slice_get (xs ++ v ∷ []) j ≡ (if nat_eq j (length xs) then Some v else slice_get xs j)
get_push [] v zero = refl
get_push [] v (suc j) = rw (ne_eqb (suc j) 0 (λ e. omega (arith, e))) refl
get_push (x ∷ xs) v zero = rw (ne_eqb 0 (suc (length xs)) (λ e. omega (arith, e))) refl
get_push (x ∷ xs) v (suc j) = get_push xs v j ∙ ap (λ p. if p then Some v else slice_get xs j) (suc_same j (length xs))
  where
    suc_same : (a b : ℕ) → nat_eq a b ≡ nat_eq (suc a) (suc b)
    suc_same a b = elim (cases_eq a b) [
      | inl same ↦ rw (eq-eqb a b same, eq-eqb (suc a) (suc b) (ap suc same)) refl
      | inr apart ↦ rw (ne_eqb a b apart, ne_eqb (suc a) (suc b) (λ e. apart (omega (arith, e)))) refl
    ]

push_if : (p : Bool) (v : Raw) (o : Option Raw) → Some (if p then Some v else o) ≡ (if p then Some (Some v) else Some o)
push_if true v o = refl
push_if false v o = refl

pub one_sample : (spans : List Span) (samples : List Raw) (v : Raw) (s : ℕ) → cell_of spans (samples ++ v ∷ []) s ≡ (if is_position (position_at 0 spans s) (length samples) then Some (Some v) else cell_of spans samples s)
one_sample spans samples v s = go (position_at 0 spans s)
  where
    go : (o : Option ℕ) → option_map (slice_get (samples ++ v ∷ [])) o ≡ (if is_position o (length samples) then Some (Some v) else option_map (slice_get samples) o)
    go None = refl
    go (Some j) = ap Some (get_push samples v j) ∙ push_if (nat_eq j (length samples)) v (slice_get samples j)

same_else : {A : Type 0} (p : Bool) (a b e : A) → b ≡ e → (if p then a else b) ≡ (if p then a else e)
same_else true a b e h = refl
same_else false a b e h = h

pub one_span : (spans : List Span) (p : Span) (base s : ℕ) → s < p.start → position_at base (spans ++ p ∷ []) s ≡ position_at base spans s
unfolding position_at
one_span [] p base s less = rw (lt-leb p.start s less) refl
one_span (q ∷ qs) p base s less = same_else (nat_le q.start s && nat_lt s (span_end q)) _ _ _ (one_span qs p (base + q.count) s less)

and_false : (p : Bool) → (p && false) ≡ false
and_false true = refl
and_false false = refl

some_same : (a b : ℕ) → Some a ≡ Some b → a ≡ b
some_same a b h = cc

pub time_is : (a base : ℕ) (spans : List Span) (j s : ℕ) → AreChained a spans → time_in_spans spans j ≡ Some s → (a ≤ s) × (position_at base spans s ≡ Some (base + j))
unfolding position_at time_in_spans AreChained
time_is a base [] j s chained h = absurd (grind (arith, h))
time_is a base (p ∷ ps) j s chained h = elim (cases_lt j p.count) [
  | inl here ↦ (let e : p.start + j * p.step ≡ s = some_same _ _ (sym (inside here) ∙ h) in
      let b : p.start ≡ a = chained.0 in
      let m : (j + 1) * p.step ≤ p.count * p.step = mul-le-mul_right p.step (let u : j + 1 ≤ p.count = omega (arith, here) in u) in
      let n : (j + 1) * p.step ≡ j * p.step + p.step = grind arith in
      let pos : 0 < p.step = chained.1 in
      let d : s - p.start ≡ j * p.step + 0 = omega (arith, e) in
      let q : (s - p.start) % p.step ≡ 0 = ap (λ x. x % p.step) d ∙ mod-mul-add j p.step 0 pos in
      let r : (s - p.start) / p.step ≡ j = ap (λ x. x / p.step) d ∙ div-mul-add j p.step 0 pos in
      (omega (arith, e, b), rw (le-leb p.start s (omega (arith, e)), lt-ltb s (span_end p) (omega (arith, e, m, n, pos)), q, r) refl))
  | inr later ↦ (let i = time_is (span_end p) (base + p.count) ps (j - p.count) s chained.2 (sym (outside later) ∙ h) in
      let low : span_end p ≤ s = i.0 in let b : p.start ≡ a = chained.0 in
      let k : base + p.count + (j - p.count) ≡ base + j = omega (arith, later) in
      (omega (arith, low, b), rw (le-ltb s (span_end p) low, and_false (nat_le p.start s)) (i.1 ∙ ap Some k)))
]
  where
    inside : j < p.count → (if nat_lt j p.count then Some (p.start + j * p.step) else time_in_spans ps (j - p.count)) ≡ Some (p.start + j * p.step)
    inside less = rw (lt-ltb j p.count less) refl

    outside : p.count ≤ j → (if nat_lt j p.count then Some (p.start + j * p.step) else time_in_spans ps (j - p.count)) ≡ time_in_spans ps (j - p.count)
    outside past = rw (le-ltb j p.count past) refl

pub has_times : (spans : List Span) (j : ℕ) → (j < count_of_spans spans → (s : ℕ) × (time_in_spans spans j ≡ Some s)) × (count_of_spans spans ≤ j → time_in_spans spans j ≡ None)
unfolding time_in_spans count_of_spans
has_times [] j = (λ less. absurd (omega (arith, less)), λ _. refl)
has_times (p ∷ ps) j = elim (cases_lt j p.count) [
  | inl here ↦ (λ _. (p.start + j * p.step, rw (lt-ltb j p.count here) refl), λ past. absurd (omega (arith, past, here)))
  | inr later ↦ (let rest = has_times ps (j - p.count) in (
    λ less. (let w = rest.0 (omega (arith, less, later)) in (w.0, rw (le-ltb j p.count later) w.1)),
    λ past. rw (le-ltb j p.count later) (rest.1 (omega (arith, past, later))),
  ))
]

-- the place of a time in its span
place_is : (p : Span) (s k : ℕ) → p.start ≤ s → s < span_end p → 0 < p.step → place_in_span p s ≡ Some k → (k < p.count) × (p.start + k * p.step ≡ s)
place_is p s k low high more h = elim (cases_eq ((s - p.start) % p.step) 0) [
  | inl whole ↦ (let e : (s - p.start) / p.step ≡ k = some_same _ _ (sym (here whole) ∙ h) in
      let d : (s - p.start) / p.step * p.step + (s - p.start) % p.step ≡ s - p.start = div-add-mod' (s - p.start) p.step in
      let f : k * p.step ≡ s - p.start = ap (λ n. n * p.step) (sym e) ∙ (let g : (s - p.start) / p.step * p.step ≡ s - p.start = omega (arith, d, whole) in g) in (
        elim (cases_lt k p.count) [
          | inl less ↦ less
          | inr past ↦ absurd (let m : p.count * p.step ≤ k * p.step = mul-le-mul_right p.step past in omega (arith, m, f, high, low))
        ],
        omega (arith, f, low),
      ))
  | inr part ↦ absurd (none_some k (sym (there part) ∙ h))
]
  where
    here : (s - p.start) % p.step ≡ 0 → place_in_span p s ≡ Some ((s - p.start) / p.step)
    here whole = rw (eq-eqb ((s - p.start) % p.step) 0 whole) refl

    there : ((s - p.start) % p.step ≡ 0 → ⊥) → place_in_span p s ≡ None
    there part = rw (ne_eqb ((s - p.start) % p.step) 0 part) refl

    none_some : (k : ℕ) → None ≡ Some k → ⊥
    none_some k e = absurd (grind (arith, e))

some_of : (base : ℕ) (o : Option ℕ) (n : ℕ) → option_map (λ place. base + place) o ≡ Some n → (k : ℕ) × (o ≡ Some k) × (base + k ≡ n)
some_of base None n h = absurd (grind (arith, h))
some_of base (Some k) n h = (k, refl, some_same _ _ h)

pub position_is : (a base : ℕ) (spans : List Span) (n s : ℕ) → AreChained a spans → position_at base spans s ≡ Some n → (j : ℕ) × (n ≡ base + j) × (time_in_spans spans j ≡ Some s)
unfolding position_at time_in_spans AreChained
position_is a base [] n s chained h = absurd (grind (arith, h))
position_is a base (p ∷ ps) n s chained h = elim (inside p s) [
  | inl at ↦ (let w = some_of base (place_in_span p s) n (sym (first at) ∙ h) in
      let k = place_is p s w.0 at.0 at.1 chained.1 w.1 in
      (w.0, sym w.2, rw (lt-ltb w.0 p.count k.0) (ap Some k.1)))
  | inr out ↦ (let i = position_is (span_end p) (base + p.count) ps n s chained.2 (sym (later out) ∙ h) in
      let e : p.count + i.0 - p.count ≡ i.0 = omega arith in
      let m : n ≡ base + p.count + i.0 = i.1 in
      (p.count + i.0, omega (arith, m), rw (le-ltb (p.count + i.0) p.count (omega arith), e) i.2))
]
  where
    inside : (p : Span) (s : ℕ) → ((p.start ≤ s) × (s < span_end p)) ⊎ ((nat_le p.start s && nat_lt s (span_end p)) ≡ false)
    inside p s = elim (cases_lt s p.start) [
      | inl low ↦ inr (rw (lt-leb p.start s low) refl)
      | inr up ↦ elim (cases_lt s (span_end p)) [
        | inl high ↦ inl (up, high)
        | inr past ↦ inr (rw (le-ltb s (span_end p) past) (and_false (nat_le p.start s)))
      ]
    ]

    first : (p.start ≤ s) × (s < span_end p) → (if nat_le p.start s && nat_lt s (span_end p) then option_map (λ place. base + place) (place_in_span p s) else position_at (base + p.count) ps s) ≡ option_map (λ place. base + place) (place_in_span p s)
    first at = rw (le-leb p.start s at.0, lt-ltb s (span_end p) at.1) refl

    later : (nat_le p.start s && nat_lt s (span_end p)) ≡ false → (if nat_le p.start s && nat_lt s (span_end p) then option_map (λ place. base + place) (place_in_span p s) else position_at (base + p.count) ps s) ≡ position_at (base + p.count) ps s
    later out = rw out refl
