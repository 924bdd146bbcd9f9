-- A plan has as many entries of an actor as its count says.
use Rattle.std.proofs.Common.{◌≡◌, ◌∙◌, ℕ, zero, suc, ◌+◌, ◌<◌, ◌≤◌, Bool, true, false, List, [], ◌∷◌, Some, nat_eq, inl, inr, refl, sym, ap, subst, arith}
use Rattle.std.proofs.lemmas.Bool.{cases_eq, cases_lt, eq-eqb, ne_eqb, lt-ltb}
use Rattle.std.proofs.lemmas.List.Sums.{sum_by-cons}
use Rattle.std.specs.List.{count_by}
use Rattle.std.specs.Prelude.{◌&&◌, cond, if◌then◌else◌, slice_get, slice_index}
use Rattle.tdf_streams.proofs.Api.{entry_active}
use Rattle.tdf_graph.specs.declared.actors.Edge.{Edge}
use Rattle.tdf_schedule.specs.Plan.{IsPlan, is_firing}
use Rattle.tdf_schedule.specs.declared.entry.Entry.{Entry}

abbrev weight : Bool → ℕ
weight b = cond b 1 0

-- the firings of an actor whose number is below n
below : (m n : ℕ) → List Entry → ℕ
below m zero es = 0
below m (suc n) es = below m n es + count_by (is_firing m n) es

below_nil : (m n : ℕ) → below m n [] ≡ 0
unfolding below
below_nil m zero = refl
below_nil m (suc n) = let r = below_nil m n in let z : count_by (is_firing m n) [] ≡ 0 = refl in omega (arith, r, z)

and_false : (b : Bool) → (b && false) ≡ false
and_false true = refl
and_false false = refl

one_off : (m n : ℕ) (x : Entry) (es : List Entry) → (x.index ≡ n → ⊥) → count_by (is_firing m n) (x ∷ es) ≡ count_by (is_firing m n) es
one_off m n x es off =
    let s = sum_by-cons (λ z. cond {A = ℕ} (is_firing m n z) 1 0) x es in
    let w : cond {A = ℕ} (is_firing m n x) 1 0 ≡ 0 = ap weight (ap (λ b. nat_eq x.actor m && b) (ne_eqb x.index n off) ∙ and_false (nat_eq x.actor m)) in omega (arith, s, w)

other_off : (m n : ℕ) (x : Entry) (es : List Entry) → (x.actor ≡ m → ⊥) → count_by (is_firing m n) (x ∷ es) ≡ count_by (is_firing m n) es
other_off m n x es off =
    let s = sum_by-cons (λ z. cond {A = ℕ} (is_firing m n z) 1 0) x es in
    let w : cond {A = ℕ} (is_firing m n x) 1 0 ≡ 0 = ap weight (ap (λ b. b && nat_eq x.index n) (ne_eqb x.actor m off)) in omega (arith, s, w)

one_on : (m n : ℕ) (x : Entry) (es : List Entry) → x.actor ≡ m → x.index ≡ n → count_by (is_firing m n) (x ∷ es) ≡ 1 + count_by (is_firing m n) es
one_on m n x es is on =
    let s = sum_by-cons (λ z. cond {A = ℕ} (is_firing m n z) 1 0) x es in
    let w : cond {A = ℕ} (is_firing m n x) 1 0 ≡ 1 = ap weight (ap (λ b. b && nat_eq x.index n) (eq-eqb x.actor m is) ∙ eq-eqb x.index n on) in omega (arith, s, w)

-- one entry more
below_past : (m n : ℕ) (x : Entry) (es : List Entry) → n ≤ x.index → below m n (x ∷ es) ≡ below m n es
unfolding below
below_past m zero x es past = refl
below_past m (suc n) x es past =
    let r = below_past m n x es (omega (arith, past)) in let o = one_off m n x es (λ e. omega (arith, e, past)) in omega (arith, r, o)

below_other : (m n : ℕ) (x : Entry) (es : List Entry) → (x.actor ≡ m → ⊥) → below m n (x ∷ es) ≡ below m n es
unfolding below
below_other m zero x es off = refl
below_other m (suc n) x es off = let r = below_other m n x es off in let o = other_off m n x es off in omega (arith, r, o)

below_more : (m n : ℕ) (x : Entry) (es : List Entry) → x.actor ≡ m → x.index < n → below m n (x ∷ es) ≡ 1 + below m n es
unfolding below
below_more m zero x es is inside = absurd (omega (arith, inside))
below_more m (suc n) x es is inside = elim (cases_eq x.index n) [
  | inl same ↦ (let r = below_past m n x es (omega (arith, same)) in let o = one_on m n x es is same in omega (arith, r, o))
  | inr apart ↦ (let l : x.index < n = elim (cases_lt x.index n) [ inl low ↦ low | inr high ↦ absurd (apart (omega (arith, high, inside))) ] in
      let r = below_more m n x es is l in let o = one_off m n x es apart in omega (arith, r, o))
]

-- the entries of an actor are its firings
all_below : (m n : ℕ) (es : List Entry) → ((i : ℕ) (x : Entry) → slice_get es i ≡ Some x → x.actor ≡ m → x.index < n) → count_by (λ (x : Entry). nat_eq x.actor m) es ≡ below m n es
all_below m n [] inside = sym (below_nil m n)
all_below m n (x ∷ es) inside =
    let s = sum_by-cons (λ (z : Entry). cond {A = ℕ} (nat_eq z.actor m) 1 0) x es in
    let r = all_below m n es (λ i y at. inside (suc i) y at) in
    elim (cases_eq x.actor m) [
      | inl is ↦ (let w : cond {A = ℕ} (nat_eq x.actor m) 1 0 ≡ 1 = ap weight (eq-eqb x.actor m is) in
          let b = below_more m n x es is (inside 0 x refl is) in omega (arith, s, r, w, b))
      | inr off ↦ (let w : cond {A = ℕ} (nat_eq x.actor m) 1 0 ≡ 0 = ap weight (ne_eqb x.actor m off) in
          let b = below_other m n x es off in omega (arith, s, r, w, b))
    ]

module _ (edges : List Edge) (pace : ℕ → ℕ) (counts : List ℕ) (entries : List Entry) (plan : IsPlan edges pace counts entries) where
  below_all : (m n : ℕ) → n ≤ slice_index counts m → below m n entries ≡ n
  unfolding below
  below_all m zero within = refl
  below_all m (suc n) within =
      let r = below_all m n (omega (arith, within)) in
      let o : count_by (is_firing m n) entries ≡ 1 = plan.complete m n ∙ ap (λ (b : Bool). if b then 1 else 0) (lt-ltb n (slice_index counts m) (omega (arith, within))) in omega (arith, r, o)

  -- a plan has as many entries of an actor as its count says
  pub plan_counts : (m : ℕ) → count_by (λ (x : Entry). nat_eq x.actor m) entries ≡ slice_index counts m
  plan_counts m =
      let a = all_below m (slice_index counts m) entries (λ i x at is. subst (λ k. x.index < slice_index counts k) is (entry_active edges pace counts entries plan i x at)) in
      a ∙ below_all m (slice_index counts m) (omega arith)
