-- Followed backwards, the needs of a firing that is left end at an actor whose samples are present.
use Rattle.std.proofs.Common.{◌≡◌, ℕ, zero, suc, ◌+◌, ◌-◌, ◌*◌, ◌/◌, ◌<◌, ◌≤◌, ◌⊎◌, inl, inr, slice_index, refl, sym, subst, arith}
use Rattle.std.proofs.Math.Nat.{le-div_iff_mul-le, div-lt_iff_lt-mul, mul-le-mul_right}
use Rattle.std.proofs.lemmas.Bool.{cases_eq, cases_lt}
use Rattle.tdf_streams.specs.Net.{Net, Period}
use Rattle.tdf_streams.specs.Grounds.{EndsIn, Takes}

one_more : (a b : ℕ) → (a + 1) * b ≡ a * b + b
one_more a b = grind arith

module _ {S V I : Type 0} (net : Net S V I) (p : Period I) (held : ℕ → ℕ) where
  -- an edge that actor m reads holds too little for it
  pub record Short (m : ℕ) : Type 0 where
    pub edge : ℕ
    pub inside : edge < net.edges
    pub reads : net.reader edge ≡ m
    pub few : held edge < slice_index p.reads edge

  -- over the first n edges
  abbrev pub ArePresent : ℕ → ℕ → Type 0
  ArePresent m n = (e : ℕ) → e < n → net.reader e ≡ m → slice_index p.reads e ≤ held e

  pub present_or_short : (m n : ℕ) → n ≤ net.edges → ArePresent m n ⊎ Short m
  present_or_short m zero inside = inl (λ e below reads. absurd (omega (arith, below)))
  present_or_short m (suc n) inside = elim (present_or_short m n (omega (arith, inside))) [
    | inr short ↦ inr short
    | inl before ↦ elim (cases_eq (net.reader n) m) [
      | inr apart ↦ inl (λ e below reads. elim (cases_eq e n) [
        | inl same ↦ absurd (apart (subst (λ k. net.reader k ≡ m) same reads))
        | inr other ↦ before e (omega (arith, below, other)) reads
      ])
      | inl reader ↦ elim (cases_lt (held n) (slice_index p.reads n)) [
        | inl few ↦ inr (record { edge = n; inside = omega (arith, inside); reads = reader; few = few })
        | inr enough ↦ inl (λ e below reads. elim (cases_eq e n) [
          | inl same ↦ subst (λ k. slice_index p.reads k ≤ held k) (sym same) enough
          | inr other ↦ before e (omega (arith, below, other)) reads
        ])
      ]
    ]
  ]

module _ {S V I : Type 0} (net : Net S V I) (delay : ℕ → ℕ) (p : Period I) (q done held : ℕ → ℕ) where
  -- where a period is, in the numbers of whole periods
  pub record IsAt : Type 0 where
    pub positive : (e : ℕ) → e < net.edges → (0 < slice_index p.writes e) × (0 < slice_index p.reads e)
    pub balanced : (e : ℕ) → e < net.edges → q (net.writer e) * slice_index p.writes e ≡ q (net.reader e) * slice_index p.reads e
    pub counts : (e : ℕ) → e < net.edges → held e + done (net.reader e) * slice_index p.reads e ≡ delay e + done (net.writer e) * slice_index p.writes e

  -- a firing that is left, and that actor m needs next
  pub record Lack (m : ℕ) : Type 0 where
    pub actor : ℕ
    pub firing : ℕ
    pub needed : Takes net delay p m (done m) actor firing
    pub later : done actor ≤ firing
    pub inside : firing < q actor

  pub record CanFire : Type 0 where
    pub actor : ℕ
    pub left : done actor < q actor
    pub present : (e : ℕ) → e < net.edges → net.reader e ≡ actor → slice_index p.reads e ≤ held e

  module _ (is : IsAt) where
    lack_at : (e : ℕ) → e < net.edges → done (net.reader e) < q (net.reader e) → held e < slice_index p.reads e → Lack (net.reader e)
    lack_at e inside left short = record {
      actor = net.writer e;
      firing = (done (net.reader e) * slice_index p.reads e + (slice_index p.reads e - 1) - delay e) / slice_index p.writes e;
      needed = record {
        edge = e;
        inside = inside;
        reads = refl;
        writes = refl;
        place = done (net.reader e) * slice_index p.reads e + (slice_index p.reads e - 1);
        low = omega arith;
        high = omega (arith, some.1);
        late = omega (arith, c, some.1, short);
        made = refl;
      };
      later = (le-div_iff_mul-le some.0).1 (omega (arith, c, some.1, short));
      inside = (div-lt_iff_lt-mul some.0).1 (omega (arith, b, whole, n, some.1, c, short));
    }
      where
        some : (0 < slice_index p.writes e) × (0 < slice_index p.reads e)
        some = is.positive e inside

        c : held e + done (net.reader e) * slice_index p.reads e ≡ delay e + done (net.writer e) * slice_index p.writes e
        c = is.counts e inside

        b : q (net.writer e) * slice_index p.writes e ≡ q (net.reader e) * slice_index p.reads e
        b = is.balanced e inside

        n : (done (net.reader e) + 1) * slice_index p.reads e ≡ done (net.reader e) * slice_index p.reads e + slice_index p.reads e
        n = one_more (done (net.reader e)) (slice_index p.reads e)

        whole : (done (net.reader e) + 1) * slice_index p.reads e ≤ q (net.reader e) * slice_index p.reads e
        whole = mul-le-mul_right (slice_index p.reads e) (omega (arith, left))

    lack_of : (m : ℕ) → Short net p held m → done m < q m → Lack m
    lack_of m short left = subst (λ k. Lack k) short.reads (lack_at short.edge short.inside (subst (λ k. done k < q k) (sym short.reads) left) short.few)

    pub some_can_fire : (f m a : ℕ) → EndsIn net delay p f m a → done m ≤ a → a < q m → CanFire
    unfolding EndsIn
    some_can_fire zero m a ends low high = absurd ends
    some_can_fire (suc f) m a ends low high = elim (cases_lt (done m) a) [
      | inl before ↦ some_can_fire f m (a - 1) (ends m (a - 1) (inl (refl, omega (arith, before)))) (omega (arith, before)) (omega (arith, before, high))
      | inr here ↦ (let same : a ≡ done m = omega (arith, low, here) in let left : done m < q m = subst (λ k. k < q m) same high in elim (present_or_short net p held m net.edges (omega arith)) [
        | inl present ↦ record { actor = m; left = left; present = present }
        | inr short ↦ (let lack = lack_of m short left in
            some_can_fire f lack.actor lack.firing (ends lack.actor lack.firing (inr (subst (λ k. Takes net delay p m k lack.actor lack.firing) (sym same) lack.needed))) lack.later lack.inside)
      ])
    ]
