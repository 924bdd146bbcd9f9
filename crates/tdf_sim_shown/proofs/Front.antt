-- What is due before a time is at the front of a plan.
use Rattle.std.proofs.Common.{◌≡◌, ◌∙◌, ◌&&◌, ◌<◌, ◌≤◌, ◌+◌, ◌-◌, ℕ, zero, suc, Bool, true, false, cond, nat_eq, nat_lt, List, [], ◌∷◌, Some, length, take, slice_get, inl, inr, refl, sym, ap, arith}
use Rattle.std.proofs.lemmas.Bool.{cases_lt, le-ltb, lt-ltb, ltb-false, or_left}
use Rattle.std.proofs.lemmas.List.Sums.{sum_by-cons}
use Rattle.std.specs.List.{count_by}
use Rattle.tdf_bind.specs.declared.model.Flat.{Flat}
use Rattle.tdf_sim_resumed.specs.Below.{ClusterOf, IsClusterOf, due_before}
use Rattle.tdf_schedule.specs.Plan.{done, is_earlier}
use Rattle.tdf_schedule.specs.declared.entry.Entry.{Entry}
use Rattle.tdf_streams.proofs.Api.{none_some, some_same}

abbrev weight : Bool → ℕ
weight b = cond b 1 0

apart : (b : Bool) → b ≡ true → b ≡ false → ⊥
apart b on off = absurd cc

and_on : (a b : Bool) → b ≡ true → (a && b) ≡ a
and_on true b on = on
and_on false b on = refl

and_off : (a b : Bool) → b ≡ false → (a && b) ≡ false
and_off true b off = off
and_off false b off = refl

module _ {X : Type 0} (p q : X → Bool) where
  none_pass : (xs : List X) → ((i : ℕ) (a : X) → slice_get xs i ≡ Some a → p a ≡ false) → (count_by p xs ≡ 0) × (count_by (λ x. q x && p x) xs ≡ 0)
  none_pass [] none = (refl, refl)
  none_pass (x ∷ xs) none =
      let r = none_pass xs (λ i a at. none (suc i) a at) in
      let s : count_by p (x ∷ xs) ≡ weight (p x) + count_by p xs = sum_by-cons (λ z. cond (p z) 1 0) x xs in
      let t : count_by (λ z. q z && p z) (x ∷ xs) ≡ weight (q x && p x) + count_by (λ z. q z && p z) xs = sum_by-cons (λ z. cond (q z && p z) 1 0) x xs in
      let o : weight (p x) ≡ 0 = ap weight (none 0 x refl) in
      let w : weight (q x && p x) ≡ 0 = ap weight (and_off (q x) (p x) (none 0 x refl)) in
      let a = r.0 in let b = r.1 in (omega (arith, s, o, a), omega (arith, t, w, b))

  -- where those that pass come before those that don't, the front that passes has all of them
  pub front_counted : (xs : List X) → ((i j : ℕ) (a b : X) → i < j → slice_get xs i ≡ Some a → slice_get xs j ≡ Some b → p b ≡ true → p a ≡ true)
      → count_by q (take (count_by p xs) xs) ≡ count_by (λ x. q x && p x) xs
  front_counted [] leads = refl
  front_counted (x ∷ xs) leads = go (front_counted xs (λ i j a b less a_at b_at on. leads (suc i) (suc j) a b (omega (arith, less)) a_at b_at on)) (p x) refl
    where
      s : count_by p (x ∷ xs) ≡ weight (p x) + count_by p xs
      s = sum_by-cons (λ z. cond (p z) 1 0) x xs

      t : count_by (λ z. q z && p z) (x ∷ xs) ≡ weight (q x && p x) + count_by (λ z. q z && p z) xs
      t = sum_by-cons (λ z. cond (q z && p z) 1 0) x xs

      stays : p x ≡ false → (i : ℕ) (a : X) → slice_get (x ∷ xs) i ≡ Some a → p a ≡ false
      stays off zero a at = sym (ap p (some_same x a at)) ∙ off
      stays off (suc i) a at = go_on (p a) refl
        where
          go_on : (b : Bool) → p a ≡ b → p a ≡ false
          go_on true on = absurd (apart (p x) (leads 0 (suc i) x a (omega arith) refl at on) off)
          go_on false is = is

      go : count_by q (take (count_by p xs) xs) ≡ count_by (λ z. q z && p z) xs → (b : Bool) → p x ≡ b → count_by q (take (count_by p (x ∷ xs)) (x ∷ xs)) ≡ count_by (λ z. q z && p z) (x ∷ xs)
      go rest true on =
          let o : weight (p x) ≡ 1 = ap weight on in
          let n : count_by p (x ∷ xs) ≡ suc (count_by p xs) = omega (arith, s, o) in
          let e = ap (λ k. count_by q (take k (x ∷ xs))) n in
          let h : count_by q (take (suc (count_by p xs)) (x ∷ xs)) ≡ weight (q x) + count_by q (take (count_by p xs) xs) = sum_by-cons (λ z. cond (q z) 1 0) x (take (count_by p xs) xs) in
          let w : weight (q x && p x) ≡ weight (q x) = ap weight (and_on (q x) (p x) on) in omega (arith, e, h, w, t, rest)
      go rest false off =
          let r = none_pass (x ∷ xs) (stays off) in ap (λ k. count_by q (take k (x ∷ xs))) r.0 ∙ sym r.1

module _ {X : Type 0} (p : X → Bool) where
  -- the one after that front doesn't pass
  pub front_past : (xs : List X) (y : X) → ((i j : ℕ) (a b : X) → i < j → slice_get xs i ≡ Some a → slice_get xs j ≡ Some b → p b ≡ true → p a ≡ true) → slice_get xs (count_by p xs) ≡ Some y → p y ≡ false
  front_past [] y leads at = none_some y at
  front_past (x ∷ xs) y leads at = go (λ there. front_past xs y (λ i j a b less a_at b_at on. leads (suc i) (suc j) a b (omega (arith, less)) a_at b_at on) there) (p x) refl
    where
      s : count_by p (x ∷ xs) ≡ weight (p x) + count_by p xs
      s = sum_by-cons (λ z. cond (p z) 1 0) x xs

      go : (slice_get xs (count_by p xs) ≡ Some y → p y ≡ false) → (b : Bool) → p x ≡ b → p y ≡ false
      go rest true on =
          let o : weight (p x) ≡ 1 = ap weight on in
          let n : count_by p (x ∷ xs) ≡ suc (count_by p xs) = omega (arith, s, o) in
          rest (sym (ap (slice_get (x ∷ xs)) n) ∙ at)
      go rest false off = by_place (count_by p (x ∷ xs)) at (p y) refl
        where
          by_place : (k : ℕ) → slice_get (x ∷ xs) k ≡ Some y → (b : Bool) → p y ≡ b → p y ≡ false
          by_place zero there b is = sym (ap p (some_same x y there)) ∙ off
          by_place (suc k) there true on = absurd (apart (p x) (leads 0 (suc k) x y (omega arith) refl there on) off)
          by_place (suc k) there false is = is

-- an offset is below what is left of the time, where it comes before it
same_test : (since time offset : ℕ) → nat_lt offset (time - since) ≡ nat_lt (since + offset) time
same_test since time offset = elim (cases_lt (since + offset) time) [
  | inl early ↦ lt-ltb offset (time - since) (omega (arith, early)) ∙ sym (lt-ltb (since + offset) time early)
  | inr late ↦ le-ltb offset (time - since) (omega (arith, late)) ∙ sym (le-ltb (since + offset) time late)
]

done_within : (es : List Entry) (i m : ℕ) → done es i m ≤ done es (length es) m
unfolding done
done_within [] zero m = omega arith
done_within [] (suc i) m = omega arith
done_within (x ∷ es) zero m = omega arith
done_within (x ∷ es) (suc i) m =
    let a = sum_by-cons (λ (z : Entry). cond {A = ℕ} (nat_eq z.actor m) 1 0) x (take i es) in
    let b = sum_by-cons (λ (z : Entry). cond {A = ℕ} (nat_eq z.actor m) 1 0) x (take (length es) es) in
    let r = done_within es i m in omega (arith, a, b, r)

module _ (flat : Flat) (c : ClusterOf) (of : IsClusterOf flat c) where
  offsets_rise : (i j : ℕ) (x y : Entry) → i < j → slice_get c.entries i ≡ Some x → slice_get c.entries j ≡ Some y → x.offset ≤ y.offset
  offsets_rise i j x y less x_at y_at = go (nat_lt y.offset x.offset) refl
    where
      sorted : is_earlier y x ≡ false
      sorted = of.planned.plan_is.plan_is.planned.planned.sorted i j x y less (ap (λ l. slice_get l i) of.planned.entries_are ∙ x_at) (ap (λ l. slice_get l j) of.planned.entries_are ∙ y_at)

      go : (b : Bool) → nat_lt y.offset x.offset ≡ b → x.offset ≤ y.offset
      go true below = absurd (apart (is_earlier y x) (or_left (nat_lt y.offset x.offset) _ below) sorted)
      go false above = ltb-false y.offset x.offset above

  before_leads : (since time : ℕ) (i j : ℕ) (x y : Entry) → i < j → slice_get c.entries i ≡ Some x → slice_get c.entries j ≡ Some y → nat_lt (since + y.offset) time ≡ true → nat_lt (since + x.offset) time ≡ true
  before_leads since time i j x y less x_at y_at before = elim (cases_lt (since + y.offset) time) [
    | inl below ↦ (let rise = offsets_rise i j x y less x_at y_at in lt-ltb (since + x.offset) time (omega (arith, rise, below)))
    | inr past ↦ absurd (apart (nat_lt (since + y.offset) time) before (le-ltb (since + y.offset) time past))
  ]

  -- how often an actor has fired before a time
  pub fired_before : (since time m : ℕ) → c.place ≡ due_before since time c.entries → count_by (λ (x : Entry). nat_eq x.actor m && nat_lt x.offset (time - since)) c.entries ≡ done c.entries c.place m
  unfolding done
  fired_before since time m place =
      (λ i. count_by (λ (x : Entry). nat_eq x.actor m && same_test since time x.offset i) c.entries)
      ∙ sym (front_counted (λ (x : Entry). nat_lt (since + x.offset) time) (λ (x : Entry). nat_eq x.actor m) c.entries (before_leads since time))
      ∙ sym (ap (λ k. count_by (λ (x : Entry). nat_eq x.actor m) (take k c.entries)) place)

  -- the next entry is not due before it
  pub next_late : (since time : ℕ) (x : Entry) → c.place ≡ due_before since time c.entries → slice_get c.entries c.place ≡ Some x → time ≤ since + x.offset
  next_late since time x place at =
      ltb-false (since + x.offset) time (front_past (λ (y : Entry). nat_lt (since + y.offset) time) c.entries x (before_leads since time) (sym (ap (slice_get c.entries) place) ∙ at))

  -- it fires no more often than in the whole period
  pub few_fired : (place m : ℕ) → done c.entries place m ≤ done c.entries (length c.entries) m
  few_fired place m = done_within c.entries place m
