-- Rising numbers of all below a number that pass a test are those of the range that pass it.
use Rattle.std.proofs.Common.{◌≡◌, ◌∙◌, ◌⊎◌, ◌<◌, ◌≤◌, ◌+◌, ◌∷◌, [], ℕ, zero, suc, Bool, true, false, List, length, refl, sym, ap, inl, inr, arith}
use Rattle.std.proofs.lemmas.Bool.{cases_lt, false≢true}
use Rattle.std.specs.List.{filter, range_with_len}
use Rattle.std.specs.Prelude.{cond, slice_index}
use Rattle.tdf_places.specs.Places.{AllBelow, IsAmong, Rise}

module _ (p : ℕ → Bool) where
  -- the numbers that pass among n from one on
  record AreFrom (a n : ℕ) (numbers : List ℕ) : Type 0 where
    low : (i : ℕ) → i < length numbers → a ≤ slice_index numbers i
    high : (i : ℕ) → i < length numbers → slice_index numbers i < a + n
    rising : Rise numbers
    meant : (i : ℕ) → i < length numbers → p (slice_index numbers i) ≡ true
    all : (m : ℕ) → a ≤ m → m < a + n → p m ≡ true → IsAmong numbers m

  -- the first number does not pass
  others : (a n : ℕ) (numbers : List ℕ) → AreFrom a (suc n) numbers → p a ≡ false → AreFrom (a + 1) n numbers
  others a n numbers are other = record {
    low = λ i less. low i less (cases_lt a (slice_index numbers i));
    high = λ i less. (let h = are.high i less in omega (arith, h));
    rising = are.rising;
    meant = are.meant;
    all = λ m from below is. are.all m (omega (arith, from)) (omega (arith, below)) is;
  }
    where
      low : (i : ℕ) → i < length numbers → (a < slice_index numbers i) ⊎ (slice_index numbers i ≤ a) → a + 1 ≤ slice_index numbers i
      low i less (inl above) = omega (arith, above)
      low i less (inr most) =
          let l = are.low i less in
          let same : slice_index numbers i ≡ a = omega (arith, l, most) in
          absurd (false≢true (sym other ∙ ap p (sym same) ∙ are.meant i less))

  -- it does, and so it is the first of them
  first_is : (a n x : ℕ) (numbers : List ℕ) → AreFrom a (suc n) (x ∷ numbers) → p a ≡ true → x ≡ a
  first_is a n x numbers are is = let there : IsAmong (x ∷ numbers) a = are.all a (omega arith) (omega arith) is in go there.0 there.1 there.2
    where
      go : (i : ℕ) → i < length (x ∷ numbers) → slice_index (x ∷ numbers) i ≡ a → x ≡ a
      go zero less same = same
      go (suc i) less same = absurd (let l = are.low 0 (omega arith) in let r = are.rising 0 (suc i) (omega arith) less in omega (arith, l, r, same))

  after : (a n x : ℕ) (numbers : List ℕ) → AreFrom a (suc n) (x ∷ numbers) → x ≡ a → AreFrom (a + 1) n numbers
  after a n x numbers are same = record {
    low = λ i less. (let r = are.rising 0 (suc i) (omega arith) (omega (arith, less)) in omega (arith, r, same));
    high = λ i less. (let h = are.high (suc i) (omega (arith, less)) in omega (arith, h));
    rising = λ i j before less. are.rising (suc i) (suc j) (omega (arith, before)) (omega (arith, less));
    meant = λ i less. are.meant (suc i) (omega (arith, less));
    all = λ m from below is. (let there : IsAmong (x ∷ numbers) m = are.all m (omega (arith, from)) (omega (arith, below)) is in among m from there.0 there.1 there.2);
  }
    where
      among : (m : ℕ) → a + 1 ≤ m → (i : ℕ) → i < length (x ∷ numbers) → slice_index (x ∷ numbers) i ≡ m → IsAmong numbers m
      among m from zero less is = absurd (omega (arith, from, same, is))
      among m from (suc i) less is = (i, omega (arith, less), is)

  one_more : (n a : ℕ) → ((list : List ℕ) → AreFrom (a + 1) n list → list ≡ filter p (range_with_len (a + 1) n)) → (list : List ℕ) → AreFrom a (suc n) list
      → (b : Bool) → p a ≡ b → list ≡ cond b (a ∷ filter p (range_with_len (a + 1) n)) (filter p (range_with_len (a + 1) n))
  one_more n a before [] has true is = absurd (let there : IsAmong [] a = has.all a (omega arith) (omega arith) is in let less = there.1 in omega (arith, less))
  one_more n a before (x ∷ list) has true is =
      let same : x ≡ a = first_is a n x list has is in ap (λ k. k ∷ list) same ∙ ap (λ l. a ∷ l) (before list (after a n x list has same))
  one_more n a before list has false is = before list (others a n list has is)

  list_from : (n a : ℕ) (numbers : List ℕ) → AreFrom a n numbers → numbers ≡ filter p (range_with_len a n)
  list_from zero a [] are = refl
  list_from zero a (x ∷ numbers) are = absurd (let l = are.low 0 (omega arith) in let h = are.high 0 (omega arith) in omega (arith, l, h))
  list_from (suc n) a numbers are = one_more n a (λ list has. list_from n (a + 1) list has) numbers are (p a) refl

  pub rising_all : (n : ℕ) (numbers : List ℕ) → AllBelow n numbers → Rise numbers → ((i : ℕ) → i < length numbers → p (slice_index numbers i) ≡ true)
      → ((m : ℕ) → m < n → p m ≡ true → IsAmong numbers m) → numbers ≡ filter p (range_with_len 0 n)
  rising_all n numbers below rising meant all = list_from n 0 numbers (record {
    low = λ i less. omega arith;
    high = λ i less. (let w = below i less in omega (arith, w));
    rising = rising;
    meant = meant;
    all = λ m from less is. all m (omega (arith, less)) is;
  })
