-- Where elements stand.
use Rattle.std.proofs.Common.{◌≡◌, ◌∙◌, ℕ, zero, suc, ◌+◌, ◌*◌, ◌<◌, ◌≤◌, Bool, List, [], ◌∷◌, Option, Some, None, length, refl, sym, ap, subst, arith, pos, ◌+ℤ◌, ◌-ℤ◌, ◌*ℤ◌}
use Rattle.std.proofs.lemmas.Int.{ints}
use Rattle.std.proofs.lemmas.List.Quantifiers.{position-Some}
use Rattle.std.specs.Cmp.Lexicographic.{pointwise}
use Rattle.std.specs.Option.{option_map}
use Rattle.std.specs.Prelude.{min, nat_eq, position, slice_index}
use Rattle.tdf_expr_compiler.specs.machine.Indexed.{AreTurns, IsSpotOf, IsRisen, IsFallen, turn_in, turn_or_none}
use Rattle.tdf_expr_machine.specs.declared.spots.Spot.{Spot}
use Rattle.tdf_expr_machine.specs.declared.spots.Spot.TheVariants as spot
use Rattle.tdf_expr_semantics.specs.Value.{turn_of, turn_number}
use Rattle.tdf_expr_symbols.specs.Scope.{OpenLoop, loop_place}
use Rattle.tdf_lang_tree.specs.declared.expr.Index.TheVariants as index

within : {A : Type 0} (p : A → Bool) (xs : List A) (n : ℕ) → position p xs ≡ Some n → n < length xs
within p [] n e = absurd cc
within p (x ∷ xs) n e = (position-Some p (x ∷ xs) n x e).0

-- the place of a loop variable is one of them
pub place_within : (loops : List OpenLoop) (name : List ℕ) (depth : ℕ) → loop_place loops name ≡ Some depth → depth < length loops
place_within loops name depth e = within (λ l. pointwise nat_eq name l.name) loops depth e

pub turn_is : (loops : List OpenLoop) (turns name : List ℕ) (depth : ℕ) → loop_place loops name ≡ Some depth → turn_in loops turns name ≡ slice_index turns depth
turn_is loops turns name depth e = ap (λ o. turn_or_none (option_map (slice_index turns) o)) e

pub turn_none : (loops : List OpenLoop) (turns name : List ℕ) → loop_place loops name ≡ None → turn_in loops turns name ≡ 0
turn_none loops turns name e = ap (λ o. turn_or_none (option_map (slice_index turns) o)) e

pub risen_some : (loops : List OpenLoop) (name : List ℕ) (depth at times less : ℕ) → loop_place loops name ≡ Some depth
    → IsRisen loops name at times less (spot.Rise at times (min depth 8192) less)
risen_some loops name depth at times less e = record {
  stands = λ turns fit low.
      let inside : depth < length loops = place_within loops name depth e in
      let same : min depth 8192 ≡ depth = omega (arith, inside, fit.few) in
      let turn : turn_in loops turns name ≡ slice_index turns depth = turn_is loops turns name depth e in
      let less_at : less ≤ at + times * slice_index turns depth = subst (λ t. less ≤ at + times * t) turn (omega (arith, low)) in
      rw (same, turn) ((omega (arith, inside, fit.long), less_at), refl);
}

pub risen_none : (loops : List OpenLoop) (name : List ℕ) (at times less : ℕ) → loop_place loops name ≡ None
    → IsRisen loops name at times less (spot.Fixed at)
risen_none loops name at times less e = record {
  stands = λ turns fit low.
      let turn : turn_in loops turns name ≡ 0 = turn_none loops turns name e in
      let zero_times : times * 0 ≡ 0 = omega arith in
      let none : times * turn_in loops turns name ≡ 0 = ap (λ t. times * t) turn ∙ zero_times in
      (tt, omega (arith, none, low));
}

pub fallen_some : (loops : List OpenLoop) (name : List ℕ) (depth at : ℕ) → loop_place loops name ≡ Some depth
    → IsFallen loops name at (spot.Fall at (min depth 8192))
fallen_some loops name depth at e = record {
  stands = λ turns fit low.
      let inside : depth < length loops = place_within loops name depth e in
      let same : min depth 8192 ≡ depth = omega (arith, inside, fit.few) in
      let turn : turn_in loops turns name ≡ slice_index turns depth = turn_is loops turns name depth e in
      let less_at : slice_index turns depth ≤ at = subst (λ t. t ≤ at) turn low in
      rw (same, turn) ((omega (arith, inside, fit.long), less_at), refl);
}

pub fallen_none : (loops : List OpenLoop) (name : List ℕ) (at : ℕ) → loop_place loops name ≡ None
    → IsFallen loops name at (spot.Fixed at)
fallen_none loops name at e = record {
  stands = λ turns fit low.
      let turn : turn_in loops turns name ≡ 0 = turn_none loops turns name e in
      (tt, omega (arith, turn));
}

pub ruleset spot_laws = (risen_some, risen_none, fallen_some, fallen_none)

number_is : (o : Option ℕ) → turn_number o ≡ pos (turn_or_none o)
number_is None = refl
number_is (Some n) = refl

-- the turn of a loop variable is small
pub turn_small : (loops : List OpenLoop) (turns name : List ℕ) → AreTurns loops turns → turn_in loops turns name < 4096
turn_small loops turns name fit = go (loop_place loops name) refl
  where
    go : (o : Option ℕ) → loop_place loops name ≡ o → turn_in loops turns name < 4096
    go None e = omega (arith, turn_none loops turns name e)
    go (Some d) e = omega (arith, turn_is loops turns name d e, fit.small d (place_within loops name d e))

-- a factor that is cut off at 8192 gives the same small product
pub same_product : (c t k : ℕ) → c * t ≡ k → k < 8192 → min c 8192 * t ≡ k
same_product c zero k e small = omega (arith, e)
same_product c (suc t) k e small =
    let more : c * suc t ≡ c + c * t = omega arith in
    let same : min c 8192 ≡ c = omega (arith, more, e, small) in
    ap (λ n. n * suc t) same ∙ e

pub spot_int : (loops : List OpenLoop) (at n : ℕ) → IsSpotOf loops at (index.Int n) (spot.Fixed (at + min n 8192))
spot_int loops at n = record {
  stands = λ turns fit k is few.
      let same : n ≡ k = omega (arith, ints, is) in
      (tt, omega (arith, same, few));
}

pub spot_var : (loops : List OpenLoop) (at : ℕ) (name : List ℕ) (s : Spot) → IsRisen loops name at 1 0 s → IsSpotOf loops at (index.Var name) s
spot_var loops at name s risen = record {
  stands = λ turns fit k is few.
      let same : turn_in loops turns name ≡ k = omega (arith, ints, sym (number_is (turn_of loops turns name)) ∙ is) in
      let there = risen.stands turns fit (omega arith) in
      (there.0, there.1 ∙ omega (arith, same));
}

pub spot_plus : (loops : List OpenLoop) (at n : ℕ) (name : List ℕ) (s : Spot) → IsRisen loops name (at + min n 8192) 1 0 s → IsSpotOf loops at (index.Plus name n) s
spot_plus loops at n name s risen = record {
  stands = λ turns fit k is few.
      let same : turn_in loops turns name + n ≡ k = omega (arith, ints, ap (λ z. z +ℤ pos n) (sym (number_is (turn_of loops turns name))) ∙ is) in
      let there = risen.stands turns fit (omega arith) in
      (there.0, there.1 ∙ omega (arith, same, few));
}

pub spot_minus : (loops : List OpenLoop) (at n : ℕ) (name : List ℕ) (s : Spot) → IsRisen loops name at 1 (min n 8192) s → IsSpotOf loops at (index.Minus name n) s
spot_minus loops at n name s risen = record {
  stands = λ turns fit k is few.
      let same : turn_in loops turns name ≡ k + n = omega (arith, ints, ap (λ z. z -ℤ pos n) (sym (number_is (turn_of loops turns name))) ∙ is) in
      let small = turn_small loops turns name fit in
      let there = risen.stands turns fit (omega (arith, same)) in
      (there.0, there.1 ∙ omega (arith, same, small));
}

pub spot_from : (loops : List OpenLoop) (at n : ℕ) (name : List ℕ) (s : Spot) → IsFallen loops name (at + min n 8192) s → IsSpotOf loops at (index.From n name) s
spot_from loops at n name s fallen = record {
  stands = λ turns fit k is few.
      let same : n ≡ k + turn_in loops turns name = omega (arith, ints, ap (λ z. pos n -ℤ z) (sym (number_is (turn_of loops turns name))) ∙ is) in
      let small = turn_small loops turns name fit in
      let there = fallen.stands turns fit (omega (arith, same, small, few)) in
      (there.0, there.1 ∙ omega (arith, same, small, few));
}

product_is : (c t : ℕ) (k : ℕ) → pos c *ℤ pos t ≡ pos k → c * t ≡ k
product_is c t k e = omega (arith, ints, e)

sum_is : (c t d : ℕ) (k : ℕ) → pos c *ℤ pos t +ℤ pos d ≡ pos k → c * t + d ≡ k
sum_is c t d k e = omega (arith, ints, e)

pub spot_times : (loops : List OpenLoop) (at c : ℕ) (name : List ℕ) (s : Spot) → IsRisen loops name at (min c 8192) 0 s → IsSpotOf loops at (index.Times c name) s
spot_times loops at c name s risen = record {
  stands = λ turns fit k is few.
      let t = turn_in loops turns name in
      let same : c * t ≡ k = product_is c t k (ap (λ z. pos c *ℤ z) (sym (number_is (turn_of loops turns name))) ∙ is) in
      let cut : min c 8192 * t ≡ k = same_product c t k same (omega (arith, few)) in
      let there = risen.stands turns fit (omega arith) in
      (there.0, there.1 ∙ omega (arith, cut));
}

pub spot_times_plus : (loops : List OpenLoop) (at c d : ℕ) (name : List ℕ) (s : Spot) → IsRisen loops name (at + min d 8192) (min c 8192) 0 s
    → IsSpotOf loops at (index.TimesPlus c name d) s
spot_times_plus loops at c d name s risen = record {
  stands = λ turns fit k is few.
      let t = turn_in loops turns name in
      let same : c * t + d ≡ k = sum_is c t d k (ap (λ z. pos c *ℤ z +ℤ pos d) (sym (number_is (turn_of loops turns name))) ∙ is) in
      let cut : min c 8192 * t ≡ c * t = same_product c t (c * t) refl (omega (arith, same, few)) in
      let there = risen.stands turns fit (omega arith) in
      (there.0, there.1 ∙ omega (arith, cut, same, few));
}

pub ruleset index_laws = (spot_int, spot_var, spot_plus, spot_minus, spot_from, spot_times, spot_times_plus)
