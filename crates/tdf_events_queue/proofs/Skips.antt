-- Processes that aren't triggered are passed over.
use Rattle.std.proofs.Common.{◌≡◌, ℕ, zero, suc, ◌+◌, ◌-◌, ◌<◌, ◌≤◌, Bool, true, false, List, length, slice_get, slice_index, Some, refl, ap, sym, ◌∙◌, subst, inl, inr, arith, add-one}
use Rattle.std.proofs.lemmas.Bool.{cases_lt, true≢false, false_from_ne_true}
use Rattle.std.proofs.lemmas.List.{get_or_past}
use Rattle.std.proofs.lemmas.Option.{slice_get_within, get_or_from_slice_get, slice_get-get_or}
use Rattle.tdf_events_queue.specs.Sets.{is_on, AreRisingFlags}
use Rattle.tdf_events_queue.specs.Evaluation.{evaluated, ran_first}

-- the number behind the last of the first j
unfoldable pub behind : List ℕ → ℕ → ℕ
behind list zero = 0
behind list (suc j) = slice_index list j + 1

module _ {S : Type 0} (run : ℕ → S → S) where
  last_off : (flags : List Bool) (n : ℕ) (s : S) → is_on flags n ≡ false → evaluated run flags (suc n) s ≡ evaluated run flags n s
  unfolding evaluated
  last_off flags n s off = rw off refl

  last_on : (flags : List Bool) (n : ℕ) (s : S) → is_on flags n ≡ true → evaluated run flags (n + 1) s ≡ run n (evaluated run flags n s)
  unfolding evaluated
  last_on flags n s on = rw (add-one n, on) refl

  passed : (flags : List Bool) (a d : ℕ) (s : S) → ((k : ℕ) → a ≤ k → k < a + d → is_on flags k ≡ false) → evaluated run flags (a + d) s ≡ evaluated run flags a s
  passed flags a zero s off = ap (λ n. evaluated run flags n s) (omega arith)
  passed flags a (suc d) s off = let e : a + suc d ≡ suc (a + d) = omega arith in
      ap (λ n. evaluated run flags n s) e ∙ last_off flags (a + d) s (off (a + d) (omega arith) (omega arith)) ∙ passed flags a d s (λ k low high. off k low (omega (arith, high)))

  passed_to : (flags : List Bool) (a b : ℕ) (s : S) → a ≤ b → ((k : ℕ) → a ≤ k → k < b → is_on flags k ≡ false) → evaluated run flags b s ≡ evaluated run flags a s
  passed_to flags a b s up off = let e : b ≡ a + (b - a) = omega (arith, up) in ap (λ n. evaluated run flags n s) e ∙ passed flags a (b - a) s (λ k low high. off k low (omega (arith, up, high)))

  module _ (flags : List Bool) (list : List ℕ) (rising : AreRisingFlags flags list) where
    -- what lies behind the first j of the list
    behind_low : (j p : ℕ) → slice_get list j ≡ Some p → behind list j ≤ p
    unfolding behind
    behind_low zero p at = omega arith
    behind_low (suc j) p at = let within : suc j < length list = slice_get_within list (suc j) p at in
        let before : slice_get list j ≡ Some (slice_index list j) = slice_get-get_or list j 0 (omega (arith, within)) in
        let less : slice_index list j < p = rising.rising j (suc j) _ p (omega arith) before at in omega (arith, less)

    -- a number on the list before place j lies below `behind`
    below_behind : (j i k : ℕ) → i < j → j ≤ length list → slice_get list i ≡ Some k → k < behind list j
    unfolding behind
    below_behind zero i k less within at = absurd (omega (arith, less))
    below_behind (suc j) i k less within at = let last : slice_get list j ≡ Some (slice_index list j) = slice_get-get_or list j 0 (omega (arith, within)) in
        elim (cases_lt i j) [
          | inl earlier ↦ (let up : k < slice_index list j = rising.rising i j k _ earlier at last in omega (arith, up))
          | inr here ↦ (let same : i ≡ j = omega (arith, here, less) in let is : slice_index list j ≡ k = get_or_from_slice_get list j k 0 (subst (λ q. slice_get list q ≡ Some k) same at) in omega (arith, is))
        ]

    off_between : (j b k : ℕ) → j ≤ length list → ((i : ℕ) → j ≤ i → slice_get list i ≡ Some k → b ≤ k) → behind list j ≤ k → k < b → is_on flags k ≡ false
    off_between j b k within later low high = false_from_ne_true _ (λ on. (let w = rising.all k on in elim (cases_lt w.0 j) [
      | inl earlier ↦ (let under : k < behind list j = below_behind j w.0 k earlier within w.1 in absurd (omega (arith, under, low)))
      | inr at ↦ (let over : b ≤ k = later w.0 at w.1 in absurd (omega (arith, over, high)))
    ]))

    behind_next : (j p : ℕ) → slice_get list j ≡ Some p → behind list (suc j) ≡ p + 1
    unfolding behind
    behind_next j p at = ap (λ n. n + 1) (get_or_from_slice_get list j p 0 at)

    under : (p : ℕ) → is_on flags p ≡ true → p < length flags
    under p on = elim (cases_lt p (length flags)) [ inl less ↦ less | inr past ↦ absurd (true≢false (sym on ∙ get_or_past flags p false past)) ]

    behind_inside : (j : ℕ) → j ≤ length list → behind list j ≤ length flags
    unfolding behind
    behind_inside zero within = omega arith
    behind_inside (suc j) within = let last : slice_get list j ≡ Some (slice_index list j) = slice_get-get_or list j 0 (omega (arith, within)) in
        let less : slice_index list j < length flags = under _ (rising.on j _ last) in omega (arith, less)

    pub evaluated_step : (j p : ℕ) (s : S) → slice_get list j ≡ Some p → evaluated run flags (behind list (j + 1)) s ≡ run p (evaluated run flags (behind list j) s)
    evaluated_step j p s at = let within : j < length list = slice_get_within list j p at in
        let to : behind list (j + 1) ≡ p + 1 = rw (add-one j) (behind_next j p at) in
        ap (λ n. evaluated run flags n s) to ∙ last_on flags p s (rising.on j p at)
        ∙ ap (run p) (passed_to flags (behind list j) p s (behind_low j p at) (λ k low high. off_between j p k (omega (arith, within)) (later j p at k) low high))
      where
        later : (j p : ℕ) → slice_get list j ≡ Some p → (k i : ℕ) → j ≤ i → slice_get list i ≡ Some k → p ≤ k
        later j p at k i up here = elim (cases_lt j i) [
          | inl less ↦ (let under : p < k = rising.rising j i p k less at here in omega (arith, under))
          | inr over ↦ (let same : i ≡ j = omega (arith, over, up) in let one : Some p ≡ Some k = sym at ∙ sym (ap (slice_get list) same) ∙ here in let e : p ≡ k = grind (arith, one) in omega (arith, e))
        ]

    pub evaluated_all : (s : S) → evaluated run flags (length flags) s ≡ evaluated run flags (behind list (length list)) s
    evaluated_all s = passed_to flags (behind list (length list)) (length flags) s (behind_inside (length list) (omega arith))
        (λ k low high. off_between (length list) (length flags) k (omega arith) (λ i up here. (let within : i < length list = slice_get_within list i k here in absurd (omega (arith, within, up)))) low high)

    -- one after the other is looking at all below the next
    ran_below : (j : ℕ) (s : S) → j ≤ length list → evaluated run flags (behind list j) s ≡ ran_first run list j s
    unfolding ran_first behind evaluated
    ran_below zero s within = refl
    ran_below (suc j) s within = let here : slice_get list j ≡ Some (slice_index list j) = slice_get-get_or list j 0 (omega (arith, within)) in
        ap (λ n. evaluated run flags (behind list n) s) (sym (add-one j)) ∙ evaluated_step j (slice_index list j) s here ∙ ap (run (slice_index list j)) (ran_below j s (omega (arith, within)))

    pub by_list : (s : S) → evaluated run flags (length flags) s ≡ ran_first run list (length list) s
    by_list s = evaluated_all s ∙ ran_below (length list) s (omega arith)

  pub ran_none : (list : List ℕ) (s : S) → ran_first run list 0 s ≡ s
  unfolding ran_first
  ran_none list s = refl

  pub ran_more : (list : List ℕ) (j : ℕ) (s : S) → ran_first run list (j + 1) s ≡ run (slice_index list j) (ran_first run list j s)
  unfolding ran_first
  ran_more list j s = rw (add-one j) refl
