-- An order leads from what stands to what stands, and what stands is the same wherever as much was done.
use Rattle.std.proofs.Common.{◌≡◌, ℕ, suc, ◌+◌, ◌*◌, List, [], ◌∷◌, ◌++◌, length, append-nil, nat_eq, slice_index, slice_index_or, ap, sym, ◌∙◌, subst, inl, inr, arith}
use Rattle.std.proofs.lemmas.Bool.{cases_eq, eq-eqb, ne_eqb}
use Rattle.std.proofs.lemmas.List.Sums.{sum_by-cons}
use Rattle.std.specs.List.{sum_by}
use Rattle.std.specs.Prelude.{cond}
use Rattle.tdf_streams.specs.Net.{Net, Past, Period, count, taken, written}
use Rattle.tdf_streams.specs.Streams.{known, spot, state_before}
use Rattle.tdf_streams.specs.Stands.{Holds, Less, Play, Stands, run_of}
use Rattle.tdf_streams.specs.Playing.{IsPlayed, IsSame, IsStep, turns_in}
use Rattle.tdf_streams.proofs.Firing.{firing_keeps}
use Rattle.tdf_streams.proofs.Known.{known_more, place_kept, state_more}
use Rattle.tdf_streams.proofs.Lists.{same_items, some_same}

pub turns_cons : (k m : ℕ) (order : List ℕ) → turns_in (k ∷ order) m ≡ cond (nat_eq k m) 1 0 + turns_in order m
turns_cons k m order = sum_by-cons (λ (x : ℕ). cond (nat_eq x m) 1 0) k order

module _ {S V I : Type 0} (net : Net S V I) (old : List (Period I)) (p : Period I) (reads : ℕ → List V) where
  pub step_turns : (k m : ℕ) (y z : Play S V) → IsStep net old p reads k y z → slice_index z.turns m ≡ slice_index y.turns m + (cond (nat_eq k m) 1 0)
  step_turns k m y z step = elim (cases_eq k m) [
    | inl same ↦ rw (eq-eqb k m same) (subst (λ q. slice_index z.turns q ≡ slice_index y.turns q + 1) same step.flows.turn)
    | inr apart ↦ rw (ne_eqb k m apart) (let o = step.flows.other_turns m (λ e. apart (sym e)) in omega (arith, o))
  ]

  pub played_turns : (order : List ℕ) (m : ℕ) (y z : Play S V) → IsPlayed net old p reads order y z → slice_index z.turns m ≡ slice_index y.turns m + turns_in order m
  unfolding IsPlayed
  played_turns [] m y z played = ap (λ (w : Play S V). slice_index w.turns m) played ∙ omega arith
  played_turns (k ∷ order) m y z played =
      let here = step_turns k m y played.0 played.1 in let rest = played_turns order m played.0 z played.2 in let cons = turns_cons k m order in
      omega (arith, here, rest, cons)

  pub step_keeps : (f m : ℕ) (y z : Play S V) → Stands net old p reads f y → IsStep net old p reads m y z → Stands net old p reads (suc f) z
  step_keeps f m y z stands step = firing_keeps net old p reads f m step.turn y z stands step.left step.present step.next step.flows

  pub order_keeps : (order : List ℕ) (f : ℕ) (y z : Play S V) → Stands net old p reads f y → IsPlayed net old p reads order y z → Stands net old p reads (length order + f) z
  unfolding IsPlayed
  order_keeps [] f y z stands played = let e : f ≡ 0 + f = omega arith in
      subst (λ k. Stands net old p reads k z) e (subst (λ (w : Play S V). Stands net old p reads f w) (sym played) stands)
  order_keeps (m ∷ ms) f y z stands played = let e : length ms + suc f ≡ suc (length ms) + f = omega arith in
      subst (λ k. Stands net old p reads k z) e (order_keeps ms (suc f) played.0 z (step_keeps f m y played.0 stands played.1) played.2)

  more_steps : (f d : ℕ) → Less (known net (run_of old p reads) f) (known net (run_of old p reads) (d + f))
  more_steps f d = known_more net (run_of old p reads) (run_of old p reads) (record { rest = []; periods = sym (append-nil (old ++ p ∷ [])); reads = λ m n x h. h }) f d

  same_list : (one other more : Past S V) → Less one more → Less other more → (e r w : ℕ) (xs ys : List V) → Holds net (old ++ p ∷ []) one e r w xs → Holds net (old ++ p ∷ []) other e r w ys → xs ≡ ys
  same_list one other more a b e r w xs ys h k = same_items xs ys (let c = h.count in let d = k.count in omega (arith, c, d))
      (λ j x y at there. some_same x y (sym (place_kept net (old ++ p ∷ []) one more a e (r + j) x (h.items j x at)) ∙ place_kept net (old ++ p ∷ []) other more b e (r + j) y (k.items j y there)))

  pub same_where_done : (f g : ℕ) (y z : Play S V) → Stands net old p reads f y → Stands net old p reads g z
      → ((m : ℕ) → slice_index y.turns m ≡ slice_index z.turns m) → IsSame net y z
  same_where_done f g y z one other turns = record {
    states = λ m a b plain at there. some_same a b
        (sym (state_more net [] [] (known net (run_of old p reads) f) more low m _ _ a (one.states m a at plain))
        ∙ ap (λ k. state_before net more m (spot old p k) (sum_by (count m) old + k)) (turns m)
        ∙ state_more net [] [] (known net (run_of old p reads) g) more high m _ _ b (other.states m b there plain));
    lists = λ e inside. same_list (known net (run_of old p reads) f) (known net (run_of old p reads) g) more low high e _ _ _ _ (one.lists e inside) (moved e (other.lists e inside));
  }
    where
      more : Past S V
      more = known net (run_of old p reads) (g + f)

      low : Less (known net (run_of old p reads) f) more
      low = more_steps f g

      high : Less (known net (run_of old p reads) g) more
      high = let e : f + g ≡ g + f = omega arith in subst (λ k. Less (known net (run_of old p reads) g) (known net (run_of old p reads) k)) e (more_steps g f)

      moved : (e : ℕ) → Holds net (old ++ p ∷ []) (known net (run_of old p reads) g) e (sum_by (taken net e) old + slice_index z.turns (net.reader e) * slice_index p.reads e)
          (sum_by (written net e) old + slice_index z.turns (net.writer e) * slice_index p.writes e) (slice_index_or z.lists e [])
          → Holds net (old ++ p ∷ []) (known net (run_of old p reads) g) e (sum_by (taken net e) old + slice_index y.turns (net.reader e) * slice_index p.reads e)
          (sum_by (written net e) old + slice_index y.turns (net.writer e) * slice_index p.writes e) (slice_index_or z.lists e [])
      moved e h = subst (λ r. Holds net (old ++ p ∷ []) (known net (run_of old p reads) g) e (sum_by (taken net e) old + r * slice_index p.reads e)
          (sum_by (written net e) old + slice_index y.turns (net.writer e) * slice_index p.writes e) (slice_index_or z.lists e [])) (sym (turns (net.reader e)))
          (subst (λ w. Holds net (old ++ p ∷ []) (known net (run_of old p reads) g) e (sum_by (taken net e) old + slice_index z.turns (net.reader e) * slice_index p.reads e)
          (sum_by (written net e) old + w * slice_index p.writes e) (slice_index_or z.lists e [])) (sym (turns (net.writer e))) h)

  pub any_order : (f : ℕ) (y z v : Play S V) (one other : List ℕ) → Stands net old p reads f y → IsPlayed net old p reads one y z → IsPlayed net old p reads other y v
      → ((m : ℕ) → slice_index z.turns m ≡ slice_index v.turns m) → IsSame net z v
  any_order f y z v one other stands first second turns =
      same_where_done (length one + f) (length other + f) z v (order_keeps one f y z stands first) (order_keeps other f y v stands second) turns
