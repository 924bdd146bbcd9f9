-- The samples of a column at the positions of a period, sample by sample.
use Rattle.std.proofs.Common.{◌≡◌, ◌∙◌, ◌<◌, ◌≤◌, ◌+◌, ◌-◌, ◌*◌, ℕ, zero, suc, Bool, true, false, List, [], ◌∷◌, Some, length, map, slice_get, refl, sym, ap, subst, arith}
use Rattle.std.proofs.lemmas.Option.{none-some, same_Some}
use Rattle.std.specs.List.{range_with_len}
use Rattle.std.specs.Prelude.{cond, drop, filter, min, nat_lt, not}
use Rattle.tdf_saved.specs.declared.state.Stamp.{Stamp}
use Rattle.tdf_trace_states.specs.ColumnStates.{DoRise}
use Rattle.tdf_trace_states.specs.Windows.{position_in, times_from}
use Rattle.tdf_trace_states.specs.declared.windows.Window.{Window}
use Rattle.tdf_trace_states.specs.machine.{Chosen, StandFrom}

none_first : (n : ℕ) (ns : List ℕ) → [] ≡ n ∷ ns → ⊥
none_first n ns same = subst IsNone same tt
  where
    IsNone : List ℕ → Type 0
    IsNone [] = Unit {0}
    IsNone (m ∷ ms) = ⊥

head_same : (a b : ℕ) (xs ys : List ℕ) → a ∷ xs ≡ b ∷ ys → a ≡ b
head_same a b xs ys same = ap first same
  where
    first : List ℕ → ℕ
    first [] = a
    first (x ∷ xs) = x

tail_same : (a b : ℕ) (xs ys : List ℕ) → a ∷ xs ≡ b ∷ ys → xs ≡ ys
tail_same a b xs ys same = ap rest same
  where
    rest : List ℕ → List ℕ
    rest [] = []
    rest (x ∷ xs) = xs

-- samples that rise from the first one on stand at its time or later
pub rising_from : (samples : List Stamp) (time : ℕ) (first : Stamp) → slice_get samples 0 ≡ Some first → time ≤ first.time → DoRise samples → (i : ℕ) (x : Stamp) → slice_get samples i ≡ Some x → time ≤ x.time
rising_from [] time first at low rise i x there = absurd (none-some first at)
rising_from (y ∷ ys) time first at low rise zero x there = subst (λ (z : Stamp). time ≤ z.time) (same_Some first x (sym at ∙ there)) low
rising_from (y ∷ []) time first at low rise (suc i) x there = absurd (none-some x there)
rising_from (y ∷ z ∷ zs) time first at low rise (suc i) x there =
    let r = rise 0 y z refl refl in
    let l : time ≤ y.time = subst (λ (v : Stamp). time ≤ v.time) (sym (same_Some y first at)) low in
    rising_from (z ∷ zs) time z refl (omega (arith, r, l)) (λ k a b one other. rise (suc k) a b one (let e : suc (k + 1) ≡ suc k + 1 = omega arith in subst (λ n. slice_get (y ∷ z ∷ zs) n ≡ Some b) e other)) i x there

module _ (w : Window) where
  abbrev last : ℕ
  last = min w.known w.count

  -- what is left of the samples stands from a place on exactly where all do
  abbrev pub StoodTo : (samples : List Stamp) → (i place : ℕ) → Type 0
  StoodTo samples i place = (StandFrom w w.first samples → StandFrom w place (drop i samples)) × (StandFrom w place (drop i samples) → StandFrom w w.first samples)

  abbrev Here : (b : Bool) → (place : ℕ) → Stamp → List Stamp → Type 0
  Here b place x xs = Chosen b (StandFrom w place xs) ((place < last) × (x.time ≡ position_in w place) × StandFrom w (place + 1) xs)

  module _ (samples : List Stamp) (i place : ℕ) (x : Stamp) (at : drop i samples ≡ x ∷ drop (i + 1) samples) (so : StoodTo samples i place) where
    opened : StandFrom w place (drop i samples) → Here (nat_lt x.time w.since) place x (drop (i + 1) samples)
    unfolding StandFrom
    opened s = subst (StandFrom w place) at s

    closed : Here (nat_lt x.time w.since) place x (drop (i + 1) samples) → StandFrom w place (drop i samples)
    unfolding StandFrom
    closed s = subst (StandFrom w place) (sym at) s

    pub stood_early : nat_lt x.time w.since ≡ true → StoodTo samples (i + 1) place
    stood_early early = (
      λ s. subst (λ b. Here b place x (drop (i + 1) samples)) early (opened (so.0 s)),
      λ s. so.1 (closed (subst (λ b. Here b place x (drop (i + 1) samples)) (sym early) s)),
    )

    module _ (late : nat_lt x.time w.since ≡ false) where
      pub stood_here : place < last → x.time ≡ position_in w place → StoodTo samples (i + 1) (place + 1)
      stood_here less is = (
        λ s. (subst (λ b. Here b place x (drop (i + 1) samples)) late (opened (so.0 s))).2,
        λ s. so.1 (closed (subst (λ b. Here b place x (drop (i + 1) samples)) (sym late) (less, is, s))),
      )

      pub stood_not : (place < last → x.time ≡ position_in w place → ⊥) → StandFrom w w.first samples → ⊥
      stood_not none s = (
          let here = subst (λ b. Here b place x (drop (i + 1) samples)) late (opened (so.0 s)) in
          none here.0 here.1)

  -- all samples were looked at
  pub stood_all : (samples : List Stamp) (i place : ℕ) → drop i samples ≡ [] → StoodTo samples i place → (last ≤ place → StandFrom w w.first samples) × (StandFrom w w.first samples → last ≤ place)
  unfolding StandFrom
  stood_all samples i place none so = (λ low. so.1 (subst (StandFrom w place) (sym none) low), λ s. subst (StandFrom w place) none (so.0 s))

  -- so their times are those of the positions
  abbrev positions_from : (place : ℕ) → List ℕ
  positions_from place = map (position_in w) (range_with_len place (last - place))

  next_positions : (place : ℕ) → place < last → position_in w place ∷ positions_from (place + 1) ≡ positions_from place
  next_positions place less =
      let e : suc (last - (place + 1)) ≡ last - place = omega (arith, less) in
      ap (λ n. map (position_in w) (range_with_len place n)) e

  no_positions : (place : ℕ) → last ≤ place → [] ≡ positions_from place
  no_positions place past =
      let e : 0 ≡ last - place = omega (arith, past) in ap (λ n. map (position_in w) (range_with_len place n)) e

  abbrev kept : Bool → Stamp → List Stamp → List ℕ
  kept b x xs = map (λ (y : Stamp). y.time) (cond (not b) (x ∷ filter (λ (y : Stamp). not (nat_lt y.time w.since)) xs) (filter (λ (y : Stamp). not (nat_lt y.time w.since)) xs))

  pub times_are : (samples : List Stamp) (place : ℕ) → StandFrom w place samples → times_from w.since samples ≡ positions_from place
  unfolding StandFrom
  times_are [] place s = no_positions place s
  times_are (x ∷ xs) place s = go (nat_lt x.time w.since) (times_are xs place) (times_are xs (place + 1)) s
    where
      go : (b : Bool) → (StandFrom w place xs → times_from w.since xs ≡ positions_from place) → (StandFrom w (place + 1) xs → times_from w.since xs ≡ positions_from (place + 1)) → Here b place x xs
          → kept b x xs ≡ positions_from place
      go true same next here = same here
      go false same next here = ap (λ l. x.time ∷ l) (next here.2) ∙ ap (λ n. n ∷ positions_from (place + 1)) here.1 ∙ next_positions place here.0

  pub are_times : (samples : List Stamp) (place : ℕ) → times_from w.since samples ≡ positions_from place → StandFrom w place samples
  unfolding StandFrom
  are_times [] place same = go (last - place) refl same
    where
      go : (n : ℕ) → last - place ≡ n → [] ≡ map (position_in w) (range_with_len place n) → last ≤ place
      go zero e same = omega (arith, e)
      go (suc n) e same = absurd (none_first (position_in w place) (map (position_in w) (range_with_len (place + 1) n)) same)
  are_times (x ∷ xs) place same = go (nat_lt x.time w.since) (are_times xs place) (are_times xs (place + 1)) same
    where
      first : (n : ℕ) → last - place ≡ n → x.time ∷ times_from w.since xs ≡ map (position_in w) (range_with_len place n) → (times_from w.since xs ≡ positions_from (place + 1) → StandFrom w (place + 1) xs)
          → (place < last) × (x.time ≡ position_in w place) × StandFrom w (place + 1) xs
      first zero e same next = absurd (none_first x.time (times_from w.since xs) (sym same))
      first (suc n) e same next =
          let m : n ≡ last - (place + 1) = omega (arith, e) in (
            omega (arith, e),
            head_same x.time (position_in w place) (times_from w.since xs) (map (position_in w) (range_with_len (place + 1) n)) same,
            next (tail_same x.time (position_in w place) (times_from w.since xs) (map (position_in w) (range_with_len (place + 1) n)) same ∙ ap (λ k. map (position_in w) (range_with_len (place + 1) k)) m),
          )

      go : (b : Bool) → (times_from w.since xs ≡ positions_from place → StandFrom w place xs) → (times_from w.since xs ≡ positions_from (place + 1) → StandFrom w (place + 1) xs) → kept b x xs ≡ positions_from place → Here b place x xs
      go true here next same = here same
      go false here next same = first (last - place) refl same next
