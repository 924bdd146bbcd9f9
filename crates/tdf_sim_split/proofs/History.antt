-- A history that goes on from where another one came to.
use Rattle.std.proofs.Common.{◌≡◌, ◌∙◌, ℕ, zero, suc, ◌+◌, ◌-◌, ◌<◌, ◌≤◌, Bool, true, false, if◌then◌else◌, Some, List, [], ◌∷◌, ◌++◌, append-nil, append_assoc, length, slice_get, refl, sym, ap, subst, inl, inr, arith}
use Rattle.std.proofs.lemmas.Bool.{cases_lt}
use Rattle.std.specs.List.{flat_map}
use Rattle.tdf_bind.specs.declared.model.Flat.{Flat}
use Rattle.tdf_dynamic_texts.specs.Plans.{plan_text}
use Rattle.tdf_lang_tree.specs.Pure.{PureTree}
use Rattle.tdf_sim_history.specs.Answers.{AreAnswers, AreFirstAnswers, HasTurn, IsAnswer}
use Rattle.tdf_sim_history.specs.History.{Fault, Going, HistoryState, On, Past, Spent, Step, Stopped, after, history, state_of, turns_to}
use Rattle.tdf_sim_history.specs.Instant.{RunFault, at_begin, boundary, engine, instant, is_due, is_over}
use Rattle.tdf_sim_history.specs.Texts.{left_by, new_plans, notes_in, notes_to, plan_note}
use Rattle.tdf_sim_history.specs.World.{ClusterAt, Rules, World, next_change}
use Rattle.tdf_sim_split.proofs.Alike.{AreAlike, AreBetween, AtPlace, Both, Neither, StepsKeep, at_place, boundaries_alike, change_same, due_alike, histories_alike, instant_alike, over_same}
use Rattle.tdf_sim_split.specs.Alike.{BothFault, BothGo, BothOn, BothPast, BothSpent, BothStopped, StatesAlike, StepsAlike}
use Rattle.tdf_streams.proofs.Api.{none_some, some_same}

-- the world of a history that goes on, and of a step
on_world : {W F : Type 0} → HistoryState W F → W → W
on_world (On w) z = w
on_world (Stopped time fault w) z = z
on_world (Spent time w) z = z

pub on_other : {W F : Type 0} (s : HistoryState W F) (x y : W) → s ≡ On x → s ≡ On y → x ≡ y
unfolding on_world
on_other s x y one other = ap (λ t. on_world t x) (sym one ∙ other)

gone_world : {W F : Type 0} → Step W F → W → W
gone_world (Going w) z = w
gone_world (Fault fault w) z = z
gone_world (Past w) z = z

going_other : {W F : Type 0} (s : Step W F) (x y : W) → s ≡ Going x → s ≡ Going y → x ≡ y
unfolding gone_world
going_other s x y one other = ap (λ t. gone_world t x) (sym one ∙ other)

module _ {K : Type 0} (model : PureTree) (flat : Flat) (rules : Rules K) (Q : ℕ → ClusterAt → ClusterAt → Type 0) (keep : StepsKeep model flat Q) (one two : World K) (from stop : ℕ) (w : World K)
    (at : history (engine model flat rules) 0 one from ≡ On w) (alike : AreBetween model flat rules Q keep w two) (answers : AreAnswers model flat rules one stop)
    (quiet : (t : ℕ) → t < from → is_due rules two t ≡ false) where
  abbrev Between : World K → World K → Type 0
  Between = AreBetween model flat rules Q keep

  abbrev first : ℕ → HistoryState (World K) RunFault
  first time = history (engine model flat rules) 0 one time

  abbrev second : ℕ → HistoryState (World K) RunFault
  second time = history (engine model flat rules) 0 two time

  -- up to the time nothing happens in the one that goes on
  pub still : (t : ℕ) → t ≤ from → second t ≡ On two
  unfolding history
  still zero low = refl
  still (suc t) low =
      let z : 0 + t ≡ t = omega arith in
      ap (after (engine model flat rules) (0 + t)) (still t (omega (arith, low)))
      ∙ ap (λ (b : Bool). if b then state_of (0 + t) (instant model flat rules (0 + t) two) else On two) (ap (is_due rules two) z ∙ quiet t (omega (arith, low)))

  -- and then both go alike
  pub go_alike : (count : ℕ) → from + count ≤ stop → StatesAlike Between (first (from + count)) (second (from + count))
  go_alike count low = histories_alike model flat rules Q keep one two from stop w two at (still from (omega arith)) alike answers count low

  pub both_at : (time : ℕ) → from ≤ time → time ≤ stop → StatesAlike Between (first time) (second time)
  both_at time late early =
      let z : from + (time - from) ≡ time = omega (arith, late) in
      subst (λ t. StatesAlike Between (first t) (second t)) z (go_alike (time - from) (omega (arith, late, early)))

  -- ---- what is told

  pub record WholeOn (time : ℕ) (b : World K) : Type 0 where
    pub a : World K
    pub on : first time ≡ On a
    pub both : Between a b

  whole_on : (time : ℕ) (x y : HistoryState (World K) RunFault) → first time ≡ x → StatesAlike Between x y → (b : World K) → y ≡ On b → WholeOn time b
  whole_on time x y is (BothOn a c r) b same = record { a = a; on = is; both = subst (Between a) (on_other (On c) c b refl same) r }
  whole_on time x y is (BothStopped when fault a c r) b same = absurd cc
  whole_on time x y is (BothSpent when a c r) b same = absurd cc

  module _ (time : ℕ) (a b : World K) (r : Between a b) (told : (n : ℕ) → AreFirstAnswers model flat time n a) where
    -- a cluster that has its turn has one in the whole, too
    turn_told : (k : ℕ) (u : World K) (g : ClusterAt) → HasTurn flat.tables time k b u g → IsAnswer model flat (k + 1) g (next_change g)
    turn_told k u g turn = go (turns_to (boundary flat.tables time) k (at_begin a)) (turns_to (boundary flat.tables time) k (at_begin b)) refl (boundaries_alike model flat rules Q keep time k a b r (told k)) turn.before
      where
        go : (x y : Step (World K) RunFault) → turns_to (boundary flat.tables time) k (at_begin a) ≡ x → StepsAlike (AreAlike model flat rules Q keep) x y → y ≡ Going u → IsAnswer model flat (k + 1) g (next_change g)
        go x y is (BothGo c d also) same = answered (at_place model flat rules Q keep c d k also)
          where
            d_is : d ≡ u
            d_is = going_other (Going d) d u refl same

            g_at : slice_get d.clusters k ≡ Some g
            g_at = ap (λ (z : World K). slice_get z.clusters k) d_is ∙ turn.there

            answered : AtPlace model flat rules Q keep c d k → IsAnswer model flat (k + 1) g (next_change g)
            answered (Neither lacks none) = none_some g (sym none ∙ g_at)
            answered (Both h e h_at e_at) =
                let e_is = some_same e g (sym e_at ∙ g_at) in
                let q = subst (Q k h) e_is (also.each k h e h_at e_at) in
                let view = keep.view k h g q in
                let over : is_over time h ≡ true = sym (over_same model flat rules Q keep time h g view) ∙ turn.over in
                let left : 0 < c.left = (let l = also.left in let m = ap (λ (z : World K). z.left) d_is in let t = turn.left in omega (arith, l, m, t)) in
                subst (IsAnswer model flat (k + 1) g) (sym (change_same model flat rules Q keep h g view))
                (keep.answer k h g (next_change h) q (told (k + 1) k c h (omega arith) (record { before = is; there = h_at; over = over; left = left })))
        go x y is (BothFault fault c d also) same = absurd cc
        go x y is (BothPast c d also) same = absurd cc

  pub answers_on : AreAnswers model flat rules two stop
  answers_on time n b below on due k u g less turn = elim (cases_lt time from) [
    | inl early ↦ absurd (
        let same = on_other (second time) b two on (still time (omega (arith, early))) in
        let no : true ≡ false = sym due ∙ ap (λ z. is_due rules z time) same ∙ quiet time early in cc)
    | inr late ↦ (
        let x = whole_on time (first time) (second time) refl (both_at time late (omega (arith, below))) b on in
        let due_a : is_due rules x.a time ≡ true = sym (due_alike model flat rules Q keep time x.a b x.both) ∙ due in
        turn_told time x.a b x.both (λ j. answers time j x.a below x.on due_a) k u g turn)
  ]

  -- ---- the plans that come

  plans_same : (time : ℕ) (a b : World K) → AreAlike model flat rules Q keep a b → new_plans flat time b ≡ new_plans flat time a
  plans_same time a b r = ap (λ l. flat_map (λ n. plan_note flat time (n + 1) (slice_get b.clusters n)) l) r.planned ∙ same_map a.planned
    where
      note_same : (n : ℕ) → AtPlace model flat rules Q keep a b n → plan_note flat time (n + 1) (slice_get b.clusters n) ≡ plan_note flat time (n + 1) (slice_get a.clusters n)
      note_same n (Neither lacks none) = ap (plan_note flat time (n + 1)) (none ∙ sym lacks)
      note_same n (Both h g h_at g_at) =
          let view = keep.view n h g (r.each n h g h_at g_at) in
          ap (plan_note flat time (n + 1)) g_at
          ∙ (λ i. plan_text flat.resolution flat.tables (n + 1) time (record { entries = view.entries i; bounds = view.bounds i; period = view.period i }))
          ∙ sym (ap (plan_note flat time (n + 1)) h_at)

      same_map : (l : List ℕ) → flat_map (λ n. plan_note flat time (n + 1) (slice_get b.clusters n)) l ≡ flat_map (λ n. plan_note flat time (n + 1) (slice_get a.clusters n)) l
      same_map [] = refl
      same_map (n ∷ l) = rw (note_same n (at_place model flat rules Q keep a b n r), same_map l) refl

  notes_step : (time : ℕ) (x y : Step (World K) RunFault) → StepsAlike (AreAlike model flat rules Q keep) x y → new_plans flat time (left_by y) ≡ new_plans flat time (left_by x)
  notes_step time x y (BothGo a b r) = plans_same time a b r
  notes_step time x y (BothFault fault a b r) = plans_same time a b r
  notes_step time x y (BothPast a b r) = plans_same time a b r

  notes_at : (time : ℕ) → time < stop → (x y : HistoryState (World K) RunFault) → first time ≡ x → StatesAlike Between x y → notes_in model flat rules time y ≡ notes_in model flat rules time x
  notes_at time below x y is (BothOn a b r) = due (is_due rules a time) (is_due rules b time) (due_alike model flat rules Q keep time a b r) refl
    where
      due : (p q : Bool) → q ≡ p → is_due rules a time ≡ p
          → (if q then new_plans flat time (left_by (instant model flat rules time b)) else []) ≡ (if p then new_plans flat time (left_by (instant model flat rules time a)) else [])
      due true true same due_is = notes_step time (instant model flat rules time a) (instant model flat rules time b) (instant_alike model flat rules Q keep time a b r (answers time (length a.clusters) a below is due_is))
      due false false same due_is = refl
      due true false same due_is = absurd cc
      due false true same due_is = absurd cc
  notes_at time below x y is (BothStopped when fault a b r) = refl
  notes_at time below x y is (BothSpent when a b r) = refl

  none_yet : (t : ℕ) → t ≤ from → notes_to model flat rules two t ≡ []
  unfolding notes_to
  none_yet zero low = refl
  none_yet (suc t) low =
      ap (λ l. l ++ notes_in model flat rules t (second t)) (none_yet t (omega (arith, low)))
      ∙ ap (notes_in model flat rules t) (still t (omega (arith, low)))
      ∙ ap (λ b. if b then new_plans flat t (left_by (instant model flat rules t two)) else []) (quiet t (omega (arith, low)))

  pub notes_on : (count : ℕ) → from + count ≤ stop → notes_to model flat rules one (from + count) ≡ notes_to model flat rules one from ++ notes_to model flat rules two (from + count)
  unfolding notes_to
  notes_on zero low =
      let z : from + 0 ≡ from = omega arith in
      ap (notes_to model flat rules one) z ∙ sym (append-nil (notes_to model flat rules one from)) ∙ ap (λ l. notes_to model flat rules one from ++ l) (sym (ap (notes_to model flat rules two) z ∙ none_yet from (omega arith)))
  notes_on (suc n) low =
      let z : from + suc n ≡ suc (from + n) = omega arith in
      ap (notes_to model flat rules one) z
      ∙ (λ i. notes_on n (omega (arith, low)) i ++ sym (notes_at (from + n) (omega (arith, low)) (first (from + n)) (second (from + n)) refl (go_alike n (omega (arith, low)))) i)
      ∙ append_assoc (notes_to model flat rules one from) (notes_to model flat rules two (from + n)) (notes_in model flat rules (from + n) (second (from + n)))
      ∙ ap (λ l. notes_to model flat rules one from ++ l) (sym (ap (notes_to model flat rules two) z))
