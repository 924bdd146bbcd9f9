-- What is known in some number of steps is known in as many as the periods have firings.
use Rattle.std.proofs.Common.{◌≡◌, ℕ, zero, suc, ◌+◌, ◌-◌, ◌*◌, ◌/◌, ◌<◌, ◌≤◌, Bool, true, false, Option, Some, None, option_map, List, [], ◌∷◌, ◌++◌, append-nil, if◌then◌else◌, nat_lt, length, slice_get, slice_index, refl, sym, ◌∙◌, subst, arith}
use Rattle.std.specs.List.{sum_by}
use Rattle.std.specs.Option.{option_and_then}
use Rattle.std.proofs.lemmas.Bool.{eq-eqb, le-ltb}
use Rattle.std.proofs.lemmas.List.Sums.{sum_by-cons}
use Rattle.std.proofs.lemmas.Option.{slice_get_within}
use Rattle.tdf_streams.specs.Net.{Net, Past, Period, Run, Turn, count, taken, written}
use Rattle.tdf_streams.specs.Streams.{Spot, find, input, inputs, known, output, place, places, sampled, state_before, turn, turn_at}
use Rattle.tdf_streams.specs.Stands.{Less}
use Rattle.tdf_streams.specs.Fed.{Follows, IsFed, IsRead, own, sample}
use Rattle.tdf_streams.specs.Grounds.{AreSound, firings}
use Rattle.tdf_streams.proofs.Api.{fed_are_known, known_more, some_same, none_some}
use Rattle.tdf_streams_onward.proofs.Resumed.{yes_lt, no_lt}

pub some_map : {A B : Type 0} (f : A → B) (o : Option A) (r : B) → option_map f o ≡ Some r → (a : A) × (o ≡ Some a)
some_map f None r h = none_some r h
some_map f (Some a) r h = (a, refl)

pub some_then : {A B : Type 0} (f : A → Option B) (o : Option A) (r : B) → option_and_then f o ≡ Some r → (a : A) × (o ≡ Some a) × (f a ≡ Some r)
some_then f None r h = none_some r h
some_then f (Some a) r h = (a, refl, h)

module _ {I : Type 0} where
  pub find_inside : (size : Period I → ℕ) (before ps : List (Period I)) (n : ℕ) (s : Spot I) → find size before ps n ≡ Some s → n < sum_by size ps
  unfolding find
  find_inside size before [] n s h = none_some s h
  find_inside size before (p ∷ ps) n s h = let c = sum_by-cons size p ps in omega (arith, c, go (find_inside size (before ++ p ∷ []) ps (n - size p) s) (nat_lt n (size p)) refl h)
    where
      go : (find size (before ++ p ∷ []) ps (n - size p) ≡ Some s → n - size p < sum_by size ps) → (b : Bool) → nat_lt n (size p) ≡ b
          → (if b then Some (record { before = before; period = p; rest = n }) else find size (before ++ p ∷ []) ps (n - size p)) ≡ Some s → n < size p + sum_by size ps
      go next true less h = let l = yes_lt n (size p) less in omega (arith, l)
      go next false more h = let l = no_lt n (size p) more in let r = next h in omega (arith, l, r)

module _ {S V I : Type 0} (net : Net S V I) (periods : List (Period I)) (past : Past S V) where
  places_some : (e k n : ℕ) (xs : List V) (j : ℕ) → places net periods past e k n ≡ Some xs → k ≤ j → j < k + n → (v : V) × (place net periods past e j ≡ Some v)
  unfolding places
  places_some e k zero xs j h low high = absurd (omega (arith, low, high))
  places_some e k (suc n) xs j h low high = let a = some_then _ _ xs h in let b = some_map _ _ xs a.2 in
      pick (nat_lt k j) refl a.0 a.1 (λ less. places_some e (k + 1) n b.0 j b.1 (omega (arith, less)) (omega (arith, high)))
    where
      pick : (c : Bool) → nat_lt k j ≡ c → (v : V) → place net periods past e k ≡ Some v → (k < j → (v : V) × (place net periods past e j ≡ Some v)) → (v : V) × (place net periods past e j ≡ Some v)
      pick true less v at next = next (yes_lt k j less)
      pick false more v at next = (v, (let l = no_lt k j more in let z : k ≡ j = omega (arith, l, low) in subst (λ i. place net periods past e i ≡ Some v) z at))

  inputs_some : (m : ℕ) (s : Spot I) (e n : ℕ) (xs : List (List V)) (j : ℕ) → inputs net periods past m s e n ≡ Some xs → e ≤ j → j < e + n → (v : List V) × (input net periods past m s j ≡ Some v)
  unfolding inputs
  inputs_some m s e zero xs j h low high = absurd (omega (arith, low, high))
  inputs_some m s e (suc n) xs j h low high = let a = some_then _ _ xs h in let b = some_map _ _ xs a.2 in
      pick (nat_lt e j) refl a.0 a.1 (λ less. inputs_some m s (e + 1) n b.0 j b.1 (omega (arith, less)) (omega (arith, high)))
    where
      pick : (c : Bool) → nat_lt e j ≡ c → (v : List V) → input net periods past m s e ≡ Some v → (e < j → (v : List V) × (input net periods past m s j ≡ Some v)) → (v : List V) × (input net periods past m s j ≡ Some v)
      pick true less v at next = next (yes_lt e j less)
      pick false more v at next = (v, (let l = no_lt e j more in let z : e ≡ j = omega (arith, l, low) in subst (λ i. input net periods past m s i ≡ Some v) z at))

  -- a sample that is read and known, and was not there at the start, is an output that is known
  read_known : (m : ℕ) (s v : Spot I) (e k : ℕ) (xs : List (List V)) → inputs net periods past m s 0 net.edges ≡ Some xs → IsRead net m s e k → net.delay e ≤ k
      → find (written net e) [] periods (k - net.delay e) ≡ Some v → (t : Turn S V) × (past (net.writer e) (sum_by (count (net.writer e)) v.before + v.rest / slice_index v.period.writes e) ≡ Some t)
  unfolding input place output
  read_known m s v e k xs h read late found =
      let a = inputs_some m s 0 net.edges xs e h (omega arith) (let i = read.inside in omega (arith, i)) in
      let b = places_some e _ _ a.0 k (subst (λ c. (if c then places net periods past e (sum_by (taken net e) s.before + s.rest * slice_index s.period.reads e) (slice_index s.period.reads e) else Some []) ≡ Some a.0) (eq-eqb _ m read.reader) a.1) read.low read.high in
      let c = subst (λ c. (if c then Some (net.initial e k) else option_and_then (output net past e) (find (written net e) [] periods (k - net.delay e))) ≡ Some b.0) (le-ltb k (net.delay e) late) b.1 in
      let d = subst (λ o. option_and_then (output net past e) o ≡ Some b.0) found c in
      some_map _ _ b.0 d

  state_known : (m n b : ℕ) (s : Spot I) (x : S) → n ≡ suc b → state_before net past m s n ≡ Some x → (t : Turn S V) × (past m b ≡ Some t)
  unfolding state_before
  state_known m n b s x is h = some_map _ _ x (subst (λ k. state_before net past m s k ≡ Some x) is h)

module _ {S V I : Type 0} (net : Net S V I) (run : Run V I) where
  turn_parts : (past : Past S V) (m n : ℕ) (t : Turn S V) → turn net run past m n ≡ Some t → (s : Spot I) × (find (count m) [] run.periods n ≡ Some s) × (turn_at net run past m n s ≡ Some t)
  unfolding turn
  turn_parts past m n t h = some_then _ _ t h

  given_known : (past : Past S V) (m n : ℕ) (s : Spot I) (t : Turn S V) → turn_at net run past m n s ≡ Some t → net.is_sampler m ≡ true → n < length (run.reads m)
  unfolding turn_at
  given_known past m n s t h is = let x = some_map _ _ t (subst (λ b. (if b then option_map (sampled net m) (slice_get (run.reads m) n) else option_and_then (λ (x : S). option_map (net.process m s.period x) (inputs net run.periods past m s 0 net.edges)) (state_before net past m s n)) ≡ Some t) is h) in
      slice_get_within (run.reads m) n x.0 x.1

  acted_known : (past : Past S V) (m n : ℕ) (s : Spot I) (t : Turn S V) → turn_at net run past m n s ≡ Some t → net.is_sampler m ≡ false
      → ((x : S) × (state_before net past m s n ≡ Some x)) × ((xs : List (List V)) × (inputs net run.periods past m s 0 net.edges ≡ Some xs))
  unfolding turn_at
  acted_known past m n s t h plain = let a = some_then _ _ t (subst (λ b. (if b then option_map (sampled net m) (slice_get (run.reads m) n) else option_and_then (λ (x : S). option_map (net.process m s.period x) (inputs net run.periods past m s 0 net.edges)) (state_before net past m s n)) ≡ Some t) plain h) in
      let b = some_map _ _ t a.2 in ((a.0, a.1), (b.0, b.1))

  follow : (past : Past S V) (m n l b : ℕ) (s : Spot I) (t : Turn S V) → find (count m) [] run.periods n ≡ Some s → turn_at net run past m n s ≡ Some t → net.is_sampler m ≡ false
      → Follows net run.periods m n l b → (u : Turn S V) × (past l b ≡ Some u)
  follow past m n l b s t found h plain (own l_is n_is) = let a = acted_known past m n s t h plain in
      let k = state_known net run.periods past m n b s a.0.0 n_is a.0.1 in (k.0, subst (λ i. past i b ≡ Some k.0) (sym l_is) k.1)
  follow past m n l b s t found h plain (sample s2 v e k found2 read late at_v l_is b_is) = let a = acted_known past m n s t h plain in
      let same : s2 ≡ s = some_same _ _ (sym found2 ∙ found) in
      let r = read_known net run.periods past m s v e k a.1.0 a.1.1 (subst (λ i. IsRead net m i e k) same read) late at_v in
      (r.0, subst (λ i. past i b ≡ Some r.0) (sym l_is) (subst (λ i. past (net.writer e) i ≡ Some r.0) (sym b_is) r.1))

  known_is_fed : (f m n : ℕ) (t : Turn S V) → known net run f m n ≡ Some t → IsFed net run f m n
  unfolding known IsFed
  known_is_fed zero m n t h = none_some t h
  known_is_fed (suc f) m n t h = let a = turn_parts (known net run f) m n t h in
      (λ is. given_known (known net run f) m n a.0 t a.2 is, λ plain l b follows. (let u = follow (known net run f) m n l b a.0 t a.1 a.2 plain follows in known_is_fed f l b u.0 u.1))

  fed_less : (f m n : ℕ) → IsFed net run (suc f) m n → IsFed net run f m n
  unfolding IsFed
  fed_less zero m n fed = tt
  fed_less (suc f) m n fed = (fed.0, λ plain l b follows. fed_less f l b (fed.1 plain l b follows))

  fed_down : (d f m n : ℕ) → IsFed net run (d + f) m n → IsFed net run f m n
  fed_down zero f m n fed = let z : 0 + f ≡ f = omega arith in subst (λ k. IsFed net run k m n) z fed
  fed_down (suc d) f m n fed = let z : suc d + f ≡ suc (d + f) = omega arith in fed_down d f m n (fed_less (d + f) m n (subst (λ k. IsFed net run k m n) z fed))

  same_more : (f d : ℕ) → Less (known net run f) (known net run (d + f))
  same_more f d = known_more net run run (record { rest = []; periods = sym (append-nil run.periods); reads = λ m n x at. at }) f d

  turn_inside : (past : Past S V) (m n : ℕ) (t : Turn S V) → turn net run past m n ≡ Some t → n < sum_by (count m) run.periods
  turn_inside past m n t h = let a = turn_parts past m n t h in find_inside (count m) [] run.periods n a.0 a.1

  known_inside : (f m n : ℕ) (t : Turn S V) → known net run f m n ≡ Some t → n < sum_by (count m) run.periods
  unfolding known
  known_inside zero m n t h = none_some t h
  known_inside (suc f) m n t h = turn_inside (known net run f) m n t h

pub known_enough : {S V I : Type 0} (net : Net S V I) (actors : ℕ) (delay begun : ℕ → ℕ) (reads : ℕ → List V) (first : Period I) (later : List (Period I))
    → AreSound net actors delay begun first later → (d m n : ℕ) (t : Turn S V) → known net (record { periods = first ∷ later; reads = reads }) d m n ≡ Some t
    → known net (record { periods = first ∷ later; reads = reads }) (firings (first ∷ later)) m n ≡ Some t
known_enough {S = S} {V = V} {I = I} net actors delay begun reads first later sound d m n t h =
    let fed = known_is_fed net run (F + d) m n t ((same_more net run d F).keeps m n t h) in
    let z : F + d ≡ d + F = omega arith in
    let v = fed_are_known net actors delay begun reads first later sound m n (known_inside net run d m n t h) (fed_down net run d F m n (subst (λ k. IsFed net run k m n) z fed)) in
    let one : known net run (d + F) m n ≡ Some v.0 = (same_more net run F d).keeps m n v.0 v.1 in
    let other : known net run (d + F) m n ≡ Some t = subst (λ k. known net run k m n ≡ Some t) z ((same_more net run d F).keeps m n t h) in
    v.1 ∙ sym one ∙ other
  where
    run : Run V I
    run = record { periods = first ∷ later; reads = reads }

    F : ℕ
    F = firings (first ∷ later)
