-- Further records, further reads and more fuel keep what is known.
use Rattle.std.proofs.Common.{◌≡◌, ℕ, zero, suc, ◌+◌, ◌-◌, Some, List, [], ◌∷◌, ◌++◌, append-nil, nat_eq, nat_lt, ap, sym, ◌∙◌, subst, arith}
use Rattle.tdf_streams.specs.Net.{Period, Turn, Net, Run, count, written, Past}
use Rattle.tdf_streams.specs.Streams.{Spot, find, output, place, places, input, inputs, state_before, sampled, turn_at, turn, known}
use Rattle.tdf_streams.specs.Stands.{KeepsReads, Less, Longer, Play, Stands, run_of}
use Rattle.tdf_streams.proofs.Steps.{if_more, and_then_more, map_more, none_some}

module _ {I : Type 0} where
  pub find_more : (size : Period I → ℕ) (old ps qs : List (Period I)) (n : ℕ) (s : Spot I) → find size old ps n ≡ Some s → find size old (ps ++ qs) n ≡ Some s
  unfolding find
  find_more size old [] qs n s h = none_some s h
  find_more size old (p ∷ ps) qs n s h = if_more (nat_lt n (size p)) _ _ _ _ s (λ i. i) (find_more size (old ++ p ∷ []) ps qs (n - size p) s) h

module _ {S V I : Type 0} (net : Net S V I) (ps qs : List (Period I)) (past more : Past S V) (less : Less past more) where
  pub output_more : (e : ℕ) (s : Spot I) (v : V) → output net past e s ≡ Some v → output net more e s ≡ Some v
  unfolding output
  output_more e s v h = map_more _ _ _ v (less.keeps _ _) h

  pub place_more : (e k : ℕ) (v : V) → place net ps past e k ≡ Some v → place net (ps ++ qs) more e k ≡ Some v
  unfolding place
  place_more e k v h = if_more (nat_lt k (net.delay e)) _ _ _ _ v (λ i. i)
      (and_then_more (output net past e) (output net more e) _ _ v (find_more (written net e) [] ps qs (k - net.delay e)) (λ s. output_more e s v)) h

  pub places_more : (e k n : ℕ) (xs : List V) → places net ps past e k n ≡ Some xs → places net (ps ++ qs) more e k n ≡ Some xs
  unfolding places
  places_more e k zero xs h = h
  places_more e k (suc n) xs h = and_then_more _ _ _ _ xs (place_more e k) (λ x. map_more _ _ _ xs (places_more e (k + 1) n)) h

  pub input_more : (m : ℕ) (s : Spot I) (e : ℕ) (xs : List V) → input net ps past m s e ≡ Some xs → input net (ps ++ qs) more m s e ≡ Some xs
  unfolding input
  input_more m s e xs h = if_more (nat_eq (net.reader e) m) _ _ _ _ xs (places_more e _ _ xs) (λ i. i) h

  pub inputs_more : (m : ℕ) (s : Spot I) (e n : ℕ) (xs : List (List V)) → inputs net ps past m s e n ≡ Some xs → inputs net (ps ++ qs) more m s e n ≡ Some xs
  unfolding inputs
  inputs_more m s e zero xs h = h
  inputs_more m s e (suc n) xs h = and_then_more _ _ _ _ xs (input_more m s e) (λ x. map_more _ _ _ xs (inputs_more m s (e + 1) n)) h

  pub state_more : (m : ℕ) (s : Spot I) (n : ℕ) (x : S) → state_before net past m s n ≡ Some x → state_before net more m s n ≡ Some x
  unfolding state_before
  state_more m s zero x h = h
  state_more m s (suc n) x h = map_more _ _ _ x (less.keeps m n) h

module _ {S V I : Type 0} (net : Net S V I) (short long : Run V I) (longer : Longer short long) where
  pub turn_at_more : (past more : Past S V) → Less past more → (m n : ℕ) (s : Spot I) (t : Turn S V) → turn_at net short past m n s ≡ Some t → turn_at net long more m n s ≡ Some t
  unfolding turn_at
  turn_at_more past more less m n s t h = if_more (net.is_sampler m) _ _ _ _ t (map_more (sampled net m) _ _ t (longer.reads m n))
      (and_then_more _ _ _ _ t (state_more net short.periods longer.rest past more less m s n)
      (λ x. map_more (net.process m s.period x) _ _ t (λ xs i. ap (λ ps. inputs net ps more m s 0 net.edges) longer.periods ∙ inputs_more net short.periods longer.rest past more less m s 0 net.edges xs i))) h

  pub turn_more : (past more : Past S V) → Less past more → Less (turn net short past) (turn net long more)
  unfolding turn
  turn_more past more less = record {
    keeps = λ m n t h. and_then_more _ _ _ _ t (λ s i. ap (λ ps. find (count m) [] ps n) longer.periods ∙ find_more (count m) [] short.periods longer.rest n s i)
        (λ s. turn_at_more past more less m n s t) h;
  }

  pub known_more : (f d : ℕ) → Less (known net short f) (known net long (d + f))
  unfolding known
  known_more zero d = record { keeps = λ m n t h. none_some t h }
  known_more (suc f) d = let e : d + suc f ≡ suc (d + f) = omega arith in subst (λ k. Less (known net short (suc f)) (known net long k)) (sym e) (turn_more (known net short f) (known net long (d + f)) (known_more f d))

module _ {S V I : Type 0} (net : Net S V I) (ps : List (Period I)) (past more : Past S V) (less : Less past more) where
  pub place_kept : (e k : ℕ) (x : V) → place net ps past e k ≡ Some x → place net ps more e k ≡ Some x
  place_kept e k x h = subst (λ qs. place net qs more e k ≡ Some x) (append-nil ps) (place_more net ps [] past more less e k x h)

module _ {S V I : Type 0} (net : Net S V I) (old : List (Period I)) (p : Period I) (short long : ℕ → List V) (f : ℕ) (y : Play S V) (keeps : KeepsReads short long) where
  less_reads : Less (known net (run_of old p short) f) (known net (run_of old p long) f)
  less_reads = let e : 0 + f ≡ f = omega arith in subst (λ k. Less (known net (run_of old p short) f) (known net (run_of old p long) k)) e
      (known_more net (run_of old p short) (run_of old p long) (record { rest = []; periods = sym (append-nil (old ++ p ∷ [])); reads = keeps }) f 0)

  -- what stands, stands for further values
  pub reads_keep : Stands net old p short f y → Stands net old p long f y
  reads_keep stands = record {
    has_values = λ m n below. (let v = stands.has_values m n below in (v.0, less_reads.keeps m n v.0 v.1));
    states = λ m x at plain. state_more net [] [] (known net (run_of old p short) f) (known net (run_of old p long) f) less_reads m _ _ x (stands.states m x at plain);
    lists = λ e inside. record {
      count = (stands.lists e inside).count;
      items = λ j x at. place_kept net (old ++ p ∷ []) (known net (run_of old p short) f) (known net (run_of old p long) f) less_reads e _ x ((stands.lists e inside).items j x at);
    };
  }
