-- What is known of the streams that go on from inside a run is known of the whole ones.
use Rattle.std.proofs.Common.{◌≡◌, ℕ, zero, suc, ◌+◌, ◌-◌, ◌*◌, ◌/◌, ◌%◌, ◌<◌, ◌≤◌, Bool, true, false, ◌&&◌, Option, Some, None, option_map, List, [], ◌∷◌, ◌++◌, append_assoc, append-nil, length, if◌then◌else◌, nat_eq, nat_lt, slice_get, slice_index, slice_index_or, refl, ap, sym, ◌∙◌, subst, inl, inr, arith}
use Rattle.std.specs.List.{sum_by}
use Rattle.std.specs.Option.{option_and_then}
use Rattle.std.proofs.Math.Nat.{mul-add-div_right, mul-add-mod_self_right}
use Rattle.std.proofs.lemmas.Bool.{cases_lt, eqb-true, le-ltb, lt-ltb, ne_eqb}
use Rattle.std.proofs.lemmas.List.Sums.{sum_by-append, sum_by-cons}
use Rattle.tdf_streams.specs.Net.{Net, Past, Period, Turn, count, taken, written}
use Rattle.tdf_streams.specs.Streams.{Spot, entered, find, input, inputs, is_first, known, output, place, places, sampled, spot, state_before, turn, turn_at}
use Rattle.tdf_streams.specs.Stands.{AreActive, KeepsReads, Less, Play, Stands, run_of}
use Rattle.tdf_streams.proofs.Api.{known_more, place_more, state_more, get_inside, some_same, none_some}
use Rattle.tdf_streams_onward.proofs.More.{and_then_more, map_more}
use Rattle.tdf_streams_onward.specs.Onward.{GoByKey, IsRest, StartsFrom, acts_before, started, taken_before, written_before}

pub no_lt : (a b : ℕ) → nat_lt a b ≡ false → b ≤ a
no_lt a b h = elim (cases_lt a b) [ inl less ↦ absurd (no_true (sym (lt-ltb a b less) ∙ h)) | inr more ↦ more ]
  where
    no_true : true ≡ false → ⊥
    no_true e = subst (λ b. elim b as (λ _. Type 0) [ true ↦ Unit {0} | false ↦ ⊥ ]) e tt

pub yes_lt : (a b : ℕ) → nat_lt a b ≡ true → a < b
yes_lt a b h = elim (cases_lt a b) [ inl less ↦ less | inr more ↦ absurd (no_false (sym (le-ltb a b more) ∙ h)) ]
  where
    no_false : false ≡ true → ⊥
    no_false e = subst (λ b. elim b as (λ _. Type 0) [ false ↦ Unit {0} | true ↦ ⊥ ]) e tt

module _ {I : Type 0} where
  -- numbers after those of the periods before
  find_past : (size : Period I → ℕ) (before old ps : List (Period I)) (n : ℕ) → find size before (old ++ ps) (sum_by size old + n) ≡ find size (before ++ old) ps n
  unfolding find
  find_past size before [] ps n = let z : 0 + n ≡ n = omega arith in rw (z, append-nil before) refl
  find_past size before (r ∷ old) ps n = let s : sum_by size (r ∷ old) ≡ size r + sum_by size old = sum_by-cons size r old in
      let past : nat_lt (size r + sum_by size old + n) (size r) ≡ false = le-ltb _ _ (omega arith) in let rest : size r + sum_by size old + n - size r ≡ sum_by size old + n = omega arith in
      rw (s, past, rest) (find_past size (before ++ r ∷ []) old ps n ∙ ap (λ b. find size b ps n) (append_assoc before (r ∷ []) old))

  -- where a number lies from a start inside period p on, of which q is left, and where it lies in all
  pub data Lies (size : Period I → ℕ) (old later : List (Period I)) (p q : Period I) (t n : ℕ) (s : Spot I) : Type 0 where
    Inside : n < size q → s ≡ spot [] q n → find size [] (old ++ p ∷ later) (sum_by size old + t + n) ≡ Some (spot old p (t + n)) → Lies size old later p q t n s
    After : (b : List (Period I)) (r : Period I) (k : ℕ) → size q ≤ n → s ≡ spot (q ∷ b) r k → find size [] (old ++ p ∷ later) (sum_by size old + t + n) ≡ Some (spot (old ++ p ∷ b) r k)
        → Lies size old later p q t n s

  pub record IsAfter (size : Period I → ℕ) (old : List (Period I)) (p q : Period I) (b ps : List (Period I)) (n : ℕ) (s : Spot I) : Type 0 where
    pub more : List (Period I)
    pub period : Period I
    pub rest : ℕ
    pub is : s ≡ spot (q ∷ more) period rest
    pub found : find size (old ++ p ∷ b) ps n ≡ Some (spot (old ++ p ∷ more) period rest)

  find_after : (size : Period I → ℕ) (old : List (Period I)) (p q : Period I) (b ps : List (Period I)) (n : ℕ) (s : Spot I) → find size (q ∷ b) ps n ≡ Some s → IsAfter size old p q b ps n s
  unfolding find
  find_after size old p q b [] n s h = none_some s h
  find_after size old p q b (r ∷ ps) n s h = go (find_after size old p q (b ++ r ∷ []) ps (n - size r) s) (nat_lt n (size r)) refl h
    where
      go : (find size (q ∷ (b ++ r ∷ [])) ps (n - size r) ≡ Some s → IsAfter size old p q (b ++ r ∷ []) ps (n - size r) s)
          → (c : Bool) → nat_lt n (size r) ≡ c → (if c then Some (spot (q ∷ b) r n) else find size (q ∷ (b ++ r ∷ [])) ps (n - size r)) ≡ Some s → IsAfter size old p q b (r ∷ ps) n s
      go next true less h = record { more = b; period = r; rest = n; is = sym (some_same _ _ h); found = rw less refl }
      go next false more h = (let x = next h in record {
        more = x.more;
        period = x.period;
        rest = x.rest;
        is = x.is;
        found = rw more (ap (λ (l : List (Period I)). find size l ps (n - size r)) (append_assoc old (p ∷ b) (r ∷ [])) ∙ x.found);
      })

  -- and where it lies in all, from there
  find_after_none : (size : Period I → ℕ) (old : List (Period I)) (p q : Period I) (b ps : List (Period I)) (n : ℕ) → find size (q ∷ b) ps n ≡ None → find size (old ++ p ∷ b) ps n ≡ None
  unfolding find
  find_after_none size old p q b [] n h = refl
  find_after_none size old p q b (r ∷ ps) n h = go (find_after_none size old p q (b ++ r ∷ []) ps (n - size r)) (nat_lt n (size r)) refl h
    where
      go : (find size (q ∷ (b ++ r ∷ [])) ps (n - size r) ≡ None → find size (old ++ p ∷ (b ++ r ∷ [])) ps (n - size r) ≡ None)
          → (c : Bool) → nat_lt n (size r) ≡ c → (if c then Some (spot (q ∷ b) r n) else find size (q ∷ (b ++ r ∷ [])) ps (n - size r)) ≡ None → find size (old ++ p ∷ b) (r ∷ ps) n ≡ None
      go next true less h = none_some (spot (q ∷ b) r n) (sym h)
      go next false more h = rw more (ap (λ (l : List (Period I)). find size l ps (n - size r)) (append_assoc old (p ∷ b) (r ∷ [])) ∙ next h)

  pub lies_none : (size : Period I → ℕ) (old later : List (Period I)) (p q : Period I) (t n : ℕ) → t + size q ≡ size p → find size [] (q ∷ later) n ≡ None → find size [] (old ++ p ∷ later) (sum_by size old + t + n) ≡ None
  unfolding find
  lies_none size old later p q t n whole h = go (nat_lt n (size q)) refl h
    where
      past : find size [] (old ++ p ∷ later) (sum_by size old + t + n) ≡ find size old (p ∷ later) (t + n)
      past = let z : sum_by size old + t + n ≡ sum_by size old + (t + n) = omega arith in ap (find size [] (old ++ p ∷ later)) z ∙ find_past size [] old (p ∷ later) (t + n)

      go : (c : Bool) → nat_lt n (size q) ≡ c → (if c then Some (spot [] q n) else find size (q ∷ []) later (n - size q)) ≡ None → find size [] (old ++ p ∷ later) (sum_by size old + t + n) ≡ None
      go true less h = none_some (spot [] q n) (sym h)
      go false more h = (let above : size q ≤ n = no_lt n (size q) more in let b : nat_lt (t + n) (size p) ≡ false = le-ltb (t + n) (size p) (omega (arith, above, whole)) in
          let z : t + n - size p ≡ n - size q = omega (arith, above, whole) in past ∙ rw (b, z) (find_after_none size old p q [] later (n - size q) h))

  -- a number that lies somewhere in all, lies there from the start on
  pub data LiesBack (size : Period I → ℕ) (old later : List (Period I)) (p q : Period I) (t n : ℕ) (v : Spot I) : Type 0 where
    Inside : n < size q → v ≡ spot old p (t + n) → find size [] (q ∷ later) n ≡ Some (spot [] q n) → LiesBack size old later p q t n v
    After : (b : List (Period I)) (r : Period I) (k : ℕ) → size q ≤ n → v ≡ spot (old ++ p ∷ b) r k → find size [] (q ∷ later) n ≡ Some (spot (q ∷ b) r k) → LiesBack size old later p q t n v

  pub lies : (size : Period I → ℕ) (old later : List (Period I)) (p q : Period I) (t n : ℕ) (s : Spot I) → t + size q ≡ size p → find size [] (q ∷ later) n ≡ Some s → Lies size old later p q t n s
  unfolding find
  lies size old later p q t n s whole h = go (nat_lt n (size q)) refl h
    where
      past : find size [] (old ++ p ∷ later) (sum_by size old + t + n) ≡ find size old (p ∷ later) (t + n)
      past = let z : sum_by size old + t + n ≡ sum_by size old + (t + n) = omega arith in ap (find size [] (old ++ p ∷ later)) z ∙ find_past size [] old (p ∷ later) (t + n)

      go : (c : Bool) → nat_lt n (size q) ≡ c → (if c then Some (spot [] q n) else find size (q ∷ []) later (n - size q)) ≡ Some s → Lies size old later p q t n s
      go true less h = (let below : n < size q = yes_lt n (size q) less in let b : nat_lt (t + n) (size p) ≡ true = lt-ltb (t + n) (size p) (omega (arith, below, whole)) in
          Inside below (sym (some_same _ _ h)) (past ∙ rw b refl))
      go false more h = (let above : size q ≤ n = no_lt n (size q) more in let b : nat_lt (t + n) (size p) ≡ false = le-ltb (t + n) (size p) (omega (arith, above, whole)) in
          let z : t + n - size p ≡ n - size q = omega (arith, above, whole) in
          let x = find_after size old p q [] later (n - size q) s h in After x.more x.period x.rest above x.is (past ∙ rw (b, z) x.found))

  pub lies_back : (size : Period I → ℕ) (old later : List (Period I)) (p q : Period I) (t n : ℕ) (v : Spot I) → t + size q ≡ size p → find size [] (old ++ p ∷ later) (sum_by size old + t + n) ≡ Some v → LiesBack size old later p q t n v
  lies_back size old later p q t n v whole h = go (find size [] (q ∷ later) n) refl
    where
      go : (o : Option (Spot I)) → find size [] (q ∷ later) n ≡ o → LiesBack size old later p q t n v
      go None at = none_some v (sym (lies_none size old later p q t n whole at) ∙ h)
      go (Some s) at = elim (lies size old later p q t n s whole at) [
        | Inside below is found ↦ Inside below (some_same _ _ (sym h ∙ found)) (at ∙ ap Some is)
        | After b r k above is found ↦ After b r k above (some_same _ _ (sym h ∙ found)) (at ∙ ap Some is)
      ]

  pub not_first : (old : List (Period I)) (p : Period I) (b : List (Period I)) → is_first (old ++ p ∷ b) ≡ false
  not_first [] p b = refl
  not_first (r ∷ old) p b = refl

  -- sums up to a later period
  pub sum_after : (f : Period I → ℕ) (old b : List (Period I)) (p q : Period I) (t : ℕ) → t + f q ≡ f p → sum_by f (old ++ p ∷ b) ≡ sum_by f old + t + sum_by f (q ∷ b)
  sum_after f old b p q t whole = let a = sum_by-append f old (p ∷ b) in let c = sum_by-cons f p b in let d = sum_by-cons f q b in omega (arith, a, c, d, whole)

pub map_map : {A B C : Type 0} (f : A → B) (g : B → C) (o : Option A) → option_map (λ a. g (f a)) o ≡ option_map g (option_map f o)
map_map f g None = refl
map_map f g (Some a) = refl

pub map_as : {A B : Type 0} (f g : A → B) (o o2 : Option A) (r : B) → ((a : A) → o ≡ Some a → o2 ≡ Some a) → ((a : A) → f a ≡ g a) → option_map f o ≡ Some r → option_map g o2 ≡ Some r
map_as f g None o2 r keeps same h = none_some r h
map_as f g (Some a) o2 r keeps same h = ap (option_map g) (keeps a refl) ∙ ap Some (sym (same a)) ∙ h

pub and_false : (b : Bool) → (b && false) ≡ false
and_false true = refl
and_false false = refl

pub no_cons : {A : Type 0} {P : Type 0} (x : A) (xs : List A) → x ∷ xs ≡ [] → P
no_cons x xs h = absurd (subst (λ l. elim l as (λ _. Type 0) [ [] ↦ ⊥ | y ∷ ys ↦ Unit {0} ]) h tt)

module _ {S V I : Type 0} (net : Net S V I) where
  -- the state after the activations before one, without the bodies of the boundary
  unfoldable pub plain_state : (past : Past S V) (m n : ℕ) → Option S
  plain_state past m zero = Some (net.start m)
  plain_state past m (suc n) = option_map (λ (t : Turn S V). t.state) (past m n)

  pub before_plain : (past : Past S V) (m : ℕ) (s : Spot I) (n : ℕ) → state_before net past m s n ≡ option_map (entered net m s) (plain_state past m n)
  unfolding state_before plain_state
  before_plain past m s zero = refl
  before_plain past m s (suc n) = map_map (λ (t : Turn S V). t.state) (entered net m s) (past m n)

  pub entered_not : (m : ℕ) (old : List (Period I)) (p : Period I) (k : ℕ) (x : S) → (k ≡ 0 → old ≡ []) → entered net m (spot old p k) x ≡ x
  entered_not m [] p k x first = rw (and_false (nat_eq k 0)) refl
  entered_not m (r ∷ old) p k x first = let no : nat_eq k 0 ≡ false = ne_eqb k 0 (λ z. no_cons r old (first z)) in rw no refl

  pub map_id : (f : S → S) (o : Option S) → ((x : S) → f x ≡ x) → option_map f o ≡ o
  map_id f None same = refl
  map_id f (Some x) same = ap Some (same x)

  pub plain_more : (past more : Past S V) → Less past more → (m n : ℕ) (x : S) → plain_state past m n ≡ Some x → plain_state more m n ≡ Some x
  unfolding plain_state
  plain_more past more less m zero x h = h
  plain_more past more less m (suc n) x h = map_more _ _ _ x (less.keeps m n) h

module _ {S V I K : Type 0} (key : I → K) (net : Net S V I) (old later : List (Period I)) (p q : Period I) (short long rest : ℕ → List V) (f : ℕ) (y : Play S V)
    (delay : ℕ → ℕ) (initial : ℕ → ℕ → V) (start : ℕ → S) (by : GoByKey key net) (stands : Stands net old p short f y) (active : AreActive net old p y)
    (keeps : KeepsReads short long) (left : IsRest key p y q) (from : StartsFrom net y delay initial start)
    (given : (m n : ℕ) (x : V) → slice_get (rest m) n ≡ Some x → slice_get (long m) (acts_before old y m + n) ≡ Some x) where
  abbrev two : Net S V I
  two = started net delay initial start

  abbrev past0 : Past S V
  past0 = known net (run_of old p short) f

  counts_left : (m : ℕ) → slice_index y.turns m + count m q ≡ count m p
  counts_left m = left.counts m

  written_left : (e : ℕ) → slice_index y.turns (net.writer e) * slice_index p.writes e + written net e q ≡ written net e p
  written_left e = rw left.writes (let c = left.counts (net.writer e) in
      let d : (slice_index y.turns (net.writer e) + slice_index q.counts (net.writer e)) * slice_index p.writes e ≡ slice_index y.turns (net.writer e) * slice_index p.writes e + slice_index q.counts (net.writer e) * slice_index p.writes e = grind arith in
      sym d ∙ ap (λ k. k * slice_index p.writes e) c)

  taken_left : (e : ℕ) → slice_index y.turns (net.reader e) * slice_index p.reads e + taken net e q ≡ taken net e p
  taken_left e = rw left.reads (let c = left.counts (net.reader e) in
      let d : (slice_index y.turns (net.reader e) + slice_index q.counts (net.reader e)) * slice_index p.reads e ≡ slice_index y.turns (net.reader e) * slice_index p.reads e + slice_index q.counts (net.reader e) * slice_index p.reads e = grind arith in
      sym d ∙ ap (λ k. k * slice_index p.reads e) c)

  module _ (past2 past1 : Past S V) (less : Less past0 past1) (ahead : (m n : ℕ) (t : Turn S V) → past2 m n ≡ Some t → past1 m (acts_before old y m + n) ≡ Some t) where
    output_ahead : (e n : ℕ) (s : Spot I) (v : V) → Lies (written net e) old later p q (slice_index y.turns (net.writer e) * slice_index p.writes e) n s
        → output two past2 e s ≡ Some v → option_and_then (output net past1 e) (find (written net e) [] (old ++ p ∷ later) (sum_by (written net e) old + slice_index y.turns (net.writer e) * slice_index p.writes e + n)) ≡ Some v
    unfolding output
    output_ahead e n s v (Inside below is found) h = rw found (
        let w = slice_index p.writes e in
        let some : 0 < slice_index p.writes e = positive (slice_index q.counts (net.writer e)) (slice_index p.writes e) (subst (λ l. n < slice_index q.counts (net.writer e) * slice_index l e) left.writes below) in
        let d : (slice_index y.turns (net.writer e) * slice_index p.writes e + n) / slice_index p.writes e ≡ slice_index y.turns (net.writer e) + n / slice_index p.writes e = mul-add-div_right some (slice_index y.turns (net.writer e)) n in
        let r : (slice_index y.turns (net.writer e) * slice_index p.writes e + n) % slice_index p.writes e ≡ n % slice_index p.writes e = mul-add-mod_self_right (slice_index y.turns (net.writer e)) (slice_index p.writes e) n in
        let z : sum_by (count (net.writer e)) old + (slice_index y.turns (net.writer e) + n / slice_index p.writes e) ≡ acts_before old y (net.writer e) + (0 + n / slice_index p.writes e) = omega arith in
        rw (d, r, z) (map_more _ _ _ v (ahead (net.writer e) (0 + n / slice_index p.writes e)) (subst (λ l. option_map (λ (t : Turn S V). t.outputs (net.source e) (n % slice_index l e)) (past2 (net.writer e) (0 + n / slice_index l e)) ≡ Some v) left.writes
        (subst (λ x. output two past2 e x ≡ Some v) is h))))
      where
        positive : (a b : ℕ) → n < a * b → 0 < b
        positive a zero l = (let z : a * 0 ≡ 0 = grind arith in absurd (omega (arith, l, z)))
        positive a (suc b) l = omega arith
    output_ahead e n s v (After b r k above is found) h = rw found (
        let z : sum_by (count (net.writer e)) (old ++ p ∷ b) + k / slice_index r.writes e ≡ acts_before old y (net.writer e) + (sum_by (count (net.writer e)) (q ∷ b) + k / slice_index r.writes e) =
        (let a = sum_after (count (net.writer e)) old b p q (slice_index y.turns (net.writer e)) (counts_left (net.writer e)) in omega (arith, a)) in
        rw z (map_more _ _ _ v (ahead (net.writer e) (sum_by (count (net.writer e)) (q ∷ b) + k / slice_index r.writes e)) (subst (λ x. output two past2 e x ≡ Some v) is h)))

    pub place_ahead : (e k : ℕ) (v : V) → e < net.edges → place two (q ∷ later) past2 e k ≡ Some v → place net (old ++ p ∷ later) past1 e (taken_before net old p y e + k) ≡ Some v
    unfolding place
    place_ahead e k v inside h = go (nat_lt k (delay e)) refl h
      where
        held : length (slice_index_or y.lists e []) + taken_before net old p y e ≡ net.delay e + written_before net old p y e
        held = (stands.lists e inside).count

        go : (c : Bool) → nat_lt k (delay e) ≡ c → (if c then Some (initial e k) else option_and_then (output two past2 e) (find (written net e) [] (q ∷ later) (k - delay e))) ≡ Some v
            → place net (old ++ p ∷ later) past1 e (taken_before net old p y e + k) ≡ Some v
        go true early h = (let x = get_inside (slice_index_or y.lists e []) k (let b = yes_lt k (delay e) early in let l = from.long e inside in omega (arith, b, l)) in
            let known_before : place net (old ++ p ∷ []) past0 e (taken_before net old p y e + k) ≡ Some x.0 = (stands.lists e inside).items k x.0 x.1 in
            let same : x.0 ≡ v = sym (from.items e k x.0 inside x.1) ∙ some_same _ _ h in
            subst (λ ps. place net ps past1 e (taken_before net old p y e + k) ≡ Some v) (append_assoc old (p ∷ []) later) (place_more net (old ++ p ∷ []) later past0 past1 less e _ v (known_before ∙ ap Some same)))
        go false late h = (let above : delay e ≤ k = no_lt k (delay e) late in let l = from.long e inside in
            let past_delay : nat_lt (taken_before net old p y e + k) (net.delay e) ≡ false = le-ltb _ _ (omega (arith, above, l, held)) in
            let n : taken_before net old p y e + k - net.delay e ≡ sum_by (written net e) old + slice_index y.turns (net.writer e) * slice_index p.writes e + (k - delay e) = omega (arith, above, l, held) in
            rw (past_delay, n) (split (find (written net e) [] (q ∷ later) (k - delay e)) refl h))
          where
            split : (o : Option (Spot I)) → find (written net e) [] (q ∷ later) (k - delay e) ≡ o → option_and_then (output two past2 e) o ≡ Some v
                → option_and_then (output net past1 e) (find (written net e) [] (old ++ p ∷ later) (sum_by (written net e) old + slice_index y.turns (net.writer e) * slice_index p.writes e + (k - delay e))) ≡ Some v
            split None at h = none_some v h
            split (Some s) at h = output_ahead e (k - delay e) s v (lies (written net e) old later p q (slice_index y.turns (net.writer e) * slice_index p.writes e) (k - delay e) s (written_left e) at) h

    places_ahead : (e k n : ℕ) (xs : List V) → e < net.edges → places two (q ∷ later) past2 e k n ≡ Some xs → places net (old ++ p ∷ later) past1 e (taken_before net old p y e + k) n ≡ Some xs
    unfolding places
    places_ahead e k zero xs inside h = h
    places_ahead e k (suc n) xs inside h = let z : taken_before net old p y e + k + 1 ≡ taken_before net old p y e + (k + 1) = omega arith in
        rw z (and_then_more _ _ _ _ xs (λ v. place_ahead e k v inside) (λ v. map_more _ _ _ xs (λ ys. places_ahead e (k + 1) n ys inside)) h)

    -- the places that an activation reads are those of the whole run
    abbrev ReadsAhead : ℕ → (s v : Spot I) → Type 0
    ReadsAhead m s v = (e : ℕ) → net.reader e ≡ m → (taken_before net old p y e + (sum_by (taken net e) s.before + s.rest * slice_index s.period.reads e) ≡ sum_by (taken net e) v.before + v.rest * slice_index v.period.reads e)
        × (slice_index s.period.reads e ≡ slice_index v.period.reads e)

    input_ahead : (m : ℕ) (s v : Spot I) (e : ℕ) (xs : List V) → e < net.edges → ReadsAhead m s v → input two (q ∷ later) past2 m s e ≡ Some xs → input net (old ++ p ∷ later) past1 m v e ≡ Some xs
    unfolding input
    input_ahead m s v e xs inside reads h = go (nat_eq (net.reader e) m) (λ i. eqb-true _ m i) h
      where
        go : (b : Bool) → (b ≡ true → net.reader e ≡ m)
            → (if b then places two (q ∷ later) past2 e (sum_by (taken net e) s.before + s.rest * slice_index s.period.reads e) (slice_index s.period.reads e) else Some []) ≡ Some xs
            → (if b then places net (old ++ p ∷ later) past1 e (sum_by (taken net e) v.before + v.rest * slice_index v.period.reads e) (slice_index v.period.reads e) else Some []) ≡ Some xs
        go true is h = (let r = reads e (is refl) in subst (λ a. places net (old ++ p ∷ later) past1 e a (slice_index v.period.reads e) ≡ Some xs) r.0
            (subst (λ n. places net (old ++ p ∷ later) past1 e (taken_before net old p y e + (sum_by (taken net e) s.before + s.rest * slice_index s.period.reads e)) n ≡ Some xs) r.1 (places_ahead e _ _ xs inside h)))
        go false is h = h

    inputs_ahead : (m : ℕ) (s v : Spot I) (e n : ℕ) (xs : List (List V)) → e + n ≤ net.edges → ReadsAhead m s v → inputs two (q ∷ later) past2 m s e n ≡ Some xs → inputs net (old ++ p ∷ later) past1 m v e n ≡ Some xs
    unfolding inputs
    inputs_ahead m s v e zero xs inside reads h = h
    inputs_ahead m s v e (suc n) xs inside reads h = and_then_more _ _ _ _ xs (λ x. input_ahead m s v e x (omega (arith, inside)) reads)
        (λ x. map_more _ _ _ xs (λ ys. inputs_ahead m s v (e + 1) n ys (omega (arith, inside)) reads)) h

    -- the state that a module has before its first activation after the start
    pub start_known : (m : ℕ) → net.is_sampler m ≡ false → (slice_index y.turns m ≡ 0 → old ≡ []) → plain_state net past1 m (acts_before old y m) ≡ Some (start m)
    start_known m plain first = plain_more net past0 past1 less m (acts_before old y m) (start m)
        (sym (map_id net (entered net m (spot old p (slice_index y.turns m))) (plain_state net past0 m (acts_before old y m)) (λ x. entered_not net m old p (slice_index y.turns m) x first))
        ∙ sym (before_plain net past0 m (spot old p (slice_index y.turns m)) (acts_before old y m)) ∙ stands.states m (start m) (from.states m plain) plain)

    entered_after : (m : ℕ) (b : List (Period I)) (r : Period I) (k : ℕ) (x : S) → entered two m (spot (q ∷ b) r k) x ≡ entered net m (spot (old ++ p ∷ b) r k) x
    entered_after m b r k x = rw (not_first old p b) (ap (λ z. if nat_eq k 0 && true then net.reinitialize m r z else x) (sym (by.change m old p q b x (sym left.same))))

    entered_inside : (m n : ℕ) (x : S) → entered two m (spot [] q (suc n)) x ≡ entered net m (spot old p (slice_index y.turns m + suc n)) x
    entered_inside m n x = entered_not two m [] q (suc n) x (λ e. refl) ∙ sym (entered_not net m old p (slice_index y.turns m + suc n) x (λ e. absurd (omega (arith, e))))

    state_ahead : (m n : ℕ) (s : Spot I) (x : S) → net.is_sampler m ≡ false → Lies (count m) old later p q (slice_index y.turns m) n s → state_before two past2 m s n ≡ Some x
        → option_and_then (λ v. state_before net past1 m v (acts_before old y m + n)) (find (count m) [] (old ++ p ∷ later) (sum_by (count m) old + slice_index y.turns m + n)) ≡ Some x
    unfolding state_before
    state_ahead m zero s x plain (Inside below is found) h = rw found (
        let z : sum_by (count m) old + slice_index y.turns m ≡ sum_by (count m) old + slice_index y.turns m + 0 = omega arith in
        let t : slice_index y.turns m ≡ slice_index y.turns m + 0 = omega arith in
        let i : start m ≡ x = some_same _ _ (subst (λ (v : Spot I). Some (entered two m v (start m)) ≡ Some x) is h) in
        subst (λ n. state_before net past1 m (spot old p (slice_index y.turns m + 0)) n ≡ Some x) z
        (subst (λ k. state_before net past1 m (spot old p k) (sum_by (count m) old + slice_index y.turns m) ≡ Some x) t
        (state_more net [] [] past0 past1 less m (spot old p (slice_index y.turns m)) (acts_before old y m) x (stands.states m (start m) (from.states m plain) plain ∙ ap Some i))))
    state_ahead m (suc n) s x plain (Inside below is found) h = rw found (
        let z : sum_by (count m) old + slice_index y.turns m + suc n ≡ suc (acts_before old y m + n) = omega arith in
        rw z (map_as (λ (t : Turn S V). entered two m (spot [] q (suc n)) t.state) (λ (t : Turn S V). entered net m (spot old p (slice_index y.turns m + suc n)) t.state) (past2 m n) (past1 m (acts_before old y m + n)) x (ahead m n)
        (λ t. entered_inside m n t.state) (subst (λ (v : Spot I). option_map (λ (t : Turn S V). entered two m v t.state) (past2 m n) ≡ Some x) is h)))
    state_ahead m zero s x plain (After b r k above is found) h = rw found (
        let z : acts_before old y m ≡ acts_before old y m + 0 = omega arith in
        let none : slice_index y.turns m ≡ 0 → slice_index p.counts m ≡ 0 = (λ t. (let c = left.counts m in omega (arith, c, t, above))) in
        let first : slice_index y.turns m ≡ 0 → old ≡ [] = (λ t. active m (start m) (from.states m plain) plain (none t)) in
        subst (λ n. state_before net past1 m (spot (old ++ p ∷ b) r k) n ≡ Some x) z
        (before_plain net past1 m (spot (old ++ p ∷ b) r k) (acts_before old y m) ∙ ap (option_map (entered net m (spot (old ++ p ∷ b) r k))) (start_known m plain first)
        ∙ ap Some (sym (entered_after m b r k (start m))) ∙ subst (λ (v : Spot I). Some (entered two m v (start m)) ≡ Some x) is h))
    state_ahead m (suc n) s x plain (After b r k above is found) h = rw found (
        let z : sum_by (count m) old + slice_index y.turns m + suc n ≡ suc (acts_before old y m + n) = omega arith in
        rw z (map_as (λ (t : Turn S V). entered two m (spot (q ∷ b) r k) t.state) (λ (t : Turn S V). entered net m (spot (old ++ p ∷ b) r k) t.state) (past2 m n) (past1 m (acts_before old y m + n)) x (ahead m n)
        (λ t. entered_after m b r k t.state) (subst (λ (v : Spot I). option_map (λ (t : Turn S V). entered two m v t.state) (past2 m n) ≡ Some x) is h)))

    -- the places that the activation at a spot reads
    reads_inside : (m n : ℕ) → ReadsAhead m (spot [] q n) (spot old p (slice_index y.turns m + n))
    reads_inside m n e is = (
      rw left.reads (subst (λ k. sum_by (taken net e) old + slice_index y.turns k * slice_index p.reads e + (0 + n * slice_index p.reads e) ≡ sum_by (taken net e) old + (slice_index y.turns m + n) * slice_index p.reads e) (sym is) (
          let d : (slice_index y.turns m + n) * slice_index p.reads e ≡ slice_index y.turns m * slice_index p.reads e + n * slice_index p.reads e = grind arith in omega (arith, d))),
      ap (λ l. slice_index l e) left.reads,
    )

    reads_after : (m : ℕ) (b : List (Period I)) (r : Period I) (k : ℕ) → ReadsAhead m (spot (q ∷ b) r k) (spot (old ++ p ∷ b) r k)
    reads_after m b r k e is = (let a = sum_after (taken net e) old b p q (slice_index y.turns (net.reader e) * slice_index p.reads e) (taken_left e) in omega (arith, a), refl)

    turn_at_ahead : (m n : ℕ) (s : Spot I) (t : Turn S V) → Lies (count m) old later p q (slice_index y.turns m) n s → turn_at two (record { periods = q ∷ later; reads = rest }) past2 m n s ≡ Some t
        → option_and_then (turn_at net (record { periods = old ++ p ∷ later; reads = long }) past1 m (acts_before old y m + n)) (find (count m) [] (old ++ p ∷ later) (acts_before old y m + n)) ≡ Some t
    unfolding turn_at
    turn_at_ahead m n s t at h = go (net.is_sampler m) refl h
      where
        acted : (v : Spot I) → net.is_sampler m ≡ false → find (count m) [] (old ++ p ∷ later) (acts_before old y m + n) ≡ Some v → ReadsAhead m s v → ((x : S) → two.process m s.period x ≡ net.process m v.period x)
            → option_and_then (λ (x : S). option_map (two.process m s.period x) (inputs two (q ∷ later) past2 m s 0 net.edges)) (state_before two past2 m s n) ≡ Some t
            → option_and_then (λ (x : S). option_map (net.process m v.period x) (inputs net (old ++ p ∷ later) past1 m v 0 net.edges)) (state_before net past1 m v (acts_before old y m + n)) ≡ Some t
        acted v plain found reads same h = and_then_more _ _ _ _ t
            (λ x i. (let r = state_ahead m n s x plain at i in ap (option_and_then (λ u. state_before net past1 m u (acts_before old y m + n))) (sym found) ∙ r))
            (λ x. map_as (two.process m s.period x) (net.process m v.period x) _ _ t (λ xs. inputs_ahead m s v 0 net.edges xs (omega arith) reads) (λ xs. ap (λ (g : List (List V) → Turn S V). g xs) (same x))) h

        go : (b : Bool) → net.is_sampler m ≡ b
            → (if b then option_map (sampled two m) (slice_get (rest m) n) else option_and_then (λ (x : S). option_map (two.process m s.period x) (inputs two (q ∷ later) past2 m s 0 net.edges)) (state_before two past2 m s n)) ≡ Some t
            → option_and_then (λ v. if net.is_sampler m then option_map (sampled net m) (slice_get (long m) (acts_before old y m + n))
            else option_and_then (λ (x : S). option_map (net.process m v.period x) (inputs net (old ++ p ∷ later) past1 m v 0 net.edges)) (state_before net past1 m v (acts_before old y m + n)))
            (find (count m) [] (old ++ p ∷ later) (acts_before old y m + n)) ≡ Some t
        go true is h = elim at [
          | Inside below s_is found ↦ rw (found, is) (map_as (sampled two m) (sampled net m) _ _ t (given m n) (λ x. ap (λ z. record { state = z; outputs = λ port k. x }) (from.kept m is)) h)
          | After b r k above s_is found ↦ rw (found, is) (map_as (sampled two m) (sampled net m) _ _ t (given m n) (λ x. ap (λ z. record { state = z; outputs = λ port k. x }) (from.kept m is)) h)
        ]
        go false plain h = elim at [
          | Inside below is found ↦ rw (found, plain) (acted (spot old p (slice_index y.turns m + n)) plain found (subst (λ v. ReadsAhead m v (spot old p (slice_index y.turns m + n))) (sym is) (reads_inside m n))
              (λ x. ap (λ (v : Spot I). net.process m v.period x) is ∙ ap (λ (g : S → List (List V) → Turn S V). g x) (by.process m q p left.same)) h)
          | After b r k above is found ↦ rw (found, plain) (acted (spot (old ++ p ∷ b) r k) plain found (subst (λ v. ReadsAhead m v (spot (old ++ p ∷ b) r k)) (sym is) (reads_after m b r k))
              (λ x. ap (λ (v : Spot I). net.process m v.period x) is) h)
        ]

    turn_ahead : (m n : ℕ) (t : Turn S V) → turn two (record { periods = q ∷ later; reads = rest }) past2 m n ≡ Some t → turn net (record { periods = old ++ p ∷ later; reads = long }) past1 m (acts_before old y m + n) ≡ Some t
    unfolding turn
    turn_ahead m n t h = split (find (count m) [] (q ∷ later) n) refl h
      where
        split : (o : Option (Spot I)) → find (count m) [] (q ∷ later) n ≡ o → option_and_then (turn_at two (record { periods = q ∷ later; reads = rest }) past2 m n) o ≡ Some t
            → option_and_then (turn_at net (record { periods = old ++ p ∷ later; reads = long }) past1 m (acts_before old y m + n)) (find (count m) [] (old ++ p ∷ later) (acts_before old y m + n)) ≡ Some t
        split None at h = none_some t h
        split (Some s) at h = turn_at_ahead m n s t (lies (count m) old later p q (slice_index y.turns m) n s (counts_left m) at) h

  longer : (g : ℕ) → Less past0 (known net (record { periods = old ++ p ∷ later; reads = long }) (g + f))
  longer g = known_more net (run_of old p short) (record { periods = old ++ p ∷ later; reads = long }) (record { rest = later; periods = sym (append_assoc old (p ∷ []) later); reads = keeps }) f g

  pub resumed_whole : (g m n : ℕ) (t : Turn S V) → known two (record { periods = q ∷ later; reads = rest }) g m n ≡ Some t
      → known net (record { periods = old ++ p ∷ later; reads = long }) (g + f) m (acts_before old y m + n) ≡ Some t
  unfolding known
  resumed_whole zero m n t h = none_some t h
  resumed_whole (suc g) m n t h = let e : suc g + f ≡ suc (g + f) = omega arith in
      subst (λ k. known net (record { periods = old ++ p ∷ later; reads = long }) k m (acts_before old y m + n) ≡ Some t) (sym e)
      (turn_ahead (known two (record { periods = q ∷ later; reads = rest }) g) (known net (record { periods = old ++ p ∷ later; reads = long }) (g + f)) (longer g) (resumed_whole g) m n t h)
