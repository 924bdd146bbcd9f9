-- From a period to the next.
use Rattle.std.proofs.Common.{◌≡◌, ℕ, zero, suc, ◌+◌, ◌*◌, ◌<◌, Bool, true, false, ◌&&◌, Option, Some, None, option_map, List, [], ◌∷◌, ◌++◌, nat_eq, slice_index, slice_index_or, refl, ap, sym, ◌∙◌, subst, arith}
use Rattle.std.proofs.lemmas.Bool.{ne_eqb}
use Rattle.std.proofs.lemmas.List.Sums.{sum_by_push}
use Rattle.std.specs.List.{sum_by}
use Rattle.tdf_streams.specs.Net.{Period, Turn, Net, count, written, taken, Past}
use Rattle.tdf_streams.specs.Streams.{spot, is_first, entered, state_before, known}
use Rattle.tdf_streams.specs.Stands.{AreActive, Less, Longer, Play, Stands, Crosses, Changed, Installed, Holds, run_of}
use Rattle.tdf_streams.proofs.Steps.{map_more}
use Rattle.tdf_streams.proofs.Known.{known_more, place_more}

module _ {V I : Type 0} where
  pub longer_next : (old : List (Period I)) (p next : Period I) (reads : ℕ → List V) → Longer (run_of old p reads) (run_of (old ++ p ∷ []) next reads)
  longer_next old p next reads = record { rest = next ∷ []; periods = refl; reads = λ m n x h. h }

and_false : (b : Bool) → (b && false) ≡ false
and_false true = refl
and_false false = refl

no_cons : {A : Type 0} {P : Type 0} (x : A) (xs : List A) → x ∷ xs ≡ [] → P
no_cons x xs h = absurd (subst (λ l. elim l as (λ _. Type 0) [ [] ↦ ⊥ | y ∷ ys ↦ Unit {0} ]) h tt)

not_first : {I : Type 0} (old : List (Period I)) (p : Period I) → is_first (old ++ p ∷ []) ≡ false
not_first [] p = refl
not_first (q ∷ old) p = refl

map_same : {A B : Type 0} (f g : A → B) (o : Option A) → ((a : A) → f a ≡ g a) → option_map f o ≡ option_map g o
map_same f g None h = refl
map_same f g (Some a) h = ap Some (h a)

map_map : {A B C : Type 0} (f : A → B) (g : B → C) (o : Option A) → option_map g (option_map f o) ≡ option_map (λ a. g (f a)) o
map_map f g None = refl
map_map f g (Some a) = refl

sum_same : {A : Type 0} (f : A → ℕ) (old : List A) (p : A) (t c : ℕ) → t ≡ 0 → sum_by f (old ++ p ∷ []) + t * c ≡ sum_by f old + f p
sum_same f old p t c z = rw (z, sum_by_push f old p) (omega arith)

module _ {S V I : Type 0} (net : Net S V I) where
  -- at the end of a period the state is the plain one
  plain : (past : Past S V) (m n : ℕ) → Option S
  plain past m zero = Some (net.start m)
  plain past m (suc n) = option_map (λ (t : Turn S V). t.state) (past m n)

  entered_plain : (m : ℕ) (old : List (Period I)) (p : Period I) (k : ℕ) (x : S) → (k ≡ 0 → old ≡ []) → entered net m (spot old p k) x ≡ x
  entered_plain m [] p k x first = rw (and_false (nat_eq k 0)) refl
  entered_plain m (q ∷ old) p k x first = let no : nat_eq k 0 ≡ false = ne_eqb k 0 (λ z. no_cons q old (first z)) in rw no refl

  entered_head : (m : ℕ) (old : List (Period I)) (p next : Period I) (x : S) → entered net m (spot (old ++ p ∷ []) next 0) x ≡ net.reinitialize m next (net.change m (old ++ p ∷ []) x)
  entered_head m old p next x = rw (not_first old p) refl

  at_end : (past : Past S V) (old : List (Period I)) (p : Period I) (m n : ℕ) (k : ℕ) → (k ≡ 0 → old ≡ []) → state_before net past m (spot old p k) n ≡ plain past m n
  unfolding state_before plain
  at_end past old p m zero k first = ap Some (entered_plain m old p k (net.start m) first)
  at_end past old p m (suc n) k first = map_same _ _ (past m n) (λ t. entered_plain m old p k t.state first)

  at_head : (past : Past S V) (old : List (Period I)) (p next : Period I) (m n : ℕ)
      → state_before net past m (spot (old ++ p ∷ []) next 0) n ≡ option_map (λ x. net.reinitialize m next (net.change m (old ++ p ∷ []) x)) (plain past m n)
  unfolding state_before plain
  at_head past old p next m zero = ap Some (entered_head m old p next (net.start m))
  at_head past old p next m (suc n) = map_same _ _ (past m n) (λ t. entered_head m old p next t.state) ∙ sym (map_map _ _ (past m n))

  plain_more : (past more : Past S V) → Less past more → (m n : ℕ) (x : S) → plain past m n ≡ Some x → plain more m n ≡ Some x
  unfolding plain
  plain_more past more less m zero x h = h
  plain_more past more less m (suc n) x h = map_more _ _ _ x (less.keeps m n) h

  longer_known : (old : List (Period I)) (p next : Period I) (reads : ℕ → List V) (f : ℕ) → Less (known net (run_of old p reads) f) (known net (run_of (old ++ p ∷ []) next reads) f)
  longer_known old p next reads f = let e : 0 + f ≡ f = omega arith in
      subst (λ k. Less (known net (run_of old p reads) f) (known net (run_of (old ++ p ∷ []) next reads) k)) e (known_more net (run_of old p reads) (run_of (old ++ p ∷ []) next reads) (longer_next old p next reads) f 0)

  head_state : (past more : Past S V) (old : List (Period I)) (p next : Period I) (m n k : ℕ) (b : S) → Less past more → (k ≡ 0 → old ≡ [])
      → option_map (net.change m (old ++ p ∷ [])) (state_before net past m (spot old p k) n) ≡ Some b
      → state_before net more m (spot (old ++ p ∷ []) next 0) n ≡ Some (net.reinitialize m next b)
  head_state past more old p next m n k b less first h =
      let changed : option_map (net.change m (old ++ p ∷ [])) (plain past m n) ≡ Some b = ap (option_map (net.change m (old ++ p ∷ []))) (sym (at_end past old p m n k first)) ∙ h in
      at_head more old p next m n ∙ map_more _ _ _ _ (plain_more past more less m n) (sym (map_map (net.change m (old ++ p ∷ [])) (net.reinitialize m next) (plain past m n)) ∙ ap (option_map (net.reinitialize m next)) changed)

  holds_next : (past more : Past S V) (ps qs : List (Period I)) (e r w r2 w2 : ℕ) (xs : List V) → Less past more → r2 ≡ r → w2 ≡ w → Holds net ps past e r w xs → Holds net (ps ++ qs) more e r2 w2 xs
  holds_next past more ps qs e r w r2 w2 xs less same_r same_w held = record {
    count = rw (same_r, same_w) held.count;
    items = λ j x at. rw same_r (place_more net ps qs past more less e (r + j) x (held.items j x at));
  }

  pub install_stands : (old : List (Period I)) (p next : Period I) (reads : ℕ → List V) (f : ℕ) (y z : Play S V)
      → AreActive net old p y → Crosses net old p reads f y → Installed net next y z → Stands net (old ++ p ∷ []) next reads f z
  install_stands old p next reads f y z active crosses installed = record {
    has_values = λ m n below. (let v = crosses.has_values m n (subst (λ k. n < k) (upto m) below) in (v.0, less.keeps m n v.0 v.1));
    states = λ m x at plain_one. (let b = installed.states m x at plain_one in
        subst (λ k. state_before net more m (spot (old ++ p ∷ []) next k) (sum_by (count m) (old ++ p ∷ []) + k) ≡ Some x) (sym (installed.turns m))
        (subst (λ (n : ℕ). state_before net more m (spot (old ++ p ∷ []) next 0) n ≡ Some x) (sym (whole m))
        (head_state past more old p next m (sum_by (count m) old + slice_index p.counts m) (slice_index p.counts m) b.0 less (active m b.0 b.1 plain_one) (crosses.states m b.0 b.1 plain_one) ∙ ap Some (sym b.2))));
    lists = λ e inside. (subst (λ (xs : List V). Holds net ((old ++ p ∷ []) ++ next ∷ []) more e (sum_by (taken net e) (old ++ p ∷ []) + slice_index z.turns (net.reader e) * slice_index next.reads e)
        (sum_by (written net e) (old ++ p ∷ []) + slice_index z.turns (net.writer e) * slice_index next.writes e) xs) (ap (λ (l : List (List V)). slice_index_or l e []) (sym installed.lists))
        (holds_next past more (old ++ p ∷ []) (next ∷ []) e _ _ _ _ _ less (sum_same (taken net e) old p (slice_index z.turns (net.reader e)) _ (installed.turns (net.reader e)))
        (sum_same (written net e) old p (slice_index z.turns (net.writer e)) _ (installed.turns (net.writer e))) (crosses.lists e inside)));
  }
    where
      past : Past S V
      past = known net (run_of old p reads) f

      more : Past S V
      more = known net (run_of (old ++ p ∷ []) next reads) f

      less : Less past more
      less = longer_known old p next reads f

      whole : (m : ℕ) → sum_by (count m) (old ++ p ∷ []) + 0 ≡ sum_by (count m) old + slice_index p.counts m
      whole m = ap (λ k. k + 0) (sum_by_push (count m) old p) ∙ omega arith

      upto : (m : ℕ) → sum_by (count m) (old ++ p ∷ []) + slice_index z.turns m ≡ sum_by (count m) old + slice_index p.counts m
      upto m = rw (installed.turns m) (whole m)

  pub change_crosses : (old : List (Period I)) (p : Period I) (reads : ℕ → List V) (f : ℕ) (y z : Play S V)
      → ((m : ℕ) → slice_index y.turns m ≡ slice_index p.counts m) → Stands net old p reads f y → Changed net old p y z → Crosses net old p reads f z
  change_crosses old p reads f y z turns stands changed = record {
    turns = λ m. ap (λ (l : List ℕ). slice_index l m) changed.turns ∙ turns m;
    has_values = λ m n below. stands.has_values m n (subst (λ k. n < sum_by (count m) old + k) (sym (turns m)) below);
    states = λ m x at plain_one. (let b = changed.states m x at plain_one in
        ap (option_map (net.change m (old ++ p ∷ []))) (subst (λ k. state_before net past m (spot old p k) (sum_by (count m) old + k) ≡ Some b.0) (turns m) (stands.states m b.0 b.1 plain_one)) ∙ ap Some (sym b.2));
    lists = λ e inside. subst (λ (ls : List (List V)). Holds net (old ++ p ∷ []) past e (sum_by (taken net e) old + taken net e p) (sum_by (written net e) old + written net e p) (slice_index_or ls e [])) (sym changed.lists)
        (subst (λ r. Holds net (old ++ p ∷ []) past e (sum_by (taken net e) old + r * slice_index p.reads e) (sum_by (written net e) old + written net e p) (slice_index_or y.lists e [])) (turns (net.reader e))
        (subst (λ w. Holds net (old ++ p ∷ []) past e (sum_by (taken net e) old + slice_index y.turns (net.reader e) * slice_index p.reads e) (sum_by (written net e) old + w * slice_index p.writes e) (slice_index_or y.lists e [])) (turns (net.writer e))
        (stands.lists e inside)));
  }
    where
      past : Past S V
      past = known net (run_of old p reads) f
