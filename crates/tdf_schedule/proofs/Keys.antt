-- The key of an actor's next firing, joined from the keys of what it needs.
use Rattle.std.proofs.Common.{◌≡◌, ◌∙◌, ℕ, zero, suc, ◌+◌, ◌-◌, ◌*◌, ◌/◌, ◌<◌, ◌≤◌, ◌⊎◌, inl, inr, Option, Some, None, List, length, max, refl, sym, ap, subst, arith}
use Rattle.std.proofs.Math.ListN.{get_or}
use Rattle.std.proofs.Math.Nat.{div-mul-le_self}
use Rattle.std.proofs.lemmas.Nat.{le-div}
use Rattle.std.proofs.lemmas.Bool.{cases_eq, cases_lt, lt-ltb, le-ltb}
use Rattle.std.proofs.lemmas.List.Elements.{All-contains}
use Rattle.std.proofs.lemmas.Option.{slice_get-get_or, slice_get_within, slice_get_read, get_or_from_slice_get}
use Rattle.std.specs.Prelude.{slice_get, Contains, All}
use Rattle.tdf_graph.specs.Ranges.{IsEdge}
use Rattle.tdf_graph.specs.declared.actors.Edge.{Edge}
use Rattle.tdf_schedule.specs.Needs.{Takes, Needs, Within, HasKey}
use Rattle.tdf_schedule.specs.declared.key.Key.{Key}
use Rattle.tdf_schedule.specs.views.Table.{last_of, need_of, row_at, AreLow, HasKeys, IsStuck, key_of, joined, IsNoLater, MeetsNeed, IsJoined, IsStart, AreInputs}

pub some_same : {A : Type 0} {x y : A} → Some x ≡ Some y → x ≡ y
some_same {A} {x} e = ap (held x) e
  where
    held : {A : Type 0} → A → Option A → A
    held d None = d
    held d (Some z) = z

pub none_some : {A : Type 0} {x : A} → None ≡ Some x → ⊥
none_some {A} e = subst none_only e tt
  where
    none_only : {A : Type 0} → Option A → Type 0
    none_only None = Unit {0}
    none_only (Some x) = ⊥

pub div_more : (k : ℕ) → 1 ≤ k → (x y : ℕ) → x ≤ y → x / k ≤ y / k
div_more k some x y less = le-div (x / k) y k some (let h = div-mul-le_self x k in omega (arith, h, less))

pub contains_at : {A : Type 0} (xs : List A) (x : A) → Contains xs x → (n : ℕ) × (slice_get xs n ≡ Some x)
contains_at xs x found = (found.0, slice_get_read xs (length xs) found.0 x refl found.1 (sym found.2))

pub at_contains : {A : Type 0} (xs : List A) (n : ℕ) (x : A) → slice_get xs n ≡ Some x → Contains xs x
at_contains xs n x is = (n, slice_get_within xs n x is, get_or_from_slice_get xs n x x is)

module _ (edges : List Edge) (pace : ℕ → ℕ) where
  -- more steps and more time
  pub within_more : (f g o p m a : ℕ) → f ≤ g → o ≤ p → Within edges pace f o m a → Within edges pace g p m a
  unfolding Within
  within_more zero g o p m a steps time is = absurd is
  within_more (suc f) zero o p m a steps time is = absurd (omega (arith, steps))
  within_more (suc f) (suc g) o p m a steps time is =
      ((let d = is.0 in omega (arith, d, time)), λ n b needs. within_more f g o p n b (omega (arith, steps)) time (is.1 n b needs))

  -- an earlier firing of the same actor
  pub within_earlier : (f o m a b : ℕ) → b ≤ a → Within edges pace f o m a → Within edges pace f o m b
  unfolding Within
  within_earlier zero o m a b less is = absurd is
  within_earlier (suc f) o m a b less is = go (cases_eq b a) (λ c earlier below. within_earlier f o m c b earlier below)
    where
      go : (b ≡ a) ⊎ (b ≡ a → ⊥) → ((c : ℕ) → b ≤ c → Within edges pace f o m c → Within edges pace f o m b) → Within edges pace (suc f) o m b
      go (inl same) below = subst (λ n. Within edges pace (suc f) o m n) (sym same) is
      go (inr other) below = within_more f (suc f) o o m b (omega arith) (omega arith)
          (below (a - 1) (omega (arith, less, other)) (is.1 m (a - 1) (inl (refl, omega (arith, less, other)))))

  -- the firing that the last sample needs is needed
  pub need_is : (e : Edge) (a b : ℕ) → Contains edges e → 1 ≤ e.read_rate → need_of e a ≡ Some b → Needs edges e.reader a e.writer b
  need_is e a b there some is = inr (go (cases_lt (last_of e a) e.initial))
    where
      go : (last_of e a < e.initial) ⊎ (e.initial ≤ last_of e a) → Takes edges e.reader a e.writer b
      go (inl early) = absurd (none_some (sym (rw (lt-ltb (last_of e a) e.initial early) refl) ∙ is))
      go (inr late) = record {
        edge = e;
        there = there;
        reads = refl;
        writes = refl;
        place = last_of e a;
        low = omega arith;
        high = omega (arith, some);
        late = late;
        made = some_same (sym is ∙ rw (le-ltb (last_of e a) e.initial late) refl);
      }

  -- what a sample needs, the last sample of the firing needs or a later one
  pub need_last : (e : Edge) (a x : ℕ) → 1 ≤ e.write_rate → x < a * e.read_rate + e.read_rate → e.initial ≤ x
      → (b : ℕ) × (need_of e a ≡ Some b) × ((x - e.initial) / e.write_rate ≤ b)
  need_last e a x some high late = (
    (last_of e a - e.initial) / e.write_rate,
    rw (le-ltb (last_of e a) e.initial (omega (arith, late, high))) refl,
    div_more e.write_rate some (x - e.initial) (last_of e a - e.initial) (omega (arith, high)),
  )

unfolding_level : (x y : Key) → (joined x y).level ≡ max x.level y.level
unfolding joined
unfolding_level x y = refl

unfolding_offset : (x y : Key) → (joined x y).offset ≡ max x.offset y.offset
unfolding joined
unfolding_offset x y = refl

pub first_no_later : (x y : Key) → IsNoLater x (joined x y)
first_no_later x y = record { level = (let e = unfolding_level x y in omega (arith, e)); offset = (let e = unfolding_offset x y in omega (arith, e)) }

pub second_no_later : (x y : Key) → IsNoLater y (joined x y)
second_no_later x y = record { level = (let e = unfolding_level x y in omega (arith, e)); offset = (let e = unfolding_offset x y in omega (arith, e)) }

pub later_on : (x y z : Key) → IsNoLater x y → IsNoLater y z → IsNoLater x z
later_on x y z one other = record { level = (let a = one.level in let b = other.level in omega (arith, a, b)); offset = (let a = one.offset in let b = other.offset in omega (arith, a, b)) }

pub joined_least : (x y : Key) (f o : ℕ) → (x.level ≤ f) × (x.offset ≤ o) → (y.level ≤ f) × (y.offset ≤ o) → ((joined x y).level ≤ f) × ((joined x y).offset ≤ o)
joined_least x y f o one other = (
  (let e = unfolding_level x y in let a = one.0 in let b = other.0 in omega (arith, e, a, b)),
  (let e = unfolding_offset x y in let a = one.1 in let b = other.1 in omega (arith, e, a, b)),
)

module _ (edges : List Edge) (pace : ℕ → ℕ) (table : List (List Key)) (m : ℕ) (inputs : List ℕ) (fit : All (IsEdge (length table)) edges) (keys : HasKeys edges pace table) (low : AreLow table) where
  due_of : (f o a : ℕ) → Within edges pace (suc f) o m a → a * pace m ≤ o
  unfolding Within
  due_of f o a is = is.0

  needs_of : (f o a n b : ℕ) → Within edges pace (suc f) o m a → Needs edges m a n b → Within edges pace f o n b
  unfolding Within
  needs_of f o a n b is needs = is.1 n b needs

  pub start_joined : (due : ℕ) (r : Key) → due ≡ length (row_at table m) * pace m → IsStart (row_at table m) due r → IsJoined edges pace table m (length (row_at table m)) inputs 0 r
  start_joined due r due_is (inl p) = record {
    due = let e = ap (λ (k : Key). k.offset) p.1 in omega (arith, e, due_is);
    few = let e = ap (λ (k : Key). k.level) p.1 in omega (arith, e);
    own = λ b is. absurd (let e = ap length p.0 in omega (arith, e, is));
    met = λ j n b e less. absurd (omega (arith, less));
    least = λ f o is. (
      (let e = ap (λ (k : Key). k.level) p.1 in omega (arith, e)),
      (let e = ap (λ (k : Key). k.offset) p.1 in let d = due_of f o (length (row_at table m)) is in omega (arith, e, due_is, d)),
    );
  }
  start_joined due r due_is (inr p) = record {
    due = let q = subst (IsNoLater (key_of 0 due)) (sym r_is) (first_no_later (key_of 0 due) k) in let h = q.offset in omega (arith, h, due_is);
    few = let e = ap (λ (x : Key). x.level) r_is ∙ unfolding_level (key_of 0 due) k in let l = low m (length (row_at table m) - 1) k k_is in omega (arith, e, l);
    own = λ b is. (k, subst (λ n. slice_get (row_at table m) n ≡ Some k) (omega (arith, is)) k_is, subst (IsNoLater k) (sym r_is) (second_no_later (key_of 0 due) k));
    met = λ j n b e less. absurd (omega (arith, less));
    least = λ f o is. subst (λ (x : Key). (x.level ≤ f) × (x.offset ≤ o)) (sym r_is) (joined_least (key_of 0 due) k f o
        (omega arith, (let d = due_of f o (length (row_at table m)) is in omega (arith, due_is, d)))
        ((keys m (length (row_at table m) - 1) k k_is).least f o (needs_of f o (length (row_at table m)) m (length (row_at table m) - 1) is (inl (refl, omega (arith, some))))));
  }
    where
      k : Key
      k = p.0

      k_is : slice_get (row_at table m) (length (row_at table m) - 1) ≡ Some k
      k_is = p.1

      some : 0 < length (row_at table m)
      some = p.2

      r_is : r ≡ joined (key_of 0 due) k
      r_is = p.3

  module _ (a i n : ℕ) (e : Edge) (r : Key) (before : IsJoined edges pace table m a inputs i r) (n_is : slice_get inputs i ≡ Some n) (e_is : slice_get edges n ≡ Some e) (reads : e.reader ≡ m) where
    edge_fits : IsEdge (length table) e
    edge_fits = All-contains (IsEdge (length table)) edges e fit (at_contains edges n e e_is)

    same_edge : (j k : ℕ) (x : Edge) → j ≡ i → slice_get inputs j ≡ Some k → slice_get edges k ≡ Some x → x ≡ e
    same_edge j k x j_is k_is x_is = some_same (sym x_is ∙ ap (slice_get edges) (some_same (sym k_is ∙ ap (slice_get inputs) j_is ∙ n_is)) ∙ e_is)

    pub stuck_here : (d : Option ℕ) → need_of e (length (row_at table m)) ≡ d → MeetsNeed table e d r None → IsStuck edges table m
    stuck_here None is met = absurd (none_some met)
    stuck_here (Some b) is met = record { edge = e; there = at_contains edges n e e_is; reads = reads; firing = b; needs = is; absent = met }

    pub joined_next : (d : Option ℕ) (next : Key) → need_of e a ≡ d → MeetsNeed table e d r (Some next) → IsJoined edges pace table m a inputs (i + 1) next
    joined_next None next is met = subst (IsJoined edges pace table m a inputs (i + 1)) (sym (some_same met)) (record {
      due = before.due;
      few = before.few;
      own = before.own;
      met = λ j k b x less k_is x_is b_is. go j k b x less k_is x_is b_is (cases_eq j i);
      least = before.least;
    })
      where
        go : (j k b : ℕ) (x : Edge) → j < i + 1 → slice_get inputs j ≡ Some k → slice_get edges k ≡ Some x → need_of x a ≡ Some b → (j ≡ i) ⊎ (j ≡ i → ⊥)
            → (q : Key) × (slice_get (row_at table x.writer) b ≡ Some q) × IsNoLater q r
        go j k b x less k_is x_is b_is (inl same) = absurd (none_some (sym is ∙ ap (λ (y : Edge). need_of y a) (sym (same_edge j k x same k_is x_is)) ∙ b_is))
        go j k b x less k_is x_is b_is (inr other) = before.met j k b x (omega (arith, less, other)) k_is x_is b_is
    joined_next (Some c) next is met = subst (IsJoined edges pace table m a inputs (i + 1)) (sym met.2) (record {
      due = let d = before.due in let q = first_no_later r met.0 in let h = q.offset in omega (arith, d, h);
      few = let e2 = unfolding_level r met.0 in let l = low e.writer c met.0 met.1 in let b = before.few in omega (arith, e2, l, b);
      own = λ b b_is. let o = before.own b b_is in (o.0, o.1, later_on o.0 r (joined r met.0) o.2 (first_no_later r met.0));
      met = λ j k b x less k_is x_is b_is. go j k b x less k_is x_is b_is (cases_eq j i);
      least = λ f o within. joined_least r met.0 f o (before.least f o within)
          ((keys e.writer c met.0 met.1).least f o (needs_of f o a e.writer c within
          (subst (λ p. Needs edges p a e.writer c) reads (need_is edges pace e a c (at_contains edges n e e_is) edge_fits.reads.some is))));
    })
      where
        go : (j k b : ℕ) (x : Edge) → j < i + 1 → slice_get inputs j ≡ Some k → slice_get edges k ≡ Some x → need_of x a ≡ Some b → (j ≡ i) ⊎ (j ≡ i → ⊥)
            → (q : Key) × (slice_get (row_at table x.writer) b ≡ Some q) × IsNoLater q (joined r met.0)
        go j k b x less k_is x_is b_is (inl same) =
            let x_same = same_edge j k x same k_is x_is in
            let b_same : b ≡ c = some_same (sym b_is ∙ ap (λ (y : Edge). need_of y a) x_same ∙ is) in (
              met.0,
              subst (λ (y : Edge). slice_get (row_at table y.writer) b ≡ Some met.0) (sym x_same) (subst (λ q. slice_get (row_at table e.writer) q ≡ Some met.0) (sym b_same) met.1),
              second_no_later r met.0,
            )
        go j k b x less k_is x_is b_is (inr other) =
            let q = before.met j k b x (omega (arith, less, other)) k_is x_is b_is in (q.0, q.1, later_on q.0 r (joined r met.0) q.2 (first_no_later r met.0))

  -- one level above all that is needed
  module _ (a : ℕ) (r : Key) (all : AreInputs edges m inputs) (is : IsJoined edges pace table m a inputs (length inputs) r) where
    reached : Within edges pace (suc r.level) r.offset m a
    unfolding Within
    reached = (is.due, λ n b needs. need n b needs)
      where
        own : (n b : ℕ) → n ≡ m → b + 1 ≡ a → Within edges pace r.level r.offset n b
        own n b n_is b_is =
            let o = is.own b b_is in
            let late = o.2 in
            subst (λ p. Within edges pace r.level r.offset p b) (sym n_is) (within_more edges pace o.0.level r.level o.0.offset r.offset m b late.level late.offset (keys m b o.0 o.1).within)

        taken : (n b : ℕ) → Takes edges m a n b → Within edges pace r.level r.offset n b
        taken n b takes =
            let at = contains_at edges takes.edge takes.there in
            let place = all.all at.0 takes.edge at.1 takes.reads in
            let fits = All-contains (IsEdge (length table)) edges takes.edge fit takes.there in
            let last = need_last edges pace takes.edge a takes.place fits.writes.some takes.high takes.late in
            let q = is.met place.0 at.0 last.0 takes.edge (slice_get_within inputs place.0 at.0 place.1) place.1 at.1 last.1 in
            let late = q.2 in
            subst (λ p. Within edges pace r.level r.offset p b) takes.writes
            (within_earlier edges pace r.level r.offset takes.edge.writer last.0 b (subst (λ k. k ≤ last.0) (sym takes.made) last.2)
            (within_more edges pace q.0.level r.level q.0.offset r.offset takes.edge.writer last.0 late.level late.offset (keys takes.edge.writer last.0 q.0 q.1).within))

        need : (n b : ℕ) → Needs edges m a n b → Within edges pace r.level r.offset n b
        need n b (inl p) = own n b p.0 p.1
        need n b (inr takes) = taken n b takes

    above_least : (f o : ℕ) → Within edges pace f o m a → (r.level + 1 ≤ f) × (r.offset ≤ o)
    unfolding Within
    above_least zero o within = absurd within
    above_least (suc f) o within = let l = is.least f o within in ((let h = l.0 in omega (arith, h)), l.1)

    pub next_key : HasKey edges pace m a (key_of (r.level + 1) r.offset)
    next_key = record {
      within = subst (λ n. Within edges pace n r.offset m a) (omega arith) reached;
      least = above_least;
    }

-- the edge that an input names, as the code reads it
module _ (edges : List Edge) (count m : ℕ) (inputs : List ℕ) (i : ℕ) (d : Edge) (fit : All (IsEdge count) edges) (all : AreInputs edges m inputs) (here : i < length inputs) where
  pub number_is : slice_get inputs i ≡ Some (get_or inputs i 0)
  number_is = slice_get-get_or inputs i 0 here

  pub input_within : get_or inputs i 0 < length edges
  input_within = let e = all.only i (get_or inputs i 0) number_is in slice_get_within edges (get_or inputs i 0) e.0 e.1

  pub input_is : slice_get edges (get_or inputs i 0) ≡ Some (get_or edges (get_or inputs i 0) d)
  input_is = slice_get-get_or edges (get_or inputs i 0) d input_within

  pub input_reads : (get_or edges (get_or inputs i 0) d).reader ≡ m
  input_reads = let e = all.only i (get_or inputs i 0) number_is in
      ap (λ (x : Edge). x.reader) (some_same (sym input_is ∙ e.1)) ∙ e.2

  pub input_fits : IsEdge count (get_or edges (get_or inputs i 0) d)
  input_fits = All-contains (IsEdge count) edges (get_or edges (get_or inputs i 0) d) fit (at_contains edges (get_or inputs i 0) _ input_is)

-- one edge more, as the code meets it
module _ (edges : List Edge) (pace : ℕ → ℕ) (table : List (List Key)) (m : ℕ) (inputs : List ℕ) (fit : All (IsEdge (length table)) edges) (keys : HasKeys edges pace table) (low : AreLow table)
    (all : AreInputs edges m inputs) (i firing : ℕ) (d : Edge) (r : Key) (here : i < length inputs) (firing_is : firing ≡ length (row_at table m))
    (before : IsJoined edges pace table m (length (row_at table m)) inputs i r) where
  abbrev e : Edge
  e = get_or edges (get_or inputs i 0) d

  pub stuck_at : MeetsNeed table (get_or edges (get_or inputs i 0) d) (need_of (get_or edges (get_or inputs i 0) d) firing) r None → IsStuck edges table m
  stuck_at met = stuck_here edges pace table m inputs fit keys low (length (row_at table m)) i (get_or inputs i 0) e r before
      (number_is edges (length table) m inputs i d fit all here) (input_is edges (length table) m inputs i d fit all here) (input_reads edges (length table) m inputs i d fit all here)
      (need_of e (length (row_at table m))) refl (subst (λ n. MeetsNeed table e (need_of e n) r None) firing_is met)

  pub joined_at : (next : Key) → MeetsNeed table (get_or edges (get_or inputs i 0) d) (need_of (get_or edges (get_or inputs i 0) d) firing) r (Some next)
      → IsJoined edges pace table m (length (row_at table m)) inputs (i + 1) next
  joined_at next met = joined_next edges pace table m inputs fit keys low (length (row_at table m)) i (get_or inputs i 0) e r before
      (number_is edges (length table) m inputs i d fit all here) (input_is edges (length table) m inputs i d fit all here) (input_reads edges (length table) m inputs i d fit all here)
      (need_of e (length (row_at table m))) next refl (subst (λ n. MeetsNeed table e (need_of e n) r (Some next)) firing_is met)
