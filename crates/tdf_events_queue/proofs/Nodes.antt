-- The tree of pending notifications: what changes with an event, and what stands at its root.
use Rattle.std.proofs.Common.{◌≡◌, ◌≢◌, ◌∙◌, ℕ, zero, suc, ◌+◌, ◌-◌, ◌*◌, ◌/◌, ◌<◌, ◌≤◌, true, false, if◌then◌else◌, List, [], ◌∷◌, length, length-set, slice_set, get_or-set_same, get_or-set_other, Option, Some, None, refl, ap, sym, subst, inl, inr, arith, nat_eq, nat_lt}
use Rattle.std.proofs.lemmas.Bool.{cases_eq, cases_lt, true≢false}
use Rattle.std.proofs.lemmas.List.{get_or-replicate, get_or_past, length-replicate}
use Rattle.std.proofs.lemmas.Option.{get_or_from_slice_get, slice_get_read}
use Rattle.std.specs.Prelude.{◌⊎◌, is_some, option_map, replicate, slice_index_or}
use Rattle.tdf_events_queue.specs.declared.calendar.Pending.{Pending}
use Rattle.tdf_events_queue.specs.Times.{IsNextPending, pending_time}
use Rattle.tdf_events_queue.specs.machine.Calendar.{AreEarlier, AreEarlierBut, AreLeaves, IsCancelled, IsChanged, IsEarlierAt, IsEarlierOf, IsNoLater, IsNoticed, earlier_of, is_after, is_of, leaf_of, node_at}

none_some : {A : Type 0} {P : Type 0} (o : Option A) (a : A) → o ≡ None → o ≡ Some a → P
none_some o a e f = absurd (grind (arith, e, f))

some_one : {A : Type 0} (a b : A) → Some a ≡ Some b → a ≡ b
some_one a b h = grind (arith, h)

abbrev nothing : Option Pending
nothing = None

abbrev never : Option ℕ
never = None

lt_true : (a b : ℕ) → a < b → nat_lt a b ≡ true
lt_true a b less = grind (arith, less)

lt_false : (a b : ℕ) → b ≤ a → nat_lt a b ≡ false
lt_false a b low = grind (arith, low)

lt_from : (a b : ℕ) → nat_lt a b ≡ true → a < b
lt_from a b is = grind (arith, is)

ge_from : (a b : ℕ) → nat_lt b a ≡ false → a ≤ b
ge_from a b is = grind (arith, is)

-- what was read at a place
pub stands : (nodes : List (Option Pending)) (place : ℕ) (r : Option Pending) → place < length nodes → r ≡ slice_index_or nodes place r → r ≡ node_at nodes place
stands nodes place r within read = sym (get_or_from_slice_get nodes place r None (slice_get_read nodes (length nodes) place r refl within read))

-- another node is as it was
pub other_node : (nodes : List (Option Pending)) (set place : ℕ) (x : Option Pending) → place ≢ set → node_at (slice_set nodes set x) place ≡ node_at nodes place
other_node nodes set place x apart = get_or-set_other nodes set place x None apart

-- a node that is set and set back
pub set_back : (nodes : List (Option Pending)) (at : ℕ) (x : Option Pending) → at < length nodes → slice_set (slice_set nodes at x) at (node_at nodes at) ≡ nodes
set_back [] at x less = absurd (omega (arith, less))
set_back (y ∷ nodes) zero x less = refl
set_back (y ∷ nodes) (suc at) x less = ap (λ ns. y ∷ ns) (set_back nodes at x (omega (arith, less)))

-- one that is no later than another
later_same : (o : Option Pending) → IsNoLater o o
later_same o = record { least = λ p is. (p, is, omega arith) }

later_then : (a b c : Option Pending) → IsNoLater a b → IsNoLater b c → IsNoLater a c
later_then a b c one other = record { least = λ p is. (let x = other.least p is in let y = one.least x.0 x.1 in let l = x.2 in let k = y.2 in (y.0, y.1, omega (arith, l, k))) }

pub earlier_is : (a b : Option Pending) → IsEarlierOf a b (earlier_of a b)
earlier_is None b = record { is = inr refl; left_least = record { least = λ p is. absurd cc }; right_least = later_same b }
earlier_is (Some p) None = record { is = inl refl; left_least = later_same (Some p); right_least = record { least = λ q is. absurd cc } }
earlier_is (Some p) (Some q) = elim (cases_lt q.time p.time) [
  | inl less ↦ (let e : earlier_of (Some p) (Some q) ≡ Some q = ap (λ b. if b then Some q else Some p) (lt_true q.time p.time less) in
      record { is = inr e; left_least = record { least = λ x is. (q, e, (let s = ap (λ (y : Pending). y.time) (some_one p x is) in omega (arith, less, s))) }; right_least = subst (λ o. IsNoLater o (Some q)) (sym e) (later_same (Some q)) })
  | inr low ↦ (let e : earlier_of (Some p) (Some q) ≡ Some p = ap (λ b. if b then Some q else Some p) (lt_false q.time p.time low) in
      record { is = inl e; left_least = subst (λ o. IsNoLater o (Some p)) (sym e) (later_same (Some p)); right_least = record { least = λ x is. (p, e, (let s = ap (λ (y : Pending). y.time) (some_one q x is) in omega (arith, low, s))) } })
]

flip : (a b c : Option Pending) → IsEarlierOf a b c → IsEarlierOf b a c
flip a b c h = record { is = elim h.is [ inl l ↦ inr l | inr r ↦ inl r ]; left_least = h.right_least; right_least = h.left_least }

-- the node above one that changed: what stands beside that, and what the node above was the earlier of
pub record Above (was : Option Pending) (at : ℕ) (nodes : List (Option Pending)) : Type 0 where
  pub beside : Option Pending
  pub stood : IsEarlierOf was beside (node_at nodes (at / 2))
  pub fold : (y : Option Pending) → IsEarlierOf (node_at nodes at) beside y → IsEarlierOf (node_at nodes (2 * (at / 2))) (node_at nodes (2 * (at / 2) + 1)) y
  pub opens : (y : Option Pending) → IsEarlierOf (node_at nodes (2 * (at / 2))) (node_at nodes (2 * (at / 2) + 1)) y → IsEarlierOf (node_at nodes at) beside y

module _ (was : Option Pending) (at : ℕ) (nodes : List (Option Pending)) (within : 2 * (at / 2) + 1 < length nodes) (changed : IsChanged was at nodes) where
  abbrev old : List (Option Pending)
  old = slice_set nodes at was

  long : length old ≡ length nodes
  long = length-set nodes at was

  inside : at < length nodes
  inside = omega (arith, within)

  above : 1 < at → Above was at nodes
  above some = elim (cases_eq at (2 * (at / 2))) [
    | inl left ↦ record {
      beside = node_at nodes (2 * (at / 2) + 1);
      stood = subst (λ o. IsEarlierOf was o (node_at nodes (at / 2))) (other_node nodes at (2 * (at / 2) + 1) was (λ e. omega (arith, e, left)))
          (subst (λ o. IsEarlierOf o (node_at old (2 * (at / 2) + 1)) (node_at nodes (at / 2))) (ap (node_at old) (sym left) ∙ get_or-set_same nodes at was None inside) up);
      fold = λ y h. subst (λ k. IsEarlierOf (node_at nodes k) (node_at nodes (2 * (at / 2) + 1)) y) left h;
      opens = λ y h. subst (λ k. IsEarlierOf (node_at nodes k) (node_at nodes (2 * (at / 2) + 1)) y) (sym left) h;
    }
    | inr apart ↦ (let right : at ≡ 2 * (at / 2) + 1 = omega (arith, apart) in record {
      beside = node_at nodes (2 * (at / 2));
      stood = flip _ _ _ (subst (λ o. IsEarlierOf o was (node_at nodes (at / 2))) (other_node nodes at (2 * (at / 2)) was (λ e. apart (sym e)))
          (subst (λ o. IsEarlierOf (node_at old (2 * (at / 2))) o (node_at nodes (at / 2))) (ap (node_at old) (sym right) ∙ get_or-set_same nodes at was None inside) up));
      fold = λ y h. flip _ _ _ (subst (λ k. IsEarlierOf (node_at nodes k) (node_at nodes (2 * (at / 2))) y) right h);
      opens = λ y h. subst (λ k. IsEarlierOf (node_at nodes k) (node_at nodes (2 * (at / 2))) y) (sym right) (flip _ _ _ h);
    })
  ]
    where
      up : IsEarlierOf (node_at old (2 * (at / 2))) (node_at old (2 * (at / 2) + 1)) (node_at nodes (at / 2))
      up = subst (IsEarlierOf (node_at old (2 * (at / 2))) (node_at old (2 * (at / 2) + 1))) (other_node nodes at (at / 2) was (λ e. omega (arith, e, some)))
          (changed.tree (at / 2) (omega (arith, some)) (omega (arith, within, long)) (λ e. omega (arith, e, some)))

  -- all but the node above are the earlier of those below them
  pub others : AreEarlierBut (at / 2) nodes
  others q low high apart = elim (cases_eq q at) [
    | inl same ↦ subst (λ k. IsEarlierAt k nodes) (sym same) (changed.own (omega (arith, same, low)) (omega (arith, same, high)))
    | inr other ↦ subst (IsEarlierOf (node_at nodes (2 * q)) (node_at nodes (2 * q + 1))) (other_node nodes at q was other)
        (subst (λ o. IsEarlierOf (node_at nodes (2 * q)) o (node_at old q)) (other_node nodes at (2 * q + 1) was (λ e. apart (omega (arith, e))))
        (subst (λ o. IsEarlierOf o (node_at old (2 * q + 1)) (node_at old q)) (other_node nodes at (2 * q) was (λ e. apart (omega (arith, e))))
        (changed.tree q low (omega (arith, high, long)) other)))
  ]

  -- at the root nothing is above
  pub at_root : at ≤ 1 → AreEarlier nodes
  at_root low q some high apart = others q some high (λ e. omega (arith, e, some, low))

  -- where the node above is the earlier still, all are
  pub stays : 1 < at → ((a : Above was at nodes) → IsEarlierOf (node_at nodes at) a.beside (node_at nodes (at / 2))) → AreEarlier nodes
  stays some is q low high apart = elim (cases_eq q (at / 2)) [
    | inl same ↦ subst (λ k. IsEarlierAt k nodes) (sym same) ((above some).fold (node_at nodes (at / 2)) (is (above some)))
    | inr other ↦ others q low high other
  ]

  -- the node above changes in turn
  pub goes_up : 1 < at → (x : Option Pending) → IsEarlierOf (node_at nodes (2 * (at / 2))) (node_at nodes (2 * (at / 2) + 1)) x → IsChanged (node_at nodes (at / 2)) (at / 2) (slice_set nodes (at / 2) x)
  goes_up some x is = record {
    tree = subst (AreEarlierBut (at / 2)) (sym (set_back nodes (at / 2) x (omega (arith, within)))) others;
    own = λ low high. subst (λ o. IsEarlierOf (node_at new (2 * (at / 2))) o (node_at new (at / 2))) (sym (other_node nodes (at / 2) (2 * (at / 2) + 1) x (λ e. omega (arith, e, low))))
        (subst (λ o. IsEarlierOf o (node_at nodes (2 * (at / 2) + 1)) (node_at new (at / 2))) (sym (other_node nodes (at / 2) (2 * (at / 2)) x (λ e. omega (arith, e, low))))
        (subst (IsEarlierOf (node_at nodes (2 * (at / 2))) (node_at nodes (2 * (at / 2) + 1))) (sym (get_or-set_same nodes (at / 2) x None (omega (arith, within)))) is));
  }
    where
      new : List (Option Pending)
      new = slice_set nodes (at / 2) x

-- an earlier notification goes up
module _ (new : Pending) (at : ℕ) (nodes : List (Option Pending)) (within : 2 * (at / 2) + 1 < length nodes) (noticed : IsNoticed new at nodes) (some : 1 < at) where
  pub noticed_stays : is_after new.time (node_at nodes (at / 2)) ≡ false → AreEarlier nodes
  noticed_stays no_later = stays noticed.was at nodes within noticed.changed some (λ a. subst (λ o. IsEarlierOf o a.beside (node_at nodes (at / 2))) (sym noticed.is) (go (node_at nodes (at / 2)) no_later a.beside noticed.was noticed.after a.stood))
    where
      go : (v : Option Pending) → is_after new.time v ≡ false → (s was : Option Pending) → is_after new.time was ≡ true → IsEarlierOf was s v → IsEarlierOf (Some new) s v
      go None out s was after stood = absurd (true≢false out)
      go (Some p) out s was after stood =
          let low : p.time ≤ new.time = ge_from p.time new.time out in
          record {
            is = elim stood.is [ inl l ↦ absurd (true≢false (sym after ∙ ap (is_after new.time) (sym l) ∙ out)) | inr r ↦ inr r ];
            left_least = record { least = λ q e. (p, refl, (let s = ap (λ (y : Pending). y.time) (some_one new q e) in omega (arith, low, s))) };
            right_least = stood.right_least;
          }

  pub noticed_up : is_after new.time (node_at nodes (at / 2)) ≡ true → IsNoticed new (at / 2) (slice_set nodes (at / 2) (Some new))
  noticed_up later = record {
    was = node_at nodes (at / 2);
    changed = goes_up noticed.was at nodes within noticed.changed some (Some new) ((above noticed.was at nodes within noticed.changed some).fold (Some new) (subst (λ o. IsEarlierOf o (above noticed.was at nodes within noticed.changed some).beside (Some new)) (sym noticed.is)
        (go (node_at nodes (at / 2)) later (above noticed.was at nodes within noticed.changed some).beside noticed.was (above noticed.was at nodes within noticed.changed some).stood)));
    is = get_or-set_same nodes (at / 2) (Some new) None (omega (arith, within));
    after = later;
  }
    where
      go : (v : Option Pending) → is_after new.time v ≡ true → (s was : Option Pending) → IsEarlierOf was s v → IsEarlierOf (Some new) s (Some new)
      go v out s was stood = record {
        is = inl refl;
        left_least = later_same (Some new);
        right_least = record { least = λ q e. (new, refl, (let x = stood.right_least.least q e in let low : new.time < x.0.time = lt_from new.time x.0.time (sym (ap (is_after new.time) x.1) ∙ out) in let k = x.2 in omega (arith, low, k))) };
      }

-- a cancelled event goes up
module _ (event at : ℕ) (nodes : List (Option Pending)) (within : 2 * (at / 2) + 1 < length nodes) (cancelled : IsCancelled event at nodes) (some : 1 < at) where
  pub cancelled_stays : is_of event (node_at nodes (at / 2)) ≡ false → AreEarlier nodes
  cancelled_stays other = stays cancelled.was at nodes within cancelled.changed some (λ a. record {
    is = elim a.stood.is [ inl l ↦ absurd (true≢false (sym cancelled.of_event ∙ ap (is_of event) (sym l) ∙ other)) | inr r ↦ inr r ];
    left_least = later_then _ _ _ a.stood.left_least cancelled.least;
    right_least = a.stood.right_least;
  })

  pub cancelled_up : is_of event (node_at nodes (at / 2)) ≡ true → IsCancelled event (at / 2) (slice_set nodes (at / 2) (earlier_of (node_at nodes (2 * (at / 2))) (node_at nodes (2 * (at / 2) + 1))))
  cancelled_up of_it = record {
    was = node_at nodes (at / 2);
    changed = goes_up cancelled.was at nodes within cancelled.changed some it is;
    of_event = of_it;
    least = subst (IsNoLater (node_at nodes (at / 2))) (sym (get_or-set_same nodes (at / 2) it None (omega (arith, within)))) (elim ((above cancelled.was at nodes within cancelled.changed some).opens it is).is [
      | inl l ↦ subst (IsNoLater (node_at nodes (at / 2))) (sym l) (later_then _ _ _ (above cancelled.was at nodes within cancelled.changed some).stood.left_least cancelled.least)
      | inr r ↦ subst (IsNoLater (node_at nodes (at / 2))) (sym r) (above cancelled.was at nodes within cancelled.changed some).stood.right_least
    ]);
  }
    where
      it : Option Pending
      it = earlier_of (node_at nodes (2 * (at / 2))) (node_at nodes (2 * (at / 2) + 1))

      is : IsEarlierOf (node_at nodes (2 * (at / 2))) (node_at nodes (2 * (at / 2) + 1)) it
      is = earlier_is (node_at nodes (2 * (at / 2))) (node_at nodes (2 * (at / 2) + 1))

-- a leaf that changes
pub leaf_changed : (nodes : List (Option Pending)) (at : ℕ) (x : Option Pending) → at < length nodes → length nodes ≤ 2 * at → AreEarlier nodes → IsChanged (node_at nodes at) at (slice_set nodes at x)
leaf_changed nodes at x inside leaf before = record {
  tree = subst (AreEarlierBut at) (sym (set_back nodes at x inside)) (λ q low high apart. before q low high (λ e. omega (arith, e, low)));
  own = λ low high. absurd (let l = length-set nodes at x in omega (arith, high, leaf, l));
}

-- the leaf of an event that gets an earlier time
after_leaf : (time event : ℕ) (o : Option ℕ) → ((t : ℕ) → o ≡ Some t → time < t) → is_after time (leaf_of event o) ≡ true
after_leaf time event None earlier = refl
after_leaf time event (Some t) earlier = lt_true time t (earlier t refl)

pub put_noticed : (times : List (Option ℕ)) (nodes : List (Option Pending)) (event time leaf : ℕ) → leaf ≡ length times + event → event < length times → length nodes ≡ 2 * length times → AreLeaves times nodes → AreEarlier nodes
    → ((t : ℕ) → pending_time times event ≡ Some t → time < t) → IsNoticed (record { time = time; event = event }) leaf (slice_set nodes leaf (Some (record { time = time; event = event })))
put_noticed times nodes event time leaf place inside many leaves before earlier = record {
  was = node_at nodes leaf;
  changed = leaf_changed nodes leaf (Some (record { time = time; event = event })) (omega (arith, place, inside, many)) (omega (arith, place, many)) before;
  is = get_or-set_same nodes leaf (Some (record { time = time; event = event })) None (omega (arith, place, inside, many));
  after = ap (is_after time) (ap (node_at nodes) place ∙ leaves event inside) ∙ after_leaf time event (pending_time times event) earlier;
}

-- the leaf of an event that is cancelled
of_leaf : (event : ℕ) (o : Option ℕ) → is_some o ≡ true → is_of event (leaf_of event o) ≡ true
of_leaf event None some = absurd (true≢false (sym some))
of_leaf event (Some t) some = same event
  where
    same : (n : ℕ) → nat_eq n n ≡ true
    same n = grind arith

pub removed_cancelled : (times : List (Option ℕ)) (nodes : List (Option Pending)) (event leaf : ℕ) → leaf ≡ length times + event → event < length times → length nodes ≡ 2 * length times → AreLeaves times nodes → AreEarlier nodes
    → is_some (pending_time times event) ≡ true → IsCancelled event leaf (slice_set nodes leaf None)
removed_cancelled times nodes event leaf place inside many leaves before some = record {
  was = node_at nodes leaf;
  changed = leaf_changed nodes leaf None (omega (arith, place, inside, many)) (omega (arith, place, many)) before;
  of_event = ap (is_of event) (ap (node_at nodes) place ∙ leaves event inside) ∙ of_leaf event (pending_time times event) some;
  least = record { least = λ p is. none_some (node_at (slice_set nodes leaf None) leaf) p (get_or-set_same nodes leaf None None (omega (arith, place, inside, many))) is };
}

-- nothing is pending
none_at : (m k : ℕ) → node_at (replicate m None) k ≡ None
none_at m k = elim (cases_lt k m) [
  | inl less ↦ get_or-replicate m k None None less
  | inr past ↦ get_or_past (replicate m None) k None (let l : length (replicate m nothing) ≡ m = length-replicate {A = Option Pending} m None in omega (arith, l, past))
]

pub empty_earlier : (m : ℕ) → AreEarlier (replicate m None)
empty_earlier m q low high apart = record {
  is = inl (none_at m q ∙ sym (none_at m (2 * q)));
  left_least = record { least = λ p is. none_some (node_at (replicate m None) (2 * q)) p (none_at m (2 * q)) is };
  right_least = record { least = λ p is. none_some (node_at (replicate m None) (2 * q + 1)) p (none_at m (2 * q + 1)) is };
}

pub empty_leaves : (n m : ℕ) → AreLeaves (replicate n None) (replicate m None)
empty_leaves n m event less = none_at m (length (replicate n never) + event)
    ∙ sym (ap (leaf_of event) (get_or-replicate n event None None (let l : length (replicate n never) ≡ n = length-replicate {A = Option ℕ} n None in omega (arith, l, less))))

-- and the leaves are those of the new times
pub leaves_put : (times : List (Option ℕ)) (nodes new : List (Option Pending)) (event : ℕ) (x : Option ℕ) → event < length times → length nodes ≡ 2 * length times → AreLeaves times nodes
    → ((place : ℕ) → length nodes ≤ 2 * place → node_at new place ≡ node_at (slice_set nodes (length times + event) (leaf_of event x)) place) → AreLeaves (slice_set times event x) new
leaves_put times nodes new event x inside many leaves kept e less =
    ap (λ n. node_at new (n + e)) long ∙ kept (length times + e) (omega (arith, many)) ∙ elim (cases_eq e event) [
      | inl same ↦ subst (λ k. node_at set (length times + k) ≡ leaf_of k (pending_time (slice_set times event x) k)) (sym same)
          (get_or-set_same nodes (length times + event) (leaf_of event x) None (omega (arith, inside, many)) ∙ sym (ap (leaf_of event) (get_or-set_same times event x None inside)))
      | inr other ↦ other_node nodes (length times + event) (length times + e) (leaf_of event x) (λ q. other (omega (arith, q))) ∙ leaves e (omega (arith, less, long))
          ∙ sym (ap (leaf_of e) (get_or-set_other times event e x None other))
    ]
  where
    long : length (slice_set times event x) ≡ length times
    long = length-set times event x

    set : List (Option Pending)
    set = slice_set nodes (length times + event) (leaf_of event x)

module _ (times : List (Option ℕ)) (nodes : List (Option Pending)) (many : length nodes ≡ 2 * length times) (leaves : AreLeaves times nodes) (earlier : AreEarlier nodes) where
  abbrev node : ℕ → Option Pending
  node place = node_at nodes place

  node_is : (place : ℕ) → 0 < place → place < length times → IsEarlierAt place nodes
  node_is place some less = earlier place some (omega (arith, less, many)) (λ e. absurd (omega (arith, e, some)))

  -- from a place up to the root
  up : (fuel place : ℕ) → place ≤ fuel → 0 < place → place < 2 * length times → IsNoLater (node 1) (node place)
  up zero place bound some within = absurd (omega (arith, bound, some))
  up (suc fuel) place bound some within = elim (cases_lt 1 place) [
    | inr low ↦ (let e : 1 ≡ place = omega (arith, low, some) in subst (λ k. IsNoLater (node 1) (node k)) e (later_same (node 1)))
    | inl more ↦ later_then (node 1) (node (place / 2)) (node place) (up fuel (place / 2) (omega (arith, bound, more)) (omega (arith, more)) (omega (arith, within))) (parent place more within)
  ]
    where
      parent : (place : ℕ) → 1 < place → place < 2 * length times → IsNoLater (node (place / 2)) (node place)
      parent place more within =
          let is = node_is (place / 2) (omega (arith, more)) (omega (arith, within)) in
          elim (cases_eq place (2 * (place / 2))) [
            | inl even ↦ subst (λ k. IsNoLater (node (place / 2)) (node k)) (sym even) is.left_least
            | inr odd ↦ (let e : place ≡ 2 * (place / 2) + 1 = omega (arith, odd) in subst (λ k. IsNoLater (node (place / 2)) (node k)) (sym e) is.right_least)
          ]

  -- from a place down to the leaves
  down : (fuel place : ℕ) → 2 * length times ≤ place + fuel → 0 < place → place < 2 * length times → (p : Pending) → node place ≡ Some p → pending_time times p.event ≡ Some p.time
  down zero place bound some within p is = absurd (omega (arith, bound, within))
  down (suc fuel) place bound some within p is = elim (cases_lt place (length times)) [
    | inl less ↦ inner less (down fuel (2 * place) (omega (arith, bound, some)) (omega (arith, some)) (omega (arith, less)) p) (down fuel (2 * place + 1) (omega (arith, bound, some)) (omega (arith, some)) (omega (arith, less)) p)
        (node_is place some less).is
    | inr low ↦ leaf (place - length times) (pending_time times (place - length times)) refl
        (sym (leaves (place - length times) (omega (arith, low, within))) ∙ ap node (omega (arith, low)) ∙ is)
  ]
    where
      inner : place < length times → (node (2 * place) ≡ Some p → pending_time times p.event ≡ Some p.time) → (node (2 * place + 1) ≡ Some p → pending_time times p.event ≡ Some p.time)
          → (node place ≡ node (2 * place)) ⊎ (node place ≡ node (2 * place + 1)) → pending_time times p.event ≡ Some p.time
      inner less left right (inl e) = left (sym e ∙ is)
      inner less left right (inr e) = right (sym e ∙ is)

      leaf : (event : ℕ) (o : Option ℕ) → pending_time times event ≡ o → option_map (λ (time : ℕ). record { time = time; event = event }) (pending_time times event) ≡ Some p → pending_time times p.event ≡ Some p.time
      leaf event None there it = absurd (let x : None ≡ Some p = sym (ap (option_map (λ (time : ℕ). record { time = time; event = event })) there) ∙ it in grind (arith, x))
      leaf event (Some t) there it =
          let same : record { time = t; event = event } ≡ p = some_one (record { time = t; event = event }) p (sym (ap (option_map (λ (time : ℕ). record { time = time; event = event })) there) ∙ it) in
          subst (λ (q : Pending). pending_time times q.event ≡ Some q.time) same there

  -- an event with a time has its leaf
  leaf_at : (event t : ℕ) → pending_time times event ≡ Some t → (event < length times) × (node (length times + event) ≡ Some (record { time = t; event = event }))
  leaf_at event t is =
      let inside : event < length times = elim (cases_lt event (length times)) [ inl less ↦ less | inr past ↦ none_some (pending_time times event) t (get_or_past times event None past) is ] in
      (inside, leaves event inside ∙ ap (option_map (λ (time : ℕ). record { time = time; event = event })) is)

  -- so no event is earlier than the root
  root_least : (event t : ℕ) → pending_time times event ≡ Some t → (q : Pending) × (node 1 ≡ Some q) × (q.time ≤ t)
  root_least event t is =
      let l = leaf_at event t is in
      let i = l.0 in
      (up (length times + event) (length times + event) (omega arith) (omega (arith, i)) (omega (arith, i))).least (record { time = t; event = event }) l.1

  pub root_first : 0 < length times → (r : Option Pending) → r ≡ node 1 → IsNextPending times r
  root_first some None is = record { none = λ e. no_time e (pending_time times e) refl }
    where
      no_time : (e : ℕ) (o : Option ℕ) → pending_time times e ≡ o → pending_time times e ≡ None
      no_time e None at = at
      no_time e (Some t) at = let l = root_least e t at in none_some (node 1) l.0 (sym is) l.1
  root_first some (Some p) is = record {
    is = down (2 * length times) 1 (omega arith) (omega arith) (omega (arith, some)) p (sym is);
    least = λ e t at. (let l = root_least e t at in let s = ap (λ (q : Pending). q.time) (some_one p l.0 (is ∙ l.1)) in let k = l.2 in omega (arith, s, k));
  }
