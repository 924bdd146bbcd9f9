-- Rings that change one after another.
use Rattle.std.proofs.Common.{◌≡◌, ◌∙◌, ◌≢◌, ℕ, zero, suc, ◌+◌, ◌<◌, ◌||◌, Bool, true, false, List, [], ◌∷◌, ◌++◌, Some, None, length, drop, refl, sym, ap, subst, inl, inr, ◌⊎◌, arith, append-nil, if◌then◌else◌, nat_eq}
use Rattle.std.proofs.lemmas.Bool.{cases_eq}
use Rattle.std.proofs.lemmas.Bool.Decides.{nat_tests}
use Rattle.std.proofs.lemmas.List.{get_or-set_same, get_or-set_other, length-set}
use Rattle.std.proofs.lemmas.Option.{same_Some, slice_get_within}
use Rattle.std.specs.List.{list_any}
use Rattle.std.specs.Prelude.{slice_get, slice_index, slice_set}
use Rattle.tdf_expr.specs.Frames.{PortsSeen}
use Rattle.tdf_exec_firing.specs.Actors.{CanPutOne, HasTaken, HavePut, value_on}
use Rattle.tdf_exec_firing.specs.Firing.{AreMoved, front_of, is_read, left_on, writer_of, written_to}
use Rattle.tdf_exec_firing.specs.Wires.{WiresOf}
use Rattle.tdf_exec_firing.specs.declared.wires.InWire.{InWire}
use Rattle.tdf_exec_firing.specs.declared.wires.OutWire.{OutWire}
use Rattle.tdf_exec_firing.specs.machine.Moving.{AreApart, AreChangedUpTo, in_edge, out_edge, put_by, taken_by, with_more, without}
use Rattle.tdf_fixed.specs.declared.raw.Raw.{Raw}
use Rattle.tdf_rings.specs.Carried.{ring_at}
use Rattle.tdf_rings.specs.Rings.{RingOf, ring_of}

no_ring : RingOf
no_ring = ring_of [] 0

module _ {A : Type 0} (edge : A → ℕ) (change : A → RingOf → RingOf) (list : List A) (n : ℕ) (x : A) (old cur : List RingOf)
    (apart : AreApart edge list (length old)) (before : AreChangedUpTo edge change list n old cur) (at : slice_get list n ≡ Some x) where
  -- the ring of the next one is as it was
  pub still : ring_at cur (edge x) ≡ ring_at old (edge x)
  still = before.waiting (edge x) (λ j y below is same. absurd (omega (arith, below, apart.once j n y x is at same)))

  pub inside : edge x < length cur
  inside = subst (λ k. edge x < k) (sym before.same) (apart.inside n x at)

  pub one_changed : (new : List RingOf) → new ≡ slice_set cur (edge x) (change x (ring_at cur (edge x))) → AreChangedUpTo edge change list (n + 1) old new
  one_changed new is = record {
    same = ap length is ∙ length-set cur (edge x) (change x (ring_at cur (edge x))) ∙ before.same;
    changed = λ j y below here. changed j y below here (cases_eq j n);
    waiting = λ e none.
        ap (λ l. ring_at l e) is
        ∙ get_or-set_other cur (edge x) e (change x (ring_at cur (edge x))) (ring_of [] 0) (λ same. none n x (omega arith) at (sym same))
        ∙ before.waiting e (λ j y below here. none j y (omega (arith, below)) here);
  }
    where
      changed : (j : ℕ) (y : A) → j < n + 1 → slice_get list j ≡ Some y → (j ≡ n) ⊎ (j ≢ n) → ring_at new (edge y) ≡ change y (ring_at old (edge y))
      changed j y below here (inl same) =
          let one : x ≡ y = same_Some x y (sym at ∙ ap (slice_get list) (sym same) ∙ here) in
          subst (λ z. ring_at new (edge z) ≡ change z (ring_at old (edge z))) one
          (ap (λ l. ring_at l (edge x)) is ∙ get_or-set_same cur (edge x) (change x (ring_at cur (edge x))) (ring_of [] 0) inside ∙ ap (change x) still)
      changed j y below here (inr other) =
          ap (λ l. ring_at l (edge y)) is
          ∙ get_or-set_other cur (edge x) (edge y) (change x (ring_at cur (edge x))) (ring_of [] 0) (λ same. other (apart.once j n y x here at same))
          ∙ before.changed j y (omega (arith, below, other)) here

-- a thing of a list that passes a test, or none does
pub record Passes {A : Type 0} (p : A → Bool) (list : List A) : Type 0 where
  pub place : ℕ
  pub thing : A
  pub at : slice_get list place ≡ Some thing
  pub passed : p thing ≡ true

pub any_cases : {A : Type 0} (p : A → Bool) (list : List A) → (Passes p list × (list_any p list ≡ true))
    ⊎ (((j : ℕ) (x : A) → slice_get list j ≡ Some x → p x ≡ false) × (list_any p list ≡ false))
any_cases p [] = inr ((λ j x at. absurd cc), refl)
any_cases {A} p (y ∷ list) = choose (p y) refl (any_cases p list)
  where
    choose : (b : Bool) → p y ≡ b → (Passes p list × (list_any p list ≡ true)) ⊎ (((j : ℕ) (x : A) → slice_get list j ≡ Some x → p x ≡ false) × (list_any p list ≡ false))
        → (Passes p (y ∷ list) × (list_any p (y ∷ list) ≡ true)) ⊎ (((j : ℕ) (x : A) → slice_get (y ∷ list) j ≡ Some x → p x ≡ false) × (list_any p (y ∷ list) ≡ false))
    choose true is rest = inl (record { place = 0; thing = y; at = refl; passed = is }, ap (λ b. b || list_any p list) is)
    choose false is (inl rest) =
        inl (record { place = suc rest.0.place; thing = rest.0.thing; at = rest.0.at; passed = rest.0.passed }, ap (λ b. b || list_any p list) is ∙ rest.1)
    choose false is (inr rest) = inr (none rest.0, ap (λ b. b || list_any p list) is ∙ rest.1)
      where
        none : ((j : ℕ) (x : A) → slice_get list j ≡ Some x → p x ≡ false) → (j : ℕ) (x : A) → slice_get (y ∷ list) j ≡ Some x → p x ≡ false
        none others zero x at = ap p (sym (same_Some y x at)) ∙ is
        none others (suc j) x at = others j x at

-- the wire that writes an edge, or none does
pub writer_cases : (outs : List OutWire) (e : ℕ)
    → ((j : ℕ) × (w : OutWire) × (slice_get outs j ≡ Some w) × (w.edge ≡ e) × (writer_of outs e ≡ Some w.port))
    ⊎ (((j : ℕ) (w : OutWire) → slice_get outs j ≡ Some w → w.edge ≡ e → ⊥) × (writer_of outs e ≡ None))
writer_cases [] e = inr ((λ j w at. absurd cc), refl)
writer_cases (v ∷ outs) e = choose (cases_eq v.edge e) (writer_cases outs e)
  where
    choose : (v.edge ≡ e) ⊎ (v.edge ≢ e)
        → ((j : ℕ) × (w : OutWire) × (slice_get outs j ≡ Some w) × (w.edge ≡ e) × (writer_of outs e ≡ Some w.port))
        ⊎ (((j : ℕ) (w : OutWire) → slice_get outs j ≡ Some w → w.edge ≡ e → ⊥) × (writer_of outs e ≡ None))
        → ((j : ℕ) × (w : OutWire) × (slice_get (v ∷ outs) j ≡ Some w) × (w.edge ≡ e) × (writer_of (v ∷ outs) e ≡ Some w.port))
        ⊎ (((j : ℕ) (w : OutWire) → slice_get (v ∷ outs) j ≡ Some w → w.edge ≡ e → ⊥) × (writer_of (v ∷ outs) e ≡ None))
    choose (inl same) rest =
        let test : nat_eq v.edge e ≡ true = grind (arith, nat_tests, same) in
        inl (0, v, refl, same, ap (λ (b : Bool). if b then Some v.port else writer_of outs e) test)
    choose (inr other) (inl rest) =
        let test : nat_eq v.edge e ≡ false = grind (arith, nat_tests, other) in
        inl (suc rest.0, rest.1, rest.2, rest.3, ap (λ (b : Bool). if b then Some v.port else writer_of outs e) test ∙ rest.4)
    choose (inr other) (inr rest) =
        let test : nat_eq v.edge e ≡ false = grind (arith, nat_tests, other) in
        inr (none rest.0, ap (λ (b : Bool). if b then Some v.port else writer_of outs e) test ∙ rest.1)
      where
        none : ((j : ℕ) (w : OutWire) → slice_get outs j ≡ Some w → w.edge ≡ e → ⊥) → (j : ℕ) (w : OutWire) → slice_get (v ∷ outs) j ≡ Some w → w.edge ≡ e → ⊥
        none others zero w at same = other (ap (λ (u : OutWire). u.edge) (same_Some v w at) ∙ same)
        none others (suc j) w at same = others j w at same

module _ (wires : WiresOf) (reads writes : List ℕ) (ports : PortsSeen) (old mid new : List RingOf)
    (took : AreChangedUpTo in_edge (taken_by reads) wires.ins (length wires.ins) old mid) where
  -- a ring once the module has read it
  pub left : (e : ℕ) → ring_at mid e ≡ ring_of (left_on wires reads e (ring_at old e).samples) (ring_at old e).capacity
  left e = choose (any_cases (λ w. nat_eq w.edge e) wires.ins)
    where
      as_left : (b : Bool) → RingOf
      as_left b = ring_of (if b then drop (slice_index reads e) (ring_at old e).samples else (ring_at old e).samples) (ring_at old e).capacity

      choose : (Passes (λ w. nat_eq w.edge e) wires.ins × (is_read wires.ins e ≡ true))
          ⊎ (((j : ℕ) (w : InWire) → slice_get wires.ins j ≡ Some w → nat_eq w.edge e ≡ false) × (is_read wires.ins e ≡ false))
          → ring_at mid e ≡ ring_of (left_on wires reads e (ring_at old e).samples) (ring_at old e).capacity
      choose (inl (found, reads_it)) =
          let same : found.thing.edge ≡ e = grind (arith, nat_tests, found.passed) in
          subst (λ d. ring_at mid d ≡ without (slice_index reads d) (ring_at old d)) same
          (took.changed found.place found.thing (slice_get_within wires.ins found.place found.thing found.at) found.at)
          ∙ ap (λ (b : Bool). ring_of (if b then drop (slice_index reads e) (ring_at old e).samples else (ring_at old e).samples) (ring_at old e).capacity) (sym reads_it)
      choose (inr (none, reads_it)) =
          took.waiting e (λ j w below at same. differs w (none j w at) same)
          ∙ ap (λ (b : Bool). ring_of (if b then drop (slice_index reads e) (ring_at old e).samples else (ring_at old e).samples) (ring_at old e).capacity) (sym reads_it)
        where
          differs : (w : InWire) → nat_eq w.edge e ≡ false → w.edge ≡ e → ⊥
          differs w test same = absurd (grind (arith, nat_tests, test, same))

  -- each ring after the firing
  pub all_moved : AreChangedUpTo out_edge (put_by writes ports) wires.outs (length wires.outs) mid new → AreMoved wires reads writes ports old new
  all_moved put = record {
    same = put.same ∙ took.same;
    moved = λ e inside. moved e (writer_cases wires.outs e);
  }
    where
      moved : (e : ℕ) → ((j : ℕ) × (w : OutWire) × (slice_get wires.outs j ≡ Some w) × (w.edge ≡ e) × (writer_of wires.outs e ≡ Some w.port))
          ⊎ (((j : ℕ) (w : OutWire) → slice_get wires.outs j ≡ Some w → w.edge ≡ e → ⊥) × (writer_of wires.outs e ≡ None))
          → ring_at new e ≡ ring_of (left_on wires reads e (ring_at old e).samples ++ written_to wires writes ports e) (ring_at old e).capacity
      moved e (inl (j, w, at, same, is)) =
          subst (λ d. ring_at new d ≡ with_more (front_of ports (Some w.port) (slice_index writes d)) (ring_at mid d)) same
          (put.changed j w (slice_get_within wires.outs j w at) at)
          ∙ ap (λ r. with_more (front_of ports (Some w.port) (slice_index writes e)) r) (left e)
          ∙ ap (λ o. ring_of (left_on wires reads e (ring_at old e).samples ++ front_of ports o (slice_index writes e)) (ring_at old e).capacity) (sym is)
      moved e (inr (none, is)) =
          put.waiting e (λ j w below at. none j w at) ∙ left e
          ∙ ap (λ l. ring_of l (ring_at old e).capacity) (sym (append-nil (left_on wires reads e (ring_at old e).samples)))
          ∙ ap (λ o. ring_of (left_on wires reads e (ring_at old e).samples ++ front_of ports o (slice_index writes e)) (ring_at old e).capacity) (sym is)

-- the rings of a sampler
pub edges_apart : (edges : List ℕ) (rings : List RingOf) → CanPutOne edges rings → AreApart (λ (e : ℕ). e) edges (length rings)
edges_apart edges rings can = record { inside = can.inside; once = can.once }

pub all_put : (value : Raw) (edges : List ℕ) (old new : List RingOf)
    → AreChangedUpTo (λ (e : ℕ). e) (λ (e : ℕ). with_more (value ∷ [])) edges (length edges) old new → HavePut value edges old new
all_put value edges old new put = record {
  same = put.same;
  put = λ e inside. choose e (any_cases (λ d. nat_eq d e) edges);
}
  where
    choose : (e : ℕ) → (Passes (λ d. nat_eq d e) edges × (list_any (λ d. nat_eq d e) edges ≡ true))
        ⊎ (((j d : ℕ) → slice_get edges j ≡ Some d → nat_eq d e ≡ false) × (list_any (λ d. nat_eq d e) edges ≡ false))
        → ring_at new e ≡ ring_of ((ring_at old e).samples ++ value_on value edges e) (ring_at old e).capacity
    choose e (inl (found, named)) =
        let same : found.thing ≡ e = grind (arith, nat_tests, found.passed) in
        subst (λ d. ring_at new d ≡ with_more (value ∷ []) (ring_at old d)) same
        (put.changed found.place found.thing (slice_get_within edges found.place found.thing found.at) found.at)
        ∙ ap (λ (b : Bool). ring_of ((ring_at old e).samples ++ (if b then value ∷ [] else [])) (ring_at old e).capacity) (sym named)
    choose e (inr (none, named)) =
        put.waiting e (λ j d below at same. differs d (none j d at) same)
        ∙ ap (λ l. ring_of l (ring_at old e).capacity) (sym (append-nil (ring_at old e).samples))
        ∙ ap (λ (b : Bool). ring_of ((ring_at old e).samples ++ (if b then value ∷ [] else [])) (ring_at old e).capacity) (sym named)
      where
        differs : (d : ℕ) → nat_eq d e ≡ false → d ≡ e → ⊥
        differs d test same = absurd (grind (arith, nat_tests, test, same))

-- the rings of a sink
pub one_taken : (edge : ℕ) (old new : List RingOf) → edge < length old → new ≡ slice_set old edge (without 1 (ring_at old edge)) → HasTaken edge old new
one_taken edge old new below is = record {
  same = ap length is ∙ length-set old edge (without 1 (ring_at old edge));
  taken = λ e inside. ap (λ l. ring_at l e) is ∙ choose e (cases_eq edge e);
}
  where
    choose : (e : ℕ) → (edge ≡ e) ⊎ (edge ≢ e)
        → ring_at (slice_set old edge (without 1 (ring_at old edge))) e
        ≡ ring_of (if nat_eq edge e then drop 1 (ring_at old e).samples else (ring_at old e).samples) (ring_at old e).capacity
    choose e (inl same) =
        let test : nat_eq edge e ≡ true = grind (arith, nat_tests, same) in
        subst (λ d. ring_at (slice_set old edge (without 1 (ring_at old edge))) d ≡ without 1 (ring_at old d)) same
        (get_or-set_same old edge (without 1 (ring_at old edge)) (ring_of [] 0) below)
        ∙ ap (λ (b : Bool). ring_of (if b then drop 1 (ring_at old e).samples else (ring_at old e).samples) (ring_at old e).capacity) (sym test)
    choose e (inr other) =
        let test : nat_eq edge e ≡ false = grind (arith, nat_tests, other) in
        get_or-set_other old edge e (without 1 (ring_at old edge)) (ring_of [] 0) (λ same. other (sym same))
        ∙ ap (λ (b : Bool). ring_of (if b then drop 1 (ring_at old e).samples else (ring_at old e).samples) (ring_at old e).capacity) (sym test)
