-- Bounds, raised firing by firing.
use Rattle.std.proofs.Common.{◌≡◌, ◌≢◌, ◌∙◌, ℕ, ◌+◌, ◌-◌, ◌*◌, ◌<◌, ◌≤◌, ◌⊎◌, inl, inr, Some, List, length, take, set, replicate, max, cond, nat_eq, refl, sym, ap, subst, arith}
use Rattle.std.proofs.Math.ListN.{get_or}
use Rattle.std.proofs.lemmas.Bool.{cases_eq, cases_lt, eq-eqb, ne_eqb}
use Rattle.std.proofs.lemmas.Grind.{get_or-set_at}
use Rattle.std.proofs.lemmas.List.{get_or-set_other, get_or-replicate, length-set, length-replicate}
use Rattle.std.proofs.lemmas.List.Elements.{All-contains, All-from_get_or, All-get_or, All-replicate}
use Rattle.std.proofs.lemmas.List.Sums.{sum_by_more}
use Rattle.std.proofs.lemmas.Option.{slice_get_within, slice_get-get_or, get_or_from_slice_get}
use Rattle.std.specs.List.{sum_by}
use Rattle.std.specs.Prelude.{slice_get, All}
use Rattle.tdf_graph.proofs.Api.{stands_below}
use Rattle.tdf_graph.specs.Ranges.{IsEdge}
use Rattle.tdf_graph.specs.declared.actors.Edge.{Edge}
use Rattle.tdf_schedule.proofs.Keys.{some_same, at_contains}
use Rattle.tdf_schedule.specs.Plan.{done}
use Rattle.tdf_schedule.specs.declared.entry.Entry.{Entry}
use Rattle.tdf_schedule.specs.views.Bounds.{held_of, AreRaisedUpTo, HasFired, AreBoundsUpTo, AreWalkedUpTo, AreInitialUpTo}
use Rattle.tdf_schedule.specs.views.Table.{AreInputs, AreOutputs}

-- a list raises the bounds of its edges
module _ (list : List ℕ) (edges : List Edge) (counts old new : List ℕ) (raised : AreRaisedUpTo (length list) list edges counts old new) where
  pub in_list : (j k : ℕ) (e : Edge) → slice_get list j ≡ Some k → slice_get edges k ≡ Some e → get_or new k 0 ≡ max (get_or old k 0) (held_of e counts)
  in_list j k e k_is e_is =
      let within = slice_get_within list j k k_is in
      let at : get_or list j 0 ≡ k = get_or_from_slice_get list j k 0 k_is in
      subst (λ n. get_or new n 0 ≡ max (get_or old n 0) (held_of e counts)) at (raised.raised j e within (ap (slice_get edges) at ∙ e_is))

  pub by_list : (k : ℕ) (e : Edge) → slice_get edges k ≡ Some e → (get_or new k 0 ≡ max (get_or old k 0) (held_of e counts)) ⊎ (get_or new k 0 ≡ get_or old k 0)
  by_list k e e_is = go (stands_below list k (length list))
    where
      go : ((j : ℕ) × (j < length list) × (get_or list j 0 ≡ k)) ⊎ ((j : ℕ) → j < length list → get_or list j 0 ≢ k)
          → (get_or new k 0 ≡ max (get_or old k 0) (held_of e counts)) ⊎ (get_or new k 0 ≡ get_or old k 0)
      go (inl found) = inl (in_list found.0 k e (slice_get-get_or list found.0 0 found.1 ∙ ap Some found.2) e_is)
      go (inr none) = inr (raised.rest k none)

  pub not_in_list : (k : ℕ) → ((j : ℕ) → slice_get list j ≡ Some k → ⊥) → get_or new k 0 ≡ get_or old k 0
  not_in_list k none = raised.rest k (λ j within same. none j (slice_get-get_or list j 0 within ∙ ap Some same))

-- the numbers of a list are those of edges
pub into_within : (edges : List Edge) (m : ℕ) (inputs list : List ℕ) → AreInputs edges m inputs → list ≡ inputs → (j : ℕ) → j < length list → get_or list j 0 < length edges
into_within edges m inputs list are is j here =
    let x = are.only j (get_or list j 0) (ap (λ (l : List ℕ). slice_get l j) (sym is) ∙ slice_get-get_or list j 0 here) in slice_get_within edges (get_or list j 0) x.0 x.1

pub out_within : (edges : List Edge) (m : ℕ) (outputs list : List ℕ) → AreOutputs edges m outputs → list ≡ outputs → (j : ℕ) → j < length list → get_or list j 0 < length edges
out_within edges m outputs list are is j here =
    let x = are.only j (get_or list j 0) (ap (λ (l : List ℕ). slice_get l j) (sym is) ∙ slice_get-get_or list j 0 here) in slice_get_within edges (get_or list j 0) x.0 x.1

-- the edges into an actor and those from it
module _ (actor : ℕ) (edges : List Edge) (inputs outputs into out : List ℕ) (counts old mid new : List ℕ)
    (ins : AreInputs edges actor inputs) (outs : AreOutputs edges actor outputs) (into_is : into ≡ inputs) (out_is : out ≡ outputs)
    (first : AreRaisedUpTo (length into) into edges counts old mid) (second : AreRaisedUpTo (length out) out edges counts mid new) where
  pub fired : HasFired actor edges counts old new
  fired = record {
    long = second.long ∙ first.long;
    touched = touched;
    rest = λ k e e_is not_reader not_writer.
        not_in_list out edges counts mid new second k (λ j found. not_out k e e_is not_writer j found)
        ∙ not_in_list into edges counts old mid first k (λ j found. not_into k e e_is not_reader j found);
  }
    where
      not_into : (k : ℕ) (e : Edge) → slice_get edges k ≡ Some e → (e.reader ≡ actor → ⊥) → (j : ℕ) → slice_get into j ≡ Some k → ⊥
      not_into k e e_is not j found =
          let x = ins.only j k (ap (λ (l : List ℕ). slice_get l j) (sym into_is) ∙ found) in
          not (ap (λ (y : Edge). y.reader) (some_same (sym e_is ∙ x.1)) ∙ x.2)

      not_out : (k : ℕ) (e : Edge) → slice_get edges k ≡ Some e → (e.writer ≡ actor → ⊥) → (j : ℕ) → slice_get out j ≡ Some k → ⊥
      not_out k e e_is not j found =
          let x = outs.only j k (ap (λ (l : List ℕ). slice_get l j) (sym out_is) ∙ found) in
          not (ap (λ (y : Edge). y.writer) (some_same (sym e_is ∙ x.1)) ∙ x.2)

      touched : (k : ℕ) (e : Edge) → slice_get edges k ≡ Some e → (e.reader ≡ actor) ⊎ (e.writer ≡ actor) → get_or new k 0 ≡ max (get_or old k 0) (held_of e counts)
      touched k e e_is (inl reads) =
          let j = ins.all k e e_is reads in
          let a = in_list into edges counts old mid first j.0 k e (ap (λ (l : List ℕ). slice_get l j.0) into_is ∙ j.1) e_is in
          go a (by_list out edges counts mid new second k e e_is)
        where
          go : get_or mid k 0 ≡ max (get_or old k 0) (held_of e counts) → (get_or new k 0 ≡ max (get_or mid k 0) (held_of e counts)) ⊎ (get_or new k 0 ≡ get_or mid k 0) → get_or new k 0 ≡ max (get_or old k 0) (held_of e counts)
          go a (inl b) = b ∙ ap (λ n. max n (held_of e counts)) a ∙ twice (get_or old k 0) (held_of e counts)
            where
              twice : (x y : ℕ) → max (max x y) y ≡ max x y
              twice x y = omega arith
          go a (inr b) = b ∙ a
      touched k e e_is (inr writes) =
          let j = outs.all k e e_is writes in
          let b = in_list out edges counts mid new second j.0 k e (ap (λ (l : List ℕ). slice_get l j.0) out_is ∙ j.1) e_is in
          go b (by_list into edges counts old mid first k e e_is)
        where
          go : get_or new k 0 ≡ max (get_or mid k 0) (held_of e counts) → (get_or mid k 0 ≡ max (get_or old k 0) (held_of e counts)) ⊎ (get_or mid k 0 ≡ get_or old k 0) → get_or new k 0 ≡ max (get_or old k 0) (held_of e counts)
          go b (inl a) = b ∙ ap (λ n. max n (held_of e counts)) a ∙ twice (get_or old k 0) (held_of e counts)
            where
              twice : (x y : ℕ) → max (max x y) y ≡ max x y
              twice x y = omega arith
          go b (inr a) = b ∙ ap (λ n. max n (held_of e counts)) a

-- the firings done, one more
pub done_none : (entries : List Entry) (m : ℕ) → done entries 0 m ≡ 0
unfolding done
done_none entries m = refl

pub done_here : (entries : List Entry) (i : ℕ) (d : Entry) → i < length entries → done entries (i + 1) (get_or entries i d).actor ≡ done entries i (get_or entries i d).actor + 1
unfolding done
done_here entries i d here = sum_by_more _ entries i d here ∙ ap (λ n. sum_by (λ (x : Entry). cond (nat_eq x.actor (get_or entries i d).actor) 1 0) (take i entries) + n) (rw (eq-eqb (get_or entries i d).actor (get_or entries i d).actor refl) refl)

not_counted : (x m : ℕ) → (x ≡ m → ⊥) → cond {A = ℕ} (nat_eq x m) 1 0 ≡ 0
not_counted x m other = rw (ne_eqb x m other) refl

pub done_other : (entries : List Entry) (i m : ℕ) (d : Entry) → i < length entries → ((get_or entries i d).actor ≡ m → ⊥) → done entries (i + 1) m ≡ done entries i m
unfolding done
done_other entries i m d here other = sum_by_more _ entries i d here ∙ ap (λ n. sum_by (λ (x : Entry). cond (nat_eq x.actor m) 1 0) (take i entries) + n) (not_counted (get_or entries i d).actor m other) ∙ omega arith

-- the counts after an entry more
pub counts_more : (count i : ℕ) (entries : List Entry) (d : Entry) (old : List ℕ) → i < length entries → length old ≡ count → (get_or entries i d).actor < count
    → ((m : ℕ) → m < count → get_or old m 0 ≡ done entries i m)
    → (m : ℕ) → m < count → get_or (set old (get_or entries i d).actor (get_or old (get_or entries i d).actor 0 + 1)) m 0 ≡ done entries (i + 1) m
counts_more count i entries d old here long inside before m m_in = go (cases_eq m (get_or entries i d).actor)
  where
    actor : ℕ
    actor = (get_or entries i d).actor

    go : (m ≡ (get_or entries i d).actor) ⊎ (m ≡ (get_or entries i d).actor → ⊥)
        → get_or (set old (get_or entries i d).actor (get_or old (get_or entries i d).actor 0 + 1)) m 0 ≡ done entries (i + 1) m
    go (inl same) =
        get_or-set_at old (get_or entries i d).actor m (get_or old (get_or entries i d).actor 0 + 1) 0 same (subst (λ n. (get_or entries i d).actor < n) (sym long) inside)
        ∙ ap (λ n. n + 1) (before (get_or entries i d).actor inside) ∙ sym (done_here entries i d here) ∙ ap (done entries (i + 1)) (sym same)
    go (inr other) =
        get_or-set_other old (get_or entries i d).actor m (get_or old (get_or entries i d).actor 0 + 1) 0 other ∙ before m m_in ∙ sym (done_other entries i m d here (λ e. other (sym e)))

-- the bounds after an entry more
module _ (count i : ℕ) (entries : List Entry) (d : Entry) (edges : List Edge) (counts old new : List ℕ) (here : i < length entries)
    (ends : (k : ℕ) (e : Edge) → slice_get edges k ≡ Some e → (e.writer < count) × (e.reader < count))
    (counted : (m : ℕ) → m < count → get_or counts m 0 ≡ done entries (i + 1) m)
    (before : AreBoundsUpTo i entries edges old) (step : HasFired (get_or entries i d).actor edges counts old new) where
  abbrev actor : ℕ
  actor = (get_or entries i d).actor

  grown : (k : ℕ) (e : Edge) → slice_get edges k ≡ Some e → get_or old k 0 ≤ get_or new k 0
  grown k e e_is = go (cases_eq e.reader actor) (cases_eq e.writer actor)
    where
      go : (e.reader ≡ actor) ⊎ (e.reader ≡ actor → ⊥) → (e.writer ≡ actor) ⊎ (e.writer ≡ actor → ⊥) → get_or old k 0 ≤ get_or new k 0
      go (inl reads) q = let t = step.touched k e e_is (inl reads) in omega (arith, t)
      go (inr not) (inl writes) = let t = step.touched k e e_is (inr writes) in omega (arith, t)
      go (inr not) (inr neither) = let t = step.rest k e e_is not neither in omega (arith, t)

  held_is : (k : ℕ) (e : Edge) → slice_get edges k ≡ Some e → held_of e counts ≡ e.initial + done entries (i + 1) e.writer * e.write_rate - done entries (i + 1) e.reader * e.read_rate
  held_is k e e_is =
      let p = ends k e e_is in
      ap (λ n. e.initial + n * e.write_rate - get_or counts e.reader 0 * e.read_rate) (counted e.writer p.0)
      ∙ ap (λ n. e.initial + done entries (i + 1) e.writer * e.write_rate - n * e.read_rate) (counted e.reader p.1)

  most_last : (k : ℕ) (e : Edge) → slice_get edges k ≡ Some e → e.initial + done entries (i + 1) e.writer * e.write_rate ≤ get_or new k 0 + done entries (i + 1) e.reader * e.read_rate
  most_last k e e_is = go (cases_eq e.reader actor) (cases_eq e.writer actor)
    where
      h : held_of e counts ≡ e.initial + done entries (i + 1) e.writer * e.write_rate - done entries (i + 1) e.reader * e.read_rate
      h = held_is k e e_is

      go : (e.reader ≡ actor) ⊎ (e.reader ≡ actor → ⊥) → (e.writer ≡ actor) ⊎ (e.writer ≡ actor → ⊥)
          → e.initial + done entries (i + 1) e.writer * e.write_rate ≤ get_or new k 0 + done entries (i + 1) e.reader * e.read_rate
      go (inl reads) q = let t = step.touched k e e_is (inl reads) in omega (arith, t, h)
      go (inr not) (inl writes) = let t = step.touched k e e_is (inr writes) in omega (arith, t, h)
      go (inr not) (inr neither) =
          let t = step.rest k e e_is not neither in let b = before.most k i e e_is (omega arith) in
          let w = ap (λ n. n * e.write_rate) (done_other entries i e.writer d here (λ x. neither (sym x))) in let r = ap (λ n. n * e.read_rate) (done_other entries i e.reader d here (λ x. not (sym x))) in
          omega (arith, t, b, w, r)

  pub bounds_more : AreBoundsUpTo (i + 1) entries edges new
  bounds_more = record {
    long = step.long ∙ before.long;
    most = λ k h e e_is h_in. most k h e e_is h_in (cases_eq h (i + 1));
    reached = λ k e e_is. reached k e e_is (cases_lt (get_or old k 0) (get_or new k 0));
  }
    where
      most : (k h : ℕ) (e : Edge) → slice_get edges k ≡ Some e → h ≤ i + 1 → (h ≡ i + 1) ⊎ (h ≡ i + 1 → ⊥)
          → e.initial + done entries h e.writer * e.write_rate ≤ get_or new k 0 + done entries h e.reader * e.read_rate
      most k h e e_is h_in (inl same) = subst (λ n. e.initial + done entries n e.writer * e.write_rate ≤ get_or new k 0 + done entries n e.reader * e.read_rate) (sym same) (most_last k e e_is)
      most k h e e_is h_in (inr other) = let b = before.most k h e e_is (omega (arith, h_in, other)) in let g = grown k e e_is in omega (arith, b, g)

      reached : (k : ℕ) (e : Edge) → slice_get edges k ≡ Some e → (get_or old k 0 < get_or new k 0) ⊎ (get_or new k 0 ≤ get_or old k 0)
          → (h : ℕ) × (h ≤ i + 1) × (e.initial + done entries h e.writer * e.write_rate ≡ get_or new k 0 + done entries h e.reader * e.read_rate)
      reached k e e_is (inr calm) =
          let r = before.reached k e e_is in let g = grown k e e_is in let le = r.1 in let eq = r.2 in (r.0, omega (arith, le), omega (arith, eq, g, calm))
      reached k e e_is (inl more) = (i + 1, omega arith, go (cases_eq e.reader actor) (cases_eq e.writer actor))
        where
          h : held_of e counts ≡ e.initial + done entries (i + 1) e.writer * e.write_rate - done entries (i + 1) e.reader * e.read_rate
          h = held_is k e e_is

          go : (e.reader ≡ actor) ⊎ (e.reader ≡ actor → ⊥) → (e.writer ≡ actor) ⊎ (e.writer ≡ actor → ⊥)
              → e.initial + done entries (i + 1) e.writer * e.write_rate ≡ get_or new k 0 + done entries (i + 1) e.reader * e.read_rate
          go (inl reads) q = let t = step.touched k e e_is (inl reads) in omega (arith, t, h, more)
          go (inr not) (inl writes) = let t = step.touched k e e_is (inr writes) in omega (arith, t, h, more)
          go (inr not) (inr neither) = absurd (let t = step.rest k e e_is not neither in omega (arith, t, more))

pub walked_more : (count i : ℕ) (entries : List Entry) (d : Entry) (edges : List Edge) (counts next old new : List ℕ) → i < length entries → (get_or entries i d).actor < count
    → All (IsEdge count) edges → AreWalkedUpTo i count entries edges counts old
    → next ≡ set counts (get_or entries i d).actor (get_or counts (get_or entries i d).actor 0 + 1) → HasFired (get_or entries i d).actor edges next old new
    → AreWalkedUpTo (i + 1) count entries edges next new
walked_more count i entries d edges counts next old new here inside fit before next_is step = record {
  long = ap (λ (l : List ℕ). length l) next_is ∙ length-set counts actor _ ∙ before.long;
  few = subst (All (λ n. n ≤ i + 1)) (sym next_is) few;
  counted = counted;
  so_far = bounds_more count i entries d edges next old new here ends counted before.so_far step;
}
  where
    actor : ℕ
    actor = (get_or entries i d).actor

    counted : (m : ℕ) → m < count → get_or next m 0 ≡ done entries (i + 1) m
    counted m m_in = ap (λ (l : List ℕ). get_or l m 0) next_is ∙ counts_more count i entries d counts here before.long inside before.counted m m_in

    ends : (k : ℕ) (e : Edge) → slice_get edges k ≡ Some e → (e.writer < count) × (e.reader < count)
    ends k e e_is = let f = All-contains (IsEdge count) edges e fit (at_contains edges k e e_is) in (f.writer, f.reader)

    few : All (λ n. n ≤ i + 1) (set counts (get_or entries i d).actor (get_or counts (get_or entries i d).actor 0 + 1))
    few = All-from_get_or (λ n. n ≤ i + 1) _ 0 (λ k k_in. each k (subst (λ n. k < n) (length-set counts (get_or entries i d).actor _) k_in) (cases_eq k (get_or entries i d).actor))
      where
        each : (k : ℕ) → k < length counts → (k ≡ (get_or entries i d).actor) ⊎ (k ≡ (get_or entries i d).actor → ⊥)
            → get_or (set counts (get_or entries i d).actor (get_or counts (get_or entries i d).actor 0 + 1)) k 0 ≤ i + 1
        each k k_in (inl same) =
            let e = get_or-set_at counts (get_or entries i d).actor k (get_or counts (get_or entries i d).actor 0 + 1) 0 same (subst (λ n. n < length counts) same k_in) in
            let b = All-get_or (λ n. n ≤ i) counts (get_or entries i d).actor 0 (subst (λ n. n < length counts) same k_in) before.few in omega (arith, e, b)
        each k k_in (inr other) =
            let e = get_or-set_other counts (get_or entries i d).actor k (get_or counts (get_or entries i d).actor 0 + 1) 0 other in
            let b = All-get_or (λ n. n ≤ i) counts k 0 k_in before.few in omega (arith, e, b)

pub walked_none : (count : ℕ) (entries : List Entry) (edges : List Edge) (counts held : List ℕ) → counts ≡ replicate count 0 → AreInitialUpTo (length edges) edges held
    → AreWalkedUpTo 0 count entries edges counts held
walked_none count entries edges counts held counts_is initial = subst (λ l. AreWalkedUpTo 0 count entries edges l held) (sym counts_is) (record {
  long = length-replicate count 0;
  few = All-replicate (λ n. n ≤ 0) count 0 (omega arith);
  counted = λ m m_in. get_or-replicate count m 0 0 m_in ∙ sym (done_none entries m);
  so_far = record {
    long = initial.long;
    most = λ k h e e_is h_in. let s = start k h e e_is h_in in omega (arith, s);
    reached = λ k e e_is. (0, omega arith, start k 0 e e_is (omega arith));
  };
})
  where
    start : (k h : ℕ) (e : Edge) → slice_get edges k ≡ Some e → h ≤ 0
        → e.initial + done entries h e.writer * e.write_rate ≡ get_or held k 0 + done entries h e.reader * e.read_rate
    start k h e e_is h_in =
        let z : h ≡ 0 = omega (arith, h_in) in
        let w = ap (λ n. n * e.write_rate) (ap (λ n. done entries n e.writer) z ∙ done_none entries e.writer) in
        let r = ap (λ n. n * e.read_rate) (ap (λ n. done entries n e.reader) z ∙ done_none entries e.reader) in
        let i = initial.each k e (slice_get_within edges k e e_is) e_is in omega (arith, w, r, i)
