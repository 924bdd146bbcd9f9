-- The ports of a module are filled.
use Rattle.std.proofs.Common.{◌≡◌, ◌∙◌, ◌≢◌, ℕ, ◌+◌, ◌<◌, ◌≤◌, List, Some, ℤ, pos, length, sym, refl, ap, subst, inl, inr, ◌⊎◌, arith}
use Rattle.std.proofs.lemmas.Bool.{cases_eq, cases_lt}
use Rattle.std.proofs.lemmas.List.{get_or-set_same, get_or-set_other, length-set}
use Rattle.std.proofs.lemmas.Option.{same_Some, slice_get-map, slice_get_within, get_or_from_slice_get}
use Rattle.std.specs.List.{All}
use Rattle.std.specs.Option.{option_map}
use Rattle.std.specs.Prelude.{map, slice_get, slice_set}
use Rattle.tdf_expr.specs.Frames.{AreConsecutive, PortsSeen}
use Rattle.tdf_expr.specs.declared.spans.PortSpan.{PortSpan}
use Rattle.tdf_exec_firing.proofs.Cells.{has_at, spans_apart}
use Rattle.tdf_exec_firing.specs.Activation.{num_of}
use Rattle.tdf_exec_firing.specs.declared.wires.InWire.{InWire}
use Rattle.tdf_exec_firing.specs.Firing.{with_samples}
use Rattle.tdf_exec_firing.specs.machine.Filling.{AreFilledUpTo, CanFill, IsFilled, num_at}
use Rattle.tdf_fixed.specs.declared.raw.Raw.{Raw}
use Rattle.tdf_expr_state.specs.State.{cell_at}

-- ports with other samples have the same spans
pub old_span : (samples : List ℤ) (old new : PortsSeen) (n : ℕ) (p : PortSpan) → new ≡ with_samples samples old → slice_get new.spans n ≡ Some p → slice_get old.spans n ≡ Some p
old_span samples old new n p is at = sym (ap (λ (q : PortsSeen). slice_get q.spans n) is) ∙ at

new_span : (samples : List ℤ) (old new : PortsSeen) (n : ℕ) (p : PortSpan) → new ≡ with_samples samples old → slice_get old.spans n ≡ Some p → slice_get new.spans n ≡ Some p
new_span samples old new n p is at = ap (λ (q : PortsSeen). slice_get q.spans n) is ∙ at

pub all_at : {A : Type 0} (P : A → Type 0) (list : List A) (i : ℕ) (x : A) → All P list → slice_get list i ≡ Some x → P x
all_at P list i x all at = subst P (get_or_from_slice_get list i x x at) (all i x (slice_get_within list i x at))

num_is : (list : List Raw) (i : ℕ) (x : Raw) → slice_get list i ≡ Some x → num_at list i ≡ x.num
num_is list i x at = get_or_from_slice_get (map num_of list) i x.num (pos 0) (slice_get-map num_of list i ∙ ap (option_map num_of) at)

-- one sample more
pub fill_more : (port i n : ℕ) (list : List Raw) (x : Raw) (old cur new : PortsSeen) → CanFill port n list old → i < n → IsFilled port i list old cur → slice_get list i ≡ Some x
    → ((p : PortSpan) → slice_get cur.spans port ≡ Some p → new ≡ with_samples (slice_set cur.state.samples (p.first + i) x.num) cur)
    → IsFilled port (i + 1) list old new
fill_more port i n list x old cur new can below before at set =
    let found = has_at old.spans port can.there in
    with_span found.0 found.1
  where
    with_span : (p : PortSpan) → slice_get old.spans port ≡ Some p → IsFilled port (i + 1) list old new
    with_span p here = record {
      rest = whole ∙ sym (ap (λ l. with_samples l old) samples);
      long = ap length samples ∙ length-set cur.state.samples (p.first + i) x.num ∙ before.long;
      here = λ q k is small. filled q k (one q is) small;
      others = λ q j is past.
          let same : q ≡ p = one q is in
          let far : (j < p.first) ⊎ (p.first + (i + 1) ≤ j) = subst (λ (y : PortSpan). (j < y.first) ⊎ (y.first + (i + 1) ≤ j)) same past in
          other j far;
    }
      where
        one : (q : PortSpan) → slice_get old.spans port ≡ Some q → q ≡ p
        one q is = same_Some q p (sym is ∙ here)

        is_set : new ≡ with_samples (slice_set cur.state.samples (p.first + i) x.num) cur
        is_set = set p (new_span cur.state.samples old cur port p before.rest here)

        samples : new.state.samples ≡ slice_set cur.state.samples (p.first + i) x.num
        samples = ap (λ (q : PortsSeen). q.state.samples) is_set

        whole : new ≡ with_samples (slice_set cur.state.samples (p.first + i) x.num) old
        whole = is_set ∙ ap (with_samples (slice_set cur.state.samples (p.first + i) x.num)) before.rest

        inside : p.first + i < length cur.state.samples
        inside = omega (arith, can.inside p here, can.rate p here, below, before.long)

        filled : (q : PortSpan) (k : ℕ) → q ≡ p → k < i + 1 → cell_at new.state.samples (q.first + k) ≡ num_at list k
        filled q k same small =
            subst (λ (y : PortSpan). cell_at new.state.samples (y.first + k) ≡ num_at list k) (sym same) (choose (cases_eq k i))
          where
            choose : (k ≡ i) ⊎ (k ≢ i) → cell_at new.state.samples (p.first + k) ≡ num_at list k
            choose (inl now) =
                subst (λ m. cell_at new.state.samples (p.first + m) ≡ num_at list m) (sym now)
                (ap (λ l. cell_at l (p.first + i)) samples ∙ get_or-set_same cur.state.samples (p.first + i) x.num (pos 0) inside ∙ sym (num_is list i x at))
            choose (inr apart) =
                ap (λ l. cell_at l (p.first + k)) samples
                ∙ get_or-set_other cur.state.samples (p.first + i) (p.first + k) x.num (pos 0) (omega (arith, apart))
                ∙ before.here p k here (omega (arith, small, apart))

        other : (j : ℕ) → (j < p.first) ⊎ (p.first + (i + 1) ≤ j) → cell_at new.state.samples j ≡ cell_at old.state.samples j
        other j (inl low) =
            ap (λ l. cell_at l j) samples ∙ get_or-set_other cur.state.samples (p.first + i) j x.num (pos 0) (omega (arith, low))
            ∙ before.others p j here (inl low)
        other j (inr high) =
            ap (λ l. cell_at l j) samples ∙ get_or-set_other cur.state.samples (p.first + i) j x.num (pos 0) (omega (arith, high))
            ∙ before.others p j here (inr (omega (arith, high)))

none_filled : (port : ℕ) (list : List Raw) (ports : PortsSeen) → IsFilled port 0 list ports ports
none_filled port list ports = record {
  rest = refl;
  long = refl;
  here = λ p k at small. absurd (omega (arith, small));
  others = λ p i at past. refl;
}

-- one sample alone
pub fill_one : (port n : ℕ) (list : List Raw) (x : Raw) (old new : PortsSeen) → CanFill port n list old → n ≡ 1 → slice_get list 0 ≡ Some x
    → ((p : PortSpan) → slice_get old.spans port ≡ Some p → new ≡ with_samples (slice_set old.state.samples (p.first + 0) x.num) old)
    → IsFilled port n list old new
fill_one port n list x old new can one at set =
    subst (λ k. IsFilled port k list old new) (sym one) (fill_more port 0 n list x old old new can (omega (arith, one)) (none_filled port list old) at set)

-- a port can still get its samples
pub can_still : (port n : ℕ) (list list2 : List Raw) (samples : List ℤ) (old cur : PortsSeen) → list2 ≡ list → cur ≡ with_samples samples old
    → length samples ≡ length old.state.samples → CanFill port n list old → CanFill port n list2 cur
can_still port n list list2 samples old cur same is long can =
    subst (λ (q : PortsSeen). CanFill port n list2 q) (sym is) (subst (λ l. CanFill port n l (with_samples samples old)) (sym same) (record {
      there = can.there;
      present = can.present;
      rate = can.rate;
      inside = λ p at. subst (λ k. p.first + p.count ≤ k) (sym long) (can.inside p at);
      formats = can.formats;
    }))

-- one wire more
module _ (ins : List InWire) (count : InWire → ℕ) (list : InWire → List Raw) (n : ℕ) (w : InWire) (old cur new : PortsSeen) (placed : AreConsecutive 0 old.spans)
    (once : (i j : ℕ) (v w : InWire) → slice_get ins i ≡ Some v → slice_get ins j ≡ Some w → v.port ≡ w.port → i ≡ j)
    (all_can : (j : ℕ) (v : InWire) → slice_get ins j ≡ Some v → CanFill v.port (count v) (list v) old) (at : slice_get ins n ≡ Some w)
    (before : AreFilledUpTo ins count list n old cur) (step : IsFilled w.port (count w) (list w) cur new) where
  abbrev rate : ℕ
  rate = count w

  can : CanFill w.port (count w) (list w) old
  can = all_can n w at

  cur_span : (m : ℕ) (p : PortSpan) → slice_get old.spans m ≡ Some p → slice_get cur.spans m ≡ Some p
  cur_span m p is = new_span cur.state.samples old cur m p before.rest is

  -- samples of other ports are not touched
  untouched : (m k : ℕ) (p : PortSpan) → slice_get old.spans m ≡ Some p → k < p.count → w.port ≢ m → cell_at new.state.samples (p.first + k) ≡ cell_at cur.state.samples (p.first + k)
  untouched m k p is below apart =
      let found = has_at old.spans w.port can.there in
      other found.0 found.1 (cases_lt w.port m)
    where
      other : (q : PortSpan) → slice_get old.spans w.port ≡ Some q → (w.port < m) ⊎ (m ≤ w.port) → cell_at new.state.samples (p.first + k) ≡ cell_at cur.state.samples (p.first + k)
      other q here (inl low) =
          let far = spans_apart 0 old.spans w.port m q p placed here is low in
          step.others q (p.first + k) (cur_span w.port q here) (inr (omega (arith, far, can.rate q here)))
      other q here (inr high) =
          let far = spans_apart 0 old.spans m w.port p q placed is here (omega (arith, high, apart)) in
          step.others q (p.first + k) (cur_span w.port q here) (inl (omega (arith, far, below)))

  pub wires_more : AreFilledUpTo ins count list (n + 1) old new
  wires_more = record {
    rest = step.rest ∙ ap (with_samples new.state.samples) before.rest;
    long = step.long ∙ before.long;
    filled = λ j k v p below here is small. filled j k v p below here is small (cases_eq j n);
    others = λ m k p is below none. others m k p is below none (cases_eq w.port m);
  }
    where
      filled : (j k : ℕ) (v : InWire) (p : PortSpan) → j < n + 1 → slice_get ins j ≡ Some v → slice_get old.spans v.port ≡ Some p → k < count v
          → (j ≡ n) ⊎ (j ≢ n) → cell_at new.state.samples (p.first + k) ≡ num_at (list v) k
      filled j k v p below here is small (inl now) =
          let same : w ≡ v = same_Some w v (sym at ∙ ap (slice_get ins) (sym now) ∙ here) in
          let mine : slice_get old.spans w.port ≡ Some p = subst (λ (u : InWire). slice_get old.spans u.port ≡ Some p) (sym same) is in
          let few : k < rate = subst (λ (u : InWire). k < count u) (sym same) small in
          step.here p k (cur_span w.port p mine) few ∙ ap (λ (u : InWire). num_at (list u) k) same
      filled j k v p below here is small (inr apart) =
          let few = (all_can j v here).rate p is in
          untouched v.port k p is (omega (arith, small, few)) (λ same. apart (sym (once n j w v at here same)))
          ∙ before.filled j k v p (omega (arith, below, apart)) here is small

      others : (m k : ℕ) (p : PortSpan) → slice_get old.spans m ≡ Some p → k < p.count
          → ((j : ℕ) (v : InWire) → j < n + 1 → slice_get ins j ≡ Some v → v.port ≡ m → count v ≤ k)
          → (w.port ≡ m) ⊎ (w.port ≢ m) → cell_at new.state.samples (p.first + k) ≡ cell_at old.state.samples (p.first + k)
      others m k p is below none (inl same) =
          let past = none n w (omega arith) at same in
          let mine : slice_get old.spans w.port ≡ Some p = ap (slice_get old.spans) same ∙ is in
          step.others p (p.first + k) (cur_span w.port p mine) (inr (omega (arith, past)))
          ∙ before.others m k p is below (λ j v small here port. none j v (omega (arith, small)) here port)
      others m k p is below none (inr apart) =
          untouched m k p is below apart ∙ before.others m k p is below (λ j v small here port. none j v (omega (arith, small)) here port)
