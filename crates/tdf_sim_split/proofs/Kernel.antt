-- The state of an event side between two instants is one of the model.
use Rattle.std.proofs.Common.{◌≡◌, ◌∙◌, ℕ, zero, suc, ℤ, ◌+◌, ◌^◌, ◌<◌, ◌≤◌, List, [], ◌++◌, Option, Some, None, option_map, map, length, slice_get, refl, ap, sym, subst, arith}
use Rattle.std.proofs.lemmas.List.{length-map}
use Rattle.std.proofs.lemmas.Option.{get_or_from_slice_get, slice_get-map, slice_get_within}
use Rattle.std.specs.List.{flat_map, range_with_len}
use Rattle.std.specs.Prelude.{IfSome, pos}
use Rattle.tdf_bind.specs.declared.model.Flat.{Flat}
use Rattle.tdf_events.specs.Runnable.{AreOfSignals, signal_formats}
use Rattle.tdf_events.specs.Side.{SideOf}
use Rattle.tdf_events.specs.State.{IsKernelState, kernel_state_of, notification_of}
use Rattle.tdf_events_queue.specs.Times.{IsNonePending, pending_time}
use Rattle.tdf_expr.specs.Made.{CellsFit}
use Rattle.tdf_expr.specs.Plans.{shape_written}
use Rattle.tdf_expr_semantics.specs.Fits.{NumbersFit}
use Rattle.tdf_expr_state.specs.State.{FrameState, cell_at}
use Rattle.tdf_fixed.specs.Overflow.{IsOfWidth}
use Rattle.tdf_fixed.specs.declared.format.Format.{Format}
use Rattle.tdf_fixed.specs.declared.raw.Raw.{Raw}
use Rattle.tdf_lang_tree.specs.declared.shapes.Shape.{Shape}
use Rattle.tdf_saved.specs.declared.state.Pending.{Pending}
use Rattle.tdf_sim_resumed.specs.Snapshot.{IsSideBefore}
use Rattle.tdf_sim_split.proofs.Calm.{IsSteadySide}
use Rattle.tdf_streams.proofs.Api.{get_inside, none_some, some_same}

-- ---- values

module _ (formats : List Format) (values : List Raw) (are : AreOfSignals formats values) where
  abbrev nums : List ℤ
  nums = map (λ (value : Raw). value.num) values

  one_fits : (j : ℕ) (s : Shape) (o : Option Format) → slice_get formats j ≡ o → option_map shape_written o ≡ Some (Some s) → IsOfWidth s.signed s.wl (cell_at nums j)
  one_fits j s None at same = absurd cc
  one_fits j s (Some f) at same =
      let inside = slice_get_within formats j f at in let l = are.long in
      let v = get_inside values j (omega (arith, inside, l)) in
      let num : cell_at nums j ≡ v.0.num = get_or_from_slice_get nums j v.0.num (pos 0) (slice_get-map (λ (value : Raw). value.num) values j ∙ ap (option_map (λ (value : Raw). value.num)) v.1) in
      subst (λ (x : Option (Option Shape)). IfSome x (λ y. IfSome y (λ t. IsOfWidth t.signed t.wl (cell_at nums j)))) same
      (subst (IsOfWidth f.signed f.wl) (sym num) (are.each j f v.0 at v.1).num)

  pub values_fit : NumbersFit (map shape_written formats) nums
  values_fit = record {
    long = length-map values (λ (value : Raw). value.num) ∙ are.long ∙ sym (length-map formats shape_written);
    each = λ j s at. one_fits j s (slice_get formats j) refl (sym (slice_get-map shape_written formats j) ∙ at);
  }

-- ---- notifications

module _ (f : ℕ → Option ℕ) where
  abbrev listed : (a n : ℕ) → List Pending
  listed a n = flat_map (λ event. notification_of event (f event)) (range_with_len a n)

  -- one of those of some events
  record IsListed (a n : ℕ) (p : Pending) : Type 0 where
    pub from : a ≤ p.event
    pub below : p.event < a + n
    pub is : f p.event ≡ Some p.time

  later : (a n : ℕ) (p : Pending) → IsListed (a + 1) n p → IsListed a (suc n) p
  later a n p l = record { from = (let x = l.from in omega (arith, x)); below = (let x = l.below in omega (arith, x)); is = l.is }

  here_is : (a n t : ℕ) (p : Pending) → f a ≡ Some t → record { event = a; time = t } ≡ p → IsListed a (suc n) p
  here_is a n t p at same = subst (IsListed a (suc n)) same (record { from = omega arith; below = omega arith; is = at })

  is_listed : (a n i : ℕ) (p : Pending) → slice_get (listed a n) i ≡ Some p → IsListed a n p
  is_listed a zero i p at = none_some p at
  is_listed a (suc n) i p at = go (λ k there. is_listed (a + 1) n k p there) (f a) refl i at
    where
      go : ((k : ℕ) → slice_get (listed (a + 1) n) k ≡ Some p → IsListed (a + 1) n p) → (o : Option ℕ) → f a ≡ o → (i : ℕ) → slice_get (notification_of a o ++ listed (a + 1) n) i ≡ Some p → IsListed a (suc n) p
      go rest None is i there = later a n p (rest i there)
      go rest (Some t) is zero there = here_is a n t p is (some_same _ p there)
      go rest (Some t) is (suc i) there = later a n p (rest i there)

  rises : (a n i : ℕ) (p q : Pending) → slice_get (listed a n) i ≡ Some p → slice_get (listed a n) (suc i) ≡ Some q → p.event < q.event
  rises a zero i p q at there = none_some p at
  rises a (suc n) i p q at there = go (λ k one next. rises (a + 1) n k p q one next) (f a) i at there
    where
      go : ((k : ℕ) → slice_get (listed (a + 1) n) k ≡ Some p → slice_get (listed (a + 1) n) (suc k) ≡ Some q → p.event < q.event)
          → (o : Option ℕ) → (i : ℕ) → slice_get (notification_of a o ++ listed (a + 1) n) i ≡ Some p → slice_get (notification_of a o ++ listed (a + 1) n) (suc i) ≡ Some q → p.event < q.event
      go rest None i one next = rest i one next
      go rest (Some t) zero one next = let l = (is_listed (a + 1) n 0 q next).from in let e = ap (λ (x : Pending). x.event) (some_same (record { event = a; time = t }) p one) in omega (arith, l, e)
      go rest (Some t) (suc i) one next = rest i one next

  none_listed : (a n : ℕ) → ((event : ℕ) → f event ≡ None) → listed a n ≡ []
  none_listed a zero none = refl
  none_listed a (suc n) none = ap (λ o. notification_of a o ++ listed (a + 1) n) (none a) ∙ none_listed (a + 1) n none

-- ---- all of it

pub is_kernel_state : (flat : Flat) (time bound : ℕ) (side : SideOf) → IsSideBefore flat time side → IsSteadySide flat bound side → bound ≤ time + 10 ^ 18 → (time ≡ 0 → IsNonePending side.notices.times)
    → IsKernelState flat time (kernel_state_of side)
is_kernel_state flat time bound side before steady within none = record {
  values = values_fit (signal_formats flat) side.values before.values;
  blocks = record {
    long = length-map side.frames (λ (frame : FrameState). frame.cells) ∙ before.frames;
    each = λ n row nums row_at at. (
        let inside = slice_get_within flat.tables.blocks n row row_at in let l = before.frames in
        let f = get_inside side.frames n (omega (arith, inside, l)) in
        subst (CellsFit flat.checked row.block)
        (some_same f.0.cells nums (sym (slice_get-map (λ (frame : FrameState). frame.cells) side.frames n ∙ ap (option_map (λ (frame : FrameState). frame.cells)) f.1) ∙ at))
        (steady.cells n row f.0 row_at f.1));
  };
  pending = record {
    each = λ i p at. (
        let l = is_listed (pending_time side.notices.times) 0 (length side.notices.times) i p at in
        let u = steady.until p.event p.time l.is in let b = l.below in let n = before.times in
        record {
          event = omega (arith, b, n);
          from = before.none.none p.event p.time l.is;
          until = omega (arith, u, within);
        });
    rising = λ i p q at there. rises (pending_time side.notices.times) 0 (length side.notices.times) i p q at
        (let z : i + 1 ≡ suc i = omega arith in ap (slice_get (kernel_state_of side).pending) (sym z) ∙ there);
  };
  first = λ start. none_listed (pending_time side.notices.times) 0 (length side.notices.times) (none start).none;
}
