-- Delta steps until no process is triggered.
use Rattle.std.proofs.Common.{◌≡◌, ℕ, zero, suc, ◌+◌, ◌-◌, ◌<◌, ◌≤◌, Bool, true, false, if◌then◌else◌, nat_lt, Some, None, refl, ◌∙◌, arith, add-one}
use Rattle.std.proofs.lemmas.Bool.{lt-ltb, le-ltb, ltb-false}
use Rattle.tdf_events.specs.Delta.{is_idle, settled, settled_by, delta_stepped, turns_of}
use Rattle.tdf_events.specs.Side.{SideOf}
use Rattle.tdf_bind.specs.declared.model.Flat.{Flat}
use Rattle.tdf_lang_tree.specs.Pure.{PureTree}

module _ (model : PureTree) (flat : Flat) (time : ℕ) where
  -- more fuel than turns changes nothing
  enough : (fuel more : ℕ) (s : SideOf) (left : ℕ) → left < fuel → left < more → settled_by fuel model flat time s left ≡ settled_by more model flat time s left
  unfolding settled_by
  enough zero more s left a b = absurd (omega (arith, a))
  enough (suc fuel) zero s left a b = absurd (omega (arith, b))
  enough (suc fuel) (suc more) s left a b = if_less (nat_lt left (turns_of s)) _ _ _ (λ h. if_not (is_idle (delta_stepped model flat time s)) _ _ _ (enough fuel more (delta_stepped model flat time s) (left - (turns_of s)) (omega (arith, a, ltb-false left (turns_of s) h)) (omega (arith, b, ltb-false left (turns_of s) h))))
    where
      if_less : {A : Type 0} (t : Bool) (x y z : A) → (t ≡ false → y ≡ z) → (if t then x else y) ≡ (if t then x else z)
      if_less true x y z same = refl
      if_less false x y z same = same refl

      if_not : {A : Type 0} (t : Bool) (x y z : A) → y ≡ z → (if t then x else y) ≡ (if t then x else z)
      if_not true x y z same = refl
      if_not false x y z same = same

  pub settled_spent : (s : SideOf) (left : ℕ) → left < turns_of s → settled model flat time s left ≡ None
  unfolding settled_by
  settled_spent s left short = rw (add-one left, lt-ltb left (turns_of s) short) refl

  pub settled_idle : (s : SideOf) (left : ℕ) → turns_of s ≤ left → is_idle (delta_stepped model flat time s) ≡ true → settled model flat time s left ≡ Some (delta_stepped model flat time s, left - (turns_of s))
  unfolding settled_by
  settled_idle s left long idle = rw (add-one left, le-ltb left (turns_of s) long, idle) refl

  settle_suc : (fuel : ℕ) (s : SideOf) (left : ℕ) → turns_of s ≤ left → is_idle (delta_stepped model flat time s) ≡ false → settled_by (suc fuel) model flat time s left ≡ settled_by fuel model flat time (delta_stepped model flat time s) (left - (turns_of s))
  unfolding settled_by
  settle_suc fuel s left long busy = rw (le-ltb left (turns_of s) long, busy) refl

  pub settled_on : (s : SideOf) (left : ℕ) → turns_of s ≤ left → is_idle (delta_stepped model flat time s) ≡ false → settled model flat time s left ≡ settled model flat time (delta_stepped model flat time s) (left - (turns_of s))
  settled_on s left long busy = one s left long busy ∙ enough left (left - (turns_of s) + 1) (delta_stepped model flat time s) (left - (turns_of s)) (omega (arith, long)) (omega arith)
    where
      one : (s : SideOf) (left : ℕ) → turns_of s ≤ left → is_idle (delta_stepped model flat time s) ≡ false → settled_by (left + 1) model flat time s left ≡ settled_by left model flat time (delta_stepped model flat time s) (left - (turns_of s))
      one s left long busy = rw (add-one left) (settle_suc left s left long busy)

pub ruleset settles = (settled_spent, settled_idle, settled_on)
