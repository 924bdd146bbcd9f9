-- Levels of operators, and what a stack of waiting operators leaves alone.
use Rattle.std.proofs.Common.{◌≡◌, ℕ, ◌≤◌, ◌<◌, ◌≢◌, Bool, true, false, cond, List, [], ◌∷◌, refl, sym, subst, arith, leb, ltb}
use Rattle.std.proofs.Math.Logic.{⊎_elim}
use Rattle.std.proofs.lemmas.Bool.{cases_lt}
use Rattle.std.proofs.lemmas.Bool.Decides.{nat_tests}
use Rattle.tdf_lang_tree.specs.Pure.{PureExpr}
use Rattle.tdf_lang_tree.specs.declared.expr.Op.{Op}
use Rattle.tdf_lang_tree.specs.declared.expr.Op.TheVariants.{Or, And, Lt, Le, Eq, Ne, Gt, Ge, Add, Sub, Mul}
use Rattle.tdf_lang_exprs.specs.declared.after.After.TheVariants.{Joins, Shifts}
use Rattle.tdf_lang_exprs.specs.SpellsExpr.{level, left_level, operator_token, shift_sign}
use Rattle.tdf_lang_exprs.specs.machine.Exprs.{Wait, Within, Negated, Denied, Left, stops, reduce, after}

pub cond_le : {A : Type 0} (m n : ℕ) (x y : A) → m ≤ n → cond (leb m n) x y ≡ x
cond_le m n x y h = grind (arith, nat_tests)

pub cond_gt : {A : Type 0} (m n : ℕ) (x y : A) → n < m → cond (leb m n) x y ≡ y
cond_gt m n x y h = grind (arith, nat_tests)

pub leb_true : (m n : ℕ) → m ≤ n → leb m n ≡ true
leb_true m n h = grind (arith, nat_tests)

pub ltb_true : (m n : ℕ) → m < n → ltb m n ≡ true
ltb_true m n h = grind (arith, nat_tests)

pub leb_le : (m n : ℕ) → leb m n ≡ true → m ≤ n
leb_le m n h = grind (arith, nat_tests)

pub ltb_lt : (m n : ℕ) → ltb m n ≡ true → m < n
ltb_lt m n h = grind (arith, nat_tests)

pub after_sign : (op : Op) → after (operator_token op) ≡ Joins op
after_sign Or = refl
after_sign And = refl
after_sign Lt = refl
after_sign Le = refl
after_sign Eq = refl
after_sign Ne = refl
after_sign Gt = refl
after_sign Ge = refl
after_sign Add = refl
after_sign Sub = refl
after_sign Mul = refl

pub after_shift_sign : (left : Bool) → after (shift_sign left) ≡ Shifts left
after_shift_sign true = refl
after_shift_sign false = refl

pub level_le : (op : Op) → level op ≤ left_level op
level_le Or = omega arith
level_le And = omega arith
level_le Lt = omega arith
level_le Le = omega arith
level_le Eq = omega arith
level_le Ne = omega arith
level_le Gt = omega arith
level_le Ge = omega arith
level_le Add = omega arith
level_le Sub = omega arith
level_le Mul = omega arith

pub left_le_five : (op : Op) → left_level op ≤ 5
left_le_five Or = omega arith
left_le_five And = omega arith
left_le_five Lt = omega arith
left_le_five Le = omega arith
left_le_five Eq = omega arith
left_le_five Ne = omega arith
left_le_five Gt = omega arith
left_le_five Ge = omega arith
left_le_five Add = omega arith
left_le_five Sub = omega arith
left_le_five Mul = omega arith

pub level_lt_six : (op : Op) → level op < 6
level_lt_six op = omega (arith, level_le op, left_le_five op)

-- what leaves an operand of level k alone leaves a tighter one alone
pub stops_more : (j k : ℕ) (s : List Wait) → j ≤ k → stops j s ≡ true → stops k s ≡ true
stops_more j k [] le h = refl
stops_more j k (Within b ∷ s) le h = refl
stops_more j k (Negated ∷ s) le h = leb_true 6 k (omega (arith, leb_le 6 j h))
stops_more j k (Denied ∷ s) le h = leb_true 2 k (omega (arith, leb_le 2 j h))
stops_more j k (Left op x ∷ s) le h = ltb_true (level op) k (omega (arith, ltb_lt (level op) j h))

pub stops_six : (s : List Wait) → stops 6 s ≡ true
stops_six [] = refl
stops_six (Within b ∷ s) = refl
stops_six (Negated ∷ s) = refl
stops_six (Denied ∷ s) = refl
stops_six (Left op x ∷ s) = ltb_true (level op) 6 (level_lt_six op)

-- a stack that leaves level k alone keeps its operand
pub stays : (k : ℕ) (s : List Wait) (e : PureExpr) → k ≤ 5 → k ≢ 2 → stops k s ≡ true → reduce k s e ≡ record { stack = s; tree = e }
stays k [] e le ne h = refl
stays k (Within b ∷ s) e le ne h = refl
stays k (Negated ∷ s) e le ne h = absurd (omega (arith, leb_le 6 k h))
stays k (Denied ∷ s) e le ne h = cond_gt k 2 _ _ (omega (arith, leb_le 2 k h))
stays k (Left op x ∷ s) e le ne h = cond_gt k (level op) _ _ (ltb_lt (level op) k h)

pub left_not_two : (op : Op) → left_level op ≢ 2
left_not_two Or h = omega arith
left_not_two And h = omega arith
left_not_two Lt h = omega arith
left_not_two Le h = omega arith
left_not_two Eq h = omega arith
left_not_two Ne h = omega arith
left_not_two Gt h = omega arith
left_not_two Ge h = omega arith
left_not_two Add h = omega arith
left_not_two Sub h = omega arith
left_not_two Mul h = omega arith

-- a fact of a choice, by its two cases
pub pick : {A : Type 0} (P : A → Type 0) (m n : ℕ) (x y : A) → (m ≤ n → P x) → (n < m → P y) → P (cond (leb m n) x y)
pick P m n x y yes_ no_ = ⊎_elim {C = P (cond (leb m n) x y)} (λ (gt : n < m). subst P (sym (cond_gt m n x y gt)) (no_ gt)) (λ (le : m ≤ n). subst P (sym (cond_le m n x y le)) (yes_ le)) (cases_lt n m)

pub pick_bool : {A : Type 0} (P : A → Type 0) (b : Bool) (x y : A) → (b ≡ true → P x) → (b ≡ false → P y) → P (cond b x y)
pick_bool P true x y f g = f refl
pick_bool P false x y f g = g refl
