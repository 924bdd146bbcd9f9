-- An index without a fault lies inside its array or port.
use Rattle.std.proofs.Common.{◌≡◌, ◌∙◌, ℕ, ◌+◌, ◌-◌, ◌*◌, ◌≤◌, ◌<◌, Bool, true, false, List, [], Option, Some, None, refl, sym, ap, subst, arith, ◌⊎◌, inl, inr, mul_assoc, pos, ◌+ℤ◌, ◌-ℤ◌, ◌*ℤ◌}
use Rattle.std.proofs.Math.Nat.{mul-le-mul_left, mul-le-mul_right, mul-add}
use Rattle.std.proofs.lemmas.Int.{ints}
use Rattle.std.proofs.lemmas.Bool.Decides.{nat_tests}
use Rattle.std.specs.Cmp.Lexicographic.{pointwise, bytes_decides}
use Rattle.std.specs.Option.{option_map}
use Rattle.std.specs.Prelude.{not, ◌&&◌, ◌||◌, nat_eq, nat_lt, nat_le, slice_index}
use Rattle.tdf_base.specs.declared.codes.Code.TheVariants as code
use Rattle.tdf_base.proofs.Api.{if_none, none_first, none_second}
use Rattle.tdf_expr_semantics.proofs.Found.{of_kind, is_loop, open_loop, least_greatest, IsOpen}
use Rattle.tdf_expr_semantics.specs.Fits.{LoopsFit}
use Rattle.tdf_expr_semantics.specs.Laws.{IsIndex, LiesInside}
use Rattle.tdf_expr_semantics.specs.Value.{turn_of, turn_number}
use Rattle.tdf_expr_symbols.specs.Index.{size_of, name_in, index_kind_faults, is_index_negative, greatest_index, Multiple, multiple_of, is_within, is_multiple_within, is_excepted, breaks, breaks_in, breaks_size, kind_faults, index_faults}
use Rattle.tdf_expr_symbols.specs.Names.{Names, Thing, Loop, thing_of}
use Rattle.tdf_expr_symbols.specs.Scope.{Scope, OpenLoop, named, greatest_rate_of, least_of, greatest_of}
use Rattle.tdf_expr_symbols.specs.Sound.{IsSound}
use Rattle.tdf_expr_symbols.specs.declared.kinds.Place.TheVariants as place
use Rattle.tdf_lang_tree.specs.declared.expr.Index.{Index}
use Rattle.tdf_lang_tree.specs.declared.expr.Index.TheVariants as index
use Rattle.tdf_lang_tree.specs.declared.stmt.Limit.{Limit}
use Rattle.tdf_lang_tree.specs.declared.stmt.Limit.TheVariants as limit

-- the value of a loop variable that is open, and its bounds
pub record IsTurn (own : Names) (loops : List OpenLoop) (turns : List ℕ) (name : List ℕ) (from : ℕ) (end : Limit) : Type 0 where
  pub turn : ℕ
  pub is : turn_of loops turns name ≡ Some turn
  pub low : from ≤ turn
  pub high : turn < greatest_of own end

pub turn_at : (scope : Scope) (loops : List OpenLoop) (turns : List ℕ) (name : List ℕ) (from : ℕ) (end : Limit)
    → IsOpen scope loops name from end → LoopsFit scope.own loops turns → IsTurn scope.own loops turns name from end
turn_at scope loops turns name from end o fits =
    let bounds = fits.each o.depth o.l o.is in
    record {
      turn = slice_index turns o.depth;
      is = ap (option_map (slice_index turns)) o.at;
      low = subst (λ k. k ≤ slice_index turns o.depth) o.from_is bounds.0;
      high = subst (λ (l : Limit). slice_index turns o.depth < greatest_of scope.own l) o.end_is bounds.1;
    }

-- what an index with a loop variable has where it has no fault
pub record IsAt (scope : Scope) (loops : List OpenLoop) (turns : List ℕ) (i : Index) (name : List ℕ) (size : Limit) : Type 0 where
  pub from : ℕ
  pub end : Limit
  pub turn : IsTurn scope.own loops turns name from end
  pub negative : is_index_negative i from (greatest_of scope.own end - 1) ≡ false
  pub upper : (is_excepted i end size ≡ true) ⊎ (nat_lt (greatest_index i from (greatest_of scope.own end - 1)) (least_of scope.own size) ≡ true)

two_parts : (a b c : Bool) → a || (not b && not c) ≡ false → (a ≡ false) × ((b ≡ true) ⊎ (c ≡ true))
two_parts true b c e = absurd cc
two_parts false true c e = (refl, inl refl)
two_parts false false true e = (refl, inr refl)
two_parts false false false e = absurd cc

is_at : (scope : Scope) (loops : List OpenLoop) (turns : List ℕ) (i : Index) (name : List ℕ) (size : Limit) (line : ℕ) → IsSound scope
    → LoopsFit scope.own loops turns → kind_faults place.Index (named scope loops name) line ≡ []
    → breaks scope.own size i (named scope loops name) ≡ false → IsAt scope loops turns i name size
is_at scope loops turns i name size line sound fits none inside =
    let kind = of_kind place.Index (named scope loops name) line none in
    let loop = is_loop kind.thing kind.allowed in
    let is : named scope loops name ≡ Some (Loop loop.0 loop.1) = kind.is ∙ ap (λ (t : Thing). Some t) loop.2 in
    let parts = two_parts (is_index_negative i loop.0 (greatest_of scope.own loop.1 - 1)) (is_excepted i loop.1 size)
    (nat_lt (greatest_index i loop.0 (greatest_of scope.own loop.1 - 1)) (least_of scope.own size))
    (ap (breaks scope.own size i) (sym is) ∙ inside) in
    record {
      from = loop.0;
      end = loop.1;
      turn = turn_at scope loops turns name loop.0 loop.1 (open_loop scope sound loops name loop.0 loop.1 is) fits;
      negative = parts.0;
      upper = parts.1;
    }

-- both limits are multiples of one rate variable
record IsExcepted (own : Names) (i : Index) (end size : Limit) : Type 0 where
  k : ℕ
  m : ℕ
  g : ℕ
  end_is : greatest_of own end ≡ k * g
  size_is : greatest_of own size ≡ m * g
  within : is_within i k m ≡ true

multiple_is : (own : Names) (l : Limit) (x : Multiple) → multiple_of l ≡ Some x → greatest_of own l ≡ x.times * greatest_rate_of (thing_of own x.variable)
unfolding greatest_of
multiple_is own (limit.Int n) x e = absurd cc
multiple_is own (limit.Var r) x e =
    let one : greatest_rate_of (thing_of own r) ≡ 1 * greatest_rate_of (thing_of own r) = omega arith in
    one ∙ ap (λ (o : Option Multiple). value o) e
  where
    value : Option Multiple → ℕ
    value None = 0
    value (Some y) = y.times * greatest_rate_of (thing_of own y.variable)
multiple_is own (limit.Times c r) x e = ap (λ (o : Option Multiple). value o) e
  where
    value : Option Multiple → ℕ
    value None = 0
    value (Some y) = y.times * greatest_rate_of (thing_of own y.variable)

and_first : (a b : Bool) → a && b ≡ true → a ≡ true
and_first true b e = refl
and_first false b e = absurd cc

and_second : (a b : Bool) → a && b ≡ true → b ≡ true
and_second true b e = e
and_second false b e = absurd cc

excepted : (own : Names) (i : Index) (end size : Limit) → is_excepted i end size ≡ true → IsExcepted own i end size
unfolding is_excepted
excepted own i end size e = go (multiple_of end) refl (multiple_of size) refl e
  where
    go : (a : Option Multiple) → multiple_of end ≡ a → (b : Option Multiple) → multiple_of size ≡ b → is_multiple_within i a b ≡ true → IsExcepted own i end size
    go None at b bt e = absurd cc
    go (Some a) at None bt e = absurd cc
    go (Some a) at (Some b) bt e =
        let same = (bytes_decides a.variable b.variable).0 (and_first (pointwise nat_eq a.variable b.variable) (is_within i a.times b.times) e) in
        record {
          k = a.times;
          m = b.times;
          g = greatest_rate_of (thing_of own b.variable);
          end_is = subst (λ (r : List ℕ). greatest_of own end ≡ a.times * greatest_rate_of (thing_of own r)) same (multiple_is own end a at);
          size_is = multiple_is own size b bt;
          within = and_second (pointwise nat_eq a.variable b.variable) (is_within i a.times b.times) e;
        }

-- c * v + d < m * g, where v < k * g, d < c and c * k <= m
stretched : (c d v k m g : ℕ) → d < c → c * k ≤ m → v < k * g → c * v + d < m * g
stretched c d v k m g dc ckm vkg =
    let next : c * (v + 1) ≤ c * (k * g) = mul-le-mul_left c (omega (arith, vkg)) in
    let more : c * k * g ≤ m * g = mul-le-mul_right g ckm in
    let assoc : c * (k * g) ≡ c * k * g = sym (mul_assoc c k g) in
    let sum : c * (v + 1) ≡ c * v + c = mul-add c v 1 ∙ ap (λ n. c * v + n) (omega arith) in
    omega (arith, dc, next, more, assoc, sum)

raised : (v k m g : ℕ) → k ≤ m → v < k * g → v < m * g
raised v k m g km vkg =
    let more : k * g ≤ m * g = mul-le-mul_right g km in
    omega (arith, vkg, more)

-- each index with a loop variable
module _ (scope : Scope) (loops : List OpenLoop) (turns : List ℕ) (size : Limit) (sound : IsSound scope) where
  below_greatest : (n : ℕ) → nat_lt n (least_of scope.own size) ≡ true → n < greatest_of scope.own size
  below_greatest n e =
      let le = least_greatest scope sound size in
      let lt : n < least_of scope.own size = grind (arith, nat_tests) in
      omega (arith, le, lt)

  at_int : (n : ℕ) → not (nat_lt n (least_of scope.own size)) ≡ false → IsIndex scope.own loops turns (index.Int n) size
  at_int n e = record { place = n; is = refl; below = below_greatest n (not_false (nat_lt n (least_of scope.own size)) e) }
    where
      not_false : (b : Bool) → not b ≡ false → b ≡ true
      not_false true e = refl
      not_false false e = absurd cc

  at_var : (i : List ℕ) → IsAt scope loops turns (index.Var i) i size → IsIndex scope.own loops turns (index.Var i) size
  at_var i h = record { place = h.turn.turn; is = ap turn_number h.turn.is; below = go h.upper }
    where
      go : (is_excepted (index.Var i) h.end size ≡ true) ⊎ (nat_lt (greatest_of scope.own h.end - 1) (least_of scope.own size) ≡ true) → h.turn.turn < greatest_of scope.own size
      go (inl e) =
          let x = excepted scope.own (index.Var i) h.end size e in
          let le : x.k ≤ x.m = grind (arith, nat_tests, x.within) in
          let lt : h.turn.turn < x.k * x.g = subst (λ n. h.turn.turn < n) x.end_is h.turn.high in
          subst (λ n. h.turn.turn < n) (sym x.size_is) (raised h.turn.turn x.k x.m x.g le lt)
      go (inr e) = omega (arith, below_greatest _ e, h.turn.high)

  at_plus : (i : List ℕ) (n : ℕ) → IsAt scope loops turns (index.Plus i n) i size → IsIndex scope.own loops turns (index.Plus i n) size
  at_plus i n h = record { place = h.turn.turn + n; is = ap (λ o. turn_number o +ℤ pos n) h.turn.is ∙ omega (arith, ints); below = go h.upper }
    where
      go : (is_excepted (index.Plus i n) h.end size ≡ true) ⊎ (nat_lt (greatest_of scope.own h.end - 1 + n) (least_of scope.own size) ≡ true) → h.turn.turn + n < greatest_of scope.own size
      go (inl e) =
          let x = excepted scope.own (index.Plus i n) h.end size e in
          absurd (impossible x.within)
        where
          impossible : false ≡ true → ⊥
          impossible e = absurd cc
      go (inr e) = omega (arith, below_greatest _ e, h.turn.high)

  at_minus : (i : List ℕ) (n : ℕ) → IsAt scope loops turns (index.Minus i n) i size → IsIndex scope.own loops turns (index.Minus i n) size
  at_minus i n h =
      let low : n ≤ h.from = grind (arith, nat_tests, h.negative) in
      record { place = h.turn.turn - n; is = ap (λ o. turn_number o -ℤ pos n) h.turn.is ∙ omega (arith, ints, low, h.turn.low); below = go h.upper }
    where
      go : (is_excepted (index.Minus i n) h.end size ≡ true) ⊎ (nat_lt (greatest_of scope.own h.end - 1 - n) (least_of scope.own size) ≡ true) → h.turn.turn - n < greatest_of scope.own size
      go (inl e) =
          let x = excepted scope.own (index.Minus i n) h.end size e in
          let le : x.k ≤ x.m = grind (arith, nat_tests, x.within) in
          let lt : h.turn.turn < x.k * x.g = subst (λ n. h.turn.turn < n) x.end_is h.turn.high in
          let inside : h.turn.turn < greatest_of scope.own size = subst (λ n. h.turn.turn < n) (sym x.size_is) (raised h.turn.turn x.k x.m x.g le lt) in
          omega (arith, inside)
      go (inr e) = omega (arith, below_greatest _ e, h.turn.high)

  at_from : (n : ℕ) (i : List ℕ) → IsAt scope loops turns (index.From n i) i size → IsIndex scope.own loops turns (index.From n i) size
  at_from n i h =
      let low : greatest_of scope.own h.end - 1 ≤ n = grind (arith, nat_tests, h.negative) in
      record { place = n - h.turn.turn; is = ap (λ o. pos n -ℤ turn_number o) h.turn.is ∙ omega (arith, ints, low, h.turn.high); below = go h.upper }
    where
      go : (is_excepted (index.From n i) h.end size ≡ true) ⊎ (nat_lt (n - h.from) (least_of scope.own size) ≡ true) → n - h.turn.turn < greatest_of scope.own size
      go (inl e) =
          let x = excepted scope.own (index.From n i) h.end size e in
          absurd (impossible x.within)
        where
          impossible : false ≡ true → ⊥
          impossible e = absurd cc
      go (inr e) = omega (arith, below_greatest _ e, h.turn.low)

  at_times : (c : ℕ) (i : List ℕ) → IsAt scope loops turns (index.Times c i) i size → IsIndex scope.own loops turns (index.Times c i) size
  at_times c i h = record { place = c * h.turn.turn; is = ap (λ o. pos c *ℤ turn_number o) h.turn.is; below = go h.upper }
    where
      go : (is_excepted (index.Times c i) h.end size ≡ true) ⊎ (nat_lt (c * (greatest_of scope.own h.end - 1)) (least_of scope.own size) ≡ true) → c * h.turn.turn < greatest_of scope.own size
      go (inl e) =
          let x = excepted scope.own (index.Times c i) h.end size e in
          let some : 0 < c = grind (arith, nat_tests, and_first (nat_lt 0 c) (nat_le (c * x.k) x.m) x.within) in
          let le : c * x.k ≤ x.m = grind (arith, nat_tests, and_second (nat_lt 0 c) (nat_le (c * x.k) x.m) x.within) in
          let lt : h.turn.turn < x.k * x.g = subst (λ n. h.turn.turn < n) x.end_is h.turn.high in
          let inside = stretched c 0 h.turn.turn x.k x.m x.g some le lt in
          subst (λ n. c * h.turn.turn < n) (sym x.size_is) (omega (arith, inside))
      go (inr e) =
          let le : c * h.turn.turn ≤ c * (greatest_of scope.own h.end - 1) = mul-le-mul_left c (omega (arith, h.turn.high)) in
          omega (arith, below_greatest _ e, le)

  at_times_plus : (c : ℕ) (i : List ℕ) (d : ℕ) → IsAt scope loops turns (index.TimesPlus c i d) i size → IsIndex scope.own loops turns (index.TimesPlus c i d) size
  at_times_plus c i d h = record { place = c * h.turn.turn + d; is = ap (λ o. pos c *ℤ turn_number o +ℤ pos d) h.turn.is ∙ omega (arith, ints); below = go h.upper }
    where
      go : (is_excepted (index.TimesPlus c i d) h.end size ≡ true) ⊎ (nat_lt (c * (greatest_of scope.own h.end - 1) + d) (least_of scope.own size) ≡ true) → c * h.turn.turn + d < greatest_of scope.own size
      go (inl e) =
          let x = excepted scope.own (index.TimesPlus c i d) h.end size e in
          let some : d < c = grind (arith, nat_tests, and_first (nat_lt d c) (nat_le (c * x.k) x.m) x.within) in
          let le : c * x.k ≤ x.m = grind (arith, nat_tests, and_second (nat_lt d c) (nat_le (c * x.k) x.m) x.within) in
          let lt : h.turn.turn < x.k * x.g = subst (λ n. h.turn.turn < n) x.end_is h.turn.high in
          subst (λ n. c * h.turn.turn + d < n) (sym x.size_is) (stretched c d h.turn.turn x.k x.m x.g some le lt)
      go (inr e) =
          let le : c * h.turn.turn ≤ c * (greatest_of scope.own h.end - 1) = mul-le-mul_left c (omega (arith, h.turn.high)) in
          omega (arith, below_greatest _ e, le)

pub inside : LiesInside
unfolding index_faults
inside scope loops line t size i turns sound size_is none fits =
    by_form i (none_first (index_kind_faults scope loops line (name_in i)) _ none)
    (ap (λ (o : Option Limit). breaks_size scope loops o i) (sym size_is)
    ∙ if_none (breaks_size scope loops (size_of (Some t)) i) code.Index line (none_second (index_kind_faults scope loops line (name_in i)) _ none))
  where
    by_form : (j : Index) → index_kind_faults scope loops line (name_in j) ≡ [] → breaks_in scope loops size j (name_in j) ≡ false → IsIndex scope.own loops turns j size
    by_form (index.Int n) a b = at_int scope loops turns size sound n b
    by_form (index.Var x) a b = at_var scope loops turns size sound x (is_at scope loops turns (index.Var x) x size line sound fits a b)
    by_form (index.Plus x n) a b = at_plus scope loops turns size sound x n (is_at scope loops turns (index.Plus x n) x size line sound fits a b)
    by_form (index.Minus x n) a b = at_minus scope loops turns size sound x n (is_at scope loops turns (index.Minus x n) x size line sound fits a b)
    by_form (index.From n x) a b = at_from scope loops turns size sound n x (is_at scope loops turns (index.From n x) x size line sound fits a b)
    by_form (index.Times c x) a b = at_times scope loops turns size sound c x (is_at scope loops turns (index.Times c x) x size line sound fits a b)
    by_form (index.TimesPlus c x d) a b = at_times_plus scope loops turns size sound c x d (is_at scope loops turns (index.TimesPlus c x d) x size line sound fits a b)
