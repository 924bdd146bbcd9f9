-- An index without a fault lies below the size in force.
use Rattle.std.proofs.Common.{◌≡◌, ◌∙◌, ℕ, ◌+◌, ◌-◌, ◌*◌, ◌≤◌, ◌<◌, Bool, true, false, List, [], Option, Some, None, refl, sym, ap, subst, arith, ◌⊎◌, inl, inr, mul_assoc, pos, ◌+ℤ◌, ◌-ℤ◌, ◌*ℤ◌}
use Rattle.std.proofs.Math.Nat.{mul-le-mul_left, mul-le-mul_right, mul-add}
use Rattle.std.proofs.lemmas.Int.{ints}
use Rattle.std.proofs.lemmas.Bool.Decides.{nat_tests}
use Rattle.std.specs.Cmp.Lexicographic.{pointwise, bytes_decides}
use Rattle.std.specs.Option.{option_map}
use Rattle.std.specs.Prelude.{not, ◌&&◌, ◌||◌, nat_eq, nat_lt, nat_le, slice_index}
use Rattle.tdf_base.specs.declared.codes.Code.TheVariants as code
use Rattle.tdf_base.proofs.Api.{if_none, none_first, none_second}
use Rattle.tdf_expr_laws.specs.Indices.{IsIndexInForce, LiesBelowRate, LoopsRun}
use Rattle.tdf_expr_semantics.proofs.Api.{IsOpen, found, is_loop, limits_placed, of_kind, open_loop}
use Rattle.tdf_expr_semantics.specs.Bodies.{limit_value, rate_at, rate_of}
use Rattle.tdf_expr_semantics.specs.Fits.{StateFits}
use Rattle.tdf_expr_semantics.specs.Places.{rate_number}
use Rattle.tdf_expr_semantics.specs.Value.{turn_of, turn_number}
use Rattle.tdf_expr_symbols.specs.Index.{size_of, name_in, index_kind_faults, is_index_negative, greatest_index, Multiple, multiple_of, is_within, is_multiple_within, is_excepted, breaks, breaks_in, breaks_size, kind_faults, index_faults}
use Rattle.tdf_expr_state.specs.State.{State}
use Rattle.tdf_expr_symbols.specs.Names.{Names, Thing, Loop, RateVar, place_of, thing_of}
use Rattle.tdf_expr_symbols.specs.Scope.{Scope, OpenLoop, named, least_rate, least_of, greatest_of}
use Rattle.tdf_expr_symbols.specs.Sound.{IsSound}
use Rattle.tdf_expr_symbols.specs.declared.kinds.Place.TheVariants as place
use Rattle.tdf_lang_tree.specs.declared.expr.Index.{Index}
use Rattle.tdf_lang_tree.specs.declared.expr.Index.TheVariants as index
use Rattle.tdf_lang_tree.specs.declared.stmt.Limit.{Limit}
use Rattle.tdf_lang_tree.specs.declared.stmt.Limit.TheVariants as limit

-- the value of a loop variable that is open, and its bounds
record IsTurn (own : Names) (s : State) (loops : List OpenLoop) (turns : List ℕ) (name : List ℕ) (from : ℕ) (end : Limit) : Type 0 where
  turn : ℕ
  is : turn_of loops turns name ≡ Some turn
  low : from ≤ turn
  high : turn < greatest_of own end
  now : turn < limit_value own s end

turn_at : (scope : Scope) (s : State) (loops : List OpenLoop) (turns : List ℕ) (name : List ℕ) (from : ℕ) (end : Limit)
    → IsOpen scope loops name from end → LoopsRun scope.own s loops turns → IsTurn scope.own s loops turns name from end
turn_at scope s loops turns name from end o run =
    let bounds = run.fit.each o.depth o.l o.is in
    record {
      turn = slice_index turns o.depth;
      is = ap (option_map (slice_index turns)) o.at;
      low = subst (λ k. k ≤ slice_index turns o.depth) o.from_is bounds.0;
      high = subst (λ (l : Limit). slice_index turns o.depth < greatest_of scope.own l) o.end_is bounds.1;
      now = subst (λ (l : Limit). slice_index turns o.depth < limit_value scope.own s l) o.end_is (run.below o.depth o.l o.is);
    }

-- the least value of a limit is at most its value in a state that fits
least_now : (scope : Scope) (s : State) → StateFits scope.own s → (name : List ℕ) (t : Option Thing) → thing_of scope.own name ≡ t → least_rate t ≤ rate_of scope.own s name
least_now scope s fits name (Some (RateVar least greatest start)) e =
    let here = found scope.own.things (place_of scope.own name) (RateVar least greatest start) e in
    let bounds = fits.frame.rates.each (rate_number scope.own here.0) (record { least = least; greatest = greatest })
    (limits_placed scope.own.things here.0 least greatest start here.2) in
    subst (λ (o : Option ℕ). least ≤ rate_at scope.own s o) (sym here.1) bounds.0
least_now scope s fits name _ e = omega arith

least_in_force : (scope : Scope) (s : State) → StateFits scope.own s → (l : Limit) → least_of scope.own l ≤ limit_value scope.own s l
unfolding least_of
least_in_force scope s fits (limit.Int n) = omega arith
least_in_force scope s fits (limit.Var r) = least_now scope s fits r (thing_of scope.own r) refl
least_in_force scope s fits (limit.Times c r) = mul-le-mul_left c (least_now scope s fits r (thing_of scope.own r) refl)

-- what an index with a loop variable has where it has no fault
record IsAt (scope : Scope) (s : State) (loops : List OpenLoop) (turns : List ℕ) (i : Index) (name : List ℕ) (size : Limit) : Type 0 where
  from : ℕ
  end : Limit
  turn : IsTurn scope.own s loops turns name from end
  negative : is_index_negative i from (greatest_of scope.own end - 1) ≡ false
  upper : (is_excepted i end size ≡ true) ⊎ (nat_lt (greatest_index i from (greatest_of scope.own end - 1)) (least_of scope.own size) ≡ true)

two_parts : (a b c : Bool) → a || (not b && not c) ≡ false → (a ≡ false) × ((b ≡ true) ⊎ (c ≡ true))
two_parts true b c e = absurd cc
two_parts false true c e = (refl, inl refl)
two_parts false false true e = (refl, inr refl)
two_parts false false false e = absurd cc

is_at : (scope : Scope) (s : State) (loops : List OpenLoop) (turns : List ℕ) (i : Index) (name : List ℕ) (size : Limit) (line : ℕ) → IsSound scope
    → LoopsRun scope.own s loops turns → kind_faults place.Index (named scope loops name) line ≡ []
    → breaks scope.own size i (named scope loops name) ≡ false → IsAt scope s loops turns i name size
is_at scope s loops turns i name size line sound run none inside =
    let kind = of_kind place.Index (named scope loops name) line none in
    let loop = is_loop kind.thing kind.allowed in
    let is : named scope loops name ≡ Some (Loop loop.0 loop.1) = kind.is ∙ ap (λ (t : Thing). Some t) loop.2 in
    let parts = two_parts (is_index_negative i loop.0 (greatest_of scope.own loop.1 - 1)) (is_excepted i loop.1 size)
    (nat_lt (greatest_index i loop.0 (greatest_of scope.own loop.1 - 1)) (least_of scope.own size))
    (ap (breaks scope.own size i) (sym is) ∙ inside) in
    record {
      from = loop.0;
      end = loop.1;
      turn = turn_at scope s loops turns name loop.0 loop.1 (open_loop scope sound loops name loop.0 loop.1 is) run;
      negative = parts.0;
      upper = parts.1;
    }

-- both limits are multiples of one rate variable
record IsExcepted (own : Names) (s : State) (i : Index) (end size : Limit) : Type 0 where
  k : ℕ
  m : ℕ
  g : ℕ
  end_is : limit_value own s end ≡ k * g
  size_is : limit_value own s size ≡ m * g
  within : is_within i k m ≡ true

multiple_is : (own : Names) (s : State) (l : Limit) (x : Multiple) → multiple_of l ≡ Some x → limit_value own s l ≡ x.times * rate_of own s x.variable
multiple_is own s (limit.Int n) x e = absurd cc
multiple_is own s (limit.Var r) x e =
    let one : rate_of own s r ≡ 1 * rate_of own s r = omega arith in
    one ∙ ap (λ (o : Option Multiple). value o) e
  where
    value : Option Multiple → ℕ
    value None = 0
    value (Some y) = y.times * rate_of own s y.variable
multiple_is own s (limit.Times c r) x e = ap (λ (o : Option Multiple). value o) e
  where
    value : Option Multiple → ℕ
    value None = 0
    value (Some y) = y.times * rate_of own s y.variable

and_first : (a b : Bool) → a && b ≡ true → a ≡ true
and_first true b e = refl
and_first false b e = absurd cc

and_second : (a b : Bool) → a && b ≡ true → b ≡ true
and_second true b e = e
and_second false b e = absurd cc

excepted : (own : Names) (s : State) (i : Index) (end size : Limit) → is_excepted i end size ≡ true → IsExcepted own s i end size
unfolding is_excepted
excepted own s i end size e = go (multiple_of end) refl (multiple_of size) refl e
  where
    go : (a : Option Multiple) → multiple_of end ≡ a → (b : Option Multiple) → multiple_of size ≡ b → is_multiple_within i a b ≡ true → IsExcepted own s i end size
    go None at b bt e = absurd cc
    go (Some a) at None bt e = absurd cc
    go (Some a) at (Some b) bt e =
        let same = (bytes_decides a.variable b.variable).0 (and_first (pointwise nat_eq a.variable b.variable) (is_within i a.times b.times) e) in
        record {
          k = a.times;
          m = b.times;
          g = rate_of own s b.variable;
          end_is = subst (λ (r : List ℕ). limit_value own s end ≡ a.times * rate_of own s r) same (multiple_is own s end a at);
          size_is = multiple_is own s size b bt;
          within = and_second (pointwise nat_eq a.variable b.variable) (is_within i a.times b.times) e;
        }

-- c * v + d < m * g, where v < k * g, d < c and c * k <= m
stretched : (c d v k m g : ℕ) → d < c → c * k ≤ m → v < k * g → c * v + d < m * g
stretched c d v k m g dc ckm vkg =
    let next : c * (v + 1) ≤ c * (k * g) = mul-le-mul_left c (omega (arith, vkg)) in
    let more : c * k * g ≤ m * g = mul-le-mul_right g ckm in
    let assoc : c * (k * g) ≡ c * k * g = sym (mul_assoc c k g) in
    let sum : c * (v + 1) ≡ c * v + c = mul-add c v 1 ∙ ap (λ n. c * v + n) (omega arith) in
    omega (arith, dc, next, more, assoc, sum)

raised : (v k m g : ℕ) → k ≤ m → v < k * g → v < m * g
raised v k m g km vkg =
    let more : k * g ≤ m * g = mul-le-mul_right g km in
    omega (arith, vkg, more)

-- each index with a loop variable
module _ (scope : Scope) (s : State) (loops : List OpenLoop) (turns : List ℕ) (size : Limit) (fits : StateFits scope.own s) where
  below_now : (n : ℕ) → nat_lt n (least_of scope.own size) ≡ true → n < limit_value scope.own s size
  below_now n e =
      let le = least_in_force scope s fits size in
      let lt : n < least_of scope.own size = grind (arith, nat_tests) in
      omega (arith, le, lt)

  at_int : (n : ℕ) → not (nat_lt n (least_of scope.own size)) ≡ false → IsIndexInForce scope.own s loops turns (index.Int n) size
  at_int n e = record { place = n; is = refl; below = below_now n (not_false (nat_lt n (least_of scope.own size)) e) }
    where
      not_false : (b : Bool) → not b ≡ false → b ≡ true
      not_false true e = refl
      not_false false e = absurd cc

  at_var : (i : List ℕ) → IsAt scope s loops turns (index.Var i) i size → IsIndexInForce scope.own s loops turns (index.Var i) size
  at_var i h = record { place = h.turn.turn; is = ap turn_number h.turn.is; below = go h.upper }
    where
      go : (is_excepted (index.Var i) h.end size ≡ true) ⊎ (nat_lt (greatest_of scope.own h.end - 1) (least_of scope.own size) ≡ true) → h.turn.turn < limit_value scope.own s size
      go (inl e) =
          let x = excepted scope.own s (index.Var i) h.end size e in
          let le : x.k ≤ x.m = grind (arith, nat_tests, x.within) in
          let lt : h.turn.turn < x.k * x.g = subst (λ n. h.turn.turn < n) x.end_is h.turn.now in
          subst (λ n. h.turn.turn < n) (sym x.size_is) (raised h.turn.turn x.k x.m x.g le lt)
      go (inr e) = omega (arith, below_now _ e, h.turn.high)

  at_plus : (i : List ℕ) (n : ℕ) → IsAt scope s loops turns (index.Plus i n) i size → IsIndexInForce scope.own s loops turns (index.Plus i n) size
  at_plus i n h = record { place = h.turn.turn + n; is = ap (λ o. turn_number o +ℤ pos n) h.turn.is ∙ omega (arith, ints); below = go h.upper }
    where
      go : (is_excepted (index.Plus i n) h.end size ≡ true) ⊎ (nat_lt (greatest_of scope.own h.end - 1 + n) (least_of scope.own size) ≡ true) → h.turn.turn + n < limit_value scope.own s size
      go (inl e) =
          let x = excepted scope.own s (index.Plus i n) h.end size e in
          absurd (impossible x.within)
        where
          impossible : false ≡ true → ⊥
          impossible e = absurd cc
      go (inr e) = omega (arith, below_now _ e, h.turn.high)

  at_minus : (i : List ℕ) (n : ℕ) → IsAt scope s loops turns (index.Minus i n) i size → IsIndexInForce scope.own s loops turns (index.Minus i n) size
  at_minus i n h =
      let low : n ≤ h.from = grind (arith, nat_tests, h.negative) in
      record { place = h.turn.turn - n; is = ap (λ o. turn_number o -ℤ pos n) h.turn.is ∙ omega (arith, ints, low, h.turn.low); below = go h.upper }
    where
      go : (is_excepted (index.Minus i n) h.end size ≡ true) ⊎ (nat_lt (greatest_of scope.own h.end - 1 - n) (least_of scope.own size) ≡ true) → h.turn.turn - n < limit_value scope.own s size
      go (inl e) =
          let x = excepted scope.own s (index.Minus i n) h.end size e in
          let le : x.k ≤ x.m = grind (arith, nat_tests, x.within) in
          let lt : h.turn.turn < x.k * x.g = subst (λ n. h.turn.turn < n) x.end_is h.turn.now in
          let inside : h.turn.turn < limit_value scope.own s size = subst (λ n. h.turn.turn < n) (sym x.size_is) (raised h.turn.turn x.k x.m x.g le lt) in
          omega (arith, inside)
      go (inr e) = omega (arith, below_now _ e, h.turn.high)

  at_from : (n : ℕ) (i : List ℕ) → IsAt scope s loops turns (index.From n i) i size → IsIndexInForce scope.own s loops turns (index.From n i) size
  at_from n i h =
      let low : greatest_of scope.own h.end - 1 ≤ n = grind (arith, nat_tests, h.negative) in
      record { place = n - h.turn.turn; is = ap (λ o. pos n -ℤ turn_number o) h.turn.is ∙ omega (arith, ints, low, h.turn.high); below = go h.upper }
    where
      go : (is_excepted (index.From n i) h.end size ≡ true) ⊎ (nat_lt (n - h.from) (least_of scope.own size) ≡ true) → n - h.turn.turn < limit_value scope.own s size
      go (inl e) =
          let x = excepted scope.own s (index.From n i) h.end size e in
          absurd (impossible x.within)
        where
          impossible : false ≡ true → ⊥
          impossible e = absurd cc
      go (inr e) = omega (arith, below_now _ e, h.turn.low)

  at_times : (c : ℕ) (i : List ℕ) → IsAt scope s loops turns (index.Times c i) i size → IsIndexInForce scope.own s loops turns (index.Times c i) size
  at_times c i h = record { place = c * h.turn.turn; is = ap (λ o. pos c *ℤ turn_number o) h.turn.is; below = go h.upper }
    where
      go : (is_excepted (index.Times c i) h.end size ≡ true) ⊎ (nat_lt (c * (greatest_of scope.own h.end - 1)) (least_of scope.own size) ≡ true) → c * h.turn.turn < limit_value scope.own s size
      go (inl e) =
          let x = excepted scope.own s (index.Times c i) h.end size e in
          let some : 0 < c = grind (arith, nat_tests, and_first (nat_lt 0 c) (nat_le (c * x.k) x.m) x.within) in
          let le : c * x.k ≤ x.m = grind (arith, nat_tests, and_second (nat_lt 0 c) (nat_le (c * x.k) x.m) x.within) in
          let lt : h.turn.turn < x.k * x.g = subst (λ n. h.turn.turn < n) x.end_is h.turn.now in
          let inside = stretched c 0 h.turn.turn x.k x.m x.g some le lt in
          subst (λ n. c * h.turn.turn < n) (sym x.size_is) (omega (arith, inside))
      go (inr e) =
          let le : c * h.turn.turn ≤ c * (greatest_of scope.own h.end - 1) = mul-le-mul_left c (omega (arith, h.turn.high)) in
          omega (arith, below_now _ e, le)

  at_times_plus : (c : ℕ) (i : List ℕ) (d : ℕ) → IsAt scope s loops turns (index.TimesPlus c i d) i size → IsIndexInForce scope.own s loops turns (index.TimesPlus c i d) size
  at_times_plus c i d h = record { place = c * h.turn.turn + d; is = ap (λ o. pos c *ℤ turn_number o +ℤ pos d) h.turn.is ∙ omega (arith, ints); below = go h.upper }
    where
      go : (is_excepted (index.TimesPlus c i d) h.end size ≡ true) ⊎ (nat_lt (c * (greatest_of scope.own h.end - 1) + d) (least_of scope.own size) ≡ true) → c * h.turn.turn + d < limit_value scope.own s size
      go (inl e) =
          let x = excepted scope.own s (index.TimesPlus c i d) h.end size e in
          let some : d < c = grind (arith, nat_tests, and_first (nat_lt d c) (nat_le (c * x.k) x.m) x.within) in
          let le : c * x.k ≤ x.m = grind (arith, nat_tests, and_second (nat_lt d c) (nat_le (c * x.k) x.m) x.within) in
          let lt : h.turn.turn < x.k * x.g = subst (λ n. h.turn.turn < n) x.end_is h.turn.now in
          subst (λ n. c * h.turn.turn + d < n) (sym x.size_is) (stretched c d h.turn.turn x.k x.m x.g some le lt)
      go (inr e) =
          let le : c * h.turn.turn ≤ c * (greatest_of scope.own h.end - 1) = mul-le-mul_left c (omega (arith, h.turn.high)) in
          omega (arith, below_now _ e, le)

pub inside : LiesBelowRate
unfolding index_faults
inside scope loops line t size i turns s sound size_is none fits run =
    by_form i (none_first (index_kind_faults scope loops line (name_in i)) _ none)
    (ap (λ (o : Option Limit). breaks_size scope loops o i) (sym size_is)
    ∙ if_none (breaks_size scope loops (size_of (Some t)) i) code.Index line (none_second (index_kind_faults scope loops line (name_in i)) _ none))
  where
    by_form : (j : Index) → index_kind_faults scope loops line (name_in j) ≡ [] → breaks_in scope loops size j (name_in j) ≡ false → IsIndexInForce scope.own s loops turns j size
    by_form (index.Int n) a b = at_int scope s loops turns size fits n b
    by_form (index.Var x) a b = at_var scope s loops turns size fits x (is_at scope s loops turns (index.Var x) x size line sound run a b)
    by_form (index.Plus x n) a b = at_plus scope s loops turns size fits x n (is_at scope s loops turns (index.Plus x n) x size line sound run a b)
    by_form (index.Minus x n) a b = at_minus scope s loops turns size fits x n (is_at scope s loops turns (index.Minus x n) x size line sound run a b)
    by_form (index.From n x) a b = at_from scope s loops turns size fits n x (is_at scope s loops turns (index.From n x) x size line sound run a b)
    by_form (index.Times c x) a b = at_times scope s loops turns size fits c x (is_at scope s loops turns (index.Times c x) x size line sound run a b)
    by_form (index.TimesPlus c x d) a b = at_times_plus scope s loops turns size fits c x d (is_at scope s loops turns (index.TimesPlus c x d) x size line sound run a b)
