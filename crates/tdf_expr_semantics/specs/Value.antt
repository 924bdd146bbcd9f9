-- The value of an expression (own): an exact number, with no width in it.
use Rattle.std.specs.Prelude.{ℕ, ◌+◌, ◌-◌, ◌^◌, Bool, not, ◌&&◌, ◌||◌, if◌then◌else◌, max, List, Option, Some, None, Result, Ok, Err, length, slice_index, ℤ, pos, neg_ℤ, ◌+ℤ◌, ◌-ℤ◌, ◌*ℤ◌, int_le}
use Rattle.std.specs.Option.{option_map}
use Rattle.std.specs.Ordering.{int_eq}
use Rattle.tdf_base.specs.Number.{Numeral, numeral_of, scaled_count}
use Rattle.tdf_fixed.specs.Literal.{exact_of, placed_fraction}
use Rattle.tdf_fixed.specs.Overflow.{overflowed}
use Rattle.tdf_fixed.specs.Quantise.{requantised}
use Rattle.tdf_fixed.specs.declared.literals.NumErr.{NumErr}
use Rattle.tdf_fixed.specs.declared.raw.Raw.{Raw}
use Rattle.tdf_expr_semantics.specs.Places.{first_cell, first_sample, rate_number}
use Rattle.tdf_expr_symbols.specs.Names.{Names, Thing, Const, Var, Array, Port, RateVar, place_of, thing_of}
use Rattle.tdf_expr_symbols.specs.Scope.{Scope, OpenLoop, loop_place}
use Rattle.tdf_expr_symbols.specs.Faults.{cast_shape}
use Rattle.tdf_expr_symbols.specs.Width.{fraction_bits}
use Rattle.tdf_expr_state.specs.State.{State, cell_at}
use Rattle.tdf_lang_tree.specs.Pure.{PureExpr, ENumber, EName, EAt, ECast, ESelect, ENot, ENeg, EShift, EBinary}
use Rattle.tdf_lang_tree.specs.declared.expr.Index.{Index}
use Rattle.tdf_lang_tree.specs.declared.expr.Index.TheVariants as index
use Rattle.tdf_lang_tree.specs.declared.expr.Op.{Op}
use Rattle.tdf_lang_tree.specs.declared.expr.Op.TheVariants as op
use Rattle.tdf_lang_tree.specs.declared.names.Lit.{Lit}
use Rattle.tdf_lang_tree.specs.declared.shapes.Shape.{Shape}

abbrev pub whole_number : ℤ → Raw
whole_number n = record { num = n; frac = 0 }

-- what has no value
abbrev pub nothing : Raw
nothing = whole_number (pos 0)

-- whether a condition holds: its value isn't 0
abbrev pub holds : Raw → Bool
holds a = not (int_eq a.num (pos 0))

abbrev pub truth : Bool → Raw
truth so = whole_number (if so then pos 1 else pos 0)

-- a in units of 1 / 2 ^ to, where a has no more bits after the point
abbrev pub lifted : Raw → ℕ → ℤ
lifted a to = a.num *ℤ pos (2 ^ (to - a.frac))

-- both at the finer of the two last places
abbrev pub both : (ℤ → ℤ → ℤ) → Raw → Raw → Raw
both f a b = record {
  num = f (lifted a (max a.frac b.frac)) (lifted b (max a.frac b.frac));
  frac = max a.frac b.frac;
}

abbrev pub compares : (ℤ → ℤ → Bool) → Raw → Raw → Raw
compares f a b = truth (f (lifted a (max a.frac b.frac)) (lifted b (max a.frac b.frac)))

abbrev pub combined : Op → Raw → Raw → Raw
combined op.Or a b = truth (holds a || holds b)
combined op.And a b = truth (holds a && holds b)
combined op.Lt a b = compares (λ x y. not (int_le y x)) a b
combined op.Le a b = compares int_le a b
combined op.Eq a b = compares int_eq a b
combined op.Ne a b = compares (λ x y. not (int_eq x y)) a b
combined op.Gt a b = compares (λ x y. not (int_le x y)) a b
combined op.Ge a b = compares (λ x y. int_le y x) a b
combined op.Add a b = both (λ x y. x +ℤ y) a b
combined op.Sub a b = both (λ x y. x -ℤ y) a b
combined op.Mul a b = record { num = a.num *ℤ b.num; frac = a.frac + b.frac }

-- `select`
abbrev pub chosen : Bool → Raw → Raw → Raw
chosen test a b = both (λ x y. if test then x else y) a b

-- `a << n` is a * 2 ^ n, and `a >> n` is a / 2 ^ n
abbrev pub shifted : Bool → ℕ → Raw → Raw
shifted left n a =
    if left then record { num = a.num *ℤ pos (2 ^ n); frac = a.frac }
    else record { num = a.num; frac = a.frac + n }

-- a number of a format's last places
abbrev pub of_shape : Option Shape → ℤ → Raw
of_shape (Some s) num = record { num = num; frac = fraction_bits s }
of_shape None num = nothing

-- a value cast to a format, in units of its last place: rounding first, overflow second
abbrev pub cast_number : Shape → Raw → ℤ
cast_number s a =
    overflowed s.over s.signed s.wl (requantised s.quant a.num a.frac (fraction_bits s))

abbrev pub cast_in : Option Shape → Raw → Raw
cast_in (Some s) a = of_shape (Some s) (cast_number s a)
cast_in None a = nothing

-- a literal in a format: its exact decimal, cast
abbrev pub literal_number : Shape → Bool → Option Numeral → ℤ
literal_number s minus (Some n) = overflowed s.over s.signed s.wl
    (placed_fraction s.quant minus (scaled_count n) (10 ^ length n.fraction) (fraction_bits s))
literal_number s minus None = pos 0

abbrev pub literal_in : Option Shape → Lit → Raw
literal_in (Some s) v = of_shape (Some s) (literal_number s v.minus (numeral_of v.digits))
literal_in None v = nothing

abbrev pub of_digits : Result Raw NumErr → Raw
of_digits (Ok raw) = raw
of_digits (Err fault) = nothing

-- the turn of a loop variable: `turns` are in the order of the loops, outermost first
abbrev pub turn_of : List OpenLoop → List ℕ → List ℕ → Option ℕ
turn_of loops turns name = option_map (slice_index turns) (loop_place loops name)

abbrev pub turn_number : Option ℕ → ℤ
turn_number (Some n) = pos n
turn_number None = pos 0

-- the value of an index
abbrev pub index_value : List OpenLoop → List ℕ → Index → ℤ
index_value loops turns (index.Int n) = pos n
index_value loops turns (index.Var i) = turn_number (turn_of loops turns i)
index_value loops turns (index.Plus i n) = turn_number (turn_of loops turns i) +ℤ pos n
index_value loops turns (index.Minus i n) = turn_number (turn_of loops turns i) -ℤ pos n
index_value loops turns (index.From n i) = pos n -ℤ turn_number (turn_of loops turns i)
index_value loops turns (index.Times c i) = pos c *ℤ turn_number (turn_of loops turns i)
index_value loops turns (index.TimesPlus c i d) =
    pos c *ℤ turn_number (turn_of loops turns i) +ℤ pos d

-- element k of what the n-th name of a block stands for; a bare name is its element 0
abbrev pub element : Names → State → ℕ → Thing → ℕ → Raw
element own s n (Const shape value) k = literal_in shape value
element own s n (Var shape start) k = of_shape shape (cell_at s.frame.cells (first_cell own n + k))
element own s n (Array shape size starts) k =
    of_shape shape (cell_at s.frame.cells (first_cell own n + k))
element own s n (Port word shape rate delay) k =
    of_shape shape (cell_at s.ports.samples (first_sample own n + k))
element own s n (RateVar least greatest start) k =
    whole_number (pos (slice_index s.frame.rates (rate_number own n)))
element own s n _ k = nothing

abbrev pub element_at : Names → State → Option ℕ → Option Thing → ℤ → Raw
element_at own s (Some n) (Some thing) (pos k) = element own s n thing k
element_at own s n thing k = nothing

abbrev pub own_value : Names → State → List ℕ → ℤ → Raw
own_value own s name k = element_at own s (place_of own name) (thing_of own name) k

-- the value of a name: a loop variable's turn, or what the block's name stands for
abbrev pub turn_or : Option ℕ → Raw → Raw
turn_or (Some n) other = whole_number (pos n)
turn_or None other = other

abbrev pub value : Scope → List OpenLoop → List ℕ → State → PureExpr → Raw
value scope loops turns s (ENumber digits) = of_digits (exact_of digits)
value scope loops turns s (EName name) =
    turn_or (turn_of loops turns name) (own_value scope.own s name (pos 0))
value scope loops turns s (EAt name i) = own_value scope.own s name (index_value loops turns i)
value scope loops turns s (ECast name e) =
    cast_in (cast_shape scope name) (value scope loops turns s e)
value scope loops turns s (ESelect test a b) =
    chosen (holds (value scope loops turns s test))
    (value scope loops turns s a) (value scope loops turns s b)
value scope loops turns s (ENot e) = truth (not (holds (value scope loops turns s e)))
value scope loops turns s (ENeg e) = record {
  num = neg_ℤ (value scope loops turns s e).num;
  frac = (value scope loops turns s e).frac;
}
value scope loops turns s (EShift e left n) = shifted left n (value scope loops turns s e)
value scope loops turns s (EBinary o a b) =
    combined o (value scope loops turns s a) (value scope loops turns s b)
