-- The width (I, F) of an expression (own): its value is k / 2 ^ F with
-- -2 ^ (I + F) <= k <= 2 ^ (I + F).
use Rattle.std.specs.Prelude.{ℕ, zero, suc, ◌+◌, ◌-◌, ◌^◌, ◌/◌, Bool, if◌then◌else◌, nat_lt, max, List, Option, Some, None, Result, Ok, Err, unsigned_abs}
use Rattle.tdf_lang_tree.specs.Below.{NumErr, Raw, exact_of}
use Rattle.tdf_expr_symbols.specs.Names.{Thing, RateVar, Loop, shape_of, thing_of, type_shape}
use Rattle.tdf_expr_symbols.specs.Scope.{Scope, OpenLoop, named}
use Rattle.tdf_lang_tree.specs.Pure.{PureExpr, ENumber, EName, EAt, ECast, ESelect, ENot, ENeg, EShift, EBinary}
use Rattle.tdf_lang_tree.specs.declared.expr.Op.{Op}
use Rattle.tdf_lang_tree.specs.declared.expr.Op.TheVariants as op
use Rattle.tdf_lang_tree.specs.declared.shapes.Shape.{Shape}

pub record Width : Type 0 where
  pub whole : ℕ
  pub part : ℕ

-- the bits after the point of a format
abbrev pub fraction_bits : Shape → ℕ
fraction_bits s = s.wl - s.iwl

abbrev pub width_of_shape : Option Shape → Width
width_of_shape (Some s) = record { whole = s.iwl; part = fraction_bits s }
width_of_shape None = record { whole = 0; part = 0 }

-- a rate variable or a loop variable
abbrev pub of_count : Width
of_count = record { whole = 13; part = 0 }

-- a comparison, `and`, `or`, `not`
abbrev pub of_truth : Width
of_truth = record { whole = 1; part = 0 }

-- where the line has another fault
abbrev pub of_nothing : Width
of_nothing = record { whole = 0; part = 0 }

abbrev pub of_thing : Option Thing → Width
of_thing (Some (RateVar least greatest start)) = of_count
of_thing (Some (Loop from end)) = of_count
of_thing (Some thing) = width_of_shape (shape_of thing)
of_thing None = of_nothing

-- the least count of bits, from `bits` on and among `more`, that n fits
unfoldable pub bits_from : ℕ → ℕ → ℕ → ℕ
bits_from n bits zero = bits
bits_from n bits (suc more) = if nat_lt n (2 ^ bits) then bits else bits_from n (bits + 1) more

-- a number as it is written: below 2 ^ I for the least I, whole over 2 ^ F for the least F
abbrev pub of_number : Result Raw NumErr → Width
of_number (Ok raw) =
    record { whole = bits_from (unsigned_abs raw.num / 2 ^ raw.frac) 0 60; part = raw.frac }
of_number (Err fault) = of_nothing

-- the greater of both sides
abbrev pub joint : Width → Width → Width
joint a b = record { whole = max a.whole b.whole; part = max a.part b.part }

abbrev pub of_sum : Width → Width → Width
of_sum a b = record { whole = max a.whole b.whole + 1; part = max a.part b.part }

abbrev pub of_product : Width → Width → Width
of_product a b = record { whole = a.whole + b.whole; part = a.part + b.part }

abbrev pub of_binary : Op → Width → Width → Width
of_binary op.Add a b = of_sum a b
of_binary op.Sub a b = of_sum a b
of_binary op.Mul a b = of_product a b
of_binary _ a b = of_truth

abbrev pub of_shift : Bool → ℕ → Width → Width
of_shift left n a =
    if left then record { whole = a.whole + n; part = a.part }
    else record { whole = a.whole; part = a.part + n }

abbrev pub width : Scope → List OpenLoop → PureExpr → Width
width scope loops (ENumber digits) = of_number (exact_of digits)
width scope loops (EName name) = of_thing (named scope loops name)
width scope loops (EAt name i) = of_thing (named scope loops name)
width scope loops (ECast name e) = width_of_shape (type_shape (thing_of scope.globals name))
width scope loops (ESelect test a b) = joint (width scope loops a) (width scope loops b)
width scope loops (ENot e) = of_truth
width scope loops (ENeg e) = width scope loops e
width scope loops (EShift e left n) = of_shift left n (width scope loops e)
width scope loops (EBinary o a b) = of_binary o (width scope loops a) (width scope loops b)
