-- When an index may lie outside its array or port (own).
use Rattle.std.specs.Prelude.{ℕ, ◌+◌, ◌-◌, ◌*◌, Bool, false, not, ◌&&◌, ◌||◌, nat_lt, nat_le, nat_eq, List, [], ◌++◌, Option, Some, None}
use Rattle.std.specs.Cmp.Lexicographic.{pointwise}
use Rattle.std.specs.Option.{option_map}
use Rattle.tdf_base.specs.declared.codes.Code.TheVariants as code
use Rattle.tdf_base.specs.First.{fault_if}
use Rattle.tdf_base.specs.declared.first.LineFault.{LineFault}
use Rattle.tdf_expr_symbols.specs.Kinds.{is_allowed}
use Rattle.tdf_expr_symbols.specs.Names.{Names, Thing, Array, Port, Loop, kind_of}
use Rattle.tdf_expr_symbols.specs.Scope.{Scope, OpenLoop, named, least_of, greatest_of}
use Rattle.tdf_expr_symbols.specs.declared.kinds.Place.{Place}
use Rattle.tdf_expr_symbols.specs.declared.kinds.Place.TheVariants as place
use Rattle.tdf_lang_tree.specs.declared.expr.Index.{Index}
use Rattle.tdf_lang_tree.specs.declared.expr.Index.TheVariants as index
use Rattle.tdf_lang_tree.specs.declared.stmt.Limit.{Limit}
use Rattle.tdf_lang_tree.specs.declared.stmt.Limit.TheVariants as limit

-- how many elements an array has, or samples a port in one firing
abbrev pub size_of : Option Thing → Option Limit
size_of (Some (Array shape size starts)) = Some (limit.Int size)
size_of (Some (Port word shape rate delay)) = Some rate
size_of _ = None

-- the loop variable of an index
abbrev pub name_in : Index → Option (List ℕ)
name_in (index.Int n) = None
name_in (index.Var i) = Some i
name_in (index.Plus i n) = Some i
name_in (index.Minus i n) = Some i
name_in (index.From n i) = Some i
name_in (index.Times c i) = Some i
name_in (index.TimesPlus c i d) = Some i

-- an index whose loop variable runs from `from` to `most`: whether its least value is below 0
abbrev pub is_index_negative : Index → (from most : ℕ) → Bool
is_index_negative (index.Minus i n) from most = nat_lt from n
is_index_negative (index.From n i) from most = nat_lt n most
is_index_negative _ from most = false

-- its greatest value
abbrev pub greatest_index : Index → (from most : ℕ) → ℕ
greatest_index (index.Int n) from most = n
greatest_index (index.Var i) from most = most
greatest_index (index.Plus i n) from most = most + n
greatest_index (index.Minus i n) from most = most - n
greatest_index (index.From n i) from most = n - from
greatest_index (index.Times c i) from most = c * most
greatest_index (index.TimesPlus c i d) from most = c * most + d

-- a multiple of a rate variable; `r` is `1 * r`
pub record Multiple : Type 0 where
  pub times : ℕ
  pub variable : List ℕ

abbrev pub multiple_of : Limit → Option Multiple
multiple_of (limit.Int n) = None
multiple_of (limit.Var r) = Some (record { times = 1; variable = r })
multiple_of (limit.Times c r) = Some (record { times = c; variable = r })

-- `i` to `k * r` on a port of rate `m * r`: `c * i + d` with d < c and c * k <= m, and `i - e`
-- with k <= m
abbrev pub is_within : Index → (k m : ℕ) → Bool
is_within (index.Var i) k m = nat_le k m
is_within (index.Times c i) k m = nat_lt 0 c && nat_le (c * k) m
is_within (index.TimesPlus c i d) k m = nat_lt d c && nat_le (c * k) m
is_within (index.Minus i e) k m = nat_le k m
is_within _ k m = false

abbrev pub is_multiple_within : Index → Option Multiple → Option Multiple → Bool
is_multiple_within i (Some end) (Some rate) =
    pointwise nat_eq end.variable rate.variable && is_within i end.times rate.times
is_multiple_within i _ _ = false

-- the two exceptions that need no upper check
unfoldable pub is_excepted : Index → (end size : Limit) → Bool
is_excepted i end size = is_multiple_within i (multiple_of end) (multiple_of size)

-- an index whose loop variable runs from `from` to 1 below `end`
abbrev pub is_outside : Names → Limit → Index → ℕ → Limit → Bool
is_outside own size i from end =
    is_index_negative i from (greatest_of own end - 1)
    || (not (is_excepted i end size)
    && not (nat_lt (greatest_index i from (greatest_of own end - 1)) (least_of own size)))

-- whether an index without or with a loop variable breaks the rule; where its name is none,
-- the line has another fault
abbrev pub breaks : Names → Limit → Index → Option Thing → Bool
breaks own size i (Some (Loop from end)) = is_outside own size i from end
breaks own size i _ = false

abbrev pub breaks_in : Scope → List OpenLoop → Limit → Index → Option (List ℕ) → Bool
breaks_in scope loops size i None = not (nat_lt (greatest_index i 0 0) (least_of scope.own size))
breaks_in scope loops size i (Some name) = breaks scope.own size i (named scope loops name)

abbrev pub breaks_size : Scope → List OpenLoop → Option Limit → Index → Bool
breaks_size scope loops None i = false
breaks_size scope loops (Some size) i = breaks_in scope loops size i (name_in i)

-- KIND: a name of another kind than its place allows
unfoldable pub kind_faults : Place → Option Thing → ℕ → List LineFault
kind_faults place thing line =
    fault_if (not (is_allowed place (option_map kind_of thing))) code.Kind line

abbrev pub index_kind_faults : Scope → List OpenLoop → ℕ → Option (List ℕ) → List LineFault
index_kind_faults scope loops line None = []
index_kind_faults scope loops line (Some i) = kind_faults place.Index (named scope loops i) line

-- the faults of an index on an array or port
unfoldable pub index_faults : Scope → List OpenLoop → ℕ → Option Thing → Index → List LineFault
index_faults scope loops line thing i =
    index_kind_faults scope loops line (name_in i)
    ++ fault_if (breaks_size scope loops (size_of thing) i) code.Index line
