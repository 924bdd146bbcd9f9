-- The names in force in a body (own): the loop variables that are open, the names of the block, and
-- the global names.
use Rattle.std.specs.Prelude.{ℕ, Bool, true, false, List, Option, Some, None, nat_eq, position, ◌*◌}
use Rattle.std.specs.Cmp.Lexicographic.{pointwise}
use Rattle.std.specs.List.{list_any}
use Rattle.std.specs.Option.{option_map}
use Rattle.tdf_expr_symbols.specs.Names.{Names, Thing, Loop, RateVar, found_at, thing_of, tdf_names, de_names, composite_names}
use Rattle.tdf_lang_tree.specs.Pure.{PureTdf, PureDe, PureComposite}
use Rattle.tdf_lang_tree.specs.declared.blocks.Attr.{Attr}
use Rattle.tdf_lang_tree.specs.declared.blocks.Attr.TheVariants as attr
use Rattle.tdf_lang_tree.specs.declared.stmt.Limit.{Limit}
use Rattle.tdf_lang_tree.specs.declared.stmt.Limit.TheVariants as limit

pub record Scope : Type 0 where
  pub globals : Names
  pub own : Names
  -- whether the block has `does_attribute_changes`
  pub does : Bool

-- a loop variable that is open: it runs from `from` up to and not including `end`
pub record OpenLoop : Type 0 where
  pub name : List ℕ
  pub from : ℕ
  pub end : Limit

abbrev pub is_does : Attr → Bool
is_does (attr.Does line) = true
is_does _ = false

abbrev pub does_change : List Attr → Bool
does_change attrs = list_any is_does attrs

abbrev pub tdf_scope : Names → PureTdf → Scope
tdf_scope globals block = record {
  globals = globals;
  own = tdf_names globals block;
  does = does_change block.attrs;
}

abbrev pub de_scope : Names → PureDe → Scope
de_scope globals block =
    record { globals = globals; own = de_names globals block; does = false }

abbrev pub composite_scope : Names → PureComposite → Scope
composite_scope globals block =
    record { globals = globals; own = composite_names globals block; does = false }

-- the place of a loop variable among those that are open, outermost first
abbrev pub loop_place : List OpenLoop → List ℕ → Option ℕ
loop_place loops name = position (λ l. pointwise nat_eq name l.name) loops

abbrev pub as_thing : OpenLoop → Thing
as_thing l = Loop l.from l.end

abbrev pub first_some : {A : Type 0} → Option A → Option A → Option A
first_some (Some x) other = Some x
first_some None other = other

-- the loop variable of a name
abbrev pub loop_of : List OpenLoop → List ℕ → Option Thing
loop_of loops name = option_map as_thing (found_at loops (loop_place loops name))

-- what a name stands for in a body
unfoldable pub named : Scope → List OpenLoop → List ℕ → Option Thing
named scope loops name = first_some (loop_of loops name) (thing_of scope.own name)

-- the least and the greatest value of a rate variable; 0 where it is none
abbrev pub least_rate : Option Thing → ℕ
least_rate (Some (RateVar least greatest start)) = least
least_rate _ = 0

abbrev pub greatest_rate_of : Option Thing → ℕ
greatest_rate_of (Some (RateVar least greatest start)) = greatest
greatest_rate_of _ = 0

-- the least and the greatest value of a limit or of a rate; `r` is `1 * r`
unfoldable pub least_of : Names → Limit → ℕ
least_of own (limit.Int n) = n
least_of own (limit.Var r) = least_rate (thing_of own r)
least_of own (limit.Times c r) = c * least_rate (thing_of own r)

unfoldable pub greatest_of : Names → Limit → ℕ
greatest_of own (limit.Int n) = n
greatest_of own (limit.Var r) = greatest_rate_of (thing_of own r)
greatest_of own (limit.Times c r) = c * greatest_rate_of (thing_of own r)
