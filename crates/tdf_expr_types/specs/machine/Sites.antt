-- The faults and widths where a line of a body stands (own).
use Rattle.std.specs.Prelude.{ℕ, Bool, not, List, [], ◌++◌, Option, map, nat_lt}
use Rattle.tdf_base.specs.declared.codes.Code.TheVariants as code
use Rattle.tdf_base.specs.First.{fault_if}
use Rattle.tdf_base.specs.declared.first.LineFault.{LineFault}
use Rattle.tdf_expr_symbols.specs.Faults.{changes, expr_faults, limit_faults, notifies, stmt_faults, target_faults, value_faults}
use Rattle.tdf_expr_symbols.specs.Index.{breaks_in, breaks_size, index_faults, kind_faults, index_kind_faults, name_in}
use Rattle.tdf_expr_symbols.specs.Names.{Thing}
use Rattle.tdf_expr_symbols.specs.Scope.{OpenLoop, Scope, least_of, named}
use Rattle.tdf_expr_symbols.specs.Seen.{seen_loop}
use Rattle.tdf_expr_symbols.specs.Width.{Width, width}
use Rattle.tdf_expr_symbols.specs.declared.kinds.Part.{Part}
use Rattle.tdf_expr_symbols.specs.declared.kinds.Place.TheVariants as place
use Rattle.tdf_lang_tree.specs.Pure.{PureExpr, PureStmt, SIf, SFor}
use Rattle.tdf_lang_tree.specs.declared.expr.Index.{Index}
use Rattle.tdf_lang_tree.specs.declared.stmt.Limit.{Limit}
use Rattle.tdf_expr_types.specs.declared.site.Site.{Site}

abbrev pub loops_at : Site → List OpenLoop
loops_at site = map seen_loop site.loops.now

abbrev pub named_at : Site → List ℕ → Option Thing
named_at site name = named site.scope.now (loops_at site) name

abbrev pub breaks_at : Site → Limit → Index → Bool
breaks_at site size i = breaks_in site.scope.now (loops_at site) size i (name_in i)

abbrev pub breaks_size_at : Site → Option Limit → Index → Bool
breaks_size_at site size i = breaks_size site.scope.now (loops_at site) size i

abbrev pub name_faults_at : Site → Option (List ℕ) → List LineFault
name_faults_at site name = index_kind_faults site.scope.now (loops_at site) site.line name

abbrev pub index_faults_at : Site → Option Thing → Index → List LineFault
index_faults_at site thing i = index_faults site.scope.now (loops_at site) site.line thing i

abbrev pub expr_faults_at : Site → PureExpr → List LineFault
expr_faults_at site e = expr_faults site.scope.now (loops_at site) site.part site.line e

abbrev pub width_at : Site → PureExpr → Width
width_at site e = width site.scope.now (loops_at site) e

abbrev pub changes_at : Site → Bool
changes_at site = changes site.scope.now site.part

abbrev pub change_faults_at : Site → List LineFault
change_faults_at site = fault_if (not (changes_at site)) code.Kind site.line

abbrev pub limit_faults_at : Site → Limit → List LineFault
limit_faults_at site end = limit_faults site.scope.now (loops_at site) site.line end

-- the head of a `for`
abbrev pub for_faults_at : Site → ℕ → Limit → List LineFault
for_faults_at site from end =
    limit_faults_at site end
    ++ fault_if (not (nat_lt from (least_of site.scope.now.own end))) code.Index site.line

abbrev pub target_faults_at : Site → Option Thing → Option Index → List LineFault
target_faults_at site thing i =
    target_faults site.scope.now (loops_at site) site.part site.line thing i

abbrev pub value_faults_at : Site → Option Thing → PureExpr → List LineFault
value_faults_at site thing e =
    value_faults site.scope.now (loops_at site) site.part site.line thing e

abbrev pub stmt_faults_at : Site → PureStmt → List LineFault
stmt_faults_at site s = stmt_faults site.scope.now site.part (loops_at site) s

-- a statement that holds no other; nothing of one that does
abbrev pub leaf_faults : Scope → Part → List OpenLoop → PureStmt → List LineFault
leaf_faults scope body loops (SIf line test a b) = []
leaf_faults scope body loops (SFor line name from end inner) = []
leaf_faults scope body loops s = stmt_faults scope body loops s

-- `notify`, whatever the time
abbrev pub notify_faults_at : Site → List ℕ → List LineFault
notify_faults_at site event =
    fault_if (not (notifies site.part)) code.Kind site.line
    ++ kind_faults place.Notified (named_at site event) site.line
