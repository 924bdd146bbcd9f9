-- What a reader answers is what the relation says, in both directions.
use Rattle.std.proofs.Common.{◌≡◌, ℕ, List, Option, Some, None, Vec, sym}
use Rattle.std.specs.declared.alloc.Global.{Global}
use Rattle.std.specs.Prelude.{MatchOption}
use Rattle.std.specs.Option.{option_map}
use Rattle.tdf_base.specs.declared.version.Version.{Version}
use Rattle.tdf_lang_lexer.specs.Token.{Tok}
use Rattle.tdf_lang_tree.specs.Views.{pure_expr}
use Rattle.tdf_lang_tree.specs.declared.expr.Expr.{Expr}
use Rattle.tdf_lang_tree.specs.declared.expr.Index.{Index}
use Rattle.tdf_lang_exprs.specs.Index.{SpellsIndex, IsNoIndex}
use Rattle.tdf_lang_exprs.specs.SpellsExpr.{SpellsExpr, IsNoExpr}
use Rattle.tdf_lang_tree.specs.declared.names.Lit.{Lit}
use Rattle.tdf_lang_tree.specs.declared.shapes.FormatRef.{FormatRef}
use Rattle.tdf_lang_tree.specs.declared.shapes.Shape.{Shape}
use Rattle.tdf_lang_exprs.specs.Formats.{SpellsShape, SpellsFormat, IsNoShape, IsNoFormat}
use Rattle.tdf_lang_exprs.specs.machine.Formats.{shape_of, format_of}
use Rattle.tdf_lang_exprs.specs.Literals.{SpellsLit, SpellsLits, IsNoLit, IsNoLits}
use Rattle.tdf_lang_exprs.specs.machine.Literals.{lit_of, lits_of}
use Rattle.tdf_lang_exprs.specs.Paths.{SpellsPath, IsNoPath}
use Rattle.tdf_lang_exprs.specs.machine.Paths.{path_of}
use Rattle.tdf_lang_exprs.proofs.Parts.{lit_reads, lit_says, lits_of_reads, lits_says, path_of_reads, path_says, shape_reads, shape_says, format_reads, format_says}
use Rattle.tdf_lang_exprs.specs.machine.Exprs.{expr_of}
use Rattle.tdf_lang_exprs.specs.machine.Indices.{index_of}
use Rattle.tdf_lang_exprs.proofs.SpellsRuns.{index_reads, expr_reads}
use Rattle.tdf_lang_exprs.proofs.RunSays.{index_says, expr_says}

pub index_decided : (v : Version) (ts : List Tok) (o : Option Index) → o ≡ index_of v ts → MatchOption o (IsNoIndex v ts) (λ i. SpellsIndex v ts i)
index_decided v ts None is = λ i d. let e : index_of v ts ≡ Some i = index_reads d in absurd (cc)
index_decided v ts (Some i) is = index_says v ts i (sym is)

pub expr_decided : (v : Version) (ts : List Tok) (o : Option Expr) → option_map pure_expr o ≡ expr_of v ts → MatchOption o (IsNoExpr v ts) (λ e. SpellsExpr v 0 ts (pure_expr e))
expr_decided v ts None is = λ x d. let e : expr_of v ts ≡ Some x = expr_reads d in absurd (cc)
expr_decided v ts (Some e) is = expr_says v ts (pure_expr e) (sym is)

pub lit_decided : (ts : List Tok) (o : Option Lit) → o ≡ lit_of ts → MatchOption o (IsNoLit ts) (λ x. SpellsLit ts x)
lit_decided ts None is = λ x d. let e : lit_of ts ≡ Some x = lit_reads d in absurd (cc)
lit_decided ts (Some x) is = lit_says ts x (sym is)

pub lits_decided : (ts : List Tok) (o : Option (List Lit)) → o ≡ lits_of ts → MatchOption o (IsNoLits ts) (λ x. SpellsLits ts x)
lits_decided ts None is = λ x d. let e : lits_of ts ≡ Some x = lits_of_reads d in absurd (cc)
lits_decided ts (Some x) is = lits_says ts x (sym is)

pub path_decided : (ts : List Tok) (o : Option (List (List ℕ))) → o ≡ path_of ts → MatchOption o (IsNoPath ts) (λ x. SpellsPath ts x)
path_decided ts None is = λ x d. let e : path_of ts ≡ Some x = path_of_reads d in absurd (cc)
path_decided ts (Some x) is = path_says ts x (sym is)

pub shape_decided : (ts : List Tok) (o : Option Shape) → o ≡ shape_of ts → MatchOption o (IsNoShape ts) (λ x. SpellsShape ts x)
shape_decided ts None is = λ x d. let e : shape_of ts ≡ Some x = shape_reads d in absurd (cc)
shape_decided ts (Some x) is = shape_says ts x (sym is)

pub format_decided : (ts : List Tok) (o : Option FormatRef) → o ≡ format_of ts → MatchOption o (IsNoFormat ts) (λ x. SpellsFormat ts x)
format_decided ts None is = λ x d. let e : format_of ts ≡ Some x = format_reads d in absurd (cc)
format_decided ts (Some x) is = format_says ts x (sym is)

pub lits_vec_decided : (ts : List Tok) (o : Option (Vec Lit Global)) → option_map (λ v. v.items) o ≡ lits_of ts
    → MatchOption o (IsNoLits ts) (λ v. SpellsLits ts v.items)
lits_vec_decided ts None is = lits_decided ts None is
lits_vec_decided ts (Some v) is = lits_decided ts (Some v.items) is

pub path_vec_decided : (ts : List Tok) (o : Option (Vec (List ℕ) Global)) → option_map (λ v. v.items) o ≡ path_of ts
    → MatchOption o (IsNoPath ts) (λ v. SpellsPath ts v.items)
path_vec_decided ts None is = path_decided ts None is
path_vec_decided ts (Some v) is = path_decided ts (Some v.items) is
