-- What is spelled has a form, and what has a form is spelled.
use Rattle.std.proofs.Common.{ℕ, List, [], ◌∷◌}
use Rattle.tdf_base.specs.declared.version.Version.{Version}
use Rattle.tdf_fixed.specs.declared.over.Over.{Over}
use Rattle.tdf_fixed.specs.declared.over.Over.TheVariants.{Wrap}
use Rattle.tdf_fixed.specs.declared.quant.Quant.{Quant}
use Rattle.tdf_fixed.specs.declared.quant.Quant.TheVariants.{Trn}
use Rattle.tdf_lang_lexer.specs.Token.{Tok}
use Rattle.tdf_lang_tree.specs.Pure.{PureExpr, ENumber, EName, EAt, ECast, ESelect, ENot, ENeg, EShift, EBinary}
use Rattle.tdf_lang_tree.specs.declared.expr.Index.{Index}
use Rattle.tdf_lang_tree.specs.declared.expr.Index.TheVariants as index
use Rattle.tdf_lang_tree.specs.declared.names.Lit.{Lit}
use Rattle.tdf_lang_tree.specs.declared.shapes.FormatRef.{FormatRef}
use Rattle.tdf_lang_tree.specs.declared.shapes.FormatRef.TheVariants.{Own, Named}
use Rattle.tdf_lang_tree.specs.declared.shapes.Shape.{Shape}
use Rattle.tdf_lang_exprs.specs.Numbers.{trimmed}
use Rattle.tdf_lang_exprs.specs.Index.{SpellsIndex, index_int, index_var, index_plus, index_minus, index_from, index_times, index_times_plus}
use Rattle.tdf_lang_exprs.specs.Formats.{SpellsModes, modes_none, modes_quant, modes_both, SpellsShape, shape, SpellsFormat, format_own, format_named}
use Rattle.tdf_lang_exprs.specs.Literals.{plain_lit, minus_lit, SpellsLit, lit_plain, lit_minus, SpellsLits, lits_none, lits_more}
use Rattle.tdf_lang_exprs.specs.Paths.{SpellsPath, path_one, path_more}
use Rattle.tdf_lang_exprs.specs.SpellsExpr.{SpellsExpr, number, variable, item, cast, select, parens, negation, shift, contrary, binary, tighter}
use Rattle.tdf_lang_exprs.specs.Fits.{FitsLit, fits_plain, fits_minus, FitsLits, fits_none, fits_more, FitsIndex, fits_int, fits_var, fits_add, fits_sub, fits_from, fits_times, fits_times_plus, FitsModes, fits_no_mode, fits_quant, fits_both, FitsShape, fits_shape, FitsFormat, fits_own, fits_named, FitsPath, fits_one, fits_step, FitsExpr, fits_number, fits_name, fits_item, fits_cast, fits_select, fits_parens, fits_negation, fits_shift, fits_contrary, fits_binary, fits_tighter}

pub lit_fits : {ts : List Tok} {x : Lit} → SpellsLit ts x → FitsLit ts
lit_fits (lit_plain text) = fits_plain text
lit_fits (lit_minus text) = fits_minus text

pub fits_lit : {ts : List Tok} → FitsLit ts → (x : Lit) × SpellsLit ts x
fits_lit (fits_plain text) = (plain_lit text, lit_plain text)
fits_lit (fits_minus text) = (minus_lit text, lit_minus text)

pub lits_fit : {ts : List Tok} {xs : List Lit} → SpellsLits ts xs → FitsLits ts
lits_fit lits_none = fits_none
lits_fit (lits_more d e) = fits_more (lit_fits d) (lits_fit e)

pub fits_lits : {ts : List Tok} → FitsLits ts → (xs : List Lit) × SpellsLits ts xs
fits_lits fits_none = ([], lits_none)
fits_lits (fits_more d e) = let x = fits_lit d in let xs = fits_lits e in (x.0 ∷ xs.0, lits_more x.1 xs.1)

pub index_fits : {v : Version} {ts : List Tok} {i : Index} → SpellsIndex v ts i → FitsIndex v ts
index_fits (index_int text {n = n} h) = fits_int text (n, h)
index_fits (index_var name) = fits_var name
index_fits (index_plus name text {n = n} h) = fits_add name text (n, h)
index_fits (index_minus name text {n = n} h) = fits_sub name text (n, h)
index_fits (index_from name text {n = n} h) = fits_from name text (n, h)
index_fits (index_times le text name {n = n} h) = fits_times le text name (n, h)
index_fits (index_times_plus le text name last {n = n} {m = m} h k) = fits_times_plus le text name last (n, h) (m, k)

pub fits_index : {v : Version} {ts : List Tok} → FitsIndex v ts → (i : Index) × SpellsIndex v ts i
fits_index (fits_int text h) = (index.Int h.0, index_int text h.1)
fits_index (fits_var name) = (index.Var name, index_var name)
fits_index (fits_add name text h) = (index.Plus name h.0, index_plus name text h.1)
fits_index (fits_sub name text h) = (index.Minus name h.0, index_minus name text h.1)
fits_index (fits_from name text h) = (index.From h.0 name, index_from name text h.1)
fits_index (fits_times le text name h) = (index.Times h.0 name, index_times le text name h.1)
fits_index (fits_times_plus le text name last h k) =
    (index.TimesPlus h.0 name k.0, index_times_plus le text name last h.1 k.1)

modes_fit : {ts : List Tok} {q : Quant} {o : Over} → SpellsModes ts q o → FitsModes ts
modes_fit modes_none = fits_no_mode
modes_fit (modes_quant word {quant = q} h) = fits_quant word (q, h)
modes_fit (modes_both word last {quant = q} {over = o} h k) = fits_both word last (q, h) (o, k)

fits_modes : {ts : List Tok} → FitsModes ts → (q : Quant) × (o : Over) × SpellsModes ts q o
fits_modes fits_no_mode = (Trn, Wrap, modes_none)
fits_modes (fits_quant word h) = (h.0, Wrap, modes_quant word h.1)
fits_modes (fits_both word last h k) = (h.0, k.0, modes_both word last h.1 k.1)

pub shape_fits : {ts : List Tok} {s : Shape} → SpellsShape ts s → FitsShape ts
shape_fits (shape word first second {signed = g} {wl = m} {iwl = n} a b c d) = fits_shape word first second (g, a) (m, b) (n, c) (modes_fit d)

pub fits_the_shape : {ts : List Tok} → FitsShape ts → (s : Shape) × SpellsShape ts s
fits_the_shape (fits_shape word first second a b c d) = let e = fits_modes d in (_, shape word first second a.1 b.1 c.1 e.2)

pub format_fits : {ts : List Tok} {f : FormatRef} → SpellsFormat ts f → FitsFormat ts
format_fits (format_own d) = fits_own (shape_fits d)
format_fits (format_named name) = fits_named name

pub fits_format : {ts : List Tok} → FitsFormat ts → (f : FormatRef) × SpellsFormat ts f
fits_format (fits_own d) = let e = fits_the_shape d in (Own e.0, format_own e.1)
fits_format (fits_named name) = (Named name, format_named name)

pub path_fits : {ts : List Tok} {names : List (List ℕ)} → SpellsPath ts names → FitsPath ts
path_fits (path_one name) = fits_one name
path_fits (path_more name d) = fits_step name (path_fits d)

pub fits_path : {ts : List Tok} → FitsPath ts → (names : List (List ℕ)) × SpellsPath ts names
fits_path (fits_one name) = (name ∷ [], path_one name)
fits_path (fits_step name d) = let e = fits_path d in (name ∷ e.0, path_more name e.1)

pub expr_fits : {v : Version} {k : ℕ} {ts : List Tok} {x : PureExpr} → SpellsExpr v k ts x → FitsExpr v k ts
expr_fits (number text) = fits_number text
expr_fits (variable name) = fits_name name
expr_fits (item name d) = fits_item name (index_fits d)
expr_fits (cast name d) = fits_cast name (expr_fits d)
expr_fits (select d e f) = fits_select (expr_fits d) (expr_fits e) (expr_fits f)
expr_fits (parens d) = fits_parens (expr_fits d)
expr_fits (negation d) = fits_negation (expr_fits d)
expr_fits (shift left text {n = n} d h) = fits_shift left text (expr_fits d) (n, h)
expr_fits (contrary d) = fits_contrary (expr_fits d)
expr_fits (binary op h d e) = fits_binary op h (expr_fits d) (expr_fits e)
expr_fits (tighter d) = fits_tighter (expr_fits d)

pub fits_expr : {v : Version} {k : ℕ} {ts : List Tok} → FitsExpr v k ts → (x : PureExpr) × SpellsExpr v k ts x
fits_expr (fits_number text) = (ENumber (trimmed text), number text)
fits_expr (fits_name name) = (EName name, variable name)
fits_expr (fits_item name d) = let i = fits_index d in (EAt name i.0, item name i.1)
fits_expr (fits_cast name d) = let x = fits_expr d in (ECast name x.0, cast name x.1)
fits_expr (fits_select d e f) =
    let x = fits_expr d in let y = fits_expr e in let z = fits_expr f in (ESelect x.0 y.0 z.0, select x.1 y.1 z.1)
fits_expr (fits_parens d) = let x = fits_expr d in (x.0, parens x.1)
fits_expr (fits_negation d) = let x = fits_expr d in (ENeg x.0, negation x.1)
fits_expr (fits_shift left text d h) = let x = fits_expr d in (EShift x.0 left h.0, shift left text x.1 h.1)
fits_expr (fits_contrary d) = let x = fits_expr d in (ENot x.0, contrary x.1)
fits_expr (fits_binary op h d e) = let x = fits_expr d in let y = fits_expr e in (EBinary op x.0 y.0, binary op h x.1 y.1)
fits_expr (fits_tighter d) = let x = fits_expr d in (x.0, tighter x.1)
