-- Where no line is at fault, each name is new where it is declared, and so no name is declared twice.
use Rattle.std.proofs.Common.{◌≡◌, ◌∙◌, Bool, true, false, ℕ, List, [], ◌∷◌, ◌++◌, refl, ap, subst}
use Rattle.std.specs.Cmp.Lexicographic.{pointwise}
use Rattle.std.proofs.lemmas.Cmp.{nat_list_eq_equiv}
use Rattle.std.specs.List.{flat_map}
use Rattle.std.specs.Prelude.{nat_eq, map, ◌||◌, if◌then◌else◌}
use Rattle.tdf_base.specs.declared.codes.Code.TheVariants.{Duplicate}
use Rattle.tdf_base.proofs.Api.{if_none, none_first, none_second}
use Rattle.tdf_base.specs.declared.first.LineFault.{LineFault}
use Rattle.tdf_expr_names.specs.Law.{AreApart, DeclaresOnce, KeepsNamesOnce}
use Rattle.tdf_expr_names.specs.Names.{Name, has, with_declared, with_names, declares, in_order, name_faults, store_name_faults, name_of_store, tdf_line_name_faults, names_of_tdf_line, de_line_name_faults, names_of_de_line, member_name_faults, names_of_member, global_name_faults, globals_faults, names_of_global, names_of_globals, trace_faults, traces_name_faults, names_of_trace, composite_name_faults, names_of_tdf_lines, names_of_de_lines, tdf_name_faults, de_name_faults}
use Rattle.tdf_expr_names.proofs.Tables.{has_both}
use Rattle.tdf_lang_tree.specs.Kept.{Each}
use Rattle.tdf_lang_tree.specs.Pure.{PureStore, SConst, SVar, SArray, PureTdfLine, TPort, TStore, TRate, PureDeLine, DPort, DStore, DEvent, PureGlobal, GShape, GTdf, GDe, GNet, PureTrace}
use Rattle.tdf_lang_tree.specs.declared.blocks.Member.{Member}
use Rattle.tdf_lang_tree.specs.declared.blocks.Member.TheVariants as member

-- each name is new where it is declared
abbrev Fresh : List Name → List Name → Type 0
Fresh names [] = Unit {0}
Fresh names (x ∷ xs) = (has names x ≡ false) × Fresh (with_declared names x) xs

fresh_append : (names xs ys : List Name) → Fresh names xs → Fresh (with_names names xs) ys → Fresh names (xs ++ ys)
fresh_append names [] ys f g = g
fresh_append names (x ∷ xs) ys f g = (f.0, fresh_append (with_declared names x) xs ys f.1 g)

fresh_lines : {L : Type 0} (faults : List Name → L → List LineFault) (declared : L → List Name) → ((names : List Name) (l : L) → faults names l ≡ [] → Fresh names (declared l))
    → (names : List Name) (lines : List L) → in_order faults declared names lines ≡ [] → Fresh names (flat_map declared lines)
fresh_lines faults declared each names [] e = tt
fresh_lines faults declared each names (l ∷ ls) e = fresh_append names (declared l) (flat_map declared ls)
    (each names l (none_first (faults names l) (in_order faults declared (with_names names (declared l)) ls) e))
    (fresh_lines faults declared each (with_names names (declared l)) ls (none_second (faults names l) (in_order faults declared (with_names names (declared l)) ls) e))

-- names that are new one after another are apart
or_true : (b : Bool) → (b || true) ≡ true
or_true true = refl
or_true false = refl

kept_if : (b : Bool) (names : List Name) (x y : Name) → has names x ≡ true → has (if b then names else names ++ y ∷ []) x ≡ true
kept_if true names x y is = is
kept_if false names x y is = has_both names (y ∷ []) x ∙ ap (λ b. b || has (y ∷ []) x) is

same_or : (b : Bool) → b ≡ true → (b || false) ≡ true
same_or b is = ap (λ b. b || false) is

added_if : (b : Bool) (names : List Name) (x : Name) → has names x ≡ b → has (if b then names else names ++ x ∷ []) x ≡ true
added_if true names x is = is
added_if false names x is = has_both names (x ∷ []) x ∙ ap (λ b. has names x || b) (same_or (pointwise nat_eq x x) (nat_list_eq_equiv.refl x)) ∙ or_true (has names x)

-- equal names are in the same lists
same_in : (names : List Name) (x y : Name) → pointwise nat_eq x y ≡ true → has names x ≡ has names y
same_in [] x y is = refl
same_in (z ∷ names) x y is = ap (λ b. b || has names x) (ends x y z is) ∙ ap (λ b. pointwise nat_eq y z || b) (same_in names x y is)
  where
    ends : (x y z : Name) → pointwise nat_eq x y ≡ true → pointwise nat_eq x z ≡ pointwise nat_eq y z
    ends x y z is = nat_list_eq_equiv.congr x y z is

misses_one : (b : Bool) (names : List Name) (x y : Name) (ys : List Name) → pointwise nat_eq x y ≡ b → has names x ≡ true → has names y ≡ false → has ys x ≡ false → has (y ∷ ys) x ≡ false
misses_one true names x y ys e is new later = cc (same_in names x y e)
misses_one false names x y ys e is new later = ap (λ b. b || has ys x) e ∙ later

misses : (names : List Name) (x : Name) (xs : List Name) → has names x ≡ true → Fresh names xs → has xs x ≡ false
misses names x [] is f = refl
misses names x (y ∷ ys) is f = misses_one (pointwise nat_eq x y) names x y ys refl is f.0 (misses (with_declared names y) x ys (kept_if (has names y) names x y is) f.1)

apart : (names xs : List Name) → Fresh names xs → AreApart xs
apart names [] f = tt
apart names (x ∷ xs) f = (misses (with_declared names x) x xs (added_if (has names x) names x refl) f.1, apart (with_declared names x) xs f.1)

-- the lines of blocks
fresh_one : (names : List Name) (line : ℕ) (name : Name) (more : List LineFault) → declares names line name ++ more ≡ [] → Fresh names (name ∷ [])
fresh_one names line name more e = (if_none (has names name) Duplicate line (none_first (declares names line name) more e), tt)

fresh_alone : (names : List Name) (line : ℕ) (name : Name) → declares names line name ≡ [] → Fresh names (name ∷ [])
fresh_alone names line name e = (if_none (has names name) Duplicate line e, tt)

fresh_store : (globals names : List Name) (store : PureStore) → store_name_faults globals names store ≡ [] → Fresh names (name_of_store store ∷ [])
fresh_store globals names (SConst line name format value) e = fresh_one names line name _ e
fresh_store globals names (SVar line name format value) e = fresh_one names line name _ e
fresh_store globals names (SArray line name format size values) e = fresh_one names line name _ e

fresh_tdf_line : (globals names : List Name) (line : PureTdfLine) → tdf_line_name_faults globals names line ≡ [] → Fresh names (names_of_tdf_line line)
fresh_tdf_line globals names (TPort port) e = fresh_one names port.line port.name _ e
fresh_tdf_line globals names (TStore store) e = fresh_store globals names store e
fresh_tdf_line globals names (TRate line name least greatest start) e = fresh_alone names line name e

fresh_de_line : (globals names : List Name) (line : PureDeLine) → de_line_name_faults globals names line ≡ [] → Fresh names (names_of_de_line line)
fresh_de_line globals names (DPort port) e = fresh_one names port.line port.name _ e
fresh_de_line globals names (DStore store) e = fresh_store globals names store e
fresh_de_line globals names (DEvent line name) e = fresh_alone names line name e

fresh_member : (globals names : List Name) (m : Member) → member_name_faults globals names m ≡ [] → Fresh names (names_of_member m)
fresh_member globals names (member.Port port) e = fresh_one names port.line port.name _ e
fresh_member globals names (member.Signal line name format) e = fresh_one names line name _ e
fresh_member globals names (member.DeSignal line name format start) e = fresh_one names line name _ e
fresh_member globals names (member.Instance line name block) e = fresh_one names line name _ e
fresh_member globals names (member.Bind line instance port target) e = tt

fresh_global : (names : List Name) (global : PureGlobal) → global_name_faults names global ≡ [] → Fresh names (names_of_global global)
fresh_global names (GShape shape) e = fresh_alone names shape.line shape.name e
fresh_global names (GTdf block) e = fresh_one names block.line block.name _ e
fresh_global names (GDe block) e = fresh_one names block.line block.name _ e
fresh_global names (GNet block) e = fresh_one names block.line block.name _ e

-- a block, and the whole model
once_in : (names : List Name) (global : PureGlobal) → global_name_faults names global ≡ [] → DeclaresOnce global
once_in names (GShape shape) e = tt
once_in names (GTdf block) e = apart [] (names_of_tdf_lines block.decls)
    (fresh_lines (tdf_line_name_faults names) names_of_tdf_line (fresh_tdf_line names) [] block.decls (none_first _ _ (none_second (declares names block.line block.name) (tdf_name_faults names block) e)))
once_in names (GDe block) e = apart [] (names_of_de_lines block.decls)
    (fresh_lines (de_line_name_faults names) names_of_de_line (fresh_de_line names) [] block.decls (none_first _ _ (none_second (declares names block.line block.name) (de_name_faults names block) e)))
once_in names (GNet block) e = apart [] (flat_map names_of_member block.members)
    (fresh_lines (member_name_faults names) names_of_member (fresh_member names) [] block.members (none_second (declares names block.line block.name) (composite_name_faults names block) e))

each_once : (names : List Name) (list : List PureGlobal) → globals_faults names list ≡ [] → Each DeclaresOnce list
each_once names [] e = tt
each_once names (g ∷ gs) e = (
  once_in names g (none_first (global_name_faults names g) (globals_faults (with_names names (names_of_global g)) gs) e),
  each_once (with_names names (names_of_global g)) gs (none_second (global_name_faults names g) (globals_faults (with_names names (names_of_global g)) gs) e),
)

labels_of : (traces : List PureTrace) → flat_map names_of_trace traces ≡ map (λ trace. trace.label) traces
labels_of [] = refl
labels_of (t ∷ ts) = ap (λ rest. t.label ∷ rest) (labels_of ts)

pub names_once : KeepsNamesOnce
unfolding name_faults
names_once tree e =
    let globals : globals_faults [] tree.globals ≡ [] = none_first _ _ e in
    let rest : composite_name_faults (with_names [] (names_of_globals tree.globals)) tree.top ++ traces_name_faults [] tree.traces ≡ [] = none_second (globals_faults [] tree.globals) _ e in
    let top : composite_name_faults (with_names [] (names_of_globals tree.globals)) tree.top ≡ [] = none_first _ _ rest in
    let traces : traces_name_faults [] tree.traces ≡ [] = none_second (composite_name_faults (with_names [] (names_of_globals tree.globals)) tree.top) _ rest in
    record {
      globals = apart [] (names_of_globals tree.globals) (fresh_lines global_name_faults names_of_global fresh_global [] tree.globals globals);
      blocks = each_once [] tree.globals globals;
      top = apart [] (flat_map names_of_member tree.top.members)
          (fresh_lines (member_name_faults (with_names [] (names_of_globals tree.globals))) names_of_member (fresh_member (with_names [] (names_of_globals tree.globals))) [] tree.top.members top);
      labels = subst AreApart (labels_of tree.traces)
          (apart [] (flat_map names_of_trace tree.traces) (fresh_lines trace_faults names_of_trace (λ names t is. fresh_alone names t.line t.label is) [] tree.traces traces));
    }
