-- The roles of declarations, one by one.
use Rattle.std.proofs.Common.{◌≡◌, ◌∙◌, ℕ, zero, suc, ◌+◌, ◌<◌, List, [], ◌∷◌, ◌++◌, Option, Some, None, length, drop, map, refl, sym, ap, subst, arith}
use Rattle.std.proofs.Math.ListN.{get_or}
use Rattle.std.proofs.lemmas.List.{drop_more}
use Rattle.std.specs.Borrow.{Bor}
use Rattle.std.specs.Prelude.{slice_get}
use Rattle.tdf_bind_attributes.specs.Roles.{AreModulesSound, module_role, processes_role, roles_from}
use Rattle.tdf_bind_attributes.specs.machine.Sound.{IsGood}
use Rattle.tdf_expr_symbols.specs.Names.{Names}
use Rattle.tdf_lang_tree.specs.Kept.{Each, KeepsGlobal}
use Rattle.tdf_lang_tree.specs.Pure.{PureComposite, PureGlobal, GShape, GTdf, GDe, GNet}
use Rattle.tdf_lang_tree.specs.Views.{pure_global}
use Rattle.tdf_lang_tree.specs.declared.tree.Global1.{Global1}
use Rattle.tdf_lang_tree.specs.declared.blocks.PortKind.{PortKind}
use Rattle.tdf_lang_tree.specs.declared.blocks.PortLine.{PortLine}
use Rattle.tdf_bind_connections.specs.Roles.{ProcessOf, ProcessesOf}
use Rattle.tdf_bind_connections.specs.declared.roles.Role.TheVariants.{Module, Processes, Composite}

abbrev pub role_with : ℕ → List PortKind → List ProcessOf → List (List ℕ) → ProcessesOf
role_with number kinds processes events = record { block = number; ports = kinds; processes = processes; events = events }

pub top_last : (globals : Names) (number : ℕ) (gs : List PureGlobal) (top : PureComposite) → roles_from globals number (gs ++ GNet top ∷ []) ≡ roles_from globals number gs ++ Composite ∷ []
unfolding roles_from
top_last globals number [] top = refl
top_last globals number (GShape t ∷ gs) top = top_last globals number gs top
top_last globals number (GTdf block ∷ gs) top = ap (λ l. Module (module_role globals number block) ∷ l) (top_last globals (number + 1) gs top)
top_last globals number (GDe block ∷ gs) top = ap (λ l. Processes (processes_role number block) ∷ l) (top_last globals (number + 1) gs top)
top_last globals number (GNet block ∷ gs) top = ap (λ l. Composite ∷ l) (top_last globals number gs top)

pub all_good : (globals : Names) (gs : List PureGlobal) → AreModulesSound globals gs → Each KeepsGlobal gs → (n : ℕ) (g : PureGlobal) → slice_get gs n ≡ Some g → IsGood globals g
all_good globals [] sound kept n g at = absurd cc
all_good globals (GTdf block ∷ gs) sound kept zero g at = subst (IsGood globals) (ap held at) (sound.0, kept.0)
  where
    held : Option PureGlobal → PureGlobal
    held None = GTdf block
    held (Some x) = x
all_good globals (GTdf block ∷ gs) sound kept (suc n) g at = all_good globals gs sound.1 kept.1 n g at
all_good globals (GShape t ∷ gs) sound kept zero g at = subst (IsGood globals) (ap held at) tt
  where
    held : Option PureGlobal → PureGlobal
    held None = GShape t
    held (Some x) = x
all_good globals (GShape t ∷ gs) sound kept (suc n) g at = all_good globals gs sound kept.1 n g at
all_good globals (GDe block ∷ gs) sound kept zero g at = subst (IsGood globals) (ap held at) tt
  where
    held : Option PureGlobal → PureGlobal
    held None = GDe block
    held (Some x) = x
all_good globals (GDe block ∷ gs) sound kept (suc n) g at = all_good globals gs sound kept.1 n g at
all_good globals (GNet block ∷ gs) sound kept zero g at = subst (IsGood globals) (ap held at) tt
  where
    held : Option PureGlobal → PureGlobal
    held None = GNet block
    held (Some x) = x
all_good globals (GNet block ∷ gs) sound kept (suc n) g at = all_good globals gs sound kept.1 n g at

pub global_at : (gs : List Global1) (n : ℕ) (g : Global1) → n < length gs → g ≡ get_or gs n g → slice_get (map pure_global gs) n ≡ Some (pure_global g)
global_at [] n g within is = absurd (omega (arith, within))
global_at (x ∷ gs) zero g within is = ap (λ y. Some (pure_global y)) (sym is)
global_at (x ∷ gs) (suc n) g within is = global_at gs n g (omega (arith, within)) is

pub rest_is : (gs : List Global1) (n : ℕ) (g : Global1) → n < length gs → g ≡ get_or gs n g
    → map pure_global (drop n gs) ≡ pure_global g ∷ map pure_global (drop (n + 1) gs)
rest_is gs n g within is = ap (map pure_global) (drop_more gs n g within) ∙ ap (λ x. pure_global x ∷ map pure_global (drop (n + 1) gs)) (sym is)

pub kinds_are : (xs : List (Bor PortLine)) → map (λ p. p.now.kind) xs ≡ map (λ (p : PortLine). p.kind) (map (λ p. p.now) xs)
kinds_are [] = refl
kinds_are (x ∷ xs) = ap (λ l. x.now.kind ∷ l) (kinds_are xs)

pub same_role : (number : ℕ) (kinds ks : List PortKind) (processes ps : List ProcessOf) (events es : List (List ℕ)) → kinds ≡ ks → processes ≡ ps → events ≡ es
    → role_with number kinds processes events ≡ role_with number ks ps es
same_role number kinds ks processes ps events es first second third =
    ap (λ x. role_with number x processes events) first ∙ ap (λ x. role_with number ks x events) second ∙ ap (role_with number ks ps) third
