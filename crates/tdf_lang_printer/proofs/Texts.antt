-- The text of a list is the texts of its items, one after another.
use Rattle.std.proofs.Common.{◌≡◌, ℕ, List, [], ◌∷◌, ◌++◌, refl, ap}
use Rattle.std.specs.List.{flat_map}
use Rattle.tdf_lang_tree.specs.declared.names.Lit.{Lit}
use Rattle.tdf_lang_printer.specs.Lines.{lits_text, points_text}
use Rattle.tdf_lang_printer.specs.machine.Texts.{value_text, point_text}

pub lits_are : (xs : List Lit) → lits_text xs ≡ flat_map value_text xs
lits_are [] = refl
lits_are (x ∷ xs) = ap (λ t. value_text x ++ t) (lits_are xs)

pub points_are : (xs : List (List ℕ)) → points_text xs ≡ flat_map point_text xs
points_are [] = refl
points_are (x ∷ xs) = ap (λ t. point_text x ++ t) (points_are xs)

pub ruleset list_laws = (lits_are, points_are)
