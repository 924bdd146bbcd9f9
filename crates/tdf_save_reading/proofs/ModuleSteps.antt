-- A module is read line after line.
use Rattle.std.proofs.Common.{◌≡◌, ℕ, ℤ, Bool, List, ◌++◌, length, ◌∙◌, sym, ap, refl, codes, decimal, subst}
use Rattle.std.specs.List.{AllByRecursion}
use Rattle.tdf_save.proofs.Api.{ModulePartsFit, accept_one, along_one, cells_of, count32_one, count64_one, edge_one, list_line_one, module_is, module_one, module_parts, module_parts_one, module_parts_text, module_same, path_line_one, rates_of, steps_of, title_of}
use Rattle.tdf_save_reading.proofs.ReadSteps.{AreEach, along_none, along_piece, no_first, no_second, pair_piece}
use Rattle.tdf_save.specs.Members.{IsCount32, IsCount64, IsModuleFor, IsNum, ModuleMembersOf}
use Rattle.tdf_save.specs.Text.{accept_word, saved_edge, saved_module}
use Rattle.tdf_save_reading.specs.machine.Modules.{HasCounts, IsModuleInRange}
use Rattle.tdf_save.specs.machine.Pieces.{Any, AnyFlag, IsOne}
use Rattle.tdf_save_reading.specs.machine.Pieces.{IsPiece, NoPiece}
use Rattle.tdf_saved.specs.State.{ModuleStateOf}

abbrev Rates : List ℕ → Type 0
Rates ns = AllByRecursion IsCount32 ns

abbrev Steps : List ℕ → Type 0
Steps ns = AllByRecursion IsCount64 ns

abbrev Cells : List ℤ → Type 0
Cells ns = AllByRecursion IsNum ns

abbrev Tail : Type 0
Tail = List ℕ × List ℤ

abbrev tail_text : Tail → List ℕ
tail_text q = steps_of q.0 ++ cells_of q.1

abbrev TailFit : Tail → Type 0
TailFit q = Steps q.0 × Cells q.1

abbrev Lists : Type 0
Lists = List ℕ × (List ℕ × List ℤ)

abbrev lists_text : Lists → List ℕ
lists_text q = rates_of q.0 ++ (steps_of q.1.0 ++ cells_of q.1.1)

abbrev ListsFit : Lists → Type 0
ListsFit q = Rates q.0 × (Steps q.1.0 × Cells q.1.1)

range_fit : (s : ModuleStateOf) → IsModuleInRange s → ModulePartsFit (module_parts s)
unfolding module_parts
range_fit s h = (tt, (h.rates, (h.steps, h.cells)))

from_parts : (m : ModuleMembersOf) (whole : List ℕ) → NoPiece (module_parts_text m) ModulePartsFit Any whole → NoPiece (saved_module m) IsModuleInRange Any whole
from_parts m whole none = along_none module_parts (saved_module m) (module_parts_text m) IsModuleInRange ModulePartsFit Any whole (module_is m) range_fit none

title_one : (m : ModuleMembersOf) → IsOne (title_of m) AnyFlag Any
title_one m = path_line_one (codes "module") m.path accept_word AnyFlag accept_one

rates_one : IsOne rates_of Rates Any
rates_one = list_line_one (codes "rates") decimal IsCount32 count32_one

steps_one : IsOne steps_of Steps Any
steps_one = list_line_one (codes "steps") decimal IsCount64 count64_one

pub no_title : (m : ModuleMembersOf) (whole : List ℕ) → NoPiece (title_of m) AnyFlag Any whole → NoPiece (saved_module m) IsModuleInRange Any whole
no_title m whole none = from_parts m whole (no_first (title_of m) lists_text AnyFlag ListsFit Any Any whole (λ b r f e. tt) none)

after_title : (m : ModuleMembersOf) (whole left : List ℕ) (flag : Bool) → IsPiece (title_of m) AnyFlag Any whole flag left → NoPiece lists_text ListsFit Any left → NoPiece (saved_module m) IsModuleInRange Any whole
after_title m whole left flag p none = from_parts m whole (no_second (title_of m) lists_text AnyFlag ListsFit Any Any whole left flag (λ b r f e. tt) (title_one m) p none)

pub no_rates : (m : ModuleMembersOf) (whole a : List ℕ) (flag : Bool) → IsPiece (title_of m) AnyFlag Any whole flag a → NoPiece rates_of Rates Any a → NoPiece (saved_module m) IsModuleInRange Any whole
no_rates m whole a flag p none = after_title m whole a flag p (no_first rates_of tail_text Rates TailFit Any Any a (λ b r f e. tt) none)

pub no_steps : (m : ModuleMembersOf) (whole a b : List ℕ) (flag : Bool) (rates : List ℕ) → IsPiece (title_of m) AnyFlag Any whole flag a → IsPiece rates_of Rates Any a rates b
    → NoPiece steps_of Steps Any b → NoPiece (saved_module m) IsModuleInRange Any whole
no_steps m whole a b flag rates p q none = after_title m whole a flag p
    (no_second rates_of tail_text Rates TailFit Any Any a b rates (λ b r f e. tt) rates_one q (no_first steps_of cells_of Steps Cells Any Any b (λ b r f e. tt) none))

pub no_cells : (m : ModuleMembersOf) (whole a b d : List ℕ) (flag : Bool) (rates steps : List ℕ) → IsPiece (title_of m) AnyFlag Any whole flag a → IsPiece rates_of Rates Any a rates b
    → IsPiece steps_of Steps Any b steps d → NoPiece cells_of Cells Any d → NoPiece (saved_module m) IsModuleInRange Any whole
no_cells m whole a b d flag rates steps p q w none = after_title m whole a flag p
    (no_second rates_of tail_text Rates TailFit Any Any a b rates (λ b r f e. tt) rates_one q
    (no_second steps_of cells_of Steps Cells Any Any b d steps (λ b r f e. tt) steps_one w none))

abbrev pub module_at : Bool → List ℕ → List ℕ → List ℤ → ModuleStateOf
module_at flag rates steps cells = record { accept = flag; rates = rates; steps = steps; cells = cells }

parts_at : (flag : Bool) (rates steps : List ℕ) (cells : List ℤ) → module_parts (module_at flag rates steps cells) ≡ (flag, (rates, (steps, cells)))
unfolding module_parts
parts_at flag rates steps cells = refl

pub all_lines : (m : ModuleMembersOf) (whole a b d rest : List ℕ) (flag : Bool) (rates steps : List ℕ) (cells : List ℤ) → IsPiece (title_of m) AnyFlag Any whole flag a → IsPiece rates_of Rates Any a rates b
    → IsPiece steps_of Steps Any b steps d → IsPiece cells_of Cells Any d cells rest → IsPiece (saved_module m) IsModuleInRange Any whole (module_at flag rates steps cells) rest
all_lines m whole a b d rest flag rates steps cells p q w z =
    let three = pair_piece steps_of cells_of Steps Cells Any Any b d steps cells rest w z in
    let two = pair_piece rates_of tail_text Rates TailFit Any Any a b rates (steps, cells) rest q three in
    let one = pair_piece (title_of m) lists_text AnyFlag ListsFit Any Any whole a flag (rates, (steps, cells)) rest p two in
    along_piece (saved_module m) (module_parts_text m) IsModuleInRange ModulePartsFit Any whole (module_at flag rates steps cells) (flag, (rates, (steps, cells))) rest
    (module_is m (module_at flag rates steps cells) ∙ ap (module_parts_text m) (parts_at flag rates steps cells))
    (record { rates = q.fit; steps = w.fit; cells = z.fit }) one

-- ---- how many numbers there are

pub in_range : (m : ModuleMembersOf) (s : ModuleStateOf) → IsModuleFor m s → IsModuleInRange s
in_range m s h = record { rates = h.rates_fit; steps = h.steps_fit; cells = h.cells.each }

pub narrower : (m : ModuleMembersOf) (whole : List ℕ) → NoPiece (saved_module m) IsModuleInRange Any whole → NoPiece (saved_module m) (IsModuleFor m) Any whole
narrower m whole none = λ s r p. none s r (record { fit = in_range m s p.fit; end = tt; is = p.is })

range_one : (m : ModuleMembersOf) → IsOne (saved_module m) IsModuleInRange Any
range_one m = along_one module_parts (saved_module m) (module_parts_text m) IsModuleInRange ModulePartsFit Any module_same (module_is m) range_fit (module_parts_one m)

-- a module with other counts is none that belongs to the member
pub miscounted : (m : ModuleMembersOf) (whole : List ℕ) (s : ModuleStateOf) (rest : List ℕ) → IsPiece (saved_module m) IsModuleInRange Any whole s rest
    → (IsModuleFor m s → ⊥) → NoPiece (saved_module m) (IsModuleFor m) Any whole
miscounted m whole s rest p other = λ t r q.
    let same = ((range_one m).only s t rest r p.fit (in_range m t q.fit) tt tt (sym p.is ∙ q.is)).0 in
    other (subst (IsModuleFor m) (sym same) q.fit)

pub counted : (m : ModuleMembersOf) (whole : List ℕ) (s : ModuleStateOf) (rest : List ℕ) → IsPiece (saved_module m) IsModuleInRange Any whole s rest
    → length s.rates ≡ m.rates → length s.steps ≡ m.steps → length s.cells ≡ m.cells → IsPiece (saved_module m) (IsModuleFor m) Any whole s rest
counted m whole s rest p a b c = record {
  fit = record { rates = a; rates_fit = p.fit.rates; steps = b; steps_fit = p.fit.steps; cells = record { many = c; each = p.fit.cells } };
  end = tt;
  is = p.is;
}

pub other_counts : (m : ModuleMembersOf) (whole : List ℕ) (s : ModuleStateOf) (rest : List ℕ) → IsPiece (saved_module m) IsModuleInRange Any whole s rest
    → (HasCounts m s → ⊥) → NoPiece (saved_module m) (IsModuleFor m) Any whole
other_counts m whole s rest p other = miscounted m whole s rest p (λ h. other (record { rates = h.rates; steps = h.steps; cells = h.cells.many }))

pub same_counts : (m : ModuleMembersOf) (whole : List ℕ) (s : ModuleStateOf) (rest : List ℕ) → IsPiece (saved_module m) IsModuleInRange Any whole s rest
    → HasCounts m s → IsPiece (saved_module m) (IsModuleFor m) Any whole s rest
same_counts m whole s rest p h = counted m whole s rest p h.rates h.steps h.cells

pub modules_each : AreEach saved_module IsModuleFor Any
modules_each = record { one = module_one; goes = λ a v r f. tt }

pub edges_each : AreEach saved_edge (λ path nums. AllByRecursion IsNum nums) Any
edges_each = record { one = edge_one; goes = λ a v r f. tt }

pub edge_piece_at : (a b whole : List ℕ) (nums : List ℤ) (rest : List ℕ) → a ≡ b → IsPiece (saved_edge a) (AllByRecursion IsNum) Any whole nums rest → IsPiece (saved_edge b) (λ ns. AllByRecursion IsNum ns) Any whole nums rest
edge_piece_at a b whole nums rest e p = subst (λ x. IsPiece (saved_edge x) (AllByRecursion IsNum) Any whole nums rest) e p

pub no_edge_at : (a b whole : List ℕ) → a ≡ b → NoPiece (saved_edge a) (AllByRecursion IsNum) Any whole → NoPiece (saved_edge b) (λ ns. AllByRecursion IsNum ns) Any whole
no_edge_at a b whole e none = subst (λ x. NoPiece (saved_edge x) (AllByRecursion IsNum) Any whole) e none
