-- The names that processes assign, each once, as the code holds them (own).
use Rattle.std.specs.Prelude.{◌≡◌, ℕ, Bool, ◌&&◌, if◌then◌else◌, nat_eq, List, [], ◌∷◌, ◌++◌}
use Rattle.std.specs.Cmp.Lexicographic.{pointwise}
use Rattle.std.specs.List.{flat_map, list_any}
use Rattle.tdf_base.specs.declared.codes.Code.TheVariants as code
use Rattle.tdf_expr_blocks.specs.Writers.{Assigned, assigned_all, assigns, is_output}
use Rattle.tdf_base.specs.First.{fault_if}
use Rattle.tdf_base.specs.declared.first.LineFault.{LineFault}
use Rattle.tdf_expr_symbols.specs.Names.{Names, thing_of}
use Rattle.tdf_lang_tree.specs.Pure.{PureProcess}

unfoldable pub has : List (List ℕ) → List ℕ → Bool
has written name = list_any (pointwise nat_eq name) written

unfoldable pub with_one : List (List ℕ) → List ℕ → List (List ℕ)
with_one written name = if has written name then written else written ++ name ∷ []

unfoldable pub with_all : List (List ℕ) → List Assigned → List (List ℕ)
with_all written [] = written
with_all written (a ∷ as') = with_all (with_one written a.name) as'

-- the faults of assignments, and of processes one after another
abbrev pub again : Names → List (List ℕ) → Assigned → List LineFault
again own written a =
    fault_if (is_output (thing_of own a.name) && has written a.name) code.Writers a.line

unfoldable pub agains : Names → List (List ℕ) → List Assigned → List LineFault
agains own written list = flat_map (again own written) list

unfoldable pub later : Names → List (List ℕ) → List PureProcess → List LineFault
later own written [] = []
later own written (p ∷ ps) =
    agains own written (assigned_all p.body.list)
    ++ later own (with_all written (assigned_all p.body.list)) ps

-- the names that are held are those that some processes assign
pub record AreWritten (written : List (List ℕ)) (earlier : List PureProcess) : Type 0 where
  pub each : (name : List ℕ) → has written name ≡ list_any (assigns name) earlier
