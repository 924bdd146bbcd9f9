-- Pairs of an instance and a port by their names, as the code holds those that are bound, each once
-- (own).
use Rattle.std.specs.Prelude.{◌≡◌, ℕ, Bool, ◌&&◌, if◌then◌else◌, nat_eq, List, [], ◌∷◌, ◌++◌}
use Rattle.std.specs.Cmp.Lexicographic.{pointwise}
use Rattle.std.specs.List.{list_any}
use Rattle.tdf_bind_ports.specs.Faults.{LinkFault}
use Rattle.tdf_bind_ports.specs.Links.{Around, bind_faults, is_bound}
use Rattle.tdf_lang_tree.specs.declared.blocks.Member.{Member}
use Rattle.tdf_lang_tree.specs.declared.blocks.Member.TheVariants as member

abbrev pub has_pair : List (List ℕ × List ℕ) → (instance port : List ℕ) → Bool
has_pair pairs instance port =
    list_any (λ p. pointwise nat_eq instance p.0 && pointwise nat_eq port p.1) pairs

abbrev pub with_pair : (instance port : List ℕ) → List (List ℕ × List ℕ)
    → List (List ℕ × List ℕ)
with_pair instance port pairs =
    if has_pair pairs instance port then pairs else pairs ++ (instance, port) ∷ []

-- what is bound after a line, and after some
abbrev pub pairs_after : Member → List (List ℕ × List ℕ) → List (List ℕ × List ℕ)
pairs_after (member.Bind line instance port target) pairs = with_pair instance port pairs
pairs_after _ pairs = pairs

unfoldable pub pairs_after_all : List Member → List (List ℕ × List ℕ) → List (List ℕ × List ℕ)
pairs_after_all [] pairs = pairs
pairs_after_all (m ∷ ms) pairs = pairs_after_all ms (pairs_after m pairs)

-- the faults of lines one after another
unfoldable pub later : Around → List (List ℕ × List ℕ) → List Member → List LinkFault
later around pairs [] = []
later around pairs (m ∷ ms) =
    bind_faults around (has_pair pairs) m ++ later around (pairs_after m pairs) ms

-- the pairs that are held are those that some lines bind
pub record AreBoundBy (pairs : List (List ℕ × List ℕ)) (lines : List Member) : Type 0 where
  pub each : (instance port : List ℕ)
      → has_pair pairs instance port ≡ is_bound lines instance port
