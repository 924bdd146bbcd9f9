-- The bytes of names and of paths.
use Rattle.std.proofs.Common.{◌≡◌, ◌≢◌, ◌∙◌, ℕ, Bool, true, false, ◌&&◌, ◌||◌, List, [], ◌∷◌, ◌++◌, refl, sym, ap, true≢false}
use Rattle.std.specs.List.{AllByRecursion, list_all}
use Rattle.std.specs.Prelude.{nat_eq, nat_le, length}
use Rattle.tdf_base.specs.Digits.{is_digit}
use Rattle.tdf_base.specs.Limits.{longest_name}
use Rattle.tdf_base.specs.Names.{is_letter, is_part}
use Rattle.tdf_bind.proofs.Lists.{all_append, weaker}
use Rattle.tdf_bind.proofs.Paths.{HasNo}
use Rattle.tdf_bind.specs.Laws.{IsPlainPath, is_path_byte}
use Rattle.tdf_lang_tree.specs.Kept.{IsName}

and_first : (a b : Bool) → a && b ≡ true → a ≡ true
and_first true b e = refl
and_first false b e = absurd (true≢false (sym e))

and_second : (a b : Bool) → a && b ≡ true → b ≡ true
and_second true b e = e
and_second false b e = absurd (true≢false (sym e))

abbrev IsPart : ℕ → Type 0
IsPart byte = is_part byte ≡ true

all_parts : (name : List ℕ) → list_all is_part name ≡ true → AllByRecursion IsPart name
all_parts [] e = tt
all_parts (c ∷ name) e = (and_first (is_part c) (list_all is_part name) e, all_parts name (and_second (is_part c) (list_all is_part name) e))

name_parts : (name : List ℕ) → IsName name → AllByRecursion IsPart name
name_parts [] is = tt
name_parts (c ∷ name) is =
    let both = and_first (is_letter c && list_all is_part name) (nat_le (length (c ∷ name)) longest_name) is in (
      ap (λ letter. letter || is_digit c) (and_first (is_letter c) (list_all is_part name) both),
      all_parts name (and_second (is_letter c) (list_all is_part name) both),
    )

-- a name and a path hold no other bytes
pub name_without : (byte : ℕ) → is_part byte ≡ false → (name : List ℕ) → IsName name → HasNo byte name
name_without byte other name is = weaker IsPart (λ c. c ≢ byte) (λ c part same. true≢false (sym part ∙ ap is_part same ∙ other)) name (name_parts name is)

pub path_without : (byte : ℕ) → is_path_byte byte ≡ false → (path : List ℕ) → IsPlainPath path → HasNo byte path
path_without byte other path plain = weaker (λ c. is_path_byte c ≡ true) (λ c. c ≢ byte) (λ c own same. true≢false (sym own ∙ ap is_path_byte same ∙ other)) path plain

pub name_is_plain : (name : List ℕ) → IsName name → IsPlainPath name
name_is_plain name is = weaker IsPart (λ c. is_path_byte c ≡ true) (λ c part. ap (λ own. own || nat_eq c 46) part) name (name_parts name is)

pub joined_is_plain : (name rest : List ℕ) → IsPlainPath name → IsPlainPath rest → IsPlainPath (name ++ 46 ∷ rest)
joined_is_plain name rest plain more = all_append (λ c. is_path_byte c ≡ true) name (46 ∷ rest) plain (refl, more)
