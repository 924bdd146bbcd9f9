-- The modules of the chain: the number of each, its kind, and the level behind it.
-- Source: own.
use Rattle.std.specs.Prelude.{ℕ, zero, suc, ◌+◌, ◌-◌, ◌*◌, ◌%◌, if◌then◌else◌, nat_eq, List, codes}
use Rattle.tdf_cli_load.specs.declared.chain.Kind.{Kind}
use Rattle.tdf_cli_load.specs.declared.chain.Kind.TheVariants.{Keep, Up, Down}
use Rattle.tdf_cli_load.specs.declared.chain.Level.{Level}
use Rattle.tdf_cli_load.specs.declared.chain.Level.TheVariants.{Low, High}

abbrev pub next : ℕ → ℕ
next number = (75 * number + 74) % 65537

-- the number of module k; the seed stands at 0, where no module is
unfoldable pub module_number : (seed k : ℕ) → ℕ
module_number seed zero = seed
module_number seed (suc k) = next (module_number seed k)

-- a signal is high behind a module `up`, and low behind a module `down` and at the beginning
abbrev pub level_after : Level → Kind → Level
level_after level Keep = level
level_after level Up = High
level_after level Down = Low

abbrev pub turned_from : Level → Kind
turned_from Low = Up
turned_from High = Down

-- a module whose number is divisible by 3 keeps the level, and each other turns it
abbrev pub kind_at : (number : ℕ) → Level → Kind
kind_at number level = if nat_eq (number % 3) 0 then Keep else turned_from level

-- the level behind module k
unfoldable pub module_level : (seed k : ℕ) → Level
module_level seed zero = Low
module_level seed (suc k) =
    level_after (module_level seed k)
    (kind_at (module_number seed (suc k)) (module_level seed k))

-- the kind of module k
abbrev pub kind : (seed k : ℕ) → Kind
kind seed k = kind_at (module_number seed k) (module_level seed (k - 1))

-- the name of the block of a kind
abbrev pub word_of_kind : Kind → List ℕ
word_of_kind Keep = codes "keep"
word_of_kind Up = codes "up"
word_of_kind Down = codes "down"
