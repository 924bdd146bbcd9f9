-- One module more.
use Rattle.std.proofs.Common.{◌≡◌, ◌+◌, ◌-◌, ℕ, suc, arith, ap, sym, ◌∙◌}
use Rattle.tdf_cli_load.specs.Chain.{kind, kind_at, level_after, module_level, module_number, next}
use Rattle.tdf_cli_load.specs.declared.chain.Level.{Level}

-- the number of the next module is made of the one before
pub number_next : (seed k : ℕ) → module_number seed (k + 1) ≡ next (module_number seed k)
unfolding module_number
number_next seed k = let e : k + 1 ≡ suc k = omega arith in ap (module_number seed) e

-- the level behind the next module is that before it, as its kind turns it
pub level_next : (seed k : ℕ) → module_level seed (k + 1) ≡ level_after (module_level seed k) (kind seed (k + 1))
unfolding module_level
level_next seed k =
    let e : k + 1 ≡ suc k = omega arith in
    let back : k ≡ suc k - 1 = omega arith in
    ap (λ n. module_level seed n) e
    ∙ ap (λ n. level_after (module_level seed k) (kind_at (module_number seed (suc k)) (module_level seed n))) back
    ∙ ap (λ n. level_after (module_level seed k) (kind seed n)) (sym e)

-- the kind of the next module is drawn from its number and the level before it
pub kind_next : (seed k n : ℕ) (before : Level) → n ≡ module_number seed (k + 1) → before ≡ module_level seed k → kind_at n before ≡ kind seed (k + 1)
kind_next seed k n before number_is level_is =
    let back : k ≡ k + 1 - 1 = omega arith in
    ap (λ m. kind_at m before) number_is ∙ ap (kind_at (module_number seed (k + 1))) (level_is ∙ ap (module_level seed) back)
