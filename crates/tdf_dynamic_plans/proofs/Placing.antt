-- Where modules stand in a table, and the rates of their ports.
use Rattle.std.proofs.Common.{◌≡◌, ◌∙◌, ℕ, zero, suc, ◌<◌, Bool, true, false, if◌then◌else◌, List, [], ◌∷◌, length, nat_eq, option_map, slice_get, Option, Some, None, refl, ap, sym, arith}
use Rattle.std.proofs.lemmas.Option.{same_Some, slice_get-map, slice_get_read}
use Rattle.std.specs.Prelude.{◌≤◌, map, slice_index_or}
use Rattle.tdf_bind_connections.specs.declared.modules.PortRow.{PortRow}
use Rattle.tdf_dynamic_plans.specs.Rates.{port_rate, rate_by, rated_port, times_value}
use Rattle.tdf_timestep.specs.Period.{port_rate_or_one, rate_at_port}
use Rattle.tdf_dynamic_plans.specs.Attributes.{AttrsOf, RowsStandOnce, attrs_at}
use Rattle.tdf_dynamic_plans.specs.machine.Placing.{number_at}

none_there : {number : ℕ} (row : Option AttrsOf) → row ≡ None → option_map (λ (attrs : AttrsOf). attrs.number) row ≡ Some number → ⊥
none_there None none is = absurd cc
none_there (Some x) none is = absurd cc

some_there : (number : ℕ) (row : Option AttrsOf) (x : AttrsOf) → row ≡ Some x → option_map (λ (attrs : AttrsOf). attrs.number) row ≡ Some number → x.number ≡ number
some_there number None x at is = absurd cc
some_there number (Some y) x at is = ap (λ (a : AttrsOf). a.number) (sym (same_Some y x at)) ∙ same_Some y.number number is

-- a row of a module is the one that it has
pub row_once : (table : List AttrsOf) (place number : ℕ) → RowsStandOnce table → number_at table place ≡ Some number → attrs_at table number ≡ slice_get table place
row_once [] place number once is = absurd (grind (arith, is))
row_once (x ∷ table) zero number once is =
    let e : x.number ≡ number = grind (arith, is) in
    let b : nat_eq x.number number ≡ true = grind (arith, e) in
    ap (λ b. if b then Some x else attrs_at table number) b
row_once (x ∷ table) (suc place) number once is =
    go (nat_eq x.number number) refl (slice_get table place) refl (row_once table place number (λ i j one two here there same. let e = once (suc i) (suc j) one two here there same in omega (arith, e)) is)
  where
    go : (b : Bool) → nat_eq x.number number ≡ b → (row : Option AttrsOf) → slice_get table place ≡ row → attrs_at table number ≡ slice_get table place
        → (if nat_eq x.number number then Some x else attrs_at table number) ≡ slice_get table place
    go true same None at later = absurd (none_there (slice_get table place) at is)
    go true same (Some row) at later =
        let here : x.number ≡ number = grind (arith, same) in
        let there : row.number ≡ number = some_there number (slice_get table place) row at is in
        absurd (let z : zero ≡ suc place = once zero (suc place) x row refl at (here ∙ sym there) in omega (arith, z))
    go false other row at later = ap (λ b. if b then Some x else attrs_at table number) other ∙ later

-- the rate of a port by such a row
pub rate_there : (table : List AttrsOf) (port : PortRow) (place : ℕ) (attrs : AttrsOf) (rates : List ℕ) → RowsStandOnce table → number_at table place ≡ Some port.«module» → place < length table
    → attrs ≡ slice_index_or table place attrs → rates ≡ attrs.rates → times_value port.rate.times rates port.rate.var ≡ port_rate table port
rate_there table port place attrs rates once is inside at own =
    ap (λ l. times_value port.rate.times l port.rate.var) own
    ∙ sym (ap (rate_by port) (row_once table place port.«module» once is ∙ slice_get_read table (length table) place attrs refl inside at))

-- the rate of a port of a net
pub told_some : (table : List AttrsOf) (ports : List PortRow) (place : ℕ) (port : PortRow) → slice_get ports place ≡ Some port → port_rate table port ≡ rate_at_port (map (rated_port table) ports) (Some place)
told_some table ports place port at = sym (ap port_rate_or_one (slice_get-map (rated_port table) ports place ∙ ap (option_map (rated_port table)) at))

pub told_none : (table : List AttrsOf) (ports : List PortRow) (place : ℕ) → length ports ≤ place → 1 ≡ rate_at_port (map (rated_port table) ports) (Some place)
told_none table [] place beyond = refl
told_none table (x ∷ ports) zero beyond = absurd (omega (arith, beyond))
told_none table (x ∷ ports) (suc place) beyond = told_none table ports place (omega (arith, beyond))

pub ruleset told_rates = (told_some, told_none)
