-- One port more is counted.
use Rattle.std.proofs.Common.{◌≡◌, ◌∙◌, ◌≢◌, ℕ, ◌+◌, ◌<◌, ◌≤◌, Bool, true, false, Some, if◌then◌else◌, nat_eq, List, [], ◌∷◌, ◌++◌, length, length-append, take, refl, ap, sym, inl, inr, ◌⊎◌, arith, slice_get, slice_index}
use Rattle.std.proofs.lemmas.Bool.{cases_eq, eq-eqb, ne_eqb}
use Rattle.std.proofs.lemmas.List.{get_or-set_same, get_or-set_other, length-set, length-take-le, take_more}
use Rattle.std.proofs.lemmas.List.Elements.{filter-append}
use Rattle.std.proofs.lemmas.List.Sums.{count_by-le-length, length-filter}
use Rattle.std.proofs.lemmas.Option.{get_or_from_slice_get, slice_get_within}
use Rattle.std.specs.Prelude.{cond, filter, slice_set}
use Rattle.tdf_exec_layout.specs.machine.Places.{PlacesUpTo, count_of}
use Rattle.tdf_streams.specs.Places.{module_of_row, place_of_port}
use Rattle.tdf_bind_connections.specs.declared.modules.PortRow.{PortRow}

abbrev one_if : Bool → ℕ
one_if b = if b then 1 else 0

pub count_next : (ports : List PortRow) (n m : ℕ) (port : PortRow) → slice_get ports n ≡ Some port → count_of (take (n + 1) ports) m ≡ count_of (take n ports) m + (if nat_eq port.«module» m then 1 else 0)
count_next ports n m port at =
    ap (λ l. count_of l m) (take_more ports n port (slice_get_within ports n port at) ∙ ap (λ (x : PortRow). take n ports ++ x ∷ []) (get_or_from_slice_get ports n port port at))
    ∙ ap length (filter-append (λ (p : PortRow). nat_eq p.«module» m) (take n ports) (port ∷ []))
    ∙ length-append (filter (λ (p : PortRow). nat_eq p.«module» m) (take n ports)) (filter (λ (p : PortRow). nat_eq p.«module» m) (port ∷ []))
    ∙ ap (λ k. count_of (take n ports) m + k) (by_test (nat_eq port.«module» m))
  where
    by_test : (b : Bool) → length (cond b (port ∷ []) []) ≡ (if b then 1 else 0)
    by_test true = refl
    by_test false = refl

pub place_is : (ports : List PortRow) (n : ℕ) (port : PortRow) → slice_get ports n ≡ Some port → place_of_port ports n ≡ count_of (take n ports) port.«module»
place_is ports n port at = ap (λ o. count_of (take n ports) (module_of_row o)) at

-- no module has more of the first n ports than n
pub count_within : (ports : List PortRow) (n m : ℕ) → n ≤ length ports → count_of (take n ports) m ≤ n
count_within ports n m below =
    let few = count_by-le-length (λ (p : PortRow). nat_eq p.«module» m) (take n ports) in
    let is = length-filter (λ (p : PortRow). nat_eq p.«module» m) (take n ports) in
    let long = length-take-le n ports below in
    omega (arith, few, is, long)

pub places_next : (modules : ℕ) (ports : List PortRow) (n : ℕ) (port : PortRow) (counts places : List ℕ) (count next : ℕ) → PlacesUpTo modules ports n counts places
    → slice_get ports n ≡ Some port → port.«module» < modules → count ≡ slice_index counts port.«module» → next ≡ count + 1
    → PlacesUpTo modules ports (n + 1) (slice_set counts port.«module» next) (slice_set places n count)
places_next modules ports n port counts places count next h at inside count_is next_is = record {
  many = length-set counts port.«module» next ∙ h.many;
  counted = λ m below. counted m below (cases_eq m port.«module»);
  long = length-set places n count ∙ h.long;
  each = λ j below. each j (cases_eq j n) below;
}
  where
    counted : (m : ℕ) → m < modules → (m ≡ port.«module») ⊎ (m ≢ port.«module») → slice_index (slice_set counts port.«module» next) m ≡ count_of (take (n + 1) ports) m
    counted m below (inl same) = rw same (
        get_or-set_same counts port.«module» next 0 (let l = h.many in omega (arith, inside, l)) ∙ next_is ∙ ap (λ k. k + 1) (count_is ∙ h.counted port.«module» inside)
        ∙ sym (count_next ports n port.«module» port at ∙ ap (λ b. count_of (take n ports) port.«module» + one_if b) (eq-eqb port.«module» port.«module» refl)))
    counted m below (inr other) =
        get_or-set_other counts port.«module» m next 0 other ∙ h.counted m below
        ∙ sym (count_next ports n m port at ∙ ap (λ b. count_of (take n ports) m + one_if b) (ne_eqb port.«module» m (λ s. other (sym s))) ∙ omega arith)

    each : (j : ℕ) → (j ≡ n) ⊎ (j ≢ n) → j < n + 1 → slice_index (slice_set places n count) j ≡ place_of_port ports j
    each j (inl same) below = let l = h.long in let room = slice_get_within ports n port at in
        ap (λ k. slice_index (slice_set places n count) k) same ∙ get_or-set_same places n count 0 (omega (arith, room, l))
        ∙ count_is ∙ h.counted port.«module» inside ∙ sym (ap (place_of_port ports) same ∙ place_is ports n port at)
    each j (inr other) below = get_or-set_other places n j count 0 other ∙ h.each j (omega (arith, below, other))
