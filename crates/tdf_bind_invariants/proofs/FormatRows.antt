-- The rows of ports, by the modules that have them.
use Rattle.std.proofs.Common.{◌≡◌, ◌∙◌, ℕ, zero, suc, ◌+◌, ◌-◌, ◌<◌, ◌≤◌, ◌⊎◌, Bool, true, false, cond, List, [], ◌∷◌, ◌++◌, Option, Some, None, length, map, refl, sym, ap, subst, arith, inl, inr}
use Rattle.std.proofs.lemmas.Bool.Decides.{nat_tests}
use Rattle.std.proofs.lemmas.List.{length-append, take-append-le}
use Rattle.std.proofs.lemmas.List.Elements.{filter-append}
use Rattle.std.proofs.lemmas.Option.{same_Some, none-some}
use Rattle.std.specs.List.{AllByRecursion, cons_option, enumerate_from}
use Rattle.std.specs.Prelude.{filter, nat_eq, nat_lt, slice_get, take}
use Rattle.tdf_bind_invariants.proofs.Walked.{IsTagged}
use Rattle.tdf_bind_invariants.specs.Tags.{Tag}
use Rattle.tdf_bind_hierarchy.specs.Tables.{RowOf, TablesOf}
use Rattle.tdf_bind_connections.specs.Modules.{PlacedModule, as_module, module_ports, placed_modules, port_row, ports_from}
use Rattle.tdf_bind_connections.specs.declared.modules.PortRow.{PortRow}
use Rattle.tdf_bind_connections.specs.declared.roles.PortData.{PortData}
use Rattle.tdf_bind_connections.specs.declared.roles.Role.{Role}
use Rattle.tdf_bind_connections.specs.declared.roles.Role.TheVariants.{Module, Processes, Composite}

abbrev pub is_of_module : ℕ → PortRow → Bool
is_of_module m port = nat_eq port.«module» m

-- a port of a module
pub record IsRowPort (ms : List PlacedModule) (first : ℕ) (before ports : List PortRow) (number : ℕ) (port : PortRow) : Type 0 where
  pub offset : ℕ
  pub number_is : port.«module» ≡ first + offset
  pub placed : PlacedModule
  pub there : slice_get ms offset ≡ Some placed
  pub place : ℕ
  pub port_data : PortData
  pub at : slice_get placed.role.ports place ≡ Some port_data
  pub is : port ≡ port_row port.«module» placed.instance place port_data
  pub place_is : length (filter (is_of_module port.«module») (before ++ take number ports)) ≡ place

-- the ports of one module
one_port : (n : ℕ) (instance : RowOf) (from : ℕ) (ports : List PortData) (number : ℕ) (port : PortRow)
    → slice_get (map (λ port. port_row n instance port.0 port.1) (enumerate_from from ports)) number ≡ Some port
    → (found : PortData) × (slice_get ports number ≡ Some found) × (port ≡ port_row n instance (from + number) found)
one_port n instance from [] number port at = absurd (none-some port at)
one_port n instance from (p ∷ ports) zero port at =
    let here : from ≡ from + 0 = omega arith in
    (p, refl, sym (same_Some (port_row n instance from p) port at) ∙ ap (λ k. port_row n instance k p) here)
one_port n instance from (p ∷ ports) (suc number) port at =
    let it = one_port n instance (from + 1) ports number port at in
    let next : from + 1 + number ≡ from + suc number = omega arith in
    (it.0, it.1, it.2 ∙ ap (λ k. port_row n instance k it.0) next)

module_is : (n : ℕ) (instance : RowOf) (from : ℕ) (ports : List PortData) → AllByRecursion (λ (p : PortRow). p.«module» ≡ n) (map (λ port. port_row n instance port.0 port.1) (enumerate_from from ports))
module_is n instance from [] = tt
module_is n instance from (p ∷ ports) = (refl, module_is n instance (from + 1) ports)

all_counted : (n m : ℕ) (ports : List PortRow) → n ≡ m → AllByRecursion (λ (p : PortRow). p.«module» ≡ n) ports → length (filter (is_of_module m) ports) ≡ length ports
all_counted n m [] same all = refl
all_counted n m (p ∷ ports) same all = go (nat_eq p.«module» m) refl (all_counted n m ports same all.1)
  where
    go : (b : Bool) → nat_eq p.«module» m ≡ b → length (filter (is_of_module m) ports) ≡ length ports → length (cond b (p ∷ filter (is_of_module m) ports) (filter (is_of_module m) ports)) ≡ suc (length ports)
    go true e later = ap suc later
    go false e later = let is : p.«module» ≡ m = all.0 ∙ same in absurd (let f : nat_eq p.«module» m ≡ true = grind (arith, nat_tests) in differ (sym f ∙ e))
      where
        differ : true ≡ false → ⊥
        differ h = absurd cc

none_counted : (m : ℕ) (ports : List PortRow) → AllByRecursion (λ (p : PortRow). p.«module» < m) ports → length (filter (is_of_module m) ports) ≡ 0
none_counted m [] all = refl
none_counted m (p ∷ ports) all = go (nat_eq p.«module» m) refl (none_counted m ports all.1)
  where
    go : (b : Bool) → nat_eq p.«module» m ≡ b → length (filter (is_of_module m) ports) ≡ 0 → length (cond b (p ∷ filter (is_of_module m) ports) (filter (is_of_module m) ports)) ≡ 0
    go false e later = later
    go true e later = let low = all.0 in absurd (let h : p.«module» ≡ m = grind (arith, nat_tests) in omega (arith, h, low))

all_take : {A : Type 0} (P : A → Type 0) (n : ℕ) (xs : List A) → AllByRecursion P xs → AllByRecursion P (take n xs)
all_take P zero xs all = tt
all_take P (suc n) [] all = tt
all_take P (suc n) (x ∷ xs) all = (all.0, all_take P n xs all.1)

both_all : {A : Type 0} (P : A → Type 0) (xs ys : List A) → AllByRecursion P xs → AllByRecursion P ys → AllByRecursion P (xs ++ ys)
both_all P [] ys one other = other
both_all P (x ∷ xs) ys one other = (one.0, both_all P xs ys one.1 other)

weaker : {A : Type 0} (P Q : A → Type 0) → ((x : A) → P x → Q x) → (xs : List A) → AllByRecursion P xs → AllByRecursion Q xs
weaker P Q so [] all = tt
weaker P Q so (x ∷ xs) all = (so x all.0, weaker P Q so xs all.1)

length_take : {A : Type 0} (n : ℕ) (xs : List A) → n ≤ length xs → length (take n xs) ≡ n
length_take zero xs low = refl
length_take (suc n) [] low = absurd (omega (arith, low))
length_take (suc n) (x ∷ xs) low = ap suc (length_take n xs (omega (arith, low)))

take_past : {A : Type 0} (n : ℕ) (xs ys : List A) → length xs ≤ n → take n (xs ++ ys) ≡ xs ++ take (n - length xs) ys
take_past n [] ys low = let same : n ≡ n - 0 = omega arith in ap (λ k. take k ys) same
take_past zero (x ∷ xs) ys low = absurd (omega (arith, low))
take_past (suc n) (x ∷ xs) ys low =
    let same : n - length xs ≡ suc n - suc (length xs) = omega arith in
    ap (λ l. x ∷ l) (take_past n xs ys (omega (arith, low))) ∙ ap (λ k. x ∷ (xs ++ take k ys)) same

within_left : {A : Type 0} (xs ys : List A) (n : ℕ) → n < length xs → slice_get (xs ++ ys) n ≡ slice_get xs n
within_left [] ys n low = absurd (omega (arith, low))
within_left (x ∷ xs) ys zero low = refl
within_left (x ∷ xs) ys (suc n) low = within_left xs ys n (omega (arith, low))

past_left : {A : Type 0} (xs ys : List A) (n : ℕ) → length xs ≤ n → slice_get (xs ++ ys) n ≡ slice_get ys (n - length xs)
past_left [] ys n low = let same : n ≡ n - 0 = omega arith in ap (slice_get ys) same
past_left (x ∷ xs) ys zero low = absurd (omega (arith, low))
past_left (x ∷ xs) ys (suc n) low = let same : n - length xs ≡ suc n - suc (length xs) = omega arith in past_left xs ys n (omega (arith, low)) ∙ ap (slice_get ys) same

append_assoc : {A : Type 0} (xs ys zs : List A) → (xs ++ ys) ++ zs ≡ xs ++ (ys ++ zs)
append_assoc [] ys zs = refl
append_assoc (x ∷ xs) ys zs = ap (λ l. x ∷ l) (append_assoc xs ys zs)

split : (n len : ℕ) → (n < len) ⊎ (len ≤ n)
split n len = go (nat_lt n len) refl
  where
    go : (b : Bool) → nat_lt n len ≡ b → (n < len) ⊎ (len ≤ n)
    go true e = inl (grind (arith, nat_tests))
    go false e = inr (grind (arith, nat_tests))

pub row_port : (ms : List PlacedModule) (first : ℕ) (before : List PortRow) → AllByRecursion (λ (p : PortRow). p.«module» < first) before → (number : ℕ) (port : PortRow)
    → slice_get (ports_from first ms) number ≡ Some port → IsRowPort ms first before (ports_from first ms) number port
row_port [] first before low number port at = absurd (none-some port at)
row_port (m ∷ ms) first before low number port at =
    elim (split number (length own)) [
      | inl inside ↦ here inside
      | inr past ↦ later past (row_port ms (first + 1) (before ++ own) (both_all (λ (p : PortRow). p.«module» < first + 1) before own (weaker (λ (p : PortRow). p.«module» < first) (λ (p : PortRow). p.«module» < first + 1) (λ p l. omega (arith, l)) before low)
          (weaker (λ (p : PortRow). p.«module» ≡ first) (λ (p : PortRow). p.«module» < first + 1) (λ p l. omega (arith, l)) own modules)) (number - length own) port (sym (past_left own rest number past) ∙ at))
    ]
  where
    own : List PortRow
    own = module_ports first m

    rest : List PortRow
    rest = ports_from (first + 1) ms

    modules : AllByRecursion (λ (p : PortRow). p.«module» ≡ first) (module_ports first m)
    modules = module_is first m.instance 0 m.role.ports

    here : number < length own → IsRowPort (m ∷ ms) first before (own ++ rest) number port
    here inside =
        let it = one_port first m.instance 0 m.role.ports number port (sym (within_left own rest number inside) ∙ at) in
        let mine : port.«module» ≡ first = ap (λ (p : PortRow). p.«module») it.2 in
        let place : 0 + number ≡ number = omega arith in
        let offset : first ≡ first + 0 = omega arith in
        let few : number ≤ length own = omega (arith, inside) in
        let counted : length (filter (is_of_module port.«module») (take number own)) ≡ number =
        all_counted first port.«module» (take number own) (sym mine) (all_take (λ (p : PortRow). p.«module» ≡ first) number own modules) ∙ length_take number own few in
        let none : length (filter (is_of_module port.«module») before) ≡ 0 =
        none_counted port.«module» before (subst (λ k. AllByRecursion (λ (p : PortRow). p.«module» < k) before) (sym mine) low) in
        record {
          offset = 0;
          number_is = mine ∙ offset;
          placed = m;
          there = refl;
          place = number;
          port_data = it.0;
          at = it.1;
          is = it.2 ∙ (λ i. port_row (sym mine i) m.instance (place i) it.0);
          place_is = ap (λ l. length (filter (is_of_module port.«module») (before ++ l))) (take-append-le number own rest few)
              ∙ ap length (filter-append (is_of_module port.«module») before (take number own)) ∙ length-append (filter (is_of_module port.«module») before) (filter (is_of_module port.«module») (take number own))
              ∙ (λ i. none i + counted i) ∙ place;
        }

    later : length own ≤ number → IsRowPort ms (first + 1) (before ++ own) rest (number - length own) port → IsRowPort (m ∷ ms) first before (own ++ rest) number port
    later past it =
        let next : first + 1 + it.offset ≡ first + suc it.offset = omega arith in
        record {
          offset = suc it.offset;
          number_is = it.number_is ∙ next;
          placed = it.placed;
          there = it.there;
          place = it.place;
          port_data = it.port_data;
          at = it.at;
          is = it.is;
          place_is = ap (λ l. length (filter (is_of_module port.«module») (before ++ l))) (take_past number own rest past)
              ∙ ap (λ l. length (filter (is_of_module port.«module») l)) (sym (append_assoc before own (take (number - length own) rest))) ∙ it.place_is;
        }

-- the instances of modules
pub record IsTaggedModule (roles : List Role) (tags : List (List (Option Tag))) (t : TablesOf) (m : PlacedModule) : Type 0 where
  pub tagged : IsTagged tags t m.instance
  pub role_is : slice_get roles m.instance.block ≡ Some (Module m.role)

abbrev IsTaggedIn : List Role → List (List (Option Tag)) → TablesOf → Option PlacedModule → Type 0
IsTaggedIn roles tags t None = Unit {0}
IsTaggedIn roles tags t (Some m) = IsTaggedModule roles tags t m

placed_one : (roles : List Role) (tags : List (List (Option Tag))) (t : TablesOf) (row : RowOf) → IsTagged tags t row → (o : Option Role) → slice_get roles row.block ≡ o → IsTaggedIn roles tags t (as_module row o)
placed_one roles tags t row tagged None is = tt
placed_one roles tags t row tagged (Some (Module role)) is = record { tagged = tagged; role_is = is }
placed_one roles tags t row tagged (Some (Processes role)) is = tt
placed_one roles tags t row tagged (Some Composite) is = tt

placed_cons : (roles : List Role) (tags : List (List (Option Tag))) (t : TablesOf) (o : Option PlacedModule) (ms : List PlacedModule) → IsTaggedIn roles tags t o → AllByRecursion (IsTaggedModule roles tags t) ms
    → AllByRecursion (IsTaggedModule roles tags t) (cons_option o ms)
placed_cons roles tags t None ms is all = all
placed_cons roles tags t (Some m) ms is all = (is, all)

pub modules_tagged : (roles : List Role) (tags : List (List (Option Tag))) (t : TablesOf) (rows : List RowOf) → AllByRecursion (IsTagged tags t) rows → AllByRecursion (IsTaggedModule roles tags t) (placed_modules roles rows)
modules_tagged roles tags t [] all = tt
modules_tagged roles tags t (row ∷ rows) all =
    placed_cons roles tags t (as_module row (slice_get roles row.block)) (placed_modules roles rows) (placed_one roles tags t row all.0 (slice_get roles row.block) refl) (modules_tagged roles tags t rows all.1)
