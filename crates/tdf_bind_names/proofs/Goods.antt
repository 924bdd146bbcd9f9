-- Lines without a fault bind each port to a signal or a port of the composite.
use Rattle.std.proofs.Common.{◌≡◌, ◌∙◌, ◌⊎◌, inl, inr, ℕ, zero, suc, ◌+◌, ◌<◌, Bool, true, false, List, [], ◌∷◌, ◌++◌, Option, Some, None, length, refl, sym, ap, subst, arith}
use Rattle.std.proofs.lemmas.Bool.Decides.{nat_tests}
use Rattle.std.proofs.lemmas.List.{length_push, length-map, map-append}
use Rattle.std.proofs.lemmas.List.Quantifiers.{position-Some}
use Rattle.std.proofs.lemmas.List.Folds.{list_any-append}
use Rattle.std.specs.Cmp.Lexicographic.{pointwise}
use Rattle.std.specs.List.{flat_map, list_any, prefix_len, AllByRecursion}
use Rattle.std.specs.Prelude.{map, nat_eq, nat_lt, not, cond, slice_get, ◌||◌, ◌&&◌, if◌then◌else◌}
use Rattle.tdf_bind_ports.proofs.Api.{place_push}
use Rattle.tdf_bind_ports.specs.Agree.{agrees, fits, has_same_format}
use Rattle.tdf_bind_ports.specs.Faults.{Wrong, UnknownPort, TwiceBound, Mismatch, Unbound, link_fault_if}
use Rattle.tdf_bind_ports.specs.Links.{Around, bind_faults, binds_faults, first_free, is_bound, port_link_faults, port_around, unbound_faults}
use Rattle.tdf_bind_ports.specs.Ports.{port_of_member}
use Rattle.tdf_bind_names.specs.Targets.{Inside, inside_of, name_of_signal, own_or_outer, target_after, target_from, target_named}
use Rattle.tdf_expr_symbols.specs.Names as names
use Rattle.tdf_expr_symbols.specs.Names.{Names, Thing, found_at, format_of, kind_of, no_names, place_in, shape_of, thing_of, with_member, with_members, with_name}
use Rattle.tdf_expr_symbols.specs.Scope.{first_some}
use Rattle.tdf_lang_tree.specs.declared.blocks.Member.{Member}
use Rattle.tdf_lang_tree.specs.declared.blocks.Member.TheVariants as member
use Rattle.tdf_lang_tree.specs.declared.blocks.PortKind.{PortKind}
use Rattle.tdf_lang_tree.specs.declared.blocks.PortLine.{PortLine}
use Rattle.tdf_lang_tree.specs.declared.stmt.Limit.TheVariants as limit
use Rattle.tdf_bind_hierarchy.specs.declared.blocks.Target.{Target}
use Rattle.tdf_bind_hierarchy.specs.declared.blocks.Target.TheVariants.{Own, Outer}

-- lists without an item
pub none_first : {A : Type 0} (xs ys : List A) → xs ++ ys ≡ [] → xs ≡ []
none_first [] ys e = refl
none_first (x ∷ xs) ys e = cc

pub none_second : {A : Type 0} (xs ys : List A) → xs ++ ys ≡ [] → ys ≡ []
none_second [] ys e = e
none_second (x ∷ xs) ys e = cc

if_none : (is : Bool) (wrong : Wrong) (line : ℕ) → link_fault_if is wrong line ≡ [] → is ≡ false
unfolding link_fault_if
if_none false wrong line e = refl
if_none true wrong line e = cc

not_false : (b : Bool) → not b ≡ false → b ≡ true
not_false true e = refl
not_false false e = cc

and_first : (a b : Bool) → a && b ≡ true → a ≡ true
and_first true b e = refl
and_first false b e = cc

-- a name that is in a list has a place in it
placed_back : (n len : ℕ) → cond (nat_lt (1 + n) (suc len)) (Some (1 + n)) None ≡ None → cond (nat_lt n len) (Some n) None ≡ None
placed_back n len e = grind (arith, nat_tests)

not_first : (b more : Bool) (n len : ℕ) → (cond (nat_lt n len) (Some n) None ≡ None → more ≡ false)
    → cond (nat_lt (cond (not b) (1 + n) 0) (suc len)) (Some (cond (not b) (1 + n) 0)) None ≡ None → b || more ≡ false
not_first true more n len ih e = absurd (zero_in len e)
  where
    zero_in : (len : ℕ) → cond {A = Option ℕ} (nat_lt 0 (suc len)) (Some 0) None ≡ None → ⊥
    zero_in len e = grind (arith, nat_tests)
not_first false more n len ih e = ih (placed_back n len e)

not_any : (name : List ℕ) (xs : List (List ℕ)) → place_in xs name ≡ None → list_any (pointwise nat_eq name) xs ≡ false
not_any name [] e = refl
not_any name (x ∷ xs) e = not_first (pointwise nat_eq name x) (list_any (pointwise nat_eq name) xs) (prefix_len (λ y. not (pointwise nat_eq name y)) xs) (length xs) (not_any name xs) e

pub is_placed : (name : List ℕ) (xs : List (List ℕ)) → list_any (pointwise nat_eq name) xs ≡ true → (k : ℕ) × (place_in xs name ≡ Some k) × (k < length xs)
is_placed name xs any = go (place_in xs name) refl
  where
    go : (o : Option ℕ) → place_in xs name ≡ o → (k : ℕ) × (place_in xs name ≡ Some k) × (k < length xs)
    go None e = let f : false ≡ true = sym (not_any name xs e) ∙ any in cc
    go (Some k) e = (k, e, (position-Some (pointwise nat_eq name) xs k [] e).0)

-- lists and one more
pub get_left : {A : Type 0} (xs ys : List A) (k : ℕ) → k < length xs → slice_get (xs ++ ys) k ≡ slice_get xs k
get_left [] ys k within = absurd (omega (arith, within))
get_left (x ∷ xs) ys zero within = refl
get_left (x ∷ xs) ys (suc k) within = get_left xs ys k (omega (arith, within))

get_at : {A : Type 0} (xs ys : List A) (x : A) → slice_get (xs ++ x ∷ ys) (length xs) ≡ Some x
get_at [] ys x = refl
get_at (z ∷ xs) ys x = get_at xs ys x

or_true : (b : Bool) → b || true ≡ true
or_true true = refl
or_true false = refl

any_right : (p : List ℕ → Bool) (xs ys : List (List ℕ)) → list_any p ys ≡ true → list_any p (xs ++ ys) ≡ true
any_right p xs ys any = list_any-append p xs ys ∙ ap (λ b. list_any p xs || b) any ∙ or_true (list_any p xs)

-- what a name of a composite stands for is declared by one of its lines
abbrev declared_as : Thing → List Member → List ℕ → Type 0
declared_as (names.Signal shape) ms name = list_any (pointwise nat_eq name) (flat_map name_of_signal ms) ≡ true
declared_as (names.DeSignal shape start) ms name = list_any (pointwise nat_eq name) (flat_map name_of_signal ms) ≡ true
declared_as (names.Port word shape rate delay) ms name = list_any (pointwise nat_eq name) (map (λ p. p.name) (flat_map port_of_member ms)) ≡ true
declared_as _ ms name = Unit {0}

declared_later : (x : Thing) (m : Member) (ms : List Member) (name : List ℕ) → declared_as x ms name → declared_as x (m ∷ ms) name
declared_later (names.Signal shape) m ms name is = any_right (pointwise nat_eq name) (name_of_signal m) (flat_map name_of_signal ms) is
declared_later (names.DeSignal shape start) m ms name is = any_right (pointwise nat_eq name) (name_of_signal m) (flat_map name_of_signal ms) is
declared_later (names.Port word shape rate delay) m ms name is =
    ap (list_any (pointwise nat_eq name)) (map-append (λ p. p.name) (port_of_member m) (flat_map port_of_member ms))
    ∙ any_right (pointwise nat_eq name) (map (λ p. p.name) (port_of_member m)) (map (λ p. p.name) (flat_map port_of_member ms)) is
declared_later (names.Const shape value) m ms name is = tt
declared_later (names.Var shape start) m ms name is = tt
declared_later (names.Array shape size starts) m ms name is = tt
declared_later (names.RateVar least greatest start) m ms name is = tt
declared_later names.Event m ms name is = tt
declared_later names.Instance m ms name is = tt
declared_later (names.Loop from end) m ms name is = tt
declared_later (names.TypeName shape) m ms name is = tt
declared_later names.Tdf m ms name is = tt
declared_later names.De m ms name is = tt
declared_later names.Composite m ms name is = tt

-- a declaration more
pub record IsEven (s : Names) : Type 0 where
  pub long : length s.names ≡ length s.things

even_if : (b : Bool) (name : List ℕ) (thing : Thing) (s : Names) → IsEven s
    → IsEven (if b then s else record { names = s.names ++ name ∷ []; things = s.things ++ thing ∷ [] })
even_if true name thing s even = even
even_if false name thing s even = record { long = length_push s.names name ∙ ap (λ n. n + 1) even.long ∙ sym (length_push s.things thing) }

even_after : (name : List ℕ) (thing : Thing) (s : Names) → IsEven s → IsEven (with_name name thing s)
unfolding with_name
even_after name thing s even = even_if (list_any (pointwise nat_eq name) s.names) name thing s even

at_more : (things : List Thing) (thing x : Thing) (len : ℕ) (o : Option ℕ) (b : Bool) → len ≡ length things → ((k : ℕ) → o ≡ Some k → k < len)
    → found_at (things ++ thing ∷ []) (first_some o (if b then Some len else None)) ≡ Some x → (found_at things o ≡ Some x) ⊎ ((b ≡ true) × (thing ≡ x))
at_more things thing x len (Some k) b same within e = inl (sym (get_left things (thing ∷ []) k (subst (λ n. k < n) same (within k refl))) ∙ e)
at_more things thing x len None true same within e =
    let f : Some thing ≡ Some x = sym (ap (slice_get (things ++ thing ∷ [])) same ∙ get_at things [] thing) ∙ e in
    inr (refl, cc)
at_more things thing x len None false same within e = cc

place_within : (ns : List (List ℕ)) (name : List ℕ) (k : ℕ) → place_in ns name ≡ Some k → k < length ns
place_within ns name k e = (position-Some (pointwise nat_eq name) ns k [] e).0

thing_if : (b : Bool) (name t : List ℕ) (thing x : Thing) (s : Names) → IsEven s
    → thing_of (if b then s else record { names = s.names ++ name ∷ []; things = s.things ++ thing ∷ [] }) t ≡ Some x
    → (thing_of s t ≡ Some x) ⊎ ((pointwise nat_eq t name ≡ true) × (thing ≡ x))
thing_if true name t thing x s even e = inl e
thing_if false name t thing x s even e =
    at_more s.things thing x (length s.names) (place_in s.names t) (pointwise nat_eq t name) even.long (place_within s.names t)
    (ap (found_at (s.things ++ thing ∷ [])) (sym (place_push s.names name t)) ∙ e)

thing_after : (name t : List ℕ) (thing x : Thing) (s : Names) → IsEven s → thing_of (with_name name thing s) t ≡ Some x
    → (thing_of s t ≡ Some x) ⊎ ((pointwise nat_eq t name ≡ true) × (thing ≡ x))
unfolding with_name
thing_after name t thing x s even e = thing_if (list_any (pointwise nat_eq name) s.names) name t thing x s even e

even_member : (globals : Names) (m : Member) (s : Names) → IsEven s → IsEven (with_member globals m s)
even_member globals (member.Port port) s even = even_after port.name _ s even
even_member globals (member.Signal line name x) s even = even_after name _ s even
even_member globals (member.DeSignal line name x start) s even = even_after name _ s even
even_member globals (member.Instance line name block) s even = even_after name _ s even
even_member globals (member.Bind line i p t) s even = even

or_here : {A : Type 0} (x : Thing) (m : Member) (ms : List Member) (t : List ℕ) (thing : Thing) (b : Bool) → (b ≡ true → declared_as thing (m ∷ ms) t) → A ⊎ ((b ≡ true) × (thing ≡ x)) → A ⊎ declared_as x (m ∷ ms) t
or_here x m ms t thing b here (inl a) = inl a
or_here x m ms t thing b here (inr is) = inr (subst (λ y. declared_as y (m ∷ ms) t) is.1 (here is.0))

declared_first : (globals : Names) (m : Member) (ms : List Member) (s : Names) (t : List ℕ) (x : Thing) → IsEven s → thing_of (with_member globals m s) t ≡ Some x
    → (thing_of s t ≡ Some x) ⊎ declared_as x (m ∷ ms) t
declared_first globals (member.Port port) ms s t x even e =
    or_here x (member.Port port) ms t (names.Port port.kind (format_of globals port.format) (limit.Int 1) 0) (pointwise nat_eq t port.name)
    (λ is. ap (λ b. b || list_any (pointwise nat_eq t) (map (λ p. p.name) (flat_map port_of_member ms))) is) (thing_after port.name t _ x s even e)
declared_first globals (member.Signal line name y) ms s t x even e =
    or_here x (member.Signal line name y) ms t (names.Signal (format_of globals y)) (pointwise nat_eq t name)
    (λ is. ap (λ b. b || list_any (pointwise nat_eq t) (flat_map name_of_signal ms)) is) (thing_after name t _ x s even e)
declared_first globals (member.DeSignal line name y start) ms s t x even e =
    or_here x (member.DeSignal line name y start) ms t (names.DeSignal (format_of globals y) start) (pointwise nat_eq t name)
    (λ is. ap (λ b. b || list_any (pointwise nat_eq t) (flat_map name_of_signal ms)) is) (thing_after name t _ x s even e)
declared_first globals (member.Instance line name block) ms s t x even e =
    or_here x (member.Instance line name block) ms t names.Instance (pointwise nat_eq t name) (λ is. tt) (thing_after name t _ x s even e)
declared_first globals (member.Bind line i p target) ms s t x even e = inl e

members_declare : (globals : Names) (ms : List Member) (s : Names) (t : List ℕ) (x : Thing) → IsEven s → thing_of (with_members globals ms s) t ≡ Some x
    → (thing_of s t ≡ Some x) ⊎ declared_as x ms t
unfolding with_members
members_declare globals [] s t x even e = inl e
members_declare globals (m ∷ ms) s t x even e = elim (members_declare globals ms (with_member globals m s) t x (even_member globals m s even) e) [ inl first ↦ declared_first globals m ms s t x even first | inr later ↦ inr (declared_later x m ms t later) ]

pub is_declared : (globals : Names) (ms : List Member) (t : List ℕ) (x : Thing) → thing_of (with_members globals ms no_names) t ≡ Some x → declared_as x ms t
is_declared globals ms t x e = elim (members_declare globals ms no_names t x (record { long = refl }) e) [ inl none ↦ cc | inr is ↦ is ]

abbrev pub IsWithin : Inside → Target → Type 0
IsWithin inside (Own k) = k < length inside.signals
IsWithin inside (Outer k) = k < length inside.ports

-- a target that is there, within a block of this many signals and ports
pub record HasTarget (inside : Inside) (t : List ℕ) : Type 0 where
  pub target : Target
  pub named : target_named inside t ≡ Some target
  pub within : IsWithin inside target

has_signal : (inside : Inside) (t : List ℕ) → list_any (pointwise nat_eq t) inside.signals ≡ true → HasTarget inside t
has_signal inside t any =
    let k = is_placed t inside.signals any in
    record { target = Own k.0; named = ap (λ o. own_or_outer o (place_in (map (λ p. p.name) inside.ports) t)) k.1; within = k.2 }

has_port : (inside : Inside) (t : List ℕ) → list_any (pointwise nat_eq t) (map (λ p. p.name) inside.ports) ≡ true → HasTarget inside t
has_port inside t any = go (place_in inside.signals t) refl
  where
    go : (o : Option ℕ) → place_in inside.signals t ≡ o → HasTarget inside t
    go (Some j) e = record { target = Own j; named = ap (λ o. own_or_outer o (place_in (map (λ p. p.name) inside.ports) t)) e; within = place_within inside.signals t j e }
    go None e =
        let k = is_placed t (map (λ p. p.name) inside.ports) any in
        record {
          target = Outer k.0;
          named = ap (λ o. own_or_outer o (place_in (map (λ p. p.name) inside.ports) t)) e ∙ ap (own_or_outer None) k.1;
          within = subst (λ n. k.0 < n) (length-map inside.ports (λ p. p.name)) k.2;
        }

has_target : (ms : List Member) (t : List ℕ) (w : PortKind) (x : Thing) → fits w (kind_of x) ≡ true → declared_as x ms t → HasTarget (inside_of ms) t
has_target ms t w (names.Signal shape) fit is = has_signal (inside_of ms) t is
has_target ms t w (names.DeSignal shape start) fit is = has_signal (inside_of ms) t is
has_target ms t w (names.Port word shape rate delay) fit is = has_port (inside_of ms) t is
has_target ms t w (names.Const shape value) fit is = cc
has_target ms t w (names.Var shape start) fit is = cc
has_target ms t w (names.Array shape size starts) fit is = cc
has_target ms t w (names.RateVar least greatest start) fit is = cc
has_target ms t w names.Event fit is = cc
has_target ms t w names.Instance fit is = cc
has_target ms t w (names.Loop from end) fit is = cc
has_target ms t w (names.TypeName shape) fit is = cc
has_target ms t w names.Tdf fit is = cc
has_target ms t w names.De fit is = cc
has_target ms t w names.Composite fit is = cc

-- a `bind` line without a fault binds to a target that is there
abbrev pub BindsWell : List Member → Member → Type 0
BindsWell ms (member.Bind line i p t) = HasTarget (inside_of ms) t
BindsWell ms _ = Unit {0}

agreed : (globals : Names) (ms : List Member) (t : List ℕ) (port : PortLine) (o : Option Thing) → thing_of (with_members globals ms no_names) t ≡ o → agrees globals port o ≡ true → HasTarget (inside_of ms) t
agreed globals ms t port None e fit = cc
agreed globals ms t port (Some x) e fit = has_target ms t port.kind x (and_first (fits port.kind (kind_of x)) (has_same_format (format_of globals port.format) (shape_of x)) fit) (is_declared globals ms t x e)

well_bound : (globals : Names) (ms : List Member) (line : ℕ) (again : Bool) (t : List ℕ) (port : Option PortLine)
    → port_link_faults globals line again (thing_of (with_members globals ms no_names) t) port ≡ [] → HasTarget (inside_of ms) t
well_bound globals ms line again t None e = let f : true ≡ false = if_none true UnknownPort line e in cc
well_bound globals ms line again t (Some port) e =
    agreed globals ms t port (thing_of (with_members globals ms no_names) t) refl
    (not_false _ (if_none _ Mismatch line (none_second (link_fault_if again TwiceBound line) _ e)))

binds_well : (around : Around) (ms : List Member) (f : List ℕ → List ℕ → Bool) (m : Member) → around.own ≡ with_members around.globals ms no_names → bind_faults around f m ≡ [] → BindsWell ms m
unfolding bind_faults
binds_well around ms f (member.Bind line i p t) own e =
    well_bound around.globals ms line (f i p) t (port_around around i p) (subst (λ s. port_link_faults around.globals line (f i p) (thing_of s t) (port_around around i p) ≡ []) own e)
binds_well around ms f (member.Port port) own e = tt
binds_well around ms f (member.Signal line name x) own e = tt
binds_well around ms f (member.DeSignal line name x start) own e = tt
binds_well around ms f (member.Instance line name block) own e = tt

pub all_bind_well : (around : Around) (all earlier ms : List Member) → around.own ≡ with_members around.globals all no_names → binds_faults around earlier ms ≡ [] → AllByRecursion (BindsWell all) ms
unfolding binds_faults
all_bind_well around all earlier [] own e = tt
all_bind_well around all earlier (m ∷ ms) own e = (
  binds_well around all (is_bound earlier) m own (none_first _ _ e),
  all_bind_well around all (earlier ++ m ∷ []) ms own (none_second (bind_faults around (is_bound earlier) m) _ e),
)

-- so a port that some line binds has a target
pub record IsTargeted (inside : Inside) (o : Option Target) : Type 0 where
  pub target : Target
  pub is : o ≡ Some target
  pub within : IsWithin inside target

targeted_if : (inside : Inside) (t : List ℕ) (b : Bool) (before : Option Target) → HasTarget inside t → IsTargeted inside before ⊎ (b ≡ true)
    → IsTargeted inside (if b then first_some (target_named inside t) before else before)
targeted_if inside t true before has are = record { target = has.target; is = ap (λ o. first_some o before) has.named; within = has.within }
targeted_if inside t false before has (inl is) = is
targeted_if inside t false before has (inr e) = cc

pub targeted : (all ms : List Member) (i p : List ℕ) (before : Option Target) → AllByRecursion (BindsWell all) ms → IsTargeted (inside_of all) before ⊎ (is_bound ms i p ≡ true)
    → IsTargeted (inside_of all) (target_from (inside_of all) i p before ms)
unfolding target_after
targeted all [] i p before well (inl is) = is
targeted all [] i p before well (inr e) = cc
targeted all (member.Bind line j q t ∷ ms) i p before well are =
    targeted all ms i p (if pointwise nat_eq i j && pointwise nat_eq p q then first_some (target_named (inside_of all) t) before else before) well.1
    (go (pointwise nat_eq i j && pointwise nat_eq p q) are)
  where
    go : (b : Bool) → IsTargeted (inside_of all) before ⊎ (b || is_bound ms i p ≡ true)
        → IsTargeted (inside_of all) (if b then first_some (target_named (inside_of all) t) before else before) ⊎ (is_bound ms i p ≡ true)
    go true are = inl (targeted_if (inside_of all) t true before well.0 (inr refl))
    go false are = are
targeted all (member.Port port ∷ ms) i p before well are = targeted all ms i p before well.1 are
targeted all (member.Signal line name x ∷ ms) i p before well are = targeted all ms i p before well.1 are
targeted all (member.DeSignal line name x start ∷ ms) i p before well are = targeted all ms i p before well.1 are
targeted all (member.Instance line name block ∷ ms) i p before well are = targeted all ms i p before well.1 are

-- an `instance` line without a fault has all its ports bound
pub all_bound : (f : List ℕ → List ℕ → Bool) (line : ℕ) (instance : List ℕ) (ports : List PortLine) → unbound_faults line (first_free f instance ports) ≡ [] → AllByRecursion (λ p. f instance p.name ≡ true) ports
all_bound f line instance [] e = tt
all_bound f line instance (p ∷ ps) e = go (f instance p.name) refl e (all_bound f line instance ps)
  where
    go : (b : Bool) → f instance p.name ≡ b → unbound_faults line (cond (not b) (Some p) (first_free f instance ps)) ≡ []
        → (unbound_faults line (first_free f instance ps) ≡ [] → AllByRecursion (λ p. f instance p.name ≡ true) ps)
        → (f instance p.name ≡ true) × AllByRecursion (λ p. f instance p.name ≡ true) ps
    go true is e ih = (is, ih e)
    go false is e ih = let g : true ≡ false = if_none true (Unbound p.name) line e in cc
