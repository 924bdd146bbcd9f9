-- Maps and sets by names: what one thing more changes, and lists one longer.
use Rattle.std.proofs.Common.{◌≡◌, ◌∙◌, ℕ, Bool, true, false, cond, ◌||◌, Bor, List, [], ◌∷◌, ◌++◌, Option, Some, None, map, refl, sym, ap}
use Rattle.std.proofs.lemmas.List.{map-append}
use Rattle.std.proofs.lemmas.List.Folds.{list_any-append}
use Rattle.std.specs.Cmp.Lexicographic.{pointwise, same_text}
use Rattle.std.specs.List.{flat_map, list_any}
use Rattle.std.specs.Option.{option_map, option_or}
use Rattle.std.specs.Prelude.{nat_eq, if◌then◌else◌}
use Rattle.tdf_lang_tree.specs.Pure.{PureGlobal, GShape, GTdf, GDe, GNet}
use Rattle.tdf_lang_tree.specs.declared.blocks.Member.{Member}
use Rattle.tdf_lang_tree.specs.declared.blocks.Member.TheVariants as member
use Rattle.tdf_lang_tree.specs.declared.shapes.FormatRef.{FormatRef}
use Rattle.tdf_lang_tree.specs.declared.shapes.FormatRef.TheVariants.{Own, Named}
use Rattle.tdf_lang_tree.specs.declared.shapes.Shape.{Shape}
use Rattle.tdf_stim.specs.Driven.{is_listed}
use Rattle.tdf_stim.specs.Signals.{SignalOf, SourceOf, shape_by, shape_or_count, signal_named, source_of, type_named}
use Rattle.tdf_stim.specs.machine.Maps.{put, source_by, source_of_member, type_of}

or_none : {V : Type 0} (o : Option V) → o ≡ option_or o None
or_none None = refl
or_none (Some x) = refl

pub or_nothing : {V : Type 0} (o : Option V) → option_or o None ≡ o
or_nothing None = refl
or_nothing (Some x) = refl

pub ruleset map_laws = (or_nothing)

-- a name that is there already
pub put_stays : {V : Type 0} (f : List ℕ → Option V) (name other : List ℕ) (value x : V) → f name ≡ Some x → f other ≡ put name value other (f other)
put_stays f name other value x is = by (pointwise nat_eq name other) refl
  where
    by : (b : Bool) → pointwise nat_eq name other ≡ b → f other ≡ option_or (f other) (cond b (Some value) None)
    by false e = or_none (f other)
    by true e =
        let there : f other ≡ Some x = ap f (sym (same_text name other (sym e))) ∙ is in
        there ∙ sym (ap (λ o. option_or o (Some value)) there)

-- a name that is new
pub put_adds : {V : Type 0} (f : List ℕ → Option V) (new : Option V) (name other : List ℕ) (value : V) → f name ≡ None
    → new ≡ cond (pointwise nat_eq name other) (Some value) (f other) → new ≡ put name value other (f other)
put_adds f new name other value absent is = is ∙ by (pointwise nat_eq name other) refl
  where
    by : (b : Bool) → pointwise nat_eq name other ≡ b → cond b (Some value) (f other) ≡ option_or (f other) (cond b (Some value) None)
    by false e = or_none (f other)
    by true e =
        let there : f other ≡ None = ap f (sym (same_text name other (sym e))) ∙ absent in
        sym (ap (λ o. option_or o (Some value)) there)

-- ---- types

first_or : {V : Type 0} (b : Bool) (v : V) (rest more last : Option V) → more ≡ option_or rest last
    → (if b then Some v else more) ≡ option_or (if b then Some v else rest) last
first_or true v rest more last e = refl
first_or false v rest more last e = e

type_one : (g : PureGlobal) (name : List ℕ) → type_named (g ∷ []) name ≡ type_of name g
type_one (GShape shape) name = refl
type_one (GTdf block) name = refl
type_one (GDe block) name = refl
type_one (GNet block) name = refl

pub type_push : (gs : List PureGlobal) (g : PureGlobal) (name : List ℕ) → type_named (gs ++ g ∷ []) name ≡ option_or (type_named gs name) (type_of name g)
type_push [] g name = type_one g name
type_push (GShape shape ∷ gs) g name =
    first_or (pointwise nat_eq shape.name name) shape.shape (type_named gs name) (type_named (gs ++ g ∷ []) name) (type_of name g) (type_push gs g name)
type_push (GTdf block ∷ gs) g name = type_push gs g name
type_push (GDe block ∷ gs) g name = type_push gs g name
type_push (GNet block ∷ gs) g name = type_push gs g name

pub shape_same : (f g : List ℕ → Option Shape) → ((name : List ℕ) → f name ≡ g name) → (format : FormatRef) → shape_by f format ≡ shape_by g format
shape_same f g same (Own shape) = refl
shape_same f g same (Named name) = ap shape_or_count (same name)

-- ---- event signals

signal_of : (label : List ℕ) → Member → Option SignalOf
signal_of label m = signal_named (m ∷ []) label

signal_push : (ms : List Member) (m : Member) (label : List ℕ) → signal_named (ms ++ m ∷ []) label ≡ option_or (signal_named ms label) (signal_named (m ∷ []) label)
signal_push [] m label = refl
signal_push (member.Port port ∷ ms) m label = signal_push ms m label
signal_push (member.Signal line name format ∷ ms) m label = signal_push ms m label
signal_push (member.DeSignal line name format start ∷ ms) m label =
    first_or (pointwise nat_eq name label) (record { format = format; start = start }) (signal_named ms label) (signal_named (ms ++ m ∷ []) label) (signal_named (m ∷ []) label) (signal_push ms m label)
signal_push (member.Instance line name block ∷ ms) m label = signal_push ms m label
signal_push (member.Bind line instance port target ∷ ms) m label = signal_push ms m label

map_or : {A B : Type 0} (f : A → B) (a b : Option A) → option_map f (option_or a b) ≡ option_or (option_map f a) (option_map f b)
map_or f None b = refl
map_or f (Some x) b = refl

map_if : {A B : Type 0} (f : A → B) (b : Bool) (x : A) → option_map f (if b then Some x else None) ≡ cond b (Some (f x)) None
map_if f true x = refl
map_if f false x = refl

source_one : (type : List ℕ → Option Shape) (m : Member) (label : List ℕ) → option_map (source_of (shape_by type) label) (signal_named (m ∷ []) label) ≡ source_of_member type label m
source_one type (member.Port port) label = refl
source_one type (member.Signal line name format) label = refl
source_one type (member.DeSignal line name format start) label =
    map_if (source_of (shape_by type) label) (pointwise nat_eq name label) (record { format = format; start = start })
source_one type (member.Instance line name block) label = refl
source_one type (member.Bind line instance port target) label = refl

pub source_push : (type : List ℕ → Option Shape) (ms : List Member) (m : Member) (label : List ℕ)
    → source_by type (ms ++ m ∷ []) label ≡ option_or (source_by type ms label) (source_of_member type label m)
source_push type ms m label =
    ap (option_map (source_of (shape_by type) label)) (signal_push ms m label)
    ∙ map_or (source_of (shape_by type) label) (signal_named ms label) (signal_named (m ∷ []) label)
    ∙ ap (option_or (source_by type ms label)) (source_one type m label)

-- the sources by another way to say the same types
pub source_same : (f g : List ℕ → Option Shape) → ((name : List ℕ) → f name ≡ g name) → (ms : List Member) (label : List ℕ) → source_by f ms label ≡ source_by g ms label
source_same f g same ms label = by (signal_named ms label)
  where
    by : (o : Option SignalOf) → option_map (source_of (shape_by f) label) o ≡ option_map (source_of (shape_by g) label) o
    by None = refl
    by (Some s) = ap (λ shape. Some (record { label = label; shape = shape; start = s.start })) (shape_same f g same s.format)

-- what a signal is for a label, after one was put
pub source_cond : {A : Type 0} (f : A → SourceOf) (b : Bool) (x : A) (o : Option A) → option_map f (cond b (Some x) o) ≡ cond b (Some (f x)) (option_map f o)
source_cond f true x o = refl
source_cond f false x o = refl

-- ---- names in use

pub any_map : {A B : Type 0} (f : A → B) (p : B → Bool) (xs : List A) → list_any (λ x. p (f x)) xs ≡ list_any p (map f xs)
any_map f p [] = refl
any_map f p (x ∷ xs) = ap (λ b. p (f x) || b) (any_map f p xs)

or_last : (a b : Bool) → (a || (b || false)) ≡ (a || b)
or_last true b = refl
or_last false true = refl
or_last false false = refl

or_assoc : (a b c : Bool) → ((a || b) || c) ≡ (a || (b || c))
or_assoc true b c = refl
or_assoc false b c = refl

or_there : (a b : Bool) → (b ≡ true → a ≡ true) → a ≡ (a || b)
or_there true b h = refl
or_there false true h = h refl
or_there false false h = refl

there_too : (keys : List (Bor (List ℕ))) (name other : List ℕ) → list_any (λ k. pointwise nat_eq name k.now) keys ≡ true → pointwise nat_eq other name ≡ true
    → list_any (λ k. pointwise nat_eq other k.now) keys ≡ true
there_too keys name other is same = ap (λ n. list_any (λ k. pointwise nat_eq n k.now) keys) (same_text other name (sym same)) ∙ is

-- one name more
pub added_key : (keys new : List (Bor (List ℕ))) (name : Bor (List ℕ)) (other : List ℕ)
    → new ≡ (if list_any (λ k. pointwise nat_eq name.now k.now) keys then keys else keys ++ name ∷ [])
    → list_any (λ k. pointwise nat_eq other k.now) new ≡ (list_any (λ k. pointwise nat_eq other k.now) keys || pointwise nat_eq other name.now)
added_key keys new name other is = ap (list_any (λ k. pointwise nat_eq other k.now)) is ∙ by (list_any (λ k. pointwise nat_eq name.now k.now) keys) refl
  where
    by : (b : Bool) → list_any (λ k. pointwise nat_eq name.now k.now) keys ≡ b
        → list_any (λ k. pointwise nat_eq other k.now) (if b then keys else keys ++ name ∷ [])
        ≡ (list_any (λ k. pointwise nat_eq other k.now) keys || pointwise nat_eq other name.now)
    by true there = or_there _ (pointwise nat_eq other name.now) (λ same. there_too keys name.now other there same)
    by false absent = list_any-append (λ (k : Bor (List ℕ)). pointwise nat_eq other k.now) keys (name ∷ [])
        ∙ or_last (list_any (λ k. pointwise nat_eq other k.now) keys) (pointwise nat_eq other name.now)

-- a list of names one longer
pub in_push : {A : Type 0} (f : A → List ℕ) (xs : List A) (x : A) (other : List ℕ) (held : Bool)
    → ((held || is_listed (map f xs) other) || pointwise nat_eq other (f x)) ≡ (held || is_listed (map f (xs ++ x ∷ [])) other)
in_push f xs x other held =
    or_assoc held (is_listed (map f xs) other) (pointwise nat_eq other (f x))
    ∙ ap (λ b. held || b) (sym (ap (λ l. is_listed l other) (map-append f xs (x ∷ []))
    ∙ list_any-append (pointwise nat_eq other) (map f xs) (f x ∷ []) ∙ or_last (is_listed (map f xs) other) (pointwise nat_eq other (f x))))

flat_append : {A : Type 0} (f : A → List (List ℕ)) (xs : List A) (x : A) (other : List ℕ) → is_listed (flat_map f (xs ++ x ∷ [])) other ≡ (is_listed (flat_map f xs) other || is_listed (f x) other)
flat_append f [] x other = list_any-append (pointwise nat_eq other) (f x) [] ∙ or_nil (is_listed (f x) other)
  where
    or_nil : (b : Bool) → (b || false) ≡ b
    or_nil true = refl
    or_nil false = refl
flat_append f (y ∷ xs) x other =
    list_any-append (pointwise nat_eq other) (f y) (flat_map f (xs ++ x ∷ []))
    ∙ ap (λ b. is_listed (f y) other || b) (flat_append f xs x other)
    ∙ sym (or_assoc (is_listed (f y) other) (is_listed (flat_map f xs) other) (is_listed (f x) other))
    ∙ ap (λ b. b || is_listed (f x) other) (sym (list_any-append (pointwise nat_eq other) (f y) (flat_map f xs)))

pub in_flat_push : {A : Type 0} (f : A → List (List ℕ)) (xs : List A) (x : A) (other : List ℕ) (held : Bool)
    → ((held || is_listed (flat_map f xs) other) || is_listed (f x) other) ≡ (held || is_listed (flat_map f (xs ++ x ∷ [])) other)
in_flat_push f xs x other held =
    or_assoc held (is_listed (flat_map f xs) other) (is_listed (f x) other) ∙ ap (λ b. held || b) (sym (flat_append f xs x other))

pub or_false : (b : Bool) → b ≡ (b || false)
or_false true = refl
or_false false = refl

pub in_both : (xs ys : List (List ℕ)) (other : List ℕ) → is_listed (xs ++ ys) other ≡ (is_listed xs other || is_listed ys other)
in_both xs ys other = list_any-append (pointwise nat_eq other) xs ys
