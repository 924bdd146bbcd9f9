-- Lists of lines, by name: the search applies no lemma over a function.
use Rattle.std.proofs.Common.{◌≡◌, ◌∙◌, ℕ, ◌+◌, ◌<◌, ◌≤◌, List, [], ◌∷◌, ◌++◌, Bor, Option, length, take, drop, refl, sym, ap, subst, append_assoc}
use Rattle.std.proofs.Math.ListN.{get_or}
use Rattle.std.proofs.lemmas.List.{drop_more, drop_all, take_more, take_all, map-append, append-nil}
use Rattle.std.specs.List.{AllZip, flat_map}
use Rattle.std.specs.Prelude.{map}
use Rattle.tdf_bind_ports.specs.Ports.{Known}
use Rattle.tdf_bind_names.specs.Resolved.{instance_of, targets_of}
use Rattle.tdf_bind_names.specs.Signals.{declared_by, IsSignal}
use Rattle.tdf_bind_names.specs.Targets.{name_of_signal, or_first}
use Rattle.tdf_expr_symbols.specs.Names.{Names}
use Rattle.tdf_lang_tree.specs.declared.blocks.Member.{Member}
use Rattle.tdf_lang_tree.specs.declared.blocks.PortLine.{PortLine}
use Rattle.tdf_bind_hierarchy.specs.Blocks.{InstanceOf}
use Rattle.tdf_bind_hierarchy.specs.declared.blocks.SignalLine.{SignalLine}
use Rattle.tdf_bind_hierarchy.specs.declared.blocks.Target.{Target}

-- what is pushed for each line, from a place on
pushed_more : {A B : Type 0} (f : A → List B) (list : List A) (i : ℕ) (d : A) (out : List B) → i < length list
    → out ++ flat_map f (drop i list) ≡ (out ++ f (get_or list i d)) ++ flat_map f (drop (i + 1) list)
pushed_more {A} f list i d out within = ap (λ (l : List A). out ++ flat_map f l) (drop_more list i d within) ∙ sym (append_assoc out _ _)

pushed_all : {A B : Type 0} (f : A → List B) (list : List A) (i : ℕ) (out : List B) → length list ≤ i → out ++ flat_map f (drop i list) ≡ out
pushed_all {A} f list i out past = ap (λ (l : List A). out ++ flat_map f l) (drop_all i list past) ∙ append-nil out

pub names_more : (list : List Member) (i : ℕ) (d : Member) (out : List (List ℕ)) → i < length list
    → out ++ flat_map name_of_signal (drop i list) ≡ (out ++ name_of_signal (get_or list i d)) ++ flat_map name_of_signal (drop (i + 1) list)
names_more = pushed_more name_of_signal

pub names_all : (list : List Member) (i : ℕ) (out : List (List ℕ)) → length list ≤ i → out ++ flat_map name_of_signal (drop i list) ≡ out
names_all = pushed_all name_of_signal

pub ruleset name_laws = (names_more, names_all)

-- instances
pub instances_more : (known : Known) (target : List ℕ → List ℕ → Option Target) (list : List Member) (i : ℕ) (d : Member) (out : List InstanceOf) → i < length list
    → out ++ flat_map (instance_of known target) (drop i list) ≡ (out ++ instance_of known target (get_or list i d)) ++ flat_map (instance_of known target) (drop (i + 1) list)
instances_more known target = pushed_more (instance_of known target)

pub instances_all : (known : Known) (target : List ℕ → List ℕ → Option Target) (list : List Member) (i : ℕ) (out : List InstanceOf) → length list ≤ i
    → out ++ flat_map (instance_of known target) (drop i list) ≡ out
instances_all known target = pushed_all (instance_of known target)

pub ruleset instance_laws = (instances_more, instances_all)

-- targets
pub targets_more : (target : List ℕ → List ℕ → Option Target) (instance : List ℕ) (ports : List (Bor PortLine)) (i : ℕ) (d : Bor PortLine) → i < length ports
    → targets_of target instance (map (λ p. p.now) (take (i + 1) ports)) ≡ targets_of target instance (map (λ p. p.now) (take i ports)) ++ or_first (target instance (get_or ports i d).now.name) ∷ []
targets_more target instance ports i d within =
    ap (λ (l : List (Bor PortLine)). targets_of target instance (map (λ p. p.now) l)) (take_more ports i d within)
    ∙ ap (targets_of target instance) (map-append (λ p. p.now) (take i ports) (get_or ports i d ∷ []))
    ∙ map-append (λ (p : PortLine). or_first (target instance p.name)) (map (λ p. p.now) (take i ports)) ((get_or ports i d).now ∷ [])

pub targets_all : (target : List ℕ → List ℕ → Option Target) (instance : List ℕ) (ports : List (Bor PortLine)) (i : ℕ) → length ports ≤ i
    → targets_of target instance (map (λ p. p.now) (take i ports)) ≡ targets_of target instance (map (λ p. p.now) ports)
targets_all target instance ports i past = ap (λ (l : List (Bor PortLine)). targets_of target instance (map (λ p. p.now) l)) (take_all i ports past)

pub ruleset target_laws = (targets_more, targets_all)

-- signals
pub zip_append : {A B : Type 0} (R : A → B → Type 0) (xs xs' : List A) (ys ys' : List B) → AllZip R xs ys → AllZip R xs' ys' → AllZip R (xs ++ xs') (ys ++ ys')
zip_append R [] xs' [] ys' h k = k
zip_append R [] xs' (y ∷ ys) ys' h k = absurd h
zip_append R (x ∷ xs) xs' [] ys' h k = absurd h
zip_append R (x ∷ xs) xs' (y ∷ ys) ys' h k = (h.0, zip_append R xs xs' ys ys' h.1 k)

pub flat_append : {A B : Type 0} (f : A → List B) (xs ys : List A) → flat_map f (xs ++ ys) ≡ flat_map f xs ++ flat_map f ys
flat_append f [] ys = refl
flat_append f (x ∷ xs) ys = ap (λ l. f x ++ l) (flat_append f xs ys) ∙ sym (append_assoc (f x) _ _)

flat_one : {A B : Type 0} (f : A → List B) (x : A) → flat_map f (x ∷ []) ≡ f x
flat_one f x = append-nil (f x)

pub signals_more : (globals : Names) (list : List Member) (i : ℕ) (d : Member) (out next more : List SignalLine) → i < length list
    → AllZip (IsSignal globals) (flat_map declared_by (take i list)) out → AllZip (IsSignal globals) (declared_by (get_or list i d)) more → next ≡ out ++ more
    → AllZip (IsSignal globals) (flat_map declared_by (take (i + 1) list)) next
signals_more globals list i d out next more within h k is =
    subst (AllZip (IsSignal globals) (flat_map declared_by (take (i + 1) list))) (sym is)
    (subst (λ ds. AllZip (IsSignal globals) ds (out ++ more)) (sym (ap (flat_map declared_by) (take_more list i d within) ∙ flat_append declared_by (take i list) (get_or list i d ∷ []) ∙ ap (λ ds. flat_map declared_by (take i list) ++ ds) (flat_one declared_by (get_or list i d))))
    (zip_append (IsSignal globals) (flat_map declared_by (take i list)) (declared_by (get_or list i d)) out more h k))

pub signals_all : (list : List Member) (i : ℕ) → length list ≤ i → flat_map declared_by (take i list) ≡ flat_map declared_by list
signals_all list i past = ap (flat_map declared_by) (take_all i list past)

pub ruleset signal_laws = (signals_all)
