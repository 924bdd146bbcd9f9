-- The first of faults, piece by piece.
use Rattle.std.proofs.Common.{◌≡◌, ◌∙◌, ℕ, ◌+◌, ◌<◌, ◌≤◌, Bool, true, false, List, [], ◌∷◌, ◌++◌, Bor, Option, Some, None, length, drop, refl, ap}
use Rattle.std.proofs.Math.ListN.{get_or}
use Rattle.std.proofs.lemmas.List.{drop_more, drop_all}
use Rattle.std.specs.List.{flat_map}
use Rattle.std.specs.Prelude.{map}
use Rattle.tdf_bind_ports.specs.Faults.{LinkFault, Wrong, lesser_link, least_link_with, link_noted, link_fault_if}
use Rattle.tdf_bind_ports.specs.Links.{Around, bind_faults, first_free, global_link_faults, globals_link_faults, instance_faults}
use Rattle.tdf_bind_ports.specs.Ports.{Known, known_after, known_after_all}
use Rattle.tdf_bind_ports.specs.machine.Pairs.{has_pair, later, pairs_after, pairs_after_all}
use Rattle.tdf_expr_symbols.specs.Names.{Names}
use Rattle.tdf_lang_tree.specs.Views.{pure_global}
use Rattle.tdf_lang_tree.specs.declared.blocks.Member.{Member}
use Rattle.tdf_lang_tree.specs.declared.blocks.PortLine.{PortLine}
use Rattle.tdf_lang_tree.specs.declared.tree.Global1.{Global1}

pub least_none : (first : Option LinkFault) → least_link_with first [] ≡ first
unfolding least_link_with
least_none first = refl

pub least_append : (first : Option LinkFault) (xs ys : List LinkFault) → least_link_with first (xs ++ ys) ≡ least_link_with (least_link_with first xs) ys
unfolding least_link_with
least_append first [] ys = refl
least_append first (x ∷ xs) ys = least_append (lesser_link first x) xs ys

pub least_if : (is : Bool) (wrong : Wrong) (line : ℕ) (first : Option LinkFault) → least_link_with first (link_fault_if is wrong line) ≡ link_noted is wrong line first
unfolding least_link_with link_noted link_fault_if
least_if true wrong line first = refl
least_if false wrong line first = refl

pub ruleset least_laws = (least_none, least_append, least_if)

-- the first port that is free, from a place on
pub free_none : (bound : (instance port : List ℕ) → Bool) (instance : List ℕ) (ports : List (Bor PortLine)) (i : ℕ) → length ports ≤ i
    → first_free bound instance (map (λ p. p.now) (drop i ports)) ≡ None
free_none bound instance ports i past = ap (λ (l : List (Bor PortLine)). first_free bound instance (map (λ p. p.now) l)) (drop_all i ports past)

pub free_here : (bound : (instance port : List ℕ) → Bool) (instance : List ℕ) (ports : List (Bor PortLine)) (i : ℕ) (d : Bor PortLine) → i < length ports
    → bound instance (get_or ports i d).now.name ≡ false
    → first_free bound instance (map (λ p. p.now) (drop i ports)) ≡ Some (get_or ports i d).now
free_here bound instance ports i d within free =
    ap (λ (l : List (Bor PortLine)). first_free bound instance (map (λ p. p.now) l)) (drop_more ports i d within)
    ∙ rw free refl

pub free_later : (bound : (instance port : List ℕ) → Bool) (instance : List ℕ) (ports : List (Bor PortLine)) (i : ℕ) (d : Bor PortLine) → i < length ports
    → bound instance (get_or ports i d).now.name ≡ true
    → first_free bound instance (map (λ p. p.now) (drop i ports)) ≡ first_free bound instance (map (λ p. p.now) (drop (i + 1) ports))
free_later bound instance ports i d within taken =
    ap (λ (l : List (Bor PortLine)). first_free bound instance (map (λ p. p.now) l)) (drop_more ports i d within)
    ∙ rw taken refl

pub ruleset free_laws = (free_none, free_here, free_later)

-- lines one after another
pub later_more : (around : Around) (pairs : List (List ℕ × List ℕ)) (list : List Member) (i : ℕ) (d : Member) (first : Option LinkFault) → i < length list
    → least_link_with first (later around pairs (drop i list))
    ≡ least_link_with (least_link_with first (bind_faults around (has_pair pairs) (get_or list i d))) (later around (pairs_after (get_or list i d) pairs) (drop (i + 1) list))
unfolding later
later_more around pairs list i d first within =
    ap (λ (l : List Member). least_link_with first (later around pairs l)) (drop_more list i d within) ∙ least_append first _ _

pub later_all : (around : Around) (pairs : List (List ℕ × List ℕ)) (list : List Member) (i : ℕ) (first : Option LinkFault) → length list ≤ i
    → least_link_with first (later around pairs (drop i list)) ≡ first
unfolding later
later_all around pairs list i first past = ap (λ (l : List Member). least_link_with first (later around pairs l)) (drop_all i list past) ∙ least_none first

pub pairs_more : (pairs : List (List ℕ × List ℕ)) (list : List Member) (i : ℕ) (d : Member) → i < length list
    → pairs_after_all (drop i list) pairs ≡ pairs_after_all (drop (i + 1) list) (pairs_after (get_or list i d) pairs)
unfolding pairs_after_all
pairs_more pairs list i d within = ap (λ (l : List Member). pairs_after_all l pairs) (drop_more list i d within)

pub pairs_all : (pairs : List (List ℕ × List ℕ)) (list : List Member) (i : ℕ) → length list ≤ i → pairs_after_all (drop i list) pairs ≡ pairs
unfolding pairs_after_all
pairs_all pairs list i past = ap (λ (l : List Member). pairs_after_all l pairs) (drop_all i list past)

pub ruleset bind_laws = (least_none, later_more, later_all, pairs_more, pairs_all)

pub instances_more : (around : Around) (bound : (instance port : List ℕ) → Bool) (list : List Member) (i : ℕ) (d : Member) (first : Option LinkFault) → i < length list
    → least_link_with first (flat_map (instance_faults around bound) (drop i list))
    ≡ least_link_with (least_link_with first (instance_faults around bound (get_or list i d))) (flat_map (instance_faults around bound) (drop (i + 1) list))
instances_more around bound list i d first within =
    ap (λ (l : List Member). least_link_with first (flat_map (instance_faults around bound) l)) (drop_more list i d within) ∙ least_append first _ _

pub instances_all : (around : Around) (bound : (instance port : List ℕ) → Bool) (list : List Member) (i : ℕ) (first : Option LinkFault) → length list ≤ i
    → least_link_with first (flat_map (instance_faults around bound) (drop i list)) ≡ first
instances_all around bound list i first past =
    ap (λ (l : List Member). least_link_with first (flat_map (instance_faults around bound) l)) (drop_all i list past) ∙ least_none first

pub ruleset instance_laws = (least_none, instances_more, instances_all)

-- blocks one after another
pub globals_more : (globals : Names) (known : Known) (list : List Global1) (i : ℕ) (d : Global1) (first : Option LinkFault) → i < length list
    → least_link_with first (globals_link_faults globals known (map pure_global (drop i list)))
    ≡ least_link_with (least_link_with first (global_link_faults globals known (pure_global (get_or list i d)))) (globals_link_faults globals (known_after (pure_global (get_or list i d)) known) (map pure_global (drop (i + 1) list)))
unfolding globals_link_faults
globals_more globals known list i d first within =
    ap (λ (l : List Global1). least_link_with first (globals_link_faults globals known (map pure_global l))) (drop_more list i d within) ∙ least_append first _ _

pub globals_all : (globals : Names) (known : Known) (list : List Global1) (i : ℕ) (first : Option LinkFault) → length list ≤ i
    → least_link_with first (globals_link_faults globals known (map pure_global (drop i list))) ≡ first
unfolding globals_link_faults
globals_all globals known list i first past =
    ap (λ (l : List Global1). least_link_with first (globals_link_faults globals known (map pure_global l))) (drop_all i list past) ∙ least_none first

pub known_more : (known : Known) (list : List Global1) (i : ℕ) (d : Global1) → i < length list
    → known_after_all (map pure_global (drop i list)) known ≡ known_after_all (map pure_global (drop (i + 1) list)) (known_after (pure_global (get_or list i d)) known)
unfolding known_after_all
known_more known list i d within = ap (λ (l : List Global1). known_after_all (map pure_global l) known) (drop_more list i d within)

pub known_all : (known : Known) (list : List Global1) (i : ℕ) → length list ≤ i → known_after_all (map pure_global (drop i list)) known ≡ known
unfolding known_after_all
known_all known list i past = ap (λ (l : List Global1). known_after_all (map pure_global l) known) (drop_all i list past)

pub ruleset globals_laws = (least_none, globals_more, globals_all, known_more, known_all)
