-- Lists of lines, by name: the search applies no lemma over a function.
use Rattle.std.proofs.Common.{◌≡◌, ◌∙◌, ℕ, ◌+◌, ◌<◌, ◌≤◌, List, [], ◌∷◌, ◌++◌, Bor, Option, length, take, drop, refl, sym, ap, append_assoc}
use Rattle.std.proofs.Math.ListN.{get_or}
use Rattle.std.proofs.lemmas.List.{drop_more, drop_all, take_more, take_all, map-append, append-nil}
use Rattle.std.specs.List.{flat_map}
use Rattle.std.specs.Prelude.{map, Some, None, slice_get}
use Rattle.std.proofs.lemmas.Option.{slice_get-map}
use Rattle.std.specs.Option.{option_map}
use Rattle.tdf_bind_ports.specs.Ports.{Instances, port_named, port_of_de_line, port_of_member, port_of_tdf_line, with_instance, with_instances}
use Rattle.tdf_expr_symbols.specs.Names.{found_at, place_in}
use Rattle.tdf_lang_tree.specs.Views.{pure_de_line, pure_tdf_line}
use Rattle.tdf_lang_tree.specs.declared.blocks.DeLine.{DeLine}
use Rattle.tdf_lang_tree.specs.declared.blocks.Member.{Member}
use Rattle.tdf_lang_tree.specs.declared.blocks.PortLine.{PortLine}
use Rattle.tdf_lang_tree.specs.declared.blocks.TdfLine.{TdfLine}

pub names_more : (lines : List (Bor PortLine)) (i : ℕ) (d : Bor PortLine) → i < length lines
    → map (λ p. p.now.name) (take (i + 1) lines) ≡ map (λ p. p.now.name) (take i lines) ++ (get_or lines i d).now.name ∷ []
names_more lines i d within = ap (map (λ p. p.now.name)) (take_more lines i d within) ∙ map-append (λ p. p.now.name) (take i lines) (get_or lines i d ∷ [])

pub names_all : (lines : List (Bor PortLine)) (i : ℕ) → length lines ≤ i → map (λ p. p.now.name) (take i lines) ≡ map (λ p. p.now.name) lines
names_all lines i past = ap (map (λ p. p.now.name)) (take_all i lines past)

pub ruleset name_laws = (names_more, names_all)

-- a port by its name
pub map_map : (held : List (Bor PortLine)) → map (λ p. p.now.name) held ≡ map (λ p. p.name) (map (λ p. p.now) held)
map_map [] = refl
map_map (p ∷ ps) = ap (λ (l : List (List ℕ)). p.now.name ∷ l) (map_map ps)

line_at : (held : List (Bor PortLine)) (o : Option ℕ) → option_map (λ p. p.now) (found_at held o) ≡ found_at (map (λ p. p.now) held) o
line_at held None = refl
line_at held (Some n) = sym (slice_get-map (λ p. p.now) held n)

pub named_is : (held : List (Bor PortLine)) (names : List (List ℕ)) (ports : List PortLine) (name : List ℕ) (o : Option ℕ)
    → names ≡ map (λ p. p.now.name) held → map (λ p. p.now) held ≡ ports → o ≡ place_in names name
    → option_map (λ p. p.now) (found_at held o) ≡ port_named ports name
named_is held names ports name o names_are ports_are place =
    line_at held o
    ∙ ap (found_at (map (λ p. p.now) held)) (place ∙ ap (λ ns. place_in ns name) (names_are ∙ map_map held))
    ∙ ap (λ ps. port_named ps name) ports_are

-- the ports of lines, from a place on
ports_more : {A B : Type 0} (see : A → B) (f : B → List PortLine) (list : List A) (i : ℕ) (d : A) (ports : List PortLine) → i < length list
    → ports ++ flat_map f (map see (drop i list)) ≡ (ports ++ f (see (get_or list i d))) ++ flat_map f (map see (drop (i + 1) list))
ports_more {A} see f list i d ports within =
    ap (λ (l : List A). ports ++ flat_map f (map see l)) (drop_more list i d within) ∙ sym (append_assoc ports _ _)

ports_all : {A B : Type 0} (see : A → B) (f : B → List PortLine) (list : List A) (i : ℕ) (ports : List PortLine) → length list ≤ i
    → ports ++ flat_map f (map see (drop i list)) ≡ ports
ports_all {A} see f list i ports past = ap (λ (l : List A). ports ++ flat_map f (map see l)) (drop_all i list past) ∙ append-nil ports

pub tdf_ports_more : (list : List TdfLine) (i : ℕ) (d : TdfLine) (ports : List PortLine) → i < length list
    → ports ++ flat_map port_of_tdf_line (map pure_tdf_line (drop i list))
    ≡ (ports ++ port_of_tdf_line (pure_tdf_line (get_or list i d))) ++ flat_map port_of_tdf_line (map pure_tdf_line (drop (i + 1) list))
tdf_ports_more = ports_more pure_tdf_line port_of_tdf_line

pub tdf_ports_all : (list : List TdfLine) (i : ℕ) (ports : List PortLine) → length list ≤ i
    → ports ++ flat_map port_of_tdf_line (map pure_tdf_line (drop i list)) ≡ ports
tdf_ports_all = ports_all pure_tdf_line port_of_tdf_line

pub ruleset tdf_port_laws = (tdf_ports_more, tdf_ports_all)

pub de_ports_more : (list : List DeLine) (i : ℕ) (d : DeLine) (ports : List PortLine) → i < length list
    → ports ++ flat_map port_of_de_line (map pure_de_line (drop i list))
    ≡ (ports ++ port_of_de_line (pure_de_line (get_or list i d))) ++ flat_map port_of_de_line (map pure_de_line (drop (i + 1) list))
de_ports_more = ports_more pure_de_line port_of_de_line

pub de_ports_all : (list : List DeLine) (i : ℕ) (ports : List PortLine) → length list ≤ i
    → ports ++ flat_map port_of_de_line (map pure_de_line (drop i list)) ≡ ports
de_ports_all = ports_all pure_de_line port_of_de_line

pub ruleset de_port_laws = (de_ports_more, de_ports_all)

pub member_ports_more : (list : List Member) (i : ℕ) (d : Member) (ports : List PortLine) → i < length list
    → ports ++ flat_map port_of_member (drop i list)
    ≡ (ports ++ port_of_member (get_or list i d)) ++ flat_map port_of_member (drop (i + 1) list)
member_ports_more list i d ports within =
    ap (λ (l : List Member). ports ++ flat_map port_of_member l) (drop_more list i d within) ∙ sym (append_assoc ports _ _)

pub member_ports_all : (list : List Member) (i : ℕ) (ports : List PortLine) → length list ≤ i
    → ports ++ flat_map port_of_member (drop i list) ≡ ports
member_ports_all list i ports past = ap (λ (l : List Member). ports ++ flat_map port_of_member l) (drop_all i list past) ∙ append-nil ports

pub ruleset member_port_laws = (member_ports_more, member_ports_all)

-- instances
pub push_blocks : (xs : List (Bor (List ℕ))) (x : Bor (List ℕ)) → map (λ b. b.now) (xs ++ x ∷ []) ≡ map (λ b. b.now) xs ++ x.now ∷ []
push_blocks xs x = map-append (λ b. b.now) xs (x ∷ [])

pub ruleset push_laws = (push_blocks)

pub instances_more : (list : List Member) (i : ℕ) (d : Member) (s : Instances) → i < length list
    → with_instances (drop i list) s ≡ with_instances (drop (i + 1) list) (with_instance (get_or list i d) s)
unfolding with_instances
instances_more list i d s within = ap (λ (l : List Member). with_instances l s) (drop_more list i d within)

pub instances_all : (list : List Member) (i : ℕ) (s : Instances) → length list ≤ i → with_instances (drop i list) s ≡ s
unfolding with_instances
instances_all list i s past = ap (λ (l : List Member). with_instances l s) (drop_all i list past)

pub ruleset instance_laws = (instances_more, instances_all)

pub block_at : (xs : List (Bor (List ℕ))) (k : ℕ) → slice_get (map (λ b. b.now) xs) k ≡ option_map (λ b. b.now) (slice_get xs k)
block_at xs k = slice_get-map (λ b. b.now) xs k

pub ruleset block_laws = (block_at)
