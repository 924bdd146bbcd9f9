-- The pairs that are held are those that lines bind.
use Rattle.std.proofs.Common.{◌≡◌, ◌∙◌, ℕ, Bool, true, false, List, [], ◌∷◌, ◌++◌, Option, Some, None, refl, sym, ap}
use Rattle.std.proofs.lemmas.List.Folds.{list_any-append}
use Rattle.std.specs.Cmp.Lexicographic.{pointwise, same_text}
use Rattle.std.specs.List.{flat_map}
use Rattle.std.specs.Prelude.{nat_eq, ◌||◌, ◌&&◌, if◌then◌else◌}
use Rattle.tdf_bind_ports.proofs.Notes.{least_append}
use Rattle.tdf_bind_ports.specs.Faults.{LinkFault, least_link_with}
use Rattle.tdf_bind_ports.specs.Links.{Around, bind_faults, binds, binds_faults, faults_around, first_free, free_faults, instance_faults, is_bound, port_link_faults, port_around, unbound_faults}
use Rattle.tdf_bind_ports.specs.Ports.{ports_named}
use Rattle.tdf_bind_ports.specs.machine.Pairs.{AreBoundBy, has_pair, later, pairs_after, pairs_after_all}
use Rattle.tdf_expr_symbols.specs.Names.{thing_of}
use Rattle.tdf_lang_tree.specs.declared.blocks.Member.{Member}
use Rattle.tdf_lang_tree.specs.declared.blocks.Member.TheVariants as member
use Rattle.tdf_lang_tree.specs.declared.blocks.PortLine.{PortLine}

or_false : (b : Bool) → b || false ≡ b
or_false true = refl
or_false false = refl

or_assoc : (a b c : Bool) → (a || b) || c ≡ a || (b || c)
or_assoc true b c = refl
or_assoc false b c = refl

-- a pair that is there already adds nothing
there : (pairs : List (List ℕ × List ℕ)) (i p j q : List ℕ) (a b : Bool) → pointwise nat_eq i j ≡ a → pointwise nat_eq p q ≡ b → has_pair pairs j q ≡ true
    → has_pair pairs i p ≡ has_pair pairs i p || (a && b)
there pairs i p j q false b e f is = sym (or_false (has_pair pairs i p))
there pairs i p j q true false e f is = sym (or_false (has_pair pairs i p))
there pairs i p j q true true e f is =
    let same : has_pair pairs i p ≡ true = ap (λ n. has_pair pairs n p) (same_text i j (sym e)) ∙ ap (has_pair pairs j) (same_text p q (sym f)) ∙ is in
    same ∙ sym (ap (λ b. b || true) same)

more : (pairs : List (List ℕ × List ℕ)) (i p j q : List ℕ) → has_pair (pairs ++ (j, q) ∷ []) i p ≡ has_pair pairs i p || (pointwise nat_eq i j && pointwise nat_eq p q)
more pairs i p j q =
    list_any-append (λ x. pointwise nat_eq i x.0 && pointwise nat_eq p x.1) pairs ((j, q) ∷ [])
    ∙ ap (λ b. has_pair pairs i p || b) (or_false (pointwise nat_eq i j && pointwise nat_eq p q))

has_one : (pairs : List (List ℕ × List ℕ)) (i p j q : List ℕ) (b : Bool) → has_pair pairs j q ≡ b
    → has_pair (if b then pairs else pairs ++ (j, q) ∷ []) i p ≡ has_pair pairs i p || (pointwise nat_eq i j && pointwise nat_eq p q)
has_one pairs i p j q true is = there pairs i p j q _ _ refl refl is
has_one pairs i p j q false is = more pairs i p j q

has_after : (pairs : List (List ℕ × List ℕ)) (i p : List ℕ) (m : Member) → has_pair (pairs_after m pairs) i p ≡ has_pair pairs i p || binds i p m
has_after pairs i p (member.Bind line j q target) = has_one pairs i p j q (has_pair pairs j q) refl
has_after pairs i p (member.Port port) = sym (or_false (has_pair pairs i p))
has_after pairs i p (member.Signal line name x) = sym (or_false (has_pair pairs i p))
has_after pairs i p (member.DeSignal line name x start) = sym (or_false (has_pair pairs i p))
has_after pairs i p (member.Instance line name block) = sym (or_false (has_pair pairs i p))

-- one line more
bound_more : (pairs : List (List ℕ × List ℕ)) (earlier : List Member) (m : Member) → AreBoundBy pairs earlier → AreBoundBy (pairs_after m pairs) (earlier ++ m ∷ [])
bound_more pairs earlier m are = record {
  each = λ i p.
      has_after pairs i p m
      ∙ ap (λ b. b || binds i p m) (are.each i p)
      ∙ ap (λ b. is_bound earlier i p || b) (sym (or_false (binds i p m)))
      ∙ sym (list_any-append (binds i p) earlier (m ∷ []));
}

has_all : (pairs : List (List ℕ × List ℕ)) (i p : List ℕ) (ms : List Member) → has_pair (pairs_after_all ms pairs) i p ≡ has_pair pairs i p || is_bound ms i p
unfolding pairs_after_all
has_all pairs i p [] = sym (or_false (has_pair pairs i p))
has_all pairs i p (m ∷ ms) =
    has_all (pairs_after m pairs) i p ms
    ∙ ap (λ b. b || is_bound ms i p) (has_after pairs i p m)
    ∙ or_assoc (has_pair pairs i p) (binds i p m) (is_bound ms i p)

-- faults go by what is bound alone
same_bind : (around : Around) (f g : (instance port : List ℕ) → Bool) → ((i p : List ℕ) → f i p ≡ g i p) → (m : Member) → bind_faults around f m ≡ bind_faults around g m
unfolding bind_faults
same_bind around f g same (member.Bind line i p target) =
    ap (λ b. port_link_faults around.globals line b (thing_of around.own target) (port_around around i p)) (same i p)
same_bind around f g same (member.Port port) = refl
same_bind around f g same (member.Signal line name x) = refl
same_bind around f g same (member.DeSignal line name x start) = refl
same_bind around f g same (member.Instance line name block) = refl

same_free : (f g : (instance port : List ℕ) → Bool) → ((i p : List ℕ) → f i p ≡ g i p) → (instance : List ℕ) (ports : List PortLine) → first_free f instance ports ≡ first_free g instance ports
same_free f g same instance [] = refl
same_free f g same instance (p ∷ ps) = rw (same instance p.name, same_free f g same instance ps) refl

same_ports : (f g : (instance port : List ℕ) → Bool) → ((i p : List ℕ) → f i p ≡ g i p) → (line : ℕ) (instance : List ℕ) (ports : Option (List PortLine)) → free_faults f line instance ports ≡ free_faults g line instance ports
same_ports f g same line instance None = refl
same_ports f g same line instance (Some ports) = ap (unbound_faults line) (same_free f g same instance ports)

same_instance : (around : Around) (f g : (instance port : List ℕ) → Bool) → ((i p : List ℕ) → f i p ≡ g i p) → (m : Member) → instance_faults around f m ≡ instance_faults around g m
unfolding instance_faults
same_instance around f g same (member.Instance line name block) = same_ports f g same line name (ports_named around.known block)
same_instance around f g same (member.Port port) = refl
same_instance around f g same (member.Signal line name x) = refl
same_instance around f g same (member.DeSignal line name x start) = refl
same_instance around f g same (member.Bind line i p target) = refl

same_instances : (around : Around) (f g : (instance port : List ℕ) → Bool) → ((i p : List ℕ) → f i p ≡ g i p) → (ms : List Member) → flat_map (instance_faults around f) ms ≡ flat_map (instance_faults around g) ms
same_instances around f g same [] = refl
same_instances around f g same (m ∷ ms) = rw (same_instance around f g same m, same_instances around f g same ms) refl

same_later : (around : Around) (pairs : List (List ℕ × List ℕ)) (earlier list : List Member) → AreBoundBy pairs earlier → later around pairs list ≡ binds_faults around earlier list
unfolding later binds_faults
same_later around pairs earlier [] are = refl
same_later around pairs earlier (m ∷ ms) are =
    ap (λ fs. fs ++ later around (pairs_after m pairs) ms) (same_bind around (has_pair pairs) (is_bound earlier) are.each m)
    ∙ ap (λ fs. bind_faults around (is_bound earlier) m ++ fs) (same_later around (pairs_after m pairs) (earlier ++ m ∷ []) ms (bound_more pairs earlier m are))

-- the faults of all lines, by the pairs that the code holds
pub members_faults : (around : Around) (members : List Member) (first : Option LinkFault)
    → least_link_with (least_link_with first (later around [] members)) (flat_map (instance_faults around (has_pair (pairs_after_all members []))) members)
    ≡ least_link_with first (faults_around around members)
members_faults around members first =
    ap (λ fs. least_link_with (least_link_with first fs) (flat_map (instance_faults around (has_pair (pairs_after_all members []))) members)) (same_later around [] [] members (record { each = λ i p. refl }))
    ∙ ap (least_link_with (least_link_with first (binds_faults around [] members))) (same_instances around (has_pair (pairs_after_all members [])) (is_bound members) (λ i p. has_all [] i p members) members)
    ∙ sym (least_append first (binds_faults around [] members) (flat_map (instance_faults around (is_bound members)) members))

pub ruleset bound_laws = (members_faults)

-- a `bind` line, by the bytes of its names
pub bind_is : (around : Around) (bound : (instance port : List ℕ) → Bool) (m : Member) (line : ℕ) (i p t j q u : List ℕ) (again : Bool)
    → m ≡ member.Bind line i p t → j ≡ i → q ≡ p → u ≡ t → again ≡ bound j q
    → port_link_faults around.globals line again (thing_of around.own u) (port_around around j q) ≡ bind_faults around bound m
unfolding bind_faults
bind_is around bound m line i p t j q u again is ij pq tu new =
    ap (λ b. port_link_faults around.globals line b (thing_of around.own u) (port_around around j q)) new
    ∙ ap (λ (n : List ℕ). port_link_faults around.globals line (bound n q) (thing_of around.own u) (port_around around n q)) ij
    ∙ ap (λ (n : List ℕ). port_link_faults around.globals line (bound i n) (thing_of around.own u) (port_around around i n)) pq
    ∙ ap (λ (n : List ℕ). port_link_faults around.globals line (bound i p) (thing_of around.own n) (port_around around i p)) tu
    ∙ sym (ap (bind_faults around bound) is)
