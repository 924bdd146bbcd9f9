-- In a composite without a fault of links, each port of each instance is bound to what has its tag.
use Rattle.std.proofs.Common.{◌≡◌, ◌∙◌, ℕ, zero, suc, Bool, true, false, not, ◌&&◌, ◌||◌, List, [], ◌∷◌, ◌++◌, Option, Some, None, map, refl, sym, ap, subst, true≢false}
use Rattle.std.proofs.lemmas.Option.{same_Some, none-some}
use Rattle.std.specs.Cmp.Lexicographic.{pointwise, same_text}
use Rattle.std.specs.List.{AllByRecursion, find, flat_map, list_any}
use Rattle.std.specs.Prelude.{cond, if◌then◌else◌, nat_eq, slice_get}
use Rattle.tdf_bind_invariants.proofs.Members.{IsTarget, pairs_of, tag_by_agreement, targets_thing}
use Rattle.tdf_bind_invariants.proofs.Spaces.{Differ, name_in, place_is}
use Rattle.tdf_bind_invariants.specs.Tags.{Tag, port_tag, port_tags, tags_at, target_tag}
use Rattle.tdf_bind_ports.specs.Agree.{agrees}
use Rattle.tdf_bind_ports.specs.Faults.{Wrong, UnknownPort, TwiceBound, Mismatch, Unbound, link_fault_if}
use Rattle.tdf_bind_ports.specs.Links.{Around, around_of, bind_faults, binds, binds_faults, composite_link_faults, faults_around, first_free, free_faults, instance_faults, is_bound, port_link_faults, port_in, port_around, ports_of_block, unbound_faults}
use Rattle.tdf_bind_ports.specs.Ports.{Instances, Known, block_named, no_instances, port_named, port_of_member, ports_named, with_instance, with_instances}
use Rattle.tdf_bind_names.specs.Resolved.{IsComposite, instance_of, instance_with, targets_of}
use Rattle.tdf_bind_names.specs.Signals.{Declared, declared_by}
use Rattle.tdf_bind_names.specs.Targets.{inside_of, or_first, target_after, target_from, target_named, target_of}
use Rattle.tdf_expr_symbols.specs.Names.{Names, Thing, found_at, format_of, place_in, thing_of}
use Rattle.tdf_expr_symbols.specs.Scope.{first_some}
use Rattle.tdf_expr_symbols.specs.Sound.{HasFormat}
use Rattle.tdf_lang_tree.specs.Pure.{PureComposite}
use Rattle.tdf_lang_tree.specs.declared.blocks.Member.{Member}
use Rattle.tdf_lang_tree.specs.declared.blocks.Member.TheVariants as member
use Rattle.tdf_lang_tree.specs.declared.blocks.PortLine.{PortLine}
use Rattle.tdf_bind_hierarchy.specs.Blocks.{InstanceOf, BlockOf}
use Rattle.tdf_bind_hierarchy.specs.declared.blocks.Target.{Target}

-- lists without an item
left_none : {A : Type 0} (xs ys : List A) → xs ++ ys ≡ [] → xs ≡ []
left_none [] ys e = refl
left_none (x ∷ xs) ys e = absurd cc

right_none : {A : Type 0} (xs ys : List A) → xs ++ ys ≡ [] → ys ≡ []
right_none [] ys e = e
right_none (x ∷ xs) ys e = absurd cc

not_fault : (b : Bool) (wrong : Wrong) (line : ℕ) → link_fault_if b wrong line ≡ [] → b ≡ false
unfolding link_fault_if
not_fault false wrong line e = refl
not_fault true wrong line e = absurd cc

not_false : (b : Bool) → not b ≡ false → b ≡ true
not_false true e = refl
not_false false e = absurd (true≢false e)

-- each `bind` line names a port, which agrees with its target
abbrev pub IsBindGood : Around → Member → Type 0
IsBindGood around (member.Bind line i p target) = (q : PortLine) × (port_around around i p ≡ Some q) × (agrees around.globals q (thing_of around.own target) ≡ true)
IsBindGood around _ = Unit {0}

port_good : (globals : Names) (line : ℕ) (again : Bool) (thing : Option Thing) (o : Option PortLine) → port_link_faults globals line again thing o ≡ [] → (q : PortLine) × (o ≡ Some q) × (agrees globals q thing ≡ true)
port_good globals line again thing None e = absurd (true≢false (not_fault true UnknownPort line e))
port_good globals line again thing (Some q) e =
    (q, refl, not_false (agrees globals q thing) (not_fault (not (agrees globals q thing)) Mismatch line (right_none (link_fault_if again TwiceBound line) (link_fault_if (not (agrees globals q thing)) Mismatch line) e)))

bind_good : (around : Around) (bound : List ℕ → List ℕ → Bool) (m : Member) → bind_faults around bound m ≡ [] → IsBindGood around m
unfolding bind_faults
bind_good around bound (member.Bind line i p target) e = port_good around.globals line (bound i p) (thing_of around.own target) (port_around around i p) e
bind_good around bound (member.Port port) e = tt
bind_good around bound (member.Signal line name x) e = tt
bind_good around bound (member.DeSignal line name x start) e = tt
bind_good around bound (member.Instance line name block) e = tt

binds_good : (around : Around) (earlier ms : List Member) → binds_faults around earlier ms ≡ [] → AllByRecursion (IsBindGood around) ms
unfolding binds_faults
binds_good around earlier [] e = tt
binds_good around earlier (m ∷ ms) e = (
  bind_good around (is_bound earlier) m (left_none (bind_faults around (is_bound earlier) m) (binds_faults around (earlier ++ m ∷ []) ms) e),
  binds_good around (earlier ++ m ∷ []) ms (right_none (bind_faults around (is_bound earlier) m) (binds_faults around (earlier ++ m ∷ []) ms) e),
)

-- each port of each instance is bound
abbrev AreBound : List Member → List ℕ → List PortLine → Type 0
AreBound ms name ports = AllByRecursion (λ (p : PortLine). is_bound ms name p.name ≡ true) ports

abbrev IsInstanceBound : Known → List Member → Member → Type 0
IsInstanceBound known ms (member.Instance line name block) = (ports : List PortLine) → ports_named known block ≡ Some ports → AreBound ms name ports
IsInstanceBound known ms _ = Unit {0}

all_bound : (ms : List Member) (name : List ℕ) (ports : List PortLine) → first_free (is_bound ms) name ports ≡ None → AreBound ms name ports
all_bound ms name [] e = tt
all_bound ms name (p ∷ ports) e = go (λ none. all_bound ms name ports none) (is_bound ms name p.name) refl e
  where
    go : (first_free (is_bound ms) name ports ≡ None → AreBound ms name ports) → (b : Bool) → is_bound ms name p.name ≡ b → cond (not b) (Some p) (find (λ q. not (is_bound ms name q.name)) ports) ≡ None → (is_bound ms name p.name ≡ true) × AreBound ms name ports
    go later true is none = (is, later none)
    go later false is none = absurd (none-some p (sym none))

none_free : (line : ℕ) (o : Option PortLine) → unbound_faults line o ≡ [] → o ≡ None
none_free line None e = refl
none_free line (Some port) e = absurd (true≢false (not_fault true (Unbound port.name) line e))

instance_bound : (around : Around) (ms : List Member) (m : Member) → instance_faults around (is_bound ms) m ≡ [] → IsInstanceBound around.known ms m
unfolding instance_faults
instance_bound around ms (member.Instance line name block) e = λ ports is.
    all_bound ms name ports (none_free line (first_free (is_bound ms) name ports) (sym (ap (free_faults (is_bound ms) line name) is) ∙ e))
instance_bound around ms (member.Bind line i p target) e = tt
instance_bound around ms (member.Port port) e = tt
instance_bound around ms (member.Signal line name x) e = tt
instance_bound around ms (member.DeSignal line name x start) e = tt

instances_bound : (around : Around) (all ms : List Member) → flat_map (instance_faults around (is_bound all)) ms ≡ [] → AllByRecursion (IsInstanceBound around.known all) ms
instances_bound around all [] e = tt
instances_bound around all (m ∷ ms) e = (
  instance_bound around all m (left_none (instance_faults around (is_bound all) m) (flat_map (instance_faults around (is_bound all)) ms) e),
  instances_bound around all ms (right_none (instance_faults around (is_bound all) m) (flat_map (instance_faults around (is_bound all)) ms) e),
)

-- the block of an instance
abbrev pub instance_names : List Member → List (List ℕ)
instance_names [] = []
instance_names (member.Instance line name block ∷ ms) = name ∷ instance_names ms
instance_names (_ ∷ ms) = instance_names ms

abbrev instance_blocks : List Member → List (List ℕ)
instance_blocks [] = []
instance_blocks (member.Instance line name block ∷ ms) = block ∷ instance_blocks ms
instance_blocks (_ ∷ ms) = instance_blocks ms

append_one : {A : Type 0} (xs : List A) (x : A) (ys : List A) → (xs ++ x ∷ []) ++ ys ≡ xs ++ x ∷ ys
append_one [] x ys = refl
append_one (z ∷ xs) x ys = ap (λ l. z ∷ l) (append_one xs x ys)

append_nil : {A : Type 0} (xs : List A) → xs ≡ xs ++ []
append_nil [] = refl
append_nil (x ∷ xs) = ap (λ l. x ∷ l) (append_nil xs)

listed : (ms : List Member) (i : Instances) → with_instances ms i ≡ record { names = i.names ++ instance_names ms; blocks = i.blocks ++ instance_blocks ms }
unfolding with_instances
listed [] i = λ j. record { names = append_nil i.names j; blocks = append_nil i.blocks j }
listed (member.Instance line name block ∷ ms) i = listed ms (with_instance (member.Instance line name block) i)
    ∙ (λ j. record { names = append_one i.names name (instance_names ms) j; blocks = append_one i.blocks block (instance_blocks ms) j })
listed (member.Port port ∷ ms) i = listed ms i
listed (member.Signal line name x ∷ ms) i = listed ms i
listed (member.DeSignal line name x start ∷ ms) i = listed ms i
listed (member.Bind line instance port target ∷ ms) i = listed ms i

abbrev IsListed : List Member → Member → Type 0
IsListed all (member.Instance line name block) = (n : ℕ) × (slice_get (instance_names all) n ≡ Some name) × (slice_get (instance_blocks all) n ≡ Some block)
IsListed all _ = Unit {0}

listed_more : (m : Member) (all : List Member) (x : Member) → IsListed all x → IsListed (m ∷ all) x
listed_more (member.Instance line name block) all (member.Instance l n b) at = (suc at.0, at.1, at.2)
listed_more (member.Port port) all (member.Instance l n b) at = at
listed_more (member.Signal line name f) all (member.Instance l n b) at = at
listed_more (member.DeSignal line name f start) all (member.Instance l n b) at = at
listed_more (member.Bind line instance port target) all (member.Instance l n b) at = at
listed_more m all (member.Port port) at = tt
listed_more m all (member.Signal line name f) at = tt
listed_more m all (member.DeSignal line name f start) at = tt
listed_more m all (member.Bind line instance port target) at = tt

all_more : (m : Member) (all xs : List Member) → AllByRecursion (IsListed all) xs → AllByRecursion (IsListed (m ∷ all)) xs
all_more m all [] at = tt
all_more m all (x ∷ xs) at = (listed_more m all x at.0, all_more m all xs at.1)

listed_here : (m : Member) (ms : List Member) → IsListed (m ∷ ms) m
listed_here (member.Instance line name block) ms = (0, refl, refl)
listed_here (member.Port port) ms = tt
listed_here (member.Signal line name f) ms = tt
listed_here (member.DeSignal line name f start) ms = tt
listed_here (member.Bind line instance port target) ms = tt

all_listed : (ms : List Member) → AllByRecursion (IsListed ms) ms
all_listed [] = tt
all_listed (m ∷ ms) = (listed_here m ms, all_more m ms ms (all_listed ms))

block_is : (ms : List Member) → Differ (instance_names ms) → (n : ℕ) (name block : List ℕ) → slice_get (instance_names ms) n ≡ Some name → slice_get (instance_blocks ms) n ≡ Some block
    → block_named (with_instances ms no_instances) name ≡ Some block
block_is ms differ n name block at there =
    ap (λ (i : Instances). block_named i name) (listed ms no_instances) ∙ ap (found_at (instance_blocks ms)) (place_is (instance_names ms) differ name n at) ∙ there

-- the port of a name
abbrev pub port_names : List PortLine → List (List ℕ)
port_names ports = map (λ (p : PortLine). p.name) ports

named_at : (ports : List PortLine) (n : ℕ) (p : PortLine) → slice_get ports n ≡ Some p → slice_get (port_names ports) n ≡ Some p.name
named_at [] n p at = absurd (none-some p at)
named_at (q ∷ ports) zero p at = ap (λ (r : PortLine). Some r.name) (same_Some q p at)
named_at (q ∷ ports) (suc n) p at = named_at ports n p at

port_is : (ports : List PortLine) → Differ (port_names ports) → (n : ℕ) (p : PortLine) → slice_get ports n ≡ Some p → port_named ports p.name ≡ Some p
port_is ports differ n p at = ap (found_at ports) (place_is (port_names ports) differ p.name n (named_at ports n p at)) ∙ at

-- the last line that binds a port binds it to what has its tag
both_true : (a b : Bool) → a && b ≡ true → (a ≡ true) × (b ≡ true)
both_true true b e = (refl, e)
both_true false b e = absurd (true≢false (sym e))

module _ (globals : Names) (known : Known) (block : PureComposite) (b : BlockOf) (is : IsComposite globals known block b)
    (differ : Differ (map name_in (flat_map (pairs_of globals) block.members))) (instances : Differ (instance_names block.members))
    (has : AllByRecursion (λ (d : Declared). HasFormat (format_of globals d.format)) (flat_map declared_by block.members))
    (none : composite_link_faults globals known block ≡ []) (ports_differ : (name : List ℕ) (ports : List PortLine) → ports_named known name ≡ Some ports → Differ (port_names ports)) where
  abbrev ms : List Member
  ms = block.members

  abbrev around : Around
  around = around_of globals known block

  abbrev tags : List (Option Tag)
  tags = port_tags globals (flat_map port_of_member ms)

  no_faults : faults_around around ms ≡ []
  unfolding composite_link_faults
  no_faults = none

  goods : AllByRecursion (IsBindGood around) ms
  goods = binds_good around [] ms (left_none (binds_faults around [] ms) (flat_map (instance_faults around (is_bound ms)) ms) no_faults)

  bounds : AllByRecursion (IsInstanceBound known ms) ms
  bounds = instances_bound around ms ms (right_none (binds_faults around [] ms) (flat_map (instance_faults around (is_bound ms)) ms) no_faults)

  -- one port of one instance
  module _ (name : List ℕ) (inner : List ℕ) (named : block_named around.instances name ≡ Some inner) (ports : List PortLine) (there : ports_named known inner ≡ Some ports)
      (n : ℕ) (p : PortLine) (at : slice_get ports n ≡ Some p) where
    port_there : port_around around name p.name ≡ Some p
    port_there =
        ap (λ (o : Option (List ℕ)). port_in (ports_of_block known o) p.name) named ∙ ap (λ o. port_in o p.name) there ∙ port_is ports (ports_differ inner ports there) n p at

    abbrev BindsWell : Member → Type 0
    BindsWell (member.Bind line i q target) = binds name p.name (member.Bind line i q target) ≡ true → IsTarget globals ms b target (port_tag globals p)
    BindsWell _ = Unit {0}

    well : (m : Member) → IsBindGood around m → BindsWell m
    well (member.Bind line i q target) good = λ bound.
        let names = both_true (pointwise nat_eq name i) (pointwise nat_eq p.name q) bound in
        let found : port_around around i q ≡ Some p = ap (λ (x : List ℕ). port_around around x q) (sym (same_text name i (sym names.0))) ∙ ap (port_around around name) (sym (same_text p.name q (sym names.1))) ∙ port_there in
        let same : good.0 ≡ p = same_Some good.0 p (sym good.1 ∙ found) in
        let tag = tag_by_agreement globals p (thing_of around.own target) (subst (λ (x : PortLine). agrees globals x (thing_of around.own target) ≡ true) same good.2) in
        subst (IsTarget globals ms b target) tag.3 (targets_thing globals ms b differ has is.signals target p.kind tag.0 tag.1 tag.2)
    well (member.Port port) good = tt
    well (member.Signal line m x) good = tt
    well (member.DeSignal line m x start) good = tt
    well (member.Instance line m inner2) good = tt

    abbrev HasTag : Option Target → Type 0
    HasTag o = (x : Target) × (o ≡ Some x) × (target_tag b tags x ≡ port_tag globals p)

    -- there is one before these lines, or one of them binds
    from_lines : (xs : List Member) → AllByRecursion (IsBindGood around) xs → (before : Option Target) → HasTag before → HasTag (target_from (inside_of ms) name p.name before xs)
    unfolding target_after
    from_lines [] good before it = it
    from_lines (member.Bind line i q target ∷ xs) good before it = from_lines xs good.1 (target_after (inside_of ms) name p.name before (member.Bind line i q target)) (step (binds name p.name (member.Bind line i q target)) refl)
      where
        step : (c : Bool) → binds name p.name (member.Bind line i q target) ≡ c → HasTag (if c then first_some (target_named (inside_of ms) target) before else before)
        step true e = let t = well (member.Bind line i q target) good.0 e in (t.target, ap (λ o. first_some o before) t.is, t.tagged)
        step false e = it
    from_lines (member.Port port ∷ xs) good before it = from_lines xs good.1 before it
    from_lines (member.Signal line m x ∷ xs) good before it = from_lines xs good.1 before it
    from_lines (member.DeSignal line m x start ∷ xs) good before it = from_lines xs good.1 before it
    from_lines (member.Instance line m inner2 ∷ xs) good before it = from_lines xs good.1 before it

    until_bound : (xs : List Member) → AllByRecursion (IsBindGood around) xs → (before : Option Target) → list_any (binds name p.name) xs ≡ true → HasTag (target_from (inside_of ms) name p.name before xs)
    unfolding target_after
    until_bound [] good before bound = absurd (true≢false (sym bound))
    until_bound (member.Bind line i q target ∷ xs) good before bound = step (λ later more. until_bound xs good.1 later more) (λ later it. from_lines xs good.1 later it) (binds name p.name (member.Bind line i q target)) refl bound
      where
        step : ((later : Option Target) → list_any (binds name p.name) xs ≡ true → HasTag (target_from (inside_of ms) name p.name later xs))
            → ((later : Option Target) → HasTag later → HasTag (target_from (inside_of ms) name p.name later xs))
            → (c : Bool) → binds name p.name (member.Bind line i q target) ≡ c → c || list_any (binds name p.name) xs ≡ true
            → HasTag (target_from (inside_of ms) name p.name (if binds name p.name (member.Bind line i q target) then first_some (target_named (inside_of ms) target) before else before) xs)
        step some goes true e more = let t = well (member.Bind line i q target) good.0 e in
            goes (if binds name p.name (member.Bind line i q target) then first_some (target_named (inside_of ms) target) before else before)
            (t.target, ap (λ (d : Bool). if d then first_some (target_named (inside_of ms) target) before else before) e ∙ ap (λ o. first_some o before) t.is, t.tagged)
        step some goes false e more = some (if binds name p.name (member.Bind line i q target) then first_some (target_named (inside_of ms) target) before else before) more
    until_bound (member.Port port ∷ xs) good before bound = until_bound xs good.1 before bound
    until_bound (member.Signal line m x ∷ xs) good before bound = until_bound xs good.1 before bound
    until_bound (member.DeSignal line m x start ∷ xs) good before bound = until_bound xs good.1 before bound
    until_bound (member.Instance line m inner2 ∷ xs) good before bound = until_bound xs good.1 before bound

    bound_tag : is_bound ms name p.name ≡ true → target_tag b tags (or_first (target_of (inside_of ms) ms name p.name)) ≡ port_tag globals p
    bound_tag bound = let it = until_bound ms goods None bound in ap (λ o. target_tag b tags (or_first o)) it.1 ∙ it.2

  -- all ports of one instance
  ports_tagged : (name inner : List ℕ) → block_named around.instances name ≡ Some inner → (ports : List PortLine) → ports_named known inner ≡ Some ports
      → (qs : List PortLine) → ((k : ℕ) (q : PortLine) → slice_get qs k ≡ Some q → (n : ℕ) × (slice_get ports n ≡ Some q)) → AreBound ms name qs
      → map (target_tag b tags) (targets_of (target_of (inside_of ms) ms) name qs) ≡ port_tags globals qs
  ports_tagged name inner named ports there [] among bound = refl
  ports_tagged name inner named ports there (q ∷ qs) among bound =
      let here = among 0 q refl in
      ap (λ t. t ∷ map (target_tag b tags) (targets_of (target_of (inside_of ms) ms) name qs)) (bound_tag name inner named ports there here.0 q here.1 bound.0)
      ∙ ap (λ l. port_tag globals q ∷ l) (ports_tagged name inner named ports there qs (λ k r at. among (suc k) r at) bound.1)

  -- the instances, where all blocks have these tags
  module _ (all : List (List (Option Tag))) (known_tags : (k : ℕ) (ports : List PortLine) → slice_get known.ports k ≡ Some ports → tags_at all k ≡ port_tags globals ports) where
    abbrev IsInstanceTagged : InstanceOf → Type 0
    IsInstanceTagged i = map (target_tag b tags) i.targets ≡ tags_at all i.block

    one_instance : (name inner : List ℕ) → block_named around.instances name ≡ Some inner → ((ports : List PortLine) → ports_named known inner ≡ Some ports → AreBound ms name ports)
        → AllByRecursion IsInstanceTagged (instance_with (target_of (inside_of ms) ms) name (place_in known.names inner) (ports_named known inner))
    one_instance name inner named bound = go (place_in known.names inner) refl (ports_named known inner) refl
      where
        go : (o : Option ℕ) → place_in known.names inner ≡ o → (ps : Option (List PortLine)) → ports_named known inner ≡ ps → AllByRecursion IsInstanceTagged (instance_with (target_of (inside_of ms) ms) name o ps)
        go None at None e = tt
        go None at (Some ports) e = tt
        go (Some k) at None e = tt
        go (Some k) at (Some ports) e =
            (ports_tagged name inner named ports e ports (λ j q there. (j, there)) (bound ports e) ∙ sym (known_tags k ports (ap (found_at known.ports) (sym at) ∙ e)), tt)

    all_append : (xs ys : List InstanceOf) → AllByRecursion IsInstanceTagged xs → AllByRecursion IsInstanceTagged ys → AllByRecursion IsInstanceTagged (xs ++ ys)
    all_append [] ys one other = other
    all_append (x ∷ xs) ys one other = (one.0, all_append xs ys one.1 other)

    each_instance : (xs : List Member) → AllByRecursion (IsListed ms) xs → AllByRecursion (IsInstanceBound known ms) xs → AllByRecursion IsInstanceTagged (flat_map (instance_of known (target_of (inside_of ms) ms)) xs)
    unfolding instance_of
    each_instance [] at bound = tt
    each_instance (member.Instance line name inner ∷ xs) at bound =
        all_append (instance_with (target_of (inside_of ms) ms) name (place_in known.names inner) (ports_named known inner)) (flat_map (instance_of known (target_of (inside_of ms) ms)) xs)
        (one_instance name inner (block_is ms instances at.0.0 name inner at.0.1 at.0.2) bound.0) (each_instance xs at.1 bound.1)
    each_instance (member.Port port ∷ xs) at bound = each_instance xs at.1 bound.1
    each_instance (member.Signal line name x ∷ xs) at bound = each_instance xs at.1 bound.1
    each_instance (member.DeSignal line name x start ∷ xs) at bound = each_instance xs at.1 bound.1
    each_instance (member.Bind line i q target ∷ xs) at bound = each_instance xs at.1 bound.1

    pub instances_tagged : AllByRecursion IsInstanceTagged b.instances
    instances_tagged = subst (AllByRecursion IsInstanceTagged) (sym is.instances) (each_instance ms (all_listed ms) bounds)
