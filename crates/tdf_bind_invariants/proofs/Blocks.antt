-- In a model without a fault of links each port is bound to what has its tag.
use Rattle.std.proofs.Common.{◌≡◌, ◌≢◌, ◌∙◌, ℕ, zero, suc, ◌+◌, Bool, true, false, List, [], ◌∷◌, ◌++◌, Option, Some, None, length, map, refl, sym, ap, subst, true≢false, ◌||◌, arith}
use Rattle.std.proofs.lemmas.Cmp.{nat_list_eq_equiv}
use Rattle.std.proofs.lemmas.List.{length_push}
use Rattle.std.proofs.lemmas.List.Elements.{All-from_recursion}
use Rattle.std.proofs.lemmas.Option.{same_Some, none-some}
use Rattle.std.specs.Cmp.Lexicographic.{pointwise}
use Rattle.std.specs.List.{AllByRecursion, flat_map}
use Rattle.std.specs.Prelude.{All, nat_eq, slice_get}
use Rattle.tdf_bind.proofs.Api.{AreFormatted, formats_there}
use Rattle.tdf_expr_blocks.specs.Types.{type_faults}
use Rattle.tdf_bind_invariants.proofs.Bindings.{instance_names, instances_tagged, port_names}
use Rattle.tdf_bind_invariants.proofs.Members.{pairs_of}
use Rattle.tdf_bind_invariants.proofs.Spaces.{Differ, name_in}
use Rattle.tdf_bind_invariants.specs.Tags.{KeepTags, Tag, block_tags, model_tags, port_tags, tags_at, target_tag}
use Rattle.tdf_bind_ports.specs.Links.{composite_link_faults, global_link_faults, globals_link_faults, link_faults}
use Rattle.tdf_bind_ports.specs.Ports.{Known, known_after, known_after_all, no_blocks, port_of_member, port_of_tdf_line, port_of_de_line, ports_named, ports_of_composite, ports_of_de, ports_of_tdf, with_block}
use Rattle.tdf_expr_names.specs.Law.{AreApart, DeclaresOnce, HasNamesOnce}
use Rattle.tdf_expr_names.specs.Names.{Name, has, names_of_de_line, names_of_de_lines, names_of_member, names_of_tdf_line, names_of_tdf_lines}
use Rattle.tdf_bind_names.specs.Resolved.{AreBlocks, AreResolved, IsComposite, leaf, whole}
use Rattle.tdf_expr_symbols.specs.Names.{Names, found_at, globals_of, place_in}
use Rattle.tdf_lang_tree.specs.Kept.{Each}
use Rattle.tdf_lang_tree.specs.Pure.{PureComposite, PureDeLine, DPort, DStore, DEvent, PureGlobal, GShape, GTdf, GDe, GNet, PureTdfLine, TPort, TStore, TRate, PureTree}
use Rattle.tdf_lang_tree.specs.declared.blocks.Member.{Member}
use Rattle.tdf_lang_tree.specs.declared.blocks.Member.TheVariants as member
use Rattle.tdf_lang_tree.specs.declared.blocks.PortLine.{PortLine}
use Rattle.tdf_bind_hierarchy.specs.Blocks.{InstanceOf, BlockOf}

-- names that are apart differ
left_false : (a b : Bool) → a || b ≡ false → a ≡ false
left_false false b e = refl
left_false true b e = absurd (true≢false e)

right_false : (a b : Bool) → a || b ≡ false → b ≡ false
right_false false b e = e
right_false true b e = absurd (true≢false e)

not_has : (x : Name) (names : List Name) → has names x ≡ false → AllByRecursion (λ y. x ≢ y) names
not_has x [] e = tt
not_has x (y ∷ names) e = (
  λ same. true≢false (sym (nat_list_eq_equiv.refl x) ∙ ap (pointwise nat_eq x) same ∙ left_false (pointwise nat_eq x y) (has names x) e),
  not_has x names (right_false (pointwise nat_eq x y) (has names x) e),
)

pub apart_differ : (names : List Name) → AreApart names → Differ names
apart_differ [] apart = tt
apart_differ (x ∷ names) apart = (not_has x names apart.0, apart_differ names apart.1)

-- some of the names of a block: of its ports, of its instances
all_of_ports : (P : Name → Type 0) (ms : List Member) → AllByRecursion P (flat_map names_of_member ms) → AllByRecursion P (port_names (flat_map port_of_member ms))
all_of_ports P [] all = tt
all_of_ports P (member.Port port ∷ ms) all = (all.0, all_of_ports P ms all.1)
all_of_ports P (member.Signal line name x ∷ ms) all = all_of_ports P ms all.1
all_of_ports P (member.DeSignal line name x start ∷ ms) all = all_of_ports P ms all.1
all_of_ports P (member.Instance line name block ∷ ms) all = all_of_ports P ms all.1
all_of_ports P (member.Bind line instance port target ∷ ms) all = all_of_ports P ms all

ports_differ : (ms : List Member) → Differ (flat_map names_of_member ms) → Differ (port_names (flat_map port_of_member ms))
ports_differ [] differ = tt
ports_differ (member.Port port ∷ ms) differ = (all_of_ports (λ y. port.name ≢ y) ms differ.0, ports_differ ms differ.1)
ports_differ (member.Signal line name x ∷ ms) differ = ports_differ ms differ.1
ports_differ (member.DeSignal line name x start ∷ ms) differ = ports_differ ms differ.1
ports_differ (member.Instance line name block ∷ ms) differ = ports_differ ms differ.1
ports_differ (member.Bind line instance port target ∷ ms) differ = ports_differ ms differ

all_of_instances : (P : Name → Type 0) (ms : List Member) → AllByRecursion P (flat_map names_of_member ms) → AllByRecursion P (instance_names ms)
all_of_instances P [] all = tt
all_of_instances P (member.Port port ∷ ms) all = all_of_instances P ms all.1
all_of_instances P (member.Signal line name x ∷ ms) all = all_of_instances P ms all.1
all_of_instances P (member.DeSignal line name x start ∷ ms) all = all_of_instances P ms all.1
all_of_instances P (member.Instance line name block ∷ ms) all = (all.0, all_of_instances P ms all.1)
all_of_instances P (member.Bind line instance port target ∷ ms) all = all_of_instances P ms all

instances_differ : (ms : List Member) → Differ (flat_map names_of_member ms) → Differ (instance_names ms)
instances_differ [] differ = tt
instances_differ (member.Port port ∷ ms) differ = instances_differ ms differ.1
instances_differ (member.Signal line name x ∷ ms) differ = instances_differ ms differ.1
instances_differ (member.DeSignal line name x start ∷ ms) differ = instances_differ ms differ.1
instances_differ (member.Instance line name block ∷ ms) differ = (all_of_instances (λ y. name ≢ y) ms differ.0, instances_differ ms differ.1)
instances_differ (member.Bind line instance port target ∷ ms) differ = instances_differ ms differ

pair_names : (globals : Names) (ms : List Member) → flat_map names_of_member ms ≡ map name_in (flat_map (pairs_of globals) ms)
pair_names globals [] = refl
pair_names globals (member.Port port ∷ ms) = ap (λ l. port.name ∷ l) (pair_names globals ms)
pair_names globals (member.Signal line name x ∷ ms) = ap (λ l. name ∷ l) (pair_names globals ms)
pair_names globals (member.DeSignal line name x start ∷ ms) = ap (λ l. name ∷ l) (pair_names globals ms)
pair_names globals (member.Instance line name block ∷ ms) = ap (λ l. name ∷ l) (pair_names globals ms)
pair_names globals (member.Bind line instance port target ∷ ms) = pair_names globals ms

all_of_tdf : (P : Name → Type 0) (ds : List PureTdfLine) → AllByRecursion P (flat_map names_of_tdf_line ds) → AllByRecursion P (port_names (flat_map port_of_tdf_line ds))
all_of_tdf P [] all = tt
all_of_tdf P (TPort port ∷ ds) all = (all.0, all_of_tdf P ds all.1)
all_of_tdf P (TStore store ∷ ds) all = all_of_tdf P ds all.1
all_of_tdf P (TRate line name least greatest start ∷ ds) all = all_of_tdf P ds all.1

pub tdf_differ : (ds : List PureTdfLine) → Differ (flat_map names_of_tdf_line ds) → Differ (port_names (flat_map port_of_tdf_line ds))
tdf_differ [] differ = tt
tdf_differ (TPort port ∷ ds) differ = (all_of_tdf (λ y. port.name ≢ y) ds differ.0, tdf_differ ds differ.1)
tdf_differ (TStore store ∷ ds) differ = tdf_differ ds differ.1
tdf_differ (TRate line name least greatest start ∷ ds) differ = tdf_differ ds differ.1

all_of_de : (P : Name → Type 0) (ds : List PureDeLine) → AllByRecursion P (flat_map names_of_de_line ds) → AllByRecursion P (port_names (flat_map port_of_de_line ds))
all_of_de P [] all = tt
all_of_de P (DPort port ∷ ds) all = (all.0, all_of_de P ds all.1)
all_of_de P (DStore store ∷ ds) all = all_of_de P ds all.1
all_of_de P (DEvent line name ∷ ds) all = all_of_de P ds all.1

de_differ : (ds : List PureDeLine) → Differ (flat_map names_of_de_line ds) → Differ (port_names (flat_map port_of_de_line ds))
de_differ [] differ = tt
de_differ (DPort port ∷ ds) differ = (all_of_de (λ y. port.name ≢ y) ds differ.0, de_differ ds differ.1)
de_differ (DStore store ∷ ds) differ = de_differ ds differ.1
de_differ (DEvent line name ∷ ds) differ = de_differ ds differ.1

-- the blocks that are known stay where they are
left_at : {A : Type 0} (xs ys : List A) (k : ℕ) (x : A) → slice_get xs k ≡ Some x → slice_get (xs ++ ys) k ≡ Some x
left_at [] ys k x at = absurd (none-some x at)
left_at (y ∷ xs) ys zero x at = at
left_at (y ∷ xs) ys (suc k) x at = left_at xs ys k x at

pushed_at : {A : Type 0} (xs : List A) (x : A) → slice_get (xs ++ x ∷ []) (length xs) ≡ Some x
pushed_at [] x = refl
pushed_at (y ∷ xs) x = pushed_at xs x

pub stays : (gs : List PureGlobal) (known : Known) (k : ℕ) (ports : List PortLine) → slice_get known.ports k ≡ Some ports → slice_get (known_after_all gs known).ports k ≡ Some ports
unfolding known_after_all
stays [] known k ports at = at
stays (GShape t ∷ gs) known k ports at = stays gs known k ports at
stays (GTdf block ∷ gs) known k ports at = stays gs (with_block block.name (ports_of_tdf block) known) k ports (left_at known.ports (ports_of_tdf block ∷ []) k ports at)
stays (GDe block ∷ gs) known k ports at = stays gs (with_block block.name (ports_of_de block) known) k ports (left_at known.ports (ports_of_de block ∷ []) k ports at)
stays (GNet block ∷ gs) known k ports at = stays gs (with_block block.name (ports_of_composite block) known) k ports (left_at known.ports (ports_of_composite block ∷ []) k ports at)

tags_there : (globals : Names) (list : List (List PortLine)) (k : ℕ) (ports : List PortLine) → slice_get list k ≡ Some ports → tags_at (block_tags globals list) k ≡ port_tags globals ports
tags_there globals [] k ports at = absurd (none-some ports at)
tags_there globals (p ∷ list) zero ports at = ap (port_tags globals) (same_Some p ports at)
tags_there globals (p ∷ list) (suc k) ports at = tags_there globals list k ports at

item_at : {A : Type 0} (P : A → Type 0) (xs : List A) → AllByRecursion P xs → (n : ℕ) (x : A) → slice_get xs n ≡ Some x → P x
item_at P [] all n x at = absurd (none-some x at)
item_at P (y ∷ ys) all zero x at = subst P (same_Some y x at) all.0
item_at P (y ∷ ys) all (suc n) x at = item_at P ys all.1 n x at

abbrev HavePortsOnce : Known → Type 0
HavePortsOnce known = AllByRecursion (λ (ports : List PortLine). Differ (port_names ports)) known.ports

named_once : (known : Known) → HavePortsOnce known → (name : List ℕ) (ports : List PortLine) → ports_named known name ≡ Some ports → Differ (port_names ports)
named_once known once name ports e = go (place_in known.names name) refl
  where
    go : (o : Option ℕ) → place_in known.names name ≡ o → Differ (port_names ports)
    go None at = absurd (none-some ports (sym (ap (found_at known.ports) at) ∙ e))
    go (Some k) at = item_at (λ (ps : List PortLine). Differ (port_names ps)) known.ports once k ports (sym (ap (found_at known.ports) at) ∙ e)

push_once : (known : Known) (name : List ℕ) (ports : List PortLine) → HavePortsOnce known → Differ (port_names ports) → HavePortsOnce (with_block name ports known)
push_once known name ports once differ = go known.ports once
  where
    go : (list : List (List PortLine)) → AllByRecursion (λ (ps : List PortLine). Differ (port_names ps)) list → AllByRecursion (λ (ps : List PortLine). Differ (port_names ps)) (list ++ ports ∷ [])
    go [] all = (differ, tt)
    go (p ∷ list) all = (all.0, go list all.1)

nothing_left : {A : Type 0} (xs ys : List A) → xs ++ ys ≡ [] → (xs ≡ []) × (ys ≡ [])
nothing_left [] ys e = (refl, e)
nothing_left (x ∷ xs) ys e = absurd cc

module _ (globals : Names) (tags : List (List (Option Tag))) where
  abbrev Good : ℕ → BlockOf → Type 0
  Good n b = All (λ (i : InstanceOf). map (target_tag b (tags_at tags n)) i.targets ≡ tags_at tags i.block) b.instances

  -- from a place on, all blocks are
  abbrev AllGood : ℕ → List BlockOf → Type 0
  AllGood n [] = Unit {0}
  AllGood n (b ∷ bs) = Good n b × AllGood (n + 1) bs

  leaf_good : (n : ℕ) (ports : List PortLine) (b : BlockOf) → b ≡ leaf ports → Good n b
  leaf_good n ports b is = subst (Good n) (sym is) (All-from_recursion (λ (i : InstanceOf). map (target_tag (leaf ports) (tags_at tags n)) i.targets ≡ tags_at tags i.block) [] tt)

  abbrev next_place : (known : Known) (name : List ℕ) (ports : List PortLine) → length (with_block name ports known).ports ≡ length known.ports + 1
  next_place known name ports = length_push known.ports ports

  composite_good : (known : Known) (block : PureComposite) (b : BlockOf) → IsComposite globals known block b → AreApart (flat_map names_of_member block.members) → AreFormatted globals (GNet block)
      → composite_link_faults globals known block ≡ [] → HavePortsOnce known → ((k : ℕ) (ports : List PortLine) → slice_get known.ports k ≡ Some ports → tags_at tags k ≡ port_tags globals ports)
      → (n : ℕ) → tags_at tags n ≡ port_tags globals (ports_of_composite block) → Good n b
  composite_good known block b is apart has none once there n here =
      let differ = apart_differ (flat_map names_of_member block.members) apart in
      subst (λ (l : List (Option Tag)). All (λ (i : InstanceOf). map (target_tag b l) i.targets ≡ tags_at tags i.block) b.instances) (sym here)
      (All-from_recursion (λ (i : InstanceOf). map (target_tag b (port_tags globals (ports_of_composite block))) i.targets ≡ tags_at tags i.block) b.instances
      (instances_tagged globals known block b is (subst Differ (pair_names globals block.members) differ) (instances_differ block.members differ) has none (named_once known once) tags there))

  blocks_good : (known : Known) (gs : List PureGlobal) (bs : List BlockOf) → tags ≡ block_tags globals (known_after_all gs known).ports → AreBlocks globals known gs bs → globals_link_faults globals known gs ≡ []
      → Each DeclaresOnce gs → AllByRecursion (AreFormatted globals) gs → HavePortsOnce known → AllGood (length known.ports) bs
  unfolding globals_link_faults known_after_all
  blocks_good known [] bs all are none once has ports = subst (AllGood (length known.ports)) (sym are) tt
  blocks_good known (GShape t ∷ gs) bs all are none once has ports = blocks_good known gs bs all are none once.1 has.1 ports
  blocks_good known (GTdf block ∷ gs) [] all are none once has ports = absurd are
  blocks_good known (GTdf block ∷ gs) (b ∷ bs) all are none once has ports =
      let differ = tdf_differ block.decls (apart_differ (names_of_tdf_lines block.decls) once.0) in (
        leaf_good (length known.ports) (ports_of_tdf block) b are.0,
        subst (λ k. AllGood k bs) (next_place known block.name (ports_of_tdf block))
            (blocks_good (with_block block.name (ports_of_tdf block) known) gs bs all are.1 none once.1 has.1 (push_once known block.name (ports_of_tdf block) ports differ)),
      )
  blocks_good known (GDe block ∷ gs) [] all are none once has ports = absurd are
  blocks_good known (GDe block ∷ gs) (b ∷ bs) all are none once has ports =
      let differ = de_differ block.decls (apart_differ (names_of_de_lines block.decls) once.0) in (
        leaf_good (length known.ports) (ports_of_de block) b are.0,
        subst (λ k. AllGood k bs) (next_place known block.name (ports_of_de block))
            (blocks_good (with_block block.name (ports_of_de block) known) gs bs all are.1 none once.1 has.1 (push_once known block.name (ports_of_de block) ports differ)),
      )
  blocks_good known (GNet block ∷ gs) [] all are none once has ports = absurd are
  blocks_good known (GNet block ∷ gs) (b ∷ bs) all are none once has ports =
      let differ = ports_differ block.members (apart_differ (flat_map names_of_member block.members) once.0) in
      let next = with_block block.name (ports_of_composite block) known in
      let faults = nothing_left (composite_link_faults globals known block) (globals_link_faults globals next gs) none in
      let there : (k : ℕ) (ps : List PortLine) → slice_get next.ports k ≡ Some ps → tags_at tags k ≡ port_tags globals ps =
      λ k ps at. ap (λ (l : List (List (Option Tag))). tags_at l k) all ∙ tags_there globals (known_after_all gs next).ports k ps (stays gs next k ps at) in (
        composite_good known block b are.0 once.0 has.0 faults.0 ports (λ k ps at. there k ps (left_at known.ports (ports_of_composite block ∷ []) k ps at))
            (length known.ports) (there (length known.ports) (ports_of_composite block) (pushed_at known.ports (ports_of_composite block))),
        subst (λ k. AllGood k bs) (next_place known block.name (ports_of_composite block))
            (blocks_good next gs bs all are.1 faults.1 once.1 has.1 (push_once known block.name (ports_of_composite block) ports differ)),
      )

  good_at : (from : ℕ) (bs : List BlockOf) → AllGood from bs → (n : ℕ) (b : BlockOf) → slice_get bs n ≡ Some b → Good (from + n) b
  good_at from [] all n b at = absurd (none-some b at)
  good_at from (c ∷ bs) all zero b at = let here : from ≡ from + 0 = omega arith in subst (λ k. Good k b) here (subst (Good from) (same_Some c b at) all.0)
  good_at from (c ∷ bs) all (suc n) b at = let next : from + 1 + n ≡ from + suc n = omega arith in subst (λ k. Good k b) next (good_at (from + 1) bs all.1 n b at)

-- the faults of all declarations, `top` last
none_whole : (globals : Names) (known : Known) (gs : List PureGlobal) (top : PureComposite) → globals_link_faults globals known gs ≡ [] → composite_link_faults globals (known_after_all gs known) top ≡ []
    → globals_link_faults globals known (gs ++ GNet top ∷ []) ≡ []
unfolding globals_link_faults known_after_all
none_whole globals known [] top none last = ap (λ l. l ++ []) last
none_whole globals known (g ∷ gs) top none last =
    let faults = nothing_left (global_link_faults globals known g) (globals_link_faults globals (known_after g known) gs) none in
    ap (λ l. l ++ globals_link_faults globals (known_after g known) (gs ++ GNet top ∷ [])) faults.0 ∙ none_whole globals (known_after g known) gs top faults.1 last

each_push : (P : PureGlobal → Type 0) (gs : List PureGlobal) (g : PureGlobal) → Each P gs → P g → Each P (gs ++ g ∷ [])
each_push P [] g each last = (last, tt)
each_push P (h ∷ gs) g each last = (each.0, each_push P gs g each.1 last)

model_none : (model : PureTree) → link_faults model ≡ [] → globals_link_faults (globals_of model.globals) no_blocks (whole model) ≡ []
unfolding link_faults
model_none model none =
    let globals = globals_of model.globals in
    let faults = nothing_left (globals_link_faults globals no_blocks model.globals) (composite_link_faults globals (known_after_all model.globals no_blocks) model.top) none in
    none_whole globals no_blocks model.globals model.top faults.0 faults.1

-- each port is bound to what has its tag
pub keep_tags : (model : PureTree) (blocks : List BlockOf) (top : ℕ) → type_faults model ≡ [] → HasNamesOnce model → link_faults model ≡ [] → AreResolved model blocks → tags_at (model_tags model) top ≡ []
    → KeepTags (model_tags model) blocks top
keep_tags model blocks top types once links are closed = record {
  each = λ n b at. let here : 0 + n ≡ n = omega arith in
      subst (λ k. Good (globals_of model.globals) (model_tags model) k b) here (good_at (globals_of model.globals) (model_tags model) 0 blocks
      (blocks_good (globals_of model.globals) (model_tags model) no_blocks (whole model) blocks refl are (model_none model links)
      (each_push DeclaresOnce model.globals (GNet model.top) once.blocks once.top) (formats_there model types) tt) n b at);
  closed = closed;
}
