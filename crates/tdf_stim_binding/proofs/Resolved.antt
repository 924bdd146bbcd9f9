-- The resolved blocks of the driven tree: that of the driver stands before `top`, whose last instance is the driver's.
use Rattle.std.proofs.Common.{◌≡◌, ◌≢◌, ◌∙◌, ℕ, zero, suc, ◌+◌, ◌<◌, Bool, true, false, ◌||◌, nat_eq, if◌then◌else◌, List, [], ◌∷◌, ◌++◌, map, length, Option, Some, slice_get, refl, sym, ap, subst, arith}
use Rattle.std.proofs.lemmas.Bool.{true≢false}
use Rattle.std.proofs.lemmas.List.{append_assoc, length-append}
use Rattle.std.proofs.lemmas.List.Concat.{flat_map-append}
use Rattle.std.specs.Cmp.Lexicographic.{bytes_decides, pointwise}
use Rattle.std.specs.List.{flat_map}
use Rattle.tdf_base.proofs.Api.{if_none, none_first, none_second}
use Rattle.tdf_base.specs.declared.codes.Code.TheVariants.{Duplicate}
use Rattle.tdf_bind_attributes.specs.Roles.{roles_from}
use Rattle.tdf_bind_hierarchy.specs.Blocks.{BlockOf, InstanceOf}
use Rattle.tdf_bind_hierarchy.specs.declared.blocks.Target.{Target}
use Rattle.tdf_bind_names.specs.Resolved.{AreBlocks, AreResolved, IsComposite, instance_of, instance_with, leaf, targets_of}
use Rattle.tdf_bind_names.specs.Targets.{inside_of, target_of}
use Rattle.tdf_bind_ports.specs.Ports.{Known, known_after_all, no_blocks, ports_named, ports_of_composite, ports_of_de, ports_of_tdf, with_block}
use Rattle.tdf_expr_names.specs.Names.{declares, global_name_faults, globals_faults, has, in_order, name_faults, names_of_global, with_declared}
use Rattle.tdf_expr_symbols.specs.Names.{Names, found_at, globals_of, place_in}
use Rattle.tdf_lang_tree.specs.Pure.{GDe, GNet, GShape, GTdf, PureDe, PureGlobal, PureTree}
use Rattle.tdf_lang_tree.specs.declared.blocks.Member.{Member}
use Rattle.tdf_lang_tree.specs.declared.blocks.Member.TheVariants as member
use Rattle.tdf_lang_tree.specs.declared.blocks.PortLine.{PortLine}
use Rattle.tdf_stim.specs.Driver.{bind_lines, driver_members}
use Rattle.tdf_stim.specs.Signals.{Column}
use Rattle.tdf_stim_binding.proofs.Roles.{just_behind, place_is}
use Rattle.tdf_stim_binding.specs.Shape.{IsDrivenTree, driver_de}
use Rattle.tdf_stim_lines.specs.Numbered.{lines_at, member_at}

-- ---- how many globals are blocks

abbrev pub blocks_among : List PureGlobal → ℕ
blocks_among [] = 0
blocks_among (GShape t ∷ gs) = blocks_among gs
blocks_among (GTdf block ∷ gs) = 1 + blocks_among gs
blocks_among (GDe block ∷ gs) = 1 + blocks_among gs
blocks_among (GNet block ∷ gs) = 1 + blocks_among gs

pub roles_long : (globals : Names) (n : ℕ) (gs : List PureGlobal) → length (roles_from globals n gs) ≡ blocks_among gs
unfolding roles_from
roles_long globals n [] = refl
roles_long globals n (GShape t ∷ gs) = roles_long globals n gs
roles_long globals n (GTdf block ∷ gs) = (let e = roles_long globals (n + 1) gs in let g : suc (length (roles_from globals (n + 1) gs)) ≡ 1 + blocks_among gs = omega (arith, e) in g)
roles_long globals n (GDe block ∷ gs) = (let e = roles_long globals (n + 1) gs in let g : suc (length (roles_from globals (n + 1) gs)) ≡ 1 + blocks_among gs = omega (arith, e) in g)
roles_long globals n (GNet block ∷ gs) = (let e = roles_long globals n gs in let g : suc (length (roles_from globals n gs)) ≡ 1 + blocks_among gs = omega (arith, e) in g)

one_more : {A : Type 0} (xs : List A) (x : A) (k : ℕ) → length (xs ++ x ∷ []) + k ≡ length xs + (1 + k)
one_more xs x k = let e = length-append xs (x ∷ []) in omega (arith, e)

pub known_long : (gs : List PureGlobal) (known : Known) → length (known_after_all gs known).names ≡ length known.names + blocks_among gs
unfolding known_after_all
known_long [] known = omega arith
known_long (GShape t ∷ gs) known = known_long gs known
known_long (GTdf block ∷ gs) known = known_long gs (with_block block.name (ports_of_tdf block) known) ∙ one_more known.names block.name (blocks_among gs)
known_long (GDe block ∷ gs) known = known_long gs (with_block block.name (ports_of_de block) known) ∙ one_more known.names block.name (blocks_among gs)
known_long (GNet block ∷ gs) known = known_long gs (with_block block.name (ports_of_composite block) known) ∙ one_more known.names block.name (blocks_among gs)

pub ports_long : (gs : List PureGlobal) (known : Known) → length (known_after_all gs known).ports ≡ length known.ports + blocks_among gs
unfolding known_after_all
ports_long [] known = omega arith
ports_long (GShape t ∷ gs) known = ports_long gs known
ports_long (GTdf block ∷ gs) known = ports_long gs (with_block block.name (ports_of_tdf block) known) ∙ one_more known.ports (ports_of_tdf block) (blocks_among gs)
ports_long (GDe block ∷ gs) known = ports_long gs (with_block block.name (ports_of_de block) known) ∙ one_more known.ports (ports_of_de block) (blocks_among gs)
ports_long (GNet block ∷ gs) known = ports_long gs (with_block block.name (ports_of_composite block) known) ∙ one_more known.ports (ports_of_composite block) (blocks_among gs)

-- ---- the blocks of some globals, and then of others

pub record AreSplit (globals : Names) (known : Known) (gs ys : List PureGlobal) (blocks : List BlockOf) : Type 0 where
  pub first : List BlockOf
  pub rest : List BlockOf
  pub is : blocks ≡ first ++ rest
  pub long : length first ≡ blocks_among gs
  pub are : AreBlocks globals (known_after_all gs known) ys rest

split_more : (globals : Names) (known after : Known) (g : PureGlobal) (gs ys : List PureGlobal) (b : BlockOf) (bs : List BlockOf) → blocks_among (g ∷ gs) ≡ 1 + blocks_among gs → known_after_all (g ∷ gs) known ≡ known_after_all gs after
    → AreSplit globals after gs ys bs → AreSplit globals known (g ∷ gs) ys (b ∷ bs)
split_more globals known after g gs ys b bs count same s = record {
  first = b ∷ s.first;
  rest = s.rest;
  is = ap (λ (l : List BlockOf). b ∷ l) s.is;
  long = (let e = s.long in omega (arith, e, count));
  are = subst (λ (k : Known). AreBlocks globals k ys s.rest) (sym same) s.are;
}

blocks_split : (globals : Names) (known : Known) (gs ys : List PureGlobal) (blocks : List BlockOf) → AreBlocks globals known (gs ++ ys) blocks → AreSplit globals known gs ys blocks
unfolding known_after_all
blocks_split globals known [] ys blocks are = record { first = []; rest = blocks; is = refl; long = refl; are = are }
blocks_split globals known (GShape t ∷ gs) ys blocks are =
    let s = blocks_split globals known gs ys blocks are in record { first = s.first; rest = s.rest; is = s.is; long = s.long; are = s.are }
blocks_split globals known (GTdf block ∷ gs) ys [] are = absurd are
blocks_split globals known (GDe block ∷ gs) ys [] are = absurd are
blocks_split globals known (GNet block ∷ gs) ys [] are = absurd are
blocks_split globals known (GTdf block ∷ gs) ys (b ∷ bs) are =
    split_more globals known (with_block block.name (ports_of_tdf block) known) (GTdf block) gs ys b bs refl refl (blocks_split globals (with_block block.name (ports_of_tdf block) known) gs ys bs are.1)
blocks_split globals known (GDe block ∷ gs) ys (b ∷ bs) are =
    split_more globals known (with_block block.name (ports_of_de block) known) (GDe block) gs ys b bs refl refl (blocks_split globals (with_block block.name (ports_of_de block) known) gs ys bs are.1)
blocks_split globals known (GNet block ∷ gs) ys (b ∷ bs) are =
    split_more globals known (with_block block.name (ports_of_composite block) known) (GNet block) gs ys b bs refl refl (blocks_split globals (with_block block.name (ports_of_composite block) known) gs ys bs are.1)

-- ---- no earlier block has the name of the last

abbrev AllHaveNames : List (List ℕ) → Known → Type 0
AllHaveNames names known = (k : ℕ) (y : List ℕ) → slice_get known.names k ≡ Some y → has names y ≡ true

or_more : (b c d : Bool) → (b || c) ≡ true → (c ≡ true → d ≡ true) → (b || d) ≡ true
or_more true c d e f = refl
or_more false c d e f = f e

any_more : (xs : List (List ℕ)) (name y : List ℕ) → has xs y ≡ true → has (xs ++ name ∷ []) y ≡ true
any_more [] name y h = absurd (cc)
any_more (x ∷ xs) name y h = or_more (pointwise nat_eq y x) (has xs y) (has (xs ++ name ∷ []) y) h (any_more xs name y)

or_true : (b : Bool) → (b || true) ≡ true
or_true true = refl
or_true false = refl

any_last : (xs : List (List ℕ)) (name : List ℕ) → has (xs ++ name ∷ []) name ≡ true
any_last [] name = ap (λ (b : Bool). b || false) ((bytes_decides name name).1 refl)
any_last (x ∷ xs) name = ap (λ (b : Bool). pointwise nat_eq name x || b) (any_last xs name) ∙ or_true (pointwise nat_eq name x)

has_more : (names : List (List ℕ)) (name y : List ℕ) → has names y ≡ true → has (with_declared names name) y ≡ true
has_more names name y there = go (has names name)
  where
    go : (b : Bool) → has (if b then names else names ++ name ∷ []) y ≡ true
    go true = there
    go false = any_more names name y there

has_last : (names : List (List ℕ)) (name : List ℕ) → has (with_declared names name) name ≡ true
has_last names name = go (has names name) refl
  where
    go : (b : Bool) → has names name ≡ b → has (if b then names else names ++ name ∷ []) name ≡ true
    go true is = is
    go false is = any_last names name

-- one block more
push_have : (names : List (List ℕ)) (known : Known) (name : List ℕ) (ports : List PortLine) → AllHaveNames names known → AllHaveNames (with_declared names name) (with_block name ports known)
push_have names known name ports all = go known.names all
  where
    go : (xs : List (List ℕ)) → ((k : ℕ) (y : List ℕ) → slice_get xs k ≡ Some y → has names y ≡ true) → (k : ℕ) (y : List ℕ) → slice_get (xs ++ name ∷ []) k ≡ Some y → has (with_declared names name) y ≡ true
    go [] each zero y at = (let same : name ≡ y = cc in ap (has (with_declared names name)) (sym same) ∙ has_last names name)
    go [] each (suc k) y at = absurd (cc)
    go (x ∷ xs) each zero y at = has_more names name y (each 0 y at)
    go (x ∷ xs) each (suc k) y at = go xs (λ i z there. each (suc i) z there) k y at

kept_have : (names : List (List ℕ)) (known : Known) (name : List ℕ) → AllHaveNames names known → AllHaveNames (with_declared names name) known
kept_have names known name all k y at = has_more names name y (all k y at)

last_apart : (names : List (List ℕ)) (known : Known) (gs : List PureGlobal) (de : PureDe) → AllHaveNames names known → in_order global_name_faults names_of_global names (gs ++ GDe de ∷ []) ≡ []
    → (k : ℕ) (y : List ℕ) → slice_get (known_after_all gs known).names k ≡ Some y → y ≢ de.name
unfolding known_after_all
last_apart names known [] de all none k y at =
    λ same. true≢false (sym (all k y at) ∙ ap (has names) same ∙ if_none (has names de.name) Duplicate de.line (none_first (declares names de.line de.name) _ (none_first (global_name_faults names (GDe de)) _ none)))
last_apart names known (GShape t ∷ gs) de all none k y at = last_apart (with_declared names t.name) known gs de (kept_have names known t.name all) (none_second (global_name_faults names (GShape t)) _ none) k y at
last_apart names known (GTdf block ∷ gs) de all none k y at =
    last_apart (with_declared names block.name) (with_block block.name (ports_of_tdf block) known) gs de (push_have names known block.name (ports_of_tdf block) all) (none_second (global_name_faults names (GTdf block)) _ none) k y at
last_apart names known (GDe block ∷ gs) de all none k y at =
    last_apart (with_declared names block.name) (with_block block.name (ports_of_de block) known) gs de (push_have names known block.name (ports_of_de block) all) (none_second (global_name_faults names (GDe block)) _ none) k y at
last_apart names known (GNet block ∷ gs) de all none k y at =
    last_apart (with_declared names block.name) (with_block block.name (ports_of_composite block) known) gs de (push_have names known block.name (ports_of_composite block) all) (none_second (global_name_faults names (GNet block)) _ none) k y at

-- ---- the last two blocks, and the last instance

no_instances : (known : Known) (target : (instance port : List ℕ) → Option Target) (name : List ℕ) (at j : ℕ) (labels : List (List ℕ)) → flat_map (instance_of known target) (lines_at member_at at (bind_lines name j labels)) ≡ []
unfolding instance_of bind_lines
no_instances known target name at j [] = refl
no_instances known target name at j (label ∷ labels) = no_instances known target name (at + 1) (j + 1) labels

module _ (model : PureTree) (columns : List Column) (times : List ℕ) (name : List ℕ) (d : IsDrivenTree model columns times name) (blocks : List BlockOf) (none : name_faults model ≡ []) (are : AreResolved model blocks) where
  abbrev pub de : PureDe
  de = driver_de d

  abbrev pub known : Known
  known = known_after_all d.globals no_blocks

  abbrev pub known_top : Known
  known_top = with_block name (ports_of_de de) known

  abbrev pub place : ℕ
  place = length (roles_from (globals_of model.globals) 0 d.globals)

  pub split : AreSplit (globals_of model.globals) no_blocks d.globals (GDe de ∷ (GNet model.top ∷ [])) blocks
  split = blocks_split (globals_of model.globals) no_blocks d.globals (GDe de ∷ (GNet model.top ∷ [])) blocks
      (subst (λ (l : List PureGlobal). AreBlocks (globals_of model.globals) no_blocks l blocks) (ap (λ (l : List PureGlobal). l ++ GNet model.top ∷ []) d.globals_are ∙ append_assoc d.globals (GDe de ∷ []) (GNet model.top ∷ [])) are)

  -- the driver's block and `top`
  pub record LastTwo (rest : List BlockOf) : Type 0 where
    pub top : BlockOf
    pub is : rest ≡ leaf (ports_of_de de) ∷ (top ∷ [])
    pub composite : IsComposite (globals_of model.globals) known_top model.top top

  two_of : (rest : List BlockOf) → AreBlocks (globals_of model.globals) known (GDe de ∷ (GNet model.top ∷ [])) rest → LastTwo rest
  two_of [] bad = absurd bad
  two_of (b ∷ []) bad = absurd bad.1
  two_of (b ∷ (t ∷ ts)) good = record {
    top = t;
    is = ap (λ (x : BlockOf). x ∷ (t ∷ ts)) good.0 ∙ ap (λ (l : List BlockOf). leaf (ports_of_de de) ∷ (t ∷ l)) good.1.1;
    composite = good.1.0;
  }

  pub two : LastTwo split.rest
  two = two_of split.rest split.are

  pub first_long : length split.first ≡ place
  first_long = split.long ∙ sym (roles_long (globals_of model.globals) 0 d.globals)

  pub blocks_are : blocks ≡ split.first ++ (leaf (ports_of_de de) ∷ (two.top ∷ []))
  blocks_are = split.is ∙ ap (λ (l : List BlockOf). split.first ++ l) two.is

  pub names_long : length known.names ≡ place
  names_long = known_long d.globals no_blocks ∙ (let g : 0 + blocks_among d.globals ≡ place = (let e = roles_long (globals_of model.globals) 0 d.globals in omega (arith, e)) in g)

  known_ports_long : length known.ports ≡ place
  known_ports_long = ports_long d.globals no_blocks ∙ (let g : 0 + blocks_among d.globals ≡ place = (let e = roles_long (globals_of model.globals) 0 d.globals in omega (arith, e)) in g)

  apart : (k : ℕ) (y : List ℕ) → slice_get known.names k ≡ Some y → y ≢ name
  unfolding name_faults
  apart = last_apart [] no_blocks d.globals de (λ k y at. absurd (cc)) (subst (λ (l : List PureGlobal). globals_faults [] l ≡ []) d.globals_are (none_first _ _ none))

  -- an item of a list with one more
  in_front : {A : Type 0} (xs : List A) (x y : A) (k : ℕ) → slice_get (xs ++ x ∷ []) k ≡ Some y → k < length xs → slice_get xs k ≡ Some y
  in_front [] x y k at less = absurd (omega (arith, less))
  in_front (z ∷ zs) x y zero at less = at
  in_front (z ∷ zs) x y (suc k) at less = in_front zs x y k at (omega (arith, less))

  pub place_known : place_in known_top.names name ≡ Some place
  place_known = place_is known_top.names place name (ap (slice_get known_top.names) (sym names_long) ∙ just_behind known.names [] name)
      (λ k other less at same. (let long = names_long in apart k other (in_front known.names name other k at (omega (arith, less, long))) (sym same)))

  pub ports_known : ports_named known_top name ≡ Some (ports_of_de de)
  ports_known = ap (found_at known_top.ports) place_known ∙ ap (slice_get known_top.ports) (sym known_ports_long) ∙ just_behind known.ports [] (ports_of_de de)

  abbrev pub target : (instance port : List ℕ) → Option Target
  target = target_of (inside_of model.top.members) model.top.members

  abbrev pub the_instance : InstanceOf
  the_instance = record { name = name; block = place; targets = targets_of target name (ports_of_de de) }

  abbrev pub instance_by : Member → List InstanceOf
  instance_by m = instance_of known_top target m

  instance_is : (line : ℕ) → instance_by (member.Instance line name name) ≡ the_instance ∷ []
  unfolding instance_of
  instance_is line = ap (λ (o : Option ℕ). instance_with target name o (ports_named known_top name)) place_known ∙ ap (λ (o : Option (List PortLine)). instance_with target name (Some place) o) ports_known

  pub instances_are : two.top.instances ≡ flat_map instance_by d.members ++ the_instance ∷ []
  instances_are =
      two.composite.instances ∙ ap (flat_map instance_by) d.members_are
      ∙ flat_map-append instance_by d.members (lines_at member_at d.first (driver_members name columns))
      ∙ ap (λ (l : List InstanceOf). flat_map instance_by d.members ++ (l ++ flat_map instance_by (lines_at member_at (d.first + 1) (bind_lines name 0 (map (λ (c : Column). c.label) columns))))) (instance_is d.first)
      ∙ ap (λ (l : List InstanceOf). flat_map instance_by d.members ++ (the_instance ∷ l)) (no_instances known_top target name (d.first + 1) 0 (map (λ (c : Column). c.label) columns))
