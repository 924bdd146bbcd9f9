-- Resolved blocks: each instance is of an earlier block, and where no line is at fault all ports are bound.
use Rattle.std.proofs.Common.{◌≡◌, ◌∙◌, ℕ, zero, suc, ◌+◌, ◌-◌, ◌<◌, true, List, [], ◌∷◌, ◌++◌, Option, Some, None, length, refl, sym, ap, subst, arith, inr}
use Rattle.std.proofs.lemmas.List.{length_push, length-map, length-append, append_assoc, append-nil}
use Rattle.std.proofs.lemmas.List.Elements.{All-from_recursion}
use Rattle.std.proofs.lemmas.List.Quantifiers.{position-Some}
use Rattle.std.proofs.lemmas.Option.{slice_get_within}
use Rattle.std.proofs.lemmas.Slice.Zip.{AllZip-long}
use Rattle.std.specs.Cmp.Lexicographic.{pointwise}
use Rattle.std.specs.List.{flat_map, AllByRecursion, AllZip}
use Rattle.std.specs.Prelude.{map, nat_eq, slice_get}
use Rattle.tdf_bind_ports.specs.Links.{Around, around_of, binds_faults, composite_link_faults, free_faults, global_link_faults, globals_link_faults, instance_faults, is_bound, link_faults}
use Rattle.tdf_bind_ports.specs.Ports.{Known, known_after, known_after_all, no_blocks, ports_named, ports_of_composite, ports_of_de, ports_of_tdf, with_block}
use Rattle.tdf_bind_names.proofs.Goods.{none_first, none_second, IsWithin, IsTargeted, BindsWell, all_bind_well, all_bound, get_left, targeted}
use Rattle.tdf_bind_names.proofs.Lists.{zip_append}
use Rattle.tdf_bind_names.specs.Laws.{BindsAll, RefersBack}
use Rattle.tdf_bind_names.specs.Resolved.{AreBlocks, IsComposite, instance_of, instance_with, targets_of, whole}
use Rattle.tdf_bind_names.specs.Signals.{declared_by, IsSignal}
use Rattle.tdf_bind_names.specs.Targets.{inside_of, name_of_signal, or_first, target_of}
use Rattle.tdf_expr_symbols.specs.Names.{Names, found_at, globals_of, place_in}
use Rattle.tdf_lang_tree.specs.Pure.{PureComposite, PureGlobal, GShape, GTdf, GDe, GNet}
use Rattle.tdf_lang_tree.specs.declared.blocks.Member.{Member}
use Rattle.tdf_lang_tree.specs.declared.blocks.Member.TheVariants as member
use Rattle.tdf_lang_tree.specs.declared.blocks.PortLine.{PortLine}
use Rattle.tdf_bind_hierarchy.specs.Blocks.{InstanceOf, BlockOf}
use Rattle.tdf_bind_hierarchy.specs.Bound.{IsInstanceBound, IsTarget}
use Rattle.tdf_bind_hierarchy.specs.declared.blocks.Target.{Target}
use Rattle.tdf_bind_hierarchy.specs.declared.blocks.Target.TheVariants.{Own, Outer}

weaker : {A : Type 0} (P Q : A → Type 0) → ((x : A) → P x → Q x) → (xs : List A) → AllByRecursion P xs → AllByRecursion Q xs
weaker P Q f [] h = tt
weaker P Q f (x ∷ xs) h = (f x h.0, weaker P Q f xs h.1)

all_append : {A : Type 0} (P : A → Type 0) (xs ys : List A) → AllByRecursion P xs → AllByRecursion P ys → AllByRecursion P (xs ++ ys)
all_append P [] ys h k = k
all_append P (x ∷ xs) ys h k = (h.0, all_append P xs ys h.1 k)

all_map : {A B : Type 0} (P : B → Type 0) (f : A → B) (xs : List A) → AllByRecursion (λ x. P (f x)) xs → AllByRecursion P (map f xs)
all_map P f [] h = tt
all_map P f (x ∷ xs) h = (h.0, all_map P f xs h.1)

-- the blocks that are known are those that are done
abbrev HasPorts : List PortLine → BlockOf → Type 0
HasPorts ports b = b.ports ≡ length ports

pub record Fits (known : Known) (done : List BlockOf) : Type 0 where
  pub long : length known.names ≡ length done
  pub ports : AllZip HasPorts known.ports done

fits_none : Fits no_blocks []
fits_none = record { long = refl; ports = tt }

fits_push : (name : List ℕ) (ports : List PortLine) (known : Known) (done : List BlockOf) (b : BlockOf) → b.ports ≡ length ports → Fits known done
    → Fits (with_block name ports known) (done ++ b ∷ [])
fits_push name ports known done b same fits = record {
  long = length_push known.names name ∙ ap (λ n. n + 1) fits.long ∙ sym (length_push done b);
  ports = zip_append HasPorts known.ports (ports ∷ []) done (b ∷ []) fits.ports (same, tt);
}

zip_at : (ps : List (List PortLine)) (done : List BlockOf) (k : ℕ) (ports : List PortLine) (b : BlockOf) → AllZip HasPorts ps done → slice_get ps k ≡ Some ports → slice_get done k ≡ Some b → b.ports ≡ length ports
zip_at [] [] k ports b h e f = cc
zip_at [] (d ∷ done) k ports b h e f = absurd h
zip_at (p ∷ ps) [] k ports b h e f = absurd h
zip_at (p ∷ ps) (d ∷ done) zero ports b h e f =
    let same : p ≡ ports = cc in
    let other : d ≡ b = cc in
    subst (λ (x : BlockOf). x.ports ≡ length ports) other (subst (λ (l : List PortLine). d.ports ≡ length l) same h.0)
zip_at (p ∷ ps) (d ∷ done) (suc k) ports b h e f = zip_at ps done k ports b h.1 e f

place_within : (ns : List (List ℕ)) (name : List ℕ) (k : ℕ) → place_in ns name ≡ Some k → k < length ns
place_within ns name k e = (position-Some (pointwise nat_eq name) ns k [] e).0

-- instances are of blocks that are known
earlier_with : (target : List ℕ → List ℕ → Option Target) (name : List ℕ) (n : ℕ) (block : Option ℕ) (ports : Option (List PortLine))
    → ((k : ℕ) → block ≡ Some k → k < n) → AllByRecursion (λ i. i.block < n) (instance_with target name block ports)
earlier_with target name n (Some k) (Some ports) within = (within k refl, tt)
earlier_with target name n (Some k) None within = tt
earlier_with target name n None ports within = tt

earlier_instance : (known : Known) (target : List ℕ → List ℕ → Option Target) (m : Member) → AllByRecursion (λ i. i.block < length known.names) (instance_of known target m)
unfolding instance_of
earlier_instance known target (member.Instance line name block) =
    earlier_with target name (length known.names) (place_in known.names block) (ports_named known block) (place_within known.names block)
earlier_instance known target (member.Port port) = tt
earlier_instance known target (member.Signal line name x) = tt
earlier_instance known target (member.DeSignal line name x start) = tt
earlier_instance known target (member.Bind line i p t) = tt

earlier_instances : (known : Known) (target : List ℕ → List ℕ → Option Target) (ms : List Member) → AllByRecursion (λ i. i.block < length known.names) (flat_map (instance_of known target) ms)
earlier_instances known target [] = tt
earlier_instances known target (m ∷ ms) = all_append _ (instance_of known target m) _ (earlier_instance known target m) (earlier_instances known target ms)

earlier_in : (globals : Names) (known : Known) (block : PureComposite) (done : List BlockOf) (b : BlockOf) → Fits known done → IsComposite globals known block b
    → AllByRecursion (λ i. i.block < length done) b.instances
earlier_in globals known block done b fits is =
    subst (λ n. AllByRecursion (λ (i : InstanceOf). i.block < n) b.instances) fits.long
    (subst (λ (l : List InstanceOf). AllByRecursion (λ i. i.block < length known.names) l) (sym is.instances)
    (earlier_instances known (target_of (inside_of block.members) block.members) block.members))

later_number : (done bs : List BlockOf) (b x : BlockOf) (n : ℕ) → AllByRecursion (λ i. i.block < length (done ++ b ∷ []) + n) x.instances → AllByRecursion (λ i. i.block < length done + suc n) x.instances
later_number done bs b x n = weaker _ _ (λ i h. subst (λ k. i.block < k) (same n) h) x.instances
  where
    same : (n : ℕ) → length (done ++ b ∷ []) + n ≡ length done + suc n
    same n = let e = length_push done b in omega (arith, e)

here_number : (done : List BlockOf) (x : BlockOf) → AllByRecursion (λ i. i.block < length done) x.instances → AllByRecursion (λ i. i.block < length done + 0) x.instances
here_number done x = weaker _ _ (λ i h. omega (arith, h)) x.instances

earlier_all : (globals : Names) (gs : List PureGlobal) (known : Known) (done bs : List BlockOf) → Fits known done → AreBlocks globals known gs bs
    → (n : ℕ) (x : BlockOf) → slice_get bs n ≡ Some x → AllByRecursion (λ i. i.block < length done + n) x.instances
earlier_all globals [] known done bs fits are n x e = let f : None ≡ Some x = sym (ap (λ (l : List BlockOf). slice_get l n) are) ∙ e in cc
earlier_all globals (GShape t ∷ gs) known done bs fits are n x e = earlier_all globals gs known done bs fits are n x e
earlier_all globals (GTdf block ∷ gs) known done [] fits are n x e = absurd are
earlier_all globals (GTdf block ∷ gs) known done (b ∷ bs) fits are zero x e =
    let same : b ≡ x = cc in
    subst (λ (l : List InstanceOf). AllByRecursion (λ i. i.block < length done + 0) l) (ap (λ (y : BlockOf). y.instances) (sym are.0 ∙ same)) tt
earlier_all globals (GTdf block ∷ gs) known done (b ∷ bs) fits are (suc n) x e =
    later_number done bs b x n (earlier_all globals gs (with_block block.name (ports_of_tdf block) known) (done ++ b ∷ []) bs (fits_push block.name (ports_of_tdf block) known done b (ap (λ (y : BlockOf). y.ports) are.0) fits) are.1 n x e)
earlier_all globals (GDe block ∷ gs) known done [] fits are n x e = absurd are
earlier_all globals (GDe block ∷ gs) known done (b ∷ bs) fits are zero x e =
    let same : b ≡ x = cc in
    subst (λ (l : List InstanceOf). AllByRecursion (λ i. i.block < length done + 0) l) (ap (λ (y : BlockOf). y.instances) (sym are.0 ∙ same)) tt
earlier_all globals (GDe block ∷ gs) known done (b ∷ bs) fits are (suc n) x e =
    later_number done bs b x n (earlier_all globals gs (with_block block.name (ports_of_de block) known) (done ++ b ∷ []) bs (fits_push block.name (ports_of_de block) known done b (ap (λ (y : BlockOf). y.ports) are.0) fits) are.1 n x e)
earlier_all globals (GNet block ∷ gs) known done [] fits are n x e = absurd are
earlier_all globals (GNet block ∷ gs) known done (b ∷ bs) fits are zero x e =
    let same : b ≡ x = cc in
    here_number done x (subst (λ (y : BlockOf). AllByRecursion (λ i. i.block < length done) y.instances) same (earlier_in globals known block done b fits are.0))
earlier_all globals (GNet block ∷ gs) known done (b ∷ bs) fits are (suc n) x e =
    later_number done bs b x n (earlier_all globals gs (with_block block.name (ports_of_composite block) known) (done ++ b ∷ []) bs (fits_push block.name (ports_of_composite block) known done b are.0.ports fits) are.1 n x e)

pub refers_back : RefersBack
refers_back model blocks are n x e =
    All-from_recursion (λ i. i.block < n) x.instances (weaker _ _ (λ i h. omega (arith, h)) x.instances
    (earlier_all (globals_of model.globals) (whole model) no_blocks [] blocks fits_none are n x e))

-- targets are in range
signal_one : (m : Member) → length (declared_by m) ≡ length (name_of_signal m)
signal_one (member.Signal line name x) = refl
signal_one (member.DeSignal line name x start) = refl
signal_one (member.Port port) = refl
signal_one (member.Instance line name block) = refl
signal_one (member.Bind line i p t) = refl

signals_long : (ms : List Member) → length (flat_map declared_by ms) ≡ length (flat_map name_of_signal ms)
signals_long [] = refl
signals_long (m ∷ ms) =
    length-append (declared_by m) (flat_map declared_by ms)
    ∙ ap (λ n. n + length (flat_map declared_by ms)) (signal_one m)
    ∙ ap (λ n. length (name_of_signal m) + n) (signals_long ms)
    ∙ sym (length-append (name_of_signal m) (flat_map name_of_signal ms))

in_range : (ms : List Member) (b : BlockOf) → length b.signals ≡ length (flat_map name_of_signal ms) → b.ports ≡ length (inside_of ms).ports → (t : Target) → IsWithin (inside_of ms) t → IsTarget b t
in_range ms b signals ports (Own k) within = subst (λ n. k < n) (sym signals) within
in_range ms b signals ports (Outer k) within = subst (λ n. k < n) (sym ports) within

is_target : (ms : List Member) (b : BlockOf) → length b.signals ≡ length (flat_map name_of_signal ms) → b.ports ≡ length (inside_of ms).ports
    → (o : Option Target) → IsTargeted (inside_of ms) o → IsTarget b (or_first o)
is_target ms b signals ports o is = subst (λ (q : Option Target). IsTarget b (or_first q)) (sym is.is) (in_range ms b signals ports is.target is.within)

targets_in : (ms : List Member) (b : BlockOf) → length b.signals ≡ length (flat_map name_of_signal ms) → b.ports ≡ length (inside_of ms).ports → AllByRecursion (BindsWell ms) ms
    → (name : List ℕ) (ports : List PortLine) → AllByRecursion (λ p. is_bound ms name p.name ≡ true) ports
    → AllByRecursion (IsTarget b) (targets_of (target_of (inside_of ms) ms) name ports)
targets_in ms b signals ports well name list bound =
    all_map (IsTarget b) (λ (p : PortLine). or_first (target_of (inside_of ms) ms name p.name)) list
    (weaker _ _ (λ p is. is_target ms b signals ports (target_of (inside_of ms) ms name p.name) (targeted ms ms name p.name None well (inr is))) list bound)

-- what a composite without a fault gives: `all` are the blocks of the model, `done` those before it
bound_with : (all done : List BlockOf) (known : Known) (ms : List Member) (b : BlockOf) (line : ℕ) (name : List ℕ) (o : Option ℕ)
    → ((k : ℕ) (c : BlockOf) → o ≡ Some k → slice_get all k ≡ Some c → slice_get done k ≡ Some c) → AllZip HasPorts known.ports done
    → length b.signals ≡ length (flat_map name_of_signal ms) → b.ports ≡ length (inside_of ms).ports → AllByRecursion (BindsWell ms) ms
    → free_faults (is_bound ms) line name (found_at known.ports o) ≡ []
    → AllByRecursion (IsInstanceBound all b) (instance_with (target_of (inside_of ms) ms) name o (found_at known.ports o))
bound_with all done known ms b line name None before fits signals ports well free = tt
bound_with all done known ms b line name (Some k) before fits signals ports well free = go (slice_get known.ports k) refl free
  where
    go : (q : Option (List PortLine)) → slice_get known.ports k ≡ q → free_faults (is_bound ms) line name q ≡ []
        → AllByRecursion (IsInstanceBound all b) (instance_with (target_of (inside_of ms) ms) name (Some k) q)
    go None at free = tt
    go (Some list) at free = (
      record {
        targets = All-from_recursion (IsTarget b) (targets_of (target_of (inside_of ms) ms) name list) (targets_in ms b signals ports well name list (all_bound (is_bound ms) line name list free));
        ports = λ c e. length-map list (λ (p : PortLine). or_first (target_of (inside_of ms) ms name p.name)) ∙ sym (zip_at known.ports done k list c fits at (before k c refl e));
      },
      tt,
    )

bound_instance : (all done : List BlockOf) (around : Around) (ms : List Member) (b : BlockOf) (m : Member)
    → ((k : ℕ) (c : BlockOf) → k < length done → slice_get all k ≡ Some c → slice_get done k ≡ Some c) → Fits around.known done
    → length b.signals ≡ length (flat_map name_of_signal ms) → b.ports ≡ length (inside_of ms).ports → AllByRecursion (BindsWell ms) ms
    → instance_faults around (is_bound ms) m ≡ [] → AllByRecursion (IsInstanceBound all b) (instance_of around.known (target_of (inside_of ms) ms) m)
unfolding instance_faults instance_of
bound_instance all done around ms b (member.Instance line name block) before fits signals ports well free =
    bound_with all done around.known ms b line name (place_in around.known.names block)
    (λ k c is e. before k c (subst (λ n. k < n) fits.long (place_within around.known.names block k is)) e) fits.ports signals ports well free
bound_instance all done around ms b (member.Port port) before fits signals ports well free = tt
bound_instance all done around ms b (member.Signal line name x) before fits signals ports well free = tt
bound_instance all done around ms b (member.DeSignal line name x start) before fits signals ports well free = tt
bound_instance all done around ms b (member.Bind line i p t) before fits signals ports well free = tt

bound_instances : (all done : List BlockOf) (around : Around) (ms : List Member) (b : BlockOf) (rest : List Member)
    → ((k : ℕ) (c : BlockOf) → k < length done → slice_get all k ≡ Some c → slice_get done k ≡ Some c) → Fits around.known done
    → length b.signals ≡ length (flat_map name_of_signal ms) → b.ports ≡ length (inside_of ms).ports → AllByRecursion (BindsWell ms) ms
    → flat_map (instance_faults around (is_bound ms)) rest ≡ [] → AllByRecursion (IsInstanceBound all b) (flat_map (instance_of around.known (target_of (inside_of ms) ms)) rest)
bound_instances all done around ms b [] before fits signals ports well free = tt
bound_instances all done around ms b (m ∷ rest) before fits signals ports well free =
    all_append (IsInstanceBound all b) (instance_of around.known (target_of (inside_of ms) ms) m) _
    (bound_instance all done around ms b m before fits signals ports well (none_first _ _ free))
    (bound_instances all done around ms b rest before fits signals ports well (none_second (instance_faults around (is_bound ms) m) _ free))

bound_composite : (globals : Names) (known : Known) (block : PureComposite) (all done : List BlockOf) (b : BlockOf)
    → ((k : ℕ) (c : BlockOf) → k < length done → slice_get all k ≡ Some c → slice_get done k ≡ Some c) → Fits known done
    → IsComposite globals known block b → composite_link_faults globals known block ≡ [] → AllByRecursion (IsInstanceBound all b) b.instances
unfolding composite_link_faults
bound_composite globals known block all done b before fits is free =
    let ms = block.members in
    let around = around_of globals known block in
    subst (λ (l : List InstanceOf). AllByRecursion (IsInstanceBound all b) l) (sym is.instances)
    (bound_instances all done around ms b ms before fits (AllZip-long (IsSignal globals) (flat_map declared_by ms) b.signals is.signals ∙ signals_long ms) is.ports
    (all_bind_well around ms [] ms refl (none_first _ _ free))
    (none_second (binds_faults around [] ms) _ free))

done_first : (all done bs : List BlockOf) → all ≡ done ++ bs → (k : ℕ) (c : BlockOf) → k < length done → slice_get all k ≡ Some c → slice_get done k ≡ Some c
done_first all done bs is k c within e = sym (get_left done bs k within) ∙ sym (ap (λ (l : List BlockOf). slice_get l k) is) ∙ e

next_done : (all done bs : List BlockOf) (b : BlockOf) → all ≡ done ++ b ∷ bs → all ≡ (done ++ b ∷ []) ++ bs
next_done all done bs b is = is ∙ sym (append_assoc done (b ∷ []) bs)

bound_all : (globals : Names) (gs : List PureGlobal) (known : Known) (all done bs : List BlockOf) → all ≡ done ++ bs → Fits known done → AreBlocks globals known gs bs
    → globals_link_faults globals known gs ≡ [] → (n : ℕ) (x : BlockOf) → slice_get bs n ≡ Some x → AllByRecursion (IsInstanceBound all x) x.instances
unfolding globals_link_faults
bound_all globals [] known all done bs is fits are free n x e = let f : None ≡ Some x = sym (ap (λ (l : List BlockOf). slice_get l n) are) ∙ e in cc
bound_all globals (GShape t ∷ gs) known all done bs is fits are free n x e = bound_all globals gs known all done bs is fits are free n x e
bound_all globals (GTdf block ∷ gs) known all done [] is fits are free n x e = absurd are
bound_all globals (GTdf block ∷ gs) known all done (b ∷ bs) is fits are free zero x e =
    let same : b ≡ x = cc in
    subst (λ (l : List InstanceOf). AllByRecursion (IsInstanceBound all x) l) (ap (λ (y : BlockOf). y.instances) (sym are.0 ∙ same)) tt
bound_all globals (GTdf block ∷ gs) known all done (b ∷ bs) is fits are free (suc n) x e =
    bound_all globals gs (with_block block.name (ports_of_tdf block) known) all (done ++ b ∷ []) bs (next_done all done bs b is)
    (fits_push block.name (ports_of_tdf block) known done b (ap (λ (y : BlockOf). y.ports) are.0) fits) are.1 free n x e
bound_all globals (GDe block ∷ gs) known all done [] is fits are free n x e = absurd are
bound_all globals (GDe block ∷ gs) known all done (b ∷ bs) is fits are free zero x e =
    let same : b ≡ x = cc in
    subst (λ (l : List InstanceOf). AllByRecursion (IsInstanceBound all x) l) (ap (λ (y : BlockOf). y.instances) (sym are.0 ∙ same)) tt
bound_all globals (GDe block ∷ gs) known all done (b ∷ bs) is fits are free (suc n) x e =
    bound_all globals gs (with_block block.name (ports_of_de block) known) all (done ++ b ∷ []) bs (next_done all done bs b is)
    (fits_push block.name (ports_of_de block) known done b (ap (λ (y : BlockOf). y.ports) are.0) fits) are.1 free n x e
bound_all globals (GNet block ∷ gs) known all done [] is fits are free n x e = absurd are
bound_all globals (GNet block ∷ gs) known all done (b ∷ bs) is fits are free zero x e =
    let same : b ≡ x = cc in
    subst (λ (y : BlockOf). AllByRecursion (IsInstanceBound all y) y.instances) same
    (bound_composite globals known block all done b (done_first all done (b ∷ bs) is) fits are.0 (none_first _ _ free))
bound_all globals (GNet block ∷ gs) known all done (b ∷ bs) is fits are free (suc n) x e =
    bound_all globals gs (with_block block.name (ports_of_composite block) known) all (done ++ b ∷ []) bs (next_done all done bs b is)
    (fits_push block.name (ports_of_composite block) known done b are.0.ports fits) are.1 (none_second (composite_link_faults globals known block) _ free) n x e

-- `top` is the last block
no_more : (bs : List BlockOf) → length bs ≡ 0 → bs ≡ []
no_more [] e = refl
no_more (b ∷ bs) e = absurd (omega (arith, e))

no_fault_last : (globals : Names) (gs : List PureGlobal) (known : Known) (top : PureComposite) → globals_link_faults globals known gs ≡ [] → composite_link_faults globals (known_after_all gs known) top ≡ []
    → globals_link_faults globals known (gs ++ GNet top ∷ []) ≡ []
unfolding globals_link_faults known_after_all
no_fault_last globals [] known top first last = append-nil (composite_link_faults globals known top) ∙ last
no_fault_last globals (g ∷ gs) known top first last =
    ap (λ fs. fs ++ globals_link_faults globals (known_after g known) (gs ++ GNet top ∷ [])) (none_first (global_link_faults globals known g) _ first)
    ∙ no_fault_last globals gs (known_after g known) top (none_second (global_link_faults globals known g) _ first) last

some_block : (globals : Names) (gs : List PureGlobal) (known : Known) (top : PureComposite) → AreBlocks globals known (gs ++ GNet top ∷ []) [] → ⊥
some_block globals [] known top are = are
some_block globals (GShape t ∷ gs) known top are = some_block globals gs known top are
some_block globals (GTdf block ∷ gs) known top are = are
some_block globals (GDe block ∷ gs) known top are = are
some_block globals (GNet block ∷ gs) known top are = are

last_ports : (globals : Names) (gs : List PureGlobal) (known : Known) (top : PureComposite) (bs : List BlockOf) (n : ℕ) (x : BlockOf)
    → AreBlocks globals known (gs ++ GNet top ∷ []) bs → n + 1 ≡ length bs → slice_get bs n ≡ Some x → x.ports ≡ length (ports_of_composite top)
last_ports globals [] known top [] n x are long e = absurd are
last_ports globals [] known top (b ∷ bs) zero x are long e = let same : b ≡ x = cc in ap (λ (y : BlockOf). y.ports) (sym same) ∙ are.0.ports
last_ports globals [] known top (b ∷ bs) (suc n) x are long e = let f : None ≡ Some x = sym (ap (λ (l : List BlockOf). slice_get l n) are.1) ∙ e in cc
last_ports globals (GShape t ∷ gs) known top bs n x are long e = last_ports globals gs known top bs n x are long e
last_ports globals (GTdf block ∷ gs) known top [] n x are long e = absurd are
last_ports globals (GTdf block ∷ gs) known top (b ∷ bs) zero x are long e = absurd (some_block globals gs _ top (subst (AreBlocks globals _ (gs ++ GNet top ∷ [])) (no_more bs (omega (arith, long))) are.1))
last_ports globals (GTdf block ∷ gs) known top (b ∷ bs) (suc n) x are long e = last_ports globals gs _ top bs n x are.1 (omega (arith, long)) e
last_ports globals (GDe block ∷ gs) known top [] n x are long e = absurd are
last_ports globals (GDe block ∷ gs) known top (b ∷ bs) zero x are long e = absurd (some_block globals gs _ top (subst (AreBlocks globals _ (gs ++ GNet top ∷ [])) (no_more bs (omega (arith, long))) are.1))
last_ports globals (GDe block ∷ gs) known top (b ∷ bs) (suc n) x are long e = last_ports globals gs _ top bs n x are.1 (omega (arith, long)) e
last_ports globals (GNet block ∷ gs) known top [] n x are long e = absurd are
last_ports globals (GNet block ∷ gs) known top (b ∷ bs) zero x are long e = absurd (some_block globals gs _ top (subst (AreBlocks globals _ (gs ++ GNet top ∷ [])) (no_more bs (omega (arith, long))) are.1))
last_ports globals (GNet block ∷ gs) known top (b ∷ bs) (suc n) x are long e = last_ports globals gs _ top bs n x are.1 (omega (arith, long)) e

pub binds_all : BindsAll
unfolding link_faults
binds_all model blocks are free none = record {
  each = λ n x e.
      All-from_recursion (IsInstanceBound blocks x) x.instances
      (bound_all globals (whole model) no_blocks blocks [] blocks refl fits_none are
      (no_fault_last globals model.globals no_blocks model.top (none_first _ _ free) (none_second (globals_link_faults globals no_blocks model.globals) _ free)) n x e);
  closed = λ x e. closed x e;
}
  where
    globals : Names
    globals = globals_of model.globals

    closed : (x : BlockOf) → slice_get blocks (length blocks - 1) ≡ Some x → x.ports ≡ 0
    closed x e =
        let within : length blocks - 1 < length blocks = slice_get_within blocks (length blocks - 1) x e in
        last_ports globals model.globals no_blocks model.top blocks (length blocks - 1) x are (omega (arith, within)) e ∙ ap length none
