-- A process of another instance assigns no port that reaches a signal of the last one.
use Rattle.std.proofs.Common.{◌≡◌, ◌∙◌, ℕ, zero, suc, ◌+◌, true, false, List, [], ◌∷◌, ◌++◌, map, replicate, length, Option, Some, None, slice_get, slice_index, slice_index_or, refl, sym, ap, subst, arith}
use Rattle.std.proofs.lemmas.List.{append-nil}
use Rattle.std.proofs.lemmas.List.Concat.{flat_map-append}
use Rattle.std.proofs.lemmas.Option.{same_Some}
use Rattle.std.specs.List.{AllByRecursion, cons_option, flat_map}
use Rattle.tdf_base.proofs.Api.{none_first, none_second}
use Rattle.tdf_base.specs.declared.first.LineFault.{LineFault}
use Rattle.tdf_bind.specs.declared.model.Flat.{Flat}
use Rattle.tdf_bind_attributes.specs.Roles.{processes_role, roles_from, roles_of}
use Rattle.tdf_bind_connections.specs.Modules.{signal_at}
use Rattle.tdf_bind_connections.specs.ProcessBlocks.{PlacedBlock, ProcessRowOf, as_block, block_row, placed_blocks}
use Rattle.tdf_bind_connections.specs.Roles.{ProcessesOf}
use Rattle.tdf_bind_connections.specs.Writers.{gives}
use Rattle.tdf_bind_connections.specs.declared.roles.Role.{Role}
use Rattle.tdf_bind_connections.specs.declared.roles.Role.TheVariants.{Composite, Module, Processes}
use Rattle.tdf_bind_hierarchy.specs.Tables.{RowOf}
use Rattle.tdf_bind_hierarchy.specs.declared.tables.SignalNumber.{SignalNumber}
use Rattle.tdf_bind_ports.specs.Ports.{port_of_de_line}
use Rattle.tdf_events.specs.Processes.{after_process, process_done, process_ports_before}
use Rattle.tdf_events_invariants.specs.Runnable.{DeclareEventPorts, HasEventPorts, IsEventKind, IsEventLine}
use Rattle.tdf_expr.specs.Blocks.{Events, PureBlock, block_of, blocks_of, body_of}
use Rattle.tdf_expr.specs.Frames.{is_written}
use Rattle.tdf_expr.specs.Made.{event_count, port_spans_of}
use Rattle.tdf_expr.specs.declared.bodies.Body.TheVariants.{Process}
use Rattle.tdf_expr_blocks.specs.Blocks.{de_faults}
use Rattle.tdf_expr_blocks.specs.Types.{global_faults, type_faults}
use Rattle.tdf_expr_names.specs.Names.{de_lines_faults, de_name_faults, declares, global_name_faults, in_order, name_faults, names_of_global, with_names}
use Rattle.tdf_expr_semantics.specs.Bodies.{after_body}
use Rattle.tdf_expr_state.specs.State.{FrameState, State, state_of}
use Rattle.tdf_expr_symbols.specs.Names.{Names, globals_of}
use Rattle.tdf_expr_symbols.specs.Scope.{de_scope}
use Rattle.tdf_fixed.specs.declared.raw.Raw.{Raw}
use Rattle.tdf_lang_tree.specs.Pure.{DEvent, DPort, DStore, GDe, GNet, GShape, GTdf, PureDe, PureDeLine, PureGlobal, PureTree}
use Rattle.tdf_lang_tree.specs.declared.blocks.PortKind.{PortKind}
use Rattle.tdf_lang_tree.specs.declared.blocks.PortKind.TheVariants.{DeIn, DeOut, In, Out}
use Rattle.tdf_lang_tree.specs.declared.blocks.PortLine.{PortLine}
use Rattle.tdf_stim_flat.proofs.Api.{marks_are_written}
use Rattle.tdf_stim_flat.specs.Ends.{GivesAt}
use Rattle.tdf_stim_flat.specs.Laws.{IsWrittenPort}

-- ---- the block of a role

record IsBlockRole (globals : List PureGlobal) (first : ℕ) (role : ProcessesOf) : Type 0 where
  k : ℕ
  m : ℕ
  de : PureDe
  is : role ≡ processes_role (first + k) de
  block : slice_get (blocks_of globals) k ≡ Some (Events de)
  at : slice_get globals m ≡ Some (GDe de)

role_later : (g : PureGlobal) (globals : List PureGlobal) (first : ℕ) (role : ProcessesOf) → blocks_of (g ∷ globals) ≡ blocks_of globals → IsBlockRole globals first role → IsBlockRole (g ∷ globals) first role
role_later g globals first role same r = record {
  k = r.k;
  m = suc r.m;
  de = r.de;
  is = r.is;
  block = ap (λ (l : List PureBlock). slice_get l r.k) same ∙ r.block;
  at = r.at;
}

role_behind : (g : PureGlobal) (b : PureBlock) (globals : List PureGlobal) (first : ℕ) (role : ProcessesOf) → blocks_of (g ∷ globals) ≡ b ∷ blocks_of globals → IsBlockRole globals (first + 1) role → IsBlockRole (g ∷ globals) first role
role_behind g b globals first role same r = record {
  k = suc r.k;
  m = suc r.m;
  de = r.de;
  is = r.is ∙ (let f : first + 1 + r.k ≡ first + suc r.k = omega arith in ap (λ n. processes_role n r.de) f);
  block = ap (λ (l : List PureBlock). slice_get l (suc r.k)) same ∙ r.block;
  at = r.at;
}

role_same : (x y : ProcessesOf) → Some (Processes x) ≡ Some (Processes y) → x ≡ y
role_same x y e = cc

role_block : (names : Names) (first : ℕ) (globals : List PureGlobal) (n : ℕ) (role : ProcessesOf) → slice_get (roles_from names first globals) n ≡ Some (Processes role) → IsBlockRole globals first role
unfolding roles_from
role_block names first [] n role at = absurd (cc)
role_block names first (GShape t ∷ gs) n role at = role_later (GShape t) gs first role refl (role_block names first gs n role at)
role_block names first (GTdf block ∷ gs) zero role at = absurd (cc)
role_block names first (GTdf block ∷ gs) (suc n) role at = role_behind (GTdf block) _ gs first role refl (role_block names (first + 1) gs n role at)
role_block names first (GDe block ∷ gs) zero role at = record {
  k = 0;
  m = 0;
  de = block;
  is = sym (role_same (processes_role first block) role at) ∙ (let f : first ≡ first + 0 = omega arith in ap (λ n. processes_role n block) f);
  block = refl;
  at = refl;
}
role_block names first (GDe block ∷ gs) (suc n) role at = role_behind (GDe block) _ gs first role refl (role_block names (first + 1) gs n role at)
role_block names first (GNet block ∷ gs) zero role at = absurd (cc)
role_block names first (GNet block ∷ gs) (suc n) role at = role_later (GNet block) gs first role refl (role_block names first gs n role at)

-- a block of all globals, `top` behind them, is one of the globals
not_top : (globals : List PureGlobal) (top : _) (m : ℕ) (de : PureDe) → slice_get (globals ++ GNet top ∷ []) m ≡ Some (GDe de) → slice_get globals m ≡ Some (GDe de)
not_top [] top zero de at = absurd (cc)
not_top [] top (suc m) de at = absurd (cc)
not_top (g ∷ gs) top zero de at = at
not_top (g ∷ gs) top (suc m) de at = not_top gs top m de at

-- ---- faults of one block

nth_none : {L : Type 0} (faults : List (List ℕ) → L → List LineFault) (declared : L → List (List ℕ)) (names : List (List ℕ)) (xs : List L) (m : ℕ) (x : L) → in_order faults declared names xs ≡ [] → slice_get xs m ≡ Some x
    → (before : List (List ℕ)) × (faults before x ≡ [])
nth_none faults declared names [] m x none at = absurd (cc)
nth_none faults declared names (y ∷ ys) zero x none at = (names, ap (faults names) (sym (same_Some y x at)) ∙ none_first (faults names y) _ none)
nth_none faults declared names (y ∷ ys) (suc m) x none at = nth_none faults declared (with_names names (declared y)) ys m x (none_second (faults names y) _ none) at

names_once : (model : PureTree) (m : ℕ) (de : PureDe) → name_faults model ≡ [] → slice_get model.globals m ≡ Some (GDe de) → (names : List (List ℕ)) × (de_lines_faults names [] de.decls ≡ [])
unfolding name_faults
names_once model m de none at =
    let found = nth_none global_name_faults names_of_global [] model.globals m (GDe de) (none_first _ _ none) at in
    let own : de_name_faults found.0 de ≡ [] = none_second (declares found.0 de.line de.name) _ found.1 in
    (found.0, none_first _ _ own)

each_none : {A : Type 0} (f : A → List LineFault) (xs : List A) (n : ℕ) (x : A) → flat_map f xs ≡ [] → slice_get xs n ≡ Some x → f x ≡ []
each_none f [] n x none at = absurd (cc)
each_none f (y ∷ ys) zero x none at = ap f (sym (same_Some y x at)) ∙ none_first (f y) (flat_map f ys) none
each_none f (y ∷ ys) (suc n) x none at = each_none f ys n x (none_second (f y) (flat_map f ys) none) at

block_none : (model : PureTree) (m : ℕ) (de : PureDe) → type_faults model ≡ [] → slice_get model.globals m ≡ Some (GDe de) → de_faults (globals_of model.globals) de ≡ []
unfolding type_faults global_faults
block_none model m de none at = each_none (global_faults (globals_of model.globals)) model.globals m (GDe de) (none_first _ _ none) at

each_of : {A : Type 0} (P : A → Type 0) (xs : List A) (n : ℕ) (x : A) → AllByRecursion P xs → slice_get xs n ≡ Some x → P x
each_of P [] n x all at = absurd (cc)
each_of P (y ∷ ys) zero x all at = subst P (same_Some y x at) all.0
each_of P (y ∷ ys) (suc n) x all at = each_of P ys n x all.1 at

event_kind : (ds : List PureDeLine) (j : ℕ) (kind : PortKind) → AllByRecursion IsEventLine ds → slice_get (map (λ (p : PortLine). p.kind) (flat_map port_of_de_line ds)) j ≡ Some kind → IsEventKind kind
event_kind [] j kind all at = absurd (cc)
event_kind (DPort port ∷ ds) zero kind all at = subst IsEventKind (same_Some port.kind kind at) all.0
event_kind (DPort port ∷ ds) (suc j) kind all at = event_kind ds j kind all.1 at
event_kind (DStore store ∷ ds) j kind all at = event_kind ds j kind all.1 at
event_kind (DEvent line name ∷ ds) j kind all at = event_kind ds j kind all.1 at

gives_event : (kind : PortKind) → IsEventKind kind → is_written kind ≡ true → gives true kind ≡ true
gives_event In bad written = absurd bad
gives_event Out bad written = absurd bad
gives_event DeIn good written = absurd (cc)
gives_event DeOut good written = refl

-- ---- an instance of a block of processes

-- the role of one among those that are placed
record IsPlaced (roles : List Role) (placed : PlacedBlock) : Type 0 where
  role_is : slice_get roles placed.instance.block ≡ Some (Processes placed.role)

as_placed : (roles : List Role) (instance : RowOf) (o : Option Role) (placed : PlacedBlock) → slice_get roles instance.block ≡ o → as_block instance o ≡ Some placed → IsPlaced roles placed
as_placed roles instance None placed at is = absurd (cc)
as_placed roles instance (Some (Module role)) placed at is = absurd (cc)
as_placed roles instance (Some Composite) placed at is = absurd (cc)
as_placed roles instance (Some (Processes role)) placed at is =
    subst (IsPlaced roles) (same_Some (record { instance = instance; role = role }) placed is) (record { role_is = at })

placed_at : (roles : List Role) (instances : List RowOf) (n : ℕ) (placed : PlacedBlock) → slice_get (placed_blocks roles instances) n ≡ Some placed → IsPlaced roles placed
placed_at roles [] n placed at = absurd (cc)
placed_at roles (i ∷ is) n placed at = go (as_block i (slice_get roles i.block)) refl n at (placed_at roles is)
  where
    go : (o : Option PlacedBlock) → as_block i (slice_get roles i.block) ≡ o → (k : ℕ) → slice_get (cons_option o (placed_blocks roles is)) k ≡ Some placed
        → ((m : ℕ) (p : PlacedBlock) → slice_get (placed_blocks roles is) m ≡ Some p → IsPlaced roles p) → IsPlaced roles placed
    go None none k there rest = rest k placed there
    go (Some p) is_it zero there rest = as_placed roles i (slice_get roles i.block) placed refl (is_it ∙ there)
    go (Some p) is_it (suc k) there rest = rest k placed there

-- the number of a port's signal
number_at : (signals : List SignalNumber) (j : ℕ) → slice_index (map (λ (s : SignalNumber). s.number) signals) j ≡ signal_at signals j
number_at [] j = refl
number_at (s ∷ ss) zero = refl
number_at (s ∷ ss) (suc j) = number_at ss j

none_marked : (n j : ℕ) → slice_index_or (replicate n false) j false ≡ false
none_marked zero j = refl
none_marked (suc n) zero = refl
none_marked (suc n) (suc j) = none_marked n j

module _ (model : PureTree) (flat : Flat) (names : name_faults model ≡ []) (types : type_faults model ≡ []) (events : DeclareEventPorts model) where
  -- a port that a process marked gives its signal values
  pub marked_gives : (placed : PlacedBlock) (row : ProcessRowOf) (values : List Raw) (frame : FrameState) (j : ℕ) → slice_get (roles_of model) placed.instance.block ≡ Some (Processes placed.role)
      → slice_index_or (process_done model flat row (block_row placed) values frame).ports.assigned j false ≡ true → GivesAt placed j (slice_index (block_row placed).signals j)
  unfolding process_done
  marked_gives placed row values frame j role_at on =
      let r : IsBlockRole (model.globals ++ GNet model.top ∷ []) 0 placed.role = role_block (globals_of model.globals) 0 (model.globals ++ GNet model.top ∷ []) placed.instance.block placed.role role_at in
      let at : slice_get model.globals r.m ≡ Some (GDe r.de) = not_top model.globals model.top r.m r.de r.at in
      let blocks : blocks_of (model.globals ++ GNet model.top ∷ []) ≡ blocks_of model.globals = flat_map-append block_of model.globals (GNet model.top ∷ []) ∙ append-nil (blocks_of model.globals) in
      let number : placed.role.block ≡ r.k = ap (λ (x : ProcessesOf). x.block) r.is ∙ (let f : 0 + r.k ≡ r.k = omega arith in f) in
      let block_at : slice_get (blocks_of model.globals) placed.role.block ≡ Some (Events r.de) = ap (slice_get (blocks_of model.globals)) number ∙ ap (λ (l : List PureBlock). slice_get l r.k) (sym blocks) ∙ r.block in
      let begin : State = state_of frame (process_ports_before values (block_row placed).signals (port_spans_of flat.checked placed.role.block) (event_count flat.checked placed.role.block)) in
      let once = names_once model r.m r.de names at in
      let marked : slice_index_or (after_body (de_scope (globals_of model.globals) r.de) (body_of (Events r.de) (Process row.number)) begin).ports.assigned j false ≡ true =
      ap (λ (o : Option PureBlock). slice_index_or (after_process model o row.number begin).ports.assigned j false) (sym block_at) ∙ on in
      let w : IsWrittenPort r.de j = marks_are_written (globals_of model.globals) once.0 r.de row.number begin once.1 (block_none model r.m r.de types at) (λ i. none_marked (length (port_spans_of flat.checked placed.role.block)) i) j marked in
      let kind : IsEventKind w.kind = event_kind r.de.decls j w.kind (each_of HasEventPorts model.globals r.m (GDe r.de) events at) w.at in
      record {
        kind = w.kind;
        at = ap (λ (x : ProcessesOf). slice_get x.ports j) r.is ∙ w.at;
        gives = gives_event w.kind kind w.written;
        signal_is = sym (number_at placed.instance.signals j);
      }

  pub placed_role : (instances : List RowOf) (n : ℕ) (placed : PlacedBlock) → slice_get (placed_blocks (roles_of model) instances) n ≡ Some placed → slice_get (roles_of model) placed.instance.block ≡ Some (Processes placed.role)
  placed_role instances n placed at = (placed_at (roles_of model) instances n placed at).role_is
