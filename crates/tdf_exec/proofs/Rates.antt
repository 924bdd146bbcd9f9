-- No initialize, processing or reinitialize body of a model without a fault sets a rate variable.
use Rattle.std.proofs.Common.{◌≡◌, ◌∙◌, ℕ, zero, suc, ◌+◌, ◌-◌, Bool, true, false, not, List, [], ◌∷◌, ◌++◌, Option, Some, None, refl, sym, ap, subst, ℤ, pos, negsuc, if◌then◌else◌}
use Rattle.std.proofs.lemmas.Option.{same_Some}
use Rattle.std.specs.List.{flat_map}
use Rattle.std.specs.Prelude.{slice_get}
use Rattle.tdf_base.specs.declared.codes.Code.{Code}
use Rattle.tdf_base.specs.declared.codes.Code.TheVariants as code
use Rattle.tdf_expr_blocks.specs.Blocks.{bodies_faults, tdf_faults}
use Rattle.tdf_expr_blocks.specs.Lines.{attr_faults, initial_faults, tdf_line_faults}
use Rattle.tdf_expr_blocks.specs.Types.{global_faults, type_faults}
use Rattle.tdf_exec.specs.Laws.{RatesAreBegun, RatesAreKept}
use Rattle.tdf_expr.specs.Blocks.{Events, Module, PureBlock, blocks_of, body_of}
use Rattle.tdf_expr.specs.Runs.{scope_in}
use Rattle.tdf_expr.specs.declared.bodies.Body.TheVariants.{Initialize, Processing, Reinitialize}
use Rattle.tdf_base.proofs.Api.{none_first, none_second}
use Rattle.tdf_base.specs.First.{fault_if}
use Rattle.tdf_fixed.specs.declared.raw.Raw.{Raw}
use Rattle.tdf_expr_semantics.specs.Bodies.{after, after_all, after_body, assigned_at, limit_value, noticed_at, repeated, step_assigned, stepped_at, target_index, with_element}
use Rattle.tdf_expr_semantics.specs.Value.{holds, value}
use Rattle.tdf_expr_symbols.specs.Faults.{changes, expr_faults, limit_faults, opened, stmt_faults, stmts_faults}
use Rattle.tdf_expr_symbols.specs.Names.{Array, Composite, Const, De, DeSignal, Event, Instance, Loop, Names, Port, RateVar, Signal, Tdf, Thing, TypeName, Var, globals_of, place_of, thing_of}
use Rattle.tdf_expr_symbols.specs.Scope.{OpenLoop, Scope, tdf_scope}
use Rattle.tdf_expr_symbols.specs.declared.kinds.Part.{Part}
use Rattle.tdf_expr_symbols.specs.declared.kinds.Part.TheVariants as part
use Rattle.tdf_expr_state.specs.State.{State}
use Rattle.tdf_expr_types.specs.Bodies as widths
use Rattle.tdf_lang_tree.specs.Pure.{Done, GDe, GNet, GShape, GTdf, More, PureGlobal, PureStmt, PureStmts, PureTdf, SAccept, SAssign, SFor, SIf, SNotify, SReject, SSetRate, SSetStep}

element_rates : (own : Names) (n : ℕ) (t : Thing) (k : ℕ) (v : Raw) (s : State) → (with_element own n t k v s).frame.rates ≡ s.frame.rates
element_rates own n (Const (Some x) y) k v s = refl
element_rates own n (Const None y) k v s = refl
element_rates own n (Var (Some x) y) k v s = refl
element_rates own n (Var None y) k v s = refl
element_rates own n (Array (Some x) y z) k v s = refl
element_rates own n (Array None y z) k v s = refl
element_rates own n (Port w (Some x) y z) k v s = refl
element_rates own n (Port w None y z) k v s = refl
element_rates own n (RateVar x y z) k v s = refl
element_rates own n Event k v s = refl
element_rates own n (Signal (Some x)) k v s = refl
element_rates own n (Signal None) k v s = refl
element_rates own n (DeSignal (Some x) y) k v s = refl
element_rates own n (DeSignal None y) k v s = refl
element_rates own n Instance k v s = refl
element_rates own n (Loop x y) k v s = refl
element_rates own n (TypeName x) k v s = refl
element_rates own n Tdf k v s = refl
element_rates own n De k v s = refl
element_rates own n Composite k v s = refl

assigned_rates : (own : Names) (n : Option ℕ) (t : Option Thing) (k : ℤ) (v : Raw) (s : State) → (assigned_at own n t k v s).frame.rates ≡ s.frame.rates
assigned_rates own None t k v s = refl
assigned_rates own (Some n) None k v s = refl
assigned_rates own (Some n) (Some t) (pos k) v s = element_rates own n t k v s
assigned_rates own (Some n) (Some t) (negsuc k) v s = refl

noticed_rates : (own : Names) (n : Option ℕ) (time : ℕ) (s : State) → (noticed_at own n time s).frame.rates ≡ s.frame.rates
noticed_rates own None time s = refl
noticed_rates own (Some n) time s = refl

step_rates : (own : Names) (n : Option ℕ) (step : ℕ) (s : State) → (stepped_at own n step s).frame.rates ≡ s.frame.rates
step_rates own None step s = refl
step_rates own (Some n) step s = refl

stepped_rates : (own : Names) (port : Option (List ℕ)) (step : ℕ) (s : State) → (step_assigned own port step s).frame.rates ≡ s.frame.rates
stepped_rates own None step s = refl
stepped_rates own (Some port) step s = step_rates own (place_of own port) step s

repeated_rates : (turn : ℕ → State → State) (from count : ℕ) → ((i : ℕ) (s : State) → (turn i s).frame.rates ≡ s.frame.rates) → (s : State) → (repeated turn from count s).frame.rates ≡ s.frame.rates
repeated_rates turn from zero one s = refl
repeated_rates turn from (suc count) one s = one (from + count) (repeated turn from count s) ∙ repeated_rates turn from count one s

fault_there : (c : Code) (line : ℕ) → fault_if true c line ≡ [] → ⊥
unfolding fault_if
fault_there c line e = cc

module _ (scope : Scope) (body : Part) (plain : changes scope body ≡ false) where
  mutual
    stmt_rates : (loops : List OpenLoop) (x : PureStmt) (turns : List ℕ) (s : State) → stmt_faults scope body loops x ≡ [] → (after scope loops turns x s).frame.rates ≡ s.frame.rates
    stmt_rates loops (SAssign line name i e) turns s none =
        assigned_rates scope.own (place_of scope.own name) (thing_of scope.own name) (target_index loops turns i) (value scope loops turns s e) s
    stmt_rates loops (SIf line test a b) turns s none =
        let rest = none_second (expr_faults scope loops body line test) _ none in
        choose (holds (value scope loops turns s test)) (stmts_rates loops a turns s (none_first _ _ rest)) (stmts_rates loops b turns s (none_second (stmts_faults scope body loops a) _ rest))
      where
        choose : (t : Bool) → (after_all scope loops turns a s).frame.rates ≡ s.frame.rates → (after_all scope loops turns b s).frame.rates ≡ s.frame.rates
            → (if t then after_all scope loops turns a s else after_all scope loops turns b s).frame.rates ≡ s.frame.rates
        choose true p q = p
        choose false p q = q
    stmt_rates loops (SFor line name from end inner) turns s none =
        let rest = none_second (limit_faults scope loops line end) _ none in
        repeated_rates (λ i t. after_all scope (loops ++ opened name from end ∷ []) (turns ++ i ∷ []) inner t) from (limit_value scope.own s end - from)
        (λ i t. stmts_rates (loops ++ opened name from end ∷ []) inner (turns ++ i ∷ []) t (none_second _ _ rest)) s
    stmt_rates loops (SNotify line event time) turns s none = noticed_rates scope.own (place_of scope.own event) time s
    stmt_rates loops (SSetRate line name e) turns s none =
        absurd (fault_there code.Kind line (ap (λ b. fault_if (not b) code.Kind line) (sym plain) ∙ none_first _ _ none))
    stmt_rates loops (SSetStep line port step) turns s none = stepped_rates scope.own port step s
    stmt_rates loops (SAccept line) turns s none = refl
    stmt_rates loops (SReject line) turns s none = refl

    pub stmts_rates : (loops : List OpenLoop) (xs : PureStmts) (turns : List ℕ) (s : State) → stmts_faults scope body loops xs ≡ [] → (after_all scope loops turns xs s).frame.rates ≡ s.frame.rates
    stmts_rates loops Done turns s none = refl
    stmts_rates loops (More x xs) turns s none =
        stmts_rates loops xs turns (after scope loops turns x s) (none_second (stmt_faults scope body loops x) _ none)
        ∙ stmt_rates loops x turns s (none_first (stmt_faults scope body loops x) _ none)

-- a block of a model without a fault has none
module _ (globals : Names) where
  block_faults : (gs : List PureGlobal) (n : ℕ) (block : PureTdf) → flat_map (global_faults globals) gs ≡ [] → slice_get (blocks_of gs) n ≡ Some (Module block) → tdf_faults globals block ≡ []
  unfolding global_faults
  block_faults [] n block none at = absurd cc
  block_faults (GShape t ∷ gs) n block none at = block_faults gs n block (none_second (global_faults globals (GShape t)) _ none) at
  block_faults (GNet b ∷ gs) n block none at = block_faults gs n block (none_second (global_faults globals (GNet b)) _ none) at
  block_faults (GTdf b ∷ gs) zero block none at = subst (λ x. of_block x) (same_Some (Module b) (Module block) at) (none_first (global_faults globals (GTdf b)) _ none)
    where
      of_block : PureBlock → Type 0
      of_block (Module x) = tdf_faults globals x ≡ []
      of_block (Events x) = ⊥
  block_faults (GTdf b ∷ gs) (suc n) block none at = block_faults gs n block (none_second (global_faults globals (GTdf b)) _ none) at
  block_faults (GDe b ∷ gs) zero block none at = absurd cc
  block_faults (GDe b ∷ gs) (suc n) block none at = block_faults gs n block (none_second (global_faults globals (GDe b)) _ none) at

  own_faults : (block : PureTdf) → tdf_faults globals block ≡ [] → bodies_faults (tdf_scope globals block) block ≡ []
  unfolding tdf_faults
  own_faults block none =
      let a = none_second (flat_map (tdf_line_faults (tdf_scope globals block).globals) block.decls) _ none in
      let b = none_second (flat_map (attr_faults (tdf_scope globals block)) block.attrs) _ a in
      none_second (flat_map (initial_faults (tdf_scope globals block)) block.initials) _ b

  initialize_faults : (block : PureTdf) → tdf_faults globals block ≡ [] → stmts_faults (tdf_scope globals block) part.Initialize [] block.initialize.list ≡ []
  unfolding widths.body_faults
  initialize_faults block none = none_first _ _ (none_first (widths.body_faults (tdf_scope globals block) part.Initialize block.initialize) _ (own_faults block none))

  processing_faults : (block : PureTdf) → tdf_faults globals block ≡ [] → stmts_faults (tdf_scope globals block) part.Processing [] block.processing.list ≡ []
  unfolding widths.body_faults
  processing_faults block none =
      none_first _ _ (none_first (widths.body_faults (tdf_scope globals block) part.Processing block.processing) _
      (none_second (widths.body_faults (tdf_scope globals block) part.Initialize block.initialize) _ (own_faults block none)))

  reinitialize_faults : (block : PureTdf) → tdf_faults globals block ≡ [] → stmts_faults (tdf_scope globals block) part.Reinitialize [] block.reinitialize.list ≡ []
  unfolding widths.body_faults
  reinitialize_faults block none =
      none_first _ _ (none_second (widths.body_faults (tdf_scope globals block) part.Change block.change) _
      (none_second (widths.body_faults (tdf_scope globals block) part.Processing block.processing) _
      (none_second (widths.body_faults (tdf_scope globals block) part.Initialize block.initialize) _ (own_faults block none))))

pub rates_are_kept : RatesAreKept
unfolding type_faults
rates_are_kept model flat none are = record {
  model = model;
  are = are;
  keeps = kept;
  again = begun_again;
}
  where
    kept : (number : ℕ) (block : PureBlock) (s : State) → slice_get (blocks_of model.globals) number ≡ Some block
        → (after_body (scope_in model block) (body_of block Processing) s).frame.rates ≡ s.frame.rates
    kept number (Module block) s at =
        stmts_rates (tdf_scope (globals_of model.globals) block) part.Processing refl [] block.processing.list [] s
        (processing_faults (globals_of model.globals) block (block_faults (globals_of model.globals) model.globals number block (none_first _ _ none) at))
    kept number (Events block) s at = refl

    begun_again : (number : ℕ) (block : PureBlock) (s : State) → slice_get (blocks_of model.globals) number ≡ Some block
        → (after_body (scope_in model block) (body_of block Reinitialize) s).frame.rates ≡ s.frame.rates
    begun_again number (Module block) s at =
        stmts_rates (tdf_scope (globals_of model.globals) block) part.Reinitialize refl [] block.reinitialize.list [] s
        (reinitialize_faults (globals_of model.globals) block (block_faults (globals_of model.globals) model.globals number block (none_first _ _ none) at))
    begun_again number (Events block) s at = refl

pub rates_are_begun : RatesAreBegun
unfolding type_faults
rates_are_begun model flat none are = record {
  model = model;
  are = are;
  begin = begun;
}
  where
    begun : (number : ℕ) (block : PureBlock) (s : State) → slice_get (blocks_of model.globals) number ≡ Some block
        → (after_body (scope_in model block) (body_of block Initialize) s).frame.rates ≡ s.frame.rates
    begun number (Module block) s at =
        stmts_rates (tdf_scope (globals_of model.globals) block) part.Initialize refl [] block.initialize.list [] s
        (initialize_faults (globals_of model.globals) block (block_faults (globals_of model.globals) model.globals number block (none_first _ _ none) at))
    begun number (Events block) s at = refl
