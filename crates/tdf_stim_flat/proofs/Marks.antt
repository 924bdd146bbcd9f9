-- A mark that is set is that of a port that bodies write.
use Rattle.std.proofs.Common.{◌≡◌, ◌∙◌, ℕ, zero, suc, ◌+◌, ◌-◌, Bool, true, false, if◌then◌else◌, List, [], ◌∷◌, ◌++◌, map, Option, Some, None, slice_get, slice_index_or, slice_set, refl, sym, ap, subst, inl, inr, arith, ℤ, pos, negsuc}
use Rattle.std.proofs.lemmas.Bool.{cases_eq, true≢false}
use Rattle.std.proofs.lemmas.List.{get_or-set_other}
use Rattle.std.proofs.lemmas.Option.{same_Some}
use Rattle.std.specs.List.{flat_map}
use Rattle.std.specs.Option.{option_map}
use Rattle.tdf_base.proofs.Api.{none_first, none_second}
use Rattle.tdf_base.specs.declared.first.LineFault.{LineFault}
use Rattle.tdf_bind_ports.specs.Ports.{port_of_de_line, ports_of_de}
use Rattle.tdf_expr.specs.Blocks.{Events, body_of, process_body}
use Rattle.tdf_expr.specs.Frames.{is_written}
use Rattle.tdf_expr.specs.declared.bodies.Body.TheVariants.{Process}
use Rattle.tdf_expr_blocks.specs.Blocks.{de_faults, process_faults}
use Rattle.tdf_expr_blocks.specs.Lines.{de_line_faults, sense_faults}
use Rattle.tdf_expr_names.specs.Names.{de_lines_faults}
use Rattle.tdf_expr_semantics.proofs.Api.{found, of_kind}
use Rattle.tdf_expr_semantics.specs.Bodies.{after, after_all, assigned, assigned_at, limit_value, noticed_at, rate_set, repeated, step_assigned, stepped_at, target_index, whole_within, with_element, with_whole}
use Rattle.tdf_expr_semantics.specs.Places.{before, port_number, ports_of, rate_number}
use Rattle.tdf_expr_semantics.specs.Value.{holds, value}
use Rattle.tdf_expr_state.specs.State.{State}
use Rattle.tdf_expr_symbols.specs.Faults.{expr_faults, limit_faults, opened, stmt_faults, stmts_faults, target_faults}
use Rattle.tdf_expr_symbols.specs.Kinds.{is_allowed}
use Rattle.tdf_expr_symbols.specs.Names.{Array, Event, Loop, Names, Port, RateVar, Thing, Var, de_names, found_at, kind_of, no_names, place_of, thing_of}
use Rattle.tdf_expr_symbols.specs.Scope.{OpenLoop, Scope, as_thing, de_scope, first_some, loop_place, named}
use Rattle.tdf_expr_symbols.specs.declared.kinds.Part.TheVariants as part
use Rattle.tdf_expr_symbols.specs.declared.kinds.Place.TheVariants as place
use Rattle.tdf_expr_types.specs.Bodies.{body_faults}
use Rattle.tdf_fixed.specs.declared.raw.Raw.{Raw}
use Rattle.tdf_lang_tree.specs.Pure.{DEvent, DPort, DStore, Done, More, PureDe, PureDeLine, PureProcess, PureStmt, PureStmts, SAccept, SArray, SAssign, SConst, SFor, SIf, SNotify, SReject, SSetRate, SSetStep, SVar}
use Rattle.tdf_lang_tree.specs.declared.blocks.PortKind.{PortKind}
use Rattle.tdf_lang_tree.specs.declared.blocks.PortKind.TheVariants.{DeIn, DeOut, In, Out}
use Rattle.tdf_lang_tree.specs.declared.blocks.PortLine.{PortLine}
use Rattle.tdf_lang_tree.specs.declared.expr.Index.{Index}
use Rattle.tdf_stim_body.proofs.Api.{AreFresh, all_fresh, all_names, line_thing}
use Rattle.tdf_stim_flat.specs.Laws.{IsWrittenPort, MarksAreWritten}

-- what may be assigned
abbrev IsTarget : Thing → Type 0
IsTarget (Port In shape rate delay) = ⊥
IsTarget (Port DeIn shape rate delay) = ⊥
IsTarget (Loop from end) = ⊥
IsTarget _ = Unit {0}

target_kind : (t : Thing) → is_allowed (place.Target part.Process) (Some (kind_of t)) ≡ true → IsTarget t
unfolding is_allowed
target_kind (Port In a b c) e = absurd (cc)
target_kind (Port DeIn a b c) e = absurd (cc)
target_kind (Loop a b) e = absurd (cc)
target_kind _ e = tt

element_kind : (t : Thing) → is_allowed (place.TargetElement part.Process) (Some (kind_of t)) ≡ true → IsTarget t
unfolding is_allowed
element_kind (Port In a b c) e = absurd (cc)
element_kind (Port DeIn a b c) e = absurd (cc)
element_kind (Loop a b) e = absurd (cc)
element_kind _ e = tt

-- a target isn't a loop variable, so it is the block's own
own_target : (scope : Scope) (loops : List OpenLoop) (name : List ℕ) (t : Thing) → named scope loops name ≡ Some t → IsTarget t → thing_of scope.own name ≡ Some t
unfolding named
own_target scope loops name t is target = go (found_at loops (loop_place loops name)) is
  where
    target_is : Option Thing → Type 0
    target_is (Some x) = IsTarget x
    target_is None = Unit {0}

    go : (o : Option OpenLoop) → first_some (option_map as_thing o) (thing_of scope.own name) ≡ Some t → thing_of scope.own name ≡ Some t
    go None e = e
    go (Some l) e = absurd (subst target_is (sym e) target)

-- what a thing is written as, if it is a port
abbrev written_word : Thing → Option PortKind
written_word (Port word shape rate delay) = Some word
written_word _ = None

record IsPortAt (own : Names) (j : ℕ) : Type 0 where
  n : ℕ
  thing : Thing
  word : PortKind
  at : slice_get own.things n ≡ Some thing
  is : written_word thing ≡ Some word
  number : port_number own n ≡ j
  written : is_written word ≡ true

abbrev AreMarked : Names → State → Type 0
AreMarked own s = (j : ℕ) → slice_index_or s.ports.assigned j false ≡ true → IsPortAt own j

-- one mark more
set_marked : (own : Names) (marks : List Bool) (n : ℕ) (thing : Thing) (word : PortKind) → slice_get own.things n ≡ Some thing → written_word thing ≡ Some word → is_written word ≡ true
    → ((j : ℕ) → slice_index_or marks j false ≡ true → IsPortAt own j) → (j : ℕ) → slice_index_or (slice_set marks (port_number own n) true) j false ≡ true → IsPortAt own j
set_marked own marks n thing word at is written all j on = elim (cases_eq j (port_number own n)) [
  | inl same ↦ record { n = n; thing = thing; word = word; at = at; is = is; number = sym same; written = written }
  | inr apart ↦ all j (sym (get_or-set_other marks (port_number own n) j true false apart) ∙ on)
]

element_marked : (own : Names) (s : State) (n k : ℕ) (t : Thing) (v : Raw) → slice_get own.things n ≡ Some t → IsTarget t → AreMarked own s → AreMarked own (with_element own n t k v s)
element_marked own s n k (Port In shape rate delay) v at target all = absurd target
element_marked own s n k (Port DeIn shape rate delay) v at target all = absurd target
element_marked own s n k (Port Out None rate delay) v at target all = all
element_marked own s n k (Port DeOut None rate delay) v at target all = all
element_marked own s n k (Port Out (Some shape) rate delay) v at target all = set_marked own s.ports.assigned n (Port Out (Some shape) rate delay) Out at refl refl all
element_marked own s n k (Port DeOut (Some shape) rate delay) v at target all = set_marked own s.ports.assigned n (Port DeOut (Some shape) rate delay) DeOut at refl refl all
element_marked own s n k (Var None a) v at target all = all
element_marked own s n k (Var (Some shape) a) v at target all = all
element_marked own s n k (Array None size a) v at target all = all
element_marked own s n k (Array (Some shape) size a) v at target all = all
element_marked own s n k _ v at target all = all

name_marked : (scope : Scope) (s : State) (name : List ℕ) (z : ℤ) (v : Raw) (t : Thing) → thing_of scope.own name ≡ Some t → IsTarget t → AreMarked scope.own s → AreMarked scope.own (assigned scope.own name z v s)
name_marked scope s name z v t is target all =
    let at = found scope.own.things (place_of scope.own name) t is in
    subst (λ (o : Option ℕ). AreMarked scope.own (assigned_at scope.own o (thing_of scope.own name) z v s)) (sym at.1)
    (subst (λ (o : Option Thing). AreMarked scope.own (assigned_at scope.own (Some at.0) o z v s)) (sym is) (go at.0 at.2 z))
  where
    go : (n : ℕ) → slice_get scope.own.things n ≡ Some t → (k : ℤ) → AreMarked scope.own (assigned_at scope.own (Some n) (Some t) k v s)
    go n there (pos k) = element_marked scope.own s n k t v there target all
    go n there (negsuc k) = all

assign_marked : (scope : Scope) (loops : List OpenLoop) (turns : List ℕ) (s : State) (line : ℕ) (name : List ℕ) (o : Option Index) (v : Raw)
    → target_faults scope loops part.Process line (named scope loops name) o ≡ [] → AreMarked scope.own s → AreMarked scope.own (assigned scope.own name (target_index loops turns o) v s)
assign_marked scope loops turns s line name None v none all =
    let kind = of_kind (place.Target part.Process) (named scope loops name) line none in
    let target = target_kind kind.thing kind.allowed in
    name_marked scope s name (pos 0) v kind.thing (own_target scope loops name kind.thing kind.is target) target all
assign_marked scope loops turns s line name (Some i) v none all =
    let kind = of_kind (place.TargetElement part.Process) (named scope loops name) line (none_first _ _ none) in
    let target = element_kind kind.thing kind.allowed in
    name_marked scope s name (target_index loops turns (Some i)) v kind.thing (own_target scope loops name kind.thing kind.is target) target all

-- what marks nothing
whole_marked : (own : Names) (s : State) (n : ℕ) (o : Option ℕ) → AreMarked own s → AreMarked own (with_whole n o s)
whole_marked own s n None all = all
whole_marked own s n (Some v) all = all

set_rate_marked : (own : Names) (s : State) (v : Raw) (o : Option ℕ) (x : Option Thing) → AreMarked own s → AreMarked own (rate_set own o x v s)
set_rate_marked own s v None x all = all
set_rate_marked own s v (Some n) None all = all
set_rate_marked own s v (Some n) (Some (RateVar least greatest start)) all = whole_marked own s (rate_number own n) (whole_within least greatest v.frac v.num) all
set_rate_marked own s v (Some n) (Some _) all = all

step_marked : (own : Names) (s : State) (port : Option (List ℕ)) (step : ℕ) → AreMarked own s → AreMarked own (step_assigned own port step s)
step_marked own s None step all = all
step_marked own s (Some port) step all = go (place_of own port)
  where
    go : (o : Option ℕ) → AreMarked own (stepped_at own o step s)
    go None = all
    go (Some n) = all

notice_marked : (own : Names) (s : State) (o : Option ℕ) (time : ℕ) → AreMarked own s → AreMarked own (noticed_at own o time s)
notice_marked own s None time all = all
notice_marked own s (Some n) time all = all

turns_marked : (own : Names) (turn : ℕ → State → State) (from count : ℕ) → ((i : ℕ) (s : State) → AreMarked own s → AreMarked own (turn i s)) → (s : State) → AreMarked own s → AreMarked own (repeated turn from count s)
turns_marked own turn from zero one s all = all
turns_marked own turn from (suc count) one s all = one (from + count) (repeated turn from count s) (turns_marked own turn from count one s all)

mutual
  stmt_marked : (scope : Scope) (loops : List OpenLoop) (x : PureStmt) (turns : List ℕ) (s : State) → stmt_faults scope part.Process loops x ≡ [] → AreMarked scope.own s → AreMarked scope.own (after scope loops turns x s)
  stmt_marked scope loops (SAssign line name i e) turns s none all = assign_marked scope loops turns s line name i (value scope loops turns s e) (none_first _ _ none) all
  stmt_marked scope loops (SIf line test a b) turns s none all =
      let rest = none_second (expr_faults scope loops part.Process line test) _ none in
      go (holds (value scope loops turns s test)) (stmts_marked scope loops a turns s (none_first _ _ rest) all) (stmts_marked scope loops b turns s (none_second (stmts_faults scope part.Process loops a) _ rest) all)
    where
      go : (t : Bool) → AreMarked scope.own (after_all scope loops turns a s) → AreMarked scope.own (after_all scope loops turns b s)
          → AreMarked scope.own (if t then after_all scope loops turns a s else after_all scope loops turns b s)
      go true p q = p
      go false p q = q
  stmt_marked scope loops (SFor line name from end inner) turns s none all =
      let rest = none_second (limit_faults scope loops line end) _ none in
      turns_marked scope.own (λ i t. after_all scope (loops ++ opened name from end ∷ []) (turns ++ i ∷ []) inner t) from (limit_value scope.own s end - from)
      (λ i t marked. stmts_marked scope (loops ++ opened name from end ∷ []) inner (turns ++ i ∷ []) t (none_second _ _ rest) marked) s all
  stmt_marked scope loops (SNotify line event time) turns s none all = notice_marked scope.own s (place_of scope.own event) time all
  stmt_marked scope loops (SSetRate line name e) turns s none all = set_rate_marked scope.own s (value scope loops turns s e) (place_of scope.own name) (thing_of scope.own name) all
  stmt_marked scope loops (SSetStep line port step) turns s none all = step_marked scope.own s port step all
  stmt_marked scope loops (SAccept line) turns s none all = all
  stmt_marked scope loops (SReject line) turns s none all = all

  stmts_marked : (scope : Scope) (loops : List OpenLoop) (xs : PureStmts) (turns : List ℕ) (s : State) → stmts_faults scope part.Process loops xs ≡ [] → AreMarked scope.own s → AreMarked scope.own (after_all scope loops turns xs s)
  stmts_marked scope loops Done turns s none all = all
  stmts_marked scope loops (More x xs) turns s none all =
      stmts_marked scope loops xs turns (after scope loops turns x s) (none_second (stmt_faults scope part.Process loops x) _ none) (stmt_marked scope loops x turns s (none_first _ _ none) all)

-- ---- the process of a block

-- where all of some lists are empty, each is
each_none : {A : Type 0} (f : A → List LineFault) (xs : List A) (n : ℕ) (x : A) → flat_map f xs ≡ [] → slice_get xs n ≡ Some x → f x ≡ []
each_none f [] n x none at = absurd (cc)
each_none f (y ∷ ys) zero x none at = let same : y ≡ x = cc in ap f (sym same) ∙ none_first (f y) (flat_map f ys) none
each_none f (y ∷ ys) (suc n) x none at = each_none f ys n x (none_second (f y) (flat_map f ys) none) at

process_none : (scope : Scope) (p : PureProcess) → process_faults scope p ≡ [] → stmts_faults scope part.Process [] p.body.list ≡ []
unfolding process_faults body_faults
process_none scope p none = none_first _ _ (none_second (flat_map (sense_faults scope) p.sensitive) _ none)

body_none : (globals : Names) (de : PureDe) (number : ℕ) → de_faults globals de ≡ [] → stmts_faults (de_scope globals de) part.Process [] (body_of (Events de) (Process number)) ≡ []
unfolding de_faults
body_none globals de number none = go (slice_get de.processes number) refl
  where
    all : flat_map (process_faults (de_scope globals de)) de.processes ≡ []
    all = none_first _ _ (none_second (flat_map (de_line_faults globals) de.decls) _ none)

    go : (o : Option PureProcess) → slice_get de.processes number ≡ o → stmts_faults (de_scope globals de) part.Process [] (process_body o) ≡ []
    go None at = refl
    go (Some p) at = process_none (de_scope globals de) p (each_none (process_faults (de_scope globals de)) de.processes number p all at)

-- ---- ports in order

skips : (kinds : List PortKind) (n : ℕ) (word : PortKind) → slice_get kinds n ≡ Some word → slice_get kinds (0 + n) ≡ Some word
skips kinds n word at = let f : 0 + n ≡ n = omega arith in ap (slice_get kinds) f ∙ at

-- the port of a line, among the ports of all
port_line_at : (globals : Names) (ds : List PureDeLine) (n : ℕ) (thing : Thing) (word : PortKind) → slice_get (map (line_thing globals) ds) n ≡ Some thing → written_word thing ≡ Some word
    → slice_get (map (λ (p : PortLine). p.kind) (flat_map port_of_de_line ds)) (before ports_of (map (line_thing globals) ds) n) ≡ Some word
unfolding before
port_line_at globals [] n thing word at is = absurd (cc)
port_line_at globals (DPort port ∷ ds) zero thing word at is =
    let same : line_thing globals (DPort port) ≡ thing = same_Some (line_thing globals (DPort port)) thing at in ap written_word same ∙ is
port_line_at globals (DPort port ∷ ds) (suc n) thing word at is =
    let f : 1 + before ports_of (map (line_thing globals) ds) n ≡ suc (before ports_of (map (line_thing globals) ds) n) = omega arith in
    ap (slice_get (port.kind ∷ map (λ (p : PortLine). p.kind) (flat_map port_of_de_line ds))) f ∙ port_line_at globals ds n thing word at is
port_line_at globals (DStore (SConst line name format value) ∷ ds) zero thing word at is = absurd (let same = same_Some (line_thing globals (DStore (SConst line name format value))) thing at in let clash : None ≡ Some word = ap written_word same ∙ is in cc)
port_line_at globals (DStore (SVar line name format value) ∷ ds) zero thing word at is = absurd (let same = same_Some (line_thing globals (DStore (SVar line name format value))) thing at in let clash : None ≡ Some word = ap written_word same ∙ is in cc)
port_line_at globals (DStore (SArray line name format size values) ∷ ds) zero thing word at is = absurd (let same = same_Some (line_thing globals (DStore (SArray line name format size values))) thing at in let clash : None ≡ Some word = ap written_word same ∙ is in cc)
port_line_at globals (DEvent line name ∷ ds) zero thing word at is = absurd (let same = same_Some Event thing at in let clash : None ≡ Some word = ap written_word same ∙ is in cc)
port_line_at globals (DStore (SConst line name format value) ∷ ds) (suc n) thing word at is = skips (map (λ (p : PortLine). p.kind) (flat_map port_of_de_line ds)) (before ports_of (map (line_thing globals) ds) n) word (port_line_at globals ds n thing word at is)
port_line_at globals (DStore (SVar line name format value) ∷ ds) (suc n) thing word at is = skips (map (λ (p : PortLine). p.kind) (flat_map port_of_de_line ds)) (before ports_of (map (line_thing globals) ds) n) word (port_line_at globals ds n thing word at is)
port_line_at globals (DStore (SArray line name format size values) ∷ ds) (suc n) thing word at is = skips (map (λ (p : PortLine). p.kind) (flat_map port_of_de_line ds)) (before ports_of (map (line_thing globals) ds) n) word (port_line_at globals ds n thing word at is)
port_line_at globals (DEvent line name ∷ ds) (suc n) thing word at is = skips (map (λ (p : PortLine). p.kind) (flat_map port_of_de_line ds)) (before ports_of (map (line_thing globals) ds) n) word (port_line_at globals ds n thing word at is)

marks_at : (globals : Names) (names : List (List ℕ)) (de : PureDe) (j : ℕ) → de_lines_faults names [] de.decls ≡ [] → IsPortAt (de_names globals de) j → IsWrittenPort de j
marks_at globals names de j none p =
    let fresh : AreFresh [] de.decls = all_fresh names [] de.decls none in
    let things : (de_names globals de).things ≡ map (line_thing globals) de.decls = ap (λ (s : Names). s.things) (all_names globals de.decls no_names fresh) in
    record {
      kind = p.word;
      at = ap (slice_get (map (λ (q : PortLine). q.kind) (ports_of_de de))) (sym p.number ∙ ap (λ (l : List Thing). before ports_of l p.n) things)
          ∙ port_line_at globals de.decls p.n p.thing p.word (ap (λ (l : List Thing). slice_get l p.n) (sym things) ∙ p.at) p.is;
      written = p.written;
    }

pub marks_are_written : MarksAreWritten
marks_are_written globals names de number s once none unmarked j on =
    marks_at globals names de j once (stmts_marked (de_scope globals de) [] (body_of (Events de) (Process number)) [] s (body_none globals de number none) (λ i marked. absurd (true≢false (sym marked ∙ unmarked i))) j on)
