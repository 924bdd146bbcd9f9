-- A cluster whose modules have been asked for changes.
use Rattle.std.proofs.Common.{◌≡◌, ◌∙◌, ℕ, zero, suc, ◌+◌, Bool, true, false, if◌then◌else◌, nat_eq, List, [], ◌∷◌, ◌++◌, Option, Some, None, option_map, ℤ, length, map, refl, sym, ap, subst, arith, Result, Ok, Err, OnErr}
use Rattle.std.proofs.lemmas.Bool.{eqb-true}
use Rattle.std.proofs.lemmas.List.{length-map}
use Rattle.std.proofs.lemmas.List.Elements.{All-nil}
use Rattle.std.proofs.lemmas.Option.{slice_get-get_or, slice_get-map, slice_get_within}
use Rattle.std.specs.List.{range_with_len}
use Rattle.std.specs.Prelude.{All, IfOk, replicate, slice_get, slice_index, slice_index_or}
use Rattle.tdf_dynamic.specs.Asked.{AskedOf, IsQuiet, asked, asked_in, attrs_after, nothing_asked, port_count, steps_after}
use Rattle.tdf_dynamic.specs.Change.{Asks, IsSame, asks_of, table_after}
use Rattle.tdf_dynamic.specs.Next.{HasChanged, IsCarried, IsNext}
use Rattle.tdf_dynamic.specs.declared.frames.ModuleFrame.{ModuleFrame}
use Rattle.tdf_dynamic.specs.declared.next.Next.{Next}
use Rattle.tdf_dynamic.specs.declared.next.Next.TheVariants.{Changed, Same}
use Rattle.tdf_dynamic_plans.specs.Attributes.{AttrsOf, IsOfCluster, attrs_at, clusters_of, rates_in}
use Rattle.tdf_dynamic_plans.proofs.Api.{planned_true}
use Rattle.tdf_dynamic_plans.specs.Known.{AreTrueFor, IsTrueFor, PlansOf}
use Rattle.tdf_dynamic_plans.specs.declared.err.ChangeErr.{ChangeErr}
use Rattle.tdf_exec.proofs.Asks.{modules_are}
use Rattle.tdf_exec.proofs.Crosses.{turns_are}
use Rattle.tdf_exec.proofs.Ends.{below_modules, module_kind, no_sink}
use Rattle.tdf_exec.proofs.Flags.{DifferInFlags, in_flags, other_flags, with_flag}
use Rattle.tdf_exec.proofs.Formed.{row_found}
use Rattle.tdf_exec.proofs.Kept.{count_alike, neither, not_not, true_false}
use Rattle.tdf_exec.proofs.Moved.{some_inj}
use Rattle.tdf_exec.proofs.Moves.{number_of, numbers_long}
use Rattle.tdf_exec.proofs.Rows.{all_at}
use Rattle.tdf_exec.specs.Cluster.{ClusterOf, next_offset}
use Rattle.tdf_exec.specs.Crossing.{CanInstall, CrossesFrom, HasCrossed, IsReadyFor, cells_in, values_at}
use Rattle.tdf_exec.specs.Made.{HasRows, IsClusterOf, IsClusterWith, IsInSpans, IsModuleOf, IsModuleWith, IsRunnerOf, IsRunnerWith, is_sampler_runner, sampler_runners_before}
use Rattle.tdf_exec.specs.Played.{IsLike, runner_cells, play_of, turns_from}
use Rattle.tdf_exec.specs.Runners.{ModuleOf}
use Rattle.tdf_exec.specs.declared.runners.Runner.{Runner}
use Rattle.tdf_exec.specs.declared.runners.Runner.TheVariants as runner
use Rattle.tdf_exec.specs.machine.Laid.{IsLaid}
use Rattle.tdf_exec.specs.machine.Moving.{HaveMoved, IsNone, numbers_of, rest_of, whole_of}
use Rattle.tdf_expr.specs.Checked.{IsCheckedOf}
use Rattle.tdf_expr.specs.Made.{AreMadeFor}
use Rattle.tdf_expr.specs.declared.bodies.Body.TheVariants as body
use Rattle.tdf_expr.specs.declared.spans.PortSpan.{PortSpan}
use Rattle.tdf_exec_firing.specs.Wires.{AreWired}
use Rattle.tdf_bind.specs.declared.model.Flat.{Flat}
use Rattle.tdf_streams.proofs.Api.{change_crosses, get_inside, none_some, some_same}
use Rattle.tdf_streams.specs.Bodies.{changed, done_by, nothing_read, module_rates}
use Rattle.tdf_streams.specs.Cluster.{cluster_net, is_outside_cluster, is_sampler_kind}
use Rattle.tdf_streams.specs.Periods.{AreAttributes, PeriodRecord}
use Rattle.tdf_streams.specs.Places.{actor_kind, block_at, changes_row, has_changes}
use Rattle.tdf_lang_tree.specs.Pure.{PureTree}

abbrev pub crossed_of : ClusterOf → List AttrsOf → PlansOf → List Runner → ClusterOf
crossed_of c table known runners = record c { table = table; known = known; crossed = true; runners = runners }

pub all_from : {A : Type 0} (P : A → Type 0) (xs : List A) → ((j : ℕ) (x : A) → slice_get xs j ≡ Some x → P x) → All P xs
all_from P xs each = λ j d below. each j (slice_index_or xs j d) (slice_get-get_or xs j d below)

-- the table after the change bodies, row by row
module _ (g : AttrsOf → AttrsOf) (same : (a : AttrsOf) → (g a).number ≡ a.number) where
  row_before : (table : List AttrsOf) (i : ℕ) (b : AttrsOf) → slice_get (map g table) i ≡ Some b → (a : AttrsOf) × (slice_get table i ≡ Some a) × (g a ≡ b)
  row_before table i b at = go (slice_get table i) refl (sym (slice_get-map g table i) ∙ at)
    where
      go : (o : Option AttrsOf) → slice_get table i ≡ o → option_map g o ≡ Some b → (a : AttrsOf) × (slice_get table i ≡ Some a) × (g a ≡ b)
      go None there given = none_some b given
      go (Some a) there given = (a, there, some_same (g a) b given)

  found_after : (table : List AttrsOf) (m : ℕ) → attrs_at (map g table) m ≡ option_map g (attrs_at table m)
  found_after [] m = refl
  found_after (a ∷ table) m = ap (λ n. if nat_eq n m then Some (g a) else attrs_at (map g table) m) (same a) ∙ go (nat_eq a.number m) (found_after table m)
    where
      go : (b : Bool) → attrs_at (map g table) m ≡ option_map g (attrs_at table m)
          → (if b then Some (g a) else attrs_at (map g table) m) ≡ option_map g (if b then Some a else attrs_at table m)
      go true rest = refl
      go false rest = rest

  rows_after : (flat : Flat) (cluster : ℕ) (table : List AttrsOf) → HasRows flat.tables cluster table → HasRows flat.tables cluster (map g table)
  rows_after flat cluster table rows = record {
    each = λ m below own. (
        let r = rows.each m below own in
        (r.0, g r.1, slice_get-map g table r.0 ∙ ap (option_map g) r.2, same r.1 ∙ r.3));
    once = λ i j one other at there is. (
        let a = row_before table i one at in
        let b = row_before table j other there in
        rows.once i j a.0 b.0 a.1 b.1
        (sym (same a.0) ∙ ap (λ (x : AttrsOf). x.number) a.2 ∙ is ∙ sym (ap (λ (x : AttrsOf). x.number) b.2) ∙ same b.0));
  }

abbrev tag : Option Runner → ℕ
tag None = 0
tag (Some (runner.Module x)) = 1
tag (Some _) = 2

-- the change body after the last period
changed_last : (model : PureTree) (flat : Flat) (m : ℕ) (old : List PeriodRecord) (p : PeriodRecord) (cells : List ℤ) → changed model flat m (old ++ p ∷ []) cells
    ≡ (if has_changes flat.tables.modules m then (done_by model flat m body.Change cells (module_rates p.info m) nothing_read).frame.cells else cells)
changed_last model flat m [] p cells = refl
changed_last model flat m (q ∷ []) p cells = refl
changed_last model flat m (q ∷ (r ∷ old)) p cells = changed_last model flat m (r ∷ old) p cells

cells_asked : (model : PureTree) (flat : Flat) (a : AttrsOf) (cells : List ℤ) → (asked model flat a cells).cells
    ≡ (if has_changes flat.tables.modules a.number then (done_by model flat a.number body.Change cells a.rates nothing_read).frame.cells else cells)
unfolding asked
cells_asked model flat a cells = go (has_changes flat.tables.modules a.number)
  where
    go : (b : Bool) → (if b then asked_in (done_by model flat a.number body.Change cells a.rates nothing_read) else nothing_asked (port_count flat a.number) a cells).cells
        ≡ (if b then (done_by model flat a.number body.Change cells a.rates nothing_read).frame.cells else cells)
    go true = refl
    go false = refl

module _ (flat : Flat) (c : ClusterOf) (laid : IsLaid flat) (of : IsClusterOf flat c) (end : next_offset c ≡ None) (model : PureTree) (runners : List Runner)
    (moved : HaveMoved flat (asks_of model flat (values_at c.runners)) c.table c.runners runners) (known : PlansOf) where
  abbrev asks : Asks
  asks = asks_of model flat (values_at c.runners)

  abbrev after : AttrsOf → AttrsOf
  after a = attrs_after a (asks a)

  -- a module after it was asked
  pub record IsAsked (m : ℕ) (x : ModuleOf) (s : Runner) : Type 0 where
    pub place : ℕ
    pub a : AttrsOf
    pub at : slice_get c.table place ≡ Some a
    pub own : a.number ≡ m
    pub f : ModuleFrame
    pub changed : HasChanged flat asks a f
    pub is : s ≡ runner.Module (whole_of f (rest_of x))

  abbrev AskedTo : ℕ → Runner → Runner → Type 0
  AskedTo m (runner.Module x) s = IsAsked m x s
  AskedTo m other s = s ≡ other

  no_row : (m : ℕ) (r : Runner) → slice_get c.runners m ≡ Some r → (tag (Some r) ≡ 1 → ⊥) → IsNone (numbers_of c.table) 0 (length (numbers_of c.table)) m
  no_row m r at other i from below here =
      let x = (modules_are flat c laid of).each i m here in
      other (ap tag (sym at ∙ x.1))

  abbrev Came : ℕ → Runner → Type 0
  Came m r = (s : Runner) × (slice_get runners m ≡ Some s) × AskedTo m r s

  moved_at : (m : ℕ) (r : Runner) → slice_get c.runners m ≡ Some r → Came m r
  moved_at m (runner.Module x) at =
      let is : IsModuleOf flat c m x = of.runners m (runner.Module x) at in
      let row = of.rows.each m (below_modules flat laid m is.actor_is.kind_is) is.actor_is.inside in
      let f = get_inside moved.frames row.0 (let w = slice_get_within c.table row.0 row.1 row.2 in let l = moved.are.long in let n = numbers_long c.table in omega (arith, w, l, n)) in (
        runner.Module (whole_of f.0 (rest_of x)),
        moved.are.each row.0 m x f.0 (number_of c.table row.0 row.1 row.2 ∙ ap Some row.3) f.1 at,
        record { place = row.0; a = row.1; at = row.2; own = row.3; f = f.0; changed = moved.changed row.0 row.1 f.0 row.2 f.1; is = refl },
      )
  moved_at m (runner.Sampler s) at = (runner.Sampler s, moved.are.others m (no_row m (runner.Sampler s) at (λ e. absurd (omega (arith, e)))) ∙ at, refl)
  moved_at m (runner.Sink k) at = (runner.Sink k, moved.are.others m (no_row m (runner.Sink k) at (λ e. absurd (omega (arith, e)))) ∙ at, refl)
  moved_at m runner.Outside at = (runner.Outside, moved.are.others m (no_row m runner.Outside at (λ e. absurd (omega (arith, e)))) ∙ at, refl)

  pub record CameFrom (m : ℕ) (s : Runner) : Type 0 where
    pub r : Runner
    pub r_at : slice_get c.runners m ≡ Some r
    pub to : AskedTo m r s

  came : (m : ℕ) (s : Runner) → slice_get runners m ≡ Some s → CameFrom m s
  came m s at =
      let r = get_inside c.runners m (let w = slice_get_within runners m s at in let l = moved.are.same in omega (arith, w, l)) in
      let t = moved_at m r.0 r.1 in
      record { r = r.0; r_at = r.1; to = subst (AskedTo m r.0) (some_inj t.0 s (sym t.1 ∙ at)) t.2 }

  sampler_same : (m : ℕ) (r s : Runner) → AskedTo m r s → is_sampler_runner s ≡ is_sampler_runner r
  sampler_same m (runner.Module x) s to = ap is_sampler_runner to.is
  sampler_same m (runner.Sampler k) s to = ap is_sampler_runner to
  sampler_same m (runner.Sink k) s to = ap is_sampler_runner to
  sampler_same m runner.Outside s to = ap is_sampler_runner to

  before : (m : ℕ) → sampler_runners_before c.runners m ≡ sampler_runners_before runners m
  before m = sym (count_alike runners c.runners m moved.are.same (λ n x y xat yat.
      let h : CameFrom n x = came n x xat in
      sampler_same n h.r x h.to ∙ ap is_sampler_runner (some_inj h.r y (sym h.r_at ∙ yat))))

  -- a module has the rates of the table after the change bodies
  module_after : (m : ℕ) (x : ModuleOf) (s : Runner) → IsModuleOf flat c m x → (asked : IsAsked m x s)
      → IsModuleWith flat (table_after asks c.table) (crossed_of c c.table known runners) m (whole_of asked.f (rest_of x))
  module_after m x s is asked = record {
    actor_is = record { kind_is = is.actor_is.kind_is; inside = is.actor_is.inside };
    block_is = is.block_is;
    made = made;
    rates = asked.changed.rates ∙ ap rates_in (sym (found_after after (λ a. refl) c.table m
        ∙ ap (option_map after) (ap (attrs_at c.table) (sym asked.own) ∙ row_found flat.tables c.number c.table of.rows asked.place asked.a asked.at)));
    wires_are = is.wires_are;
    wired = subst (λ l. AreWired x.wires l (length flat.tables.edges)) (sym same_spans) is.wired;
    read_rate = λ j w p at there. is.read_rate j w p at (span_at w.port p there);
    write_rate = λ j w p at there. is.write_rate j w p at (span_at w.port p there);
    read_format = λ j w p at there. is.read_format j w p at (span_at w.port p there);
    write_format = λ j w p at there. is.write_format j w p at (span_at w.port p there);
    zeros = asked.changed.zeros x.wires c.reads;
    traced = is.traced;
    traced_rate = λ j t at. subst (λ l. IsInSpans l t) (sym same_spans) (is.traced_rate j t at);
  }
    where
      made : AreMadeFor flat.checked x.block asked.f.frame asked.f.ports
      made = subst (λ n. AreMadeFor flat.checked n asked.f.frame asked.f.ports) (ap (block_at flat.tables.modules) asked.own ∙ sym is.block_is) asked.changed.made

      same_spans : asked.f.ports.spans ≡ x.ports.spans
      same_spans = made.ports_are ∙ sym is.made.ports_are

      span_at : (n : ℕ) (p : PortSpan) → slice_get asked.f.ports.spans n ≡ Some p → slice_get x.ports.spans n ≡ Some p
      span_at n p at = ap (λ l. slice_get l n) (sym same_spans) ∙ at

  runner_after : (m : ℕ) (r s : Runner) → IsRunnerOf flat c m r → AskedTo m r s → IsRunnerWith flat (table_after asks c.table) (crossed_of c c.table known runners) m s
  runner_after m (runner.Module x) s is to =
      subst (IsRunnerWith flat (table_after asks c.table) (crossed_of c c.table known runners) m) (sym to.is) (module_after m x s is to)
  runner_after m (runner.Sampler k) s is to =
      subst (IsRunnerWith flat (table_after asks c.table) (crossed_of c c.table known runners) m) (sym to)
      (record { actor_is = is.actor_is; edges_are = is.edges_are; place_is = is.place_is ∙ before m; rate = is.rate; none = is.none })
  runner_after m (runner.Sink k) s is to =
      subst (IsRunnerWith flat (table_after asks c.table) (crossed_of c c.table known runners) m) (sym to)
      (record { actor_is = is.actor_is; edge_is = is.edge_is; rate = is.rate; none = is.none })
  runner_after m runner.Outside s is to = subst (IsRunnerWith flat (table_after asks c.table) (crossed_of c c.table known runners) m) (sym to) is

  cluster_after : AreTrueFor flat.tables c.number known.plans → IsClusterWith flat (table_after asks c.table) (crossed_of c c.table known runners)
  cluster_after are = record {
    attributes = of.attributes;
    rows = record { each = of.rows.each; once = of.rows.once };
    planned = record {
      plan = of.planned.plan;
      plan_is = of.planned.plan_is;
      entries_are = of.planned.entries_are;
      bounds_are = of.planned.bounds_are;
      period_is = of.planned.period_is;
    };
    reads_are = of.reads_are;
    writes_are = of.writes_are;
    safe = record { inside = of.safe.inside; own = of.safe.own; present = of.safe.present; bounded = of.safe.bounded };
    within = of.within;
    over = λ is. end;
    held = record { same = of.held.same; held = of.held.held; room = of.held.room; formats = of.held.formats };
    actors = moved.are.same ∙ of.actors;
    positions = of.positions;
    counted = of.counted;
    runners = λ m s at. (let h : CameFrom m s = came m s at in runner_after m h.r s (of.runners m h.r h.r_at) h.to);
    keep = of.keep;
    known = are;
  }

  -- where no module differs, only flags do
  quiet_flag : (a : AttrsOf) → IsQuiet a (asks a) → after a ≡ with_flag (after a).accepts a
  quiet_flag a quiet = ap (λ l. record (after a) { rates = l }) quiet.same.rates ∙ ap (λ l. record (with_flag (after a).accepts a) { steps = l }) quiet.same.steps

  same_flags : IsSame asks c.table → DifferInFlags c.table (table_after asks c.table)
  same_flags same = in_flags c.table (table_after asks c.table) (length-map c.table after) (λ i a b at there.
      let e : after a ≡ b = some_inj (after a) b (sym (slice_get-map after c.table i ∙ ap (option_map after) at) ∙ there) in
      subst (λ x. x ≡ with_flag x.accepts a) e (quiet_flag a (all_at (λ x. IsQuiet x (asks x)) c.table i a same at)))

  pub can_install : AreAttributes flat c.number (table_after asks c.table) → (table : List AttrsOf) (next : Next) → IsNext flat.tables c.number asks c.table table next → IsCarried flat.tables c.number c.known known next
      → CanInstall flat (crossed_of c table known runners) next
  can_install attributes table Same is same =
      subst (λ (t : List AttrsOf). IsClusterOf flat (crossed_of c t known runners)) (sym is.1)
      (other_flags flat (table_after asks c.table) (crossed_of c c.table known runners) (cluster_after (subst (λ (k : PlansOf). AreTrueFor flat.tables c.number k.plans) (sym same) of.known)) (table_after asks c.table) (same_flags is.0) attributes
      (rows_after after (λ a. refl) flat c.number c.table of.rows))
  can_install attributes table (Changed attrs plan) is carried =
      subst (λ (t : List AttrsOf). IsReadyFor flat (crossed_of c t known runners) attrs plan) (sym is.0)
      (subst (λ (t : List AttrsOf). IsReadyFor flat (crossed_of c c.table known runners) (record { rows = t; known = attrs.known }) plan) (sym is.1) (record {
        of = cluster_after (subst (AreTrueFor flat.tables c.number) (sym carried.1) (All-nil (IsTrueFor flat.tables c.number)));
        attributes = attributes;
        rows = rows_after after (λ a. refl) flat c.number c.table of.rows;
        long = length-map c.table after;
        plan_is = record {
          counts = is.2.times.after.counts;
          steps = is.2.times.after.steps;
          timing = is.2.times.after.timing;
          plan_is = is.2.plan_is;
        };
        known = planned_true flat.tables c.number attrs.rows plan c.known attrs.known (subst (All (IsOfCluster flat.tables c.number)) (sym is.1) attributes.own) of.known carried.0;
      }))

  -- nothing else has changed
  like : (m : ℕ) (r s : Runner) → AskedTo m r s → IsLike r s
  like m (runner.Module x) s to = (whole_of to.f (rest_of x), to.is, refl, refl, refl)
  like m (runner.Sampler k) s to = to
  like m (runner.Sink k) s to = to
  like m runner.Outside s to = to

  flag_at : (table : List AttrsOf) (r : Result Next ChangeErr) → IfOk r (IsNext flat.tables c.number asks c.table table) → OnErr r (table ≡ c.table) → (i : ℕ) (a : AttrsOf) → slice_get c.table i ≡ Some a
      → (accepts : Bool) × (slice_get table i ≡ Some (record a { accepts = accepts }))
  flag_at table (Ok Same) is kept i a at = (
    (after a).accepts,
    ap (λ (t : List AttrsOf). slice_get t i) is.1 ∙ slice_get-map after c.table i ∙ ap (option_map after) at ∙ ap Some (quiet_flag a (all_at (λ x. IsQuiet x (asks x)) c.table i a is.0 at)),
  )
  flag_at table (Ok (Changed attrs plan)) is kept i a at = (a.accepts, ap (λ (t : List AttrsOf). slice_get t i) is.0 ∙ at)
  flag_at table (Err e) is kept i a at = (a.accepts, ap (λ (t : List AttrsOf). slice_get t i) kept ∙ at)

  pub as_long : (table : List AttrsOf) (r : Result Next ChangeErr) → IfOk r (IsNext flat.tables c.number asks c.table table) → OnErr r (table ≡ c.table) → length table ≡ length c.table
  as_long table (Ok Same) is kept = ap length is.1 ∙ length-map c.table after
  as_long table (Ok (Changed attrs plan)) is kept = ap length is.0
  as_long table (Err e) is kept = ap length kept

  pub has_crossed : (table : List AttrsOf) (r : Result Next ChangeErr) → IfOk r (IsNext flat.tables c.number asks c.table table) → OnErr r (table ≡ c.table) → HasCrossed c (crossed_of c table known runners)
  has_crossed table r is kept = record {
    rest = refl;
    rows = as_long table r is kept;
    flags = flag_at table r is kept;
    same = moved.are.same;
    runners = λ m x at. (let t = moved_at m x at in (t.0, t.1, like m x t.0 t.2));
  }

  -- the values are those after the change bodies
  values_after : (old : List PeriodRecord) (p : PeriodRecord) → p.info.table ≡ c.table → (m : ℕ) (r s : Runner) → IsRunnerOf flat c m r → slice_get c.runners m ≡ Some r → is_outside_cluster flat.tables c.number m ≡ false
      → AskedTo m r s → runner_cells s ≡ changed model flat m (old ++ p ∷ []) (runner_cells r)
  values_after old p table m (runner.Module x) s is at inside to =
      ap runner_cells to.is ∙ to.changed.cells ∙ cells_asked model flat to.a (values_at c.runners to.a.number)
      ∙ ap (λ n. if has_changes flat.tables.modules n then (done_by model flat n body.Change (values_at c.runners n) to.a.rates nothing_read).frame.cells else values_at c.runners n) to.own
      ∙ ap (λ l. if has_changes flat.tables.modules m then (done_by model flat m body.Change l to.a.rates nothing_read).frame.cells else l) (ap cells_in at)
      ∙ ap (λ l. if has_changes flat.tables.modules m then (done_by model flat m body.Change x.frame.state.cells l nothing_read).frame.cells else x.frame.state.cells) rates
      ∙ sym (changed_last model flat m old p x.frame.state.cells)
    where
      rates : to.a.rates ≡ module_rates p.info m
      rates = sym (ap rates_in (ap (λ (t : List AttrsOf). attrs_at t m) table ∙ ap (attrs_at c.table) (sym to.own) ∙ row_found flat.tables c.number c.table of.rows to.place to.a to.at))
  values_after old p table m (runner.Sampler k) s is at inside to = true_false (sym (ap is_sampler_kind is.actor_is.kind_is) ∙ (neither (is_sampler_kind (actor_kind flat.tables m)) _ inside).0)
  values_after old p table m (runner.Sink k) s is at inside to =
      ap runner_cells to ∙ sym (changed_last model flat m old p [] ∙ ap (λ b. if b then (done_by model flat m body.Change [] (module_rates p.info m) nothing_read).frame.cells else []) (none_there (slice_get flat.tables.modules m) refl))
    where
      none_there : (o : Option _) → slice_get flat.tables.modules m ≡ o → changes_row o ≡ false
      none_there None here = refl
      none_there (Some row) here = no_sink (actor_kind flat.tables m) (module_kind flat laid m (slice_get_within flat.tables.modules m row here)) is.actor_is.kind_is
  values_after old p table m runner.Outside s is at inside to =
      absurd (is (eqb-true (slice_index (clusters_of flat.tables) m) c.number (not_not _ (neither (is_sampler_kind (actor_kind flat.tables m)) _ inside).1)))

  pub crosses_asked : (table : List AttrsOf) → (old : List PeriodRecord) (p : PeriodRecord) → p.info.table ≡ c.table → (from : ℕ) → (m : ℕ) (x : List ℤ)
      → slice_get (play_of from (crossed_of c table known runners)).states m ≡ Some x → is_outside_cluster flat.tables c.number m ≡ false
      → (b : List ℤ) × (slice_get (play_of from c).states m ≡ Some b) × (x ≡ changed model flat m (old ++ p ∷ []) b)
  crosses_asked table old p is from m x at inside = go (slice_get runners m) refl (sym (slice_get-map runner_cells runners m) ∙ at)
    where
      go : (o : Option Runner) → slice_get runners m ≡ o → option_map runner_cells o ≡ Some x
          → (b : List ℤ) × (slice_get (play_of from c).states m ≡ Some b) × (x ≡ changed model flat m (old ++ p ∷ []) b)
      go None there given = none_some x given
      go (Some s) there given =
          let h : CameFrom m s = came m s there in (
            runner_cells h.r,
            slice_get-map runner_cells c.runners m ∙ ap (option_map runner_cells) h.r_at,
            sym (some_same (runner_cells s) x given) ∙ values_after old p is m h.r s (of.runners m h.r h.r_at) h.r_at inside h.to,
          )

-- where it stood at the end of a period, it crosses: for each model that the bodies are of
pub crosses_from : (flat : Flat) (c : ClusterOf) (laid : IsLaid flat) (of : IsClusterOf flat c) (end : next_offset c ≡ None) (runners : List Runner) (table : List AttrsOf) (known : PlansOf)
    → ((model : PureTree) → IsCheckedOf model flat.checked → HaveMoved flat (asks_of model flat (values_at c.runners)) c.table c.runners runners) → length runners ≡ length c.runners
    → CrossesFrom flat c (crossed_of c table known runners)
crosses_from flat c laid of end runners table known moved long model start old p reads from f checked period stands =
    change_crosses (cluster_net model flat c.number start) old p reads f (play_of from c) (play_of from (crossed_of c table known runners)) (turns_are flat c.table c of end from p period) stands (record {
      turns = ap (λ n. map (turns_from c.entries from c.place) (range_with_len 0 n)) long;
      lists = refl;
      states = λ m x at inside. crosses_asked flat c laid of end model runners (moved model checked) known table old p period.table from m x at inside;
    })

-- where no module has changes, nothing is asked for
module _ (flat : Flat) (model : PureTree) (cells : ℕ → List ℤ) where
  steps_none : (n : ℕ) (steps : List ℕ) → steps_after steps (replicate n None) ≡ steps
  steps_none n [] = refl
  steps_none zero (s ∷ steps) = refl
  steps_none (suc n) (s ∷ steps) = ap (λ l. s ∷ l) (steps_none n steps)

  nothing_is : (a : AttrsOf) → has_changes flat.tables.modules a.number ≡ false → asks_of model flat cells a ≡ nothing_asked (port_count flat a.number) a (cells a.number)
  unfolding asked
  nothing_is a none = ap (λ (b : Bool). if b then asked_in (done_by model flat a.number body.Change (cells a.number) a.rates nothing_read) else nothing_asked (port_count flat a.number) a (cells a.number)) none

  still_row : (a : AttrsOf) → has_changes flat.tables.modules a.number ≡ false → attrs_after a (asks_of model flat cells a) ≡ a
  still_row a none = ap (attrs_after a) (nothing_is a none) ∙ ap (λ l. record a { steps = l }) (steps_none (1 + port_count flat a.number) a.steps)

  quiet_row : (a : AttrsOf) → has_changes flat.tables.modules a.number ≡ false → IsQuiet a (asks_of model flat cells a)
  quiet_row a none = record {
    same = record { rates = ap (λ (x : AttrsOf). x.rates) (still_row a none); steps = ap (λ (x : AttrsOf). x.steps) (still_row a none) };
    unmarked = ap (λ (q : AskedOf). q.out_of_range) (nothing_is a none);
  }

  pub still_same : (table : List AttrsOf) → ((i : ℕ) (a : AttrsOf) → slice_get table i ≡ Some a → has_changes flat.tables.modules a.number ≡ false) → IsSame (asks_of model flat cells) table
  still_same table none = all_from (λ a. IsQuiet a (asks_of model flat cells a)) table (λ i a at. quiet_row a (none i a at))

  pub still_table : (table : List AttrsOf) → ((i : ℕ) (a : AttrsOf) → slice_get table i ≡ Some a → has_changes flat.tables.modules a.number ≡ false) → table ≡ table_after (asks_of model flat cells) table
  still_table [] none = refl
  still_table (a ∷ table) none =
      ap (λ x. x ∷ table) (sym (still_row a (none 0 a refl)))
      ∙ ap (λ l. attrs_after a (asks_of model flat cells a) ∷ l) (still_table table (λ i b at. none (suc i) b at))
