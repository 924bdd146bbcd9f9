use Rattle.std.proofs.Common.{◌≡◌, ◌∙◌, ℕ, List, inl, None, Ok, Err, Result, Some, false, true, ap, arith, refl, subst, sym, rules}
use Rattle.std.specs.Prelude.{IfOk, slice_get}
use Rattle.tdf_dynamic.specs.Next.{AnswersAsks}
use Rattle.tdf_dynamic.specs.declared.next.Next.{Next}
use Rattle.tdf_dynamic.specs.declared.next.Next.TheVariants.{Same}
use Rattle.tdf_dynamic_plans.specs.Attributes.{AttrsOf}
use Rattle.tdf_dynamic_plans.specs.declared.err.ChangeErr.{ChangeErr}
use Rattle.tdf_exec.proofs.Asks.{has_cluster, instances_are, modules_are, planned_is}
use Rattle.tdf_exec.proofs.Boundaries.{no_fault, not_still, still_after, still_crossed, still_crosses, still_next, still_of}
use Rattle.tdf_exec.proofs.Changing.{as_long, can_install, crossed_of, crosses_from, has_crossed}
use Rattle.tdf_exec.proofs.Crosses.{head_held}
use Rattle.tdf_exec.specs.Cluster.{ClusterOf, next_offset}
use Rattle.tdf_exec.specs.Crossing.{CanInstall, CrossesFrom, HasCrossed, HasNoChanges, WhenItAsks, at_place, values_at}
use Rattle.tdf_exec.specs.Made.{IsClusterOf}
use Rattle.tdf_exec.specs.contracts.cluster.Cluster.{the_view}
use Rattle.tdf_exec.specs.views.Actors.{ActorsOf}
use Rattle.tdf_streams.specs.Places.{has_changes}
use Rattle.tdf_exec.proofs.cluster.Cluster.boundary.Goals as goal

-- the plan stays
abbrev stays : Result Next ChangeErr
stays = Ok Same

if_ok : {T E : Type 0} {P R Q : T → Type 0} (r : Result T E) → IfOk r P → IfOk r R → ((x : T) → P x → R x → Q x) → IfOk r Q
if_ok (Ok x) p q then = then x p q
if_ok (Err e) p q then = tt

pub returns-then-not-has_changes-clause-answer : goal.returns-then-not-has_changes-clause-answer
returns-then-not-has_changes-clause-answer c =
    let laid = c.law_laid.ensures.laid c.args.flat.now c.requires.sound in
    let of : IsClusterOf c.args.flat.now (the_view c.self.inside) = subst (IsClusterOf c.args.flat.now) (sym c.self.view_is) c.requires.of in
    let end : next_offset (the_view c.self.inside) ≡ None = subst (λ (s : ClusterOf). next_offset s ≡ None) (sym c.self.view_is) c.requires.done in
    let result : c.has_changes.result ≡ false = search rules in
    let none : (i : ℕ) (a : AttrsOf) → slice_get (the_view c.self.inside).table i ≡ Some a → has_changes c.args.flat.now.tables.modules a.number ≡ false =
    λ i a at. c.has_changes.ensures.none result i a (ap (λ l. slice_get l i) c.rows.ensures.rows ∙ at) in
    subst (λ (s : ClusterOf). WhenItAsks c.args.flat.now s (λ asks. AnswersAsks c.args.flat.now s.number asks s.table c.self.inside.attrs.rows stays)) c.self.view_is
    (λ model cells checked are. record {
      next = still_next c.args.flat.now (the_view c.self.inside) laid of end none model cells;
      refused = tt;
      after = still_after c.args.flat.now (the_view c.self.inside) laid of end none model cells;
      same_always = λ same. refl;
      refused_always = λ fault is. no_fault c.args.flat.now (the_view c.self.inside) laid of end none model cells fault is;
      new_always = λ plan is. inl refl;
    })

pub returns-then-not-has_changes-clause-crossed : goal.returns-then-not-has_changes-clause-crossed
returns-then-not-has_changes-clause-crossed c =
    let laid = c.law_laid.ensures.laid c.args.flat.now c.requires.sound in
    let of : IsClusterOf c.args.flat.now (the_view c.self.inside) = subst (IsClusterOf c.args.flat.now) (sym c.self.view_is) c.requires.of in
    let end : next_offset (the_view c.self.inside) ≡ None = subst (λ (s : ClusterOf). next_offset s ≡ None) (sym c.self.view_is) c.requires.done in
    let result : c.has_changes.result ≡ false = search rules in
    let none : (i : ℕ) (a : AttrsOf) → slice_get (the_view c.self.inside).table i ≡ Some a → has_changes c.args.flat.now.tables.modules a.number ≡ false =
    λ i a at. c.has_changes.ensures.none result i a (ap (λ l. slice_get l i) c.rows.ensures.rows ∙ at) in
    subst (λ (s : ClusterOf). HasCrossed s (at_place (the_view c.self.inside) c.self.inside.place true)) c.self.view_is (still_crossed c.args.flat.now (the_view c.self.inside) laid of end none)

pub returns-then-not-has_changes-clause-crosses : goal.returns-then-not-has_changes-clause-crosses
returns-then-not-has_changes-clause-crosses c =
    let laid = c.law_laid.ensures.laid c.args.flat.now c.requires.sound in
    let of : IsClusterOf c.args.flat.now (the_view c.self.inside) = subst (IsClusterOf c.args.flat.now) (sym c.self.view_is) c.requires.of in
    let end : next_offset (the_view c.self.inside) ≡ None = subst (λ (s : ClusterOf). next_offset s ≡ None) (sym c.self.view_is) c.requires.done in
    let result : c.has_changes.result ≡ false = search rules in
    let none : (i : ℕ) (a : AttrsOf) → slice_get (the_view c.self.inside).table i ≡ Some a → has_changes c.args.flat.now.tables.modules a.number ≡ false =
    λ i a at. c.has_changes.ensures.none result i a (ap (λ l. slice_get l i) c.rows.ensures.rows ∙ at) in
    subst (λ (s : ClusterOf). CrossesFrom c.args.flat.now s (at_place (the_view c.self.inside) c.self.inside.place true)) c.self.view_is (still_crosses c.args.flat.now (the_view c.self.inside) laid of end none)

pub returns-then-not-has_changes-clause-of : goal.returns-then-not-has_changes-clause-of
returns-then-not-has_changes-clause-of c =
    let laid = c.law_laid.ensures.laid c.args.flat.now c.requires.sound in
    let of : IsClusterOf c.args.flat.now (the_view c.self.inside) = subst (IsClusterOf c.args.flat.now) (sym c.self.view_is) c.requires.of in
    let end : next_offset (the_view c.self.inside) ≡ None = subst (λ (s : ClusterOf). next_offset s ≡ None) (sym c.self.view_is) c.requires.done in
    let result : c.has_changes.result ≡ false = search rules in
    let none : (i : ℕ) (a : AttrsOf) → slice_get (the_view c.self.inside).table i ≡ Some a → has_changes c.args.flat.now.tables.modules a.number ≡ false =
    λ i a at. c.has_changes.ensures.none result i a (ap (λ l. slice_get l i) c.rows.ensures.rows ∙ at) in
    still_of c.args.flat.now (the_view c.self.inside) laid of end none

pub ask-requires-clause-has : goal.ask-requires-clause-has
ask-requires-clause-has c =
    let laid = c.law_laid.ensures.laid c.args.flat.now c.requires.sound in
    let of : IsClusterOf c.args.flat.now (the_view c.self.inside) = subst (IsClusterOf c.args.flat.now) (sym c.self.view_is) c.requires.of in
    let result : c.has_changes.result ≡ true = search rules in
    let row = c.has_changes.ensures.some result in
    let at : slice_get (the_view c.self.inside).table row.0 ≡ Some row.1 = ap (λ l. slice_get l row.0) (sym c.rows.ensures.rows) ∙ row.2 in
    has_cluster c.args.flat.now (the_view c.self.inside) laid of row.0 row.1 at

pub ask-requires-clause-planned : goal.ask-requires-clause-planned
ask-requires-clause-planned c =
    let laid = c.law_laid.ensures.laid c.args.flat.now c.requires.sound in
    let of : IsClusterOf c.args.flat.now (the_view c.self.inside) = subst (IsClusterOf c.args.flat.now) (sym c.self.view_is) c.requires.of in
    planned_is c.args.flat.now (the_view c.self.inside) laid of

pub ask-requires-clause-known : goal.ask-requires-clause-known
ask-requires-clause-known c =
    let of : IsClusterOf c.args.flat.now (the_view c.self.inside) = subst (IsClusterOf c.args.flat.now) (sym c.self.view_is) c.requires.of in
    of.known

pub ask-requires-clause-modules : goal.ask-requires-clause-modules
ask-requires-clause-modules c =
    let laid = c.law_laid.ensures.laid c.args.flat.now c.requires.sound in
    let of : IsClusterOf c.args.flat.now (the_view c.self.inside) = subst (IsClusterOf c.args.flat.now) (sym c.self.view_is) c.requires.of in
    modules_are c.args.flat.now (the_view c.self.inside) laid of

pub ask-requires-clause-instances : goal.ask-requires-clause-instances
ask-requires-clause-instances c =
    let laid = c.law_laid.ensures.laid c.args.flat.now c.requires.sound in
    let of : IsClusterOf c.args.flat.now (the_view c.self.inside) = subst (IsClusterOf c.args.flat.now) (sym c.self.view_is) c.requires.of in
    instances_are c.args.flat.now (the_view c.self.inside) laid of

pub invariant_of-self-2 : goal.invariant_of-self-2
invariant_of-self-2 c =
    let laid = c.law_laid.ensures.laid c.args.flat.now c.requires.sound in
    let of : IsClusterOf c.args.flat.now (the_view c.self.inside) = subst (IsClusterOf c.args.flat.now) (sym c.self.view_is) c.requires.of in
    let end : next_offset (the_view c.self.inside) ≡ None = subst (λ (s : ClusterOf). next_offset s ≡ None) (sym c.self.view_is) c.requires.done in
    let long = as_long c.args.flat.now (the_view c.self.inside) laid of end c.requires.sound.model c.ask.new.actors.runners (c.ask.ensures.moved c.requires.sound.model (values_at c.self.inside.actors.runners) c.requires.sound.is.bodies (λ i a at. refl)) c.ask.new.attrs.known c.ask.new.attrs.rows c.ask.result (c.ask.ensures.answer c.requires.sound.model (values_at c.self.inside.actors.runners) c.requires.sound.is.bodies (λ i a at. refl)).next c.ask.ensures.kept in
    let room = c.self.invariant.room in let more = c.ask.ensures.room in
    record { sorted = c.self.invariant.sorted; rising = c.self.invariant.rising; counted = c.self.invariant.counted; room = omega (arith, long, room, more) }

pub returns-clause-answer : goal.returns-clause-answer
returns-clause-answer c =
    subst (λ (s : ClusterOf). WhenItAsks c.args.flat.now s (λ asks. AnswersAsks c.args.flat.now s.number asks s.table c.ask.new.attrs.rows c.ask.result)) c.self.view_is
    (λ model cells checked are. c.ask.ensures.answer model cells checked are.each)

pub returns-clause-crossed : goal.returns-clause-crossed
returns-clause-crossed c =
    let laid = c.law_laid.ensures.laid c.args.flat.now c.requires.sound in
    let of : IsClusterOf c.args.flat.now (the_view c.self.inside) = subst (IsClusterOf c.args.flat.now) (sym c.self.view_is) c.requires.of in
    let end : next_offset (the_view c.self.inside) ≡ None = subst (λ (s : ClusterOf). next_offset s ≡ None) (sym c.self.view_is) c.requires.done in
    let kept : c.ask.new.actors.positions ≡ c.self.inside.actors.positions = ap (λ (a : ActorsOf). a.positions) c.ask.ensures.rest in
    subst (λ (p : List ℕ). HasCrossed c.args.self.now (record (crossed_of (the_view c.self.inside) c.ask.new.attrs.rows c.ask.new.attrs.known c.ask.new.actors.runners) { positions = p })) (sym kept)
    (subst (λ (s : ClusterOf). HasCrossed s (crossed_of (the_view c.self.inside) c.ask.new.attrs.rows c.ask.new.attrs.known c.ask.new.actors.runners)) c.self.view_is (has_crossed c.args.flat.now (the_view c.self.inside) laid of end c.requires.sound.model c.ask.new.actors.runners (c.ask.ensures.moved c.requires.sound.model (values_at c.self.inside.actors.runners) c.requires.sound.is.bodies (λ i a at. refl)) c.ask.new.attrs.known c.ask.new.attrs.rows c.ask.result (c.ask.ensures.answer c.requires.sound.model (values_at c.self.inside.actors.runners) c.requires.sound.is.bodies (λ i a at. refl)).next c.ask.ensures.kept))

pub returns-clause-crosses : goal.returns-clause-crosses
returns-clause-crosses c =
    let laid = c.law_laid.ensures.laid c.args.flat.now c.requires.sound in
    let of : IsClusterOf c.args.flat.now (the_view c.self.inside) = subst (IsClusterOf c.args.flat.now) (sym c.self.view_is) c.requires.of in
    let end : next_offset (the_view c.self.inside) ≡ None = subst (λ (s : ClusterOf). next_offset s ≡ None) (sym c.self.view_is) c.requires.done in
    let moved = c.ask.ensures.moved c.requires.sound.model (values_at c.self.inside.actors.runners) c.requires.sound.is.bodies (λ i a at. refl) in
    subst (λ (s : ClusterOf). CrossesFrom c.args.flat.now s (crossed_of (the_view c.self.inside) c.ask.new.attrs.rows c.ask.new.attrs.known c.ask.new.actors.runners)) c.self.view_is
    (crosses_from c.args.flat.now (the_view c.self.inside) laid of end c.ask.new.actors.runners c.ask.new.attrs.rows c.ask.new.attrs.known (λ model checked. c.ask.ensures.moved model (values_at c.self.inside.actors.runners) checked (λ i a at. refl)) moved.are.same)

pub returns-clause-of : goal.returns-clause-of
returns-clause-of c =
    let laid = c.law_laid.ensures.laid c.args.flat.now c.requires.sound in
    let of : IsClusterOf c.args.flat.now (the_view c.self.inside) = subst (IsClusterOf c.args.flat.now) (sym c.self.view_is) c.requires.of in
    let end : next_offset (the_view c.self.inside) ≡ None = subst (λ (s : ClusterOf). next_offset s ≡ None) (sym c.self.view_is) c.requires.done in
    let kept : c.ask.new.actors.positions ≡ c.self.inside.actors.positions = ap (λ (a : ActorsOf). a.positions) c.ask.ensures.rest in
    subst (λ (p : List ℕ). IfOk c.ask.result (λ next. CanInstall c.args.flat.now (record (crossed_of (the_view c.self.inside) c.ask.new.attrs.rows c.ask.new.attrs.known c.ask.new.actors.runners) { positions = p }) next)) (sym kept)
    (if_ok c.ask.result (c.ask.ensures.answer c.requires.sound.model (values_at c.self.inside.actors.runners) c.requires.sound.is.bodies (λ i a at. refl)).next c.ask.ensures.carried
    (λ next is carried. can_install c.args.flat.now (the_view c.self.inside) laid of end c.requires.sound.model c.ask.new.actors.runners (c.ask.ensures.moved c.requires.sound.model (values_at c.self.inside.actors.runners) c.requires.sound.is.bodies (λ i a at. refl)) c.ask.new.attrs.known (c.ask.ensures.answer c.requires.sound.model (values_at c.self.inside.actors.runners) c.requires.sound.is.bodies (λ i a at. refl)).after c.ask.new.attrs.rows next is carried))

pub returns-clause-still : goal.returns-clause-still
returns-clause-still c =
    let laid = c.law_laid.ensures.laid c.args.flat.now c.requires.sound in
    let of : IsClusterOf c.args.flat.now (the_view c.self.inside) = subst (IsClusterOf c.args.flat.now) (sym c.self.view_is) c.requires.of in
    let end : next_offset (the_view c.self.inside) ≡ None = subst (λ (s : ClusterOf). next_offset s ≡ None) (sym c.self.view_is) c.requires.done in
    let result : c.has_changes.result ≡ true = search rules in
    let row = c.has_changes.ensures.some result in
    let at : slice_get (the_view c.self.inside).table row.0 ≡ Some row.1 = ap (λ l. slice_get l row.0) (sym c.rows.ensures.rows) ∙ row.2 in
    λ none. not_still c.args.flat.now (the_view c.self.inside) laid of end row.0 row.1 at row.3 (subst (λ (s : ClusterOf). HasNoChanges c.args.flat.now.tables s.number) (sym c.self.view_is) none)

pub returns-then-not-has_changes-clause-heads : goal.returns-then-not-has_changes-clause-heads
returns-then-not-has_changes-clause-heads c =
    head_held c.args.flat.now c.args.self.now.table c.args.self.now c.requires.of c.requires.done c.requires.sound (c.law_laid.ensures.laid c.args.flat.now c.requires.sound).limits c.law_laid.ensures.present

pub returns-clause-heads : goal.returns-clause-heads
returns-clause-heads c =
    head_held c.args.flat.now c.args.self.now.table c.args.self.now c.requires.of c.requires.done c.requires.sound (c.law_laid.ensures.laid c.args.flat.now c.requires.sound).limits c.law_laid.ensures.present
