-- A cluster takes what is its own of what is laid out for all.
use Rattle.std.proofs.Common.{◌≡◌, ◌∙◌, ◌≢◌, ℕ, zero, suc, ◌+◌, ◌<◌, ◌≤◌, false, if◌then◌else◌, List, [], ◌∷◌, ◌++◌, Some, length, length-set, map, refl, sym, ap, subst, inl, inr, ◌⊎◌, arith}
use Rattle.std.proofs.lemmas.Bool.{cases_eq, eq-eqb, ne_eqb}
use Rattle.std.proofs.lemmas.List.{take_all}
use Rattle.std.proofs.lemmas.Option.{get_or_from_slice_get, slice_get_within}
use Rattle.std.proofs.lemmas.Simd.{map-map}
use Rattle.std.specs.List.{enumerate_from}
use Rattle.std.specs.Prelude.{filter_map, slice_get, slice_index, slice_set}
use Rattle.tdf_bind.specs.declared.model.Flat.{Flat}
use Rattle.tdf_bind_tables.specs.Actors.{cluster_of}
use Rattle.tdf_bind_tables.specs.FlatTables.{FlatTablesOf}
use Rattle.tdf_bind_tables.specs.declared.actors.ActorRow.{ActorRow}
use Rattle.tdf_cluster_net.specs.Numbers.{AreNumbers}
use Rattle.tdf_cluster_plans.specs.Groups.{AreTableGroups}
use Rattle.tdf_dynamic_plans.proofs.Api.{modules_few}
use Rattle.tdf_dynamic_plans.specs.Attributes.{AttrsOf, clusters_of}
use Rattle.tdf_exec.proofs.Begins.{runners_next}
use Rattle.tdf_exec.proofs.Formed.{traced_numbered}
use Rattle.tdf_exec.proofs.Keeping.{get_set_other}
use Rattle.tdf_exec.proofs.Moved.{some_inj}
use Rattle.tdf_exec.proofs.Numbered.{none_other, own_among}
use Rattle.tdf_exec.proofs.Resumed.{state_runners}
use Rattle.tdf_exec.proofs.Rows.{index_at}
use Rattle.tdf_exec.specs.Layout.{HasLayoutOf, KeepsLayouts, LayoutOf}
use Rattle.tdf_exec.specs.Made.{is_sampler_runner, sampler_runners_before}
use Rattle.tdf_exec.specs.Traced.{traced_port, unrated_port}
use Rattle.tdf_exec.specs.declared.runners.Runner.{Runner}
use Rattle.tdf_exec.specs.declared.runners.Runner.TheVariants as runner
use Rattle.tdf_exec.specs.declared.runners.TracedPort.{TracedPort}
use Rattle.tdf_exec.specs.machine.Laid.{AreClusterWires, AreRunnersOf, HaveTraced, IsLaid}
use Rattle.tdf_exec.specs.machine.Resuming.{AreRestored, HoldsState}
use Rattle.tdf_exec.specs.machine.Starting.{AreFirstRunners, AreTakenUpTo, HoldsText, IsFirstRunner, own_wire, own_wires}
use Rattle.tdf_exec.specs.machine.Tracing.{AreGivenTraced, AreTracedUpTo, CanGet, rated, traced_before, with_traced}
use Rattle.tdf_dynamic_first.specs.Text.{first_table}
use Rattle.tdf_exec_parts.specs.Below.{IsTableOfStates}
use Rattle.tdf_exec_parts.specs.States.{AreStatesOfRows}
use Rattle.tdf_saved.specs.State.{ModuleStateOf}
use Rattle.tdf_exec_layout.specs.Traced.{number_if_traced, traced_ports}
use Rattle.tdf_exec_layout.specs.Wires.{AreAllWires}
use Rattle.tdf_exec_layout.specs.declared.wiring.ActorWires.{ActorWires}
use Rattle.tdf_exec_layout.specs.declared.wiring.ActorWires.TheVariants.{Elsewhere}
use Rattle.tdf_expr_state.specs.State.{FrameState}
use Rattle.tdf_streams.proofs.Api.{get_inside, is_wired, none_some}

-- ---- what the actors of a cluster are told

pub own_long : (rows : List ActorRow) (cluster : ℕ) (ws : List ActorWires) → length ws ≡ length rows → length (own_wires rows cluster ws) ≡ length rows
own_long [] cluster ws long = refl
own_long (row ∷ rows) cluster [] long = long
own_long (row ∷ rows) cluster (w ∷ ws) long = ap suc (own_long rows cluster ws (omega (arith, long)))

own_at : (rows : List ActorRow) (cluster : ℕ) (ws : List ActorWires) (m : ℕ) (row : ActorRow) (w : ActorWires) → slice_get rows m ≡ Some row → slice_get ws m ≡ Some w
    → slice_get (own_wires rows cluster ws) m ≡ Some (own_wire cluster row w)
own_at [] cluster ws m row w at there = none_some row at
own_at (x ∷ rows) cluster [] m row w at there = none_some w there
own_at (x ∷ rows) cluster (y ∷ ws) zero row w at there = ap (λ k. Some (own_wire cluster k y)) (some_inj x row at) ∙ ap (λ k. Some (own_wire cluster row k)) (some_inj y w there)
own_at (x ∷ rows) cluster (y ∷ ws) (suc m) row w at there = own_at rows cluster ws m row w at there

pub own_there : (rows : List ActorRow) (cluster : ℕ) (ws : List ActorWires) (m : ℕ) (row : ActorRow) (w : ActorWires) → slice_get rows m ≡ Some row → slice_get ws m ≡ Some w
    → row.cluster ≡ cluster → slice_get (own_wires rows cluster ws) m ≡ Some w
own_there rows cluster ws m row w at there own = own_at rows cluster ws m row w at there ∙ ap (λ b. Some (if b then w else Elsewhere)) (eq-eqb row.cluster cluster own)

pub other_there : (rows : List ActorRow) (cluster : ℕ) (ws : List ActorWires) (m : ℕ) (row : ActorRow) (w : ActorWires) → slice_get rows m ≡ Some row → slice_get ws m ≡ Some w
    → row.cluster ≢ cluster → slice_get (own_wires rows cluster ws) m ≡ Some Elsewhere
other_there rows cluster ws m row w at there apart = own_at rows cluster ws m row w at there ∙ ap (λ b. Some (if b then w else Elsewhere)) (ne_eqb row.cluster cluster apart)

-- ---- one actor more

module _ (flat : Flat) (Holds : ℕ → FrameState → Type 0) (cluster n : ℕ) (old now : List ActorWires) (samplers : ℕ) (runners : List Runner)
    (are : AreTakenUpTo flat Holds cluster n old now samplers runners) (row : ActorRow) (at : slice_get flat.tables.actors n ≡ Some row) (w : ActorWires) (there : slice_get now n ≡ Some w) where
  was : slice_get old n ≡ Some w
  was = sym (are.left n (omega arith)) ∙ there

  -- of another cluster
  pub taken_other : row.cluster ≢ cluster → AreTakenUpTo flat Holds cluster (n + 1) old now samplers (runners ++ runner.Outside ∷ [])
  taken_other apart = record {
    first = runners_next flat Holds n (own_wires flat.tables.actors cluster old) samplers samplers runners Elsewhere runner.Outside are.first
        (other_there flat.tables.actors cluster old n row w at was apart) tt (omega arith);
    same = are.same;
    left = λ m high. are.left m (omega (arith, high));
    others = are.others;
  }

  -- of the cluster
  pub taken_own : row.cluster ≡ cluster → (next : ℕ) (r : Runner) (dest : ActorWires) → IsFirstRunner flat Holds n samplers w r → next ≡ samplers + (if is_sampler_runner r then 1 else 0)
      → AreTakenUpTo flat Holds cluster (n + 1) old (slice_set now n dest) next (runners ++ r ∷ [])
  taken_own own next r dest is more = record {
    first = runners_next flat Holds n (own_wires flat.tables.actors cluster old) samplers next runners w r are.first (own_there flat.tables.actors cluster old n row w at was own) is more;
    same = length-set now n dest ∙ are.same;
    left = λ m high. get_set_other now n m dest (λ e. absurd (omega (arith, e, high))) ∙ are.left m (omega (arith, high));
    others = λ m other other_at apart.
        get_set_other now n m dest (λ e. apart (ap (λ (x : ActorRow). x.cluster) (some_inj other row (sym other_at ∙ ap (slice_get flat.tables.actors) e ∙ at)) ∙ own)) ∙ are.others m other other_at apart;
  }

-- ---- what is laid out

all_traced : (tables : FlatTablesOf) (m : ℕ) → traced_before tables (length tables.ports) m ≡ traced_ports tables m
all_traced tables m = ap (λ l. filter_map (λ port. number_if_traced tables m port.0 port.1) (enumerate_from 0 l)) (take_all (length tables.ports) tables.ports (omega arith))

pub laid_out : (flat : Flat) (layout : LayoutOf) → AreAllWires flat.tables layout.wires → AreTracedUpTo flat.tables (length flat.tables.ports) layout.traced → AreTableGroups flat.tables layout.groups
    → (cluster : ℕ) → HasLayoutOf flat cluster layout
laid_out flat layout wires traced groups cluster = record {
  actors = wires.long;
  modules = traced.long;
  wires = λ m row w at there own. wires.each m row w at there;
  traced = λ m list at own. sym (get_or_from_slice_get layout.traced m list [] at) ∙ traced.each m (let i = slice_get_within layout.traced m list at in let l = traced.long in omega (arith, i, l))
      ∙ ap (map (unrated_port flat.tables)) (all_traced flat.tables m);
  groups = groups;
}

-- ports with their rates
all_rated : (tables : FlatTablesOf) (table : List AttrsOf) (numbers : List ℕ) → map (rated tables table) (map (unrated_port tables) numbers) ≡ map (traced_port tables table) numbers
all_rated tables table numbers = map-map (rated tables table) (unrated_port tables) numbers

can_get : (flat : Flat) (m : ℕ) (list : List TracedPort) → list ≡ map (unrated_port flat.tables) (traced_ports flat.tables m) → (r : Runner) → CanGet flat.tables.ports list r
can_get flat m list are (runner.Module x) = traced_numbered flat m (unrated_port flat.tables) (λ n. refl) list are
can_get flat m list are (runner.Sampler s) = tt
can_get flat m list are (runner.Sink k) = tt
can_get flat m list are runner.Outside = tt

-- an actor that is told nothing keeps nothing
pub outside : (flat : Flat) (Holds : ℕ → FrameState → Type 0) (m place : ℕ) (r : Runner) → IsFirstRunner flat Holds m place Elsewhere r → r ≡ runner.Outside
outside flat Holds m place (runner.Module x) is = absurd is
outside flat Holds m place (runner.Sampler s) is = absurd is
outside flat Holds m place (runner.Sink k) is = absurd is
outside flat Holds m place runner.Outside is = refl

-- what a cluster begins with, where it has its layout
module _ (flat : Flat) (laid : IsLaid flat) (Holds : ℕ → FrameState → Type 0) (cluster : ℕ) (layout : LayoutOf) (has : HasLayoutOf flat cluster layout) (samplers : ℕ) (begun : List Runner) where
  abbrev pub told : List ActorWires
  told = own_wires flat.tables.actors cluster layout.wires

  pub told_long : length told ≡ length flat.tables.actors
  told_long = own_long flat.tables.actors cluster layout.wires has.actors

  told_are : AreClusterWires flat.tables cluster told
  told_are = record {
    long = told_long;
    own = λ m row w at there own. (let x = wire m row at in
        has.wires m row w at (x.1 ∙ ap Some (some_inj x.0 w (sym (own_there flat.tables.actors cluster layout.wires m row x.0 at x.1 own) ∙ there))) own);
    other = λ m row w at there apart. (let x = wire m row at in some_inj w Elsewhere (sym there ∙ other_there flat.tables.actors cluster layout.wires m row x.0 at x.1 apart));
  }
    where
      wire : (m : ℕ) (row : ActorRow) → slice_get flat.tables.actors m ≡ Some row → (w : ActorWires) × (slice_get layout.wires m ≡ Some w)
      wire m row at = get_inside layout.wires m (let i = slice_get_within flat.tables.actors m row at in let l = has.actors in omega (arith, i, l))

  few : length flat.tables.modules ≤ length flat.tables.actors
  few = modules_few flat.tables (is_wired flat laid.limits)

  module _ (are : AreFirstRunners flat Holds (length layout.wires) told samplers begun) where
    pub first_told : AreFirstRunners flat Holds (length told) told samplers begun
    first_told = subst (λ n. AreFirstRunners flat Holds n told samplers begun) (has.actors ∙ sym told_long) are

    -- an actor of another cluster
    other_is : (m : ℕ) (row : ActorRow) (r : Runner) → slice_get flat.tables.actors m ≡ Some row → slice_get begun m ≡ Some r → row.cluster ≢ cluster → r ≡ runner.Outside
    other_is m row r at there apart =
        let i = slice_get_within flat.tables.actors m row at in let l = has.actors in
        let w = get_inside layout.wires m (omega (arith, i, l)) in
        outside flat Holds m (sampler_runners_before begun m) r (are.each m Elsewhere r (other_there flat.tables.actors cluster layout.wires m row w.0 at w.1 apart) there)

    row_of : (m : ℕ) → m < length flat.tables.modules → (row : ActorRow) × (slice_get flat.tables.actors m ≡ Some row)
    row_of m below = get_inside flat.tables.actors m (let f = few in omega (arith, f, below))

    pub many : length layout.traced ≤ length begun
    many = let f = few in let l = are.long in let h = has.modules in let a = has.actors in omega (arith, f, l, h, a)

    pub can_take : (m : ℕ) (list : List TracedPort) (r : Runner) → slice_get layout.traced m ≡ Some list → slice_get begun m ≡ Some r → CanGet flat.tables.ports list r
    can_take m list r at there =
        let i = slice_get_within layout.traced m list at in let l = has.modules in
        let row = row_of m (omega (arith, i, l)) in
        go row.0 row.1 (cases_eq row.0.cluster cluster)
      where
        go : (row : ActorRow) → slice_get flat.tables.actors m ≡ Some row → (row.cluster ≡ cluster) ⊎ (row.cluster ≢ cluster) → CanGet flat.tables.ports list r
        go row row_at (inl own) = can_get flat m list (has.traced m list at (index_at cluster_of flat.tables.actors m row row_at ∙ own)) r
        go row row_at (inr apart) = subst (CanGet flat.tables.ports list) (sym (other_is m row r row_at there apart)) tt

    module _ (table : List AttrsOf) (numbers : List ℕ) (own : AreNumbers (length (clusters_of flat.tables)) (λ m. slice_index (clusters_of flat.tables) m ≡ cluster) numbers)
        (now : List (List TracedPort)) (runners : List Runner) (given : AreGivenTraced flat.tables table numbers (length numbers) layout.traced now begun runners) where
      have_traced : HaveTraced flat.tables table begun runners
      have_traced = record {
        same = given.same;
        done = λ m r below there. done m r below there (cases_eq (row_of m below).0.cluster cluster);
        rest = λ m past. given.past m (let l = has.modules in omega (arith, past, l));
      }
        where
          done : (m : ℕ) (r : Runner) (below : m < length flat.tables.modules) → slice_get begun m ≡ Some r → ((row_of m below).0.cluster ≡ cluster) ⊎ ((row_of m below).0.cluster ≢ cluster)
              → slice_get runners m ≡ Some (with_traced (map (traced_port flat.tables table) (traced_ports flat.tables m)) r)
          done m r below there (inl mine) =
              let row = row_of m below in let l = has.modules in
              let list = get_inside layout.traced m (omega (arith, below, l)) in
              let among = own_among flat.tables cluster numbers own m row.0 row.1 mine in
              ap (slice_get runners) (sym among.2)
              ∙ given.done among.0 list.0 r among.1 (ap (slice_get layout.traced) among.2 ∙ list.1) (ap (slice_get begun) among.2 ∙ there)
              ∙ ap (λ x. Some (with_traced x r)) (ap (map (rated flat.tables table)) (has.traced m list.0 list.1 (index_at cluster_of flat.tables.actors m row.0 row.1 ∙ mine))
              ∙ all_rated flat.tables table (traced_ports flat.tables m))
          done m r below there (inr apart) =
              let row = row_of m below in
              let is = other_is m row.0 r row.1 there apart in
              given.waiting m (none_other flat.tables cluster numbers own m row.0 row.1 apart) ∙ there
              ∙ ap Some is ∙ sym (ap (λ x. Some (with_traced (map (traced_port flat.tables table) (traced_ports flat.tables m)) x)) is)

      pub runners_are : AreRunnersOf flat Holds cluster table runners
      runners_are = record {
        wires = told;
        samplers = samplers;
        begun = begun;
        wires_are = told_are;
        begun_are = first_told;
        given = have_traced;
      }

      -- what other clusters have is still there
      pub keeps : (new : LayoutOf) → new.traced ≡ now → new.groups ≡ layout.groups → length new.wires ≡ length layout.wires
          → ((m : ℕ) (row : ActorRow) → slice_get flat.tables.actors m ≡ Some row → row.cluster ≢ cluster → slice_get new.wires m ≡ slice_get layout.wires m) → KeepsLayouts flat cluster layout new
      keeps new now_is groups_are same others other apart h = record {
        actors = same ∙ h.actors;
        modules = ap length now_is ∙ given.many ∙ h.modules;
        wires = λ m row w at there mine. h.wires m row w at (sym (others m row at (λ e. apart (sym mine ∙ e))) ∙ there) mine;
        traced = λ m list at mine. h.traced m list (sym (stays m list at mine) ∙ at) mine;
        groups = subst (AreTableGroups flat.tables) (sym groups_are) h.groups;
      }
        where
          stays : (m : ℕ) (list : List TracedPort) → slice_get new.traced m ≡ Some list → slice_index (clusters_of flat.tables) m ≡ other → slice_get new.traced m ≡ slice_get layout.traced m
          stays m list at mine =
              let i = slice_get_within new.traced m list at in let l = h.modules in let g = given.many in let n : length new.traced ≡ length now = ap length now_is in
              let below : m < length flat.tables.modules = omega (arith, i, l, g, n) in
              let row = row_of m below in
              ap (λ l. slice_get l m) now_is
              ∙ given.left m (none_other flat.tables cluster numbers own m row.0 row.1 (λ e. apart (sym mine ∙ index_at cluster_of flat.tables.actors m row.0 row.1 ∙ e)))

-- after they have got the values of a state
pub restored_told : (flat : Flat) (laid : IsLaid flat) (cluster : ℕ) (layout : LayoutOf) → HasLayoutOf flat cluster layout → (modules : List ModuleStateOf) (table : List AttrsOf)
    → AreStatesOfRows flat (first_table flat cluster) modules → IsTableOfStates flat cluster modules table → (samplers : ℕ) (begun new : List Runner)
    → AreFirstRunners flat (HoldsText flat false) (length layout.wires) (own_wires flat.tables.actors cluster layout.wires) samplers begun → AreRestored flat.checked table modules (length table) begun new
    → AreFirstRunners flat (HoldsState table modules) (length layout.wires) (own_wires flat.tables.actors cluster layout.wires) samplers new
restored_told flat laid cluster layout has modules table states is samplers begun new are restored =
    let long = own_long flat.tables.actors cluster layout.wires has.actors in
    subst (λ n. AreFirstRunners flat (HoldsState table modules) n (own_wires flat.tables.actors cluster layout.wires) samplers new) (long ∙ sym has.actors)
    (state_runners flat cluster laid.limits modules table states is (own_wires flat.tables.actors cluster layout.wires) samplers begun long
    (subst (λ n. AreFirstRunners flat (HoldsText flat false) n (own_wires flat.tables.actors cluster layout.wires) samplers begun) (has.actors ∙ sym long) are) new restored)
