-- The outputs of a module have at most 64 bits, where the samples that it reads do.
use Rattle.std.proofs.Common.{◌≡◌, ℕ, zero, suc, ◌+◌, ◌-◌, ◌&&◌, nat_eq, List, [], ◌∷◌, length, map, take, replicate, ℤ, pos, Option, Some, None, refl, subst}
use Rattle.std.specs.List.{AllByRecursion}
use Rattle.std.specs.Prelude.{slice_get}
use Rattle.tdf_bind.specs.declared.model.Flat.{Flat}
use Rattle.tdf_bind_connections.specs.declared.edges.EdgeRow.{EdgeRow}
use Rattle.tdf_bind_connections.specs.declared.modules.PortRow.{PortRow}
use Rattle.tdf_exec_firing.specs.Activation.{num_of, port_samples, ports_before, sample_of_span, samples_from}
use Rattle.tdf_expr.specs.Blocks.{PureBlock, blocks_of, body_of, scope_of}
use Rattle.tdf_expr.specs.Checked.{IsCheckedOf}
use Rattle.tdf_expr.specs.Compiled.{AreBlocksOf}
use Rattle.tdf_expr.specs.Made.{event_count, port_spans_of}
use Rattle.tdf_expr.specs.Runs.{scope_in}
use Rattle.tdf_expr.specs.declared.blocks.Block.{Block}
use Rattle.tdf_expr.specs.declared.bodies.Body.{Body}
use Rattle.tdf_expr.specs.declared.bodies.Body.TheVariants as body
use Rattle.tdf_expr.specs.declared.spans.PortSpan.{PortSpan}
use Rattle.tdf_expr_state.specs.State.{State, state_of}
use Rattle.tdf_expr_symbols.specs.Names.{Names, globals_of}
use Rattle.tdf_expr_symbols.specs.Sound.{IsSound}
use Rattle.tdf_fixed.specs.declared.raw.Raw.{Raw}
use Rattle.tdf_graph.specs.declared.actors.Actor.{Actor}
use Rattle.tdf_graph.specs.declared.actors.Actor.TheVariants as actor
use Rattle.tdf_lang_tree.specs.Pure.{PureTree}
use Rattle.tdf_streams.specs.Bodies.{after_part, done_by, module_acted, module_rates}
use Rattle.tdf_streams.specs.Periods.{PeriodInfo}
use Rattle.tdf_streams.specs.Places.{block_at, place_of_port, read_through}
use Rattle.tdf_tables_of_runs.proofs.Small.{AreSmall, HasSmall, IsSmallRaw, either, small_both, small_none, small_nums, small_take, small_zeros, zero_small}
use Rattle.tdf_tables_of_runs.proofs.Statements.{HasSmallPorts, stmts_small}

-- ---- the names in force in a block

sound_at : (globals : Names) (ps : List PureBlock) (bs : List Block) (n : ℕ) (p : PureBlock) → AreBlocksOf globals ps bs → slice_get ps n ≡ Some p → IsSound (scope_of globals p)
sound_at globals [] [] n p are at = absurd (cc)
sound_at globals [] (b ∷ bs) n p are at = absurd are
sound_at globals (q ∷ ps) [] n p are at = absurd are
sound_at globals (q ∷ ps) (b ∷ bs) zero p are at = let same : q ≡ p = cc in subst (λ (x : PureBlock). IsSound (scope_of globals x)) same are.0.sound
sound_at globals (q ∷ ps) (b ∷ bs) (suc n) p are at = sound_at globals ps bs n p are.1 at

pub block_sound : (model : PureTree) (flat : Flat) → IsCheckedOf model flat.checked → (n : ℕ) (p : PureBlock) → slice_get (blocks_of model.globals) n ≡ Some p → IsSound (scope_in model p)
block_sound model flat checked n p at = sound_at (globals_of model.globals) (blocks_of model.globals) flat.checked.blocks.items n p checked at

-- ---- the samples of ports

pub span_small : (samples : List ℤ) (k : ℕ) (o : Option PortSpan) → HasSmall samples → IsSmallRaw (sample_of_span samples k o)
span_small samples k None h = zero_small
span_small samples k (Some p) h = h (p.first + k)

port_small : (p : PortSpan) (read : List Raw) → AreSmall read → HasSmall (port_samples p read)
port_small p read h =
    small_both (take p.count (map num_of read)) (replicate (p.count - length read) (pos 0))
    (small_take p.count (map num_of read) (small_nums read h)) (small_zeros (p.count - length read))

from_small : (read : ℕ → List Raw) → ((place : ℕ) → AreSmall (read place)) → (place : ℕ) (spans : List PortSpan) → HasSmall (samples_from read place spans)
unfolding samples_from
from_small read each place [] = small_none
from_small read each place (p ∷ ps) =
    small_both (port_samples p (read place)) (samples_from read (place + 1) ps) (port_small p (read place) (each place)) (from_small read each (place + 1) ps)

through_small : (ports : List PortRow) (m : ℕ) (edges : List EdgeRow) (lists : List (List Raw)) (place : ℕ) → AllByRecursion AreSmall lists → AreSmall (read_through ports m edges lists place)
through_small ports m [] lists place h = tt
through_small ports m (edge ∷ edges) [] place h = tt
through_small ports m (edge ∷ edges) (xs ∷ lists) place h =
    either AreSmall (nat_eq edge.reader m && nat_eq (place_of_port ports edge.port) place) xs (read_through ports m edges lists place) h.0 (through_small ports m edges lists place h.1)

-- ---- an activation

module _ (model : PureTree) (flat : Flat) (checked : IsCheckedOf model flat.checked) where
  part_small : (n : ℕ) (o : Option PureBlock) (part : Body) (s : State) → slice_get (blocks_of model.globals) n ≡ o → HasSmallPorts s → HasSmallPorts (after_part model o part s)
  part_small n None part s at h = h
  part_small n (Some block) part s at h = stmts_small (scope_in model block) (block_sound model flat checked n block at) [] [] (body_of block part) s h

  done_small : (m : ℕ) (part : Body) (cells : List ℤ) (rates : List ℕ) (read : ℕ → List Raw) → ((place : ℕ) → AreSmall (read place))
      → HasSmallPorts (done_by model flat m part cells rates read)
  unfolding done_by
  done_small m part cells rates read each =
      let b = block_at flat.tables.modules m in
      part_small b (slice_get (blocks_of model.globals) b) part
      (state_of (record { cells = cells; rates = rates }) (ports_before (port_spans_of flat.checked b) (event_count flat.checked b) read)) refl
      (from_small read each 0 (port_spans_of flat.checked b))

  pub acted_small : (m : ℕ) (kind : Option Actor) (info : PeriodInfo) (cells : List ℤ) (inputs : List (List Raw)) → AllByRecursion AreSmall inputs
      → (port k : ℕ) → IsSmallRaw ((module_acted model flat m kind info cells inputs).outputs port k)
  acted_small m (Some actor.Module) info cells inputs h port k =
      let read = read_through flat.tables.ports m flat.tables.edges inputs in
      let done = done_by model flat m body.Processing cells (module_rates info m) read in
      span_small done.ports.samples k (slice_get (port_spans_of flat.checked (block_at flat.tables.modules m)) (place_of_port flat.tables.ports port))
      (done_small m body.Processing cells (module_rates info m) read (λ place. through_small flat.tables.ports m flat.tables.edges inputs place h))
  acted_small m (Some actor.Sampler) info cells inputs h port k = zero_small
  acted_small m (Some actor.Sink) info cells inputs h port k = zero_small
  acted_small m None info cells inputs h port k = zero_small
