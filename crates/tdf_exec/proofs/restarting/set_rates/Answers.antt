use Rattle.std.proofs.Common.{◌≡◌, ◌∙◌, List, [], ap, length, map, subst, sym, ℕ}
use Rattle.std.specs.Prelude.{slice_index}
use Rattle.tdf_cluster_net.specs.Numbers.{AllBelow}
use Rattle.tdf_dynamic_plans.specs.Attributes.{AttrsOf}
use Rattle.tdf_dynamic_plans.specs.Rates.{AreRates, net_of}
use Rattle.tdf_exec.proofs.Others.{edges_below, rates_back}
use Rattle.tdf_exec_firing.specs.Edges.{EdgesOf}
use Rattle.tdf_graph.specs.declared.actors.Edge.{Edge}
use Rattle.tdf_places.specs.Spread.{spread}
use Rattle.tdf_rings.specs.Rings.{RingOf, ring_of}
use Rattle.tdf_streams.specs.Periods.{read_rates, write_rates}
use Rattle.tdf_exec.proofs.restarting.set_rates.Goals as goal

pub set_own_rates-requires-clause-rates : goal.set_own_rates-requires-clause-rates
set_own_rates-requires-clause-rates c = subst (AreRates c.args.flat.now.tables) (sym c.rows.ensures.rows) c.requires.rates

pub set_own_rates-requires-clause-inside : goal.set_own_rates-requires-clause-inside
set_own_rates-requires-clause-inside c =
    subst (AllBelow (length c.args.flat.now.tables.edges)) (sym c.numbers.ensures)
    (edges_below c.args.flat.now.tables c.args.attrs.now.rows c.edges.inside.places c.law_apart.ensures c.edges.inside.rings.items c.args.edges.now.rings
    (ap (λ (x : EdgesOf). x.rings) c.edges.view_is) c.requires.all)

abbrev edges_of : List ℕ → List ℕ → List RingOf → EdgesOf
edges_of reads writes rings = record { reads = reads; writes = writes; rings = rings }

pub returns : goal.returns
returns c =
    let tables = c.args.flat.now.tables in
    let table = c.args.attrs.now.rows in
    let rings = ap (λ (x : EdgesOf). x.rings) c.edges.view_is in
    let own_rings = spread (ring_of [] 0) c.edges.inside.places c.edges.inside.rings.items in
    let back = rates_back tables table c.edges.inside.places c.law_apart.ensures c.edges.inside.rings.items c.args.edges.now.rings rings c.requires.all in
    let own_reads : c.set_own_rates.new.reads.items ≡ map (slice_index (read_rates (net_of tables table))) c.edges.inside.places.numbers =
    c.set_own_rates.ensures.reads
    ∙ ap (λ (t : List AttrsOf). map (slice_index (read_rates (net_of tables t))) c.numbers.result.now) c.rows.ensures.rows
    ∙ ap (λ (l : List ℕ). map (slice_index (read_rates (net_of tables table))) l) c.numbers.ensures in
    let own_writes : c.set_own_rates.new.writes.items ≡ map (slice_index (write_rates (net_of tables table))) c.edges.inside.places.numbers =
    c.set_own_rates.ensures.writes
    ∙ ap (λ (t : List AttrsOf). map (slice_index (write_rates (net_of tables t))) c.numbers.result.now) c.rows.ensures.rows
    ∙ ap (λ (l : List ℕ). map (slice_index (write_rates (net_of tables table))) l) c.numbers.ensures in
    ap (λ (l : List ℕ). edges_of l (spread 1 c.edges.inside.places c.set_own_rates.new.writes.items) own_rings)
    (back (λ (edge : Edge). edge.read_rate) (λ e less none. (c.requires.others e less none).0) c.set_own_rates.new.reads.items own_reads)
    ∙ ap (λ (l : List ℕ). edges_of (read_rates (net_of tables table)) l own_rings)
    (back (λ (edge : Edge). edge.write_rate) (λ e less none. (c.requires.others e less none).1) c.set_own_rates.new.writes.items own_writes)
    ∙ ap (λ (l : List RingOf). edges_of (read_rates (net_of tables table)) (write_rates (net_of tables table)) l) rings
