use Rattle.std.proofs.Common.{rules, ◌∙◌, List, [], ap, length, subst, sym, ℕ}
use Rattle.std.proofs.lemmas.List.{length-map}
use Rattle.std.specs.Prelude.{slice_index, slice_index_or}
use Rattle.tdf_cluster_plans.specs.Groups.{AreTableGroups}
use Rattle.tdf_dynamic_plans.specs.Rates.{net_of}
use Rattle.tdf_exec.proofs.Elsewhere.{edges_back, edges_distinct, in_edges, own_below}
use Rattle.tdf_exec.specs.Layout.{LayoutOf}
use Rattle.tdf_places.specs.Places.{PlacesOf}
use Rattle.tdf_streams.specs.Periods.{read_rates, write_rates}
use Rattle.tdf_exec.proofs.starting.own_edges.Goals as goal

pub edges-numbers-requires : goal.edges-numbers-requires
edges-numbers-requires c =
    let tables = c.args.flat.now.tables in
    let given : AreTableGroups tables c.layout.inside.groups = subst (λ (l : LayoutOf). AreTableGroups tables l.groups) (sym c.layout.view_is) c.requires.groups in
    in_edges tables c.args.cluster c.layout.inside.groups c.requires.has given

pub set_own_rates-requires-clause-inside : goal.set_own_rates-requires-clause-inside
set_own_rates-requires-clause-inside c =
    own_below c.args.flat.now.tables c.args.cluster c.args.layout.now.groups c.requires.has c.requires.groups c.edges-numbers.result.now
    (c.edges-numbers.ensures ∙ ap (λ (l : LayoutOf). slice_index_or l.groups.edges c.args.cluster []) c.layout.view_is)

pub of-requires : goal.of-requires
of-requires c =
    edges_distinct c.args.flat.now.tables c.args.cluster c.args.layout.now.groups c.requires.has c.requires.groups c.edges-numbers.result.now
    (c.edges-numbers.ensures ∙ ap (λ (l : LayoutOf). slice_index_or l.groups.edges c.args.cluster []) c.layout.view_is) _ (search rules)

pub of-requires-2-clause-reads : goal.of-requires-2-clause-reads
of-requires-2-clause-reads c =
    ap (λ (l : List ℕ). length l) c.set_own_rates.ensures.reads
    ∙ length-map c.edges-numbers.result.now (slice_index (read_rates (net_of c.args.flat.now.tables c.args.table.now)))
    ∙ ap (λ (p : PlacesOf). length p.numbers) (sym c.in_ok-places.ensures)

pub of-requires-2-clause-writes : goal.of-requires-2-clause-writes
of-requires-2-clause-writes c =
    ap (λ (l : List ℕ). length l) c.set_own_rates.ensures.writes
    ∙ length-map c.edges-numbers.result.now (slice_index (write_rates (net_of c.args.flat.now.tables c.args.table.now)))
    ∙ ap (λ (p : PlacesOf). length p.numbers) (sym c.in_ok-places.ensures)

pub of-requires-2-clause-rings : goal.of-requires-2-clause-rings
of-requires-2-clause-rings c =
    c.requires.long
    ∙ ap (λ (l : List ℕ). length l) (sym (c.edges-numbers.ensures ∙ ap (λ (l : LayoutOf). slice_index_or l.groups.edges c.args.cluster []) c.layout.view_is))
    ∙ ap (λ (p : PlacesOf). length p.numbers) (sym c.in_ok-places.ensures)

pub returns : goal.returns
returns c =
    let tables = c.args.flat.now.tables in
    c.of-2.ensures
    ∙ edges_back tables c.args.cluster c.args.layout.now.groups c.requires.has c.requires.groups c.edges-numbers.result.now
    (c.edges-numbers.ensures ∙ ap (λ (l : LayoutOf). slice_index_or l.groups.edges c.args.cluster []) c.layout.view_is)
    c.in_ok-places.places _ (search rules) c.in_ok-places.ensures
    (read_rates (net_of tables c.args.table.now)) (write_rates (net_of tables c.args.table.now)) c.set_own_rates.new.reads.items c.set_own_rates.new.writes.items c.args.rings.items
    c.requires.reads c.requires.writes c.set_own_rates.ensures.reads c.set_own_rates.ensures.writes
