-- What is left on the edges of a cluster at a place of a plan.
use Rattle.std.proofs.Common.{◌≡◌, ◌∙◌, ◌⊎◌, ◌<◌, ◌≤◌, ◌+◌, ◌*◌, ℕ, ℤ, [], Bool, true, if◌then◌else◌, List, Some, length, map, slice_get, take, option_map, refl, sym, ap, subst, inl, inr, arith}
use Rattle.std.proofs.lemmas.Bool.{cases_lt}
use Rattle.std.proofs.lemmas.List.{get_or-map}
use Rattle.std.proofs.lemmas.Option.{get_or_from_slice_get, same_Some, slice_get-map}
use Rattle.std.specs.Prelude.{slice_index, slice_index_or}
use Rattle.tdf_bind_connections.specs.declared.edges.EdgeRow.{EdgeRow}
use Rattle.tdf_bind_tables.specs.FlatTables.{FlatTablesOf}
use Rattle.tdf_cluster_plans.specs.Counted.{firings_of}
use Rattle.tdf_dynamic_plans.specs.Attributes.{AttrsOf}
use Rattle.tdf_dynamic_plans.specs.Rates.{net_of}
use Rattle.tdf_exec_layout.specs.Samples.{edge_format, format_of_port}
use Rattle.tdf_exec_layout.specs.Wiring.{port_of_row}
use Rattle.tdf_exec_parts.proofs.OwnEdges.{own_at, own_below, own_found, own_many}
use Rattle.tdf_exec_parts.specs.States.{AreInFormat, HoldEdges, HoldsUpTo, place_of_edge}
use Rattle.tdf_exec_parts.specs.machine.Traffic.{AreLeft, AreLeftUpTo, IsLeftOn}
use Rattle.tdf_schedule.specs.Plan.{done}
use Rattle.tdf_schedule.specs.declared.entry.Entry.{Entry}
use Rattle.tdf_exec_layout.proofs.Api.{get_inside}
use Rattle.tdf_exec_layout.specs.Below.{held_at_head, initial_of_row, is_own, read_rates, reader_at, reader_of_row, write_rates, writer_at, writer_of_row}

-- the format of an edge, by its row
pub format_at : (tables : FlatTablesOf) (e : ℕ) (edge : EdgeRow) → slice_get tables.edges e ≡ Some edge → edge_format tables e ≡ format_of_port tables (slice_get tables.ports edge.port)
format_at tables e edge at = ap (λ o. format_of_port tables (slice_get tables.ports (port_of_row o))) at

-- the items of the list at a place
pub items_at : {X : Type 0} (f : X → List ℤ) (xs : List X) (k : ℕ) (x : X) → slice_get xs k ≡ Some x → slice_index_or (map f xs) k [] ≡ f x
items_at f xs k x at = get_or_from_slice_get (map f xs) k (f x) [] (slice_get-map f xs k ∙ ap (option_map f) at)

-- one edge more
pub left_next : (tables : FlatTablesOf) (entries : List Entry) (reads writes numbers : List ℕ) (edges : List (List ℤ)) (n : ℕ) → AreLeftUpTo tables entries reads writes numbers edges n
    → (edge : EdgeRow) → slice_get tables.edges (slice_index numbers n) ≡ Some edge → IsLeftOn tables entries edge (slice_index reads n) (slice_index writes n) (slice_index_or edges n [])
    → AreLeftUpTo tables entries reads writes numbers edges (n + 1)
left_next tables entries reads writes numbers edges n are edge there one i row less at = go (cases_lt i n)
  where
    go : (i < n) ⊎ (n ≤ i) → IsLeftOn tables entries row (slice_index reads i) (slice_index writes i) (slice_index_or edges i [])
    go (inl below) = are i row below at
    go (inr past) =
        let same : n ≡ i = omega (arith, less, past) in
        let here : edge ≡ row = same_Some edge row (sym there ∙ ap (λ k. slice_get tables.edges (slice_index numbers k)) same ∙ at) in
        subst (λ k. IsLeftOn tables entries row (slice_index reads k) (slice_index writes k) (slice_index_or edges k [])) same
        (subst (λ (x : EdgeRow). IsLeftOn tables entries x (slice_index reads n) (slice_index writes n) (slice_index_or edges n [])) here one)

-- what is left on an edge is what was written and not read
module _ (tables : FlatTablesOf) (cluster : ℕ) (table : List AttrsOf) (entries : List Entry) (place : ℕ) where
  fired : (m : ℕ) → firings_of (take place entries) m ≡ done entries place m
  unfolding done
  fired m = refl

  module _ (e : ℕ) (edge : EdgeRow) (at : slice_get tables.edges e ≡ Some edge) (own : is_own tables cluster e ≡ true) (read write : ℕ)
      (read_is : read ≡ slice_index (read_rates (net_of tables table)) e) (write_is : write ≡ slice_index (write_rates (net_of tables table)) e) where
    head : held_at_head tables cluster e ≡ edge.initial
    head = ap (λ (b : Bool). if b then initial_of_row (slice_get tables.edges e) else 0) own ∙ ap initial_of_row at

    reading : firings_of (take place entries) edge.reader * read ≡ done entries place (reader_at tables.edges e) * slice_index (read_rates (net_of tables table)) e
    reading = ap (λ n. n * read) (fired edge.reader ∙ sym (ap (λ o. done entries place (reader_of_row o)) at)) ∙ ap (λ n. done entries place (reader_at tables.edges e) * n) read_is

    writing : firings_of (take place entries) edge.writer * write ≡ done entries place (writer_at tables.edges e) * slice_index (write_rates (net_of tables table)) e
    writing = ap (λ n. n * write) (fired edge.writer ∙ sym (ap (λ o. done entries place (writer_of_row o)) at)) ∙ ap (λ n. done entries place (writer_at tables.edges e) * n) write_is

    left_held : (nums : List ℤ) → IsLeftOn tables (take place entries) edge read write nums → HoldsUpTo tables cluster table entries place e nums
    left_held nums left = record {
      held = ap (λ n. length nums + n) (sym reading) ∙ left.held ∙ ap (λ n. edge.initial + n) writing
          ∙ ap (λ n. n + done entries place (writer_at tables.edges e) * slice_index (write_rates (net_of tables table)) e) (sym head);
      format = subst (λ o. AreInFormat o nums) (sym (format_at tables e edge at)) left.format;
    }

    held_left : (nums : List ℤ) → HoldsUpTo tables cluster table entries place e nums → IsLeftOn tables (take place entries) edge read write nums
    held_left nums held = record {
      held = ap (λ n. length nums + n) reading ∙ held.held ∙ ap (λ n. n + done entries place (writer_at tables.edges e) * slice_index (write_rates (net_of tables table)) e) head
          ∙ ap (λ n. edge.initial + n) (sym writing);
      format = subst (λ o. AreInFormat o nums) (format_at tables e edge at) held.format;
    }

  -- over the numbers of the cluster's edges
  module _ (numbers reads writes : List ℕ) (are : numbers ≡ own_below tables cluster (length tables.edges)) (reads_are : reads ≡ map (slice_index (read_rates (net_of tables table))) numbers)
      (writes_are : writes ≡ map (slice_index (write_rates (net_of tables table))) numbers) where
    read_at : (i : ℕ) → i < length numbers → slice_index reads i ≡ slice_index (read_rates (net_of tables table)) (slice_index numbers i)
    read_at i less = ap (λ l. slice_index l i) reads_are ∙ get_or-map (slice_index (read_rates (net_of tables table))) numbers i 0 0 less

    write_at : (i : ℕ) → i < length numbers → slice_index writes i ≡ slice_index (write_rates (net_of tables table)) (slice_index numbers i)
    write_at i less = ap (λ l. slice_index l i) writes_are ∙ get_or-map (slice_index (write_rates (net_of tables table))) numbers i 0 0 less

    pub all_held : (edges : List (List ℤ)) → AreLeft tables (take place entries) reads writes numbers edges → HoldEdges tables cluster table entries place edges
    all_held edges left = record {
      long = left.long ∙ own_many tables cluster numbers are;
      each = λ e within own. (let row = get_inside tables.edges e within in
          let found = own_found tables cluster numbers are e within own in
          let i = place_of_edge tables cluster e in
          left_held e row.0 row.1 own (slice_index reads i) (slice_index writes i)
          (read_at i found.0 ∙ ap (slice_index (read_rates (net_of tables table))) found.1)
          (write_at i found.0 ∙ ap (slice_index (write_rates (net_of tables table))) found.1)
          (slice_index_or edges i []) (left.each i row.0 found.0 (ap (slice_get tables.edges) found.1 ∙ row.1)));
    }

    pub all_left : (edges : List (List ℤ)) → HoldEdges tables cluster table entries place edges → AreLeft tables (take place entries) reads writes numbers edges
    all_left edges hold = record {
      long = hold.long ∙ sym (own_many tables cluster numbers are);
      each = λ i edge less at. (let e = slice_index numbers i in
          let there = own_at tables cluster numbers are i less in
          held_left e edge at there.1 (slice_index reads i) (slice_index writes i) (read_at i less) (write_at i less) (slice_index_or edges i [])
          (subst (λ k. HoldsUpTo tables cluster table entries place e (slice_index_or edges k [])) there.2 (hold.each e there.0 there.1)));
    }
