-- One edge more is gathered.
use Rattle.std.proofs.Common.{◌≡◌, ◌∙◌, ◌≢◌, ℕ, ◌+◌, ◌<◌, Some, None, if◌then◌else◌, List, [], ◌∷◌, ◌++◌, append-nil, length, refl, ap, sym, inl, inr, ◌⊎◌, arith, slice_get}
use Rattle.std.proofs.lemmas.Bool.{cases_eq, eq-eqb, ne_eqb}
use Rattle.std.proofs.lemmas.List.{get_or-set_other, get_or-set_same, length-set}
use Rattle.std.proofs.lemmas.Option.{get_or_from_slice_get, slice_get_within}
use Rattle.std.specs.List.{cons_option}
use Rattle.std.specs.Prelude.{slice_set}
use Rattle.tdf_bind_tables.specs.FlatTables.{FlatTablesOf}
use Rattle.tdf_exec_firing.specs.Wires.{WiresOf}
use Rattle.tdf_exec_firing.specs.declared.wires.InWire.{InWire}
use Rattle.tdf_exec_firing.specs.declared.wires.OutWire.{OutWire}
use Rattle.tdf_exec_layout.specs.machine.Ends.{EndsUpTo, ends_at, ends_before, in_wire, in_wires, no_ends, out_wire, out_wires, read_by, wire_in, wire_out, with_in, with_out, written_by}
use Rattle.tdf_bind_connections.proofs.Api.{filtered_next}
use Rattle.tdf_bind_connections.specs.declared.edges.EdgeRow.{EdgeRow}

-- the row of an actor that grows
set_same : (rows : List WiresOf) (r : ℕ) (change : WiresOf → WiresOf) (old new : WiresOf) → r < length rows → ends_at rows r ≡ old → change old ≡ new
    → ends_at (slice_set rows r (change (ends_at rows r))) r ≡ new
set_same rows r change old new inside is next = get_or-set_same rows r (change (ends_at rows r)) no_ends inside ∙ ap change is ∙ next

abbrev both : (xs : List InWire) (ys : List OutWire) → WiresOf
both xs ys = record { ins = xs; outs = ys }

module _ (tables : FlatTablesOf) (n : ℕ) (edge : EdgeRow) (at : slice_get tables.edges n ≡ Some edge) where
  inside : n < length tables.edges
  inside = slice_get_within tables.edges n edge at

  ins_more : (m : ℕ) → in_wires tables m n ++ cons_option (in_wire tables m n edge) [] ≡ in_wires tables m (n + 1)
  ins_more m = filtered_next (in_wire tables m) tables.edges n edge [] (in_wires tables m n) (in_wires tables m n ++ cons_option (in_wire tables m n edge) [])
      inside refl (sym (get_or_from_slice_get tables.edges n edge edge at)) refl

  outs_more : (m : ℕ) → out_wires tables m n ++ cons_option (out_wire tables m n edge) [] ≡ out_wires tables m (n + 1)
  outs_more m = filtered_next (out_wire tables m) tables.edges n edge [] (out_wires tables m n) (out_wires tables m n ++ cons_option (out_wire tables m n edge) [])
      inside refl (sym (get_or_from_slice_get tables.edges n edge edge at)) refl

  ins_here : in_wires tables edge.reader n ++ wire_in tables n edge ∷ [] ≡ in_wires tables edge.reader (n + 1)
  ins_here = ap (λ b. in_wires tables edge.reader n ++ cons_option (if b then Some (wire_in tables n edge) else None) []) (sym (eq-eqb edge.reader edge.reader refl)) ∙ ins_more edge.reader

  ins_there : (m : ℕ) → m ≢ edge.reader → in_wires tables m n ≡ in_wires tables m (n + 1)
  ins_there m other = sym (append-nil (in_wires tables m n))
      ∙ ap (λ b. in_wires tables m n ++ cons_option (if b then Some (wire_in tables n edge) else None) []) (sym (ne_eqb edge.reader m (λ s. other (sym s)))) ∙ ins_more m

  outs_here : out_wires tables edge.writer n ++ wire_out tables n edge ∷ [] ≡ out_wires tables edge.writer (n + 1)
  outs_here = ap (λ b. out_wires tables edge.writer n ++ cons_option (if b then Some (wire_out tables n edge) else None) []) (sym (eq-eqb edge.writer edge.writer refl)) ∙ outs_more edge.writer

  outs_there : (m : ℕ) → m ≢ edge.writer → out_wires tables m n ≡ out_wires tables m (n + 1)
  outs_there m other = sym (append-nil (out_wires tables m n))
      ∙ ap (λ b. out_wires tables m n ++ cons_option (if b then Some (wire_out tables n edge) else None) []) (sym (ne_eqb edge.writer m (λ s. other (sym s)))) ∙ outs_more m

  module _ (rows : List WiresOf) (h : EndsUpTo tables n rows) (reader : edge.reader < length tables.actors) (writer : edge.writer < length tables.actors) where
    abbrev read : List WiresOf
    read = read_by tables n edge rows

    read_long : length read ≡ length tables.actors
    read_long = length-set rows edge.reader (with_in (wire_in tables n edge) (ends_at rows edge.reader)) ∙ h.long

    read_at : (m : ℕ) → m < length tables.actors → (m ≡ edge.reader) ⊎ (m ≢ edge.reader)
        → ends_at read m ≡ both (in_wires tables m (n + 1)) (out_wires tables m n)
    read_at m below (inl same) = rw same (set_same rows edge.reader (with_in (wire_in tables n edge))
        (record { ins = in_wires tables edge.reader n; outs = out_wires tables edge.reader n }) (record { ins = in_wires tables edge.reader (n + 1); outs = out_wires tables edge.reader n })
        (let l = h.long in omega (arith, reader, l)) (h.each edge.reader reader) (ap (λ xs. record { ins = xs; outs = out_wires tables edge.reader n }) ins_here))
    read_at m below (inr other) = get_or-set_other rows edge.reader m (with_in (wire_in tables n edge) (ends_at rows edge.reader)) no_ends other ∙ h.each m below
        ∙ ap (λ xs. record { ins = xs; outs = out_wires tables m n }) (ins_there m other)

    written_at : (m : ℕ) → m < length tables.actors → (m ≡ edge.writer) ⊎ (m ≢ edge.writer)
        → ends_at (written_by tables n edge read) m ≡ ends_before tables (n + 1) m
    written_at m below (inl same) = rw same (set_same read edge.writer (with_out (wire_out tables n edge))
        (record { ins = in_wires tables edge.writer (n + 1); outs = out_wires tables edge.writer n }) (record { ins = in_wires tables edge.writer (n + 1); outs = out_wires tables edge.writer (n + 1) })
        (let l = read_long in omega (arith, writer, l)) (read_at edge.writer writer (cases_eq edge.writer edge.reader)) (ap (λ xs. record { ins = in_wires tables edge.writer (n + 1); outs = xs }) outs_here))
    written_at m below (inr other) = get_or-set_other read edge.writer m (with_out (wire_out tables n edge) (ends_at read edge.writer)) no_ends other ∙ read_at m below (cases_eq m edge.reader)
        ∙ ap (λ xs. record { ins = in_wires tables m (n + 1); outs = xs }) (outs_there m other)

    pub ends_next : (new : List WiresOf) → new ≡ written_by tables n edge (read_by tables n edge rows) → EndsUpTo tables (n + 1) new
    ends_next new is = record {
      long = ap length is ∙ length-set read edge.writer (with_out (wire_out tables n edge) (ends_at read edge.writer)) ∙ read_long;
      each = λ m below. ap (λ l. ends_at l m) is ∙ written_at m below (cases_eq m edge.writer);
    }
