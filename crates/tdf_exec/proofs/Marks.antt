-- The ports whose signals are traced, as they are gathered.
use Rattle.std.proofs.Common.{◌≡◌, ◌∙◌, ◌≢◌, ℕ, ◌+◌, ◌<◌, ◌&&◌, Bool, true, false, if◌then◌else◌, nat_eq, List, [], ◌∷◌, ◌++◌, Some, None, append-nil, length, length-set, map, refl, sym, ap, inl, inr, ◌⊎◌, arith}
use Rattle.std.proofs.lemmas.Bool.{cases_eq, eq-eqb, ne_eqb}
use Rattle.std.proofs.lemmas.List.{get_or-set_other, get_or-set_same, map-append}
use Rattle.std.proofs.lemmas.Option.{get_or_from_slice_get, slice_get_within}
use Rattle.std.specs.List.{cons_option}
use Rattle.std.specs.Prelude.{slice_get, slice_index_or, slice_set}
use Rattle.tdf_bind_tables.specs.FlatTables.{FlatTablesOf}
use Rattle.tdf_exec.specs.Traced.{signal_of_port_row, unrated_port}
use Rattle.tdf_exec_layout.specs.Traced.{number_if_traced}
use Rattle.tdf_exec.specs.declared.runners.TracedPort.{TracedPort}
use Rattle.tdf_exec.specs.machine.Tracing.{AreTracedUpTo, is_written_traced, put_traced, traced_before, traced_row}
use Rattle.tdf_streams.specs.Places.{place_of_port}
use Rattle.tdf_bind_connections.proofs.Api.{filtered_next}
use Rattle.tdf_bind_connections.specs.declared.modules.PortRow.{PortRow}

-- one port more
module _ (tables : FlatTablesOf) (n : ℕ) (port : PortRow) (at : slice_get tables.ports n ≡ Some port) where
  row_is : traced_row tables n port ≡ unrated_port tables n
  row_is = ap (λ o. record { number = n; port = place_of_port tables.ports n; signal = signal_of_port_row o; rate = 0 }) (sym at)

  more_ports : (m : ℕ) → traced_before tables n m ++ cons_option (number_if_traced tables m n port) [] ≡ traced_before tables (n + 1) m
  more_ports m = filtered_next (number_if_traced tables m) tables.ports n port [] (traced_before tables n m) (traced_before tables n m ++ cons_option (number_if_traced tables m n port) [])
      (slice_get_within tables.ports n port at) refl (sym (get_or_from_slice_get tables.ports n port port at)) refl

  none_here : (m : ℕ) → (nat_eq port.«module» m && is_written_traced tables.traces port) ≡ false → traced_before tables n m ≡ traced_before tables (n + 1) m
  none_here m absent = sym (append-nil (traced_before tables n m)) ∙ ap (λ b. traced_before tables n m ++ cons_option (if b then Some n else None) []) (sym absent) ∙ more_ports m

  one_here : is_written_traced tables.traces port ≡ true → traced_before tables n port.«module» ++ n ∷ [] ≡ traced_before tables (n + 1) port.«module»
  one_here passes = ap (λ b. traced_before tables n port.«module» ++ cons_option (if b then Some n else None) [])
      (sym (ap (λ b. b && is_written_traced tables.traces port) (eq-eqb port.«module» port.«module» refl) ∙ passes)) ∙ more_ports port.«module»

  abbrev all : ℕ → ℕ → List TracedPort
  all k m = map (unrated_port tables) (traced_before tables k m)

  and_false : (b : Bool) → (b && false) ≡ false
  and_false true = refl
  and_false false = refl

  module _ (rows : List (List TracedPort)) (are : AreTracedUpTo tables n rows) (inside : port.«module» < length tables.modules) where
    put_at : (m : ℕ) → m < length tables.modules → is_written_traced tables.traces port ≡ true → (m ≡ port.«module») ⊎ (m ≢ port.«module»)
        → slice_index_or (slice_set rows port.«module» (slice_index_or rows port.«module» [] ++ traced_row tables n port ∷ [])) m [] ≡ all (n + 1) m
    put_at m below passes (inl same) =
        let l = are.long in
        ap (λ k. slice_index_or (slice_set rows port.«module» (slice_index_or rows port.«module» [] ++ traced_row tables n port ∷ [])) k []) same
        ∙ get_or-set_same rows port.«module» (slice_index_or rows port.«module» [] ++ traced_row tables n port ∷ []) [] (omega (arith, l, inside))
        ∙ ap (λ xs. xs ++ traced_row tables n port ∷ []) (are.each port.«module» inside)
        ∙ ap (λ (x : TracedPort). all n port.«module» ++ x ∷ []) row_is
        ∙ sym (map-append (unrated_port tables) (traced_before tables n port.«module») (n ∷ []))
        ∙ ap (map (unrated_port tables)) (one_here passes) ∙ ap (all (n + 1)) (sym same)
    put_at m below passes (inr apart) =
        get_or-set_other rows port.«module» m (slice_index_or rows port.«module» [] ++ traced_row tables n port ∷ []) [] apart
        ∙ are.each m below ∙ ap (map (unrated_port tables)) (none_here m (ap (λ b. b && is_written_traced tables.traces port) (ne_eqb port.«module» m (λ e. apart (sym e)))))

    pub traced_next : AreTracedUpTo tables (n + 1) (put_traced tables n port rows)
    traced_next = go (is_written_traced tables.traces port) refl
      where
        go : (b : Bool) → is_written_traced tables.traces port ≡ b → AreTracedUpTo tables (n + 1) (if b
            then slice_set rows port.«module» (slice_index_or rows port.«module» [] ++ traced_row tables n port ∷ []) else rows)
        go true is = record {
          long = length-set rows port.«module» (slice_index_or rows port.«module» [] ++ traced_row tables n port ∷ []) ∙ are.long;
          each = λ m below. put_at m below is (cases_eq m port.«module»);
        }
        go false is = record {
          long = are.long;
          each = λ m below. are.each m below ∙ ap (map (unrated_port tables)) (none_here m (ap (λ b. nat_eq port.«module» m && b) is ∙ and_false (nat_eq port.«module» m)));
        }
