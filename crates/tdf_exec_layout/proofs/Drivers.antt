-- The port that drives a signal of samples is an `out` port that writes it.
use Rattle.std.proofs.Common.{◌≡◌, ◌∙◌, ℕ, zero, suc, ◌+◌, Bool, true, false, Some, None, List, [], ◌∷◌, ◌++◌, map, refl, ap, sym, subst, arith, nat_eq, slice_get}
use Rattle.std.proofs.lemmas.Bool.{eqb-true}
use Rattle.std.specs.List.{AllByRecursion, cons_option, enumerate_from}
use Rattle.std.specs.Prelude.{cond, filter, filter_map}
use Rattle.tdf_streams.proofs.Api.{none_some, some_same}
use Rattle.tdf_lang_tree.specs.declared.blocks.PortKind.{PortKind}
use Rattle.tdf_lang_tree.specs.declared.blocks.PortKind.TheVariants.{In, Out, DeIn, DeOut}
use Rattle.tdf_bind_hierarchy.specs.declared.tables.Signal.{Signal}
use Rattle.tdf_bind_hierarchy.specs.declared.tables.SignalNumber.{SignalNumber}
use Rattle.tdf_bind_connections.specs.Drivers.{driver, driver_of, module_port, signal_row, signal_rows}
use Rattle.tdf_bind_connections.specs.Edges.{driver_port, driver_row}
use Rattle.tdf_bind_connections.specs.ProcessBlocks.{PlacedBlock}
use Rattle.tdf_bind_connections.specs.Writers.{block_writers, gives, module_writers, place_writer, port_writer, writers_at}
use Rattle.tdf_bind_connections.specs.declared.drivers.SignalRow.{SignalRow}
use Rattle.tdf_bind_connections.specs.declared.modules.PortRow.{PortRow}
use Rattle.tdf_bind_connections.specs.declared.writers.Writer.{Writer}

-- an `out` port that writes a signal
pub record IsDriver (ports : List PortRow) (out signal : ℕ) : Type 0 where
  pub row : PortRow
  pub at : slice_get ports out ≡ Some row
  pub kind : row.kind ≡ Out
  pub writes : row.signal ≡ signal

joined : {X : Type 0} (P : X → Type 0) (xs ys : List X) → AllByRecursion P xs → AllByRecursion P ys → AllByRecursion P (xs ++ ys)
joined P [] ys h k = k
joined P (x ∷ xs) ys h k = (h.0, joined P xs ys h.1 k)

module _ (ports : List PortRow) where
  abbrev IsDriving : Writer → Type 0
  IsDriving w = (out : ℕ) → w.port ≡ Some out → IsDriver ports out w.signal

  of_ports : (k : ℕ) (xs : List PortRow) → ((j : ℕ) → slice_get ports (k + j) ≡ slice_get xs j)
      → AllByRecursion IsDriving (filter_map (λ p. port_writer false p.0 p.1) (enumerate_from k xs))
  of_ports k [] same = tt
  of_ports k (x ∷ xs) same = by_kind x.kind refl
      (of_ports (k + 1) xs (λ j. let n : k + 1 + j ≡ k + suc j = omega arith in ap (slice_get ports) n ∙ same (suc j)))
    where
      by_kind : (kind : PortKind) → x.kind ≡ kind → AllByRecursion IsDriving (filter_map (λ p. port_writer false p.0 p.1) (enumerate_from (k + 1) xs))
          → AllByRecursion IsDriving (cons_option (cond (gives false kind) (Some (record { signal = x.signal; port = Some k })) None) (filter_map (λ p. port_writer false p.0 p.1) (enumerate_from (k + 1) xs)))
      by_kind In is rest = rest
      by_kind Out is rest = (
        (λ out port. record {
          row = x;
          at = ap (slice_get ports) (sym (some_same k out port) ∙ omega arith) ∙ same 0;
          kind = is;
          writes = refl;
        }),
        rest,
      )
      by_kind DeIn is rest = rest
      by_kind DeOut is rest = rest

  of_places : (signals : List SignalNumber) (k : ℕ) (kinds : List PortKind) → AllByRecursion IsDriving (filter_map (λ kind. place_writer false signals kind.0 kind.1) (enumerate_from k kinds))
  of_places signals k [] = tt
  of_places signals k (In ∷ kinds) = of_places signals (k + 1) kinds
  of_places signals k (Out ∷ kinds) = ((λ out port. none_some out port), of_places signals (k + 1) kinds)
  of_places signals k (DeIn ∷ kinds) = of_places signals (k + 1) kinds
  of_places signals k (DeOut ∷ kinds) = of_places signals (k + 1) kinds

  of_blocks : (blocks : List PlacedBlock) → AllByRecursion IsDriving (block_writers false blocks)
  of_blocks [] = tt
  of_blocks (placed ∷ blocks) = joined IsDriving (writers_at false placed.instance.signals placed.role.ports) (block_writers false blocks)
      (of_places placed.instance.signals 0 placed.role.ports) (of_blocks blocks)

  of_all : (blocks : List PlacedBlock) → AllByRecursion IsDriving (module_writers false ports ++ block_writers false blocks)
  of_all blocks = joined IsDriving (module_writers false ports) (block_writers false blocks)
      (of_ports 0 ports (λ j. let n : 0 + j ≡ j = omega arith in ap (slice_get ports) n)) (of_blocks blocks)

  -- those of one signal
  of_signal : (signal : ℕ) (ws : List Writer) → AllByRecursion IsDriving ws → AllByRecursion (λ (w : Writer). (out : ℕ) → w.port ≡ Some out → IsDriver ports out signal) (filter (λ (w : Writer). nat_eq w.signal signal) ws)
  of_signal signal [] h = tt
  of_signal signal (w ∷ ws) h = by_test (nat_eq w.signal signal) refl (of_signal signal ws h.1)
    where
      by_test : (b : Bool) → nat_eq w.signal signal ≡ b → AllByRecursion (λ (v : Writer). (out : ℕ) → v.port ≡ Some out → IsDriver ports out signal) (filter (λ (v : Writer). nat_eq v.signal signal) ws)
          → AllByRecursion (λ (v : Writer). (out : ℕ) → v.port ≡ Some out → IsDriver ports out signal) (cond b (w ∷ filter (λ (v : Writer). nat_eq v.signal signal) ws) (filter (λ (v : Writer). nat_eq v.signal signal) ws))
      by_test true is rest = ((λ out port. subst (IsDriver ports out) (eqb-true w.signal signal is) (h.0 out port)), rest)
      by_test false is rest = rest

  one_drives : (signal : ℕ) (ws : List Writer) → AllByRecursion (λ (w : Writer). (out : ℕ) → w.port ≡ Some out → IsDriver ports out signal) ws → (out : ℕ) → module_port (driver_of ws) ≡ Some out → IsDriver ports out signal
  one_drives signal [] h out is = none_some out is
  one_drives signal (w ∷ []) h out is = h.0 out is
  one_drives signal (w ∷ v ∷ ws) h out is = none_some out is

  row_driver : (writers : List Writer) (k : ℕ) (signals : List Signal) (s out : ℕ) → driver_row (slice_get (map (λ signal. signal_row writers signal.0 signal.1) (enumerate_from k signals)) s) ≡ Some out → module_port (driver (k + s) writers) ≡ Some out
  row_driver writers k [] s out is = none_some out is
  row_driver writers k (x ∷ signals) zero out is = (let z : k + 0 ≡ k = omega arith in ap (λ n. module_port (driver n writers)) z) ∙ is
  row_driver writers k (x ∷ signals) (suc s) out is = (let n : k + suc s ≡ k + 1 + s = omega arith in ap (λ m. module_port (driver m writers)) n) ∙ row_driver writers (k + 1) signals s out is

  -- the port that drives a signal
  pub driver_is : (blocks : List PlacedBlock) (signals : List Signal) (rows : List SignalRow) (s out : ℕ) → rows ≡ signal_rows (module_writers false ports ++ block_writers false blocks) signals
      → driver_port rows s ≡ Some out → IsDriver ports out s
  driver_is blocks signals rows s out are is = one_drives s (filter (λ (w : Writer). nat_eq w.signal s) writers) (of_signal s writers (of_all blocks)) out
      ((let z : s ≡ 0 + s = omega arith in ap (λ n. module_port (driver n writers)) z) ∙ row_driver writers 0 signals s out (ap (λ l. driver_row (slice_get l s)) (sym are) ∙ is))
    where
      writers : List Writer
      writers = module_writers false ports ++ block_writers false blocks
