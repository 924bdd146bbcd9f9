-- One module more, one port more.
use Rattle.std.proofs.Common.{◌≡◌, ◌∙◌, ℕ, ◌+◌, ◌<◌, List, [], ◌∷◌, ◌++◌, Option, Some, None, length, take, sym, ap, subst, arith}
use Rattle.std.proofs.Math.ListN.{get_or}
use Rattle.std.proofs.lemmas.List.{take_more, map-append, length-map, append_assoc, append-nil}
use Rattle.std.specs.List.{cons_option}
use Rattle.std.specs.Prelude.{map, slice_get}
use Rattle.std.proofs.lemmas.List.Elements.{filter_map-append}
use Rattle.tdf_bind_hierarchy.specs.Tables.{RowOf}
use Rattle.tdf_bind_connections.specs.Modules.{PlacedModule, as_module, placed_modules, module_row, module_ports, ports_from, ModulesOf, AreModules}
use Rattle.tdf_bind_connections.specs.machine.ModuleSteps.{ports_before, with_placed, with_instance}
use Rattle.tdf_bind_connections.specs.declared.roles.Role.{Role}

ports_then : (n : ℕ) (ms ns : List PlacedModule) → ports_from n (ms ++ ns) ≡ ports_from n ms ++ ports_from (n + length ms) ns
ports_then n [] ns = ap (λ k. ports_from k ns) (omega arith)
ports_then n (m ∷ ms) ns = ap (λ l. module_ports n m ++ l) (ports_then (n + 1) ms ns)
    ∙ sym (append_assoc (module_ports n m) (ports_from (n + 1) ms) (ports_from (n + 1 + length ms) ns))
    ∙ ap (λ k. (module_ports n m ++ ports_from (n + 1) ms) ++ ports_from k ns) (omega arith)

-- the tables of some modules
pub record OfPlaced (ms : List PlacedModule) (t : ModulesOf) : Type 0 where
  pub modules : t.modules ≡ map module_row ms
  pub ports : t.ports ≡ ports_from 0 ms

placed_then : (o : Option PlacedModule) (ms : List PlacedModule) (t : ModulesOf) → OfPlaced ms t → OfPlaced (ms ++ cons_option o []) (with_placed o t)
placed_then None ms t h = subst (λ l. OfPlaced l t) (sym (append-nil ms)) h
placed_then (Some m) ms t h = record {
  modules = ap (λ l. l ++ module_row m ∷ []) h.modules ∙ sym (map-append module_row ms (m ∷ []));
  ports = ap (λ l. l ++ ports_before (length t.modules) m.instance m.role.ports) h.ports
      ∙ ap (λ n. ports_from 0 ms ++ ports_before n m.instance m.role.ports) (ap length h.modules ∙ length-map ms module_row)
      ∙ ap (λ l. ports_from 0 ms ++ l) (sym (append-nil (ports_before (length ms) m.instance m.role.ports)))
      ∙ ap (λ n. ports_from 0 ms ++ ports_from n (m ∷ [])) (omega arith)
      ∙ sym (ports_then 0 ms (m ∷ []));
}

pub instance_more : (roles : List Role) (instances : List RowOf) (i : ℕ) (instance : RowOf) (old new : ModulesOf) → i < length instances → AreModules roles (take i instances) old
    → instance ≡ get_or instances i instance → new ≡ with_instance roles instance old → AreModules roles (take (i + 1) instances) new
instance_more roles instances i instance old new within h instance_is new_is =
    let placed = placed_then (as_module instance (slice_get roles instance.block)) (placed_modules roles (take i instances)) old (record { modules = h.modules; ports = h.ports }) in
    let all = ap (placed_modules roles) (take_more instances i instance within ∙ ap (λ (x : RowOf). take i instances ++ x ∷ []) (sym instance_is))
    ∙ filter_map-append (λ instance. as_module instance (slice_get roles instance.block)) (take i instances) (instance ∷ []) in
    subst (AreModules roles (take (i + 1) instances)) (sym new_is)
    (record { modules = placed.modules ∙ ap (map module_row) (sym all); ports = placed.ports ∙ ap (ports_from 0) (sym all) })
