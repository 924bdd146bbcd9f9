-- What is noted and known so far, with the blocks that are left.
use Rattle.std.proofs.Common.{◌≡◌, drop}
use Rattle.std.specs.Prelude.{map}
use Rattle.tdf_bind_ports.proofs.links.note_globals.Given as goal
use Rattle.tdf_bind_ports.specs.Faults.{least_link_with}
use Rattle.tdf_bind_ports.specs.Links.{globals_link_faults}
use Rattle.tdf_bind_ports.specs.Ports.{known_after_all}
use Rattle.tdf_lang_tree.specs.Views.{pure_global}

abbrev pub invariant-loop-global : goal.invariant-loop-global
invariant-loop-global l = record {
  first : least_link_with l.first (globals_link_faults l.globals l.known (map pure_global (drop l.global-index l.global-items))) ≡ least_link_with l.initial.first (globals_link_faults l.globals l.initial.known (map pure_global l.global-items));
  known : known_after_all (map pure_global (drop l.global-index l.global-items)) l.known ≡ known_after_all (map pure_global l.global-items) l.initial.known;
}
