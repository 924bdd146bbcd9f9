-- What the code gathers of the ports of a block (own).
use Rattle.std.specs.Prelude.{◌≡◌, List, [], length, map, replicate}
use Rattle.tdf_bind_attributes.specs.declared.ports.Gathered.{Gathered}
use Rattle.tdf_bind_attributes.specs.machine.Numbers.{AreRateNumbers}
use Rattle.tdf_bind_attributes.specs.machine.Standing.{stepped_all, initials_put}
use Rattle.tdf_expr_symbols.specs.Names.{Names}
use Rattle.tdf_lang_tree.specs.declared.blocks.Attr.{Attr}
use Rattle.tdf_lang_tree.specs.declared.blocks.Initial.{Initial}

pub record IsGathered (own : Names) (attrs : List Attr) (initials : List Initial) (g : Gathered)
    : Type 0 where
  pub rate_numbers : AreRateNumbers own g.numbers.items
  pub port_steps : g.steps.items ≡ stepped_all own attrs (replicate (length own.things) 0)
  pub port_initials : map (λ m. m.entries) g.initials.items
      ≡ initials_put own initials (replicate (length own.things) [])
