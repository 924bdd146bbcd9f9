-- The name of a port that is found (own).
use Rattle.std.specs.Prelude.{◌≡◌, ℕ, List, [], Option, Some, slice_get, slice_index, slice_index_or}
use Rattle.tdf_fixed.specs.declared.raw.Raw.{Raw}
use Rattle.tdf_bind_attributes.specs.Roles.{rate_of_limit, rate_of_port, delay_of_port}
use Rattle.tdf_expr_symbols.specs.Names.{Names, Thing, Port, place_of}
use Rattle.tdf_lang_tree.specs.declared.blocks.PortLine.{PortLine}
use Rattle.tdf_bind_connections.specs.declared.roles.PortData.{PortData}

pub record IsFound (own : Names) (steps : List ℕ) (name : List ℕ) (t : Thing) (step place : ℕ)
    : Type 0 where
  pub at : place_of own name ≡ Some place
  pub is : slice_get own.things place ≡ Some t
  pub given : step ≡ slice_index steps place

-- the initial samples of a name, if it is a port
abbrev pub initials_at : Thing → List (List (ℕ × Raw)) → ℕ → List (ℕ × Raw)
initials_at (Port word (Some shape) rate delay) maps place = slice_index_or maps place []
initials_at thing maps place = []

abbrev pub port_with : Names → PortLine → Option Thing → ℕ → List (ℕ × Raw) → PortData
port_with own port thing step initials = record {
  name = port.name;
  kind = port.kind;
  rate = rate_of_limit own (rate_of_port thing);
  delay = delay_of_port thing;
  step = step;
  initials = initials;
}
