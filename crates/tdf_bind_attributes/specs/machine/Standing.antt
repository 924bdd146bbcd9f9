-- How the code gathers timesteps and initial samples (own): by the places of names.
use Rattle.std.specs.BTreeMap.{insert_entry}
use Rattle.std.specs.Ordering.{nat_cmp}
use Rattle.std.specs.Prelude.{ℕ, List, [], ◌∷◌, Option, Some, None, slice_index_or, slice_set}
use Rattle.tdf_fixed.specs.declared.raw.Raw.{Raw}
use Rattle.tdf_expr_compiler.specs.Below.{literal_in}
use Rattle.tdf_expr_symbols.specs.Names.{Names, Thing, Port, place_of, thing_of}
use Rattle.tdf_lang_tree.specs.declared.blocks.Attr.{Attr}
use Rattle.tdf_lang_tree.specs.declared.blocks.Attr.TheVariants as attr
use Rattle.tdf_lang_tree.specs.declared.blocks.Initial.{Initial}

abbrev pub put_at : {A : Type 0} → Option ℕ → A → List A → List A
put_at None x xs = xs
put_at (Some n) x xs = slice_set xs n x

-- the timesteps of ports after a line
abbrev pub stepped : Names → Attr → List ℕ → List ℕ
stepped own (attr.Step line (Some port) step) steps = put_at (place_of own port) step steps
stepped own _ steps = steps

unfoldable pub stepped_all : Names → List Attr → List ℕ → List ℕ
stepped_all own [] steps = steps
stepped_all own (a ∷ as') steps = stepped_all own as' (stepped own a steps)

-- a value goes to its place among the initial samples of a name
abbrev pub put_entry : ℕ → ℕ → Raw → List (List (ℕ × Raw)) → List (List (ℕ × Raw))
put_entry name place value maps =
    slice_set maps name (insert_entry nat_cmp (slice_index_or maps name []) place value)

abbrev pub put_value : Option ℕ → Option Thing → Initial → List (List (ℕ × Raw))
    → List (List (ℕ × Raw))
put_value (Some name) (Some (Port word (Some shape) rate delay)) i maps =
    put_entry name i.place (literal_in (Some shape) i.value) maps
put_value name thing i maps = maps

-- the initial samples of names after a line
abbrev pub initial_put : Names → Initial → List (List (ℕ × Raw)) → List (List (ℕ × Raw))
initial_put own i maps = put_value (place_of own i.port) (thing_of own i.port) i maps

unfoldable pub initials_put : Names → List Initial → List (List (ℕ × Raw)) → List (List (ℕ × Raw))
initials_put own [] maps = maps
initials_put own (i ∷ is) maps = initials_put own is (initial_put own i maps)
