-- What was gathered at the place of a port is what its lines say.
use Rattle.std.proofs.Common.{◌≡◌, ◌∙◌, ℕ, Bool, true, false, zero, suc, ◌<◌, ◌≤◌, List, [], ◌∷◌, Option, Some, None, length, refl, sym, ap, subst, arith, if◌then◌else◌, ◌⊎◌, ◌≢◌, inl, inr}
use Rattle.std.proofs.Math.ListN.{get_or}
use Rattle.std.proofs.lemmas.Bool.{cases_eq}
use Rattle.std.proofs.lemmas.List.{get_or-set_same, get_or-set_other, length-set, length-replicate, length-map}
use Rattle.std.proofs.lemmas.Option.{slice_get_within}
use Rattle.std.proofs.lemmas.List.Quantifiers.{position-Some}
use Rattle.std.specs.BTreeMap.{insert_entry}
use Rattle.std.specs.Cmp.Lexicographic.{pointwise, same_text}
use Rattle.std.specs.Ordering.{nat_cmp}
use Rattle.std.specs.Prelude.{nat_eq, slice_get, slice_index, slice_index_or, slice_set, replicate, map}
use Rattle.tdf_fixed.specs.declared.raw.Raw.{Raw}
use Rattle.tdf_expr_compiler.specs.Below.{literal_in}
use Rattle.tdf_bind_attributes.specs.Roles.{with_initial, with_initials, initials_of_port, data_of_port, port_data}
use Rattle.tdf_bind_attributes.specs.Standing.{or_else, last_of, assigned_port_step}
use Rattle.tdf_bind_attributes.specs.declared.ports.Gathered.{Gathered}
use Rattle.tdf_bind_attributes.specs.machine.Found.{IsFound, initials_at, port_with}
use Rattle.tdf_bind_attributes.specs.machine.Gathered.{IsGathered}
use Rattle.tdf_bind_attributes.specs.machine.Standing.{put_at, stepped, stepped_all, put_value, initial_put, initials_put}
use Rattle.tdf_expr_symbols.specs.Names.{Names, Thing, Port, found_at, place_in, place_of, thing_of}
use Rattle.tdf_lang_tree.specs.declared.blocks.Attr.{Attr}
use Rattle.tdf_lang_tree.specs.declared.blocks.Attr.TheVariants as attr
use Rattle.tdf_lang_tree.specs.declared.blocks.Initial.{Initial}
use Rattle.tdf_expr_symbols.specs.Scope.{Scope}
use Rattle.tdf_lang_tree.specs.Pure.{PureTdf}
use Rattle.tdf_lang_tree.specs.declared.blocks.PortLine.{PortLine}
use Rattle.tdf_lang_tree.specs.declared.blocks.PortKind.{PortKind}
use Rattle.tdf_lang_tree.specs.declared.shapes.Shape.{Shape}
use Rattle.tdf_lang_tree.specs.declared.stmt.Limit.{Limit}

held : (p q : ℕ) → Some p ≡ Some q → p ≡ q
held p q e = ap given e
  where
    given : Option ℕ → ℕ
    given None = p
    given (Some n) = n

-- names at one place are the same, and only these
pub same_place : (names : List (List ℕ)) (a b : List ℕ) (p : ℕ) → place_in names a ≡ Some p → place_in names b ≡ Some p → pointwise nat_eq a b ≡ true
same_place names a b p at bt =
    let first = (position-Some (pointwise nat_eq a) names p [] at).1 in
    let second = (position-Some (pointwise nat_eq b) names p [] bt).1 in
    ap (pointwise nat_eq a) (same_text b (get_or names p []) (sym second)) ∙ first

pub other_place : (names : List (List ℕ)) (a b : List ℕ) (p : ℕ) → place_in names a ≡ Some p → (place_in names b ≡ Some p → ⊥) → pointwise nat_eq a b ≡ false
other_place names a b p at other = go (pointwise nat_eq a b) refl
  where
    go : (so : Bool) → pointwise nat_eq a b ≡ so → pointwise nat_eq a b ≡ false
    go false is = is
    go true is = absurd (other (ap (place_in names) (sym (same_text a b (sym is))) ∙ at))

-- the timestep at the place of a port, after a line
step_one : (own : Names) (name : List ℕ) (p : ℕ) → place_of own name ≡ Some p → (a : Attr) (steps : List ℕ) → p < length steps
    → slice_index (stepped own a steps) p ≡ or_else (assigned_port_step name a) (slice_index steps p)
step_one own name p at (attr.Step line None step) steps within = refl
step_one own name p at (attr.Step line (Some port) step) steps within = go (place_of own port) refl
  where
    said : Bool → ℕ
    said so = or_else (if so then Some step else None) (slice_index steps p)

    go : (o : Option ℕ) → place_of own port ≡ o → slice_index (put_at (place_of own port) step steps) p ≡ said (pointwise nat_eq name port)
    go None is = ap (λ o. slice_index (put_at o step steps) p) is ∙ sym (ap said (other_place own.names name port p at (λ e. absurd (none_some p (sym is ∙ e)))))
      where
        none_some : (n : ℕ) → None ≡ Some n → ⊥
        none_some n e = cc
    go (Some q) is = ap (λ o. slice_index (put_at o step steps) p) is ∙ place (cases_eq p q)
      where
        place : (p ≡ q) ⊎ (p ≢ q) → slice_index (slice_set steps q step) p ≡ said (pointwise nat_eq name port)
        place (inl same) =
            ap (λ k. slice_index (slice_set steps k step) p) (sym same) ∙ get_or-set_same steps p step 0 within
            ∙ sym (ap said (same_place own.names name port p at (is ∙ ap Some (sym same))))
        place (inr other) =
            get_or-set_other steps q p step 0 other
            ∙ sym (ap said (other_place own.names name port p at (λ e. other (sym (held q p (sym is ∙ e))))))
step_one own name p at (attr.Rate line port rate) steps within = refl
step_one own name p at (attr.Delay line port count) steps within = refl
step_one own name p at (attr.Does line) steps within = refl
step_one own name p at (attr.Accept line) steps within = refl
step_one own name p at (attr.Reject line) steps within = refl

stepped_long : (own : Names) (a : Attr) (steps : List ℕ) → length (stepped own a steps) ≡ length steps
stepped_long own (attr.Step line None step) steps = refl
stepped_long own (attr.Step line (Some port) step) steps = go (place_of own port)
  where
    go : (o : Option ℕ) → length (put_at o step steps) ≡ length steps
    go None = refl
    go (Some q) = length-set steps q step
stepped_long own (attr.Rate line port rate) steps = refl
stepped_long own (attr.Delay line port count) steps = refl
stepped_long own (attr.Does line) steps = refl
stepped_long own (attr.Accept line) steps = refl
stepped_long own (attr.Reject line) steps = refl

pub step_all : (own : Names) (name : List ℕ) (p : ℕ) → place_of own name ≡ Some p → (attrs : List Attr) (steps : List ℕ) → p < length steps
    → slice_index (stepped_all own attrs steps) p ≡ last_of (assigned_port_step name) (slice_index steps p) attrs
unfolding stepped_all last_of
step_all own name p at [] steps within = refl
step_all own name p at (a ∷ as') steps within =
    step_all own name p at as' (stepped own a steps) (subst (λ n. p < n) (sym (stepped_long own a steps)) within)
    ∙ ap (λ n. last_of (assigned_port_step name) n as') (step_one own name p at a steps within)

-- the initial samples at the place of a port, after a line
module _ (own : Names) (name : List ℕ) (p : ℕ) (word : PortKind) (shape : Shape) (rate : Limit) (delay : ℕ) (at : place_of own name ≡ Some p)
    (is : slice_get own.things p ≡ Some (Port word (Some shape) rate delay)) where
  initial_one : (i : Initial) (maps : List (List (ℕ × Raw))) → p < length maps
      → slice_index_or (initial_put own i maps) p [] ≡ with_initial name shape i (slice_index_or maps p [])
  initial_one i maps within = go (place_of own i.port) refl
    where
      put : Bool → List (ℕ × Raw)
      put so = if so then insert_entry nat_cmp (slice_index_or maps p []) i.place (literal_in (Some shape) i.value) else slice_index_or maps p []

      unchanged : (q : ℕ) (t : Option Thing) → p ≢ q → slice_index_or (put_value (Some q) t i maps) p [] ≡ slice_index_or maps p []
      unchanged q (Some (Port w (Some s) r d)) other = get_or-set_other maps q p (insert_entry nat_cmp (slice_index_or maps q []) i.place (literal_in (Some s) i.value)) [] other
      unchanged q _ other = refl

      go : (o : Option ℕ) → place_of own i.port ≡ o → slice_index_or (put_value (place_of own i.port) (found_at own.things (place_of own i.port)) i maps) p []
          ≡ put (pointwise nat_eq name i.port)
      go None found =
          ap (λ o. slice_index_or (put_value o (found_at own.things o) i maps) p []) found
          ∙ sym (ap put (other_place own.names name i.port p at (λ e. none_some (sym found ∙ e))))
        where
          none_some : None ≡ Some p → ⊥
          none_some e = cc
      go (Some q) found = ap (λ o. slice_index_or (put_value o (found_at own.things o) i maps) p []) found ∙ place (cases_eq p q)
        where
          place : (p ≡ q) ⊎ (p ≢ q) → slice_index_or (put_value (Some q) (slice_get own.things q) i maps) p [] ≡ put (pointwise nat_eq name i.port)
          place (inl same) =
              ap (λ k. slice_index_or (put_value (Some k) (slice_get own.things k) i maps) p []) (sym same)
              ∙ ap (λ t. slice_index_or (put_value (Some p) t i maps) p []) is
              ∙ get_or-set_same maps p (insert_entry nat_cmp (slice_index_or maps p []) i.place (literal_in (Some shape) i.value)) [] within
              ∙ sym (ap put (same_place own.names name i.port p at (found ∙ ap Some (sym same))))
          place (inr other) =
              unchanged q (slice_get own.things q) other
              ∙ sym (ap put (other_place own.names name i.port p at (λ e. other (sym (held q p (sym found ∙ e))))))

  put_long : (i : Initial) (maps : List (List (ℕ × Raw))) → length (initial_put own i maps) ≡ length maps
  put_long i maps = long (place_of own i.port) (thing_of own i.port)
    where
      long : (o : Option ℕ) (t : Option Thing) → length (put_value o t i maps) ≡ length maps
      long (Some q) (Some (Port w (Some s) r d)) = length-set maps q (insert_entry nat_cmp (slice_index_or maps q []) i.place (literal_in (Some s) i.value))
      long _ _ = refl

  pub initial_all : (lines : List Initial) (maps : List (List (ℕ × Raw))) → p < length maps
      → slice_index_or (initials_put own lines maps) p [] ≡ with_initials name shape lines (slice_index_or maps p [])
  unfolding initials_put with_initials
  initial_all [] maps within = refl
  initial_all (i ∷ is) maps within =
      initial_all is (initial_put own i maps) (subst (λ n. p < n) (sym (put_long i maps)) within)
      ∙ ap (with_initials name shape is) (initial_one i maps within)

pub steps_long : (own : Names) (attrs : List Attr) (steps : List ℕ) → length (stepped_all own attrs steps) ≡ length steps
unfolding stepped_all
steps_long own [] steps = refl
steps_long own (a ∷ as') steps = steps_long own as' (stepped own a steps) ∙ stepped_long own a steps

pub initials_long : (own : Names) (lines : List Initial) (maps : List (List (ℕ × Raw))) → length (initials_put own lines maps) ≡ length maps
unfolding initials_put
initials_long own [] maps = refl
initials_long own (i ∷ is) maps = initials_long own is (initial_put own i maps) ∙ long (place_of own i.port) (thing_of own i.port)
  where
    long : (o : Option ℕ) (t : Option Thing) → length (put_value o t i maps) ≡ length maps
    long (Some q) (Some (Port w (Some s) r d)) = length-set maps q (insert_entry nat_cmp (slice_index_or maps q []) i.place (literal_in (Some s) i.value))
    long _ _ = refl

-- a list of one item
one_item : {A : Type 0} (n p : ℕ) (x : A) → slice_index_or (replicate n x) p x ≡ x
one_item zero p x = refl
one_item (suc n) zero x = refl
one_item (suc n) (suc p) x = one_item n p x

no_step : (n p : ℕ) → slice_index (replicate n 0) p ≡ 0
no_step zero p = refl
no_step (suc n) zero = refl
no_step (suc n) (suc p) = no_step n p

-- what was gathered is what the lines say
module _ (own : Names) (attrs : List Attr) (lines : List Initial) (g : Gathered) (are : IsGathered own attrs lines g) where
  pub steps_enough : length own.things ≤ length g.steps.items
  steps_enough =
      let long = ap (λ (l : List ℕ). length l) are.port_steps ∙ steps_long own attrs (replicate (length own.things) 0) ∙ length-replicate (length own.things) 0 in
      omega (arith, long)

  pub maps_within : (place : ℕ) (t : Thing) → slice_get own.things place ≡ Some t → place < length g.initials.items
  maps_within place t at =
      let within = slice_get_within own.things place t at in
      let long = sym (length-map g.initials.items (λ m. m.entries)) ∙ ap (λ (l : List (List (ℕ × Raw))). length l) are.port_initials
      ∙ initials_long own lines (replicate (length own.things) []) ∙ length-replicate (length own.things) [] in
      omega (arith, long, within)

  step_said : (name : List ℕ) (place : ℕ) (t : Thing) → place_of own name ≡ Some place → slice_get own.things place ≡ Some t
      → slice_index g.steps.items place ≡ last_of (assigned_port_step name) 0 attrs
  step_said name place t at is =
      let within = slice_get_within own.things place t is in
      ap (λ (l : List ℕ). slice_index l place) are.port_steps
      ∙ step_all own name place at attrs (replicate (length own.things) 0) (subst (λ n. place < n) (sym (length-replicate (length own.things) 0)) within)
      ∙ ap (λ n. last_of (assigned_port_step name) n attrs) (no_step (length own.things) place)

  initials_said : (name : List ℕ) (place : ℕ) (t : Thing) → place_of own name ≡ Some place → slice_get own.things place ≡ Some t
      → initials_at t (map (λ m. m.entries) g.initials.items) place ≡ initials_of_port name (Some t) lines
  initials_said name place (Port word (Some shape) rate delay) at is =
      let within = slice_get_within own.things place (Port word (Some shape) rate delay) is in
      ap (λ (l : List (List (ℕ × Raw))). slice_index_or l place []) are.port_initials
      ∙ initial_all own name place word shape rate delay at is lines (replicate (length own.things) []) (subst (λ n. place < n) (sym (length-replicate (length own.things) [])) within)
      ∙ ap (with_initials name shape lines) (one_item (length own.things) place [])
  initials_said name place t at is = refl

  pub port_is : (globals : Names) (does : Bool) (block : PureTdf) → block.attrs ≡ attrs → block.initials ≡ lines → (port : PortLine) (t : Thing) (step place : ℕ)
      → IsFound own g.steps.items port.name t step place
      → port_with own port (Some t) step (initials_at t (map (λ m. m.entries) g.initials.items) place)
      ≡ port_data (record { globals = globals; own = own; does = does }) block port
  port_is globals does block same_attrs same_lines port t step place found =
      let thing : thing_of own port.name ≡ Some t = ap (found_at own.things) found.at ∙ found.is in
      let scope : Scope = record { globals = globals; own = own; does = does } in
      ap (λ n. port_with own port (Some t) n (initials_at t (map (λ m. m.entries) g.initials.items) place))
      (found.given ∙ step_said port.name place t found.at found.is ∙ ap (last_of (assigned_port_step port.name) 0) (sym same_attrs))
      ∙ ap (port_with own port (Some t) (last_of (assigned_port_step port.name) 0 block.attrs))
      (initials_said port.name place t found.at found.is ∙ ap (initials_of_port port.name (Some t)) (sym same_lines))
      ∙ ap (data_of_port scope block port) (sym thing)
