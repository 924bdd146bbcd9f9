-- Samples that are given, at their places.
use Rattle.std.proofs.Common.{◌≡◌, ◌∙◌, ◌≢◌, ℕ, ◌<◌, if◌then◌else◌, nat_eq, nat_lt, List, [], ◌∷◌, length, map, replicate, refl, ap, sym, inl, inr, ◌⊎◌, arith}
use Rattle.std.proofs.Math.ListN.{get_or}
use Rattle.std.proofs.lemmas.Bool.{cases_eq, eq-eqb, ne_eqb, lt-ltb}
use Rattle.std.proofs.lemmas.List.{get_or-replicate, get_or-set_same, length-replicate, same_lists}
use Rattle.std.proofs.lemmas.List.FromFn.{get_or-map-range_with_len, length-map-range_with_len}
use Rattle.std.specs.List.{range_with_len}
use Rattle.std.specs.Prelude.{slice_set}
use Rattle.tdf_fixed.specs.declared.raw.Raw.{Raw}
use Rattle.tdf_exec_layout.proofs.Setting.{set_long, set_other}
use Rattle.tdf_exec_layout.specs.machine.Initials.{given_to}
use Rattle.tdf_bind_tables.specs.FlatTables.{FlatTablesOf}
use Rattle.tdf_streams.specs.Cluster.{given_at, initial_sample, zero_of_port}
use Rattle.tdf_bind_connections.specs.declared.modules.PortRow.{PortRow}

pub given_long : (given : List (ℕ × Raw)) (samples : List Raw) → length (given_to given samples) ≡ length samples
given_long [] samples = refl
given_long (g ∷ given) samples = given_long given (if nat_lt g.0 (length samples) then slice_set samples g.0 g.1 else samples) ∙ set_long (nat_lt g.0 (length samples)) samples g.0 g.1

-- each sample of such a list is the last one that is given for its place
pub given_is : (given : List (ℕ × Raw)) (samples : List Raw) (k : ℕ) (d : Raw) → k < length samples → get_or (given_to given samples) k d ≡ given_at (get_or samples k d) k given
given_is [] samples k d inside = refl
given_is (g ∷ given) samples k d inside =
    given_is given (if nat_lt g.0 (length samples) then slice_set samples g.0 g.1 else samples) k d (let l = set_long (nat_lt g.0 (length samples)) samples g.0 g.1 in omega (arith, l, inside))
    ∙ ap (λ z. given_at z k given) (one (cases_eq g.0 k))
  where
    one : (g.0 ≡ k) ⊎ (g.0 ≢ k) → get_or (if nat_lt g.0 (length samples) then slice_set samples g.0 g.1 else samples) k d ≡ (if nat_eq g.0 k then g.1 else get_or samples k d)
    one (inl same) = rw (same, lt-ltb k (length samples) inside, eq-eqb k k refl) (get_or-set_same samples k g.1 d inside)
    one (inr other) = set_other (nat_lt g.0 (length samples)) samples g.0 k g.1 d (λ s. other (sym s)) ∙ ap (λ b. if b then g.1 else get_or samples k d) (sym (ne_eqb g.0 k other))

-- so those of a port are its initial samples
pub port_given : (tables : FlatTablesOf) (port : PortRow) → given_to port.initials (replicate port.delay (zero_of_port tables port)) ≡ map (initial_sample tables port) (range_with_len 0 port.delay)
port_given tables port = same_lists (given_to port.initials (replicate port.delay (zero_of_port tables port))) (map (initial_sample tables port) (range_with_len 0 port.delay))
    (long ∙ sym (length-map-range_with_len (initial_sample tables port) 0 port.delay))
    (λ k d inside. let low : k < port.delay = (let l = long in omega (arith, inside, l)) in
    given_is port.initials (replicate port.delay (zero_of_port tables port)) k d (let l = length-replicate port.delay (zero_of_port tables port) in omega (arith, low, l))
    ∙ ap (λ z. given_at z k port.initials) (get_or-replicate port.delay k (zero_of_port tables port) d low)
    ∙ sym (get_or-map-range_with_len (initial_sample tables port) 0 port.delay k k d low (omega arith)))
  where
    long : length (given_to port.initials (replicate port.delay (zero_of_port tables port))) ≡ port.delay
    long = given_long port.initials (replicate port.delay (zero_of_port tables port)) ∙ length-replicate port.delay (zero_of_port tables port)
