-- What is given and what is to come are as many as before.
use Rattle.std.proofs.Common.{◌≡◌, ℕ, ◌+◌, List, drop, length, length-append, sym, ap, subst, arith}
use Rattle.tdf_convert.specs.Outputs.{OutputsOf}
use Rattle.tdf_exec.specs.Cluster.{ClusterOf}
use Rattle.tdf_exec.specs.Gained.{HasGained, sent_size, size_due, traced_size}
use Rattle.tdf_fixed.specs.declared.raw.Raw.{Raw}
use Rattle.tdf_bind.specs.declared.model.Flat.{Flat}

module _ (flat : Flat) (offset : ℕ) (inputs : List Raw) (c d : ClusterOf) (before after : OutputsOf) (gained : HasGained flat offset inputs c d before after) where
  pub sent_total : length after.sent + size_due sent_size d.runners offset (drop d.place d.entries) ≡ length before.sent + size_due sent_size c.runners offset (drop c.place c.entries)
  sent_total =
      let l = length-append before.sent gained.sent in
      let m = gained.sent_many in
      subst (λ (o : OutputsOf). length o.sent + size_due sent_size d.runners offset (drop d.place d.entries) ≡ length before.sent + size_due sent_size c.runners offset (drop c.place c.entries))
      (sym gained.are) (omega (arith, l, m))

  pub traced_total : length after.traced + size_due traced_size d.runners offset (drop d.place d.entries) ≡ length before.traced + size_due traced_size c.runners offset (drop c.place c.entries)
  traced_total =
      let l = length-append before.traced gained.traced in
      let m = gained.traced_many in
      subst (λ (o : OutputsOf). length o.traced + size_due traced_size d.runners offset (drop d.place d.entries) ≡ length before.traced + size_due traced_size c.runners offset (drop c.place c.entries))
      (sym gained.are) (omega (arith, l, m))

  -- the room itself stays
  pub gained_room : (after.sent_room ≡ before.sent_room) × (after.traced_room ≡ before.traced_room)
  gained_room = (ap (λ (o : OutputsOf). o.sent_room) gained.are, ap (λ (o : OutputsOf). o.traced_room) gained.are)
