use Rattle.std.proofs.Common.{◌≡◌, ◌∙◌, sym, ap, length, rules}
use Rattle.std.proofs.lemmas.List.{length-map}
use Rattle.std.specs.Prelude.{map}
use Rattle.tdf_bind_ports.proofs.Found.{map_push, finds_stays, finds_more}
use Rattle.tdf_bind_ports.proofs.index.Index.add.Goals as goal
use Rattle.tdf_expr_symbols.specs.Names.{place_in}

pub invariant_of-self-in-Some : goal.invariant_of-self-in-Some
invariant_of-self-in-Some c =
    rw (c.in_ok-push.ensures.items, map_push) (finds_stays c.self.inside.places (map (λ n. n.now) c.self.inside.names.items) c.args.name.now c.in-Some.field-0 c.self.invariant
    (ap (λ ns. place_in ns c.args.name.now) c.self.view_is ∙ sym c.place-known.ensures ∙ c.in-Some.is))

pub invariant_of-self-in-Ok : goal.invariant_of-self-in-Ok
invariant_of-self-in-Ok c =
    rw (c.in_ok-push.ensures.items, map_push) (finds_more c.self.inside.places c.insert.new.self (map (λ n. n.now) c.self.inside.names.items) c.args.name.now c.len-place.result c.self.invariant
    (ap (λ ns. place_in ns c.args.name.now) c.self.view_is ∙ sym c.place-known.ensures ∙ c.in-None.is)
    (let h : c.len-place.result ≡ length c.self.inside.names.items = search rules in h ∙ sym (length-map c.self.inside.names.items (λ n. n.now)))
    (λ name. c.in-Ok.ensures.updates.0 (record { ref_ptr = (0, 0); now = name })))
