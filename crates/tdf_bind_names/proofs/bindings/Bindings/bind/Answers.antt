use Rattle.tdf_bind_names.proofs.bindings.Bindings.bind.Goals as goal

pub returns : goal.returns
returns c i p = c.in_ok-insert.ensures.updates.0 (record { ref_ptr = (0, 0); now = i }, record { ref_ptr = (0, 0); now = p })
