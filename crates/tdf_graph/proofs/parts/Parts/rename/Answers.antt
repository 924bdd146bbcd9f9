use Rattle.std.proofs.Common.{◌∙◌, ◌<◌, ◌++◌, length, ap, sym, subst}
use Rattle.tdf_graph.specs.Parts.{IsRenamed}
use Rattle.tdf_graph.proofs.Renames.{moved_within, moved_renames, moved_members}
use Rattle.tdf_graph.proofs.parts.Parts.rename.Goals as goal

pub relabel-requires : goal.relabel-requires
relabel-requires c = moved_within c.args.gone c.args.kept c.self.inside.labels.items c.self.inside.labels.items c.self.inside.members.items
    c.index_mut.result.now c.index_mut-2.result.now c.replace-moved.new.dest c.extend_from_slice.new.self c.as_slice-2.result.now
    c.requires.apart (subst (λ l. c.args.gone < length l) (sym c.self.view_is) c.requires.gone) (subst (λ l. c.args.kept < length l) (sym c.self.view_is) c.requires.kept) c.self.invariant
    c.index_mut.ensures.value c.index_mut-2.ensures.value (ap (λ v. v.items) c.replace-moved.ensures.after ∙ c.new.ensures.items)
    (c.as_slice-2.ensures ∙ ap (λ v. v.items) c.replace-moved.ensures.value)
    (c.in_ok-extend_from_slice.ensures.ok ∙ ap (λ l. c.index_mut-2.result.now.items ++ l) (c.as_slice.ensures ∙ sym c.as_slice-2.ensures))

pub invariant_of-result : goal.invariant_of-result
invariant_of-result c = moved_members c.args.gone c.args.kept c.self.inside.labels.items c.relabel.new.labels.items c.self.inside.members.items
    c.index_mut.result.now c.index_mut-2.result.now c.replace-moved.new.dest c.extend_from_slice.new.self c.as_slice-2.result.now
    c.requires.apart (subst (λ l. c.args.gone < length l) (sym c.self.view_is) c.requires.gone) (subst (λ l. c.args.kept < length l) (sym c.self.view_is) c.requires.kept) c.self.invariant
    c.index_mut.ensures.value c.index_mut-2.ensures.value (ap (λ v. v.items) c.replace-moved.ensures.after ∙ c.new.ensures.items)
    (c.as_slice-2.ensures ∙ ap (λ v. v.items) c.replace-moved.ensures.value)
    (c.in_ok-extend_from_slice.ensures.ok ∙ ap (λ l. c.index_mut-2.result.now.items ++ l) (c.as_slice.ensures ∙ sym c.as_slice-2.ensures))
    c.relabel.ensures

pub returns : goal.returns
returns c = subst (λ l. IsRenamed c.args.gone c.args.kept l c.relabel.new.labels.items) c.self.view_is
    (moved_renames c.args.gone c.args.kept c.self.inside.labels.items c.relabel.new.labels.items c.self.inside.members.items
    c.index_mut.result.now c.index_mut-2.result.now c.replace-moved.new.dest c.extend_from_slice.new.self c.as_slice-2.result.now
    c.requires.apart (subst (λ l. c.args.gone < length l) (sym c.self.view_is) c.requires.gone) (subst (λ l. c.args.kept < length l) (sym c.self.view_is) c.requires.kept) c.self.invariant
    c.index_mut.ensures.value c.index_mut-2.ensures.value (ap (λ v. v.items) c.replace-moved.ensures.after ∙ c.new.ensures.items)
    (c.as_slice-2.ensures ∙ ap (λ v. v.items) c.replace-moved.ensures.value)
    (c.in_ok-extend_from_slice.ensures.ok ∙ ap (λ l. c.index_mut-2.result.now.items ++ l) (c.as_slice.ensures ∙ sym c.as_slice-2.ensures))
    c.relabel.ensures)
