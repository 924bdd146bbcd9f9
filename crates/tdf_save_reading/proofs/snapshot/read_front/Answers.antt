use Rattle.std.proofs.Common.{ℕ, List, Vec, Global, map, ◌∙◌, ◌≡◌, ap, refl, subst}
use Rattle.std.specs.List.{AllZip}
use Rattle.tdf_save.specs.Members.{ClusterMembersOf, IsClusterFor}
use Rattle.tdf_save.specs.Text.{each_text, saved_cluster, saved_column}
use Rattle.tdf_save.specs.machine.Pieces.{Any, IsNext}
use Rattle.tdf_save_reading.proofs.ColumnSteps.{ColumnFits}
use Rattle.tdf_save_reading.proofs.ModuleReads.{why_weaker}
use Rattle.tdf_save_reading.proofs.WholeSteps.{all_parts, no_clusters, no_columns, no_kernel, no_kind_there, no_run}
use Rattle.tdf_save_reading.specs.machine.Pieces.{IsPiece, NoPiece}
use Rattle.tdf_save_reading.proofs.snapshot.read_front.Goals as goal

pub returns-in_default-clause-refused : goal.returns-in_default-clause-refused
returns-in_default-clause-refused c = no_kind_there c.args.members.now c.args.bytes.now (c.in_default.ensures.none refl)

pub returns-in_default-read_run-clause-refused : goal.returns-in_default-read_run-clause-refused
returns-in_default-read_run-clause-refused c = no_run c.args.members.now c.args.bytes.now c.in-Some.after.now c.in-Some.vcd c.in-Some.ensures.is (c.in_default-read_run.ensures.none refl)

pub read_columns-requires : goal.read_columns-requires
read_columns-requires c = record { next = c.in-Ok-read_kernel.ensures.is.end }

pub returns-in-Ok-read_columns-clause-is : goal.returns-in-Ok-read_columns-clause-is
returns-in-Ok-read_columns-clause-is c =
    let clusters : c.deref.result.now ≡ c.args.members.now.clusters = c.deref.ensures.value ∙ ap (λ m. m.clusters) c.members.view_is in
    let cs = subst (λ (xs : List ClusterMembersOf). IsPiece (each_text saved_cluster xs) (AllZip IsClusterFor xs) Any c.in-Some-read_run.after.now c.in-Ok.clusters.items c.in-Ok.after.now) clusters c.in-Ok.ensures.is in
    let columns : map (λ (z : Vec ℕ Global). z.items) c.deref-in-Ok-read_kernel.result.now ≡ c.args.members.now.columns = ap (map (λ (z : Vec ℕ Global). z.items)) c.deref-in-Ok-read_kernel.ensures.value ∙ ap (λ m. m.columns) c.members.view_is in
    let ss = subst (λ (xs : List (List ℕ)). IsPiece (each_text saved_column xs) (AllZip ColumnFits xs) IsNext c.in-Ok-read_kernel.after.now c.in-Ok-read_columns.columns.items c.in-Ok-read_columns.rest.now) columns c.in-Ok-read_columns.ensures.is in
    rw c.assembled.ensures (all_parts c.args.members.now c.args.bytes.now c.in-Some.after.now c.in-Some-read_run.after.now c.in-Ok.after.now c.in-Ok-read_kernel.after.now c.in-Ok-read_columns.rest.now
    c.in-Some.vcd c.in-Some-read_run.head c.in-Ok.clusters.items c.in-Ok-read_kernel.kernel c.in-Ok-read_columns.columns.items
    c.in-Some.ensures.is c.in-Some-read_run.ensures.is cs c.in-Ok-read_kernel.ensures.is ss)

pub returns-in-Err-read_columns-clause-refused : goal.returns-in-Err-read_columns-clause-refused
returns-in-Err-read_columns-clause-refused c =
    let clusters : c.deref.result.now ≡ c.args.members.now.clusters = c.deref.ensures.value ∙ ap (λ m. m.clusters) c.members.view_is in
    let cs = subst (λ (xs : List ClusterMembersOf). IsPiece (each_text saved_cluster xs) (AllZip IsClusterFor xs) Any c.in-Some-read_run.after.now c.in-Ok.clusters.items c.in-Ok.after.now) clusters c.in-Ok.ensures.is in
    let columns : map (λ (z : Vec ℕ Global). z.items) c.deref-in-Ok-read_kernel.result.now ≡ c.args.members.now.columns = ap (map (λ (z : Vec ℕ Global). z.items)) c.deref-in-Ok-read_kernel.ensures.value ∙ ap (λ m. m.columns) c.members.view_is in
    why_weaker c.in-Err-read_columns.why (λ none. no_columns c.args.members.now c.requires.apart c.args.bytes.now c.in-Some.after.now c.in-Some-read_run.after.now c.in-Ok.after.now c.in-Ok-read_kernel.after.now
    c.in-Some.vcd c.in-Some-read_run.head c.in-Ok.clusters.items c.in-Ok-read_kernel.kernel c.in-Some.ensures.is c.in-Some-read_run.ensures.is cs c.in-Ok-read_kernel.ensures.is
    (subst (λ (xs : List (List ℕ)). NoPiece (each_text saved_column xs) (AllZip ColumnFits xs) IsNext c.in-Ok-read_kernel.after.now) columns none)) c.in-Err-read_columns.ensures.refused

pub returns-in-Err-read_kernel-clause-refused : goal.returns-in-Err-read_kernel-clause-refused
returns-in-Err-read_kernel-clause-refused c =
    let clusters : c.deref.result.now ≡ c.args.members.now.clusters = c.deref.ensures.value ∙ ap (λ m. m.clusters) c.members.view_is in
    let cs = subst (λ (xs : List ClusterMembersOf). IsPiece (each_text saved_cluster xs) (AllZip IsClusterFor xs) Any c.in-Some-read_run.after.now c.in-Ok.clusters.items c.in-Ok.after.now) clusters c.in-Ok.ensures.is in
    why_weaker c.in-Err-read_kernel.why (no_kernel c.args.members.now c.args.bytes.now c.in-Some.after.now c.in-Some-read_run.after.now c.in-Ok.after.now c.in-Some.vcd c.in-Some-read_run.head c.in-Ok.clusters.items
    c.in-Some.ensures.is c.in-Some-read_run.ensures.is cs) c.in-Err-read_kernel.ensures.refused

pub returns-in-Err-clause-refused : goal.returns-in-Err-clause-refused
returns-in-Err-clause-refused c =
    let clusters : c.deref.result.now ≡ c.args.members.now.clusters = c.deref.ensures.value ∙ ap (λ m. m.clusters) c.members.view_is in
    why_weaker c.in-Err.why (λ none. no_clusters c.args.members.now c.args.bytes.now c.in-Some.after.now c.in-Some-read_run.after.now c.in-Some.vcd c.in-Some-read_run.head c.in-Some.ensures.is c.in-Some-read_run.ensures.is
    (subst (λ (xs : List ClusterMembersOf). NoPiece (each_text saved_cluster xs) (AllZip IsClusterFor xs) Any c.in-Some-read_run.after.now) clusters none)) c.in-Err.ensures.refused
