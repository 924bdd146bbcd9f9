-- The event kernel is read part after part.
use Rattle.std.proofs.Common.{◌≡◌, ℕ, ℤ, List, ◌++◌, ◌∙◌, ap, refl}
use Rattle.std.specs.List.{AllByRecursion, AllZip, flat_map}
use Rattle.tdf_save.proofs.Api.{KernelPartsFit, block_one, each_one, kernel_fit, kernel_is, kernel_parts, kernel_parts_text, value_one}
use Rattle.tdf_save.specs.Members.{IsKernelFor, IsPendingFor, MembersOf}
use Rattle.tdf_save.specs.Text.{each_text, saved_block, saved_kernel, saved_pending, saved_value}
use Rattle.tdf_save.specs.machine.Pieces.{Any, IsNext, IsOne}
use Rattle.tdf_save_reading.proofs.EventSteps.{from_members, to_members}
use Rattle.tdf_save_reading.proofs.ReadSteps.{along_none, along_piece, no_first, no_second, pair_piece}
use Rattle.tdf_save_reading.proofs.ValueSteps.{BlockFits, ValueFits}
use Rattle.tdf_save_reading.specs.machine.Events.{IsNotice}
use Rattle.tdf_save_reading.specs.machine.Pieces.{IsPiece, NoPiece}
use Rattle.tdf_saved.specs.State.{KernelStateOf}
use Rattle.tdf_saved.specs.declared.state.Pending.{Pending}

abbrev pub values_text : MembersOf → List ℤ → List ℕ
values_text m vs = each_text saved_value m.values vs

abbrev pub ValuesFit : MembersOf → List ℤ → Type 0
ValuesFit m vs = AllZip ValueFits m.values vs

abbrev pub blocks_text : MembersOf → List (List ℤ) → List ℕ
blocks_text m bs = each_text saved_block m.blocks bs

abbrev pub BlocksFit : MembersOf → List (List ℤ) → Type 0
BlocksFit m bs = AllZip BlockFits m.blocks bs

abbrev pub notices_text : MembersOf → List Pending → List ℕ
notices_text m ps = flat_map (saved_pending m.events) ps

abbrev pub NoticesFit : MembersOf → List Pending → Type 0
NoticesFit m ps = AllByRecursion (IsNotice m.events) ps

abbrev PendingFit : MembersOf → List Pending → Type 0
PendingFit m ps = AllByRecursion (IsPendingFor m) ps

abbrev Rest : Type 0
Rest = List (List ℤ) × List Pending

abbrev rest_text : MembersOf → Rest → List ℕ
rest_text m q = blocks_text m q.0 ++ notices_text m q.1

abbrev RestFit : MembersOf → Rest → Type 0
RestFit m q = BlocksFit m q.0 × PendingFit m q.1

from_parts : (m : MembersOf) (whole : List ℕ) → NoPiece (kernel_parts_text m) (KernelPartsFit m) IsNext whole → NoPiece (saved_kernel m) (IsKernelFor m) IsNext whole
from_parts m whole none = along_none kernel_parts (saved_kernel m) (kernel_parts_text m) (IsKernelFor m) (KernelPartsFit m) IsNext whole (kernel_is m) (kernel_fit m) none

values_one : (m : MembersOf) → IsOne (values_text m) (ValuesFit m) Any
values_one m = each_one saved_value ValueFits Any value_one (λ a v r f. tt) m.values

blocks_one : (m : MembersOf) → IsOne (blocks_text m) (BlocksFit m) Any
blocks_one m = each_one saved_block BlockFits Any block_one (λ a v r f. tt) m.blocks

pub no_values : (m : MembersOf) (whole : List ℕ) → NoPiece (values_text m) (ValuesFit m) Any whole → NoPiece (saved_kernel m) (IsKernelFor m) IsNext whole
no_values m whole none = from_parts m whole (no_first (values_text m) (rest_text m) (ValuesFit m) (RestFit m) Any IsNext whole (λ b r f e. tt) none)

after_values : (m : MembersOf) (whole a : List ℕ) (vs : List ℤ) → IsPiece (values_text m) (ValuesFit m) Any whole vs a → NoPiece (rest_text m) (RestFit m) IsNext a → NoPiece (saved_kernel m) (IsKernelFor m) IsNext whole
after_values m whole a vs p none = from_parts m whole (no_second (values_text m) (rest_text m) (ValuesFit m) (RestFit m) Any IsNext whole a vs (λ b r f e. tt) (values_one m) p none)

pub no_blocks : (m : MembersOf) (whole a : List ℕ) (vs : List ℤ) → IsPiece (values_text m) (ValuesFit m) Any whole vs a → NoPiece (blocks_text m) (BlocksFit m) Any a → NoPiece (saved_kernel m) (IsKernelFor m) IsNext whole
no_blocks m whole a vs p none = after_values m whole a vs p (no_first (blocks_text m) (notices_text m) (BlocksFit m) (PendingFit m) Any IsNext a (λ b r f e. tt) none)

pending_none : (m : MembersOf) (whole : List ℕ) → NoPiece (notices_text m) (NoticesFit m) IsNext whole → NoPiece (notices_text m) (PendingFit m) IsNext whole
pending_none m whole none = λ ps r p. none ps r (record { fit = from_members m ps p.fit; end = p.end; is = p.is })

pub no_notices : (m : MembersOf) (whole a b : List ℕ) (vs : List ℤ) (bs : List (List ℤ)) → IsPiece (values_text m) (ValuesFit m) Any whole vs a → IsPiece (blocks_text m) (BlocksFit m) Any a bs b
    → NoPiece (notices_text m) (NoticesFit m) IsNext b → NoPiece (saved_kernel m) (IsKernelFor m) IsNext whole
no_notices m whole a b vs bs p q none = after_values m whole a vs p
    (no_second (blocks_text m) (notices_text m) (BlocksFit m) (PendingFit m) Any IsNext a b bs (λ b r f e. tt) (blocks_one m) q (pending_none m b none))

abbrev pub kernel_at : List ℤ → List (List ℤ) → List Pending → KernelStateOf
kernel_at vs bs ps = record { values = vs; blocks = bs; pending = ps }

parts_at : (vs : List ℤ) (bs : List (List ℤ)) (ps : List Pending) → kernel_parts (kernel_at vs bs ps) ≡ (vs, (bs, ps))
unfolding kernel_parts
parts_at vs bs ps = refl

pub all_parts : (m : MembersOf) (whole a b rest : List ℕ) (vs : List ℤ) (bs : List (List ℤ)) (ps : List Pending) → IsPiece (values_text m) (ValuesFit m) Any whole vs a
    → IsPiece (blocks_text m) (BlocksFit m) Any a bs b → IsPiece (notices_text m) (NoticesFit m) IsNext b ps rest → IsPiece (saved_kernel m) (IsKernelFor m) IsNext whole (kernel_at vs bs ps) rest
all_parts m whole a b rest vs bs ps p q w =
    let fit = to_members m ps w.fit in
    let three : IsPiece (notices_text m) (PendingFit m) IsNext b ps rest = record { fit = fit; end = w.end; is = w.is } in
    let two = pair_piece (blocks_text m) (notices_text m) (BlocksFit m) (PendingFit m) Any IsNext a b bs ps rest q three in
    let one = pair_piece (values_text m) (rest_text m) (ValuesFit m) (RestFit m) Any IsNext whole a vs (bs, ps) rest p two in
    along_piece (saved_kernel m) (kernel_parts_text m) (IsKernelFor m) (KernelPartsFit m) IsNext whole (kernel_at vs bs ps) (vs, (bs, ps)) rest
    (kernel_is m (kernel_at vs bs ps) ∙ ap (kernel_parts_text m) (parts_at vs bs ps))
    (record { values = p.fit; blocks = q.fit; pending = fit }) one
