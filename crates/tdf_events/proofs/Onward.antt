-- The side of a kernel that goes on from a state, and what it keeps of its model.
use Rattle.std.proofs.Common.{◌≡◌, ◌∙◌, ◌<◌, ◌&&◌, ℕ, zero, suc, ℤ, Bool, true, false, nat_eq, List, [], ◌∷◌, Some, length, map, replicate, slice_get, refl, sym, ap, subst, arith}
use Rattle.std.proofs.lemmas.Bool.{ne_eqb}
use Rattle.std.proofs.lemmas.List.{ext_get_or, length-map}
use Rattle.std.proofs.lemmas.Option.{get_or_from_slice_get, same_Some, slice_get-map, slice_get_within}
use Rattle.std.proofs.lemmas.Slice.Zip.{length-zip}
use Rattle.std.specs.List.{zip}
use Rattle.std.specs.Option.{option_map}
use Rattle.tdf_bind.specs.declared.model.Flat.{Flat}
use Rattle.tdf_bind_connections.specs.ProcessBlocks.{BlockRowOf, ProcessRowOf}
use Rattle.tdf_events.proofs.Reading.{has_at}
use Rattle.tdf_events.proofs.Resumed.{values_are, with_length}
use Rattle.tdf_events.proofs.Starting.{first_of, no_frame, seen, with}
use Rattle.tdf_events.specs.Kernel.{IsKernelOf, KernelOf, side_of}
use Rattle.tdf_events.specs.Notices.{NoticesOf}
use Rattle.tdf_events.specs.Runnable.{AreOfSignals, signal_formats}
use Rattle.tdf_events.specs.Side.{SideOf, start_side}
use Rattle.tdf_events.proofs.Times.{times_are}
use Rattle.tdf_events.specs.State.{IsKernelState, frame_with, kernel_state_of, notifications, resumed_side}
use Rattle.tdf_events.specs.machine.Resuming.{AreValuesIn, CanHold, HaveCells, with_cells, with_pending}
use Rattle.tdf_expr.proofs.Api.{fits_one}
use Rattle.tdf_expr.specs.Frames.{FrameSeen}
use Rattle.tdf_expr.specs.Made.{AreMadeFor, start_rates}
use Rattle.tdf_expr.specs.Plans.{shape_written}
use Rattle.tdf_expr.specs.declared.checked.Checked.{Checked}
use Rattle.tdf_expr_semantics.specs.Fits.{NumbersFit}
use Rattle.tdf_expr_state.specs.State.{FrameState}
use Rattle.tdf_fixed.specs.Overflow.{IsOfWidth}
use Rattle.tdf_fixed.specs.declared.format.Format.{Format}
use Rattle.tdf_fixed.specs.declared.raw.Raw.{Raw}
use Rattle.tdf_saved.specs.State.{KernelStateOf}
use Rattle.tdf_saved.specs.declared.state.Pending.{Pending}

-- ---- lists

maps : {A B C : Type 0} (f : A → B) (g : B → C) (xs : List A) → map g (map f xs) ≡ map (λ x. g (f x)) xs
maps f g [] = refl
maps f g (x ∷ xs) = ap (λ ys. g (f x) ∷ ys) (maps f g xs)

zip_here : {A B : Type 0} (xs : List A) (ys : List B) (k : ℕ) (x : A) (y : B) → slice_get xs k ≡ Some x → slice_get ys k ≡ Some y → slice_get (zip xs ys) k ≡ Some (x, y)
zip_here [] ys k x y at there = absurd cc
zip_here (a ∷ xs) [] k x y at there = absurd cc
zip_here (a ∷ xs) (b ∷ ys) zero x y at there = ap (λ z. Some (z, b)) (same_Some a x at) ∙ ap (λ z. Some (x, z)) (same_Some b y there)
zip_here (a ∷ xs) (b ∷ ys) (suc k) x y at there = zip_here xs ys k x y at there

-- ---- the state of a kernel

abbrev pub saved : List ℤ → List (List ℤ) → List Pending → KernelStateOf
saved values blocks pending = record { values = values; blocks = blocks; pending = pending }

pub state_is : (k : KernelOf) (s : KernelStateOf) → s.values ≡ map (λ (v : Raw). v.num) k.values → s.blocks ≡ map (λ (f : FrameSeen). f.state.cells) k.frames
    → s.pending ≡ notifications k.notices.times → s ≡ kernel_state_of (side_of k)
state_is k s values blocks pending = ap (λ x. saved x s.blocks s.pending) values
    ∙ ap (λ x. saved (map (λ (v : Raw). v.num) k.values) x s.pending) (blocks ∙ sym (maps seen (λ (f : FrameState). f.cells) k.frames))
    ∙ ap (λ x. saved (map (λ (v : Raw). v.num) k.values) (map (λ (f : FrameState). f.cells) (map seen k.frames)) x) pending

-- ---- which processes start

all_off : (flags : List Bool) → replicate (length flags) false ≡ map (λ on. false && on) flags
all_off [] = refl
all_off (f ∷ fs) = ap (λ xs. false ∷ xs) (all_off fs)

all_on : (flags : List Bool) → flags ≡ map (λ on. true && on) flags
all_on [] = refl
all_on (f ∷ fs) = ap (λ xs. f ∷ xs) (all_on fs)

-- above time 0 no flag is kept, at 0 each
pub starts_gone : (time : ℕ) (flags new : List Bool) → 0 < time → new ≡ replicate (length flags) false → new ≡ map (λ on. nat_eq time 0 && on) flags
starts_gone time flags new less off = off ∙ subst (λ b. replicate (length flags) false ≡ map (λ on. b && on) flags) (sym (ne_eqb time 0 (λ e. absurd (omega (arith, less, e))))) (all_off flags)

pub starts_kept : (time : ℕ) (flags : List Bool) → time ≡ 0 → flags ≡ map (λ on. nat_eq time 0 && on) flags
starts_kept time flags first = subst (λ t. flags ≡ map (λ on. nat_eq t 0 && on) flags) (sym first) (all_on flags)

-- ---- what goes on

-- the parts of a kernel before the first instant, with those that a state changes
pub record GoesOn (flat : Flat) (time : ℕ) (s : KernelStateOf) (old new : KernelOf) : Type 0 where
  pub values : AreValuesIn (signal_formats flat) s.values (length s.values) new.values
  pub frames : HaveCells s.blocks (length s.blocks) old.frames new.frames
  pub notices : new.notices ≡ record old.notices { times = with_pending s.pending old.notices.times }
  pub triggered : new.triggered.flags ≡ map (λ on. nat_eq time 0 && on) old.triggered.flags
  pub rest : new ≡ record old { values = new.values; frames = new.frames; notices = new.notices; triggered = new.triggered }

-- the frames can hold the cells of a state
pub can_hold : (flat : Flat) (k : KernelOf) (time : ℕ) (s : KernelStateOf) → IsKernelOf flat k → IsKernelState flat time s → CanHold k.frames s.blocks
can_hold flat k time s is fits n f nums at has =
    let inside = slice_get_within k.frames n f at in
    let row = has_at flat.tables.blocks n (omega (arith, inside, is.frames)) in
    let p = has_at k.ports n (omega (arith, inside, is.frames, is.ports)) in
    subst (λ (xs : List Format). NumbersFit (map shape_written xs) nums) (sym (is.made n row.0 f p.0 row.1 at p.1).formats) (fits.blocks.each n row.0 nums row.1 has)

abbrev as_frame : Checked → BlockRowOf × List ℤ → FrameState
as_frame checked b = frame_with checked b.0 b.1

rates_are : (checked : Checked) (rows : List BlockRowOf) (frames : List FrameSeen) (k : ℕ) (row : BlockRowOf) (f : FrameSeen) → map seen frames ≡ map (first_of checked) rows
    → slice_get rows k ≡ Some row → slice_get frames k ≡ Some f → f.state.rates ≡ start_rates checked row.block
rates_are checked rows frames k row f are at has = ap (λ (x : FrameState). x.rates) (same_Some (seen f) (first_of checked row)
    (sym (slice_get-map seen frames k ∙ ap (option_map seen) has) ∙ ap (λ (xs : List FrameState). slice_get xs k) are ∙ slice_get-map (first_of checked) rows k ∙ ap (option_map (first_of checked)) at))

frames_are : (checked : Checked) (rows : List BlockRowOf) (blocks : List (List ℤ)) (old new : List FrameSeen) → length blocks ≡ length rows
    → map seen old ≡ map (first_of checked) rows → HaveCells blocks (length blocks) old new → map seen new ≡ map (as_frame checked) (zip rows blocks)
frames_are checked rows blocks old new same first have = ext_get_or no_frame (map seen new) (map (as_frame checked) (zip rows blocks)) long
    (λ k less. (let inside : k < length old = omega (arith, less, length-map new seen, have.long) in let f = has_at old k inside in
    let row = has_at rows k (omega (arith, inside, olds)) in let nums = has_at blocks k (omega (arith, inside, olds, same)) in
    let x : FrameState = as_frame checked (row.0, nums.0) in
    let here : slice_get new k ≡ Some (with_cells f.0 nums.0) = have.set k f.0 nums.0 (slice_get_within blocks k nums.0 nums.1) f.1 nums.1 in
    let left : slice_get (map seen new) k ≡ Some x = slice_get-map seen new k ∙ ap (option_map seen) here ∙ ap (λ r. Some (record { cells = nums.0; rates = r })) (rates_are checked rows old k row.0 f.0 first row.1 f.1) in
    let right : slice_get (map (as_frame checked) (zip rows blocks)) k ≡ Some x = slice_get-map (as_frame checked) (zip rows blocks) k ∙ ap (option_map (as_frame checked)) (zip_here rows blocks k row.0 nums.0 row.1 nums.1) in
    get_or_from_slice_get (map seen new) k x no_frame left ∙ sym (get_or_from_slice_get (map (as_frame checked) (zip rows blocks)) k x no_frame right)))
  where
    olds : length old ≡ length rows
    olds = sym (length-map old seen) ∙ ap length first ∙ length-map rows (first_of checked)

    long : length (map seen new) ≡ length (map (as_frame checked) (zip rows blocks))
    long = omega (arith, olds, same, have.long, length-map new seen, length-zip rows blocks, length-map (zip rows blocks) (as_frame checked))

triggers : (time : ℕ) (rows : List ProcessRowOf) (old new : List Bool) → new ≡ map (λ on. nat_eq time 0 && on) old → old ≡ map (λ (row : ProcessRowOf). row.starts) rows
    → new ≡ map (λ (row : ProcessRowOf). nat_eq time 0 && row.starts) rows
triggers time rows old new is first = is ∙ ap (map (λ on. nat_eq time 0 && on)) first ∙ maps (λ (row : ProcessRowOf). row.starts) (λ on. nat_eq time 0 && on) rows

-- the side is that of the state
pub goes_on : (flat : Flat) (time : ℕ) (s : KernelStateOf) (old new : KernelOf) → IsKernelState flat time s → side_of old ≡ start_side flat → GoesOn flat time s old new
    → side_of new ≡ resumed_side flat time s
goes_on flat time s old new fits first on =
    let goal = resumed_side flat time s in
    let formats : length (signal_formats flat) ≡ length (map shape_written (signal_formats flat)) = sym (length-map (signal_formats flat) shape_written) in
    let values : new.values ≡ goal.values = values_are (signal_formats flat) s.values new.values (fits.values.long ∙ sym formats) on.values in
    let frames : map seen new.frames ≡ goal.frames = frames_are flat.checked flat.tables.blocks s.blocks old.frames new.frames fits.blocks.long (ap (λ (x : SideOf). x.frames) first) on.frames in
    let notices : new.notices ≡ goal.notices = on.notices ∙ ap (λ (x : SideOf). record x.notices { times = with_pending s.pending x.notices.times }) first
    ∙ ap (λ l. record goal.notices { times = l }) (times_are (length flat.tables.events) time s.pending fits.pending) in
    let triggered : new.triggered.flags ≡ goal.triggered = triggers time flat.tables.processes old.triggered.flags new.triggered.flags on.triggered (ap (λ (x : SideOf). x.triggered) first) in
    let waiting : new.waiting ≡ goal.waiting = ap (λ (k : KernelOf). k.waiting) on.rest ∙ ap (λ (x : SideOf). x.waiting) first in
    ap (λ x. with x (map seen new.frames) new.notices new.triggered.flags new.waiting) values
    ∙ ap (λ x. with goal.values x new.notices new.triggered.flags new.waiting) frames
    ∙ ap (λ x. with goal.values goal.frames x new.triggered.flags new.waiting) notices
    ∙ ap (λ x. with goal.values goal.frames goal.notices x new.waiting) triggered
    ∙ ap (λ x. with goal.values goal.frames goal.notices goal.triggered x) waiting

-- ---- what it keeps of its model

values_fit : (formats : List Format) (nums : List ℤ) (values : List Raw) → NumbersFit (map shape_written formats) nums → AreValuesIn formats nums (length nums) values → AreOfSignals formats values
values_fit formats nums values fits are = record {
  long = are.long ∙ fits.long ∙ length-map formats shape_written;
  each = λ n f value at has. (let is = are.each n f value at has in record {
    frac = ap (λ (v : Raw). v.frac) is;
    num = subst (λ (v : Raw). IsOfWidth f.signed f.wl v.num) (sym is) (fits_one formats nums n f at fits);
  });
}

pub keeps : (flat : Flat) (time : ℕ) (s : KernelStateOf) (old new : KernelOf) → IsKernelState flat time s → IsKernelOf flat old → GoesOn flat time s old new → IsKernelOf flat new
keeps flat time s old new fits is on = subst (IsKernelOf flat) (sym on.rest) (record {
  going = is.going;
  values = values_fit (signal_formats flat) s.values new.values fits.values on.values;
  frames = on.frames.long ∙ is.frames;
  ports = is.ports;
  made = λ n row f p at fat pat. (let less = slice_get_within flat.tables.blocks n row at in
      let g = has_at old.frames n (omega (arith, less, is.frames)) in let nums = has_at s.blocks n (omega (arith, less, fits.blocks.long)) in
      let here = on.frames.set n g.0 nums.0 (slice_get_within s.blocks n nums.0 nums.1) g.1 nums.1 in
      let same : with_cells g.0 nums.0 ≡ f = same_Some (with_cells g.0 nums.0) f (sym here ∙ fat) in
      let m = is.made n row g.0 p at g.1 pat in
      subst (λ (x : FrameSeen). AreMadeFor flat.checked row.block x p) same (record { made = m.made; block = m.block; formats = m.formats; rates = m.rates; ports_are = m.ports_are; events = m.events }));
  times = ap (λ (n : NoticesOf). length n.times) on.notices ∙ with_length s.pending old.notices.times ∙ is.times;
  triggered = ap length on.triggered ∙ length-map old.triggered.flags (λ b. nat_eq time 0 && b) ∙ is.triggered;
  waiting = is.waiting;
  formats = is.formats;
  signal_lists = is.signal_lists;
  event_lists = is.event_lists;
  by_signal = is.by_signal;
  by_event = is.by_event;
  own_lists = is.own_lists;
  own = is.own;
})
