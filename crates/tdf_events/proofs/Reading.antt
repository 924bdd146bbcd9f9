-- The ports of an instance before a process runs.
use Rattle.std.proofs.Common.{◌≡◌, ℕ, zero, suc, ◌+◌, ◌<◌, Bool, true, false, if◌then◌else◌, List, [], ◌∷◌, ◌++◌, Some, None, ℤ, pos, length, replicate, take, drop, slice_get, slice_set, length-set, get_or-set_same, get_or-set_other, refl, ap, sym, ◌∙◌, subst, inl, inr, arith, slice_index}
use Rattle.std.proofs.lemmas.Bool.{cases_eq, true≢false}
use Rattle.std.proofs.lemmas.List.{append-nil, ext_get_or, length-append, length-replicate, take_more}
use Rattle.std.proofs.lemmas.Option.{get_or_from_slice_get, same_Some, slice_get-get_or, slice_get_within}
use Rattle.tdf_events.specs.Processes.{process_ports_before, sample_before, samples_before}
use Rattle.tdf_events.specs.Side.{value_at}
use Rattle.tdf_events.specs.machine.Reading.{AreRead, CanRead, read_from, with_samples}
use Rattle.tdf_expr.specs.Frames.{ArePortsFit, PortsSeen, is_written, reset_samples, reset_state, sample_formats}
use Rattle.tdf_expr.specs.Plans.{shape_written}
use Rattle.tdf_expr.specs.declared.spans.PortSpan.{PortSpan}
use Rattle.tdf_fixed.specs.declared.raw.Raw.{Raw}
use Rattle.tdf_expr_state.specs.State.{PortsState, cell_at}
use Rattle.tdf_lang_tree.specs.declared.blocks.PortKind.{PortKind}

take_long : {X : Type 0} (xs : List X) (i : ℕ) → i < length xs → length (take i xs) ≡ i
take_long [] i less = absurd (omega (arith, less))
take_long (x ∷ xs) zero less = refl
take_long (x ∷ xs) (suc i) less = ap suc (take_long xs i (omega (arith, less)))

at_zero : (n m : ℕ) → n ≡ m → 0 + n ≡ m
at_zero n m same = omega (arith, same)

-- ports with one sample each have as many samples as there are ports
pub ones_long : (spans : List PortSpan) → ((n : ℕ) (p : PortSpan) → slice_get spans n ≡ Some p → p.count ≡ 1) → length (sample_formats spans) ≡ length spans
ones_long [] one = refl
ones_long (p ∷ ps) one = length-append (replicate p.count (shape_written p.format)) (sample_formats ps) ∙ (let a = length-replicate p.count (shape_written p.format) in
    let b = ones_long ps (λ n q at. one (suc n) q at) in let c : p.count ≡ 1 = one 0 p refl in omega (arith, a, b, c))

pub samples_long : (ports : PortsSeen) → ArePortsFit ports → ((n : ℕ) (p : PortSpan) → slice_get ports.spans n ≡ Some p → p.count ≡ 1) → length ports.state.samples ≡ length ports.spans
samples_long ports fit one = fit.samples.long ∙ ones_long ports.spans one

-- one port more
read_step : (values : List Raw) (signals reads : List ℕ) (i k s : ℕ) (old mid new : PortsSeen) → slice_get reads i ≡ Some k → slice_get signals k ≡ Some s → k < length mid.state.samples
    → AreRead values signals reads i old mid → new ≡ with_samples (slice_set mid.state.samples k (value_at values s).num) mid → AreRead values signals reads (i + 1) old new
read_step values signals reads i k s old mid new at is inside before step = subst (λ (x : PortsSeen). AreRead values signals reads (i + 1) old x) (sym step) (record {
  rest = ap (with_samples (slice_set mid.state.samples k (value_at values s).num)) before.rest;
  long = length-set mid.state.samples k (value_at values s).num ∙ before.long;
  read = λ j q t less there seen. elim (cases_eq q k) [
    | inl same ↦ ap (cell_at (slice_set mid.state.samples k (value_at values s).num)) same ∙ get_or-set_same mid.state.samples k (value_at values s).num (pos 0) inside
        ∙ ap (λ x. (value_at values x).num) (same_Some s t (sym is ∙ ap (slice_get signals) (sym same) ∙ seen))
    | inr apart ↦ get_or-set_other mid.state.samples k q (value_at values s).num (pos 0) apart
        ∙ before.read j q t (elim (cases_eq j i) [ inl last ↦ absurd (apart (same_Some q k (sym there ∙ ap (slice_get reads) last ∙ at))) | inr earlier ↦ omega (arith, less, earlier) ]) there seen
  ];
  kept = λ q out. get_or-set_other mid.state.samples k q (value_at values s).num (pos 0) (λ same. out i (at ∙ ap Some (sym same))) ∙ before.kept q out;
})

-- the sample of a port in the definition
before_at : (values : List Raw) (signals : List ℕ) (spans : List PortSpan) (n s : ℕ) (p : PortSpan) → slice_get signals n ≡ Some s → slice_get spans n ≡ Some p
    → cell_at (samples_before values signals spans) n ≡ sample_before values s p
unfolding samples_before
before_at values signals [] n s p is at = absurd cc
before_at values [] (q ∷ ps) n s p is at = absurd cc
before_at values (t ∷ ss) (q ∷ ps) zero s p is at = ap (λ x. sample_before values x q) (same_Some t s is) ∙ ap (sample_before values s) (same_Some q p at)
before_at values (t ∷ ss) (q ∷ ps) (suc n) s p is at = before_at values ss ps n s p is at

before_long : (values : List Raw) (signals : List ℕ) (spans : List PortSpan) → length signals ≡ length spans → length (samples_before values signals spans) ≡ length spans
unfolding samples_before
before_long values signals [] same = refl
before_long values [] (q ∷ ps) same = absurd (omega (arith, same))
before_long values (t ∷ ss) (q ∷ ps) same = ap suc (before_long values ss ps (omega (arith, same)))

pub has_at : {A : Type 0} (xs : List A) (n : ℕ) → n < length xs → (x : A) × (slice_get xs n ≡ Some x)
has_at [] n h = absurd (omega (arith, h))
has_at (x ∷ xs) zero h = (x, refl)
has_at (x ∷ xs) (suc n) h = has_at xs n (omega (arith, h))

-- the ports that processes read are listed, and no others
pub read_is : (first : ℕ) (spans : List PortSpan) (j n : ℕ) → slice_get (read_from first spans) j ≡ Some n → (k : ℕ) × (n ≡ first + k) × (p : PortSpan) × (slice_get spans k ≡ Some p) × (is_written p.word ≡ false)
unfolding read_from
read_is first [] j n at = absurd cc
read_is first (p ∷ ps) j n at = choose (λ i there. (let r = read_is (first + 1) ps i n there in let e : n ≡ first + 1 + r.0 = r.1 in (suc r.0, omega (arith, e), r.2, r.3, r.4))) (is_written p.word) refl j at
  where
    choose : ((i : ℕ) → slice_get (read_from (first + 1) ps) i ≡ Some n → (k : ℕ) × (n ≡ first + k) × (q : PortSpan) × (slice_get (p ∷ ps) k ≡ Some q) × (is_written q.word ≡ false))
        → (b : Bool) → is_written p.word ≡ b → (i : ℕ) → slice_get (if b then read_from (first + 1) ps else first ∷ read_from (first + 1) ps) i ≡ Some n
        → (k : ℕ) × (n ≡ first + k) × (q : PortSpan) × (slice_get (p ∷ ps) k ≡ Some q) × (is_written q.word ≡ false)
    choose later true is i there = later i there
    choose later false is zero there = (0, (let e = same_Some first n there in omega (arith, e)), p, refl, is)
    choose later false is (suc i) there = later i there

pub read_has : (first : ℕ) (spans : List PortSpan) (k : ℕ) (p : PortSpan) → slice_get spans k ≡ Some p → is_written p.word ≡ false → (j : ℕ) × (slice_get (read_from first spans) j ≡ Some (first + k))
unfolding read_from
read_has first [] k p at out = absurd cc
read_has first (q ∷ ps) zero p at out = (0, ap (λ b. slice_get (if b then read_from (first + 1) ps else first ∷ read_from (first + 1) ps) 0) (ap (λ (x : PortSpan). is_written x.word) (same_Some q p at) ∙ out) ∙ ap Some (omega arith))
read_has first (q ∷ ps) (suc k) p at out = let r = read_has (first + 1) ps k p at out in choose (is_written q.word) r.0 (r.1 ∙ ap Some (omega arith))
  where
    choose : (b : Bool) (j : ℕ) → slice_get (read_from (first + 1) ps) j ≡ Some (first + suc k) → (i : ℕ) × (slice_get (if b then read_from (first + 1) ps else first ∷ read_from (first + 1) ps) i ≡ Some (first + suc k))
    choose true j there = (j, there)
    choose false j there = (suc j, there)

pub reads_inside : (spans : List PortSpan) (reads : List ℕ) → reads ≡ read_from 0 spans → (j k : ℕ) → slice_get reads j ≡ Some k → k < length spans
reads_inside spans reads are j k at = let r = read_is 0 spans j k (ap (λ (xs : List ℕ). slice_get xs j) (sym are) ∙ at) in let e : k ≡ 0 + r.0 = r.1 in
    let less : r.0 < length spans = slice_get_within spans r.0 r.2 r.3 in omega (arith, e, less)

-- one port more that is looked at
read_push : (first : ℕ) (spans : List PortSpan) (p : PortSpan) → read_from first (spans ++ p ∷ []) ≡ read_from first spans ++ (if is_written p.word then [] else (first + length spans) ∷ [])
unfolding read_from
read_push first [] p = ap (λ n. if is_written p.word then [] else n ∷ []) (omega arith)
read_push first (x ∷ spans) p = let rest = read_push (first + 1) spans p ∙ ap (λ n. read_from (first + 1) spans ++ (if is_written p.word then [] else n ∷ [])) (omega arith) in
    choose (is_written x.word) (read_from (first + 1) (spans ++ p ∷ [])) (read_from (first + 1) spans) (if is_written p.word then [] else (first + suc (length spans)) ∷ []) rest
  where
    choose : (b : Bool) (xs ys zs : List ℕ) → xs ≡ ys ++ zs → (if b then xs else first ∷ xs) ≡ (if b then ys else first ∷ ys) ++ zs
    choose true xs ys zs h = h
    choose false xs ys zs h = ap (λ ws. first ∷ ws) h

pub read_none : (spans : List PortSpan) → read_from 0 (take 0 spans) ≡ []
unfolding read_from
read_none [] = refl
read_none (p ∷ ps) = refl

pub read_next : (spans : List PortSpan) (i : ℕ) (p : PortSpan) → slice_get spans i ≡ Some p → read_from 0 (take (i + 1) spans) ≡ read_from 0 (take i spans) ++ (if is_written p.word then [] else i ∷ [])
read_next spans i p at = ap (read_from 0) (take_more spans i p less ∙ ap (λ x. take i spans ++ x ∷ []) (get_or_from_slice_get spans i p p at)) ∙ read_push 0 (take i spans) p
    ∙ ap (λ k. read_from 0 (take i spans) ++ (if is_written p.word then [] else k ∷ [])) (at_zero (length (take i spans)) i (take_long spans i less))
  where
    less : i < length spans
    less = slice_get_within spans i p at

pub unread : (list : List ℕ) (number : ℕ) (word : PortKind) → is_written word ≡ true → list ≡ list ++ (if is_written word then [] else number ∷ [])
unread list number word on = sym (ap (λ (b : Bool). list ++ (if b then [] else number ∷ [])) on ∙ append-nil list)

pub is_read : (list : List ℕ) (number : ℕ) (word : PortKind) → is_written word ≡ false → list ++ number ∷ [] ≡ list ++ (if is_written word then [] else number ∷ [])
is_read list number word off = sym (ap (λ (b : Bool). list ++ (if b then [] else number ∷ [])) off)

pub ruleset read_adds = (unread, is_read)

-- a port that processes write holds 0 after a reset
zero_at : (spans : List PortSpan) (nums : List ℤ) (n : ℕ) (p : PortSpan) → ((k : ℕ) (q : PortSpan) → slice_get spans k ≡ Some q → q.count ≡ 1) → length nums ≡ length spans
    → slice_get spans n ≡ Some p → is_written p.word ≡ true → cell_at (reset_samples spans nums) n ≡ pos 0
zero_at [] nums n p one long at on = absurd cc
zero_at (q ∷ ps) [] n p one long at on = absurd (omega (arith, long))
zero_at (q ∷ ps) (x ∷ nums) zero p one long at on =
    ap (λ (b : Bool). cell_at ((if b then replicate q.count (pos 0) else take q.count (x ∷ nums)) ++ reset_samples ps (drop q.count (x ∷ nums))) 0) (ap (λ (y : PortSpan). is_written y.word) (same_Some q p at) ∙ on)
    ∙ ap (λ c. cell_at (replicate c (pos 0) ++ reset_samples ps (drop c (x ∷ nums))) 0) (one 0 q refl)
zero_at (q ∷ ps) (x ∷ nums) (suc n) p one long at on =
    ap (λ c. cell_at ((if is_written q.word then replicate c (pos 0) else take c (x ∷ nums)) ++ reset_samples ps (drop c (x ∷ nums))) (suc n)) (one 0 q refl)
    ∙ choose (is_written q.word) ∙ zero_at ps nums n p (λ k r there. one (suc k) r there) (omega (arith, long)) at on
  where
    choose : (b : Bool) → cell_at ((if b then replicate 1 (pos 0) else take 1 (x ∷ nums)) ++ reset_samples ps nums) (suc n) ≡ cell_at (reset_samples ps nums) n
    choose true = refl
    choose false = refl

-- all ports
all_read : (values : List Raw) (signals reads : List ℕ) (nums : List ℤ) (old new : PortsSeen) → CanRead values old.spans signals → reads ≡ read_from 0 old.spans → length nums ≡ length old.spans
    → length old.state.samples ≡ length old.spans → old.state.samples ≡ reset_samples old.spans nums → AreRead values signals reads (length reads) old new → new.state.samples ≡ samples_before values signals old.spans
all_read values signals reads nums old new can are many long reset done = ext_get_or (pos 0) new.state.samples (samples_before values signals old.spans) (done.long ∙ long ∙ sym (before_long values signals old.spans can.long))
    (λ n less. (let inside : n < length old.spans = omega (arith, less, done.long, long) in let p = has_at old.spans n inside in let s = has_at signals n (omega (arith, inside, can.long)) in
    held n s.0 p.0 s.1 p.1 (is_written p.0.word) refl ∙ sym (before_at values signals old.spans n s.0 p.0 s.1 p.1)))
  where
    held : (n s : ℕ) (p : PortSpan) → slice_get signals n ≡ Some s → slice_get old.spans n ≡ Some p → (b : Bool) → is_written p.word ≡ b → cell_at new.state.samples n ≡ sample_before values s p
    held n s p is at true on = done.kept n (λ j there. (let r = read_is 0 old.spans j n (ap (λ (xs : List ℕ). slice_get xs j) (sym are) ∙ there) in let e : n ≡ 0 + r.0 = r.1 in
        let same : p ≡ r.2 = same_Some p r.2 (sym at ∙ ap (slice_get old.spans) (omega (arith, e)) ∙ r.3) in true≢false (sym on ∙ ap (λ (x : PortSpan). is_written x.word) same ∙ r.4)))
        ∙ ap (λ (xs : List ℤ). cell_at xs n) reset ∙ zero_at old.spans nums n p can.one many at on
        ∙ sym (ap (λ (b : Bool). if b then pos 0 else (value_at values s).num) on)
    held n s p is at false off = (let r = read_has 0 old.spans n p at off in let here : slice_get reads r.0 ≡ Some n = ap (λ (xs : List ℕ). slice_get xs r.0) are ∙ r.1 ∙ ap Some (at_zero n n refl) in
        done.read r.0 n s (slice_get_within reads r.0 n here) here is ∙ sym (ap (λ (b : Bool). if b then pos 0 else (value_at values s).num) off))

pub read_more : (values : List Raw) (signals reads : List ℕ) (i k : ℕ) (old mid new : PortsSeen) → CanRead values old.spans signals → length old.state.samples ≡ length old.spans → AreRead values signals reads i old mid
    → slice_get reads i ≡ Some k → k < length old.spans → ((p : PortSpan) → slice_get mid.spans k ≡ Some p → new ≡ with_samples (slice_set mid.state.samples (p.first + 0) (value_at values (slice_index signals k)).num) mid)
    → AreRead values signals reads (i + 1) old new
read_more values signals reads i k old mid new can many before listed inside step = let p = has_at old.spans k inside in
    let spans : mid.spans ≡ old.spans = ap (λ (x : PortsSeen). x.spans) before.rest in
    read_step values signals reads i k (slice_index signals k) old mid new listed (slice_get-get_or signals k 0 (omega (arith, inside, can.long))) (omega (arith, inside, before.long, many)) before
    (step p.0 (ap (λ (x : List PortSpan). slice_get x k) spans ∙ p.1)
    ∙ ap (λ (n : ℕ). with_samples (slice_set mid.state.samples n (value_at values (slice_index signals k)).num) mid) (let first : p.0.first ≡ k = can.first k p.0 p.1 in omega (arith, first)))

pub reset_long : (old mid : PortsSeen) → mid ≡ record old { state = reset_state old.spans old.state } → ArePortsFit mid → ((n : ℕ) (p : PortSpan) → slice_get old.spans n ≡ Some p → p.count ≡ 1)
    → length mid.state.samples ≡ length mid.spans
reset_long old mid reset fit one = samples_long mid fit (λ n p at. one n p (ap (λ (x : List PortSpan). slice_get x n) (sym (ap (λ (x : PortsSeen). x.spans) reset)) ∙ at))

abbrev fin : ℕ → List ℤ → ℕ → ℕ → PortsState
fin events samples ports steps = record { samples = samples; assigned = replicate ports false; notified = replicate events None; steps = replicate steps None; accepts = None; out_of_range = false }

pub prepared : (values : List Raw) (signals reads : List ℕ) (old mid new : PortsSeen) → CanRead values old.spans signals → reads ≡ read_from 0 old.spans → ArePortsFit old → mid ≡ record old { state = reset_state old.spans old.state }
    → ArePortsFit mid → AreRead values signals reads (length reads) mid new → new.state ≡ process_ports_before values signals old.spans (length old.state.notified)
prepared values signals reads old mid new can are was reset fit done =
    let spans : mid.spans ≡ old.spans = ap (λ (x : PortsSeen). x.spans) reset in
    let zeros : mid.state.samples ≡ reset_samples mid.spans old.state.samples = ap (λ (x : PortsSeen). x.state.samples) reset ∙ ap (λ (x : List PortSpan). reset_samples x old.state.samples) (sym spans) in
    let samples : new.state.samples ≡ samples_before values signals old.spans =
    all_read values signals reads old.state.samples mid new (subst (λ (x : List PortSpan). CanRead values x signals) (sym spans) can) (are ∙ ap (read_from 0) (sym spans))
    (samples_long old was can.one ∙ ap length (sym spans)) (reset_long old mid reset fit can.one) zeros done ∙ ap (samples_before values signals) spans in
    ap (λ (x : PortsSeen). x.state) done.rest ∙ ap (λ (x : PortsSeen). record x.state { samples = new.state.samples }) reset
    ∙ ap (λ x. fin (length old.state.notified) x (length old.state.assigned) (length old.state.steps)) samples
    ∙ ap (λ n. fin (length old.state.notified) (samples_before values signals old.spans) n (length old.state.steps)) was.assigned
    ∙ ap (λ n. fin (length old.state.notified) (samples_before values signals old.spans) (length old.spans) n) was.steps
