-- The bytes of a window of a buffer: parts of it, and what a write after its end adds.
use Rattle.std.proofs.Common.{◌≡◌, ℕ, ◌+◌, ◌-◌, ◌≤◌, List, ◌++◌, length, take, drop, slice_range, refl, sym, ap, ◌∙◌, arith}
use Rattle.std.proofs.lemmas.List.{take_at, drop_at, take-append-le, drop-append-le, drop-take, drop-drop, take-take, length-take-le, length-drop}
use Rattle.std.proofs.Math.Seq.{take-add}
use borrow.Rule.Slice.PartMut.{put_mid, post_of}

pub grown : (xs ys : List ℕ) (start end k n : ℕ) → start ≤ end → end ≤ length xs → n ≤ length ys
    → slice_range (put_mid end k xs ys) start (end + n) ≡ slice_range xs start end ++ take n ys
grown xs ys start end k n ordered within fits =
    let front = length-take-le end xs within in
    let held = drop start (take end xs) in
    let len : length held ≡ end - start = omega (arith, length-drop start (take end xs)) in
    let sum : end + n - start ≡ (end - start) + n = omega arith in
    let parts : end ≡ start + (end - start) = omega arith in
    let same : held ≡ take (end - start) (drop start xs) =
    ap (λ j. drop start (take j xs)) parts ∙ drop-take start (end - start) xs in
    let after = ys ++ post_of end k xs in
    ap (take (end + n - start)) (drop-append-le start (take end xs) after (omega arith))
    ∙ ap (λ j. take j (held ++ after)) sum ∙ take-add (end - start) n (held ++ after)
    ∙ (rw (take_at held after _ len, drop_at held after _ len, take-append-le n ys (post_of end k xs) fits, same) refl)

pub range_more : (xs : List ℕ) (a b n : ℕ) → a ≤ b → slice_range xs a (b + n) ≡ slice_range xs a b ++ take n (drop b xs)
range_more xs a b n ordered =
    let sum : b + n - a ≡ (b - a) + n = omega arith in
    let whole : a + (b - a) ≡ b = omega arith in
    ap (λ j. take j (drop a xs)) sum ∙ take-add (b - a) n (drop a xs)
    ∙ ap (λ t. slice_range xs a b ++ take n t) (drop-drop (b - a) a xs ∙ ap (λ j. drop j xs) whole)

pub range_split : (xs : List ℕ) (a b c : ℕ) → a ≤ b → b ≤ c → slice_range xs a c ≡ slice_range xs a b ++ slice_range xs b c
range_split xs a b c first second =
    let whole : c ≡ b + (c - b) = omega arith in
    ap (slice_range xs a) whole ∙ range_more xs a b (c - b) first

range_front : (xs : List ℕ) (a b : ℕ) → a ≤ b → slice_range xs a b ≡ drop a (take b xs)
range_front xs a b ordered =
    let whole : a + (b - a) ≡ b = omega arith in
    sym (drop-take a (b - a) xs) ∙ ap (λ j. drop a (take j xs)) whole

pub range_within : (xs : List ℕ) (a b c : ℕ) → a ≤ b → b ≤ c → slice_range (take c xs) a b ≡ slice_range xs a b
range_within xs a b c first second =
    range_front (take c xs) a b first ∙ ap (drop a) (take-take b c xs second)
    ∙ sym (range_front xs a b first)
