-- Writing a text piece by piece: at each moment the sink took a front part of it.
use Rattle.std.proofs.Common.{Result, Ok, Err, IfErr, IsErrOf, ◌≡◌, ℕ, ◌+◌, ◌-◌, ◌<◌, List, [], ◌++◌, Option, refl, sym, ap, ◌∙◌, subst, append_assoc, append-nil, add-one, zero, suc, arith}
use Rattle.std.proofs.KnownBytes.{Appends-nil, Appends-trans}
use Rattle.std.specs.Io.KnownBytes.{Appends}
use Rattle.tdf_io.specs.Bytes.{AppendsFront, WritesText, pieces_text}
use Rattle.tdf_io.specs.declared.writing.SinkErr.{SinkErr}
use Rattle.tdf_io.specs.Faults.{FaultsRose, CountsSinkFaults}
use Rattle.tdf_io.specs.declared.writing.SinkErr.TheVariants.{Failed}

pub front_then : (a b c : Option (List ℕ)) (xs ys : List ℕ) → Appends a b xs → AppendsFront b c ys → AppendsFront a c (xs ++ ys)
front_then a b c xs ys done part = record {
  front = xs ++ part.front;
  rest = part.rest;
  whole = ap (λ t. xs ++ t) part.whole ∙ sym (append_assoc xs part.front part.rest);
  gained = Appends-trans a b c xs part.front done part.gained;
}

pub front_more : (a b : Option (List ℕ)) (xs ys : List ℕ) → AppendsFront a b xs → AppendsFront a b (xs ++ ys)
front_more a b xs ys part = record {
  front = part.front;
  rest = part.rest ++ ys;
  whole = ap (λ t. t ++ ys) part.whole ∙ append_assoc part.front part.rest ys;
  gained = part.gained;
}

pub front_whole : (a b : Option (List ℕ)) (xs : List ℕ) → Appends a b xs → AppendsFront a b xs
front_whole a b xs done = record { front = xs; rest = []; whole = sym (append-nil xs); gained = done }

pub front_none : (a : Option (List ℕ)) (xs : List ℕ) → AppendsFront a a xs
front_none a xs = record { front = []; rest = xs; whole = refl; gained = Appends-nil a }

pub pieces_none : (piece : ℕ → List ℕ) → pieces_text piece 0 ≡ []
unfolding pieces_text
pieces_none piece = refl

pub pieces_more : (piece : ℕ → List ℕ) (n : ℕ) → pieces_text piece (n + 1) ≡ pieces_text piece n ++ piece n
unfolding pieces_text
pieces_more piece n = rw add-one refl

pub pieces_rest : (piece : ℕ → List ℕ) (j more : ℕ) → (rest : List ℕ) × (pieces_text piece (j + more) ≡ pieces_text piece j ++ rest)
pieces_rest piece j zero =
    let none : j + 0 ≡ j = omega arith in
    ([], ap (pieces_text piece) none ∙ sym (append-nil (pieces_text piece j)))
pieces_rest piece j (suc more) =
    let before = pieces_rest piece j more in
    let next : j + suc more ≡ (j + more) + 1 = omega arith in (
      before.0 ++ piece (j + more),
      ap (pieces_text piece) next ∙ pieces_more piece (j + more) ∙ ap (λ t. t ++ piece (j + more)) before.1
          ∙ append_assoc (pieces_text piece j) before.0 (piece (j + more)),
    )

-- after the first j pieces, a part of the next one is a front part of all n
pub front_piece : (a b c : Option (List ℕ)) (piece : ℕ → List ℕ) (j n : ℕ) → j < n
    → Appends a b (pieces_text piece j) → AppendsFront b c (piece j) → AppendsFront a c (pieces_text piece n)
front_piece a b c piece j n within whole part =
    let rest = pieces_rest piece (j + 1) (n - (j + 1)) in
    let all : (j + 1) + (n - (j + 1)) ≡ n = omega arith in
    let is : pieces_text piece n ≡ (pieces_text piece j ++ piece j) ++ rest.0 =
    ap (pieces_text piece) (sym all) ∙ rest.1 ∙ ap (λ t. t ++ rest.0) (pieces_more piece j) in
    subst (λ (t : List ℕ). AppendsFront a c t) (sym is)
    (front_more a c (pieces_text piece j ++ piece j) rest.0 (front_then a b c (pieces_text piece j) (piece j) whole part))

-- a clause on `Failed`, from what is counted
pub failed_rose : {T : Type 0} (before now : ℕ) (result : Result T SinkErr) → CountsSinkFaults before now result
    → IsErrOf result Failed → FaultsRose before now
failed_rose before now result counted failed =
    (subst (λ r. IfErr r (λ error. error ≡ Failed → FaultsRose before now)) failed counted.rose) refl

-- a call after one that was Ok
pub counts_then : {T U : Type 0} (a b c : ℕ) (value : U) (result : Result T SinkErr)
    → CountsSinkFaults a b (Ok value) → CountsSinkFaults b c result → CountsSinkFaults a c result
counts_then a b c value (Ok v) first then = record {
  later = omega (arith, first.later, then.later);
  kept = then.kept ∙ first.kept;
  rose = tt;
}
counts_then a b c value (Err error) first then = record {
  later = omega (arith, first.later, then.later);
  kept = λ other. then.kept other ∙ first.kept;
  rose = λ failed. subst (λ n. FaultsRose n c) first.kept (then.rose failed);
}

-- nothing is written yet
pub writes_none : {S T : Type 0} (taken : S → Option (List ℕ)) (faults : S → ℕ) (a : S) (value : T) → WritesText taken faults a a [] (Ok value)
writes_none taken faults a value = record {
  all = Appends-nil (taken a);
  part = tt;
  counted = record { later = omega arith; kept = refl; rose = tt };
}

-- a writer after one that wrote all: both texts
pub writes_then : {S T U : Type 0} (taken : S → Option (List ℕ)) (faults : S → ℕ) (a b c : S) (xs ys : List ℕ) (value : U) (result : Result T SinkErr)
    → WritesText taken faults a b xs (Ok value) → WritesText taken faults b c ys result → WritesText taken faults a c (xs ++ ys) result
writes_then taken faults a b c xs ys value (Ok v) first then = record {
  all = Appends-trans (taken a) (taken b) (taken c) xs ys first.all then.all;
  part = tt;
  counted = counts_then (faults a) (faults b) (faults c) value (Ok v) first.counted then.counted;
}
writes_then taken faults a b c xs ys value (Err error) first then = record {
  all = tt;
  part = front_then (taken a) (taken b) (taken c) xs ys first.all then.part;
  counted = counts_then (faults a) (faults b) (faults c) value (Err error) first.counted then.counted;
}

-- a writer that was refused: a front part of every longer text
pub writes_less : {S T U : Type 0} (taken : S → Option (List ℕ)) (faults : S → ℕ) (a b : S) (xs ys : List ℕ) (error : SinkErr)
    → WritesText {T = T} taken faults a b xs (Err error) → WritesText {T = U} taken faults a b (xs ++ ys) (Err error)
writes_less taken faults a b xs ys error less = record {
  all = tt;
  part = front_more (taken a) (taken b) xs ys less.part;
  counted = record { later = less.counted.later; kept = less.counted.kept; rose = less.counted.rose };
}

-- after the first j pieces, a writer that was refused in the next one
pub writes_piece : {S T U V : Type 0} (taken : S → Option (List ℕ)) (faults : S → ℕ) (a b c : S) (piece : ℕ → List ℕ) (j n : ℕ) (value : V) (error : SinkErr)
    → j < n → WritesText taken faults a b (pieces_text piece j) (Ok value) → WritesText {T = T} taken faults b c (piece j) (Err error)
    → WritesText {T = U} taken faults a c (pieces_text piece n) (Err error)
writes_piece taken faults a b c piece j n value error within whole less =
    let then = counts_then (faults a) (faults b) (faults c) value (Err error) whole.counted less.counted in record {
      all = tt;
      part = front_piece (taken a) (taken b) (taken c) piece j n within whole.all less.part;
      counted = record { later = then.later; kept = then.kept; rose = then.rose };
    }

-- a writer that has written all may answer with any value
pub writes_as : {S T U : Type 0} (taken : S → Option (List ℕ)) (faults : S → ℕ) (a b : S) (xs : List ℕ) (value : T) (other : U)
    → WritesText taken faults a b xs (Ok value) → WritesText taken faults a b xs (Ok other)
writes_as taken faults a b xs value other done = record {
  all = done.all;
  part = tt;
  counted = record { later = done.counted.later; kept = done.counted.kept; rose = tt };
}
