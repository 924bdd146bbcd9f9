-- What a source has given.
use Rattle.std.proofs.Common.{◌≡◌, ℕ, ◌+◌, ◌≤◌, List, ◌++◌, Option, ap, sym, ◌∙◌, length, length-append, take, drop, take-append-drop, arith}
use Rattle.std.proofs.lemmas.List.{drop-drop}
use Rattle.std.proofs.KnownBytes.{Consumes-trans}
use Rattle.std.specs.Io.KnownBytes.{Consumes}
use Rattle.tdf_io.specs.Bytes.{GivesExactly, GivesAtMost}

pub gives_within : (a b : Option (List ℕ)) (xs : List ℕ) (most : ℕ) → Consumes a b xs → length xs ≤ most → GivesAtMost a b most
gives_within a b xs most gave few = record { bytes = xs; gave = gave; few = few }

pub gives_then : (a b c : Option (List ℕ)) (xs ys : List ℕ) (most : ℕ) → Consumes a b xs → Consumes b c ys
    → length xs + length ys ≤ most → GivesAtMost a c most
gives_then a b c xs ys most first second few =
    gives_within a c (xs ++ ys) most (Consumes-trans a b c xs ys first second) (omega (arith, length-append xs ys))

pub gives_just : (a b c : Option (List ℕ)) (xs ys : List ℕ) (many : ℕ) → Consumes a b xs → Consumes b c ys
    → length xs + length ys ≡ many → GivesExactly a c many
gives_just a b c xs ys many first second all = record {
  bytes = xs ++ ys;
  gave = Consumes-trans a b c xs ys first second;
  many = length-append xs ys ∙ all;
}

-- the bytes that a source in memory has left, before and after n of them
pub left_moved : (bytes : List ℕ) (at n : ℕ) → take n (drop at bytes) ++ drop (at + n) bytes ≡ drop at bytes
left_moved bytes at n = ap (λ t. take n (drop at bytes) ++ t) (sym (drop-drop n at bytes)) ∙ take-append-drop n (drop at bytes)

pub ruleset moves = (left_moved)
