-- What calls leave of the bytes that a source has left and a sink has taken, where it tells them. (own)
use Rattle.std.specs.Prelude.{◌≡◌, ◌≤◌, ℕ, List, [], ◌++◌, length, Option, Result, Ok, ⊤, OnOk, OnErr, zero, suc}
use Rattle.std.specs.Io.KnownBytes.{Appends, Consumes}
use Rattle.tdf_io.specs.declared.writing.SinkErr.{SinkErr}
use Rattle.tdf_io.specs.Faults.{CountsSinkFaults}

-- a sink took the front part of a text, and nothing else
pub record AppendsFront (old new : Option (List ℕ)) (text : List ℕ) : Type 0 where
  pub front : List ℕ
  pub rest : List ℕ
  pub whole : text ≡ front ++ rest
  pub gained : Appends old new front

-- a source gave just this many bytes
pub record GivesExactly (old new : Option (List ℕ)) (count : ℕ) : Type 0 where
  pub bytes : List ℕ
  pub gave : Consumes old new bytes
  pub many : length bytes ≡ count

-- a source gave no more than this many bytes
pub record GivesAtMost (old new : Option (List ℕ)) (most : ℕ) : Type 0 where
  pub bytes : List ℕ
  pub gave : Consumes old new bytes
  pub few : length bytes ≤ most

-- the first n of a sequence of pieces, one after the other
unfoldable pub pieces_text : (ℕ → List ℕ) → ℕ → List ℕ
pieces_text piece zero = []
pieces_text piece (suc n) = pieces_text piece n ++ piece n

-- what a writer of a text does to a sink: at Ok the sink took the text, at an Err a front part of
-- it; `Failed` raised the sink's count of faults, and every other answer left it as it was
pub record WritesText {S T : Type 0} (taken : S → Option (List ℕ)) (faults : S → ℕ)
    (old new : S) (text : List ℕ) (result : Result T SinkErr) : Type 0 where
  pub all : OnOk result (Appends (taken old) (taken new) text)
  pub part : OnErr result (AppendsFront (taken old) (taken new) text)
  pub counted : CountsSinkFaults (faults old) (faults new) result

-- a sink took all of a text so far
abbrev pub HasWritten : {S : Type 0} → (S → Option (List ℕ)) → (S → ℕ) → S → S → List ℕ
    → Type 0
HasWritten taken faults old new text = WritesText {T = ⊤} taken faults old new text (Ok tt)
