-- What callers see of sources and sinks in memory and before std's streams. (own)
use Rattle.std.specs.Prelude.{◌≡◌, ℕ, List, ◌++◌, Option}
use Rattle.std.specs.Io.KnownBytes.{Appends}

-- a source in memory that fails at chosen calls: the bytes that are left, the number of the next
-- call, the numbers of the calls that fail, the most bytes of one call, and its count of faults
pub record SourceSeen : Type 0 where
  pub left : List ℕ
  pub calls : ℕ
  pub fails : List ℕ
  pub most : ℕ
  pub faults : ℕ

-- a sink in memory: the bytes that it took, and the rest as for a source
pub record SinkSeen : Type 0 where
  pub taken : List ℕ
  pub calls : ℕ
  pub fails : List ℕ
  pub most : ℕ
  pub faults : ℕ

-- a source before a reader of std: the bytes that the reader has left, where it tells them, and
-- the count of faults
pub record ReaderSeen : Type 0 where
  pub left : Option (List ℕ)
  pub faults : ℕ

-- a sink before a writer of std: the bytes that the writer holds, where it tells them, the bytes
-- that are on their way to it, and the count of faults
pub record WriterSeen : Type 0 where
  pub held : Option (List ℕ)
  pub waiting : List ℕ
  pub faults : ℕ

-- a writer took the front of these bytes, and the rest is still on its way
pub record HandsOver (old new : Option (List ℕ)) (bytes rest : List ℕ) : Type 0 where
  pub front : List ℕ
  pub order : bytes ≡ front ++ rest
  pub wrote : Appends old new front

-- what was on its way and then the new bytes are, in this order, what the writer took and what is
-- on its way now
abbrev pub PassesOn : WriterSeen → WriterSeen → List ℕ → Type 0
PassesOn old new bytes = HandsOver old.held new.held (old.waiting ++ bytes) new.waiting
