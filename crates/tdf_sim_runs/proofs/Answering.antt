-- What an answer tells, used for what it is to tell.
use Rattle.std.proofs.Common.{◌≡◌, ℕ, List, Option, Result, Ok, Err, IfOk, OnErr, OnOk, ap}
use Rattle.tdf_io.specs.Bytes.{WritesText}
use Rattle.tdf_io.specs.Faults.{CountsSinkFaults}
use Rattle.tdf_io.specs.declared.writing.SinkErr.{SinkErr}

pub on_ok : {T E : Type 0} {P Q R : Type 0} (r : Result T E) → OnOk r P → OnOk r Q → (P → Q → R) → OnOk r R
on_ok (Ok value) p q then = then p q
on_ok (Err error) p q then = tt

pub on_err : {T E : Type 0} {P Q : Type 0} (r : Result T E) → OnErr r P → (P → Q) → OnErr r Q
on_err (Ok value) p then = tt
on_err (Err error) p then = then p

pub always_err : {T E : Type 0} {P : Type 0} (r : Result T E) → P → OnErr r P
always_err (Ok value) p = tt
always_err (Err error) p = p

pub if_ok : {T E : Type 0} {P Q : T → Type 0} (r : Result T E) → IfOk r P → ((value : T) → P value → Q value) → IfOk r Q
if_ok (Ok value) p then = then value p
if_ok (Err error) p then = tt

pub if_both : {T E : Type 0} {P Q R : T → Type 0} (r : Result T E) → IfOk r P → IfOk r Q → ((value : T) → P value → Q value → R value) → IfOk r R
if_both (Ok value) p q then = then value p q
if_both (Err error) p q then = tt

pub then_ok : {T E : Type 0} {P Q : Type 0} (r : Result T E) → OnOk r P → (P → Q) → OnOk r Q
then_ok (Ok value) p then = then p
then_ok (Err error) p then = tt

-- a refusal is one of every kind of answer
pub writes_err : {S T U : Type 0} (taken : S → Option (List ℕ)) (faults : S → ℕ) (a b : S) (xs : List ℕ) (error : SinkErr) → WritesText {T = T} taken faults a b xs (Err error) → WritesText {T = U} taken faults a b xs (Err error)
writes_err taken faults a b xs error wrote = record { all = tt; part = wrote.part; counted = record { later = wrote.counted.later; kept = wrote.counted.kept; rose = wrote.counted.rose } }

pub counts_err : {T U : Type 0} (a b : ℕ) (error : SinkErr) → CountsSinkFaults {T = T} a b (Err error) → CountsSinkFaults {T = U} a b (Err error)
counts_err a b error counted = record { later = counted.later; kept = counted.kept; rose = counted.rose }

pub if_four : {T E : Type 0} {P Q R S U : T → Type 0} (r : Result T E) → IfOk r P → IfOk r Q → IfOk r R → IfOk r S → ((value : T) → P value → Q value → R value → S value → U value) → IfOk r U
if_four (Ok x) p q r s then = then x p q r s
if_four (Err e) p q r s then = tt

-- two answers that are the same
module _ {T E : Type 0} where
  got : T → Result T E → T
  got z (Ok x) = x
  got z (Err e) = z

  abbrev good : T → Result T E
  good x = Ok x

  pub same_ok : (a b : T) → good a ≡ good b → a ≡ b
  unfolding got
  same_ok a b same = ap (got a) same

pub always_ok : {T E : Type 0} {P : Type 0} (r : Result T E) → P → OnOk r P
always_ok (Ok value) p = p
always_ok (Err error) p = tt

pub if_three : {T E : Type 0} {P Q R U : T → Type 0} (r : Result T E) → IfOk r P → IfOk r Q → IfOk r R → ((value : T) → P value → Q value → R value → U value) → IfOk r U
if_three (Ok x) p q r then = then x p q r
if_three (Err e) p q r then = tt
