-- What clap's answers say of the command.
use Rattle.std.proofs.lemmas.Bool.{ne_eqb}
use Rattle.std.proofs.Common.{arith, length, refl, Option, codes, true, false, List, [], ◌∷◌, ◌≡◌, ◌≢◌, ◌⊎◌, inl, inr, subst, ap}
use Rattle.clap.specs.Faults.{fault_of, is_simple_and_free}
use Rattle.clap.specs.Kinds.{IsAmong, Kinds}
use Rattle.clap.specs.Matches.{found_of}
use Rattle.clap.specs.Simple.{App, HasMatchesOf, is_simple, matches_of}
use Rattle.clap.specs.Walk.{Text, first_of, is_empty, rows_of}
use Rattle.clap.specs.declared.error.kind.ErrorKind.{ErrorKind}
use Rattle.clap.specs.declared.error.kind.ErrorKind.TheVariants.{OutOfMemory}
use Rattle.clap.specs.declared.parser.matches.ArgMatches.{ArgMatches}
use Rattle.clap.proofs.OnLiterals.{clap_on_literals}
use Rattle.tdf_cli_words.specs.Command.{Given, are_matched, command, given_of, text_of}

is_plain : is_simple command ≡ true
unfolding command clap_on_literals
is_plain = refl

is_free : is_simple_and_free command ≡ true
unfolding command clap_on_literals
is_free = refl

without_fault : (words : List Text) → fault_of command words ≡ [] → are_matched words ≡ true
unfolding are_matched
without_fault words none = ap is_empty none

nonempty : (k : ErrorKind) (kinds : Kinds) → (k ≡ OutOfMemory) ⊎ IsAmong k kinds → k ≢ OutOfMemory → is_empty kinds ≡ false
nonempty k [] (inl memory) other = absurd (other memory)
nonempty k [] (inr among) other = absurd among
nonempty k (x ∷ xs) either other = ne_eqb (length (x ∷ xs)) 0 (λ e. omega (arith, e))

with_fault : (words : List Text) → is_empty (fault_of command words) ≡ false → are_matched words ≡ false
unfolding are_matched
with_fault words some = some

-- an Ok
pub matched : (a : App) (words : List Text) → a ≡ command → (is_simple_and_free a ≡ true → fault_of a words ≡ []) → are_matched words ≡ true
matched a words same none =
    without_fault words (subst (λ b. is_simple_and_free b ≡ true → fault_of b words ≡ []) same none is_free)

-- its rows
pub rows_are : (a : App) (words : List Text) (m : ArgMatches) → a ≡ command → HasMatchesOf a words m
    → rows_of (found_of m) ≡ matches_of command words
rows_are a words m same given = (subst (λ b. HasMatchesOf b words m) same given is_plain).0

-- an Err, but for want of memory
pub refused : (a : App) (words : List Text) (k : ErrorKind) → a ≡ command
    → (is_simple_and_free a ≡ true → (k ≡ OutOfMemory) ⊎ IsAmong k (fault_of a words)) → k ≢ OutOfMemory → are_matched words ≡ false
refused a words k same either other = with_fault words (nonempty k (fault_of command words)
    (subst (λ b. is_simple_and_free b ≡ true → (k ≡ OutOfMemory) ⊎ IsAmong k (fault_of b words)) same either is_free) other)

-- the texts of the arguments, one by one
pub given_all : (words : List Text) (job stop format turns part seed size every nth : Option Text)
    → job ≡ first_of (codes "JOB") (matches_of command words)
    → stop ≡ first_of (codes "stop") (matches_of command words)
    → format ≡ first_of (codes "format") (matches_of command words)
    → turns ≡ first_of (codes "turns") (matches_of command words)
    → part ≡ first_of (codes "part") (matches_of command words)
    → seed ≡ first_of (codes "seed") (matches_of command words)
    → size ≡ first_of (codes "size") (matches_of command words)
    → every ≡ first_of (codes "every") (matches_of command words)
    → nth ≡ first_of (codes "nth") (matches_of command words)
    → ◌≡◌ {A = Given} (record { job = job; stop = stop; format = format; turns = turns; part = part; seed = seed; size = size; every = every; nth = nth }) (given_of words)
unfolding text_of
given_all words job stop format turns part seed size every nth a b c d e f g h i = rw (a, b, c, d, e, f, g, h, i) refl
