-- Where the text of the model begins, line by line.
use Rattle.std.proofs.Common.{◌≡◌, ℕ, suc, ◌+◌, ◌-◌, ◌<◌, ◌≤◌, nat_eq, List, length, drop, refl, arith, None, codes}
use Rattle.std.proofs.lemmas.List.{take_rest}
use Rattle.std.specs.List.{position, starts_with}
use Rattle.tdf_save.specs.Start.{ends_a_line}
use Rattle.tdf_save.specs.machine.Start.{start_by_line, text_start_in, text_start_of}

pub start_whole : (text : List ℕ) → text_start_of text ≡ text_start_in (length text) 0 text
unfolding text_start_of
start_whole text = refl

pub start_step : (n k place : ℕ) (text : List ℕ) → k < n → text_start_in (n - k) place text
    ≡ start_by_line place (starts_with nat_eq text (codes "text ")) (λ size. text_start_in (n - (k + 1)) (place + size) (drop size text)) (position ends_a_line text)
unfolding text_start_in
start_step n k place text h = let f : n - k ≡ suc (n - (k + 1)) = omega arith in rw f refl

pub start_end : (n k place : ℕ) (text : List ℕ) → n ≤ k → text_start_in (n - k) place text ≡ None
unfolding text_start_in
start_end n k place text h = let f : n - k ≡ 0 = omega arith in rw f refl

pub ruleset start_laws = (start_whole, start_step, start_end, take_rest)
