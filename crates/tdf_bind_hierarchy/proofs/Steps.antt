-- The code's steps.
use Rattle.std.proofs.Common.{◌≡◌, ◌∙◌, ℕ, false, ◌+◌, ◌<◌, ◌≤◌, zero, suc, List, [], ◌∷◌, ◌++◌, Option, Some, length, take, drop, refl, sym, ap, subst, arith}
use Rattle.std.proofs.Math.ListN.{get_or}
use Rattle.std.proofs.lemmas.List.{map_more, take_more, drop_more, drop_all}
use Rattle.std.proofs.lemmas.Option.{slice_get-get_or, slice_get_past}
use Rattle.std.specs.Prelude.{map, slice_get, ◌-◌}
use Rattle.tdf_bind_hierarchy.specs.Blocks.{InstanceOf, BlockOf}
use Rattle.tdf_bind_hierarchy.specs.Met.{placed_signal}
use Rattle.tdf_bind_hierarchy.specs.Tables.{TablesOf}
use Rattle.tdf_bind_hierarchy.specs.machine.Walk.{next_number, put_signal, put_signals, numbered_in, number_at, number_of, row_of, walked, walked_in, walked_row, walked_all, IsPut}
use Rattle.tdf_bind_hierarchy.specs.declared.blocks.SignalLine.{SignalLine}
use Rattle.tdf_bind_hierarchy.specs.declared.blocks.Target.{Target}
use Rattle.tdf_bind_hierarchy.specs.declared.tables.Signal.{Signal}
use Rattle.tdf_bind_hierarchy.specs.declared.tables.SignalNumber.{SignalNumber}

pub number_here : (numbers : List SignalNumber) (place : ℕ) (d : SignalNumber) → place < length numbers → number_at numbers place ≡ get_or numbers place d
number_here [] place d within = absurd (omega (arith, within))
number_here (n ∷ numbers) zero d within = refl
number_here (n ∷ numbers) (suc place) d within = number_here numbers place d (omega (arith, within))

pub number_past : (numbers : List SignalNumber) (place : ℕ) → length numbers ≤ place → number_at numbers place ≡ record { event = false; number = 0 }
number_past [] place past = refl
number_past (n ∷ numbers) zero past = absurd (omega (arith, past))
number_past (n ∷ numbers) (suc place) past = number_past numbers place (omega (arith, past))

pub ruleset place_laws = (number_here, number_past)

pub numbers_more : (own outer : List SignalNumber) (list : List Target) (i : ℕ) (d : Target) → i < length list → map (number_of own outer) (take (i + 1) list) ≡ map (number_of own outer) (take i list) ++ number_of own outer (get_or list i d) ∷ []
numbers_more own outer list i d within = map_more (number_of own outer) list i d within

pub ruleset number_laws = (numbers_more)

numbered_push : (path : Option (List ℕ)) (xs : List SignalLine) (x : SignalLine) (t : TablesOf) → numbered_in path (xs ++ x ∷ []) t ≡ numbered_in path xs t ++ next_number x.event (put_signals path xs t) ∷ []
numbered_push path [] x t = refl
numbered_push path (y ∷ xs) x t = ap (λ l. next_number y.event t ∷ l) (numbered_push path xs x (put_signal (placed_signal path y) t))

put_push : (path : Option (List ℕ)) (xs : List SignalLine) (x : SignalLine) (t : TablesOf) → put_signals path (xs ++ x ∷ []) t ≡ put_signal (placed_signal path x) (put_signals path xs t)
put_push path [] x t = refl
put_push path (y ∷ xs) x t = put_push path xs x (put_signal (placed_signal path y) t)

pub is_put_next : (path : Option (List ℕ)) (lines : List SignalLine) (i : ℕ) (line : SignalLine) (signal : Signal) (old : TablesOf) (own : List SignalNumber) (new : TablesOf) (n : SignalNumber) (own_next : List SignalNumber) (next : TablesOf) → i < length lines → IsPut path (take i lines) old own new
    → line ≡ get_or lines i line → signal ≡ placed_signal path line → n ≡ next_number signal.event new → own_next ≡ own ++ n ∷ [] → next ≡ put_signal signal new → IsPut path (take (i + 1) lines) old own_next next
is_put_next path lines i line signal old own new n own_next next within h line_is signal_is n_is own_is next_is =
    subst (λ ls. IsPut path ls old own_next next) (sym (take_more lines i line within ∙ ap (λ (x : SignalLine). take i lines ++ x ∷ []) (sym line_is)))
    (record {
      own_is = own_is ∙ ap (λ m. own ++ m ∷ []) (n_is ∙ ap (λ (s : Signal). next_number s.event new) signal_is ∙ ap (λ (t : TablesOf). next_number line.event t) h.new_is) ∙ ap (λ l. l ++ next_number line.event (put_signals path (take i lines) old) ∷ []) h.own_is ∙ sym (numbered_push path (take i lines) line old);
      new_is = next_is ∙ ap (λ s. put_signal s new) signal_is ∙ ap (put_signal (placed_signal path line)) h.new_is ∙ sym (put_push path (take i lines) line old);
    })

pub ruleset signal_laws = (is_put_next)

pub walked_zero : (blocks : List BlockOf) (block : ℕ) (path : Option (List ℕ)) (outer : List SignalNumber) (t : TablesOf) → walked blocks 0 block path outer t ≡ t
unfolding walked
walked_zero blocks block path outer t = refl

pub walked_past : (blocks : List BlockOf) (depth block : ℕ) (path : Option (List ℕ)) (outer : List SignalNumber) (t : TablesOf) → length blocks ≤ block → walked blocks depth block path outer t ≡ t
unfolding walked
walked_past blocks zero block path outer t past = refl
walked_past blocks (suc depth) block path outer t past = ap (λ b. walked_in (walked blocks depth) b path outer t) (slice_get_past blocks block past)

pub walked_some : (blocks : List BlockOf) (depth block : ℕ) (path : Option (List ℕ)) (outer : List SignalNumber) (t : TablesOf) (b : BlockOf) (own : List SignalNumber) (u : TablesOf) → 0 < depth → slice_get blocks block ≡ Some b → IsPut path b.signals t own u
    → walked blocks depth block path outer t ≡ walked_all (walked blocks (depth - 1)) b.instances path own outer u
unfolding walked
walked_some blocks (suc depth) block path outer t b own u more is put = subst (λ m. walked blocks (suc depth) block path outer t ≡ walked_all (walked blocks m) b.instances path own outer u) (omega arith) (ap (λ c. walked_in (walked blocks depth) c path outer t) is ∙ ap (λ o. walked_all (walked blocks depth) b.instances path o outer (put_signals path b.signals t)) (sym put.own_is) ∙ ap (walked_all (walked blocks depth) b.instances path own outer) (sym put.new_is))
walked_some blocks zero block path outer t b own u more is put = absurd (omega (arith, more))

pub walk_step : (blocks : List BlockOf) (depth block : ℕ) (path : Option (List ℕ)) (outer : List SignalNumber) (t : TablesOf) (b c : BlockOf) (own same : List SignalNumber) (u : TablesOf) → (depth ≡ 0 → ⊥) → block < length blocks → b ≡ get_or blocks block b → c ≡ b
    → IsPut path c.signals t own u → same ≡ own → walked_all (walked blocks (depth - 1)) c.instances path same outer u ≡ walked blocks depth block path outer t
walk_step blocks depth block path outer t b c own same u some within is alike put same_is =
    ap (λ o. walked_all (walked blocks (depth - 1)) c.instances path o outer u) same_is
    ∙ sym (walked_some blocks depth block path outer t c own u (omega (arith, some)) (slice_get-get_or blocks block b within ∙ ap Some (sym is ∙ sym alike)) put)

pub instances_more : (blocks : List BlockOf) (depth : ℕ) (list : List InstanceOf) (n : ℕ) (d : InstanceOf) (path : Option (List ℕ)) (own outer : List SignalNumber) (t : TablesOf) → n < length list
    → walked_all (walked blocks depth) (drop n list) path own outer t ≡ walked_all (walked blocks depth) (drop (n + 1) list) path own outer (walked_row (walked blocks depth) (row_of path own outer (get_or list n d)) t)
instances_more blocks depth list n d path own outer t within = ap (λ (l : List InstanceOf). walked_all (walked blocks depth) l path own outer t) (drop_more list n d within)

pub instances_done : (blocks : List BlockOf) (depth : ℕ) (list : List InstanceOf) (n : ℕ) (path : Option (List ℕ)) (own outer : List SignalNumber) (t : TablesOf) → length list ≤ n → walked_all (walked blocks depth) (drop n list) path own outer t ≡ t
instances_done blocks depth list n path own outer t past = ap (λ (l : List InstanceOf). walked_all (walked blocks depth) l path own outer t) (drop_all n list past)

pub ruleset walk_laws = (walked_zero, walked_past, instances_more, instances_done)
