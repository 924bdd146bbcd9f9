-- A bound of an edge in the own net is the bound of this edge in the whole net.
use Rattle.std.proofs.Common.{◌≡◌, ◌∙◌, ℕ, ◌+◌, ◌*◌, ◌<◌, ◌≤◌, List, [], ◌∷◌, length, map, take, cond, nat_eq, refl, sym, ap, subst}
use Rattle.std.proofs.Math.ListN.{get_or}
use Rattle.std.proofs.lemmas.List.{length-map, take-map}
use Rattle.std.proofs.lemmas.List.Elements.{All-take, recursion_from_All}
use Rattle.std.proofs.lemmas.List.Sums.{sum_by-cons}
use Rattle.std.specs.List.{AllByRecursion, sum_by}
use Rattle.std.specs.Prelude.{All}
use Rattle.tdf_cluster_net.proofs.Ranks.{number_eq}
use Rattle.tdf_cluster_net.specs.Numbers.{AreNumbers}
use Rattle.tdf_cluster_net.specs.Own.{whole_edge, whole_entry}
use Rattle.tdf_graph.specs.declared.actors.Edge.{Edge}
use Rattle.tdf_schedule.specs.Plan.{done, IsBound}
use Rattle.tdf_schedule.specs.declared.entry.Entry.{Entry}

most_same : (initial x y write s t read bound : ℕ) → x ≡ y → s ≡ t → initial + y * write ≤ bound + t * read → initial + x * write ≤ bound + s * read
most_same initial x y write s t read bound e f h =
    subst (λ n. initial + n * write ≤ bound + s * read) (sym e) (subst (λ n. initial + y * write ≤ bound + n * read) (sym f) h)

reached_same : (initial x y write s t read bound : ℕ) → x ≡ y → s ≡ t → initial + y * write ≡ bound + t * read → initial + x * write ≡ bound + s * read
reached_same initial x y write s t read bound e f h = ap (λ n. initial + n * write) e ∙ h ∙ ap (λ n. bound + n * read) (sym f)

module _ (numbers : List ℕ) (count : ℕ) (IsMeant : ℕ → Type 0) (are : AreNumbers count IsMeant numbers) where
  abbrev fires : ℕ → Entry → ℕ
  fires m x = cond (nat_eq x.actor m) 1 0

  counted : (m : ℕ) → m < length numbers → (entries : List Entry) → AllByRecursion (λ (x : Entry). x.actor < length numbers) entries
      → sum_by (fires (get_or numbers m 0)) (map (whole_entry numbers) entries) ≡ sum_by (fires m) entries
  counted m m_in [] fit = refl
  counted m m_in (x ∷ entries) fit =
      sum_by-cons (fires (get_or numbers m 0)) (whole_entry numbers x) (map (whole_entry numbers) entries)
      ∙ ap (λ b. cond {A = ℕ} b 1 0 + sum_by (fires (get_or numbers m 0)) (map (whole_entry numbers) entries)) (number_eq numbers count IsMeant are x.actor m fit.0 m_in)
      ∙ ap (λ n. fires m x + n) (counted m m_in entries fit.1)
      ∙ sym (sum_by-cons (fires m) x entries)

  -- an own actor fires as often in the whole net's list
  pub done_up : (entries : List Entry) → All (λ (x : Entry). x.actor < length numbers) entries → (i m : ℕ) → m < length numbers
      → done (map (whole_entry numbers) entries) i (get_or numbers m 0) ≡ done entries i m
  unfolding done
  done_up entries fit i m m_in =
      ap (λ (l : List Entry). sum_by (fires (get_or numbers m 0)) l) (take-map (whole_entry numbers) i entries)
      ∙ counted m m_in (take i entries) (recursion_from_All (λ (x : Entry). x.actor < length numbers) (take i entries)
      (All-take (λ (x : Entry). x.actor < length numbers) i entries fit))

  pub bound_up : (entries : List Entry) (e : Edge) (bound : ℕ) → All (λ (x : Entry). x.actor < length numbers) entries → e.writer < length numbers → e.reader < length numbers
      → IsBound entries e bound → IsBound (map (whole_entry numbers) entries) (whole_edge numbers e) bound
  bound_up entries e bound fit writer_in reader_in is = record {
    most = λ i within. most_same e.initial (done (map (whole_entry numbers) entries) i (get_or numbers e.writer 0)) (done entries i e.writer) e.write_rate
        (done (map (whole_entry numbers) entries) i (get_or numbers e.reader 0)) (done entries i e.reader) e.read_rate bound
        (done_up entries fit i e.writer writer_in) (done_up entries fit i e.reader reader_in)
        (is.most i (subst (λ n. i ≤ n) (length-map entries (whole_entry numbers)) within));
    reached = (
      is.reached.0,
      subst (λ n. is.reached.0 ≤ n) (sym (length-map entries (whole_entry numbers))) is.reached.1,
      reached_same e.initial (done (map (whole_entry numbers) entries) is.reached.0 (get_or numbers e.writer 0)) (done entries is.reached.0 e.writer) e.write_rate
          (done (map (whole_entry numbers) entries) is.reached.0 (get_or numbers e.reader 0)) (done entries is.reached.0 e.reader) e.read_rate bound
          (done_up entries fit is.reached.0 e.writer writer_in) (done_up entries fit is.reached.0 e.reader reader_in) is.reached.2,
    );
  }
