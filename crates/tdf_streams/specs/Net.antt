-- A cluster and the periods that it goes through, over any types: S is what an actor keeps between
-- its activations, V is a sample, I is what else a period records.
-- Source: own; rates and counts after Lee and Messerschmitt 1987.
use Rattle.std.specs.Prelude.{ℕ, ◌*◌, Bool, Option, List, slice_index}

-- one period; the first may begin inside, and then its counts are what is left of it
pub record Period (I : Type 0) : Type 0 where
  -- how often each actor is activated
  pub counts : List ℕ
  -- how many samples an activation writes to, and reads from, each edge
  pub writes : List ℕ
  pub reads : List ℕ
  pub info : I

-- one activation: what the actor keeps, and its outputs by port and index
pub record Turn (S V : Type 0) : Type 0 where
  pub state : S
  pub outputs : ℕ → ℕ → V

-- what is known so far of activation n of actor m
abbrev pub Past : (S V : Type 0) → Type 0
Past S V = (m n : ℕ) → Option (Turn S V)

-- actors, edges and ports have numbers
pub record Net (S V I : Type 0) : Type 0 where
  pub edges : ℕ
  pub writer : ℕ → ℕ
  pub reader : ℕ → ℕ
  -- the port of its writer whose samples an edge carries; a port may give them to several edges
  pub source : ℕ → ℕ
  -- the samples that an edge holds at the start
  pub delay : ℕ → ℕ
  pub initial : ℕ → ℕ → V
  -- a sampler's outputs are given from outside; an actor of which nothing is said, as one that
  -- these periods never activate, counts as a sampler too
  pub is_sampler : ℕ → Bool
  -- what an actor keeps at the start
  pub start : ℕ → S
  -- its bodies: the change body, after these periods; the reinitialize body, before this period,
  -- which changes nothing where the plan isn't new; the processing body, in this period and state,
  -- with the samples that it reads from each edge
  pub change : ℕ → List (Period I) → S → S
  pub reinitialize : ℕ → Period I → S → S
  pub process : ℕ → Period I → S → List (List V) → Turn S V

-- the periods, and the values that each sampler was given from outside
pub record Run (V I : Type 0) : Type 0 where
  pub periods : List (Period I)
  pub reads : ℕ → List V

module _ {I : Type 0} where
  -- activations of actor m in a period
  abbrev pub count : ℕ → Period I → ℕ
  count m p = slice_index p.counts m

module _ {S V I : Type 0} where
  -- samples that are written to, and taken from, edge e in a period
  abbrev pub written : Net S V I → ℕ → Period I → ℕ
  written net e p = slice_index p.counts (net.writer e) * slice_index p.writes e

  abbrev pub taken : Net S V I → ℕ → Period I → ℕ
  taken net e p = slice_index p.counts (net.reader e) * slice_index p.reads e
