-- Tallies: for each node, which edges there are at it.
--
--   more_of tally k                     one more edge, number k
--   number_of tally                     its number, where there is one
--   end_of side e                       the node at this end of the edge
--   IsTally test edges tally              the edges that pass the test are none, the one of that number, or two and more
--   AreTallies node_of n edges table      the table tells this for each node below n, of the edges that node_of puts there
use Rattle.std.specs.Prelude.{◌≡◌, ℕ, ◌<◌, ◌≤◌, List, [], ◌∷◌, length, filter, slice_index_or, Bool, ◌==◌}
use Rattle.affine_prog.specs.declared.Edge.{Edge}
use Rattle.block_program.specs.declared.tallies.Side.{Side}
use Rattle.block_program.specs.declared.tallies.Side.TheVariants.{From, To}
use Rattle.block_program.specs.declared.Tally.{Tally}
use Rattle.block_program.specs.declared.Tally.TheVariants.{Nothing, One, Many}

abbrev pub more_of : Tally → ℕ → Tally
more_of Nothing k = One k
more_of (One j) k = Many
more_of Many k = Many

abbrev pub number_of : Tally → ℕ
number_of Nothing = 0
number_of (One k) = k
number_of Many = 0

abbrev pub end_of : Side → Edge → ℕ
end_of From e = e.from
end_of To e = e.to

abbrev pub IsTally : (Edge → Bool) → List Edge → Tally → Type 0
IsTally test edges Nothing = filter test edges ≡ []
IsTally test edges (One k) = (k < length edges) × ((d : Edge) → filter test edges ≡ slice_index_or edges k d ∷ [])
IsTally test edges Many = 2 ≤ length (filter test edges)

pub record AreTallies (node_of : Edge → ℕ) (n : ℕ) (edges : List Edge) (table : List Tally) : Type 0 where
  pub long : length table ≡ n
  pub told : (v : ℕ) → v < n → IsTally (λ e. node_of e == v) edges (slice_index_or table v Nothing)
