-- The points told so far, with the states that are kept, and what was counted for them.
use Rattle.std.proofs.Common.{◌≡◌, ◌∙◌, ℕ, ◌+◌, ◌*◌, ◌≤◌, ◌<◌, List, [], ◌∷◌, ◌++◌, length, arith}
use Rattle.std.specs.Prelude.{None}
use Rattle.row_modules.specs.Bases.{IsLeadingBasis}
use Rattle.affine_prog.specs.declared.Program.{Program}
use Rattle.affine_prog.specs.Programs.{IsWellFormed}
use Rattle.flow_points.specs.PointLists.{FlowPoints}
use Rattle.block_program.specs.Contractions.{Contraction}
use Rattle.block_program.specs.Numbers.{AreBlocks, number_of}
use Rattle.report_text.specs.declared.names.Name.{Name}
use Rattle.report_text.specs.declared.points.PointRows.{PointRows}
use Rattle.analyser_core.specs.States.{HasStates, merged_part, merged_count, AreCounted}
use Rattle.analyser_core.specs.Told.{AreRelated, AreTold, IsTold, RelatesAt}
use Rattle.analyser_core.proofs.MergedSoFar.{MergedSoFar, so_far_none, so_far_more, counted_of_all, all_counted, all_states}
use Rattle.analyser_core.proofs.PointsTold.{told_more, one_longer}

-- bases of the states at the merged nodes below n were made, and counted
pub record AreMadeBelow (program : Program) (blocks : Contraction) (start now n : ℕ) : Type 0 where
  pub merged : List (List (List ℕ))
  pub so_far : MergedSoFar program blocks start now n merged

pub made_none : (program : Program) (blocks : Contraction) (start : ℕ) → AreMadeBelow program blocks start start 0
made_none program blocks start = record { merged = []; so_far = so_far_none program blocks start }

module _ (program : Program) (formed : IsWellFormed program) (blocks : Contraction) (b : AreBlocks program blocks) (start now after n : ℕ) (below : n < program.nodes)
    (m : AreMadeBelow program blocks start now n) (counts : after ≤ now + 64 * (program.width + 1) * merged_part (number_of blocks n)) where
  pub made_counts : after ≤ start + 64 * (program.width + 1) * merged_count blocks
  made_counts = counted_of_all program formed blocks b start now after n m.merged below m.so_far counts

  pub made_more : (states : List (List ℕ)) → IsLeadingBasis 17 states → (number_of blocks n ≡ None → HasStates program n states) → now ≤ after → now + length states ≤ after
      → AreMadeBelow program blocks start after (n + 1)
  made_more states basis exact rises rows = record {
    merged = m.merged ++ states ∷ [];
    so_far = so_far_more program formed blocks b start now after n m.merged below m.so_far counts states basis exact rises rows;
  }

pub made_rises : (program : Program) (blocks : Contraction) (start now n : ℕ) → AreMadeBelow program blocks start now n → start ≤ now
made_rises program blocks start now n m = m.so_far.rises

-- once all nodes are done
module _ (program : Program) (blocks : Contraction) (b : AreBlocks program blocks) (start now n : ℕ) (past : program.nodes ≤ n) (end : n ≤ program.nodes)
    (m : AreMadeBelow program blocks start now n) where
  pub all_made : AreCounted program blocks.merging start now
  all_made = record {
    merged = m.merged;
    states = all_states program blocks b start now n m.merged past end m.so_far;
    rows = m.so_far.counts_rows;
  }

  pub all_counts : now ≤ start + 64 * (program.width + 1) * merged_count blocks
  all_counts = all_counted program blocks b start now n m.merged past end m.so_far

-- the points among the nodes below n are told
pub record AreToldBelow (program : Program) (points : FlowPoints) (names : List Name) (n : ℕ) (told : List PointRows) : Type 0 where
  pub related : AreRelated program told
  pub points_told : AreTold program points names told
  pub before : n ≤ length points.points → length told ≡ n
  pub behind : length points.points ≤ n → length told ≡ length points.points

module _ (program : Program) (points : FlowPoints) (names : List Name) (n : ℕ) (told : List PointRows) (t : AreToldBelow program points names n told) where
  pub told_one : (new : List PointRows) (point : PointRows) → n < length points.points → new ≡ told ++ point ∷ [] → IsTold program points names n point → RelatesAt program n point.state
      → AreToldBelow program points names (n + 1) new
  told_one new point below pushed is relates =
      let count = t.before (omega (arith, below)) in
      let longer = one_longer told new point n pushed count in
      record {
        related = rw pushed (told_more (λ k q. RelatesAt program k q.state) told n point count t.related relates);
        points_told = rw pushed (told_more (IsTold program points names) told n point count t.points_told is);
        before = λ few. longer;
        behind = λ many. longer ∙ omega (arith, below, many);
      }

  pub told_no_more : length points.points ≤ n → AreToldBelow program points names (n + 1) told
  told_no_more past = record {
    related = t.related;
    points_told = t.points_told;
    before = λ few. absurd (omega (arith, few, past));
    behind = λ many. t.behind past;
  }
