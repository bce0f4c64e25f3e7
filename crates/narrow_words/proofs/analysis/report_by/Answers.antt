use Rattle.std.proofs.Common.{refl, arith}
use Rattle.std.proofs.lemmas.Grind.{merely}
use Rattle.merged_heads.proofs.Lemmas.{formed}
use Rattle.narrow_words.proofs.PointsSoFar.{told_ascend, told_each, told_rows}
use Rattle.narrow_words.proofs.analysis.report_by.Goals as goal

pub exits-requires : goal.exits-requires
exits-requires g c = let b = c.requires.blocks in rw c.small-small.ensures (formed c.args.program.now c.args.blocks.now.merging b.heads c.args.blocks.now.small c.requires.formed b.small)

pub reach_by_exits-requires-clause-formed : goal.reach_by_exits-requires-clause-formed
reach_by_exits-requires-clause-formed g c = let b = c.requires.blocks in rw c.small-small.ensures (formed c.args.program.now c.args.blocks.now.merging b.heads c.args.blocks.now.small c.requires.formed b.small)

pub narrow_points-requires-clause-reached : goal.narrow_points-requires-clause-reached
narrow_points-requires-clause-reached g c = rw c.small-small.ensures at c.in_ok-reached.ensures.exact

pub invariant_of-result : goal.invariant_of-result
invariant_of-result g c =
    let all = c.in_ok-points.ensures.told in
    record {
      ascending = merely (told_ascend c.args.program.now c.args.points.now c.args.tracked.names c.in_ok-points.points all c.known.ensures);
      reduced = merely (told_rows c.args.program.now c.args.points.now c.args.tracked.names c.in_ok-points.points all);
    }

pub returns : goal.returns
returns g c =
    let b = c.requires.blocks in
    let s = b.simple in
    record {
      program = c.args.program.now;
      lifted = c.requires.lifted;
      few_heads = record { heads = s.simple; numbers = s.are; few = omega (arith, c.requires.few, s.counted) };
      is_report = record {
        names_are = refl;
        count = c.in_ok-points.ensures.count;
        told = told_each c.args.program.now c.args.points.now c.args.tracked.names c.in_ok-points.points c.in_ok-points.ensures.told;
      };
    }
