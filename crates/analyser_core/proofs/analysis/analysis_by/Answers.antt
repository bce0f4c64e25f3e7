use Rattle.std.proofs.Common.{refl, arith}
use Rattle.std.proofs.lemmas.Grind.{merely}
use Rattle.std.proofs.lemmas.List.Elements.{Contains-get_or}
use Rattle.merged_heads.proofs.Lemmas.{formed, exits_alike}
use Rattle.analyser_core.proofs.PointsTold.{told_ascend, told_rows, told_each}
use Rattle.analyser_core.proofs.WordsTold.{certs_told}
use Rattle.analyser_core.proofs.Worked.{within_bound, states_of_heads, summaries_alone, rows_of_states}
use Rattle.analyser_core.proofs.analysis.analysis_by.Goals as goal

pub exits-requires : goal.exits-requires
exits-requires g c = let b = c.requires.blocks in rw c.small-small.ensures (formed c.args.program.now c.args.blocks.now.merging b.heads c.args.blocks.now.small c.requires.formed b.small)

pub reach_by_exits-requires-clause-formed : goal.reach_by_exits-requires-clause-formed
reach_by_exits-requires-clause-formed g c = let b = c.requires.blocks in rw c.small-small.ensures (formed c.args.program.now c.args.blocks.now.merging b.heads c.args.blocks.now.small c.requires.formed b.small)

pub certify-requires-clause-exits : goal.certify-requires-clause-exits
certify-requires-clause-exits g c =
    let b = c.requires.blocks in
    rw c.bases-2.ensures
    (exits_alike c.args.program.now c.args.blocks.now.merging b.heads c.args.blocks.now.small c.requires.formed b.small c.in_ok-exits.exits (rw c.small-small.ensures at c.in_ok-exits.ensures.exact))

pub certify-requires-clause-within : goal.certify-requires-clause-within
certify-requires-clause-within g c = rw c.procedures.ensures (λ k d below. Contains-get_or c.args.points.now.procedures k d below)

pub told-requires-clause-reached : goal.told-requires-clause-reached
told-requires-clause-reached g c = rw c.small-small.ensures at c.in_ok-reached.ensures.exact

pub returns-in_err-exits-clause-worked : goal.returns-in_err-exits-clause-worked
returns-in_err-exits-clause-worked g c =
    summaries_alone c.args.points.now c.args.tracked.names c.args.program.now c.requires.formed c.args.blocks.now c.requires.blocks c.requires.lifted _ _ c.exits.ensures.never_falls
    (rw c.small-small.ensures at c.exits.ensures.bounded)

pub returns-in_err-reached-clause-worked : goal.returns-in_err-reached-clause-worked
returns-in_err-reached-clause-worked g c =
    states_of_heads c.args.points.now c.args.tracked.names c.args.program.now c.requires.formed c.args.blocks.now c.requires.blocks c.requires.lifted _ _ _ c.exits.ensures.never_falls
    (rw c.small-small.ensures at c.exits.ensures.bounded) c.reach_by_exits.ensures.never_falls (rw c.small-small.ensures at c.reach_by_exits.ensures.counts_no_more)

pub returns-in_err-certs-clause-worked : goal.returns-in_err-certs-clause-worked
returns-in_err-certs-clause-worked g c =
    states_of_heads c.args.points.now c.args.tracked.names c.args.program.now c.requires.formed c.args.blocks.now c.requires.blocks c.requires.lifted _ _ _ c.exits.ensures.never_falls
    (rw c.small-small.ensures at c.exits.ensures.bounded) c.reach_by_exits.ensures.never_falls (rw c.small-small.ensures at c.reach_by_exits.ensures.counts_no_more)

pub returns-in_err-words-clause-worked : goal.returns-in_err-words-clause-worked
returns-in_err-words-clause-worked g c =
    states_of_heads c.args.points.now c.args.tracked.names c.args.program.now c.requires.formed c.args.blocks.now c.requires.blocks c.requires.lifted _ _ _ c.exits.ensures.never_falls
    (rw c.small-small.ensures at c.exits.ensures.bounded) c.reach_by_exits.ensures.never_falls (rw c.small-small.ensures at c.reach_by_exits.ensures.counts_no_more)

pub returns-in_err-points-clause-worked : goal.returns-in_err-points-clause-worked
returns-in_err-points-clause-worked g c =
    within_bound c.args.points.now c.args.tracked.names c.args.program.now c.requires.formed c.args.blocks.now c.requires.blocks c.requires.lifted _ _ _ _ c.exits.ensures.never_falls
    (rw c.small-small.ensures at c.exits.ensures.bounded) c.reach_by_exits.ensures.never_falls (rw c.small-small.ensures at c.reach_by_exits.ensures.counts_no_more)
    c.told.ensures.never_falls c.told.ensures.counts_no_more

pub words_of-requires : goal.words_of-requires
words_of-requires g c = rw c.as_slice.ensures (λ k d below. (c.in_ok-certs.ensures.each k d below).among)

pub invariant_of-result : goal.invariant_of-result
invariant_of-result g c =
    let all = c.in_ok-points.ensures.told in
    let words = rw c.as_slice.ensures at c.in_ok-words.ensures in
    let certified = rw c.procedures.ensures at c.in_ok-certs.ensures in
    record {
      versions = (omega arith, omega arith);
      without = merely (λ one. absurd (omega (arith, one)));
      certified = merely (λ two. certs_told c.args.program.now c.args.points.now c.args.tracked.names c.in_ok-points.points c.in_ok-words.words
          c.in_ok-certs.certs c.known.ensures all c.in_ok-points.ensures.count certified words);
      ascending = merely (told_ascend c.args.program.now c.args.points.now c.args.tracked.names c.in_ok-points.points c.known.ensures all);
      reduced = merely (told_rows c.args.program.now c.args.points.now c.args.tracked.names c.in_ok-points.points all);
    }

pub returns-clause-made : goal.returns-clause-made
returns-clause-made g c =
    let program = c.args.program.now in
    let b = c.requires.blocks in
    let s = b.simple in
    record {
      program = program;
      lifted = c.requires.lifted;
      few_heads = record { heads = s.simple; numbers = s.are; few = omega (arith, c.requires.few, s.counted) };
      is_report = record {
        version_is = refl;
        certified = rw c.procedures.ensures at c.in_ok-certs.ensures;
        words = rw c.as_slice.ensures at c.in_ok-words.ensures;
        names_are = refl;
        count = c.in_ok-points.ensures.count;
        told = λ u code point at is. told_each program c.args.points.now c.args.tracked.names c.in_ok-points.points c.in_ok-points.ensures.told u code point at is;
      };
      rows = λ lists are bases.
          let counts = c.in_ok-points.ensures.counts_rows in
          let e = rows_of_states program c.requires.formed c.args.blocks.now b lists c.in_ok-reached.reached counts.merged are bases
          (rw c.small-small.ensures at c.in_ok-reached.ensures.exact) c.known_states.ensures counts.states in
          let counted = c.in_ok-reached.ensures.counts_rows in
          let rows = counts.rows in
          let falls = c.exits.ensures.never_falls in
          omega (arith, e, counted, rows, falls);
    }

pub returns-clause-worked : goal.returns-clause-worked
returns-clause-worked g c =
    within_bound c.args.points.now c.args.tracked.names c.args.program.now c.requires.formed c.args.blocks.now c.requires.blocks c.requires.lifted _ _ _ _ c.exits.ensures.never_falls
    (rw c.small-small.ensures at c.exits.ensures.bounded) c.reach_by_exits.ensures.never_falls (rw c.small-small.ensures at c.reach_by_exits.ensures.counts_no_more)
    c.told.ensures.never_falls c.told.ensures.counts_no_more
