use Rattle.std.proofs.Common.{◌≤◌, All, subst}
use Rattle.std.proofs.lemmas.List.{take_all}
use Rattle.run_watch.proofs.NearestCode.{longest_more}
use Rattle.run_watch.proofs.code_bytes.longest.Goals as goal

pub loop-at-preserved : goal.loop-at-preserved
loop-at-preserved c =
    longest_more c.args.code.now c.loop-at.at-index c.loop-at.longest c.max-longest.result (record { address = 0; length = 0 })
    c.loop-at-test.true c.loop-at.invariant c.max-longest.ensures

pub returns : goal.returns
returns c =
    subst (λ xs. All (λ a. a.length ≤ c.loop-at.longest) xs)
    (take_all c.loop-at.at-index c.args.code.now c.loop-at-test.false) c.loop-at.invariant
