use Rattle.std.proofs.Common.{◌≡◌, ◌++◌, ◌∷◌, [], Vec, Global, ap, rules, ◌∙◌}
use Rattle.flow_points.specs.declared.code_points.CodePoint.{CodePoint}
use Rattle.flow_points.proofs.CodesFound.{code_more, no_code_more}
use Rattle.flow_points.proofs.recovery.code_points.Goals as goal
use Rattle.flow_points.proofs.recovery.code_points.Goals.{in-Ok+in_ok-push-in-Ok, in-Err}

pub loop-at-preserved : goal.loop-at-preserved
loop-at-preserved c =
    elim c.match-site.branch [
      | in-Ok+in_ok-push-in-Ok w ↦
          let pushed : w.push.new.self.items ≡ c.loop-at.points.items ++ w.in-Ok.code ∷ [] = search rules in
          ap (λ (v : Vec CodePoint Global). v.items) w.points-is ∙ pushed
          ∙ code_more c.args.sites.now.entries c.loop-at.at c.entry_at.result w.in-Ok.code c.loop-at.points.items c.entry_at.ensures w.in-Ok.is c.loop-at.invariant
      | in-Err w ↦
          ap (λ (v : Vec CodePoint Global). v.items) w.points-is ∙ c.loop-at.invariant
          ∙ no_code_more c.args.sites.now.entries c.loop-at.at c.entry_at.result _ c.entry_at.ensures w.in-Err.is
    ]
