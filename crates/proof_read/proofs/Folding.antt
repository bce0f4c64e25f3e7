-- What is told of the lines to come is told of all.
use Rattle.std.proofs.Common.{ℕ, ◌+◌, List, Ok, Err, subst, ap, ◌∙◌, inl, inr}
use Rattle.proof_lines.specs.Lines.{line_text}
use Rattle.proof_read.specs.declared.front.Front.{Front}
use Rattle.proof_read.specs.declared.front.FrontFault.{FrontFault}
use Rattle.proof_read.specs.declared.front.FrontFault.TheVariants.{Syntax, Memory}
use Rattle.proof_read.specs.declared.steps.Step.TheVariants as steps
use Rattle.proof_read.specs.Fronts.{IsFirstLine, IsFrontJudged, IsFrontTold, IsJudged, Left, Outcome, Wrong, begun, done, goes_on, no_line, not_allowed}

module _ (k : ℕ) (d : Front) (text piece behind : List ℕ) (cut : IsFirstLine text piece behind) where
  pub refused_so : (whole : List ℕ) (fault : FrontFault) → ((r : Outcome) → IsFrontJudged r k d text → IsFrontJudged r 3 begun whole)
      → IsJudged k d piece (Err fault) → IsFrontTold 3 begun whole (Err fault)
  refused_so whole (Syntax n) so (inl none) = so (Wrong n) (no_line k d text piece behind cut none.1 (ap Wrong none.0))
  refused_so whole (Syntax n) so (inr told) =
      so (Wrong n) (not_allowed k d text piece behind told.0 cut told.1 told.2.1 told.2.2 (ap Wrong told.2.0))
  refused_so whole Memory so judged = tt

  pub done_so : (front : Front) → IsJudged k d piece (Ok (steps.Done front)) → IsFrontJudged (Left front (k + 1) behind) k d text
  done_so front told =
      done k d text piece behind cut (told.1.piece_is ∙ ap line_text told.2.0) (ap (λ (f : Front). Left f (k + 1) behind) told.2.1)

  pub next_so : (next : Front) (r : Outcome) → IsJudged k d piece (Ok (steps.Next next)) → IsFrontJudged r (k + 1) next behind → IsFrontJudged r k d text
  next_so next r told judged =
      goes_on k d text piece behind told.0 cut told.1 told.2.0 told.2.1 (subst (λ (f : Front). IsFrontJudged r (k + 1) f behind) told.2.2 judged)
