-- Where the flow goes on from the entries of a search so far.
use Rattle.std.proofs.Common.{◌≡◌, ℕ, ◌+◌, ◌<◌, List, ◌++◌, length, get_or, Option, Some, Result, Ok, Err, IfOk, slice_get, All, sym, ap, subst, ◌∙◌, arith}
use Rattle.std.specs.List.{AllWithin}
use Rattle.std.proofs.lemmas.List.{get_or_append_left}
use Rattle.std.proofs.lemmas.List.Elements.{AllWithin-more, All-weaker}
use Rattle.std.proofs.lemmas.Option.{slice_get-get_or}
use Rattle.flow_points.specs.Walks.{successors_of}
use Rattle.flow_points.specs.Sites.{HasSite, HasSuccessors}
use Rattle.flow_points.specs.declared.code_points.Point.{Point}
use Rattle.flow_points.specs.declared.code_points.Site.{Site}
use Rattle.flow_points.specs.declared.code_points.CodePoint.{CodePoint}
use Rattle.refusals.specs.declared.flow.FlowRefusal.{FlowRefusal}
use Rattle.flow_points.proofs.Reaching.{still_there}

pub grown : (old new : List (Point × Site)) → ((p : Point) → HasSite old p → HasSite new p) → (e : Point × Site)
    → HasSuccessors old (Some e) → HasSuccessors new (Some e)
grown old new keeps e = by e.1.code
  where
    by : (r : Result CodePoint FlowRefusal) → IfOk r (λ c. All (HasSite old) (successors_of e.0.proc_entry c.flow))
        → IfOk r (λ c. All (HasSite new) (successors_of e.0.proc_entry c.flow))
    by (Ok c) h = All-weaker (HasSite old) (HasSite new) keeps (successors_of e.0.proc_entry c.flow) h
    by (Err cause) h = tt

pub closed_more : (old new more : List (Point × Site)) (at : ℕ) → new ≡ old ++ more → at < length old
    → AllWithin (λ e. HasSuccessors old (Some e)) old 0 at → HasSuccessors new (slice_get old at)
    → AllWithin (λ e. HasSuccessors new (Some e)) new 0 (at + 1)
closed_more old new more at after lt closed there =
    AllWithin-more (λ (e : Point × Site). HasSuccessors new (Some e)) new 0 at
    (λ k d low below. subst (λ (e : Point × Site). HasSuccessors new (Some e)) (sym (same k d (omega arith)))
    (grown old new (λ p. still_there old new more p after) (get_or old k d) (closed k d low below)))
    (λ d. subst (λ (e : Point × Site). HasSuccessors new (Some e)) (sym (same at d lt))
    (subst (λ (o : Option (Point × Site)). HasSuccessors new o) (slice_get-get_or old at d lt) there))
  where
    same : (k : ℕ) (d : Point × Site) → k < length old → get_or new k d ≡ get_or old k d
    same k d below = ap (λ (xs : List (Point × Site)). get_or xs k d) after ∙ get_or_append_left old more d k below
