-- A run is refused with the stranger of its report, if there is one.
use Rattle.std.proofs.Common.{◌≡◌, ◌↔◌, ℕ, List, Option, None, Some, Result, Err, sym, subst, ap, ◌∙◌}
use Rattle.flow_points.specs.PointLists.{FlowPoints}
use Rattle.report_text.specs.declared.names.Name.{Name}
use Rattle.report_text.specs.declared.points.PointRows.{PointRows}
use Rattle.report_places.specs.Strangers.{IsStranger}
use Rattle.report_places.proofs.Laws.{one_stranger}
use Rattle.run_watch.specs.declared.verdicts.RunVerdict.{RunVerdict}
use Rattle.run_watch.specs.declared.verdicts.RunRefusal.{RunRefusal}
use Rattle.run_watch.specs.declared.verdicts.RunRefusal.TheVariants.{NotAPoint, Memory}

abbrev address_in : Result RunVerdict RunRefusal → Option ℕ
address_in (Err (NotAPoint a)) = Some a
address_in answer = None

abbrev refusal_by : Option ℕ → Result RunVerdict RunRefusal
refusal_by None = Err Memory
refusal_by (Some a) = Err (NotAPoint a)

none_some : (a : ℕ) → None ≡ Some a → ⊥
none_some a e = cc

-- the refusal tells the stranger, if there is one
pub refused_by : (points : FlowPoints) (names : List Name) (told : List PointRows) (found : Option ℕ) (a : ℕ)
    → IsStranger points names told found → found ≡ Some a
    → (address : ℕ) → (refusal_by (Some a) ≡ Err (NotAPoint address)) ↔ IsStranger points names told (Some address)
refused_by points names told found a is some = λ address. (
  λ h. subst (λ o. IsStranger points names told o) (some ∙ ap address_in h) is,
  λ h. ap refusal_by (sym some ∙ one_stranger points names told found (Some address) is h),
)

pub not_refused : (points : FlowPoints) (names : List Name) (told : List PointRows) (found : Option ℕ) (answer : Result RunVerdict RunRefusal)
    → IsStranger points names told found → found ≡ None → address_in answer ≡ None
    → (address : ℕ) → (answer ≡ Err (NotAPoint address)) ↔ IsStranger points names told (Some address)
not_refused points names told found answer is none other = λ address. (
  λ h. absurd (none_some address (sym other ∙ ap address_in h)),
  λ h. absurd (none_some address (sym none ∙ one_stranger points names told found (Some address) is h)),
)
