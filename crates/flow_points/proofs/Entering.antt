-- The causes of the points that a flow enters.
use Rattle.std.proofs.Common.{◌≡◌, ◌≢◌, ℕ, List, [], ◌∷◌, ◌==◌, Bool, true, false, None, Some, Contains, if◌then◌else◌, refl, sym, ap, subst, inl, inr, eqb-true, eq-eqb, ◌∙◌, arith}
use Rattle.std.proofs.lemmas.Bool.{false≢true}
use Rattle.flow_points.specs.Flows.{prior}
use Rattle.flow_points.specs.Walks.{Enters, first_half_of, goes_on, calls, point, start, successors_of}
use Rattle.flow_points.specs.Causes.{cause_into, flow_cause, pair_cause}
use Rattle.flow_points.specs.declared.code_points.Point.{Point}
use Rattle.flow_points.specs.declared.code_points.Site.{Site}
use Rattle.flow_points.specs.declared.code_points.Flow.{Flow}
use Rattle.flow_points.specs.declared.code_points.Flow.TheVariants.{Next, Jump, Branch, Call, Return, Halt}
use Rattle.refusals.specs.declared.flow.FlowRefusal.{FlowRefusal}
use Rattle.flow_points.proofs.Lists.{alone, cons_cases, first, only, second}
use Rattle.flow_points.proofs.SamePoint.{one_point}
use Rattle.flow_points.proofs.Soonest.{IsNoLater, first_no_later, is_one, itself_no_later, second_no_later}

-- a second half that a flow enters
pub record EntersPair (entries : List (Point × Site)) (from : Point) (flow : Flow) (c : FlowRefusal) : Type 0 where
  pub to : Point
  pub enters : Enters from flow to
  pub reached : Contains (successors_of from.proc_entry flow) to
  pub cause : pair_cause entries to ≡ Some c

module _ (entries : List (Point × Site)) (from : Point) where
  into_is : (a : ℕ) (c : FlowRefusal) → cause_into entries from a ≡ Some c
      → from ≢ first_half_of (point from.proc_entry a) × (pair_cause entries (point from.proc_entry a) ≡ Some c)
  into_is a c = by (from.address == prior a) refl
    where
      by : (b : Bool) → (from.address == prior a) ≡ b → (if b then None else pair_cause entries (point from.proc_entry a)) ≡ Some c
          → from ≢ first_half_of (point from.proc_entry a) × (pair_cause entries (point from.proc_entry a) ≡ Some c)
      by true e d = cc
      by false e d = (λ same. false≢true (sym e ∙ eq-eqb from.address (prior a) (ap (λ (p : Point). p.address) same)), d)

  into_has : (a : ℕ) → from ≢ first_half_of (point from.proc_entry a) → cause_into entries from a ≡ pair_cause entries (point from.proc_entry a)
  into_has a apart = by (from.address == prior a) refl
    where
      by : (b : Bool) → (from.address == prior a) ≡ b
          → (if b then None else pair_cause entries (point from.proc_entry a)) ≡ pair_cause entries (point from.proc_entry a)
      by true e = absurd (apart (one_point from (first_half_of (point from.proc_entry a)) refl (eqb-true from.address (prior a) e)))
      by false e = refl

  entered_there : (a : ℕ) (to : Point) (c : FlowRefusal) → point from.proc_entry a ≡ to → from ≢ first_half_of to
      → pair_cause entries to ≡ Some c → cause_into entries from a ≡ Some c
  entered_there a to c is =
      subst (λ (p : Point). from ≢ first_half_of p → pair_cause entries p ≡ Some c → cause_into entries from a ≡ Some c) is
      (λ apart e. into_has a apart ∙ e)

  goes_there : (flow : Flow) (a : ℕ) (c : FlowRefusal) → Contains (successors_of from.proc_entry flow) (point from.proc_entry a)
      → cause_into entries from a ≡ Some c → EntersPair entries from flow c
  goes_there flow a c there e =
      let is = into_is a c e in
      record { to = point from.proc_entry a; enters = goes_on there is.0; reached = there; cause = is.1 }

  -- the cause of a flow is that of a second half which it enters
  pub flow_cause_is : (flow : Flow) (c : FlowRefusal) → flow_cause entries from flow ≡ Some c → EntersPair entries from flow c
  flow_cause_is (Next n) c e = goes_there (Next n) n c (alone _) e
  flow_cause_is (Jump t) c e = goes_there (Jump t) t c (alone _) e
  flow_cause_is (Branch n t) c e =
      elim (is_one (cause_into entries from n) (cause_into entries from t) c e) [
        | inl f ↦ goes_there (Branch n t) n c (first _ _) f
        | inr f ↦ goes_there (Branch n t) t c (second _ _) f
      ]
  flow_cause_is (Call t n) c e =
      elim (is_one (pair_cause entries (start t)) (cause_into entries from n) c e) [
        | inl f ↦ record { to = start t; enters = calls t n refl refl; reached = first _ _; cause = f }
        | inr f ↦ goes_there (Call t n) n c (second _ _) f
      ]
  flow_cause_is Return c e = cc
  flow_cause_is Halt c e = cc

  -- and it is no later than that of any
  pub flow_cause_has : (flow : Flow) (to : Point) (c : FlowRefusal) → Enters from flow to → pair_cause entries to ≡ Some c
      → IsNoLater (flow_cause entries from flow) c
  flow_cause_has flow to c (calls t n is at) e =
      subst (λ (f : Flow). IsNoLater (flow_cause entries from f) c) (sym is)
      (first_no_later (pair_cause entries (start t)) (cause_into entries from n) c (ap (pair_cause entries) (sym at) ∙ e))
  flow_cause_has (Next n) to c (goes_on there apart) e =
      itself_no_later (cause_into entries from n) c (entered_there n to c (only _ to there) apart e)
  flow_cause_has (Jump t) to c (goes_on there apart) e =
      itself_no_later (cause_into entries from t) c (entered_there t to c (only _ to there) apart e)
  flow_cause_has (Branch n t) to c (goes_on there apart) e =
      elim (cons_cases (point from.proc_entry n) (point from.proc_entry t ∷ []) to there) [
        | inl f ↦ first_no_later (cause_into entries from n) (cause_into entries from t) c (entered_there n to c f apart e)
        | inr k ↦ second_no_later (cause_into entries from n) (cause_into entries from t) c (entered_there t to c (only _ to k) apart e)
      ]
  flow_cause_has (Call t n) to c (goes_on there apart) e =
      elim (cons_cases (start t) (point from.proc_entry n ∷ []) to there) [
        | inl f ↦ first_no_later (pair_cause entries (start t)) (cause_into entries from n) c (ap (pair_cause entries) f ∙ e)
        | inr k ↦ second_no_later (pair_cause entries (start t)) (cause_into entries from n) c (entered_there n to c (only _ to k) apart e)
      ]
  flow_cause_has Return to c (goes_on there apart) e = absurd (omega (arith, there.1))
  flow_cause_has Halt to c (goes_on there apart) e = absurd (omega (arith, there.1))
