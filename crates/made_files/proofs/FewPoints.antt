-- Walks of a made file end at its points, which are few.
use Rattle.std.proofs.Common.{◌≡◌, ◌≢◌, ℕ, zero, suc, ◌+◌, ◌-◌, ◌*◌, ◌<◌, ◌≤◌, List, length, map, get_or, true, Result, Ok, Err, All, AllPairs, Contains, slice_index, eqb, refl, ap, sym, subst, ◌∙◌, arith, eqb-true, eq-eqb}
use Rattle.std.specs.List.{list_any}
use Rattle.std.specs.List.Sorted.{IsStrictlyIncreasing}
use Rattle.std.proofs.lemmas.List.{get_or-map, length-map}
use Rattle.std.proofs.lemmas.List.Elements.{All-contains, Contains-get_or}
use Rattle.std.proofs.lemmas.Map.Made.{IsDistinct-from_AllPairs}
use Rattle.std.proofs.lemmas.Map.Steps.{length-le_from_distinct_below}
use Rattle.std.proofs.lemmas.Map.Views.{Contains-from_any}
use Rattle.flow_points.specs.Flows.{Fetches, HasFlow, Judged}
use Rattle.flow_points.specs.Walks.{FlowWalk, HasMoreThan, begin, most_points, onward, point, successors_of}
use Rattle.flow_points.specs.Refusals.{HasCause, IsRefusal, bad_point, into_pair, there, too_many}
use Rattle.flow_points.specs.declared.code_points.Flow.{Flow}
use Rattle.flow_points.specs.declared.code_points.Point.{Point}
use Rattle.flow_points.proofs.Cited.{from_map, judged_once, same_flow}
use Rattle.refusals.specs.declared.flow.FlowRefusal.{FlowRefusal}
use Rattle.made_files.proofs.MadeFlows.{GoesOn}
use Rattle.made_files.proofs.MadePoints.{IsMadePoint, number, number_below, one_number}
use Rattle.made_files.proofs.SmallFetches.{address}

none_point : Point
none_point = point 0 0

-- points that are made and apart are few
pub few : (n : ℕ) (points : List Point) → All (IsMadePoint n) points → AllPairs (λ p q. p ≢ q) points → length points ≤ 3 + 8 * n
few n points made apart =
    let same_length = length-map points number in
    let distinct = IsDistinct-from_AllPairs {eq = eqb} (λ a b. (eqb-true a b, eq-eqb a b)) (map number points) numbers_apart in
    let bound = length-le_from_distinct_below (map number points) (3 + 8 * n) distinct numbers_low in
    omega (arith, same_length, bound)
  where
    numbers_apart : AllPairs (λ x y. x ≢ y) (map number points)
    numbers_apart i j d less inside e =
        let below : j < length points = omega (arith, inside, length-map points number) in
        let first = get_or-map number points i none_point d (omega (arith, less, below)) in
        let second = get_or-map number points j none_point d below in
        let p = get_or points i none_point in
        let q = get_or points j none_point in
        apart i j none_point less below
        (one_number n p q (made i none_point (omega (arith, less, below))) (made j none_point below) (sym first ∙ e ∙ second))

    numbers_low : (k : ℕ) → list_any (eqb k) (map number points) ≡ true → k < 3 + 8 * n
    numbers_low k any =
        let found = from_map number points k (Contains-from_any {eq = eqb} eqb-true k (map number points) any) in
        let low = number_below n found.0 (All-contains (IsMadePoint n) points found.0 made found.1) in
        omega (arith, low, found.2)

not_both : (fetches : Fetches) (a : ℕ) (f : Flow) (cause : FlowRefusal) → HasFlow fetches a f → Judged fetches a (Err cause) → ⊥
not_both fetches a f cause h k = let e = judged_once fetches a (Ok f) (Err cause) h k in cc

module _ (n : ℕ) (small : n ≤ 100) (fetches : Fetches) (goes_on_made : (p : Point) → IsMadePoint n p → GoesOn n fetches p)
    (begins : IsMadePoint n (point (address 0) (address 0))) where
  pub all_made : (p : Point) → FlowWalk fetches (address 0) p → IsMadePoint n p
  all_made p (begin to e) = subst (IsMadePoint n) (sym e) begins
  all_made p (onward from to flow walk has goes) =
      let at = goes_on_made from (all_made from walk) in
      let same = same_flow flow at.flow (judged_once fetches from.address (Ok flow) (Ok at.flow) has at.has) in
      All-contains (IsMadePoint n) (successors_of from.proc_entry at.flow) to at.on
      (subst (λ (f : Flow). Contains (successors_of from.proc_entry f) to) same goes)

  no_cause : (p : Point) (cause : FlowRefusal) → FlowWalk fetches (address 0) p → HasCause fetches (address 0) p cause → ⊥
  no_cause p cause walk (there judged) =
      let at = goes_on_made p (all_made p walk) in not_both fetches p.address at.flow cause at.has judged
  no_cause p cause walk (into_pair entered half is) =
      let at = goes_on_made p (all_made p walk) in at.no_half half

  pub no_refusal : (refusal : FlowRefusal) → IsRefusal fetches (address 0) refusal → ⊥
  no_refusal refusal (too_many more is) =
      let made : All (IsMadePoint n) more.points = λ k d within. all_made (get_or more.points k d) (more.reached k d within) in
      let low = few n more.points made more.apart in
      let high = more.more in
      omega (arith, low, high, small)
  no_refusal refusal (bad_point few_enough first) = no_cause first.at refusal first.reached first.bad

-- numbers that ascend below a bound are few
pub rises : (xs : List ℕ) → IsStrictlyIncreasing xs → (k : ℕ) → k < length xs → k ≤ slice_index xs k
rises xs up zero within = omega arith
rises xs up (suc k) within =
    let low = rises xs up k (omega (arith, within)) in
    let step = up k (omega (arith, within)) in
    let next : slice_index xs (suc k) ≡ slice_index xs (k + 1) = ap (slice_index xs) (let e : suc k ≡ k + 1 = omega arith in e) in
    omega (arith, low, step, next)

pub ascending_below : (xs : List ℕ) (n : ℕ) → IsStrictlyIncreasing xs → ((x : ℕ) → Contains xs x → x < n) → length xs ≤ n
ascending_below xs n up low = by (length xs) refl
  where
    by : (l : ℕ) → length xs ≡ l → length xs ≤ n
    by zero is = omega (arith, is)
    by (suc k) is =
        let high = rises xs up k (omega (arith, is)) in
        let bound = low (slice_index xs k) (Contains-get_or xs k 0 (omega (arith, is))) in
        omega (arith, is, high, bound)
