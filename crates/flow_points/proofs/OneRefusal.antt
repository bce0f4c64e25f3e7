-- Code is refused for one cause.
use Rattle.std.proofs.Common.{◌≡◌, ◌≢◌, ℕ, Err, sym, ap, subst, ◌∙◌, arith}
use Rattle.flow_points.specs.Flows.{Fetches, Judged, fetches_of}
use Rattle.flow_points.specs.Walks.{most_points}
use Rattle.elf_image.specs.declared.image.Image.{Image}
use Rattle.flow_points.specs.Refusals.{HasCause, IsBad, IsFlowRefusal, IsFirstCause, IsRefusal, bad_point, into_pair, number_of, address_of, there, too_many}
use Rattle.flow_points.specs.declared.code_points.Point.{Point}
use Rattle.refusals.specs.declared.flow.FlowRefusal.{FlowRefusal}
use Rattle.refusals.specs.declared.flow.FlowRefusal.TheVariants.{IntoPair, TooManyPoints}
use Rattle.flow_points.proofs.CauseNames.{Outcome, judged_named, caused_at}
use Rattle.flow_points.proofs.OneOutcome.{judged_once}

same_cause : (r s : FlowRefusal) → (let x : Outcome = Err r in x ≡ Err s) → r ≡ s
same_cause r s e = cc

-- two causes of one address and one number
one_cause : (fetches : Fetches) (entry : ℕ) (p q : Point) (r s : FlowRefusal) → HasCause fetches entry p r → HasCause fetches entry q s
    → address_of r ≡ address_of s → number_of r ≡ number_of s → r ≡ s
one_cause fetches entry p q r s (there j) (there k) place number =
    let here = judged_named fetches p.address r j in
    let other = judged_named fetches q.address s k in
    let same : p.address ≡ q.address = sym here.place ∙ place ∙ other.place in
    same_cause r s (judged_once fetches q.address (Err r) (Err s) (subst (λ (a : ℕ). Judged fetches a (Err r)) same j) k)
one_cause fetches entry p q r s (there j) (into_pair entered half e) place number =
    let here = judged_named fetches p.address r j in
    let seven = ap number_of e in
    absurd (omega (arith, here.number))
one_cause fetches entry p q r s (into_pair entered half e) (there k) place number =
    let other = judged_named fetches q.address s k in
    let seven = ap number_of e in
    absurd (omega (arith, other.number))
one_cause fetches entry p q r s (into_pair entered half e) (into_pair entered' half' d) place number =
    let same : p.address ≡ q.address = sym (ap address_of e) ∙ place ∙ ap address_of d in
    e ∙ ap IntoPair same ∙ sym d

one_first : (fetches : Fetches) (entry : ℕ) (r s : FlowRefusal) → IsFirstCause fetches entry r → IsFirstCause fetches entry s → r ≡ s
one_first fetches entry r s f g =
    let low = f.least_address g.at s g.reached g.bad in
    let high = g.least_address f.at r f.reached f.bad in
    let place : address_of r ≡ address_of s = omega arith in
    let below = f.least_number g.at s g.reached g.bad (sym place) in
    let above = g.least_number f.at r f.reached f.bad place in
    let number : number_of r ≡ number_of s = omega arith in
    one_cause fetches entry f.at g.at r s f.bad g.bad place number

pub one_refusal : (fetches : Fetches) (entry : ℕ) (r s : FlowRefusal) → IsRefusal fetches entry r → IsRefusal fetches entry s → r ≡ s
one_refusal fetches entry r s (too_many more e) (too_many more' d) = e ∙ sym d
one_refusal fetches entry r s (too_many more e) (bad_point few g) = absurd (few more)
one_refusal fetches entry r s (bad_point few f) (too_many more d) = absurd (few more)
one_refusal fetches entry r s (bad_point few f) (bad_point few' g) = one_first fetches entry r s f g

pub bad_point_named : (image : Image) (r : FlowRefusal) → IsFlowRefusal image r → r ≢ TooManyPoints most_points →
    (p : Point) × IsBad image p × (p.address ≡ address_of r)
bad_point_named image r (too_many more e) other = absurd (other e)
bad_point_named image r (bad_point few f) other =
    (f.at, (f.reached, (r, f.bad)), caused_at (fetches_of image) image.entry f.at r f.bad)
