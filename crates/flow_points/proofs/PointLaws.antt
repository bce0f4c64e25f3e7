-- What follows of points, whatever the code is.
use Rattle.std.proofs.Common.{◌≡◌, ◌↔◌, ◌≤◌, ◌<◌, ◌+◌, ℕ, nat_eq, List, length, get_or, false, All, Contains, refl, sym, ap, subst, inl, inr, arith}
use Rattle.std.specs.Cmp.{nat_cmp_is}
use Rattle.std.specs.List.Sorted.{IsSorted, IsStrictlyIncreasing}
use Rattle.std.specs.Ordering.{is_lt, nat_cmp}
use Rattle.std.specs.declared.cmp.Ordering.TheVariants.{Equal, Greater}
use Rattle.std.proofs.lemmas.Bool.{cases_lt}
use Rattle.std.proofs.lemmas.List.{get_or-map, length-map}
use Rattle.std.proofs.lemmas.List.Elements.{All-contains, All-weaker}
use Rattle.std.proofs.lemmas.List.Kept.{Contains-dedup_nat, Contains-from_dedup}
use Rattle.std.proofs.lemmas.Map.Keys.{IsStrictlyIncreasing-dedup}
use Rattle.elf_image.specs.declared.image.Image.{Image}
use Rattle.rv_decode.specs.Instructions.{IsWellFormed}
use Rattle.rvc_expand.proofs.Cited.{meaning_in_range}
use Rattle.flow_points.specs.Walks.{FlowWalk, IsPoint, begin, onward, start, successors_of}
use Rattle.flow_points.specs.Flows.{IsCode}
use Rattle.flow_points.specs.PointLists.{FlowPoints, ArePointsOf, HasCode, IsBefore, entries_of, places_of}
use Rattle.flow_points.specs.declared.code_points.CodePoint.{CodePoint}
use Rattle.flow_points.specs.declared.code_points.Point.{Point}
use Rattle.flow_points.proofs.Lists.{from_map}
use Rattle.flow_points.proofs.Ascent.{some_item}

pub walk_ends : (image : Image) (points : FlowPoints) (p : Point) → ArePointsOf image points → IsPoint image p ↔ Contains (places_of points.points) p
walk_ends image points p are = (are.all p, ends)
  where
    ends : Contains (places_of points.points) p → IsPoint image p
    ends at =
        let (c, there, is) = from_map (λ (d : CodePoint). d.point) points.points p at in
        subst (IsPoint image) is (All-contains (λ (d : CodePoint). IsPoint image d.point) points.points c are.only there)

pub begins : (points : FlowPoints) → HasCode points → Contains (places_of points.points) (start points.entry)
begins points has = has.are.all (start points.entry) (begin (start points.entry) refl)

pub goes_on : (points : FlowPoints) (c : CodePoint) (to : Point) → HasCode points → Contains points.points c
    → Contains (successors_of c.point.proc_entry c.flow) to → Contains (places_of points.points) to
goes_on points c to has at next =
    let walk = All-contains (λ (d : CodePoint). FlowWalk has.fetches points.entry d.point) points.points c has.are.only at in
    let code = All-contains (IsCode has.fetches) points.points c has.are.code at in
    has.are.all to (onward c.point to c.flow walk code.flow next)

not_below : (a b : ℕ) → b ≤ a → is_lt (nat_cmp a b) ≡ false
not_below a b h =
    elim (cases_lt b a) [
      | inl k ↦ ap is_lt (sym (nat_cmp_is a b Greater k))
      | inr k ↦ let e : a ≡ b = omega arith in ap is_lt (sym (nat_cmp_is a b Equal e))
    ]

at_most : (p q : Point) → IsBefore p q → p.proc_entry ≤ q.proc_entry
at_most p q (inl h) = omega arith
at_most p q (inr h) = omega (arith, h.0)

sorted_at : (points : List CodePoint) (k d : ℕ) → k + 1 < length points
    → ((c : CodePoint) → k + 1 < length points → IsBefore (get_or points k c).point (get_or points (k + 1) c).point)
    → is_lt (nat_cmp (get_or (entries_of points) (k + 1) d) (get_or (entries_of points) k d)) ≡ false
sorted_at points k d lt up = by (some_item points k (omega arith))
  where
    by : CodePoint → is_lt (nat_cmp (get_or (entries_of points) (k + 1) d) (get_or (entries_of points) k d)) ≡ false
    by c =
        let low = get_or-map (λ (x : CodePoint). x.point.proc_entry) points k c d (omega arith) in
        let high = get_or-map (λ (x : CodePoint). x.point.proc_entry) points (k + 1) c d lt in
        let below = at_most (get_or points k c).point (get_or points (k + 1) c).point (up c lt) in
        not_below (get_or (entries_of points) (k + 1) d) (get_or (entries_of points) k d) (omega (arith, low, high, below))

entries_sorted : (points : FlowPoints) → HasCode points → IsSorted nat_cmp (entries_of points.points)
entries_sorted points has k d low below =
    sorted_at points.points k d (omega (arith, length-map points.points (λ (c : CodePoint). c.point.proc_entry)))
    (λ c lt. has.are.ascending k (k + 1) c (omega arith) lt)

pub ascending : (points : FlowPoints) → HasCode points → IsStrictlyIncreasing points.procedures
ascending points has =
    subst IsStrictlyIncreasing (sym has.are.procedures_are) (IsStrictlyIncreasing-dedup (entries_of points.points) (entries_sorted points has))

pub all_procedures : (points : FlowPoints) (p : ℕ) → HasCode points → Contains (entries_of points.points) p → Contains points.procedures p
all_procedures points p has at =
    subst (λ (ps : List ℕ). Contains ps p) (sym has.are.procedures_are) (Contains-dedup_nat (entries_of points.points) p at)

pub only_procedures : (points : FlowPoints) (p : ℕ) → HasCode points → Contains points.procedures p → Contains (entries_of points.points) p
only_procedures points p has at =
    Contains-from_dedup nat_eq (entries_of points.points) p (subst (λ (ps : List ℕ). Contains ps p) has.are.procedures_are at)

-- the fields of each point's instruction are in range
pub in_range : (points : FlowPoints) → HasCode points → All (λ c. IsWellFormed c.instr) points.points
in_range points has =
    All-weaker (IsCode has.fetches) (λ c. IsWellFormed c.instr) (λ c code. meaning_in_range c.word c.length c.instr code.instr.means)
    points.points has.are.code
