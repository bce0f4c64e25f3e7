-- Of a report that tells only of the file's points: its procedures are the file's, and want of memory is an answer.
use Rattle.std.proofs.Common.{◌≡◌, ℕ, ◌⊎◌, inl, inr, List, [], ◌∷◌, map, All, Contains, Option, None, Some, Result, Ok, Err, ap, sym, subst, arith}
use Rattle.std.specs.Prelude.{nat_eq, MatchResult}
use Rattle.std.specs.Result.{IsErrAnd}
use Rattle.std.proofs.lemmas.Bool.{cases_eq}
use Rattle.std.proofs.lemmas.List.Elements.{Contains-get_or, Contains-append_right}
use Rattle.std.proofs.lemmas.List.Kept.{Contains-from_dedup}
use Rattle.flow_points.specs.Walks.{point}
use Rattle.flow_points.specs.PointLists.{FlowPoints, HasCode, entries_of, places_of}
use Rattle.flow_points.specs.declared.code_points.CodePoint.{CodePoint}
use Rattle.flow_points.specs.declared.code_points.Point.{Point}
use Rattle.flow_points.proofs.Cited.{cons_cases, Contains-map, from_map}
use Rattle.flow_points.proofs.PointLaws.{all_procedures}
use Rattle.report_text.specs.Certificates.{procedures_of}
use Rattle.report_text.specs.declared.points.PointRows.{PointRows}
use Rattle.report_text.specs.declared.reports.Report.{Report}
use Rattle.report_places.specs.Strangers.{FirstIs, IsStrangePoint, first_some}
use Rattle.analyser_core.specs.Upgrades.{IsKnown, IsUpgradeOf, IsUpgradeRefusal}
use Rattle.analyser_core.specs.declared.upgrades.UpgradeRefusal.{UpgradeRefusal}
use Rattle.analyser_core.specs.declared.upgrades.UpgradeRefusal.TheVariants.{Memory}

-- a number is in a list or not
in_or_not : (xs : List ℕ) (x : ℕ) → Contains xs x ⊎ (Contains xs x → ⊥)
in_or_not [] x = inr (λ there. omega (arith, there.1))
in_or_not (y ∷ ys) x = elim (cases_eq y x) [
  | inl same ↦ inl (0, omega arith, same)
  | inr other ↦
      elim (in_or_not ys x) [
        | inl later ↦ inl (Contains-append_right (y ∷ []) ys x later)
        | inr nowhere ↦ inr (λ there. elim (cons_cases y ys x there) [ inl here ↦ other here | inr later ↦ nowhere later ])
      ]
]

abbrev FirstStrange : List CodePoint → List PointRows → Option ℕ → Type 0
FirstStrange points told found = FirstIs (IsStrangePoint points) (λ t. t.address) told found

none_strange : (points : List CodePoint) (told : List PointRows) (d : PointRows) → FirstStrange points told None → Contains told d
    → IsStrangePoint points d → ⊥
none_strange points [] d none there strange = omega (arith, there.1)
none_strange points (t ∷ told) d none there strange = elim none [
  | inl found ↦ let clash : None ≡ Some t.address = found.1 in cc clash
  | inr rest ↦
      elim (cons_cases t told d there) [
        | inl here ↦ rest.0 (subst (IsStrangePoint points) (sym here) strange)
        | inr later ↦ none_strange points told d rest.1 later strange
      ]
]

module _ (points : FlowPoints) (has : HasCode points) (told : List PointRows) (none : FirstStrange points.points told None) where
  entry_there : (p a : ℕ) → Contains (places_of points.points) (point p a) → Contains points.procedures p
  entry_there p a there =
      let c = from_map (λ (c : CodePoint). c.point) points.points (point p a) there in
      all_procedures points p has
      (subst (Contains (entries_of points.points)) (ap (λ (q : Point). q.proc_entry) c.2)
      (Contains-map (λ (c : CodePoint). c.point.proc_entry) points.points c.0 c.1))

  procedure_there : (d : PointRows) → Contains told d → Contains points.procedures d.proc_entry
  procedure_there d at = elim (in_or_not points.procedures d.proc_entry) [
    | inl there ↦ there
    | inr nowhere ↦ absurd (none_strange points.points told d none at
        (λ there. nowhere (entry_there d.proc_entry d.address there)))
  ]

  procedures_known : All (Contains points.procedures) (procedures_of told)
  procedures_known k d below =
      let entries : List ℕ = map (λ (p : PointRows). p.proc_entry) told in
      let one = Contains-from_dedup nat_eq entries _ (Contains-get_or (procedures_of told) k d below) in
      let t = from_map (λ (p : PointRows). p.proc_entry) told _ one in
      subst (Contains points.procedures) t.2 (procedure_there t.0 t.1)

known_points : (points : FlowPoints) (old : Report) → IsKnown points old → FirstStrange points.points old.points None
known_points points old known = by known.name known.place known.is known.points_first
  where
    by : (name place : Option ℕ) → None ≡ first_some name place → FirstStrange points.points old.points place
        → FirstStrange points.points old.points None
    by None place is first_is = subst (FirstStrange points.points old.points) (sym is) first_is
    by (Some a) place is first_is = cc is

pub known_procedures : (points : FlowPoints) (old : Report) → HasCode points → IsKnown points old
    → All (Contains points.procedures) (procedures_of old.points)
known_procedures points old has known = procedures_known points has old.points (known_points points old known)

pub wants_memory : (points : FlowPoints) (old : Report) (result : Result Report UpgradeRefusal) → IsErrAnd result (λ e. e ≡ Memory)
    → (old.version ≡ 1) × IsKnown points old → MatchResult result (IsUpgradeOf points old) (IsUpgradeRefusal points old)
wants_memory points old (Ok new) is fit = absurd is
wants_memory points old (Err why) is fit = subst (IsUpgradeRefusal points old) (sym is) fit
