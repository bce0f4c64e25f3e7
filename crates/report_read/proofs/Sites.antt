-- The sites of certificates, point by point.
use Rattle.std.proofs.Common.{◌≡◌, ◌≢◌, ℕ, Bool, cond, eqb, List, [], ◌∷◌, ◌++◌, map, append_assoc, Option, Some, None, refl, sym, ap, ◌∙◌, ⊎_elim}
use Rattle.std.specs.List.{dedup_from}
use Rattle.std.proofs.lemmas.Bool.{cases_eq, eq-eqb, ne_eqb}
use Rattle.std.proofs.lemmas.List.{append-nil}
use Rattle.report_text.specs.declared.points.PointRows.{PointRows}
use Rattle.report_text.specs.Certificates.{procedures_of, sites_of}

abbrev pub Site : Type 0
Site = ℕ × ℕ

abbrev pub sites_in : ℕ → List ℕ → List Site
sites_in p registers = map (λ r. (p, r)) registers

-- the sites that stand in front of a point, behind one of the procedure `before`
abbrev pub opened : List ℕ → Option ℕ → ℕ → List Site
opened registers None p = sites_in p registers
opened registers (Some before) p = cond (eqb before p) [] (sites_in p registers)

abbrev pub sites : List ℕ → Option ℕ → List PointRows → List Site
sites registers before [] = []
sites registers before (point ∷ points) = opened registers before point.proc_entry ++ sites registers (Some point.proc_entry) points

pub same_opened : (registers : List ℕ) (b p : ℕ) → b ≡ p → opened registers (Some b) p ≡ []
same_opened registers b p e = ap (λ (t : Bool). cond t [] (sites_in p registers)) (eq-eqb b p e)

pub other_opened : (registers : List ℕ) (b p : ℕ) → b ≢ p → opened registers (Some b) p ≡ sites_in p registers
other_opened registers b p e = ap (λ (t : Bool). cond t [] (sites_in p registers)) (ne_eqb b p e)

-- the procedures of points, each once, with each register
pub from_kept : (registers : List ℕ) (k : ℕ) (points : List PointRows)
    → sites_of (dedup_from eqb k (map (λ q. q.proc_entry) points)) registers ≡ sites_in k registers ++ sites registers (Some k) points
from_kept registers k [] = refl
from_kept registers k (q ∷ points) = ⊎_elim (same (from_kept registers k points)) (other (from_kept registers q.proc_entry points)) (cases_eq q.proc_entry k)
  where
    rest : Bool → List ℕ
    rest t = cond t (dedup_from eqb k (map (λ x. x.proc_entry) points)) (k ∷ dedup_from eqb q.proc_entry (map (λ x. x.proc_entry) points))

    same : sites_of (dedup_from eqb k (map (λ x. x.proc_entry) points)) registers ≡ sites_in k registers ++ sites registers (Some k) points
        → q.proc_entry ≡ k
        → sites_of (rest (eqb q.proc_entry k)) registers ≡ sites_in k registers ++ sites registers (Some k) (q ∷ points)
    same later e =
        ap (λ (t : Bool). sites_of (rest t) registers) (eq-eqb q.proc_entry k e)
        ∙ later
        ∙ ap (λ (p : ℕ). sites_in k registers ++ sites registers (Some p) points) (sym e)
        ∙ ap (λ (ss : List Site). sites_in k registers ++ (ss ++ sites registers (Some q.proc_entry) points)) (sym (same_opened registers k q.proc_entry (sym e)))

    other : sites_of (dedup_from eqb q.proc_entry (map (λ x. x.proc_entry) points)) registers ≡ sites_in q.proc_entry registers ++ sites registers (Some q.proc_entry) points
        → q.proc_entry ≢ k
        → sites_of (rest (eqb q.proc_entry k)) registers ≡ sites_in k registers ++ sites registers (Some k) (q ∷ points)
    other later apart =
        ap (λ (t : Bool). sites_of (rest t) registers) (ne_eqb q.proc_entry k apart)
        ∙ ap (λ (ss : List Site). sites_in k registers ++ ss) later
        ∙ ap (λ (ss : List Site). sites_in k registers ++ (ss ++ sites registers (Some q.proc_entry) points)) (sym (other_opened registers k q.proc_entry (λ e. apart (sym e))))

pub sites_are : (registers : List ℕ) (points : List PointRows)
    → sites_of (procedures_of points) registers ≡ sites registers None points
sites_are registers [] = refl
sites_are registers (q ∷ points) = from_kept registers q.proc_entry points

-- the procedure of the last point
abbrev pub last_of : Option ℕ → List PointRows → Option ℕ
last_of before [] = before
last_of before (point ∷ points) = last_of (Some point.proc_entry) points

pub sites_push : (registers : List ℕ) (before : Option ℕ) (points : List PointRows) (q : PointRows)
    → sites registers before (points ++ q ∷ []) ≡ sites registers before points ++ opened registers (last_of before points) q.proc_entry
sites_push registers before [] q = append-nil (opened registers before q.proc_entry)
sites_push registers before (p ∷ points) q =
    ap (λ (ss : List Site). opened registers before p.proc_entry ++ ss) (sites_push registers (Some p.proc_entry) points q)
    ∙ sym (append_assoc (opened registers before p.proc_entry) (sites registers (Some p.proc_entry) points) (opened registers (last_of (Some p.proc_entry) points) q.proc_entry))
