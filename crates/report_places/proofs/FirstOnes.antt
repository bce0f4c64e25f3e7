-- The first item of a list for which something holds.
use Rattle.std.proofs.Common.{◌≡◌, ◌↔◌, ℕ, ◌+◌, ◌<◌, ◌≤◌, Bool, true, false, not, is_some, IsTrue, List, [], ◌∷◌, length, drop, get_or, slice_get, Contains, Option, None, Some, IfSome, IfNone, IsSomeAnd, sym, subst, ap, ◌∙◌, inl, inr, refl}
use Rattle.std.proofs.lemmas.Bool.{false≢true}
use Rattle.std.proofs.lemmas.List.{drop_more, drop_all}
use Rattle.flow_points.specs.PointLists.{FlowPoints, places_of}
use Rattle.flow_points.specs.declared.code_points.CodePoint.{CodePoint}
use Rattle.flow_points.specs.declared.code_points.Point.{Point}
use Rattle.flow_points.proofs.Cited.{Contains-map, item_there}
use Rattle.report_text.specs.declared.names.Name.{Name}
use Rattle.report_text.specs.declared.points.PointRows.{PointRows}
use Rattle.report_places.specs.Strangers.{FirstIs, IsStrangeName, IsStrangePoint, IsStranger, procedure_of, first_some}

pub first_here : {X : Type 0} (P : X → Type 0) (value : X → ℕ) (xs : List X) (i : ℕ) (d : X) → i < length xs
    → P (get_or xs i d) → FirstIs P value (drop i xs) (Some (value (get_or xs i d)))
first_here P value xs i d within h =
    subst (λ ys. FirstIs P value ys (Some (value (get_or xs i d)))) (sym (drop_more xs i d within)) (inl (h, refl))

pub first_later : {X : Type 0} (P : X → Type 0) (value : X → ℕ) (xs : List X) (i : ℕ) (d : X) (found : Option ℕ)
    → i < length xs → (P (get_or xs i d) → ⊥) → FirstIs P value (drop (i + 1) xs) found → FirstIs P value (drop i xs) found
first_later P value xs i d found within h later =
    subst (λ ys. FirstIs P value ys found) (sym (drop_more xs i d within)) (inr (h, later))

pub one_first : {X : Type 0} (P : X → Type 0) (value : X → ℕ) (xs : List X) (a b : Option ℕ)
    → FirstIs P value xs a → FirstIs P value xs b → a ≡ b
one_first P value [] a b e f = e ∙ sym f
one_first P value (x ∷ xs) a b (inl e) (inl f) = e.1 ∙ sym f.1
one_first P value (x ∷ xs) a b (inl e) (inr f) = absurd (f.0 e.0)
one_first P value (x ∷ xs) a b (inr e) (inl f) = absurd (e.0 f.0)
one_first P value (x ∷ xs) a b (inr e) (inr f) = one_first P value xs a b e.1 f.1

pub one_stranger : (points : FlowPoints) (names : List Name) (told : List PointRows) (a b : Option ℕ)
    → IsStranger points names told a → IsStranger points names told b → a ≡ b
one_stranger points names told a b e f =
    let names_one : e.name ≡ f.name = one_first (IsStrangeName points.procedures) procedure_of names e.name f.name e.names_first f.names_first in
    let points_one : e.place ≡ f.place =
    one_first (IsStrangePoint points.points) (λ t. t.address) told e.place f.place e.points_first f.points_first in
    e.is ∙ ap (λ n. first_some n e.place) names_one ∙ ap (λ n. first_some f.name n) points_one ∙ sym f.is

pub first_at_end : {X : Type 0} (P : X → Type 0) (value : X → ℕ) (xs : List X) (i : ℕ) → length xs ≤ i
    → FirstIs P value (drop i xs) None
first_at_end P value xs i past = subst (λ ys. FirstIs P value ys None) (sym (drop_all i xs past)) refl

there_at : (points : List CodePoint) (p : Point) (i : ℕ) (o : Option CodePoint) → slice_get points i ≡ o
    → IsSomeAnd o (λ c. c.point ≡ p) → Contains (places_of points) p
there_at points p i None e h = absurd h
there_at points p i (Some c) e h = subst (λ q. Contains (places_of points) q) h (Contains-map (λ c. c.point) points c (item_there points i c e))

-- a search that finds nothing
pub is_absent : (points : List CodePoint) (p : Point) (o : Option ℕ) (none : Bool) → is_some o ≡ not none
    → IfSome o (λ i. IsSomeAnd (slice_get points i) (λ c. c.point ≡ p)) → IfNone o (Contains (places_of points) p → ⊥)
    → IsTrue none ↔ (Contains (places_of points) p → ⊥)
is_absent points p None true e found absent = (λ h. absent, λ h. refl)
is_absent points p None false e found absent = cc
is_absent points p (Some i) true e found absent = cc
is_absent points p (Some i) false e found absent =
    (λ h. absurd (false≢true h), λ h. absurd (h (there_at points p i (slice_get points i) refl found)))
