-- What a report tells of that the file doesn't have.
--
--   FirstIs P value xs found     the value of the first of xs for which P holds, if there is one
--   IsStrangeName procedures name   the name is a slot of a procedure that is none of these
--   procedure_of name            the procedure of a slot
--   IsStrangePoint points told   the point that is told of is none of these
--   first_some one other         the first of two answers that is one
--   IsStranger points report found   the procedure of the first slot name whose procedure is none of the file's; else the
--                                address of the first point of the report that is none of the file's; if there is either
use Rattle.std.specs.Prelude.{◌≡◌, ◌⊎◌, ℕ, List, [], ◌∷◌, Contains, Option, None, Some}
use Rattle.flow_points.specs.Walks.{point}
use Rattle.flow_points.specs.PointLists.{FlowPoints, places_of}
use Rattle.flow_points.specs.declared.code_points.CodePoint.{CodePoint}
use Rattle.report_text.specs.declared.names.Name.{Name}
use Rattle.report_text.specs.declared.names.Name.TheVariants.{Register, Slot}
use Rattle.report_text.specs.declared.points.PointRows.{PointRows}

abbrev pub FirstIs : {A : Type 0} → (A → Type 0) → (A → ℕ) → List A → Option ℕ → Type 0
FirstIs P value [] found = found ≡ None
FirstIs P value (x ∷ xs) found = (P x × (found ≡ Some (value x))) ⊎ ((P x → ⊥) × FirstIs P value xs found)

abbrev pub IsStrangeName : List ℕ → Name → Type 0
IsStrangeName procedures (Register r) = ⊥
IsStrangeName procedures (Slot p below) = Contains procedures p → ⊥

abbrev pub procedure_of : Name → ℕ
procedure_of (Register r) = 0
procedure_of (Slot p below) = p

abbrev pub IsStrangePoint : List CodePoint → PointRows → Type 0
IsStrangePoint points told = Contains (places_of points) (point told.proc_entry told.address) → ⊥

abbrev pub first_some : Option ℕ → Option ℕ → Option ℕ
first_some None other = other
first_some (Some a) other = Some a

pub record IsStranger (points : FlowPoints) (names : List Name) (told : List PointRows) (found : Option ℕ) : Type 0 where
  pub name : Option ℕ
  pub place : Option ℕ
  pub names_first : FirstIs (IsStrangeName points.procedures) procedure_of names name
  pub points_first : FirstIs (IsStrangePoint points.points) (λ t. t.address) told place
  pub is : found ≡ first_some name place
