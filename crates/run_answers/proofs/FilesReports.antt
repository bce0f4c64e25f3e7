-- A report whose slots' procedures and points are the file's tells of nothing else.
use Rattle.std.proofs.Common.{◌≡◌, ℕ, List, [], ◌∷◌, Option, None, Some, ap₂, inl, inr, ◌∙◌}
use Rattle.std.specs.List.{AllByRecursion}
use Rattle.std.proofs.lemmas.List.Elements.{recursion_from_All}
use Rattle.report_text.specs.declared.names.Name.{Name}
use Rattle.report_text.specs.declared.names.Name.TheVariants.{Register, Slot}
use Rattle.report_places.specs.Strangers.{FirstIs, IsStrangeName, IsStrangePoint, first_some, procedure_of}
use Rattle.run_answers.specs.Laws.{FilesReportsAreKnown, IsNameOf, IsPointOf}

-- none is the first where each is another
first_none : {A : Type 0} (P Q : A → Type 0) (value : A → ℕ) (xs : List A) (found : Option ℕ) → ((x : A) → Q x → P x → ⊥)
    → AllByRecursion Q xs → FirstIs P value xs found → found ≡ None
first_none P Q value [] found apart all first = first
first_none P Q value (x ∷ xs) found apart all (inl here) = absurd (apart x all.0 here.0)
first_none P Q value (x ∷ xs) found apart all (inr later) = first_none P Q value xs found apart all.1 later.1

not_strange : (procedures : List ℕ) (name : Name) → IsNameOf procedures name → IsStrangeName procedures name → ⊥
not_strange procedures (Register r) of strange = strange
not_strange procedures (Slot p below) of strange = strange of

pub files_are_known : FilesReportsAreKnown
files_are_known points report of address strange = let e = none_at_all in absurd cc
  where
    no_name : strange.name ≡ None
    no_name =
        first_none (IsStrangeName points.procedures) (IsNameOf points.procedures) procedure_of report.tracked.names strange.name
        (not_strange points.procedures) (recursion_from_All (IsNameOf points.procedures) report.tracked.names of.names)
        strange.names_first

    no_point : strange.place ≡ None
    no_point =
        first_none (IsStrangePoint points.points) (IsPointOf points.points) (λ told. told.address) report.points strange.place
        (λ told here away. away here) (recursion_from_All (IsPointOf points.points) report.points of.places)
        strange.points_first

    none_at_all : Some address ≡ None
    none_at_all = strange.is ∙ ap₂ first_some no_name no_point
