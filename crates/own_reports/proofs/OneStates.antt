-- What a program's reports tell of their points is one.
use Rattle.std.proofs.Common.{◌≡◌, ℕ, zero, suc, List, [], ◌∷◌, length, Contains, slice_get, Some, refl, ap, ◌∙◌, arith}
use Rattle.row_modules.specs.Bases.{IsLeadingBasis}
use Rattle.row_modules.specs.Modules.{Generates, IsCombination, SameModule}
use Rattle.row_modules.proofs.Laws.{combinations, module_least}
use Rattle.lead_basis.proofs.Leading.{basis_rows}
use Rattle.lead_basis.proofs.Laws.{unique_reduced}
use Rattle.affine_prog.specs.declared.Program.{Program}
use Rattle.report_text.specs.Reports.{AreRowsAtState}
use Rattle.report_text.specs.declared.names.Name.{Name}
use Rattle.report_text.specs.declared.points.PointState.{PointState}
use Rattle.report_text.specs.declared.points.PointState.TheVariants.{Rows, Unreached}
use Rattle.analyser_core.specs.Reports.{TellsState}

same_module : (P : List ℕ → Type 0) (xs ys : List (List ℕ)) → IsLeadingBasis 17 xs → IsLeadingBasis 17 ys → Generates 17 xs P
    → Generates 17 ys P → SameModule 17 (Contains xs) (Contains ys)
same_module P xs ys b c g h = record {
  there = module_least 17 (IsCombination 17 (Contains ys)) (combinations 17 (Contains ys) (basis_rows 17 ys c)) (Contains xs)
      (λ v there. h.all v (g.inside v there));
  back = module_least 17 (IsCombination 17 (Contains xs)) (combinations 17 (Contains xs) (basis_rows 17 xs b)) (Contains ys)
      (λ v there. g.all v (h.inside v there));
}

pub one_state : (program : Program) (u p : ℕ) (names others : List Name) (a b : PointState) → TellsState program u a
    → TellsState program u b → AreRowsAtState names p a → AreRowsAtState others p b → a ≡ b
one_state program u p names others Unreached Unreached h k r s = refl
one_state program u p names others Unreached (Rows rows) h k r s = absurd (h k.0)
one_state program u p names others (Rows rows) Unreached h k r s = absurd (k h.0)
one_state program u p names others (Rows xs) (Rows ys) h k r s =
    ap Rows (unique_reduced 17 xs ys r.basis s.basis r.reduced s.reduced (same_module _ xs ys r.basis s.basis h.1 k.1))

-- lists of one length are one where their items are
pub one_by_index : {X : Type 0} (xs ys : List X) → length xs ≡ length ys
    → ((u : ℕ) (x y : X) → slice_get xs u ≡ Some x → slice_get ys u ≡ Some y → x ≡ y) → xs ≡ ys
one_by_index [] [] same each = refl
one_by_index [] (y ∷ ys) same each = absurd (omega (arith, same))
one_by_index (x ∷ xs) [] same each = absurd (omega (arith, same))
one_by_index {X} (x ∷ xs) (y ∷ ys) same each =
    let heads : x ≡ y = each zero x y refl refl in
    let tails : xs ≡ ys = one_by_index xs ys (omega (arith, same)) (λ u a b h k. each (suc u) a b h k) in
    ap (λ (z : X). z ∷ xs) heads ∙ ap (λ (zs : List X). y ∷ zs) tails
