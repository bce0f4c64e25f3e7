-- What spans all that a callee, as its caller sees it, makes of a row.
use Rattle.std.proofs.Common.{◌≡◌, ℕ, List, Contains, refl, ap, sym, ◌∙◌, arith}
use Rattle.row_modules.specs.Modules.{AreRows, IsCombination, SameModule}
use Rattle.row_modules.specs.Maps.{IsLinear}
use Rattle.row_modules.proofs.Laws.{combinations, generator, mapped_into, within_from_generators}
use Rattle.map_modules.specs.Matrices.{apply, extension, linear_extension, with_slots, IsAffine}
use Rattle.map_modules.proofs.Lemmas.{IsRow-matrix, IsRow-vector}
use Rattle.map_modules.proofs.Lemmas.{apply_first, extension_sum}
use Rattle.affine_prog.specs.declared.Program.{Program}
use Rattle.affine_prog.specs.Programs.{exit_of, IsWellFormed}
use Rattle.affine_prog.specs.Spans.{IsMapOf}
use Rattle.affine_prog.proofs.Lemmas.{level_map}
use Rattle.row_images.specs.States.{Makes, Spans}
use Rattle.reach_modules.specs.Made.{returned_of}
use Rattle.reach_modules.specs.Moves.{IsReturn}
use Rattle.row_engine.proofs.Members.{map_in, map_out}
use Rattle.reach_modules.proofs.Spanning.{made_are_rows}

module _ (registers slots : ℕ) (v : List ℕ) where
  abbrev returned : List ℕ → List ℕ
  returned n = apply (linear_extension registers slots n) v

  return_is_linear : IsLinear 289 17 returned
  return_is_linear = record {
    rows = λ n r. IsRow-vector _;
    sum = λ c m n left right. ap (λ x. apply x v) (extension_sum registers slots c m n left right)
        ∙ apply_first v c (linear_extension registers slots m) (linear_extension registers slots n) (IsRow-matrix _) (IsRow-matrix _);
  }

  returned_is : (n : List ℕ) → IsAffine n → returned n ≡ apply (extension registers slots n) v
  returned_is n a = ap (λ one. apply (with_slots one registers slots n) v) (a 16 (omega arith))

module _ (program : Program) (formed : IsWellFormed program) (s q : ℕ) (exits : List (List ℕ)) (v : List ℕ) (rows : AreRows 289 (Contains exits)) (same : SameModule 289 (Contains exits) (IsMapOf program q)) where
  abbrev all : List (List ℕ)
  all = returned_of program.registers s exits v

  made : AreRows 17 (Makes (IsReturn program s q) v)
  made = made_are_rows (IsReturn program s q) v

  all_rows : AreRows 17 (Contains all)
  all_rows w h = let i = map_out (returned program.registers s v) exits w h in rw (i.2) (IsRow-vector _)

  maps_are_rows : AreRows 289 (IsMapOf program q)
  maps_are_rows n path = (level_map program formed q (exit_of program q) n path).0

  map_is : (n : List ℕ) → IsMapOf program q n → returned program.registers s v n ≡ apply (extension program.registers s n) v
  map_is n path = returned_is program.registers s v n (level_map program formed q (exit_of program q) n path).1

  pub returned_spans : Spans all (Makes (IsReturn program s q) v)
  returned_spans = record {
    rows_are = all_rows;
    same = record {
      there = within_from_generators 17 (Contains all) (Makes (IsReturn program s q) v) made
          (λ w h. let i = map_out (returned program.registers s v) exits w h in
          rw (i.2) (mapped_into 289 17 (returned program.registers s v) (return_is_linear program.registers s v) (IsMapOf program q) (IsCombination 17 (Makes (IsReturn program s q) v)) maps_are_rows
          (combinations 17 (Makes (IsReturn program s q) v) made)
          (λ n path. generator 17 (Makes (IsReturn program s q) v) made (returned program.registers s v n) (extension program.registers s n, (n, path, refl), map_is n path))
          i.0 (same.there i.0 (generator 289 (Contains exits) rows i.0 i.1))));
      back = within_from_generators 17 (Makes (IsReturn program s q) v) (Contains all) all_rows
          (λ w (m, (n, path, is), e). rw (e ∙ ap (λ x. apply x v) is ∙ sym (map_is n path))
          (mapped_into 289 17 (returned program.registers s v) (return_is_linear program.registers s v) (Contains exits) (IsCombination 17 (Contains all)) rows (combinations 17 (Contains all) all_rows)
          (λ x h. generator 17 (Contains all) all_rows (returned program.registers s v x) (map_in (returned program.registers s v) exits x h))
          n (same.back n (generator 289 (IsMapOf program q) maps_are_rows n path))));
    };
  }
