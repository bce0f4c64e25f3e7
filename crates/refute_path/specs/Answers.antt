-- What is answered of a row at a node.
--
--   IsRefuted program u a answer   the row a holds at node u, or the counterexample breaks it there
--   IsAnswer program u a answer    so it is, and the answer is Holds exactly where the row holds
use Rattle.std.specs.Prelude.{◌≡◌, ◌↔◌, ℕ, List}
use Rattle.affine_prog.specs.declared.Program.{Program}
use Rattle.affine_prog.specs.Relations.{Holds as HoldsAt}
use Rattle.refute_path.specs.declared.answer.Refuted.{Refuted}
use Rattle.refute_path.specs.declared.answer.Refuted.TheVariants.{Holds, Broken}
use Rattle.refute_path.specs.Derivations.{IsBreak}

abbrev pub IsRefuted : Program → ℕ → List ℕ → Refuted → Type 0
IsRefuted program u a Holds = HoldsAt program u a
IsRefuted program u a (Broken b) = IsBreak program u a b

pub record IsAnswer (program : Program) (u : ℕ) (a : List ℕ) (answer : Refuted) : Type 0 where
  pub refuted : IsRefuted program u a answer
  pub exact : (answer ≡ Holds) ↔ HoldsAt program u a
