-- Each path of a program is one of its block program, and then a chain.
use Rattle.std.proofs.Common.{◌≡◌, ℕ, ◌<◌, inl, inr, List, [], ◌++◌, length, slice_index, refl, ap, ap₂, sym, subst, ◌∙◌, arith}
use Rattle.map_modules.specs.Matrices.{apply}
use Rattle.merged_heads.specs.declared.Merging.{Merging}
use Rattle.affine_prog.specs.declared.Program.{Program}
use Rattle.affine_prog.specs.declared.Kind.TheVariants.{Do, Call}
use Rattle.affine_prog.specs.declared.Assign.{Assign}
use Rattle.affine_prog.specs.Programs.{entry_of, exit_of, IsWellFormed}
use Rattle.affine_prog.specs.Assignments.{matrix_of}
use Rattle.affine_prog.specs.LevelPaths.{opening_map, call_map, LevelPath, opening, step, call}
use Rattle.affine_prog.specs.OpenPaths.{OpenPath, first, enter}
use Rattle.merged_heads.specs.Chains.{Chain, here}
use Rattle.merged_heads.specs.BlockPrograms.{IsBlockProgram}
use Rattle.merged_heads.specs.Laws.{IsLevelAlong, IsOpenAlong}
use Rattle.merged_heads.proofs.Edges.{IsCall, chain_at, at_head}
use Rattle.merged_heads.proofs.Procs.{entry_same, exit_same, as_many}
use Rattle.merged_heads.proofs.Along.{along_nothing, nothing_along, along_more, step_along, call_along, open_from, open_map-append}
use Rattle.affine_prog.proofs.Lemmas.{Choice-append}
use Rattle.merged_heads.proofs.HeadNumbers.{head_at, same_number, entry_head, slots_of_small, block_to, callee_within, head_of_call}

module _ (program : Program) (table : Merging) (heads : List ℕ) (small : Program) (w : IsWellFormed program) (blocks : IsBlockProgram program table heads small) where
  -- level paths
  pub forward : (p u : ℕ) (m : List ℕ) → LevelPath program p u m → (i : ℕ) (chain : List Assign) → i < length heads → Chain program table (slice_index heads i) u chain
      → IsLevelAlong small p i chain m
  forward p u m (opening p' u' words m' within at row is) i chain inside leads =
      let same = entry_same heads program.procs small.procs p blocks.procs within in
      let top = at_head program table (slice_index heads i) u chain (rw at (entry_head program table heads small w blocks p within)) leads in
      let place : i ≡ entry_of small p = same_number program table heads small w blocks i (entry_of small p) inside same.0 (sym top.0 ∙ at ∙ sym same.1) in
      let count = as_many heads program.procs small.procs blocks.procs in
      rw top.1 (along_nothing small p i m (opening p i words m (omega arith) place row
      (is ∙ ap₂ (λ (r s : ℕ). opening_map r s words) (sym blocks.registers) (sym (slots_of_small program table heads small w blocks p)))))
  forward p v n (step p' u v' assigns words m n' path contains choice is) i chain inside leads =
      elim (chain_at program table w blocks.merged (slice_index heads i) u v (Do assigns) chain contains leads) [
        | inl top ↦
            let b = block_to program table heads small w blocks i u v (Do assigns) inside top.same contains in
            rw top.none (along_nothing small p i n
            (step_along small p b.from i (b.chain ++ assigns) n (along_more small p b.from b.chain assigns words m n (forward p u m path b.from b.chain b.within b.leads) choice is) b.member))
        | inr on ↦ rw on.more (along_more small p i on.rest assigns words m n (forward p u m path i on.rest inside on.leads) choice is)
      ]
  forward p v n (call p' q u v' before words m callee n' path contains choice called is) i chain inside leads =
      elim (chain_at program table w blocks.merged (slice_index heads i) u v (Call q before) chain contains leads) [
        | inl top ↦
            let b = block_to program table heads small w blocks i u v (Call q before) inside top.same contains in
            let within = callee_within program table heads small w blocks q u v before contains in
            let out = exit_same heads program.procs small.procs q blocks.procs within in
            let back = forward q (exit_of program q) callee called (exit_of small q) [] out.0 (here _ _ [] (head_at program table heads small w blocks (exit_of small q) out.0) (sym out.1) refl) in
            rw top.none (along_nothing small p i n
            (call_along small p b.from q i b.chain before words m callee n (forward p u m path b.from b.chain b.within b.leads) b.member choice
            (nothing_along small q (exit_of small q) callee back)
            (is ∙ ap₂ (λ (r s : ℕ). call_map r s (matrix_of before words) callee m) (sym blocks.registers) (sym (slots_of_small program table heads small w blocks p)))))
        | inr on ↦ absurd (subst IsCall on.is_do tt)
      ]

  -- open paths
  pub open_forward : (start : List ℕ) (u : ℕ) (v : List ℕ) → OpenPath program start u v → (i : ℕ) (chain : List Assign) → i < length heads → Chain program table (slice_index heads i) u chain
      → IsOpenAlong small start i chain v
  open_forward start u v (first u' m v' path is) i chain inside leads =
      let a = rw (← blocks.start) at (forward program.start u m path i chain inside leads) in
      open_from small start i chain m start v a (λ m' lower. first i m' (apply m' start) lower refl) is
  open_forward start w' after' (enter q u v w'' before words m state after'' path contains choice called is) i chain inside leads =
      let top = head_of_call program table heads small w blocks u v q before contains in
      let b = block_to program table heads small w blocks top.0 u v (Call q before) top.1 top.2 contains in
      let caller = open_forward start u state path b.from b.chain b.within b.leads in
      open_from small start i chain m (apply (matrix_of before words) state) after'
      (forward q w' m called i chain inside leads)
      (λ m' lower. enter q b.from top.0 i (b.chain ++ before) (caller.words ++ words) m' caller.first (apply m' (apply (matrix_of before words) state)) caller.path b.member
      (Choice-append b.chain before caller.words words caller.choice choice) lower
      (ap (apply m') (open_map-append b.chain before caller.words words state caller.first caller.choice caller.state)))
      is
