-- Each path of the block program is one of the program, and so is it with a chain behind it.
use Rattle.std.proofs.Common.{ℕ, ◌<◌, List, length, slice_index, refl, ap, ap₂, sym, subst, ◌∙◌, arith}
use Rattle.map_modules.specs.Matrices.{product, apply, extension}
use Rattle.merged_heads.specs.declared.Merging.{Merging}
use Rattle.affine_prog.specs.declared.Program.{Program}
use Rattle.affine_prog.specs.declared.Assign.{Assign}
use Rattle.affine_prog.specs.Programs.{exit_of, slots_of, IsWellFormed}
use Rattle.affine_prog.specs.Assignments.{matrix_of}
use Rattle.affine_prog.specs.LevelPaths.{opening_map, step_map, call_map, LevelPath, opening, step, call}
use Rattle.affine_prog.specs.OpenPaths.{OpenPath, first, enter}
use Rattle.merged_heads.specs.Chains.{Chain}
use Rattle.merged_heads.specs.BlockPrograms.{IsBlockProgram}
use Rattle.affine_prog.proofs.Lemmas.{Choice-parts}
use Rattle.merged_heads.proofs.Sources.{edge_of_do, edge_of_call}
use Rattle.merged_heads.proofs.Procs.{slots_same, entry_same, exit_same, as_many}
use Rattle.merged_heads.specs.Laws.{IsLevelAlong, IsOpenAlong}
use Rattle.merged_heads.proofs.Along.{step_map-append, open_map-append}
use Rattle.merged_heads.proofs.Following.{follow, open_follow}

module _ (program : Program) (table : Merging) (heads : List ℕ) (small : Program) (w : IsWellFormed program) (blocks : IsBlockProgram program table heads small) where
  pub back : (p i : ℕ) (m : List ℕ) → LevelPath small p i m → LevelPath program p (slice_index heads i) m
  back p i m (opening p' i' words m' within at row is) =
      let count = as_many heads program.procs small.procs blocks.procs in
      let inside : p < length program.procs = omega arith in
      let same = entry_same heads program.procs small.procs p blocks.procs inside in
      opening p _ words m inside (ap (slice_index heads) at ∙ same.1) row
      (is ∙ ap₂ (λ (r s : ℕ). opening_map r s words) blocks.registers (slots_same heads program.procs small.procs p blocks.procs))
  back p j n (step p' i j' assigns words m n' path contains choice is) =
      let e = edge_of_do program table heads small w blocks i j assigns contains in
      let c = Choice-parts e.chain e.mine words (let s = e.parts in rw s at choice) in
      step p e.node _ e.mine c.second _ n (follow program table p _ e.node e.chain c.first m (back p i m path) e.leads c.first_choice) e.member c.second_choice
      (is ∙ ap₂ (λ (xs : List Assign) (ws : List ℕ). step_map xs ws m) e.parts (sym c.both) ∙ step_map-append e.chain e.mine c.first c.second m c.first_choice)
  back p j n (call p' q i j' before words m callee n' path contains choice called is) =
      let e = edge_of_call program table heads small w blocks i j q before contains in
      let c = Choice-parts e.chain e.mine words (let s = e.parts in rw s at choice) in
      let out = exit_same heads program.procs small.procs q blocks.procs e.within in
      call p q e.node _ e.mine c.second _ callee n (follow program table p _ e.node e.chain c.first m (back p i m path) e.leads c.first_choice) e.member c.second_choice
      (rw out.1 at (back q (exit_of small q) callee called))
      (is ∙ ap₂ (λ (r s : ℕ). call_map r s (matrix_of before words) callee m) blocks.registers (slots_same heads program.procs small.procs p blocks.procs)
      ∙ ap (product (extension program.registers (slots_of program p) callee))
      (ap₂ (λ (xs : List Assign) (ws : List ℕ). step_map xs ws m) e.parts (sym c.both) ∙ step_map-append e.chain e.mine c.first c.second m c.first_choice))

  pub open_back : (start : List ℕ) (i : ℕ) (v : List ℕ) → OpenPath small start i v → OpenPath program start (slice_index heads i) v
  open_back start i v (first i' m v' path is) = first _ m v (back program.start i m (subst (λ p. LevelPath small p i m) blocks.start path)) is
  open_back start k after' (enter q i j k' before words m state after'' path contains choice called is) =
      let e = edge_of_call program table heads small w blocks i j q before contains in
      let c = Choice-parts e.chain e.mine words (let s = e.parts in rw s at choice) in
      enter q e.node _ _ e.mine c.second m (apply (matrix_of e.chain c.first) state) after'
      (open_follow program table start _ e.node e.chain c.first state (open_back start i state path) e.leads c.first_choice) e.member c.second_choice (back q k m called)
      (is ∙ ap (apply m) (ap₂ (λ (xs : List Assign) (ws : List ℕ). apply (matrix_of xs ws) state) e.parts (sym c.both) ∙ sym (open_map-append e.chain e.mine c.first c.second _ state c.first_choice refl)))

  pub along_back : (p i u : ℕ) (chain : List Assign) (m : List ℕ) → Chain program table (slice_index heads i) u chain → IsLevelAlong small p i chain m → LevelPath program p u m
  along_back p i u chain m leads a = rw a.map (follow program table p _ u chain a.words a.first (back p i a.first a.path) leads a.choice)

  pub open_along_back : (start : List ℕ) (i u : ℕ) (chain : List Assign) (v : List ℕ) → Chain program table (slice_index heads i) u chain → IsOpenAlong small start i chain v → OpenPath program start u v
  open_along_back start i u chain v leads a = rw a.state (open_follow program table start _ u chain a.words a.first (open_back start i a.first a.path) leads a.choice)
