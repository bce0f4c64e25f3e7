-- Paths go on along a chain.
use Rattle.std.proofs.Common.{◌≡◌, ℕ, List, Contains, refl, ap, ap₂, sym, ◌∙◌}
use Rattle.map_modules.specs.Matrices.{apply}
use Rattle.map_modules.proofs.Products.{product-identity_first, apply-product}
use Rattle.merged_heads.specs.declared.Merging.{Merging}
use Rattle.affine_prog.specs.declared.Program.{Program}
use Rattle.affine_prog.specs.declared.Kind.TheVariants.{Do}
use Rattle.affine_prog.specs.declared.Assign.{Assign}
use Rattle.affine_prog.specs.Programs.{edge}
use Rattle.affine_prog.specs.Assignments.{Choice, matrix_of}
use Rattle.affine_prog.specs.LevelPaths.{step_map, LevelPath, step}
use Rattle.affine_prog.specs.OpenPaths.{OpenPath, first, enter}
use Rattle.merged_heads.specs.Chains.{Chain, here, after}
use Rattle.affine_prog.proofs.Lemmas.{Choice-parts}
use Rattle.merged_heads.proofs.Along.{level_row, step_map-append}

-- a path goes on along a chain
pub follow : (program : Program) (table : Merging) (p h v : ℕ) (chain : List Assign) (words m : List ℕ) → LevelPath program p h m → Chain program table h v chain → Choice chain words
    → LevelPath program p v (step_map chain words m)
follow program table p h v chain words m path (here h' v' chain' head same none) choice =
    let e = product-identity_first m (level_row program p h m path) in
    let s : step_map chain words m ≡ m = ap (λ xs. step_map xs words m) none ∙ e in
    rw (same, s) path
follow program table p h v chain words m path (after h' u v' rest assigns more leads inner contains is) choice =
    let c = Choice-parts rest assigns words (rw is at choice) in
    step p u v assigns c.second _ _ (follow program table p h u rest c.first m path leads c.first_choice) contains c.second_choice
    (ap₂ (λ (xs : List Assign) (ws : List ℕ). step_map xs ws m) is (sym c.both) ∙ step_map-append rest assigns c.first c.second m c.first_choice)

-- an open path goes on by a step, and along a chain
pub open_step : (program : Program) (start : List ℕ) (u v : ℕ) (assigns : List Assign) (words state : List ℕ) → OpenPath program start u state
    → Contains program.edges (edge u v (Do assigns)) → Choice assigns words → OpenPath program start v (apply (matrix_of assigns words) state)
open_step program start u v assigns words state (first u' m state' path is) contains choice =
    first v (step_map assigns words m) _ (step program.start u v assigns words m _ path contains choice refl)
    (ap (apply (matrix_of assigns words)) is ∙ sym (apply-product (matrix_of assigns words) m start))
open_step program start u v assigns words state (enter q s t u' before chosen m from state' path edge_in choose called is) contains choice =
    enter q s t v before chosen (step_map assigns words m) from _ path edge_in choose (step q u v assigns words m _ called contains choice refl)
    (ap (apply (matrix_of assigns words)) is ∙ sym (apply-product (matrix_of assigns words) m (apply (matrix_of before chosen) from)))

pub open_follow : (program : Program) (table : Merging) (start : List ℕ) (h u : ℕ) (chain : List Assign) (words v : List ℕ) → OpenPath program start h v → Chain program table h u chain → Choice chain words
    → OpenPath program start u (apply (matrix_of chain words) v)
open_follow program table start h u chain words v (first h' m v' path is) leads choice =
    first u (step_map chain words m) _ (follow program table program.start h u chain words m path leads choice)
    (ap (apply (matrix_of chain words)) is ∙ sym (apply-product (matrix_of chain words) m start))
open_follow program table start h u chain words v (enter q s t h' before chosen m state after' path contains choose called is) leads choice =
    enter q s t u before chosen (step_map chain words m) state _ path contains choose (follow program table q h u chain words m called leads choice)
    (ap (apply (matrix_of chain words)) is ∙ sym (apply-product (matrix_of chain words) m (apply (matrix_of before chosen) state)))
