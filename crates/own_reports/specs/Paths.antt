-- That the open paths that runs spell are those of the program.
--
--   OpenPathsAreThePrograms   where an open path of activations ends at a point, an open path of the program ends at its node
use Rattle.std.specs.Prelude.{ℕ, List}
use Rattle.elf_image.specs.declared.image.Image.{Image}
use Rattle.flow_points.specs.declared.code_points.CodePoint.{CodePoint}
use Rattle.affine_prog.specs.OpenPaths.{OpenPath}
use Rattle.run_paths.specs.Lifts.{Lift, IsLiftOf, node}
use Rattle.run_paths.specs.Activations.{Activation}
use Rattle.run_paths.specs.Follows.{IsOpenPath}

abbrev pub OpenPathsAreThePrograms : Type 0
OpenPathsAreThePrograms =
    (image : Image) (lift : Lift) (start : List ℕ) (activations : List Activation) (maps : List (List ℕ)) (c : CodePoint)
    → IsLiftOf image lift → IsOpenPath lift activations maps c
    → (state : List ℕ) × OpenPath lift.program start (node lift c.point) state
