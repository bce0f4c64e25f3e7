-- What watches see of the activations of a run, and of the code.
--
--   Watched                       an activation as watches see it
--   IsSeen lift a w               w is what they see of the activation a: its procedure, sp at its entry, the address behind
--                                 the call that opened it, the words that s0 to s11 had at the call, and the set of those of
--                                 these registers on which its caller relies
--   AreSeen lift activations seen what they see of activations of which the last one opened is first; they see them from
--                                 the first one opened on
--   IsStackSeen lift activations stack
--                                 the stack is what they see of these activations
--   IsSceneOf image lift scene    watches see runs of this image by the points, offsets and names of its lift
use Rattle.std.specs.Prelude.{◌≡◌, ◌↔◌, ℕ, ◌<◌, IsTrue, List, [], ◌∷◌, ◌++◌, slice_index, option_map}
use Rattle.elf_image.specs.declared.image.Image.{Image}
use Rattle.frame_offsets.specs.Frames.{AreOffsetsOf}
use Rattle.run_paths.specs.Lifts.{Lift, IsLiftOf}
use Rattle.run_paths.specs.Activations.{Activation}
use Rattle.run_paths.specs.Discipline.{IsRelied}
use Rattle.run_watch.specs.Activations.{Stack, saved_registers, saved_words}
use Rattle.run_watch.specs.Judges.{has_bit}
use Rattle.run_watch.specs.declared.activation.Activation.{Activation as Watched}
use Rattle.run_watch.specs.Runs.{Scene, AreInstructionsOf}

pub record IsSeen (lift : Lift) (a : Activation) (w : Watched) : Type 0 where
  pub procedure : w.procedure ≡ a.procedure
  pub entry_sp : w.entry_sp ≡ a.entry_sp
  pub return_to : w.return_to ≡ option_map (λ site. site.next) a.call
  pub saved : w.saved ≡ saved_words a.registers
  pub relied : (i : ℕ) → i < 12 → IsTrue (has_bit w.relied i) ↔ IsRelied lift a (slice_index saved_registers i)

abbrev pub AreSeen : Lift → List Activation → List Watched → Type 0
AreSeen lift [] seen = seen ≡ []
AreSeen lift (a ∷ earlier) seen =
    (before : List Watched) × (w : Watched) × (seen ≡ before ++ w ∷ []) × IsSeen lift a w × AreSeen lift earlier before

pub record IsStackSeen (lift : Lift) (activations : List Activation) (stack : Stack) : Type 0 where
  pub last : Activation
  pub earlier : List Activation
  pub are : activations ≡ last ∷ earlier
  pub last_seen : IsSeen lift last stack.last
  pub earlier_seen : AreSeen lift earlier stack.earlier

pub record IsSceneOf (image : Image) (lift : Lift) (scene : Scene) : Type 0 where
  pub lifts : IsLiftOf image lift
  pub points : scene.points ≡ lift.points
  pub names : scene.names ≡ lift.names
  pub offsets : AreOffsetsOf lift.points scene.offsets
  pub code : AreInstructionsOf lift.points.points scene.code
