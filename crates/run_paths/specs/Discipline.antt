-- The discipline of runs: what a run has to keep so that it follows the paths of its program. It has four rules, each for
-- one step, from the machine m to the machine n, made at the point c under these activations: the last one opened, and the
-- earlier ones.
--
--   IsRunTo image run n             the run starts with the image, and its first n steps are steps of the machine
--   KeepsBytes count m n address    the step changes none of so many bytes from an address on
--   KeepsSlots lift m n a           it changes no byte of a slot of this activation
--   Assigns lift c k                the point assigns to the name at position k
--   LeavesSlots                     it changes no byte of a live slot, but for slots of the last activation to which the
--                                   point assigns
--   ReturnsToCaller                 where it is a return, the last activation was called, and it goes behind that call
--   LeavesCode                      it changes no byte of an instruction at a point
--   is_saved r                      r is one of s0 to s11
--   IsRelied lift a r               the caller of the activation relies on r: it is saved, and had an offset at the call
--   RestoresFrame                   where it is a return, sp is that of the last activation's entry, and each register on
--                                   which its caller relies is what it was at the call
--   KeepsRules                      the machine is at a point, and the step keeps the four rules
--   KeepsDiscipline lift run n      so does each of the first n steps
use Rattle.std.specs.Prelude.{◌≡◌, ◌≢◌, ℕ, suc, ◌<◌, ◌==◌, nat_le, ◌&&◌, ◌||◌, Bool, true, List, ◌∷◌, All, Contains, map, slice_index, None, Some}
use Rattle.elf_image.specs.declared.image.Image.{Image}
use Rattle.flow_points.specs.declared.code_points.CodePoint.{CodePoint}
use Rattle.flow_points.specs.declared.code_points.Flow.TheVariants.{Return}
use Rattle.frame_offsets.specs.Frames.{HasOffset}
use Rattle.affine_prog.specs.Assignments.{position_of}
use Rattle.rv_step.specs.Harts.{Hart, x}
use Rattle.rv_step.specs.Steps.{Step}
use Rattle.rv_step.specs.Runs.{Starts}
use Rattle.run_paths.specs.Lifts.{Lift, effect}
use Rattle.run_paths.specs.Activations.{Activation, Site, HasSlot, behind, activations_at, point_of}

pub record IsRunTo (image : Image) (run : ℕ → Hart) (n : ℕ) : Type 0 where
  pub starts : Starts image (run 0)
  pub steps : (i : ℕ) → i < n → Step (run i) (run (suc i))

abbrev pub KeepsBytes : ℕ → Hart → Hart → ℕ → Type 0
KeepsBytes count m n address = (k : ℕ) → k < count → n.memory (behind address k) ≡ m.memory (behind address k)

abbrev pub KeepsSlots : Lift → Hart → Hart → Activation → Type 0
KeepsSlots lift m n a = (k address : ℕ) → HasSlot lift a k address → KeepsBytes 8 m n address

abbrev pub Assigns : Lift → CodePoint → ℕ → Type 0
Assigns lift c k = Contains (map position_of (effect lift c)) k

pub record LeavesSlots (lift : Lift) (m n : Hart) (c : CodePoint) (last : Activation) (earlier : List Activation) : Type 0 where
  pub others : All (KeepsSlots lift m n) earlier
  pub own : (k address : ℕ) → HasSlot lift last k address → (Assigns lift c k → ⊥) → KeepsBytes 8 m n address

pub record ReturnsToCaller (n : Hart) (c : CodePoint) (last : Activation) : Type 0 where
  pub not_first : c.flow ≡ Return → last.call ≢ None
  pub home : c.flow ≡ Return → (site : Site) → last.call ≡ Some site → n.pc ≡ site.next

abbrev pub LeavesCode : Lift → Hart → Hart → Type 0
LeavesCode lift m n = (c : CodePoint) → Contains lift.points.points c → KeepsBytes c.length m n c.point.address

abbrev pub is_saved : ℕ → Bool
is_saved r = r == 8 || r == 9 || (nat_le 18 r && nat_le r 27)

pub record IsRelied (lift : Lift) (a : Activation) (r : ℕ) : Type 0 where
  pub saved : is_saved r ≡ true
  pub site : Site
  pub is_call : a.call ≡ Some site
  pub offset : ℕ
  pub has : HasOffset lift.points.points site.from r offset

pub record RestoresFrame (lift : Lift) (m : Hart) (c : CodePoint) (last : Activation) : Type 0 where
  pub stack : c.flow ≡ Return → x m 2 ≡ last.entry_sp
  pub relied : c.flow ≡ Return → (r : ℕ) → IsRelied lift last r → x m r ≡ slice_index last.registers r

pub record KeepsRules (lift : Lift) (m n : Hart) (activations : List Activation) : Type 0 where
  pub last : Activation
  pub earlier : List Activation
  pub are : activations ≡ last ∷ earlier
  pub at : CodePoint
  pub is_at : point_of lift m activations ≡ Some at
  pub slots : LeavesSlots lift m n at last earlier
  pub home : ReturnsToCaller n at last
  pub code : LeavesCode lift m n
  pub frame : RestoresFrame lift m at last

abbrev pub KeepsDiscipline : Lift → (ℕ → Hart) → ℕ → Type 0
KeepsDiscipline lift run n = (i : ℕ) → i < n → KeepsRules lift (run i) (run (suc i)) (activations_at lift run i)
