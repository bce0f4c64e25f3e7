-- Where the activations of a run stand: the last one at the machine's point with its registers, each earlier one at its
-- call with the registers of that moment, and all of them with the slots that memory has now.
use Rattle.std.proofs.Common.{◌≡◌, ℕ, List, [], ◌∷◌, All, Contains, slice_index, None, Some, refl, ap, sym, ◌∙◌}
use Rattle.std.proofs.lemmas.List.Elements.{All-head, All-tail}
use Rattle.word_rows.specs.Rows.{IsState}
use Rattle.map_modules.specs.Matrices.{apply}
use Rattle.affine_prog.specs.LevelPaths.{LevelPath}
use Rattle.flow_points.specs.declared.code_points.CodePoint.{CodePoint}
use Rattle.flow_points.specs.declared.code_points.Flow.TheVariants.{Call}
use Rattle.frame_offsets.specs.Frames.{FrameWalk, HasOffset}
use Rattle.rv_step.specs.Harts.{Hart}
use Rattle.rv_step.specs.Effects.{written}
use Rattle.run_paths.specs.Lifts.{Lift, node, number}
use Rattle.run_paths.specs.Activations.{Activation, Site, behind, state_of}
use Rattle.run_paths.specs.Discipline.{KeepsSlots}
use Rattle.run_paths.proofs.States.{AreWords, HasRegisters, same_slots}

pub record Stands (lift : Lift) (memory : ℕ → ℕ) (a : Activation) (f : List ℕ) (c : CodePoint) (regs entered : List ℕ) : Type 0 where
  pub path : LevelPath lift.program (number lift a.procedure) (node lift c.point) f
  pub state : apply f entered ≡ state_of lift a regs memory
  pub within : Contains lift.points.points c
  pub owner : c.point.proc_entry ≡ a.procedure
  pub walk : List CodePoint
  pub walked : FrameWalk lift.points.points c.point.proc_entry walk c
  pub offsets : (r o : ℕ) → HasOffset lift.points.points c r o → slice_index regs r ≡ behind a.entry_sp o

pub record IsCalled (lift : Lift) (a : Activation) (site : Site) : Type 0 where
  pub from : a.call ≡ Some site
  pub flow : site.from.flow ≡ Call a.procedure site.next
  pub stack : a.entry_sp ≡ slice_index a.registers 2
  pub words : AreWords a.registers

pub record IsFirst (lift : Lift) (start : List ℕ) (a : Activation) : Type 0 where
  pub none : a.call ≡ None
  pub entry : a.procedure ≡ lift.points.entry
  pub stack : a.entry_sp ≡ slice_index a.registers 2
  pub registers : HasRegisters lift a.registers start
  pub words : AreWords a.registers
  pub state : IsState start

-- the state of the caller b at its call of a, with the link
abbrev pub entered_with : Lift → (ℕ → ℕ) → Activation → Activation → Site → List ℕ
entered_with lift memory a b site = state_of lift b (written a.registers 1 site.next) memory

abbrev pub AllStand : Lift → List ℕ → (ℕ → ℕ) → List Activation → List (List ℕ) → CodePoint → List ℕ → Type 0
AllStand lift start memory (a ∷ []) (f ∷ []) c regs = IsFirst lift start a × Stands lift memory a f c regs start
AllStand lift start memory (a ∷ b ∷ earlier) (f ∷ maps) c regs =
    (site : Site) × IsCalled lift a site × Stands lift memory a f c regs (entered_with lift memory a b site)
    × AllStand lift start memory (b ∷ earlier) maps site.from a.registers
AllStand lift start memory activations maps c regs = ⊥

-- memory changes, and no slot does
pub stands_still : (lift : Lift) (m n : Hart) (a : Activation) (f : List ℕ) (c : CodePoint) (regs before after : List ℕ)
    → before ≡ after → KeepsSlots lift m n a → Stands lift m.memory a f c regs before → Stands lift n.memory a f c regs after
stands_still lift m n a f c regs before after same keeps s = record {
  path = s.path;
  within = s.within;
  owner = s.owner;
  walk = s.walk;
  walked = s.walked;
  offsets = s.offsets;
  state = ap (apply f) (sym same) ∙ s.state ∙ same_slots lift m n a regs keeps;
}

pub all_still : (lift : Lift) (start : List ℕ) (m n : Hart) (activations : List Activation) (maps : List (List ℕ)) (c : CodePoint) (regs : List ℕ)
    → All (KeepsSlots lift m n) activations → AllStand lift start m.memory activations maps c regs
    → AllStand lift start n.memory activations maps c regs
all_still lift start m n [] maps c regs keeps h = h
all_still lift start m n (a ∷ []) [] c regs keeps h = h
all_still lift start m n (a ∷ []) (f ∷ []) c regs keeps h =
    (h.0, stands_still lift m n a f c regs start start refl (All-head (KeepsSlots lift m n) a [] keeps) h.1)
all_still lift start m n (a ∷ []) (f ∷ g ∷ maps) c regs keeps h = h
all_still lift start m n (a ∷ b ∷ earlier) [] c regs keeps h = h
all_still lift start m n (a ∷ b ∷ earlier) (f ∷ maps) c regs keeps h =
    let others = All-tail (KeepsSlots lift m n) a (b ∷ earlier) keeps in
    let same = same_slots lift m n b (written a.registers 1 h.0.next) (All-head (KeepsSlots lift m n) b earlier others) in (
      h.0,
      h.1,
      stands_still lift m n a f c regs _ _ same (All-head (KeepsSlots lift m n) a (b ∷ earlier) keeps) h.2,
      all_still lift start m n (b ∷ earlier) maps h.0.from a.registers others h.3,
    )
