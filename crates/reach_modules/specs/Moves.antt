-- Moves: what one edge, with the call that it may have, makes of a state. The state of an open path moves from its node to
-- another, and each open path is made of such moves.
--
--   IsReturn program s q m     m is the map of a level path of procedure q to its exit, as a caller with the slots s sees it
--   KindMap program u to kind v m   along an edge of this kind from u to `to`, m is the map of a move to node v
--   EdgeMap program e v m      along the edge e, m is the map of a move to node v: of its assignments to its end, or of these
--                              and a return of its call; or of these and an opening of its callee to the callee's entry
--   Moves program u v m        along some edge from node u, m is the map of a move to node v
--   IsFirst program v          v is what an opening of the start procedure makes of a start
use Rattle.std.specs.Prelude.{◌≡◌, ◌⊎◌, ℕ, List, Contains}
use Rattle.row_modules.specs.Maps.{Products}
use Rattle.map_modules.specs.Matrices.{apply, extension}
use Rattle.affine_prog.specs.declared.Program.{Program}
use Rattle.affine_prog.specs.declared.Edge.{Edge}
use Rattle.affine_prog.specs.declared.Kind.{Kind}
use Rattle.affine_prog.specs.declared.Kind.TheVariants.{Do, Call}
use Rattle.affine_prog.specs.Programs.{entry_of, slots_of, owner_of}
use Rattle.affine_prog.specs.OpenPaths.{Start}
use Rattle.affine_prog.specs.Laws.{IsOpening}
use Rattle.affine_prog.specs.Spans.{IsMapOf}
use Rattle.row_images.specs.States.{IsMatrixOf}
use Rattle.reach_modules.specs.Made.{After}

abbrev pub IsReturn : Program → ℕ → ℕ → List ℕ → Type 0
IsReturn program s q m = (callee : List ℕ) × IsMapOf program q callee × (m ≡ extension program.registers s callee)

abbrev pub KindMap : Program → ℕ → ℕ → Kind → ℕ → List ℕ → Type 0
KindMap program u to (Do assigns) v m = (v ≡ to) × IsMatrixOf assigns m
KindMap program u to (Call q before) v m =
    ((v ≡ to) × After (IsReturn program (slots_of program (owner_of program u)) q) (IsMatrixOf before) m)
    ⊎ ((v ≡ entry_of program q) × After (IsOpening program.registers (slots_of program q)) (IsMatrixOf before) m)

abbrev pub EdgeMap : Program → Edge → ℕ → List ℕ → Type 0
EdgeMap program e v m = KindMap program e.from e.to e.kind v m

pub record Moves (program : Program) (u v : ℕ) (m : List ℕ) : Type 0 where
  pub along : Edge
  pub in_edges : Contains program.edges along
  pub from_u : along.from ≡ u
  pub map : EdgeMap program along v m

abbrev pub IsFirst : Program → List ℕ → Type 0
IsFirst program v = Products apply (IsOpening program.registers (slots_of program program.start)) (Start program) v
