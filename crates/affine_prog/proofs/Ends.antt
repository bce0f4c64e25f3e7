-- Where paths of a well-formed program end: level paths stay at nodes of their procedure, and some open path is at the start.
use Rattle.std.proofs.Common.{◌≡◌, ℕ, ◌<◌, List, Contains, replicate, refl, ap, sym, subst, ◌∙◌, arith, if◌then◌else◌}
use Rattle.std.proofs.lemmas.Bool.{ne_eqb}
use Rattle.std.proofs.lemmas.List.Elements.{All-contains}
use Rattle.word_rows.specs.Words.{word}
use Rattle.word_rows.proofs.Laws.{IsRow-zeros}
use Rattle.row_modules.proofs.Laws.{zero_outside_below}
use Rattle.map_modules.specs.Matrices.{apply}
use Rattle.map_modules.proofs.Entries.{get_or-vector, IsRow-vector}
use Rattle.affine_prog.specs.declared.Program.{Program}
use Rattle.affine_prog.specs.declared.Kind.{Kind}
use Rattle.affine_prog.specs.declared.Kind.TheVariants.{Do, Call}
use Rattle.affine_prog.specs.Programs.{edge, entry_of, owner_of, slots_of, IsEdgeOf, IsWellFormed}
use Rattle.affine_prog.specs.Assignments.{constant, matrix_of}
use Rattle.affine_prog.specs.LevelPaths.{opening_map, LevelPath, opening, step, call}
use Rattle.affine_prog.specs.OpenPaths.{Start, OpenPath, first, enter}
use Rattle.affine_prog.specs.Relations.{IsReached}
use Rattle.affine_prog.specs.Laws.{EndsInOwner}

pub next_node : (program : Program) → IsWellFormed program → (p u v : ℕ) (kind : Kind) → owner_of program u ≡ p
    → Contains program.edges (edge u v kind) → (v < program.nodes) × (owner_of program v ≡ p)
next_node program w p u v kind owned contains =
    let e = All-contains (IsEdgeOf program) program.edges (edge u v kind) w.edges contains in (e.to, sym e.one_owner ∙ owned)

pub end_of_level_path : (program : Program) (w : IsWellFormed program) (p u : ℕ) (m : List ℕ) → LevelPath program p u m
    → (u < program.nodes) × (owner_of program u ≡ p)
end_of_level_path program w p u m (opening p' u' words m' within at row is) = let o = w.procs p within in rw at (o.entry, o.entry_owner)
end_of_level_path program w p v n (step p' u v' assigns words m n' path contains choice is) =
    next_node program w p u v (Do assigns) (end_of_level_path program w p u m path).1 contains
end_of_level_path program w p v n (call p' q u v' before words m callee n' path contains choice called is) =
    next_node program w p u v (Call q before) (end_of_level_path program w p u m path).1 contains

-- an open path's last level path is one of the procedure that owns its end
of_owner : (program : Program) (w : IsWellFormed program) (p u : ℕ) (m s v : List ℕ) → LevelPath program p u m → v ≡ apply m s → EndsInOwner program u v
of_owner program w p u m s v path is =
    let (node, owned) = end_of_level_path program w p u m path in
    record { node = node; map = m; before = s; path = subst (λ q. LevelPath program q u m) (sym owned) path; is = is }

pub open_path_ends : (program : Program) (w : IsWellFormed program) (start : List ℕ) (u : ℕ) (v : List ℕ) → OpenPath program start u v → EndsInOwner program u v
open_path_ends program w start u v (first u' m v' path is) = of_owner program w program.start u m start v path is
open_path_ends program w start u v (enter q u' v' w' before words m state after path contains choice called is) =
    of_owner program w q u m (apply (matrix_of before words) state) v called is

-- the state with 0 at every position below 16
pub zero_start : (program : Program) → Start program (constant 1)
zero_start program = record {
  state = record { row = IsRow-vector _; constant = get_or-vector _ 16 (omega arith) };
  registers = zero_outside_below program.registers (constant 1) (IsRow-vector _).width
      (λ k below hidden. get_or-vector _ k (omega arith) ∙ ap (λ b. word (if b then 1 else 0)) (ne_eqb k 16 (λ e. omega arith)));
}

pub start_is_reached : (program : Program) → IsWellFormed program → IsReached program (entry_of program program.start)
start_is_reached program w =
    let m = opening_map program.registers (slots_of program program.start) (replicate 16 0) in
    record {
      start = constant 1;
      state = apply m (constant 1);
      is_start = zero_start program;
      path = first _ m _ (opening program.start _ (replicate 16 0) m w.start refl (IsRow-zeros 16) refl) refl;
    }
