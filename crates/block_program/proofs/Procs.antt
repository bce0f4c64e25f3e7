-- The procedure that a loop reads from the list.
use Rattle.std.proofs.Common.{◌≡◌, ℕ, ◌<◌, List, length, map, get_or, ap, sym, ◌∙◌, arith}
use Rattle.std.proofs.lemmas.List.{get_or-map}
use Rattle.affine_prog.specs.declared.Proc.{Proc}

module _ (procs all : List Proc) (k : ℕ) (same : procs ≡ all) (there : k < length procs) where
  pub place_read : k < length all
  place_read = omega (arith, there, ap length same)

  pub end_read : (end : Proc → ℕ) (d : Proc) → end (get_or procs k d) ≡ get_or (map end all) k 0
  end_read end d = ap (λ (ps : List Proc). end (get_or ps k d)) same ∙ sym (get_or-map end all k d 0 place_read)
