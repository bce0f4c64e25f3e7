-- The calls of the procedure whose exit a node is, made one call after the other.
use Rattle.std.proofs.Common.{◌≡◌, ℕ, ◌<◌, ◌+◌, List, [], ◌∷◌, ◌++◌, length, replicate, get_or, set, length-set, ap, sym, subst, ◌∙◌, arith}
use Rattle.std.proofs.lemmas.List.{length-replicate}
use Rattle.affine_prog.specs.declared.Program.{Program}
use Rattle.affine_prog.specs.declared.Kind.{Kind}
use Rattle.affine_prog.specs.declared.Kind.TheVariants.{Do, Call}
use Rattle.affine_prog.specs.declared.Assign.{Assign}
use Rattle.affine_prog.specs.Programs.{exit_of}
use Rattle.row_engine.specs.Tables.{edge_at}
use Rattle.call_summaries.specs.Tables.{ReturnsTo, ReturnFirst}
use Rattle.row_engine.proofs.ByNode.{first_none, first_skipped, first_added}

module _ (program : Program) where
  pub return_none : (back : List (List ℕ)) → back ≡ replicate program.nodes [] → ReturnFirst program 0 back
  return_none back is = record {
    each = ap (λ (l : List (List ℕ)). length l) is ∙ length-replicate {A = List ℕ} program.nodes [];
    is = first_none (λ u k. ReturnsTo program u (edge_at program k).kind) program.nodes back is;
  }

  not_do : (u : ℕ) (kind : Kind) (assigns : List Assign) → kind ≡ Do assigns → ReturnsTo program u kind → ⊥
  not_do u kind assigns is h = subst (ReturnsTo program u) is h

  pub return_skipped : (n : ℕ) (back : List (List ℕ)) (assigns : List Assign) → (edge_at program n).kind ≡ Do assigns → ReturnFirst program n back → ReturnFirst program (n + 1) back
  return_skipped n back assigns is s = record {
    each = s.each;
    is = first_skipped (λ u k. ReturnsTo program u (edge_at program k).kind) n back s.is (λ u. not_do u (edge_at program n).kind assigns is);
  }

  pub return_more : (n v q : ℕ) (before : List Assign) (back : List (List ℕ)) (list more : List ℕ) → (edge_at program n).kind ≡ Call q before → ReturnFirst program n back → v < program.nodes → v ≡ exit_of program q
      → list ≡ get_or back v list → more ≡ list ++ n ∷ [] → ReturnFirst program (n + 1) (set back v more)
  return_more n v q before back list more kind s within exit is more_is = record {
    each = length-set back v more ∙ s.each;
    is = first_added (λ u k. ReturnsTo program u (edge_at program k).kind) n back s.is v list more (let e = s.each in omega arith) is more_is
        (subst (ReturnsTo program v) (sym kind) (sym exit)) (λ u h. sym (subst (ReturnsTo program u) kind h) ∙ sym exit);
  }
