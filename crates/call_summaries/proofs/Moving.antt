-- The bases at the exits, taken out one procedure after the other.
use Rattle.std.proofs.Common.{◌≡◌, ℕ, ◌<◌, ◌≤◌, ◌+◌, List, [], ◌∷◌, ◌++◌, length, map, take, get_or, set, length-set, refl, ap, ap₂, sym, ◌∙◌, arith}
use Rattle.std.proofs.lemmas.List.{get_or_default, get_or-set_other, take_more, map-append}
use Rattle.std.proofs.lemmas.List.Sums.{sum_by-set, sum_by-append, sum_by-cons}
use Rattle.affine_prog.specs.declared.Program.{Program}
use Rattle.affine_prog.specs.declared.Proc.{Proc}
use Rattle.affine_prog.specs.Programs.{exit_of, owner_of, IsWellFormed}
use Rattle.affine_prog.specs.Spans.{rows_at}
use Rattle.row_engine.specs.States.{row_count}
use Rattle.call_summaries.proofs.ByNumber.{exit_at}

pub record MovedSoFar (program : Program) (old levels exits : List (List (List ℕ))) (n : ℕ) : Type 0 where
  pub moved : exits ≡ map (λ (proc : Proc). rows_at old proc.exit) (take n program.procs)
  pub kept : (p : ℕ) → n ≤ p → p < length program.procs → rows_at levels (exit_of program p) ≡ rows_at old (exit_of program p)
  pub nodes : length levels ≡ length old
  pub count : row_count exits + row_count levels ≡ row_count old

pub moved_none : (program : Program) (old exits : List (List (List ℕ))) → exits ≡ [] → MovedSoFar program old old exits 0
moved_none program old exits is = record {
  moved = is;
  kept = λ p above within. refl;
  nodes = refl;
  count = ap (λ (l : List (List (List ℕ))). row_count l + row_count old) is ∙ (let e : 0 + row_count old ≡ row_count old = omega arith in e);
}

module _ (program : Program) (formed : IsWellFormed program) (old levels exits : List (List (List ℕ))) (n : ℕ) (nodes : length old ≡ program.nodes) (first : MovedSoFar program old levels exits n)
    (proc : Proc) (within : n < length program.procs) (is : proc ≡ get_or program.procs n proc) where
  exit_is : proc.exit ≡ exit_of program n
  exit_is = ap (λ (x : Proc). x.exit) is ∙ sym (exit_at program n proc within)

  pub exit_within : proc.exit < length levels
  exit_within = let a = first.nodes in let b = (formed.procs n within).exit in let c = exit_is in omega arith

  pub moved_more : (basis : List (List ℕ)) (more : List (List (List ℕ))) → basis ≡ get_or levels proc.exit basis → more ≡ exits ++ basis ∷ [] → MovedSoFar program old (set levels proc.exit []) more (n + 1)
  moved_more basis more basis_is more_is = record {
    moved = more_is ∙ ap₂ (λ (l : List (List (List ℕ))) (b : List (List ℕ)). l ++ b ∷ []) first.moved here
        ∙ sym (ap (map (λ (x : Proc). rows_at old x.exit)) (take_more program.procs n proc within ∙ ap (λ (x : Proc). take n program.procs ++ x ∷ []) (sym is))
        ∙ map-append (λ (x : Proc). rows_at old x.exit) (take n program.procs) (proc ∷ []));
    kept = λ p above inside. get_or-set_other levels proc.exit (exit_of program p) [] []
        (λ e. let o = sym (formed.procs p inside).exit_owner ∙ ap (owner_of program) (e ∙ exit_is) ∙ (formed.procs n within).exit_owner in omega arith)
        ∙ first.kept p (omega arith) inside;
    nodes = length-set levels proc.exit [] ∙ first.nodes;
    count =
        let c = first.count in let e = sum_by-set (length {A = List ℕ}) levels proc.exit [] [] exit_within in
        let f = ap (λ (l : List (List (List ℕ))). row_count l) more_is ∙ sum_by-append (length {A = List ℕ}) exits (basis ∷ []) in
        let g = sum_by-cons (length {A = List ℕ}) basis [] in let h = ap (λ (l : List (List ℕ)). length l) own in omega arith;
  } where
    own : basis ≡ rows_at levels proc.exit
    own = basis_is ∙ get_or_default levels proc.exit basis [] exit_within

    here : basis ≡ rows_at old proc.exit
    here = own ∙ ap (rows_at levels) exit_is ∙ first.kept n (omega arith) within ∙ ap (rows_at old) (sym exit_is)
