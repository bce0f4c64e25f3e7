-- The procedures that can return.
use Rattle.std.proofs.Common.{◌≡◌, ℕ, zero, suc, ◌<◌, ◌≤◌, ◌+◌, inl, inr, Bool, true, List, [], ◌∷◌, Contains, length, map, get_or, set, length-set, refl, ap, sym, subst, ◌∙◌, arith, ◌==◌}
use Rattle.std.proofs.lemmas.Bool.{cases_eq, cases_lt, eq-eqb}
use Rattle.std.proofs.lemmas.List.{get_or-map, length-map, get_or_default, get_or-set_same, get_or-set_other}
use Rattle.affine_prog.specs.declared.Program.{Program}
use Rattle.affine_prog.specs.declared.Proc.{Proc}
use Rattle.affine_prog.specs.declared.Edge.{Edge}
use Rattle.affine_prog.specs.declared.Kind.{Kind}
use Rattle.affine_prog.specs.declared.Kind.TheVariants.{Do}
use Rattle.affine_prog.specs.Programs.{edge, entry_of, exit_of, owner_of, IsWellFormed}
use Rattle.row_engine.specs.Tables.{edge_at}
use Rattle.call_summaries.specs.Solutions.{IsWanted, IsChoiceOfProcs}
use Rattle.call_summaries.proofs.ByNumber.{exit_at, entry_at}
use Rattle.call_summaries.proofs.Exactness.{no_return}

-- the procedures that the first edges take to their exit are marked, and those whose entry is their exit
pub record MarkedSoFar (program : Program) (n : ℕ) (wanted : List Bool) : Type 0 where
  pub each : length wanted ≡ length program.procs
  pub short : (p : ℕ) → p < length program.procs → entry_of program p ≡ exit_of program p → IsWanted wanted p
  pub taken : (k : ℕ) → k < n → (edge_at program k).to ≡ exit_of program (owner_of program (edge_at program k).to) → IsWanted wanted (owner_of program (edge_at program k).to)

pub marked_none : (program : Program) (wanted : List Bool) → wanted ≡ map (λ (proc : Proc). proc.entry == proc.exit) program.procs → MarkedSoFar program 0 wanted
marked_none program wanted is = record {
  each = ap (λ (l : List Bool). length l) is ∙ length-map program.procs (λ (proc : Proc). proc.entry == proc.exit);
  short = λ p within same.
      let none : Proc = record { entry = 0; exit = 0; slots = 0 } in
      let e = get_or-map (λ (proc : Proc). proc.entry == proc.exit) program.procs p none true within in
      ap (λ (l : List Bool). get_or l p true) is ∙ e ∙ eq-eqb (get_or program.procs p none).entry (get_or program.procs p none).exit (sym (entry_at program p none within) ∙ same ∙ exit_at program p none within);
  taken = λ k below. absurd (omega arith);
}

still_wanted : (wanted : List Bool) (o p : ℕ) → o < length wanted → IsWanted wanted p → IsWanted (set wanted o true) p
still_wanted wanted o p within h = elim (cases_eq p o) [
  | inl e ↦ rw e (get_or-set_same wanted o true true within)
  | inr other ↦ get_or-set_other wanted o p true true other ∙ h
]

module _ (program : Program) (n : ℕ) (wanted : List Bool) (first : MarkedSoFar program n wanted) where
  pub marked_set : (o : ℕ) → o ≡ owner_of program (edge_at program n).to → o < length program.procs → MarkedSoFar program (n + 1) (set wanted o true)
  marked_set o is within =
      let b : o < length wanted = let e = first.each in omega arith in record {
        each = length-set wanted o true ∙ first.each;
        short = λ p inside same. still_wanted wanted o p b (first.short p inside same);
        taken = λ k below at. elim (cases_eq k n) [
          | inl e ↦ rw e (subst (IsWanted (set wanted o true)) is (get_or-set_same wanted o true true b))
          | inr other ↦ still_wanted wanted o (owner_of program (edge_at program k).to) b (first.taken k (omega arith) at)
        ];
      }

  pub marked_kept : ((edge_at program n).to ≡ exit_of program (owner_of program (edge_at program n).to) → ⊥) → MarkedSoFar program (n + 1) wanted
  marked_kept other = record {
    each = first.each;
    short = first.short;
    taken = λ k below at. elim (cases_eq k n) [
      | inl e ↦ absurd (other (subst (λ (j : ℕ). (edge_at program j).to ≡ exit_of program (owner_of program (edge_at program j).to)) e at))
      | inr ne ↦ first.taken k (omega arith) at
    ];
  }

pub marked_all : (program : Program) → IsWellFormed program → (wanted : List Bool) (n : ℕ) → length program.edges ≤ n → MarkedSoFar program n wanted → IsChoiceOfProcs program wanted
marked_all program formed wanted n end s = record {
  each = s.each;
  others = λ p m other path. elim (cases_lt p (length program.procs)) [
    | inl within ↦ no_return program p (λ same. other (s.short p within same)) (entered p within other) (exit_of program p) refl m path
    | inr beyond ↦ other (out_of wanted p (let e = s.each in omega arith))
  ];
} where
  out_of : (l : List Bool) (p : ℕ) → length l ≤ p → get_or l p true ≡ true
  out_of [] p beyond = refl
  out_of (x ∷ l) zero beyond = absurd (omega arith)
  out_of (x ∷ l) (suc p) beyond = out_of l p (omega arith)

  entered : (p : ℕ) → p < length program.procs → (IsWanted wanted p → ⊥) → (u : ℕ) (kind : Kind) → Contains program.edges (edge u (exit_of program p) kind) → ⊥
  entered p within other u kind (k, below, is) =
      let own : owner_of program (exit_of program p) ≡ p = (formed.procs p within).exit_owner in
      let e : edge_at program k ≡ edge u (exit_of program p) kind = get_or_default program.edges k (edge 0 0 (Do [])) (edge u (exit_of program p) kind) below ∙ is in
      let to : (edge_at program k).to ≡ exit_of program p = ap (λ (x : Edge). x.to) e in
      let o : owner_of program (edge_at program k).to ≡ p = ap (owner_of program) to ∙ own in
      other (subst (IsWanted wanted) o (s.taken k (omega arith) (to ∙ ap (exit_of program) (sym o))))
