-- An edge of a well-formed program: what its kind's rule asks, and that its numbers are in range.
use Rattle.std.proofs.Common.{◌≡◌, ℕ, suc, ◌<◌, List, Contains, length, map, bit_and, Bool, IsTrue, ◌↔◌, refl, sym, subst, arith}
use Rattle.std.proofs.lemmas.List.{length-map}
use Rattle.std.proofs.lemmas.List.Elements.{All-contains}
use Rattle.affine_prog.specs.declared.Program.{Program}
use Rattle.affine_prog.specs.declared.Proc.{Proc}
use Rattle.affine_prog.specs.declared.Edge.{Edge}
use Rattle.affine_prog.specs.declared.Kind.{Kind}
use Rattle.affine_prog.specs.declared.Kind.TheVariants.{Do, Call}
use Rattle.affine_prog.specs.declared.Assign.{Assign}
use Rattle.affine_prog.specs.Programs.{edge, exit_of, slots_of, owner_of, IsKindIn, IsEdgeOf, IsWellFormed}
use Rattle.affine_prog.proofs.Lemmas.{ArePlaced, step_placed, call_placed}
use Rattle.affine_prog.specs.LevelPaths.{step_map}
use Rattle.affine_prog.specs.Spans.{rows_at}
use Rattle.proof_rules.specs.Rules.{rule_3, rule_4, rule_5}
use Rattle.proof_verify.specs.Tests.{CallsInto}
use Rattle.proof_verify.specs.Items.{step_rule_of, step_rule, call_rule_of, call_rule, entry_rule_of, entry_rule}

module _ (small : Program) (formed : IsWellFormed small) (e : Edge) (contains : Contains small.edges e) where
  pub ends : IsEdgeOf small e
  ends = All-contains (IsEdgeOf small) small.edges e formed.edges contains

  pub do_placed : (assigns : List Assign) → e.kind ≡ Do assigns → ArePlaced assigns
  do_placed assigns is = step_placed small formed e.from e.to assigns (subst (λ (k : Kind). Contains small.edges (edge e.from e.to k)) is contains)

  pub before_placed : (q : ℕ) (before : List Assign) → e.kind ≡ Call q before → ArePlaced before
  before_placed q before is = call_placed small formed e.from e.to q before (subst (λ (k : Kind). Contains small.edges (edge e.from e.to k)) is contains)

  pub callee_below : (q : ℕ) (before : List Assign) → e.kind ≡ Call q before → q < length small.procs
  callee_below q before is = let h = subst (IsKindIn small (owner_of small e.from)) is ends.kind in h.0

module _ (small : Program) (levels entries : List (List (List ℕ))) (e : Edge) (passes : Bool) where
  pub step_ruled : (assigns : List Assign) → e.kind ≡ Do assigns → IsTrue passes ↔ rule_3 small levels e.from e.to assigns → IsTrue passes ↔ step_rule small levels e
  step_ruled assigns is h = subst (λ (k : Kind). IsTrue passes ↔ step_rule_of small levels e.from e.to k) (sym is) h

  pub call_ruled : (q : ℕ) (before : List Assign) → e.kind ≡ Call q before → IsTrue passes ↔ rule_4 small levels e.from e.to q before → IsTrue passes ↔ call_rule small levels e
  call_ruled q before is h = subst (λ (k : Kind). IsTrue passes ↔ call_rule_of small levels e.from e.to k) (sym is) h

  pub entry_ruled : (q : ℕ) (before : List Assign) → e.kind ≡ Call q before → IsTrue passes ↔ rule_5 small levels entries e.from q before
      → IsTrue passes ↔ entry_rule small levels entries e
  entry_ruled q before is h = subst (λ (k : Kind). IsTrue passes ↔ entry_rule_of small levels entries e.from k) (sym is) h

pub calls_ruled : (small : Program) (levels : List (List (List ℕ))) (u v q : ℕ) (before : List Assign)
    → CallsInto small.registers (slots_of small (owner_of small u)) before (rows_at levels u) (rows_at levels (exit_of small q)) (rows_at levels v)
    ↔ rule_4 small levels u v q before
calls_ruled small levels u v q before = (
  λ into m callee words h g simple. into m (step_map before words m) callee h (words, simple, refl) g,
  λ rule m n callee h (words, simple, is) g. rw is (rule m callee words h g simple),
)

pub slots_apart : (small : Program) (p : ℕ) → IsWellFormed small → p < length small.procs → bit_and small.registers (slots_of small p) ≡ 0
slots_apart small p formed below =
    let e : length (map (λ (proc : Proc). proc.slots) small.procs) ≡ length small.procs = length-map small.procs (λ (proc : Proc). proc.slots) in
    formed.disjoint 0 (suc p) 0 (omega arith) (omega arith)
