-- A row that is pushed along all edges of its node, and back to all calls.
use Rattle.std.proofs.Common.{◌≡◌, ℕ, ◌<◌, List, [], ◌∷◌, Contains, length, get_or, refl, ap, sym, subst, ◌∙◌}
use Rattle.std.proofs.lemmas.List.{get_or_default}
use Rattle.affine_prog.specs.declared.Program.{Program}
use Rattle.affine_prog.specs.declared.Edge.{Edge}
use Rattle.affine_prog.specs.declared.Kind.{Kind}
use Rattle.affine_prog.specs.declared.Kind.TheVariants.{Do, Call}
use Rattle.affine_prog.specs.Programs.{edge}
use Rattle.affine_prog.specs.Assignments.{matrix_of}
use Rattle.affine_prog.specs.LevelPaths.{step_map}
use Rattle.row_engine.specs.States.{State, InModule}
use Rattle.row_engine.specs.Tables.{edge_at, AreOut}
use Rattle.row_engine.specs.Turns.{Pushes}
use Rattle.row_engine.proofs.Members.{only_in}
use Rattle.call_summaries.specs.Sound.{IsSound, IsReturned}
use Rattle.call_summaries.specs.Tables.{ReturnsTo, ReturnFirst, AreTables}
use Rattle.call_summaries.specs.Pushes.{MakesOf, JoinsOf, Forward, Back, Along, PushesRow, call_of}
use Rattle.call_summaries.proofs.AlongEdges.{Inside, forward_is_monotone, back_is_monotone}

-- the row at the edges' starts, and at the callees' exits
pub out_places : (program : Program) (out : List (List ℕ)) → AreOut program out → (u : ℕ) (m : List ℕ) → IsSound program u m → (ks : List ℕ) → ks ≡ get_or out u []
    → (k : ℕ) → Contains ks k → (k < length program.edges) × IsSound program (edge_at program k).from m
out_places program out t u m own ks is k h = let i = (t.is u k).0 (subst (λ l. Contains l k) is h) in (i.0, subst (λ v. IsSound program v m) (sym i.1) own)

returned_at : (program : Program) (u : ℕ) (m : List ℕ) (kind : Kind) → ReturnsTo program u kind → IsSound program u m → IsReturned program kind m
returned_at program u m (Do assigns) returns own = tt
returned_at program u m (Call q before) returns own = subst (λ v. IsSound program v m) (sym returns) own

pub back_places : (program : Program) (back : List (List ℕ)) → ReturnFirst program (length program.edges) back → (u : ℕ) (m : List ℕ) → IsSound program u m → (ks : List ℕ) → ks ≡ get_or back u []
    → (k : ℕ) → Contains ks k → (k < length program.edges) × IsReturned program (edge_at program k).kind m
back_places program back t u m own ks is k h =
    let i = (t.is u k).0 (subst (λ l. Contains l k) is h) in (i.0, returned_at program u m (edge_at program k).kind i.1 own)

module _ (program : Program) (prepared : List (List (List ℕ))) (out back : List (List ℕ)) (t : AreTables program prepared out back) (u : ℕ) (m : List ℕ) (old mid new : State)
    (earlier : Inside old mid) (later : Inside mid new) (outs backs : List ℕ) (outs_are : outs ≡ get_or out u []) (backs_are : backs ≡ get_or back u []) where
  place_of : (e : Edge) (k : ℕ) → k < length program.edges → get_or program.edges k e ≡ e → edge_at program k ≡ e
  place_of e k below is = get_or_default program.edges k (edge 0 0 (Do [])) e below ∙ is

  along_both : Along program (λ e. Forward program e old mid m) outs → Along program (λ e. Back program e mid new m) backs → PushesRow program old new u m
  along_both ahead behind = record {
    forward = λ e (k, below, is) leaves.
        let p = place_of e k below is in
        let h = ahead k (subst (λ l. Contains l k) (sym outs_are) ((t.leave.is u k).1 (below, ap (λ (x : Edge). x.from) p ∙ leaves))) in
        forward_is_monotone program m e old old mid new (λ v w x. x) later (subst (λ (x : Edge). Forward program x old mid m) p h);
    back = λ e (k, below, is) returns.
        let p = place_of e k below is in
        let h = behind k (subst (λ l. Contains l k) (sym backs_are) ((t.return.is u k).1 (below, subst (λ (x : Edge). ReturnsTo program u x.kind) (sym p) returns))) in
        back_is_monotone program m e old mid new new earlier (λ v w x. x) (subst (λ (x : Edge). Back program x mid new m) p h);
  }

  -- so it is with all that moves make of the row, alone and with others
  pub row_pushed : Along program (λ e. Forward program e old mid m) outs → Along program (λ e. Back program e mid new m) backs → Pushes 289 (MakesOf program) (JoinsOf program) old new u (m ∷ [])
  row_pushed ahead behind = record {
    alone = λ w v x h move.
        let made = both.forward (edge u w (Do move.assigns)) move.in_edges refl move.words move.choice in
        subst (InModule 289 new w) (sym (move.is ∙ ap (step_map move.assigns move.words) (only_in m v h))) made;
    left = λ b w r s x h k move.
        let made = both.forward (edge u w (Call move.callee move.before)) move.in_edges refl move.words s move.choice (subst (λ v. InModule 289 old v s) (sym move.exit) k) in
        subst (InModule 289 new w) (sym (move.is ∙ ap (call_of program u (matrix_of move.before move.words) s) (only_in m r h))) made;
    right = λ a w r s x k h move.
        let made = both.back (edge a w (Call move.callee move.before)) move.in_edges move.exit move.words r move.choice k in
        subst (InModule 289 new w) (sym (move.is ∙ ap (λ n. call_of program a (matrix_of move.before move.words) n r) (only_in m s h))) made;
  } where
    both : PushesRow program old new u m
    both = along_both ahead behind
