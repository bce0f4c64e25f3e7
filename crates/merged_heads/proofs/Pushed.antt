-- What comes to a merged node is what comes to its head, pushed along its chain, and what its edge makes of what comes to its parent.
use Rattle.std.proofs.Common.{ℕ, ◌<◌, inl, inr, List, ◌++◌, length, refl, ap, sym, subst, ◌∙◌}
use Rattle.map_modules.specs.Matrices.{apply}
use Rattle.map_modules.proofs.Lemmas.{apply-product}
use Rattle.merged_heads.specs.declared.Merging.{Merging}
use Rattle.affine_prog.specs.declared.Program.{Program}
use Rattle.affine_prog.specs.declared.Kind.TheVariants.{Do, Call}
use Rattle.affine_prog.specs.declared.Assign.{Assign}
use Rattle.affine_prog.specs.Programs.{entry_of, IsWellFormed}
use Rattle.affine_prog.specs.Assignments.{matrix_of}
use Rattle.affine_prog.specs.LevelPaths.{LevelPath, opening, step, call}
use Rattle.affine_prog.specs.OpenPaths.{OpenPath, first, enter}
use Rattle.merged_heads.specs.Merges.{IsParent, IsMergedTable}
use Rattle.merged_heads.specs.Chains.{IsHead, Chain}
use Rattle.merged_heads.specs.Laws.{IsLevelAlong, IsOpenAlong}
use Rattle.merged_heads.specs.FollowLaws.{IsStepFrom}
use Rattle.affine_prog.proofs.Lemmas.{matrix_of-append, Choice-parts}
use Rattle.merged_heads.proofs.Classes.{parent_member, on_from_parent, parent_below, chain_of}
use Rattle.merged_heads.proofs.Edges.{IsCall, chain_at, at_head}
use Rattle.merged_heads.proofs.Along.{along_nothing, along_more, open_from}
use Rattle.merged_heads.proofs.Following.{follow, open_step, open_follow}

module _ (program : Program) (table : Merging) (w : IsWellFormed program) (m : IsMergedTable program table) where
  entry_is_head : (p : ℕ) → p < length program.procs → IsHead program table (entry_of program p)
  entry_is_head p within = let o = w.procs p within in let e = m.ends p within in record { node = o.entry; not_merged = e.entry }

  pub level_along : (p u : ℕ) (n : List ℕ) → LevelPath program p u n → (h : ℕ) (chain : List Assign) → Chain program table h u chain → IsLevelAlong program p h chain n
  level_along p u n (opening p' u' words n' within at row is) h chain leads =
      let top = at_head program table h u chain (rw at (entry_is_head p within)) leads in
      let path : LevelPath program p h n = subst (λ (x : ℕ). LevelPath program p x n) top.0 (opening p u words n within at row is) in
      rw top.1 (along_nothing program p h n path)
  level_along p v n (step p' u v' assigns words n0 n' path contains choice is) h chain leads =
      elim (chain_at program table w m h u v (Do assigns) chain contains leads) [
        | inl top ↦
            let path' : LevelPath program p h n = subst (λ (x : ℕ). LevelPath program p x n) top.same (step p u v assigns words n0 n path contains choice is) in
            rw top.none (along_nothing program p h n path')
        | inr on ↦ rw on.more (along_more program p h on.rest assigns words n0 n (level_along p u n0 path h on.rest on.leads) choice is)
      ]
  level_along p v n (call p' q u v' before words n0 callee n' path contains choice called is) h chain leads =
      elim (chain_at program table w m h u v (Call q before) chain contains leads) [
        | inl top ↦
            let path' : LevelPath program p h n = subst (λ (x : ℕ). LevelPath program p x n) top.same (call p q u v before words n0 callee n path contains choice called is) in
            rw top.none (along_nothing program p h n path')
        | inr on ↦ absurd (subst IsCall on.is_do tt)
      ]

  pub along_level : (p h u : ℕ) (chain : List Assign) (n : List ℕ) → Chain program table h u chain → IsLevelAlong program p h chain n → LevelPath program p u n
  along_level p h u chain n leads a = rw a.map (follow program table p h u chain a.words a.first a.path leads a.choice)

  pub open_along : (start : List ℕ) (u : ℕ) (v : List ℕ) → OpenPath program start u v → (h : ℕ) (chain : List Assign) → Chain program table h u chain → IsOpenAlong program start h chain v
  open_along start u v (first u' n v' path is) h chain leads =
      open_from program start h chain n start v (level_along program.start u n path h chain leads) (λ n' lower. first h n' (apply n' start) lower refl) is
  open_along start u' after' (enter q s t u'' before words n state after'' path contains choice called is) h chain leads =
      open_from program start h chain n (apply (matrix_of before words) state) after' (level_along q u' n called h chain leads)
      (λ n' lower. enter q s t h before words n' state (apply n' (apply (matrix_of before words) state)) path contains choice lower refl) is

  pub along_open : (start : List ℕ) (h u : ℕ) (chain : List Assign) (v : List ℕ) → Chain program table h u chain → IsOpenAlong program start h chain v → OpenPath program start u v
  along_open start h u chain v leads a = rw a.state (open_follow program table start h u chain a.words a.first a.path leads a.choice)

  pub merged_comes : (u v : ℕ) (list : List Assign) → v < program.nodes → IsParent program table v u list → (start state : List ℕ) → OpenPath program start v state → IsStepFrom program start u list state
  merged_comes u v list below p start state path =
      let b = parent_below program table w m v u list below p in
      let c = chain_of program table w m u b.1 in
      let a = open_along start v state path c.head (c.chain ++ list) (on_from_parent program table c.head v u list c.chain p c.leads) in
      let parts = Choice-parts c.chain list a.words a.choice in
      record {
        words = parts.second;
        before = apply (matrix_of c.chain parts.first) a.first;
        choice = parts.second_choice;
        path = open_follow program table start c.head u c.chain parts.first a.first a.path c.leads parts.first_choice;
        state = a.state ∙ ap (λ (ws : List ℕ). apply (matrix_of (c.chain ++ list) ws) a.first) (sym parts.both)
            ∙ ap (λ (b : List ℕ). apply b a.first) (matrix_of-append c.chain list parts.first parts.second (let f = parts.first_choice in f.width))
            ∙ apply-product (matrix_of list parts.second) (matrix_of c.chain parts.first) a.first;
      }

  pub merged_goes : (u v : ℕ) (list : List Assign) → IsParent program table v u list → (start state : List ℕ) → IsStepFrom program start u list state → OpenPath program start v state
  merged_goes u v list p start state c = rw c.state (open_step program start u v list c.words c.before c.path (parent_member program table v u list p) c.choice)
