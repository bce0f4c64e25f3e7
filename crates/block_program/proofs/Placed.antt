-- The block edges of the first edges, and of one more.
use Rattle.std.proofs.Common.{◌≡◌, ℕ, ◌+◌, ◌<◌, Bool, true, false, List, [], ◌∷◌, ◌++◌, Contains, length, take, get_or, cond, refl, ap, sym, subst, ◌∙◌, ◌==◌, ◌||◌}
use Rattle.std.specs.Prelude.{Option, None, Some, IsSome, MatchOption, slice_index_or, unwrap_or}
use Rattle.std.specs.List.{AllZip, list_any}
use Rattle.std.proofs.lemmas.Bool.{eqb-true, false≢true}
use Rattle.std.proofs.lemmas.List.{append-nil, get_or-map}
use Rattle.std.proofs.lemmas.List.Elements.{filter_more, AllZip-push}
use Rattle.row_modules.proofs.Laws.{contains_first, contains_later}
use Rattle.affine_prog.specs.declared.Program.{Program}
use Rattle.affine_prog.specs.declared.Proc.{Proc}
use Rattle.affine_prog.specs.Programs.{entry_of, exit_of, IsWellFormed}
use Rattle.affine_prog.specs.declared.Edge.{Edge}
use Rattle.affine_prog.specs.declared.Assign.{Assign}
use Rattle.merged_heads.specs.declared.Merging.{Merging}
use Rattle.merged_heads.specs.Merges.{edge_number, IsMergedTable}
use Rattle.merged_heads.specs.Chains.{IsHead, Chain, here, after}
use Rattle.merged_heads.specs.BlockPrograms.{IsBlockEdge, edges_to, NumbersHeads}
use Rattle.merged_heads.proofs.Lemmas.{listed}
use Rattle.block_program.specs.Numbers.{AreNumbersBelow, IsNumber}
use Rattle.block_program.proofs.Numbering.{not_both}

-- a number that is listed is in the list
unlisted : (xs : List ℕ) (x : ℕ) → list_any (λ y. y == x) xs ≡ true → Contains xs x
unlisted [] x e = absurd (false≢true e)
unlisted (y ∷ xs) x e = by (y == x) refl e (unlisted xs x)
  where
    by : (b : Bool) → (y == x) ≡ b → (b || list_any (λ z. z == x) xs) ≡ true → (list_any (λ z. z == x) xs ≡ true → Contains xs x) → Contains (y ∷ xs) x
    by true same h rest = subst (Contains (y ∷ xs)) (eqb-true y x same) (contains_first y xs)
    by false same h rest = contains_later y xs x (rest h)

pub chain_head : (program : Program) (merging : Merging) (h v : ℕ) (chain : List Assign) → Chain program merging h v chain → IsHead program merging h
chain_head program merging h v chain (here h' v' chain' head same none) = head
chain_head program merging h v chain (after h' u v' rest assigns more leads inner contains is) = chain_head program merging h u rest leads

module _ (program : Program) (merging : Merging) (heads : List ℕ) (table : List (Option ℕ)) (t : AreNumbersBelow merging program.nodes heads table) where
  pub number_here : (v k : ℕ) → v < program.nodes → slice_index_or table v None ≡ Some k → IsNumber heads v k
  number_here v k below some = subst (λ (o : Option ℕ). MatchOption o (IsSome (edge_number merging v)) (IsNumber heads v)) some (t.at v below)

  pub merged_here : (v : ℕ) → v < program.nodes → ((k : ℕ) → slice_index_or table v None ≡ Some k → ⊥) → IsSome (edge_number merging v)
  merged_here v below none = by (slice_index_or table v None) (t.at v below) none
    where
      by : (o : Option ℕ) → MatchOption o (IsSome (edge_number merging v)) (IsNumber heads v) → ((k : ℕ) → o ≡ Some k → ⊥) → IsSome (edge_number merging v)
      by None is other = is
      by (Some k) is other = absurd (other k refl)

  pub head_number : (v : ℕ) → IsHead program merging v → IsNumber heads v (unwrap_or (slice_index_or table v None) 0)
  head_number v head = by (slice_index_or table v None) (t.at v head.node)
    where
      by : (o : Option ℕ) → MatchOption o (IsSome (edge_number merging v)) (IsNumber heads v) → IsNumber heads v (unwrap_or o 0)
      by None is = absurd (not_both (edge_number merging v) head.not_merged is)
      by (Some k) is = is

module _ (program : Program) (merging : Merging) (heads : List ℕ) (numbers : NumbersHeads program merging heads) (edges : List Edge) (i : ℕ) (d : Edge) (within : i < length edges) (made : List Edge)
    (so_far : AllZip (IsBlockEdge program merging heads) (edges_to heads (take i edges)) made) where
  by_one : (b : Bool) → list_any (λ h. h == (get_or edges i d).to) heads ≡ b → edges_to heads (take (i + 1) edges) ≡ edges_to heads (take i edges) ++ cond b (get_or edges i d ∷ []) []
  by_one b is = filter_more (λ (e : Edge). list_any (λ h. h == e.to) heads) edges i d within ∙ ap (λ (c : Bool). edges_to heads (take i edges) ++ cond c (get_or edges i d ∷ []) []) is

  pub zip_kept : (b : Edge) → Contains heads (get_or edges i d).to → IsBlockEdge program merging heads (get_or edges i d) b → AllZip (IsBlockEdge program merging heads) (edges_to heads (take (i + 1) edges)) (made ++ b ∷ [])
  zip_kept b head is =
      subst (λ (xs : List Edge). AllZip (IsBlockEdge program merging heads) xs (made ++ b ∷ [])) (sym (by_one true (listed heads (get_or edges i d).to head)))
      (AllZip-push (IsBlockEdge program merging heads) (edges_to heads (take i edges)) made (get_or edges i d) b so_far is)

  pub zip_left_out : IsSome (edge_number merging (get_or edges i d).to) → AllZip (IsBlockEdge program merging heads) (edges_to heads (take (i + 1) edges)) made
  zip_left_out merged =
      let away : list_any (λ h. h == (get_or edges i d).to) heads ≡ false = not_listed (list_any (λ h. h == (get_or edges i d).to) heads) refl in
      subst (λ (xs : List Edge). AllZip (IsBlockEdge program merging heads) xs made) (sym (by_one false away ∙ append-nil (edges_to heads (take i edges)))) so_far
    where
      not_listed : (b : Bool) → list_any (λ h. h == (get_or edges i d).to) heads ≡ b → b ≡ false
      not_listed true is = let h = (numbers.all (get_or edges i d).to).0 (unlisted heads (get_or edges i d).to is) in absurd (not_both (edge_number merging (get_or edges i d).to) h.not_merged merged)
      not_listed false is = refl

-- the entry and the exit of a procedure are heads
module _ (program : Program) (w : IsWellFormed program) (merging : Merging) (m : IsMergedTable program merging) (k : ℕ) (d : Proc) (within : k < length program.procs) where
  entry_at : entry_of program k ≡ (get_or program.procs k d).entry
  entry_at = get_or-map (λ (p : Proc). p.entry) program.procs k d 0 within

  exit_at : exit_of program k ≡ (get_or program.procs k d).exit
  exit_at = get_or-map (λ (p : Proc). p.exit) program.procs k d 0 within

  pub entry_is_head : IsHead program merging (get_or program.procs k d).entry
  entry_is_head = subst (IsHead program merging) entry_at (record { node = let o = w.procs k within in o.entry; not_merged = let e = m.ends k within in e.entry })

  pub exit_is_head : IsHead program merging (get_or program.procs k d).exit
  exit_is_head = subst (IsHead program merging) exit_at (record { node = let o = w.procs k within in o.exit; not_merged = let e = m.ends k within in e.exit })
