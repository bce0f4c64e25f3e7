-- A basis is built of rows, one by one.
use Rattle.std.proofs.Common.{◌≡◌, ℕ, ◌+◌, ◌≤◌, ◌<◌, inl, inr, List, [], ◌∷◌, ◌++◌, Contains, length, take, drop, get_or, ap, sym, subst, ◌∙◌, arith}
use Rattle.std.proofs.lemmas.List.{take_more, take-append-drop}
use Rattle.std.proofs.lemmas.List.Elements.{Contains-push, Contains-push_cases, Contains-append_left}
use Rattle.row_modules.specs.Modules.{AreRows, IsCombination, IsWithin}
use Rattle.row_modules.specs.Bases.{basis_length}
use Rattle.row_modules.proofs.Laws.{first_or_later, generator, spans_more, within_from_generators}
use Rattle.lead_basis.specs.Inserts.{IsBetween}
use Rattle.lead_basis.proofs.Laws.{basis_rows, length_within}
use Rattle.merged_heads.specs.Pushes.{CountsBases}
use Rattle.block_program.specs.Built.{IsBuilt}

pub built_none : (before : ℕ) → IsBuilt [] [] before before
built_none before = record {
  of_rows = record { is_basis = tt; same = record { there = λ v h. h; back = λ v h. h } };
  rises = omega arith;
  counts_no_more = omega arith;
  counts_rows = omega arith;
}

module _ (rows : List (List ℕ)) (row : List ℕ) (are : AreRows 17 (Contains (rows ++ row ∷ []))) (basis new : List (List ℕ)) (before mid after : ℕ)
    (built : IsBuilt rows basis before mid) (between : IsBetween 17 basis row new) (rises : mid ≤ after) (bounded : after + basis_length basis ≤ mid + basis_length new) where
  -- what stands in the new basis is of the rows, also where memory was wanting
  pub within_more : IsWithin 17 (Contains new) (Contains (rows ++ row ∷ []))
  within_more v h =
      within_from_generators 17 (Contains (row ∷ basis)) (Contains (rows ++ row ∷ [])) are
      (λ u k. elim (first_or_later row basis u k) [
        | inl e ↦ generator 17 (Contains (rows ++ row ∷ [])) are u (rw e (Contains-push rows row))
        | inr l ↦
            let o = built.of_rows in
            spans_more 17 (Contains rows) (Contains (rows ++ row ∷ [])) (λ x i. Contains-append_left rows (row ∷ []) x i) u
            (o.same.there u (generator 17 (Contains basis) (basis_rows 17 basis o.is_basis) u l))
      ]) v (between.within v h)

  pub built_more : IsCombination 17 (Contains new) row → length new + mid ≤ length basis + after → IsBuilt (rows ++ row ∷ []) new before after
  built_more added counts = record {
    of_rows = record {
      is_basis = between.basis;
      same = record {
        there = within_more;
        back = within_from_generators 17 (Contains (rows ++ row ∷ [])) (Contains new) (basis_rows 17 new between.basis)
            (λ u k. elim (Contains-push_cases rows row u k) [
              | inl old ↦ let o = built.of_rows in between.kept u (o.same.back u (generator 17 (Contains rows) (λ x i. are x (Contains-append_left rows (row ∷ []) x i)) u old))
              | inr e ↦ subst (IsCombination 17 (Contains new)) e added
            ]);
      };
    };
    rises = let a = built.rises in omega arith;
    counts_no_more = let a = built.counts_no_more in omega arith;
    counts_rows = let a = built.counts_rows in omega arith;
  }

  -- at every answer the counter rose by no more than the length of a basis of all rows
  pub counted_so_far : (all : List (List ℕ)) → IsWithin 17 (Contains (rows ++ row ∷ [])) (Contains all) → CountsBases (Contains all) before after
  counted_so_far all part other is =
      let short = length_within 17 new other between.basis is.is_basis (λ v h. is.same.back v (part v (within_more v h))) in
      let a = built.counts_no_more in omega arith

pub counted_built : (rows basis : List (List ℕ)) (before after : ℕ) → IsBuilt rows basis before after → CountsBases (Contains rows) before after
counted_built rows basis before after built other is =
    let o = built.of_rows in
    let short = length_within 17 basis other o.is_basis is.is_basis (λ v h. is.same.back v (o.same.there v h)) in
    let a = built.counts_no_more in omega arith

-- in the midst of a list of rows
module _ (rows : List (List ℕ)) (are : AreRows 17 (Contains rows)) (i : ℕ) (row : List ℕ) (below : i < length rows) (is : row ≡ get_or rows i row) (basis new : List (List ℕ)) (before mid after : ℕ)
    (built : IsBuilt (take i rows) basis before mid) (between : IsBetween 17 basis row new) (rises : mid ≤ after) (bounded : after + basis_length basis ≤ mid + basis_length new) where
  one_more : take (i + 1) rows ≡ take i rows ++ row ∷ []
  one_more = take_more rows i row below ∙ ap (λ x. take i rows ++ x ∷ []) (sym is)

  part : (v : List ℕ) → Contains (take i rows ++ row ∷ []) v → Contains rows v
  part v h = subst (λ xs. Contains xs v) (take-append-drop (i + 1) rows) (Contains-append_left (take (i + 1) rows) (drop (i + 1) rows) v (rw one_more h))

  pub built_at : IsCombination 17 (Contains new) row → length new + mid ≤ length basis + after → IsBuilt (take (i + 1) rows) new before after
  built_at added counts = rw one_more (built_more (take i rows) row (λ v h. are v (part v h)) basis new before mid after built between rises bounded added counts)

  pub counted_at : CountsBases (Contains rows) before after
  counted_at =
      counted_so_far (take i rows) row (λ v h. are v (part v h)) basis new before mid after built between rises bounded rows
      (spans_more 17 (Contains (take i rows ++ row ∷ [])) (Contains rows) part)
