-- Members of lists that are made row by row, and the rows of bases.
use Rattle.std.proofs.Common.{◌≡◌, ℕ, ◌+◌, ◌<◌, inl, inr, List, [], ◌∷◌, ◌++◌, Contains, All, map, length, take, get_or, ap, sym, subst, ◌∙◌, arith}
use Rattle.std.proofs.lemmas.Bool.{cases_lt}
use Rattle.std.proofs.lemmas.List.{take_more, map-append, append_assoc, get_or_past, length_push, get_or_append_left, get_or_push}
use Rattle.std.proofs.lemmas.List.Elements.{Contains-push, Contains-push_cases, Contains-append_left, Contains-append_right, Contains-append_cases}
use Rattle.row_modules.specs.Modules.{AreRows}
use Rattle.row_modules.specs.Maps.{Products}
use Rattle.row_modules.specs.Bases.{IsLeadingBasis}
use Rattle.row_modules.proofs.Laws.{contains_first, contains_later, first_or_later, nothing_contained, same_with, same_members}
use Rattle.lead_basis.proofs.Laws.{basis_rows}
use Rattle.map_modules.specs.Matrices.{apply}
use Rattle.map_modules.proofs.Lemmas.{IsRow-vector}
use Rattle.affine_prog.specs.declared.Program.{Program}
use Rattle.affine_prog.specs.Spans.{rows_at}
use Rattle.block_program.specs.Contractions.{Contraction}
use Rattle.proof_rules.specs.Laws.{AreRowLists}
use Rattle.proof_verify.specs.RowBases.{IsBasisOfRows}
use Rattle.proof_verify.specs.Points.{AreProducts, IsHeadBasis, HasStatesAt, HaveStatesBelow}

map_in : (f : List ℕ → List ℕ) (xs : List (List ℕ)) (x : List ℕ) → Contains xs x → Contains (map f xs) (f x)
map_in f [] x h = absurd (nothing_contained x h)
map_in f (y ∷ xs) x h = elim (first_or_later y xs x h) [
  | inl e ↦ rw e (contains_first (f y) (map f xs))
  | inr k ↦ contains_later (f y) (map f xs) (f x) (map_in f xs x k)
]

map_out : (f : List ℕ → List ℕ) (xs : List (List ℕ)) (y : List ℕ) → Contains (map f xs) y → (x : List ℕ) × Contains xs x × (y ≡ f x)
map_out f [] y h = absurd (nothing_contained y h)
map_out f (x ∷ xs) y h = elim (first_or_later (f x) (map f xs) y h) [
  | inl e ↦ (x, contains_first x xs, e)
  | inr k ↦ let r = map_out f xs y k in (r.0, contains_later x xs r.0 r.1, r.2)
]

-- what is applied to one state more
pub applied_more : (f : List ℕ → List ℕ) (old states : List (List ℕ)) (i : ℕ) (state : List ℕ) → i < length states → state ≡ get_or states i state
    → (rows new : List (List ℕ)) → rows ≡ old ++ map f (take i states) → new ≡ rows ++ f state ∷ [] → new ≡ old ++ map f (take (i + 1) states)
applied_more f old states i state below is rows new so_far added =
    let more : take (i + 1) states ≡ take i states ++ state ∷ [] = take_more states i state below ∙ ap (λ x. take i states ++ x ∷ []) (sym is) in
    rw (more, map-append f (take i states) (state ∷ []), added, so_far) (append_assoc old (map f (take i states)) (f state ∷ []))

-- the products of one map more
pub products_none : (states : List (List ℕ)) → AreProducts [] states []
products_none states v = (λ h. absurd (nothing_contained v h), λ p. absurd (nothing_contained p.left p.member_left))

module _ (maps states : List (List ℕ)) (i : ℕ) (m : List ℕ) (below : i < length maps) (is : m ≡ get_or maps i m) (rows new : List (List ℕ)) where
  one_more : take (i + 1) maps ≡ take i maps ++ m ∷ []
  one_more = take_more maps i m below ∙ ap (λ x. take i maps ++ x ∷ []) (sym is)

  pub products_more : AreProducts (take i maps) states rows → new ≡ rows ++ map (apply m) states → AreProducts (take (i + 1) maps) states new
  products_more so_far added v = rw (one_more, added) (
    λ h. elim (Contains-append_cases rows (map (apply m) states) v h) [
      | inl old ↦
          let p = (so_far v).0 old in record {
            left = p.left;
            right = p.right;
            member_left = Contains-append_left (take i maps) (m ∷ []) p.left p.member_left;
            member_right = p.member_right;
            is = p.is;
          }
      | inr now ↦
          let r = map_out (apply m) states v now in record {
            left = m;
            right = r.0;
            member_left = Contains-push (take i maps) m;
            member_right = r.1;
            is = r.2;
          }
    ],
    λ p. elim (Contains-push_cases (take i maps) m p.left p.member_left) [
      | inl old ↦
          Contains-append_left rows (map (apply m) states) v
          ((so_far v).1 (record { left = p.left; right = p.right; member_left = old; member_right = p.member_right; is = p.is }))
      | inr e ↦
          Contains-append_right rows (map (apply m) states) v
          (subst (Contains (map (apply m) states)) (ap (λ x. apply x p.right) e ∙ sym p.is) (map_in (apply m) states p.right p.member_right))
    ],
  )

-- the rows of bases
pub are_row_lists : (n : ℕ) (bases : List (List (List ℕ))) → All (IsLeadingBasis n) bases → AreRowLists n bases
are_row_lists n bases all i v h = elim (cases_lt i (length bases)) [
  | inl below ↦ basis_rows n (get_or bases i []) (all i [] below) v h
  | inr past ↦ absurd (nothing_contained v (subst (λ xs. Contains xs v) (get_or_past bases i [] past) h))
]

pub product_rows : (maps states rows : List (List ℕ)) → AreProducts maps states rows → AreRows 17 (Contains rows)
product_rows maps states rows are v h = let p = (are v).0 h in let e = p.is in rw e (IsRow-vector _)

pub head_basis : (maps states rows basis : List (List ℕ)) → AreProducts maps states rows → IsBasisOfRows 17 rows basis → IsHeadBasis maps states basis
head_basis maps states rows basis are h = record {
  are_rows = basis_rows 17 basis h.is_basis;
  same = same_with 17 (Contains basis) (Contains rows) (Products apply (Contains maps) (Contains states)) h.same
      (same_members 17 (Contains rows) (Products apply (Contains maps) (Contains states)) (λ v. (are v).0) (λ v. (are v).1));
}

-- the states of one node more
pub kept_more : (program : Program) (blocks : Contraction) (levels entries : List (List (List ℕ))) (n : ℕ) (kept new : List (List (List ℕ))) (states : List (List ℕ))
    → HaveStatesBelow program blocks levels entries n kept → new ≡ kept ++ states ∷ [] → HasStatesAt program blocks levels entries n states
    → HaveStatesBelow program blocks levels entries (n + 1) new
kept_more program blocks levels entries n kept new states h is now =
    let long = h.long in record {
      long = ap (λ (xs : List (List (List ℕ))). length xs) is ∙ (let l = length_push kept states in omega arith);
      at = λ v below. elim (cases_lt v n) [
        | inl early ↦
            subst (HasStatesAt program blocks levels entries v)
            (sym (ap (λ (xs : List (List (List ℕ))). rows_at xs v) is ∙ get_or_append_left kept (states ∷ []) [] v (omega arith))) (h.at v early)
        | inr late ↦
            let same : v ≡ n = omega arith in
            subst (HasStatesAt program blocks levels entries v)
            (sym (ap (λ (xs : List (List (List ℕ))). rows_at xs v) is ∙ get_or_push kept states [] v (omega arith)))
            (subst (λ (u : ℕ). HasStatesAt program blocks levels entries u states) (sym same) now)
      ];
    }
