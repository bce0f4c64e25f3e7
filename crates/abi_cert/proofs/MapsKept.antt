-- What a basis of the maps of a procedure says of them.
use Rattle.std.proofs.Common.{◌≡◌, ◌≢◌, ℕ, ◌^◌, ◌<◌, List, [], ◌∷◌, All, Contains, get_or, refl, sym, ap, subst, ◌∙◌, arith}
use Rattle.std.proofs.lemmas.List.Elements.{All-contains_itself, All-contains, All-weaker}
use Rattle.std.proofs.lemmas.Nat.{pow_pos}
use Rattle.word_rows.specs.Rows.{IsRow, lead}
use Rattle.word_rows.proofs.Laws.{IsRow-plus, IsRow-zeros, get_or-zeros}
use Rattle.row_modules.specs.Bases.{IsLeadingBasis}
use Rattle.row_modules.specs.Modules.{AreRows, IsCombination, IsModule, SameModule, none, more}
use Rattle.row_modules.proofs.Laws.{contains_first, generator, module_least, nothing_contained}
use Rattle.lead_basis.proofs.Laws.{basis_rows}
use Rattle.map_modules.specs.Matrices.{IsAffine, Keeps}
use Rattle.map_modules.specs.Laws.{KeepingIsLinear, KeepingLeavesWords}
use Rattle.affine_prog.specs.declared.Program.{Program}
use Rattle.affine_prog.specs.Programs.{IsWellFormed, exit_of}
use Rattle.affine_prog.specs.Relations.{Certified, Returns}
use Rattle.affine_prog.specs.Spans.{IsMapOf}
use Rattle.affine_prog.specs.Laws.{LevelMapsAreAffine}
use Rattle.abi_cert.specs.declared.cert.Cert.{Cert}
use Rattle.abi_cert.specs.declared.cert.Cert.TheVariants.{Granted, Broken, NeverReturns}
use Rattle.abi_cert.specs.Certificates.{IsCertificate, IsCertOf}

-- a combination with a word that isn't 0 has a member of the set in it
some_member : (P : List ℕ → Type 0) (v : List ℕ) (k : ℕ) → get_or v k 0 ≢ 0 → IsCombination 289 P v → (m : List ℕ) × P m
some_member P v k some (none v' e) = absurd (some (ap (λ (xs : List ℕ). get_or xs k 0) e ∙ get_or-zeros 289 k))
some_member P w k some (more c v row w' m p e) = (row, p)

-- a row of a basis that has one, and a place where its word isn't 0
record HasRow (rows : List (List ℕ)) : Type 0 where
  row : List ℕ
  there : Contains rows row
  at : ℕ
  some : get_or row at 0 ≢ 0

has_row : (rows : List (List ℕ)) → IsLeadingBasis 289 rows → rows ≢ [] → HasRow rows
has_row [] basis some = absurd (some refl)
has_row (row ∷ rest) basis some = record {
  row = row;
  there = contains_first row rest;
  at = lead row;
  some = λ e. let above : 0 < 2 ^ basis.0.power = pow_pos basis.0.power in let is = basis.0.is_pivot in omega arith;
}

module _ (linear : (r : ℕ) → KeepingIsLinear r) (words : KeepingLeavesWords) (maps : LevelMapsAreAffine) (program : Program) (p r : ℕ)
    (rows : List (List ℕ)) (good : IsWellFormed program) (small : r < 16) (basis : IsLeadingBasis 289 rows)
    (same : SameModule 289 (Contains rows) (IsMapOf program p)) where
  kept_rows : IsModule 289 (λ m. IsRow 289 m × Keeps m r)
  kept_rows = record {
    rows = λ m h. h.0;
    zero_row = (IsRow-zeros 289, (linear r).zero_row);
    sum = λ c v w h k. (IsRow-plus 289 c v w h.0 k.0, (linear r).sum c v w h.0 k.0 h.1 k.1);
  }

  affine : (m : List ℕ) → IsMapOf program p m → IsRow 289 m × IsAffine m
  affine m path = maps program p (exit_of program p) m good path

  map_in : (m : List ℕ) → IsMapOf program p m → IsCombination 289 (Contains rows) m
  map_in m path = same.back m (generator 289 (IsMapOf program p) (λ k h. (affine k h).0) m path)

  row_in : (m : List ℕ) → Contains rows m → IsCombination 289 (IsMapOf program p) m
  row_in m there = same.there m (generator 289 (Contains rows) (basis_rows 289 rows basis) m there)

  never : rows ≡ [] → Returns program p → ⊥
  never e return =
      let last : get_or return.map 288 0 ≡ 1 = (affine return.map return.path).1 16 (omega arith) in
      let member = some_member (Contains []) return.map 288 (λ z. omega arith)
      (subst (λ (rs : List (List ℕ)). IsCombination 289 (Contains rs) return.map) e (map_in return.map return.path)) in
      nothing_contained member.0 member.1

  returns : rows ≢ [] → Returns program p
  returns some =
      let has = has_row rows basis some in
      let member = some_member (IsMapOf program p) has.row has.at has.some (row_in has.row has.there) in
      record { map = member.0; path = member.1 }

  certified : All (λ m. Keeps m r) rows → Certified program p r
  certified all m v path state =
      let kept = module_least 289 (λ m. IsRow 289 m × Keeps m r) kept_rows (Contains rows)
      (λ k there. (basis_rows 289 rows basis k there, All-contains (λ m. Keeps m r) rows k all there)) m (map_in m path) in
      (words m r small (affine m path).0 (affine m path).1).0 kept.1 v state

  all_keep : Certified program p r → All (λ m. Keeps m r) rows
  all_keep left = All-weaker (Contains rows) (λ m. Keeps m r) keeps rows (All-contains_itself rows)
    where
      path_keeps : (m : List ℕ) → IsMapOf program p m → IsRow 289 m × Keeps m r
      path_keeps m path = ((affine m path).0, (words m r small (affine m path).0 (affine m path).1).1 (λ v state. left m v path state))

      keeps : (m : List ℕ) → Contains rows m → Keeps m r
      keeps m there = (module_least 289 (λ m. IsRow 289 m × Keeps m r) kept_rows (IsMapOf program p) path_keeps m (row_in m there)).1

  pub tells : (cert : Cert) → IsCertificate rows r cert → IsCertOf program p r cert
  tells NeverReturns e = never e
  tells Granted h = (returns h.0, certified h.1)
  tells Broken h = (returns h.0, λ left. h.1 (all_keep left))
