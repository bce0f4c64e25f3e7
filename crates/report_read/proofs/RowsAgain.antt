-- The terms of a report's row make a relation's line.
use Rattle.std.proofs.Common.{◌≡◌, ◌≢◌, ℕ, suc, ◌+◌, ◌<◌, ◌≤◌, Bool, cond, eqb, List, [], ◌∷◌, All, length, get_or, refl, sym, subst, ◌∙◌, arith, inl, inr}
use Rattle.std.specs.Prelude.{◌⊎◌}
use Rattle.std.specs.List.{AllByRecursion, AllPairs}
use Rattle.std.specs.Str.{bytes_eq}
use Rattle.std.proofs.lemmas.Bool.{cases_eq, eq-eqb, ne_eqb}
use Rattle.std.proofs.lemmas.List.Elements.{All-cons, All-get_or, All-nil, All-weaker}
use Rattle.std.proofs.lemmas.List.Kept.{AllPairs-cons}
use Rattle.std.proofs.lemmas.List.Sums.{position_or_len_is}
use Rattle.std.proofs.lemmas.Slice.Eq.{bytes_eq-Decides}
use Rattle.report_text.specs.declared.names.Name.{Name}
use Rattle.report_text.specs.declared.names.Name.TheVariants.{Register}
use Rattle.report_text.specs.Names.{IsName}
use Rattle.report_text.specs.Text.{name_text}
use Rattle.report_lines.specs.NameTexts.{IsAddressed}
use Rattle.report_lines.specs.Terms.{Term}
use Rattle.report_lines.specs.Relations.{AreRising, place_in, terms_of}
use Rattle.report_lines.proofs.NamesTold.{one_name}
use Rattle.report_lines.proofs.Placed.{differ}

-- the terms of a row, where each of its words that aren't 0 has what is wanted
pub each_term : (P : Term → Type 0) (names : List Name) (row : List ℕ) (d : Name)
    → ((k : ℕ) → k < length names → k < length row → get_or row k 0 ≢ 0 → P (get_or row k 0, name_text (get_or names k d)))
    → AllByRecursion P (terms_of names row)
each_term P [] row d h = tt
each_term P (name ∷ names) [] d h = tt
each_term P (name ∷ names) (w ∷ row) d h =
    by (each_term P names row d (λ k lt wide some. h (suc k) (omega arith) (omega arith) some)) (cases_eq w 0)
  where
    by : AllByRecursion P (terms_of names row) → (w ≡ 0) ⊎ (w ≢ 0)
        → AllByRecursion P (cond (eqb w 0) (terms_of names row) ((w, name_text name) ∷ terms_of names row))
    by later (inl z) = subst (λ (b : Bool). AllByRecursion P (cond b (terms_of names row) ((w, name_text name) ∷ terms_of names row))) (sym (eq-eqb w 0 z)) later
    by later (inr nz) = subst (λ (b : Bool). AllByRecursion P (cond b (terms_of names row) ((w, name_text name) ∷ terms_of names row))) (sym (ne_eqb w 0 nz))
        (h 0 (omega arith) (omega arith) nz, later)

-- terms whose places are those of their words rise
rising_from : (place : Term → ℕ) (base : ℕ) (names : List Name) (row : List ℕ) (d : Name)
    → ((k : ℕ) → k < length names → place (get_or row k 0, name_text (get_or names k d)) ≡ base + k)
    → AllPairs (λ s t. place s < place t) (terms_of names row) × All (λ t. base ≤ place t) (terms_of names row)
rising_from place base [] row d h = ((λ i j e lt below. absurd (omega arith)), All-nil (λ t. base ≤ place t))
rising_from place base (name ∷ names) [] d h = ((λ i j e lt below. absurd (omega arith)), All-nil (λ t. base ≤ place t))
rising_from place base (name ∷ names) (w ∷ row) d h =
    by (rising_from place (base + 1) names row d (λ k lt. h (suc k) (omega arith) ∙ omega arith)) (cases_eq w 0)
  where
    by : AllPairs (λ s t. place s < place t) (terms_of names row) × All (λ t. base + 1 ≤ place t) (terms_of names row)
        → (w ≡ 0) ⊎ (w ≢ 0)
        → AllPairs (λ s t. place s < place t) (cond (eqb w 0) (terms_of names row) ((w, name_text name) ∷ terms_of names row))
        × All (λ t. base ≤ place t) (cond (eqb w 0) (terms_of names row) ((w, name_text name) ∷ terms_of names row))
    by later (inl z) =
        subst (λ (b : Bool). AllPairs (λ s t. place s < place t) (cond b (terms_of names row) ((w, name_text name) ∷ terms_of names row)) × All (λ t. base ≤ place t) (cond b (terms_of names row) ((w, name_text name) ∷ terms_of names row)))
        (sym (eq-eqb w 0 z)) (later.0, All-weaker (λ t. base + 1 ≤ place t) (λ t. base ≤ place t) (λ t l. omega arith) (terms_of names row) later.1)
    by later (inr nz) =
        let here : place (w, name_text name) ≡ base = h 0 (omega arith) ∙ omega arith in
        subst (λ (b : Bool). AllPairs (λ s t. place s < place t) (cond b (terms_of names row) ((w, name_text name) ∷ terms_of names row)) × All (λ t. base ≤ place t) (cond b (terms_of names row) ((w, name_text name) ∷ terms_of names row)))
        (sym (ne_eqb w 0 nz)) (
          AllPairs-cons (λ s t. place s < place t) (w, name_text name) (terms_of names row)
              (All-weaker (λ t. base + 1 ≤ place t) (λ t. place (w, name_text name) < place t) (λ t l. omega arith) (terms_of names row) later.1) later.0,
          All-cons (λ t. base ≤ place t) (w, name_text name) (terms_of names row) (omega arith)
              (All-weaker (λ t. base + 1 ≤ place t) (λ t. base ≤ place t) (λ t l. omega arith) (terms_of names row) later.1),
        )

-- different names, each at its own place
module _ (names : List Name) (allowed : All IsName names) (addressed : All IsAddressed names) (distinct : AllPairs (λ (a : Name) b. a ≢ b) names) where
  pub own_place : (k : ℕ) (d : Name) → k < length names → place_in names (name_text (get_or names k d)) ≡ k
  own_place k d lt =
      position_or_len_is (λ n. bytes_eq (name_text n) (name_text (get_or names k d))) names k d (omega arith)
      (λ j less. differ _ (name_text (get_or names k d)) (λ e. distinct j k d less lt
      (one_name (get_or names j d) (get_or names k d) (All-get_or IsName names j d (omega arith) allowed) (All-get_or IsAddressed names j d (omega arith) addressed)
      (All-get_or IsName names k d lt allowed) (All-get_or IsAddressed names k d lt addressed) e)))
      (λ l. (bytes_eq-Decides (name_text (get_or names k d)) (name_text (get_or names k d))).1 refl)

  pub rising : (row : List ℕ) → AreRising names (terms_of names row)
  rising row = (rising_from (λ t. place_in names t.1) 0 names row (Register 0) (λ k lt. own_place k (Register 0) lt ∙ omega arith)).0
