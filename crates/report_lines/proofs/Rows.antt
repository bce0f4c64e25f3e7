-- The terms of a row, with one word more.
use Rattle.std.proofs.Common.{◌≡◌, ◌≢◌, ℕ, zero, suc, ◌<◌, ◌≤◌, Bool, true, false, cond, eqb, List, [], ◌∷◌, ◌++◌, length, get_or, set, replicate, refl, sym, ap, ◌∙◌, arith}
use Rattle.std.proofs.lemmas.Bool.{eq-eqb, ne_eqb}
use Rattle.report_text.specs.declared.names.Name.{Name}
use Rattle.report_text.specs.Text.{name_text}
use Rattle.report_lines.specs.Terms.{Term}
use Rattle.report_lines.specs.Relations.{terms_of}

-- a word that is 0 has no term
skipped : (name : Name) (names : List Name) (w : ℕ) (row : List ℕ) → w ≡ 0 → terms_of (name ∷ names) (w ∷ row) ≡ terms_of names row
skipped name names w row e = ap (λ (b : Bool). cond b (terms_of names row) ((w, name_text name) ∷ terms_of names row)) (eq-eqb w 0 e)

taken : (name : Name) (names : List Name) (w : ℕ) (row : List ℕ) → w ≢ 0 → terms_of (name ∷ names) (w ∷ row) ≡ (w, name_text name) ∷ terms_of names row
taken name names w row e = ap (λ (b : Bool). cond b (terms_of names row) ((w, name_text name) ∷ terms_of names row)) (ne_eqb w 0 e)

pub zero_terms : (names : List Name) (row : List ℕ) → ((k : ℕ) → get_or row k 0 ≡ 0) → terms_of names row ≡ []
zero_terms [] row h = refl
zero_terms (name ∷ names) [] h = refl
zero_terms (name ∷ names) (w ∷ row) h = skipped name names w row (h 0) ∙ zero_terms names row (λ k. h (suc k))

pub zeros : (n k : ℕ) → get_or {A = ℕ} (replicate n 0) k 0 ≡ 0
zeros zero k = refl
zeros (suc n) zero = refl
zeros (suc n) (suc k) = zeros n k

-- a word behind the others adds a term
pub set_terms : (names : List Name) (row : List ℕ) (k w : ℕ) (d : Name) → k < length names → k < length row → w ≢ 0 → ((j : ℕ) → k ≤ j → get_or row j 0 ≡ 0)
    → terms_of names (set row k w) ≡ terms_of names row ++ (w, name_text (get_or names k d)) ∷ []
set_terms [] row k w d lt wide some beyond = absurd (omega arith)
set_terms (name ∷ names) [] k w d lt wide some beyond = absurd (omega arith)
set_terms (name ∷ names) (v ∷ row) zero w d lt wide some beyond =
    let none : terms_of names row ≡ [] = zero_terms names row (λ k. beyond (suc k) (omega arith)) in
    let before : terms_of (name ∷ names) (v ∷ row) ≡ [] = skipped name names v row (beyond 0 (omega arith)) ∙ none in
    taken name names w row some ∙ ap (λ (ts : List Term). (w, name_text name) ∷ ts) none ∙ ap (λ (ts : List Term). ts ++ (w, name_text name) ∷ []) (sym before)
set_terms (name ∷ names) (v ∷ row) (suc k) w d lt wide some beyond =
    by (set_terms names row k w d (omega arith) (omega arith) some (λ j le. beyond (suc j) (omega arith))) (eqb v 0)
  where
    by : terms_of names (set row k w) ≡ terms_of names row ++ (w, name_text (get_or names k d)) ∷ [] → (b : Bool) → cond b (terms_of names (set row k w)) ((v, name_text name) ∷ terms_of names (set row k w))
        ≡ cond b (terms_of names row) ((v, name_text name) ∷ terms_of names row) ++ (w, name_text (get_or names k d)) ∷ []
    by later true = later
    by later false = ap (λ (ts : List Term). (v, name_text name) ∷ ts) later

-- a word behind all names adds none
pub set_beyond : (names : List Name) (row : List ℕ) (k w : ℕ) → length names ≤ k → terms_of names (set row k w) ≡ terms_of names row
set_beyond [] row k w le = refl
set_beyond (name ∷ names) [] k w le = refl
set_beyond (name ∷ names) (v ∷ row) zero w le = absurd (omega arith)
set_beyond (name ∷ names) (v ∷ row) (suc k) w le = by (set_beyond names row k w (omega arith)) (eqb v 0)
  where
    by : terms_of names (set row k w) ≡ terms_of names row → (b : Bool) → cond b (terms_of names (set row k w)) ((v, name_text name) ∷ terms_of names (set row k w))
        ≡ cond b (terms_of names row) ((v, name_text name) ∷ terms_of names row)
    by later true = later
    by later false = ap (λ (ts : List Term). (v, name_text name) ∷ ts) later
