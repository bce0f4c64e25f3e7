-- The certified ones of the tracked registers, name by name.
use Rattle.std.proofs.Common.{◌≡◌, ℕ, ◌+◌, ◌<◌, Bool, true, false, cond, List, [], ◌∷◌, ◌++◌, length, get_or, take, drop, refl, sym, subst, ap, inl, inr}
use Rattle.std.specs.List.{Contains}
use Rattle.std.proofs.lemmas.List.{take_more, take-append-drop}
use Rattle.std.proofs.lemmas.List.Elements.{Contains-append_left, Contains-append_right, Contains-append_cases}
use Rattle.report_text.specs.declared.names.Name.{Name}
use Rattle.report_text.specs.declared.names.Name.TheVariants.{Register, Slot}
use Rattle.report_text.specs.Names.{is_certified}
use Rattle.report_text.specs.Certificates.{certified_names}
use Rattle.report_read.specs.Drafts.{IsRegisterOf}

registers_of_both : (xs ys : List Name) → certified_names (xs ++ ys) ≡ certified_names xs ++ certified_names ys
registers_of_both [] ys = refl
registers_of_both (Slot p below ∷ xs) ys = registers_of_both xs ys
registers_of_both (Register r ∷ xs) ys = by (registers_of_both xs ys) (is_certified r)
  where
    by : certified_names (xs ++ ys) ≡ certified_names xs ++ certified_names ys → (b : Bool)
        → cond b (r ∷ certified_names (xs ++ ys)) (certified_names (xs ++ ys)) ≡ cond b (r ∷ certified_names xs) (certified_names xs) ++ certified_names ys
    by later true = ap (λ (rs : List ℕ). r ∷ rs) later
    by later false = later

in_front : (xs ys : List Name) (text : List ℕ) → IsRegisterOf xs text → IsRegisterOf (xs ++ ys) text
in_front xs ys text h =
    (h.0, subst (λ (rs : List ℕ). Contains rs h.0) (sym (registers_of_both xs ys)) (Contains-append_left (certified_names xs) (certified_names ys) h.0 h.1), h.2)

behind_these : (xs ys : List Name) (text : List ℕ) → IsRegisterOf ys text → IsRegisterOf (xs ++ ys) text
behind_these xs ys text h =
    (h.0, subst (λ (rs : List ℕ). Contains rs h.0) (sym (registers_of_both xs ys)) (Contains-append_right (certified_names xs) (certified_names ys) h.0 h.1), h.2)

module _ (names : List Name) (i : ℕ) (d : Name) (text : List ℕ) (lt : i < length names) where
  pub register_here : IsRegisterOf (get_or names i d ∷ []) text → IsRegisterOf names text
  register_here h =
      subst (λ (ns : List Name). IsRegisterOf ns text) (take-append-drop (i + 1) names)
      (in_front (take (i + 1) names) (drop (i + 1) names) text
      (subst (λ (ns : List Name). IsRegisterOf ns text) (sym (take_more names i d lt)) (behind_these (take i names) (get_or names i d ∷ []) text h)))

  pub no_register_more : (IsRegisterOf (take i names) text → ⊥) → (IsRegisterOf (get_or names i d ∷ []) text → ⊥)
      → IsRegisterOf (take (i + 1) names) text → ⊥
  no_register_more before here h =
      by (subst (λ (ns : List Name). IsRegisterOf ns text) (take_more names i d lt) h)
    where
      by : IsRegisterOf (take i names ++ get_or names i d ∷ []) text → ⊥
      by k = elim (Contains-append_cases (certified_names (take i names)) (certified_names (get_or names i d ∷ [])) k.0
          (subst (λ (rs : List ℕ). Contains rs k.0) (registers_of_both (take i names) (get_or names i d ∷ [])) k.1)) [
            | inl l ↦ before (k.0, l, k.2)
            | inr r ↦ here (k.0, r, k.2)
          ]
