use Rattle.std.proofs.Common.{◌≡◌, ℕ, Bool, true, false, eqb, if◌then◌else◌, replicate, refl, sym, subst, ◌∙◌, inl, inr, get_or-set_other, set, eqb-true}
use Rattle.std.proofs.lemmas.Bool.{cases_eq}
use Rattle.std.proofs.lemmas.List.{get_or-replicate}
use Rattle.frame_offsets.specs.Tables.{at_row, known_at_entry}
use Rattle.frame_offsets.specs.declared.known.Known.TheVariants.{Unmet, Offset, Nothing}
use Rattle.frame_offsets.proofs.rows.row_at_entry.Goals as goal

others : (r : ℕ) → (r ≡ 2 → ⊥) → Nothing ≡ known_at_entry r
others r other = by (eqb r 2) refl
  where
    by : (t : Bool) → eqb r 2 ≡ t → Nothing ≡ (if t then Offset 0 else Nothing)
    by true e = absurd (other (eqb-true r 2 e))
    by false e = refl

pub returns : goal.returns
returns c r lt =
    elim (cases_eq r 2) [
      | inl same ↦ subst (λ (k : ℕ). at_row (set (replicate 32 Nothing) 2 (Offset 0)) k ≡ known_at_entry k) (sym same) refl
      | inr other ↦ get_or-set_other (replicate 32 Nothing) 2 r (Offset 0) Unmet other ∙ get_or-replicate 32 r Nothing Unmet lt ∙ others r other
    ]
