-- The openings of each procedure that is to be solved.
use Rattle.std.proofs.Common.{◌≡◌, ℕ, ◌<◌, ◌+◌, inl, inr, List, Bool, Contains, All, length, replicate, bit_and, refl, ap, sym, subst, ◌∙◌, arith}
use Rattle.std.proofs.lemmas.Bool.{cases_eq}
use Rattle.word_rows.specs.Rows.{unit}
use Rattle.row_modules.specs.Modules.{AreRows, Either, IsWithin}
use Rattle.row_modules.specs.Bases.{IsLeadingBasis}
use Rattle.row_modules.specs.Maps.{Image}
use Rattle.row_modules.specs.Positions.{IsUnitOn}
use Rattle.row_modules.proofs.Laws.{module_least, generator}
use Rattle.map_modules.proofs.Lemmas.{IsRow-matrix}
use Rattle.affine_prog.specs.declared.Program.{Program}
use Rattle.affine_prog.specs.Programs.{entry_of, slots_of, IsWellFormed}
use Rattle.affine_prog.specs.LevelPaths.{opening_map}
use Rattle.affine_prog.specs.Laws.{slot_words, IsOpening}
use Rattle.affine_prog.proofs.Lemmas.{openings_span}
use Rattle.row_engine.specs.States.{State, rows_at, InModule}
use Rattle.call_summaries.specs.Sound.{IsSound}
use Rattle.row_images.specs.Images.{column}
use Rattle.row_engine.specs.Growth.{Offered}
use Rattle.call_summaries.specs.Solutions.{IsWanted}
use Rattle.call_summaries.specs.Openings.{AreOpenings, HasOpenings, Opens}
use Rattle.call_summaries.proofs.Soundness.{opening_sound, sound_modules}
use Rattle.call_summaries.proofs.Pushing.{modules}
use Rattle.call_summaries.proofs.Opening.{slot_row}

module _ (program : Program) (formed : IsWellFormed program) (p : ℕ) (within : p < length program.procs) (r s entry : ℕ) (r_is : r ≡ program.registers) (s_is : s ≡ slots_of program p)
    (entry_is : entry ≡ entry_of program p) (apart : bit_and r s ≡ 0) (rows : List (List ℕ)) (are : AreOpenings r s rows) where
  abbrev few : List ℕ → Type 0
  few = Either (λ m. m ≡ opening_map r s (replicate 16 0)) (Image (slot_words r s) (IsUnitOn 16 s))

  few_rows : AreRows 289 few
  few_rows v h = elim h [ inl e ↦ rw e (IsRow-matrix _) | inr i ↦ let e = i.is in rw e (IsRow-matrix _) ]

  row_few : (m : List ℕ) → Contains rows m → few m
  row_few m h = elim (are.only m h) [
    | inl e ↦ inl e
    | inr (i, below, slot, is) ↦ inr (record { of = unit 16 i; member = record { position = i; within = below; there = slot; is = refl }; is = is ∙ sym (slot_row r s i below apart slot) })
  ]

  few_row : (m : List ℕ) → few m → Contains rows m
  few_row m h = elim h [
    | inl e ↦ rw e are.zeros
    | inr i ↦
        let u = i.member in
        let e : m ≡ column 17 u.position 1 = i.is ∙ ap (slot_words r s) u.is ∙ slot_row r s u.position u.within apart u.there in
        are.each m (u.position, u.within, u.there, e)
  ]

  pub opening_less : (u : ℕ) (m : List ℕ) → Offered 289 entry rows u m → IsSound program u m
  opening_less u m h =
      let there : u ≡ entry_of program p = h.0 ∙ entry_is in
      let i = (openings_span r s).back m (generator 289 few few_rows m (row_few m h.2)) in
      rw there (module_least 289 (IsSound program (entry_of program p)) (sound_modules program formed (entry_of program p)) (IsOpening r s)
      (λ x (words, row, is). rw (is, r_is, s_is) (opening_sound program formed p words within row)) m i)

  pub opens_one : (new : State) → All (IsLeadingBasis 289) new.bases → ((u : ℕ) (m : List ℕ) → Offered 289 entry rows u m → InModule 289 new u m) → HasOpenings program p new
  opens_one new all taken words row =
      let i = (openings_span r s).there (opening_map r s words) (generator 289 (IsOpening r s) (λ x (w, a, b). rw b (IsRow-matrix _)) (opening_map r s words) (words, row, refl)) in
      let h = module_least 289 (InModule 289 new entry) (modules new all entry) few (λ m k. taken entry m (refl, few_rows m k, few_row m k)) (opening_map r s words) i in
      subst (λ (e : ℕ). InModule 289 new e (opening_map program.registers (slots_of program p) words)) entry_is
      (subst (λ (x : ℕ). InModule 289 new entry (opening_map program.registers x words)) s_is (subst (λ (x : ℕ). InModule 289 new entry (opening_map x s words)) r_is h))

-- the loop over procedures
pub opens_none : (program : Program) (wanted : List Bool) (s : State) → Opens program 0 wanted s
opens_none program wanted s p below = absurd (omega arith)

module _ (program : Program) (wanted : List Bool) (n : ℕ) where
  pub opens_skipped : (s : State) → (IsWanted wanted n → ⊥) → Opens program n wanted s → Opens program (n + 1) wanted s
  opens_skipped s other first p below chosen = elim (cases_eq p n) [ inl e ↦ absurd (other (subst (IsWanted wanted) e chosen)) | inr ne ↦ first p (omega arith) chosen ]

  pub opens_more : (mid new : State) → ((u : ℕ) → IsWithin 289 (Contains (rows_at mid u)) (Contains (rows_at new u))) → Opens program n wanted mid → HasOpenings program n new → Opens program (n + 1) wanted new
  opens_more mid new grown first one p below chosen = elim (cases_eq p n) [
    | inl e ↦ rw e one
    | inr ne ↦ λ words row. grown (entry_of program p) _ (first p (omega arith) chosen words row)
  ]
