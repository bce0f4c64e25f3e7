-- Sums over tracked registers: the row of a value, on a state.
use Rattle.std.proofs.Common.{◌≡◌, ◌≢◌, ℕ, ◌+◌, ◌*◌, ◌<◌, Bool, true, false, List, slice_get, slice_index, is_some, Option, None, Some, refl, ap, sym, ◌∙◌, arith, inl, inr, if◌then◌else◌, ◌==◌, ◌||◌, ◌&&◌}
use Rattle.std.specs.Option.{option_map_or}
use Rattle.std.proofs.lemmas.Bool.{cases_eq, eqb-true, ne_eqb, eq-eqb}
use Rattle.elf_image.specs.declared.image.Image.{Image}
use Rattle.word_rows.specs.Words.{word}
use Rattle.map_modules.specs.Matrices.{sum_below}
use Rattle.map_modules.proofs.Entries.{get_or-vector}
use Rattle.map_modules.proofs.Sums.{word-add, word-mul, word-word, sum_below_same, sum_below_pick, sum_below-plus, sum_below-times}
use Rattle.report_text.specs.declared.names.Name.{Name}
use Rattle.report_text.specs.declared.names.Name.TheVariants.{Register, Slot}
use Rattle.affine_lift.specs.declared.value.Term.{Term}
use Rattle.affine_lift.specs.Values.{coefficient, factor_at, factor_of, is_nameable, place_of, row_of}
use Rattle.run_paths.specs.Lifts.{Lift, IsLiftOf}
use Rattle.run_paths.proofs.States.{HasRegisters, no_name_16, below_16}
use Rattle.run_paths.proofs.Writing.{place_is, place_none}

-- the factor of a term at a name, and at a position
abbrev pub name_factor : Term → Option Name → ℕ
name_factor t None = 0
name_factor t (Some (Register r)) = factor_at t r
name_factor t (Some (Slot p below)) = 0

abbrev pub place_factor : ℕ → Option ℕ → ℕ → ℕ
place_factor factor None l = 0
place_factor factor (Some i) l = if l == i then factor else 0

both_factors : (f g : Term) (o : Option Name) → word (option_map_or (factor_of f g) o 0) ≡ word (name_factor f o + name_factor g o)
both_factors f g None = refl
both_factors f g (Some (Register r)) = word-word (factor_at f r + factor_at g r)
both_factors f g (Some (Slot p below)) = refl

none_sum : (s : ℕ → ℕ) → sum_below 17 (λ k. 0 * s k) ≡ 0
none_sum s = sum_below-times 17 0 s ∙ (let e : 0 * sum_below 17 s ≡ 0 = omega arith in e)

times_zero : (a x : ℕ) → word a ≡ 0 → word (a * x) ≡ 0
times_zero a x e = word-mul a 0 x x e refl ∙ ap word (let z : 0 * x ≡ 0 = omega arith in z)

module _ (image : Image) (lift : Lift) (is : IsLiftOf image lift) (regs s : List ℕ) (has : HasRegisters lift regs s) where
  -- the sum of the products of one term
  abbrev pub term_sum : Term → ℕ
  term_sum t = sum_below 17 (λ l. place_factor t.factor (place_of lift.names t.register) l * slice_index s l)

  factor_there : (t : Term) (l : ℕ) (o : Option Name) (i : Option ℕ) → slice_get lift.names l ≡ o → place_of lift.names t.register ≡ i
      → name_factor t o ≡ place_factor t.factor i l
  factor_there t l None None at place = refl
  factor_there t l None (Some i) at place =
      sym (ap (λ (b : Bool). if b then t.factor else 0) (ne_eqb l i (λ same.
      let there = place_is lift.names t.register i place in let here = ap (slice_get lift.names) same in cc)))
  factor_there t l (Some (Register r)) None at place =
      ap (λ (b : Bool). if b then t.factor else 0) (ne_eqb t.register r (λ same.
      place_none lift.names t.register l place (at ∙ ap (λ (q : ℕ). Some (Register q)) (sym same))))
  factor_there t l (Some (Register r)) (Some i) at place = by (t.register == r) refl
    where
      there : slice_get lift.names i ≡ Some (Register t.register)
      there = place_is lift.names t.register i place

      by : (b : Bool) → (t.register == r) ≡ b → (if b then t.factor else 0) ≡ (if l == i then t.factor else 0)
      by true e =
          let here = at ∙ ap (λ (q : ℕ). Some (Register q)) (sym (eqb-true t.register r e)) in
          sym (ap (λ (b : Bool). if b then t.factor else 0) (eq-eqb l i (is.distinct l i (Register t.register) here there)))
      by false e =
          sym (ap (λ (b : Bool). if b then t.factor else 0) (ne_eqb l i (λ same.
          let both = sym at ∙ ap (slice_get lift.names) same ∙ there in
          let equal : r ≡ t.register = cc in
          let t' = eq-eqb t.register r (sym equal) in cc)))
  factor_there t l (Some (Slot p below)) None at place = refl
  factor_there t l (Some (Slot p below)) (Some i) at place =
      sym (ap (λ (b : Bool). if b then t.factor else 0) (ne_eqb l i (λ same.
      let there = place_is lift.names t.register i place in let here = ap (slice_get lift.names) same in cc)))

  row_factor : (f g : Term) (c l : ℕ) → l < 17
      → word (slice_index (row_of lift.names f g c) l)
      ≡ word (place_factor f.factor (place_of lift.names f.register) l + place_factor g.factor (place_of lift.names g.register) l + (if l == 16 then c else 0))
  row_factor f g c l below =
      ap word (get_or-vector _ l below) ∙ word-word _ ∙ by (l == 16) refl
      ∙ ap (λ (n : ℕ). word (n + name_factor g (slice_get lift.names l) + (if l == 16 then c else 0)))
      (factor_there f l (slice_get lift.names l) (place_of lift.names f.register) refl refl)
      ∙ ap (λ (n : ℕ). word (place_factor f.factor (place_of lift.names f.register) l + n + (if l == 16 then c else 0)))
      (factor_there g l (slice_get lift.names l) (place_of lift.names g.register) refl refl)
    where
      at_last : (o : Option Name) → slice_get lift.names 16 ≡ o → word c ≡ word (name_factor f o + name_factor g o + c)
      at_last None at = ap word (let e : c ≡ 0 + 0 + c = omega arith in e)
      at_last (Some name) at = absurd (no_name_16 image lift is name at)

      by : (b : Bool) → (l == 16) ≡ b
          → word (if b then c else option_map_or (factor_of f g) (slice_get lift.names l) 0)
          ≡ word (name_factor f (slice_get lift.names l) + name_factor g (slice_get lift.names l) + (if b then c else 0))
      by true e =
          let last = eqb-true l 16 e in
          at_last (slice_get lift.names 16) refl
          ∙ ap (λ (k : ℕ). word (name_factor f (slice_get lift.names k) + name_factor g (slice_get lift.names k) + c)) (sym last)
      by false e =
          both_factors f g (slice_get lift.names l)
          ∙ ap word (let e : name_factor f (slice_get lift.names l) + name_factor g (slice_get lift.names l)
          ≡ name_factor f (slice_get lift.names l) + name_factor g (slice_get lift.names l) + 0 = omega arith in e)

  row_sum : (f g : Term) (c : ℕ)
      → word (sum_below 17 (λ l. slice_index (row_of lift.names f g c) l * slice_index s l)) ≡ word (term_sum f + term_sum g + c)
  row_sum f g c =
      let first = λ (l : ℕ). place_factor f.factor (place_of lift.names f.register) l in
      let second = λ (l : ℕ). place_factor g.factor (place_of lift.names g.register) l in
      let last = λ (l : ℕ). if l == 16 then c else 0 in
      sum_below_same 17 _ (λ l. first l * slice_index s l + 1 * (second l * slice_index s l + 1 * (last l * slice_index s l)))
      (λ l below. word-mul _ (first l + second l + last l) (slice_index s l) (slice_index s l) (row_factor f g c l below) refl
      ∙ ap word (ring (first l) (second l) (last l) (slice_index s l)))
      ∙ ap word (sum_below-plus 17 1 (λ l. first l * slice_index s l) (λ l. second l * slice_index s l + 1 * (last l * slice_index s l))
      ∙ ap (λ (n : ℕ). term_sum f + 1 * n) (sum_below-plus 17 1 (λ l. second l * slice_index s l) (λ l. last l * slice_index s l)
      ∙ ap (λ (n : ℕ). term_sum g + 1 * n) (sum_below_pick 17 16 c (λ l. slice_index s l) (omega arith) ∙ ap (λ (n : ℕ). c * n) has.constant))
      ∙ (let e : term_sum f + 1 * (term_sum g + 1 * (c * 1)) ≡ term_sum f + term_sum g + c = omega arith in e))
    where
      ring : (a b d x : ℕ) → (a + b + d) * x ≡ a * x + 1 * (b * x + 1 * (d * x))
      ring a b d x = omega arith

  -- a term whose sum is its product
  abbrev IsTold : Term → Type 0
  IsTold t = word (term_sum t) ≡ word (t.factor * slice_index regs t.register)

  tracked_told : (t : Term) (i : ℕ) → place_of lift.names t.register ≡ Some i → IsTold t
  tracked_told t i place =
      let at = place_is lift.names t.register i place in
      let low = below_16 image lift is i (Register t.register) at in
      ap (λ (o : Option ℕ). word (sum_below 17 (λ l. place_factor t.factor o l * slice_index s l))) place
      ∙ ap word (sum_below_pick 17 i t.factor (λ l. slice_index s l) (omega arith))
      ∙ word-mul t.factor t.factor _ (slice_index regs t.register) refl
      (ap word (has.words i t.register (omega arith) at) ∙ word-word (slice_index regs t.register))

  untracked_sum : (t : Term) → place_of lift.names t.register ≡ None → term_sum t ≡ 0
  untracked_sum t place =
      ap (λ (o : Option ℕ). sum_below 17 (λ l. place_factor t.factor o l * slice_index s l)) place ∙ none_sum (λ l. slice_index s l)

  zero_told : (t : Term) → slice_index regs t.register ≡ 0 → IsTold t
  zero_told t none = by (place_of lift.names t.register) refl
    where
      by : (o : Option ℕ) → place_of lift.names t.register ≡ o → IsTold t
      by (Some i) place = tracked_told t i place
      by None place =
          ap word (untracked_sum t place) ∙ sym (ap (λ (x : ℕ). word (t.factor * x)) none ∙ ap word (let e : t.factor * 0 ≡ 0 = omega arith in e))

  no_factor_told : (t : Term) → word t.factor ≡ 0 → IsTold t
  no_factor_told t none = by (place_of lift.names t.register) refl
    where
      by : (o : Option ℕ) → place_of lift.names t.register ≡ o → IsTold t
      by (Some i) place = tracked_told t i place
      by None place = ap word (untracked_sum t place) ∙ sym (times_zero t.factor (slice_index regs t.register) none)

  told : (t : Term) (coefficient_is : ℕ) → slice_index regs 0 ≡ 0
      → (t.register == 0 || is_some (place_of lift.names t.register) || coefficient_is == 0) ≡ true
      → (coefficient_is ≡ 0 → place_of lift.names t.register ≡ None → IsTold t) → IsTold t
  told t coefficient_is zero nameable rest = by (t.register == 0) (place_of lift.names t.register) refl refl nameable
    where
      by : (b : Bool) (o : Option ℕ) → (t.register == 0) ≡ b → place_of lift.names t.register ≡ o
          → (b || is_some o || coefficient_is == 0) ≡ true → IsTold t
      by true o e place h = zero_told t (ap (slice_index regs) (eqb-true t.register 0 e) ∙ zero)
      by false (Some i) e place h = tracked_told t i place
      by false None e place h = rest (eqb-true coefficient_is 0 h) place

  own_factor : (t : Term) → factor_at t t.register ≡ t.factor
  own_factor t = ap (λ (b : Bool). if b then t.factor else 0) (eq-eqb t.register t.register refl)

  other_factor : (t : Term) (r : ℕ) → t.register ≢ r → factor_at t r ≡ 0
  other_factor t r other = ap (λ (b : Bool). if b then t.factor else 0) (ne_eqb t.register r other)

  terms_apart : (f g : Term) → slice_index regs 0 ≡ 0 → f.register ≢ g.register → is_nameable lift.names f g f ≡ true
      → is_nameable lift.names f g g ≡ true
      → word (term_sum f + term_sum g) ≡ word (f.factor * slice_index regs f.register + g.factor * slice_index regs g.register)
  terms_apart f g zero apart first second =
      word-add (term_sum f) _ (term_sum g) _
      (told f (coefficient f g f.register) zero first (λ e place. no_factor_told f
      (sym (ap word (let a = own_factor f in let b = other_factor g f.register (λ h. apart (sym h)) in
      let e : factor_at f f.register + factor_at g f.register ≡ f.factor = omega arith in e)) ∙ e)))
      (told g (coefficient f g g.register) zero second (λ e place. no_factor_told g
      (sym (ap word (let a = own_factor g in let b = other_factor f g.register apart in
      let e : factor_at f g.register + factor_at g g.register ≡ g.factor = omega arith in e)) ∙ e)))

  terms_together : (f g : Term) → slice_index regs 0 ≡ 0 → f.register ≡ g.register → is_nameable lift.names f g f ≡ true
      → word (term_sum f + term_sum g) ≡ word (f.factor * slice_index regs f.register + g.factor * slice_index regs g.register)
  terms_together f g zero same nameable = by (f.register == 0) (place_of lift.names f.register) refl refl nameable
    where
      by : (b : Bool) (o : Option ℕ) → (f.register == 0) ≡ b → place_of lift.names f.register ≡ o
          → (b || is_some o || coefficient f g f.register == 0) ≡ true
          → word (term_sum f + term_sum g) ≡ word (f.factor * slice_index regs f.register + g.factor * slice_index regs g.register)
      by true o e place h =
          let none = ap (slice_index regs) (eqb-true f.register 0 e) ∙ zero in
          word-add (term_sum f) _ (term_sum g) _ (zero_told f none) (zero_told g (ap (slice_index regs) (sym same) ∙ none))
      by false (Some i) e place h =
          word-add (term_sum f) _ (term_sum g) _ (tracked_told f i place) (tracked_told g i (ap (place_of lift.names) (sym same) ∙ place))
      by false None e place h =
          let none = eqb-true (coefficient f g f.register) 0 h in
          let a = own_factor f in
          let b = ap (factor_at g) same ∙ own_factor g in
          let factors : word (f.factor + g.factor) ≡ 0 =
          sym (ap word (let e : factor_at f f.register + factor_at g f.register ≡ f.factor + g.factor = omega arith in e)) ∙ none in
          let x = slice_index regs f.register in
          let first = untracked_sum f place in
          let second = untracked_sum g (ap (place_of lift.names) (sym same) ∙ place) in
          ap word (let e : term_sum f + term_sum g ≡ 0 = omega arith in e) ∙ sym (times_zero (f.factor + g.factor) x factors)
          ∙ ap word (let e : (f.factor + g.factor) * x ≡ f.factor * x + g.factor * x = omega arith in e)
          ∙ ap (λ (r : ℕ). word (f.factor * x + g.factor * slice_index regs r)) same

  pub row_told : (f g : Term) (c : ℕ) → slice_index regs 0 ≡ 0
      → (is_nameable lift.names f g f && is_nameable lift.names f g g) ≡ true
      → word (sum_below 17 (λ l. slice_index (row_of lift.names f g c) l * slice_index s l))
      ≡ word (f.factor * slice_index regs f.register + g.factor * slice_index regs g.register + c)
  row_told f g c zero nameable =
      row_sum f g c ∙ word-add (term_sum f + term_sum g) _ c c
      (elim (cases_eq f.register g.register) [
        | inl same ↦ terms_together f g zero same (both (is_nameable lift.names f g f) (is_nameable lift.names f g g) nameable).0
        | inr apart ↦
            let h = both (is_nameable lift.names f g f) (is_nameable lift.names f g g) nameable in terms_apart f g zero apart h.0 h.1
      ]) refl
    where
      both : (a b : Bool) → (a && b) ≡ true → (a ≡ true) × (b ≡ true)
      both true b e = (refl, e)
      both false b e = cc
