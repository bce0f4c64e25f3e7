-- A register is written: the state of an activation after an assignment to it.
use Rattle.std.proofs.Common.{◌≡◌, ◌≢◌, ℕ, ◌*◌, ◌<◌, Bool, true, false, List, length, slice_get, slice_index, slice_set, position, Option, None, Some, refl, ap, sym, ◌∙◌, arith, inl, inr, if◌then◌else◌, ◌==◌}
use Rattle.std.specs.List.{position_or_len}
use Rattle.std.proofs.lemmas.Bool.{cases_lt, lt-ltb, eqb-true, ne_eqb, eq-eqb}
use Rattle.std.proofs.lemmas.List.Sums.{fails_before_first}
use Rattle.std.proofs.lemmas.Option.{get_or_from_slice_get, slice_get_within}
use Rattle.std.proofs.lemmas.List.{get_or-set_same, get_or-set_other}
use Rattle.elf_image.specs.declared.image.Image.{Image}
use Rattle.word_rows.specs.Words.{word}
use Rattle.word_rows.specs.Rows.{unit}
use Rattle.word_rows.proofs.Laws.{unit_at, unit_elsewhere}
use Rattle.map_modules.specs.Matrices.{sum_below}
use Rattle.map_modules.proofs.Entries.{same_vector, get_or-vector}
use Rattle.map_modules.proofs.Sums.{word-mul, word-word, sum_below_same, sum_below_pick}
use Rattle.affine_prog.specs.Assignments.{constant}
use Rattle.report_text.specs.declared.names.Name.{Name}
use Rattle.report_text.specs.declared.names.Name.TheVariants.{Register, Slot}
use Rattle.rv_step.specs.Effects.{written}
use Rattle.affine_lift.specs.Values.{is_register, place_of}
use Rattle.affine_lift.proofs.Cited.{position_within}
use Rattle.run_paths.specs.Lifts.{Lift, IsLiftOf}
use Rattle.run_paths.specs.Activations.{Activation, word_of, state_of}
use Rattle.run_paths.specs.Maps.{with_word}
use Rattle.run_paths.proofs.States.{name_word, same_state, below_16}

-- products with a state
pub constant_picks : (w : ℕ) (s : List ℕ) → slice_index s 16 ≡ 1
    → word (sum_below 17 (λ l. slice_index (constant w) l * slice_index s l)) ≡ word w
constant_picks w s one =
    sum_below_same 17 (λ l. slice_index (constant w) l * slice_index s l) (λ l. (if l == 16 then w else 0) * slice_index s l)
    (λ l h. word-mul (slice_index (constant w) l) (if l == 16 then w else 0) _ _
    (ap word (get_or-vector (λ k. if k == 16 then w else 0) l h) ∙ word-word (if l == 16 then w else 0)) refl)
    ∙ ap word (sum_below_pick 17 16 w (λ l. slice_index s l) (omega arith) ∙ ap (λ (x : ℕ). w * x) one)
    ∙ ap word (let e : w * 1 ≡ w = omega arith in e)

unit_word : (k l : ℕ) → k < 17 → slice_index (unit 17 k) l ≡ (if l == k then 1 else 0)
unit_word k l below = by (l == k) refl
  where
    by : (b : Bool) → (l == k) ≡ b → slice_index (unit 17 k) l ≡ (if b then 1 else 0)
    by true e = ap (slice_index (unit 17 k)) (eqb-true l k e) ∙ unit_at 17 k below
    by false e = unit_elsewhere 17 k l (λ same. let t = eq-eqb l k same in cc)

pub unit_picks : (k : ℕ) (s : List ℕ) → k < 17
    → word (sum_below 17 (λ l. slice_index (unit 17 k) l * slice_index s l)) ≡ word (slice_index s k)
unit_picks k s below =
    sum_below_same 17 (λ l. slice_index (unit 17 k) l * slice_index s l) (λ l. (if l == k then 1 else 0) * slice_index s l)
    (λ l h. ap (λ (x : ℕ). word (x * slice_index s l)) (unit_word k l below))
    ∙ ap word (sum_below_pick 17 k 1 (λ l. slice_index s l) below ∙ (let e : 1 * slice_index s k ≡ slice_index s k = omega arith in e))

-- registers with one written
pub written_other : (regs : List ℕ) (r w q : ℕ) → q ≢ r → slice_index (written regs r w) q ≡ slice_index regs q
written_other regs r w q other = by (r == 0)
  where
    by : (b : Bool) → slice_index (if b then regs else slice_set regs r w) q ≡ slice_index regs q
    by true = refl
    by false = get_or-set_other regs r q w 0 other

pub written_same : (regs : List ℕ) (r w : ℕ) → r ≢ 0 → r < length regs → slice_index (written regs r w) r ≡ w
written_same regs r w some within =
    ap (λ (b : Bool). slice_index (if b then regs else slice_set regs r w) r) (ne_eqb r 0 some) ∙ get_or-set_same regs r w 0 within

name_is : (r : ℕ) (name : Name) → is_register r name ≡ true → name ≡ Register r
name_is r (Register q) e = ap Register (eqb-true q r e)
name_is r (Slot p n) e = cc

-- a place that passes is found, or an earlier one
some_place : {X : Type 0} (p : X → Bool) (xs : List X) (k : ℕ) (x : X) → slice_get xs k ≡ Some x → p x ≡ true → position p xs ≡ None → ⊥
some_place p xs k x at passes none =
    let within = slice_get_within xs k x at in
    let here = get_or_from_slice_get xs k x x at in
    elim (cases_lt k (position_or_len p xs)) [
      | inl before ↦ let bad : false ≡ true = sym (fails_before_first p xs k x before) ∙ ap p here ∙ passes in cc bad
      | inr least ↦
          let found : position p xs ≡ Some (position_or_len p xs) =
          ap (λ (b : Bool). if b then Some (position_or_len p xs) else None) (lt-ltb (position_or_len p xs) (length xs) (omega arith)) in
          let clash : Some (position_or_len p xs) ≡ None = sym found ∙ none in cc clash
    ]

pub place_is : (names : List Name) (r k : ℕ) → place_of names r ≡ Some k → slice_get names k ≡ Some (Register r)
place_is names r k e =
    let found = position_within (is_register r) names k e in
    found.1 ∙ ap Some (name_is r found.0 found.2)

pub place_none : (names : List Name) (r k : ℕ) → place_of names r ≡ None → slice_get names k ≡ Some (Register r) → ⊥
place_none names r k none at = some_place (is_register r) names k (Register r) at (eq-eqb r r refl) none

module _ (image : Image) (lift : Lift) (is : IsLiftOf image lift) (a : Activation) (regs : List ℕ) (memory : ℕ → ℕ) (r w : ℕ) where
  -- a register that isn't tracked
  pub untracked_lands : ((k : ℕ) → slice_get lift.names k ≡ Some (Register r) → ⊥)
      → state_of lift a regs memory ≡ state_of lift a (written regs r w) memory
  untracked_lands none = same_state lift a a regs (written regs r w) memory memory by
    where
      by : (k : ℕ) (name : Name) → slice_get lift.names k ≡ Some name → word (word_of a regs memory name) ≡ word (word_of a (written regs r w) memory name)
      by k (Register q) at =
          ap word (sym (written_other regs r w q (λ same. none k (at ∙ ap (λ (x : ℕ). Some (Register x)) same))))
      by k (Slot p below) at = refl

  -- the one at position i
  pub tracked_lands : (i : ℕ) (row : List ℕ) → slice_get lift.names i ≡ Some (Register r) → r ≢ 0 → r < length regs
      → word (sum_below 17 (λ l. slice_index row l * slice_index (state_of lift a regs memory) l)) ≡ word w
      → with_word i row (state_of lift a regs memory) ≡ state_of lift a (written regs r w) memory
  tracked_lands i row at some within sum = same_vector _ _ (λ k h. by k (k == i) h refl)
    where
      new : ℕ → ℕ
      new k = if k == 16 then 1 else name_word a (written regs r w) memory (slice_get lift.names k)

      low : i < 16
      low = below_16 image lift is i (Register r) at

      there : (k : ℕ) → k ≢ i → (last : Bool) (o : Option Name) → (k == 16) ≡ last → slice_get lift.names k ≡ o
          → word (if last then 1 else name_word a regs memory o) ≡ word (if last then 1 else name_word a (written regs r w) memory o)
      there k other true o last here = refl
      there k other false None last here = refl
      there k other false (Some (Register q)) last here =
          ap word (sym (written_other regs r w q (λ same. other (is.distinct k i (Register r) (here ∙ ap (λ (x : ℕ). Some (Register x)) same) at))))
      there k other false (Some (Slot p below)) last here = refl

      by : (k : ℕ) (b : Bool) → k < 17 → (k == i) ≡ b
          → word (if b then sum_below 17 (λ l. slice_index row l * slice_index (state_of lift a regs memory) l) else slice_index (state_of lift a regs memory) k)
          ≡ word (new k)
      by k true h e =
          let same = eqb-true k i e in
          sum ∙ sym (ap (λ (x : ℕ). word (new x)) same
          ∙ rw (ne_eqb i 16 (λ f. omega (arith, low)), at) (ap word (written_same regs r w some within)))
      by k false h e =
          ap word (get_or-vector _ k h) ∙ word-word _
          ∙ there k (λ same. let t = eq-eqb k i same in cc) (k == 16) (slice_get lift.names k) refl refl
