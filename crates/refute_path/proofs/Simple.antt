-- Choices that raise one word at most span all choices: of steps, of the words of openings, and of starts.
use Rattle.std.proofs.Common.{◌≡◌, ℕ, zero, suc, ◌<◌, ◌+◌, ◌*◌, ◌-◌, ◌^◌, inl, inr, List, [], ◌∷◌, Contains, Option, None, Some, IsTrue, length, replicate, get_or, refl, ap, sym, subst, ◌∙◌, arith}
use Rattle.std.proofs.lemmas.Bool.{cases_eq, cases_lt, false≢true}
use Rattle.std.proofs.lemmas.List.Elements.{All-contains}
use Rattle.word_rows.specs.Rows.{words_of, plus, unit, IsRow}
use Rattle.word_rows.specs.Words.{word}
use Rattle.word_rows.proofs.Laws.{IsRow-zeros, IsRow-unit, IsRow-plus, unit_at, unit_elsewhere, get_or-wrapped_plus}
use Rattle.row_modules.specs.Modules.{AreRows, IsCombination, IsModule}
use Rattle.row_modules.specs.Choices.{IsChoice}
use Rattle.row_modules.specs.Positions.{has, with_constant, IsUnitOn}
use Rattle.row_modules.proofs.Laws.{combinations, generator, module_least, choices_span, choice_row, less_first, first_or_later, unit_on, rows_on_are_module, constant_is_in, has_beyond, with_constant_other}
use Rattle.map_modules.proofs.Lemmas.{IsRow-matrix}
use Rattle.affine_prog.specs.declared.Program.{Program}
use Rattle.affine_prog.specs.declared.Assign.{Assign}
use Rattle.affine_prog.specs.Assignments.{unknown_count, Choice}
use Rattle.affine_prog.specs.LevelPaths.{opening_map, step_map}
use Rattle.affine_prog.specs.OpenPaths.{Start}
use Rattle.affine_prog.specs.Programs.{IsWellFormed}
use Rattle.affine_prog.specs.Laws.{zero_choice, slot_words, IsOpening, IsAffineInChoices}
use Rattle.affine_prog.proofs.Lemmas.{ArePlaced, step_is_affine_in_choices, opening_map-zeros, openings_span, starts_span, registers_below}
use Rattle.refute_path.specs.Tags.{words_by, IsBelow, IsSlotBy}
use Rattle.refute_path.specs.Entries.{IsStartBy}

pub IsRow-words_by : (n : ℕ) (raised : Option ℕ) → IsRow n (words_by n raised)
IsRow-words_by n None = IsRow-zeros n
IsRow-words_by n (Some k) = IsRow-unit n k

-- steps
abbrev pub IsSimpleStep : List Assign → List ℕ → List ℕ → Type 0
IsSimpleStep assigns m x = (raised : Option ℕ) × IsBelow (unknown_count assigns) raised × (x ≡ step_map assigns (words_by (unknown_count assigns) raised) m)

pub simple_steps_are_rows : (assigns : List Assign) (m : List ℕ) → AreRows 289 (IsSimpleStep assigns m)
simple_steps_are_rows assigns m x (raised, below, is) = rw is (IsRow-matrix _)

module _ (assigns : List Assign) (m : List ℕ) (placed : ArePlaced assigns) (row : IsRow 289 m) where
  abbrev start : List ℕ
  start = step_map assigns (zero_choice (unknown_count assigns)) m

  abbrev S : List ℕ → Type 0
  S = IsCombination 289 (IsSimpleStep assigns m)

  all : IsModule 289 S
  all = combinations 289 (IsSimpleStep assigns m) (simple_steps_are_rows assigns m)

  simple_in : (raised : Option ℕ) → IsBelow (unknown_count assigns) raised → S (step_map assigns (words_by (unknown_count assigns) raised) m)
  simple_in raised below = generator 289 (IsSimpleStep assigns m) (simple_steps_are_rows assigns m) _ (raised, below, refl)

  affine : IsAffineInChoices assigns m
  affine = step_is_affine_in_choices assigns m placed row

  differences_are : AreRows 289 (Contains affine.differences)
  differences_are d h = All-contains (IsRow 289) affine.differences d affine.rows h

  -- what one raised word adds
  difference_in : (d : List ℕ) → Contains affine.differences d → S d
  difference_in d (k, below, is) =
      let long = affine.one_each in
      let at : get_or affine.differences k [] ≡ d = default_at affine.differences k d below ∙ is in
      let sum : step_map assigns (unit (unknown_count assigns) k) m ≡ words_of (plus 1 start d) = affine.units k (omega arith) ∙ ap (λ y. words_of (plus 1 start y)) at in
      subst S (ap (λ y. words_of (plus (2 ^ 64 - 1) y start)) sum ∙ less_first 289 start d (IsRow-matrix _) (differences_are d (k, below, is)))
      (all.sum (2 ^ 64 - 1) (step_map assigns (unit (unknown_count assigns) k) m) start (simple_in (Some k) (omega arith)) (simple_in None tt))
    where
      default_at : (xs : List (List ℕ)) (k : ℕ) (x : List ℕ) → k < length xs → get_or xs k [] ≡ get_or xs k x
      default_at [] k x h = absurd (omega arith)
      default_at (y ∷ xs) zero x h = refl
      default_at (y ∷ xs) (suc k) x h = default_at xs k x (omega arith)

  pub step_is_spanned : (words : List ℕ) → Choice assigns words → S (step_map assigns words m)
  step_is_spanned words choice =
      let chosen = (affine.choices (step_map assigns words m)).0 (words, choice, refl) in
      let first : IsRow 289 start = IsRow-matrix _ in
      let c = generator 289 (IsChoice start affine.differences) (choice_row 289 start first affine.differences differences_are) (step_map assigns words m) chosen in
      module_least 289 S all (Contains (start ∷ affine.differences))
      (λ x h. elim (first_or_later start affine.differences x h) [ inl e ↦ rw e (simple_in None tt) | inr k ↦ difference_in x k ])
      (step_map assigns words m) ((choices_span 289 start first affine.differences differences_are).there (step_map assigns words m) c)

-- openings
abbrev pub IsSimpleOpening : ℕ → ℕ → List ℕ → Type 0
IsSimpleOpening registers slots x = (raised : Option ℕ) × IsSlotBy slots raised × (x ≡ opening_map registers slots (words_by 16 raised))

pub simple_openings_are_rows : (registers slots : ℕ) → AreRows 289 (IsSimpleOpening registers slots)
simple_openings_are_rows registers slots x (raised, slot, is) = rw is (IsRow-matrix _)

module _ (registers slots : ℕ) where
  abbrev O : List ℕ → Type 0
  O = IsCombination 289 (IsSimpleOpening registers slots)

  abbrev zeros : List ℕ
  zeros = opening_map registers slots (replicate 16 0)

  every : IsModule 289 O
  every = combinations 289 (IsSimpleOpening registers slots) (simple_openings_are_rows registers slots)

  opening_in : (raised : Option ℕ) → IsSlotBy slots raised → O (opening_map registers slots (words_by 16 raised))
  opening_in raised slot = generator 289 (IsSimpleOpening registers slots) (simple_openings_are_rows registers slots) _ (raised, slot, refl)

  slot_in : (u : List ℕ) → IsUnitOn 16 slots u → O (slot_words registers slots u)
  slot_in u h =
      let own : O (opening_map registers slots u) = subst (λ w. O (opening_map registers slots w)) (sym h.is) (opening_in (Some h.position) (h.within, h.there)) in
      subst O (ap (λ x. words_of (plus (2 ^ 64 - 1) x zeros)) (opening_map-zeros registers slots u)
      ∙ less_first 289 zeros (slot_words registers slots u) (IsRow-matrix _) (IsRow-matrix _))
      (every.sum (2 ^ 64 - 1) (opening_map registers slots u) zeros own (opening_in None tt))

  pub opening_is_spanned : (words : List ℕ) → IsRow 16 words → O (opening_map registers slots words)
  opening_is_spanned words row =
      let few = (openings_span registers slots).there (opening_map registers slots words)
      (generator 289 (IsOpening registers slots) (λ m (w, r, is). rw is (IsRow-matrix _)) _ (words, row, refl)) in
      module_least 289 O every _ (λ x h. elim h [ inl e ↦ rw e (opening_in None tt) | inr i ↦ rw i.is (slot_in i.of i.member) ]) (opening_map registers slots words) few

-- starts
abbrev pub IsSimpleStart : Program → List ℕ → Type 0
IsSimpleStart program s = (raised : Option ℕ) × IsStartBy program raised s

pub start_is_row : (program : Program) (raised : Option ℕ) (s : List ℕ) → IsStartBy program raised s → IsRow 17 s
start_is_row program None s is = rw is (IsRow-unit 17 16)
start_is_row program (Some k) s (member, is) = rw is (IsRow-plus 17 1 (unit 17 16) (unit 17 k) (IsRow-unit 17 16) (IsRow-unit 17 k))

module _ (program : Program) where
  simple_starts : AreRows 17 (IsSimpleStart program)
  simple_starts s (raised, is) = start_is_row program raised s is

  unit_in : (u : List ℕ) → IsUnitOn 17 (with_constant program.registers) u → IsCombination 17 (IsSimpleStart program) u
  unit_in u h = elim (cases_eq h.position 16) [
    | inl last ↦ subst (IsCombination 17 (IsSimpleStart program)) (ap (unit 17) (sym last) ∙ sym h.is)
        (generator 17 (IsSimpleStart program) simple_starts (unit 17 16) (None, refl))
    | inr other ↦
        let member : IsTrue (has program.registers h.position) = sym (with_constant_other program.registers h.position other) ∙ h.there in
        let one = generator 17 (IsSimpleStart program) simple_starts (words_of (plus 1 (unit 17 16) (unit 17 h.position))) (Some h.position, (member, refl)) in
        let bare = generator 17 (IsSimpleStart program) simple_starts (unit 17 16) (None, refl) in
        subst (IsCombination 17 (IsSimpleStart program)) (less_first 17 (unit 17 16) (unit 17 h.position) (IsRow-unit 17 16) (IsRow-unit 17 h.position) ∙ sym h.is)
        ((combinations 17 (IsSimpleStart program) simple_starts).sum (2 ^ 64 - 1) (words_of (plus 1 (unit 17 16) (unit 17 h.position))) (unit 17 16) one bare)
  ]

  pub start_is_spanned : (s : List ℕ) → Start program s → IsCombination 17 (IsSimpleStart program) s
  start_is_spanned s start =
      module_least 17 (IsCombination 17 (IsSimpleStart program)) (combinations 17 (IsSimpleStart program) simple_starts) (IsUnitOn 17 (with_constant program.registers)) unit_in s
      ((starts_span program).there s (generator 17 (Start program) (λ v h. h.state.row) s start))

module _ (program : Program) where
  abbrev named : ℕ
  named = with_constant program.registers

  bare_start : Start program (unit 17 16)
  bare_start =
      let p = unit_on 17 named 16 (constant_is_in program.registers) in
      record { state = record { row = p.row; constant = unit_at 17 16 (omega arith) }; registers = p.hidden }

  raised_start : (k : ℕ) → k < 16 → IsTrue (has program.registers k) → Start program (words_of (plus 1 (unit 17 16) (unit 17 k)))
  raised_start k below member =
      let there : IsTrue (has named k) = with_constant_other program.registers k (λ e. omega arith) ∙ member in
      let p = unit_on 17 named k there in
      let zero_there = unit_elsewhere 17 k 16 (λ e. omega arith) in
      let sum = (rows_on_are_module 17 named).sum 1 (unit 17 16) (unit 17 k) (unit_on 17 named 16 (constant_is_in program.registers)) p in
      record {
        state = record {
          row = sum.row;
          constant = get_or-wrapped_plus 1 (unit 17 16) (unit 17 k) 16 ((IsRow-unit 17 16).width ∙ sym p.row.width) ∙ ap (λ x. word (1 + 1 * x)) zero_there;
        };
        registers = sum.hidden;
      }

module _ (program : Program) (formed : IsWellFormed program) where
  pub register_below : (k : ℕ) → IsTrue (has program.registers k) → k < 16
  register_below k member = elim (cases_lt k 16) [
    | inl h ↦ h
    | inr h ↦ let small = registers_below program formed in let e = formed.width in
        absurd (false≢true (sym (has_beyond program.width program.registers k small (omega arith)) ∙ member))
  ]

  pub start_by_is_start : (raised : Option ℕ) (s : List ℕ) → IsStartBy program raised s → Start program s
  start_by_is_start None s is = rw is (bare_start program)
  start_by_is_start (Some k) s (member, is) =
      rw is (raised_start program k (register_below k member) member)
