-- What pushing a row along one edge does: the offers are sound, and the end's module has what the edge makes.
use Rattle.std.proofs.Common.{◌≡◌, ℕ, ◌<◌, List, Contains, All, refl, ap, ap₂, sym, subst, ◌∙◌}
use Rattle.row_modules.specs.Modules.{IsModule}
use Rattle.row_modules.specs.Bases.{IsLeadingBasis}
use Rattle.row_modules.proofs.Laws.{combinations, generator, mapped_into}
use Rattle.map_modules.specs.Matrices.{product, linear_extension}
use Rattle.affine_prog.specs.declared.Program.{Program}
use Rattle.affine_prog.specs.declared.Edge.{Edge}
use Rattle.affine_prog.specs.declared.Assign.{Assign}
use Rattle.affine_prog.specs.declared.Kind.TheVariants.{Do, Call}
use Rattle.affine_prog.specs.Programs.{exit_of, slots_of, owner_of, IsWellFormed}
use Rattle.affine_prog.specs.Assignments.{position_of, Choice, matrix_of}
use Rattle.row_images.specs.Images.{images_of, IsConstantRow}
use Rattle.row_engine.specs.States.{State, rows_at, InModule}
use Rattle.row_engine.specs.Growth.{Offered}
use Rattle.row_engine.proofs.Members.{all_rows}
use Rattle.call_summaries.specs.Sound.{IsSound, AreSound}
use Rattle.call_summaries.specs.Offers.{Called, Returned}
use Rattle.call_summaries.specs.Pushes.{call_of, ForwardBy, Forward, BackBy, Back}
use Rattle.call_summaries.proofs.ByNumber.{of_kind, do_placed, before_placed}
use Rattle.call_summaries.proofs.Soundness.{sound_constant, call_is_linear_in_callers, call_is_linear_in_callees}
use Rattle.call_summaries.proofs.Covering.{image_is_row, step_covered, call_covered, image_sound, called_sound}

pub modules : (s : State) → All (IsLeadingBasis 289) s.bases → (u : ℕ) → IsModule 289 (InModule 289 s u)
modules s all u = combinations 289 (Contains (rows_at s u)) (all_rows 289 s.bases all u)

module _ (program : Program) (formed : IsWellFormed program) (old : State) (all : All (IsLeadingBasis 289) old.bases) (sound : AreSound program old) where
  pub row_sound : (u : ℕ) (m : List ℕ) → Contains (rows_at old u) m → IsSound program u m
  row_sound u m h = sound u m (generator 289 (Contains (rows_at old u)) (all_rows 289 old.bases all u) m h)

  pub row_constant : (u : ℕ) (rows : List (List ℕ)) → rows ≡ rows_at old u → (m : List ℕ) → Contains rows m → IsConstantRow 17 m
  row_constant u rows is m h = (sound_constant program formed u m (row_sound u m (subst (λ l. Contains l m) is h))).constant

module _ (program : Program) (formed : IsWellFormed program) (e : Edge) (contains : Contains program.edges e) where
  -- assignments
  module _ (assigns : List Assign) (is : e.kind ≡ Do assigns) (m : List ℕ) (own : IsSound program e.from m) (images : List (List ℕ)) (images_are : images ≡ images_of 17 assigns m) where
    pub step_less : (u : ℕ) (x : List ℕ) → Offered 289 e.to images u x → IsSound program u x
    step_less u x h =
        let k = sound_constant program formed e.from m own in let there = h.0 in
        rw there (image_sound assigns (do_placed program formed e contains assigns is) m k.row k.constant program formed e.from e.to x
        (of_kind program formed e contains (Do assigns) is) own (subst (λ l. Contains l x) images_are h.2))

    pub step_pushes : (old new : State) → All (IsLeadingBasis 289) new.bases → ((u : ℕ) (x : List ℕ) → Offered 289 e.to images u x → InModule 289 new u x) → Forward program e old new m
    step_pushes old new all_new taken =
        let k = sound_constant program formed e.from m own in
        let placed = do_placed program formed e contains assigns is in
        subst (λ kind. ForwardBy program e.from e.to kind old new m) (sym is)
        (step_covered assigns placed m k.row k.constant (InModule 289 new e.to) (modules new all_new e.to)
        (λ x h. taken e.to x (refl, image_is_row assigns placed m k.row k.constant x h, subst (λ l. Contains l x) (sym images_are) h)))

  -- calls
  module _ (q : ℕ) (before : List Assign) (is : e.kind ≡ Call q before) (old : State) (all : All (IsLeadingBasis 289) old.bases) (sound : AreSound program old) where
    abbrev slots : ℕ
    slots = slots_of program (owner_of program e.from)

    placed_here : All (λ a. position_of a < 16) before
    placed_here = before_placed program formed e contains q before is

    -- a callee's map, and an image of a caller's
    pair_sound : (callee m x : List ℕ) → IsSound program (exit_of program q) callee → IsSound program e.from m → Contains (images_of 17 before m) x
        → IsSound program e.to (product (linear_extension program.registers slots callee) x)
    pair_sound callee m x g own h =
        let k = sound_constant program formed e.from m own in
        called_sound before placed_here m k.row k.constant program formed q e.from e.to callee x (of_kind program formed e contains (Call q before) is) g own h

    pair_covered : (S : List ℕ → Type 0) → IsModule 289 S → (callee m : List ℕ) → IsSound program e.from m
        → ((x : List ℕ) → Contains (images_of 17 before m) x → S (product (linear_extension program.registers slots callee) x))
        → (words : List ℕ) → Choice before words → S (call_of program e.from (matrix_of before words) callee m)
    pair_covered S is_module callee m own h words choice =
        let k = sound_constant program formed e.from m own in
        call_covered before placed_here m k.row k.constant program.registers slots S is_module callee h words choice

    module _ (m : List ℕ) (own : IsSound program e.from m) (r s : ℕ) (callees images : List (List ℕ)) (r_is : r ≡ program.registers) (s_is : s ≡ slots)
        (callees_are : callees ≡ rows_at old (exit_of program q)) (images_are : images ≡ images_of 17 before m) where
      extension_is : (n x : List ℕ) → product (linear_extension r s n) x ≡ product (linear_extension program.registers slots n) x
      extension_is n x = ap₂ (λ a b. product (linear_extension a b n) x) r_is s_is

      pub call_less : (u : ℕ) (x : List ℕ) → Called r s e.to callees images u x → IsSound program u x
      call_less u x h =
          let there = h.there in let made : x ≡ product (linear_extension program.registers slots h.callee) h.image = h.is ∙ extension_is h.callee h.image in
          rw (there, made) (pair_sound h.callee m h.image (row_sound program formed old all sound (exit_of program q) h.callee (subst (λ l. Contains l h.callee) callees_are h.of_callees)) own
          (subst (λ l. Contains l h.image) images_are h.of_images))

      pub call_pushes : (new : State) → All (IsLeadingBasis 289) new.bases → ((u : ℕ) (x : List ℕ) → Called r s e.to callees images u x → InModule 289 new u x) → Forward program e old new m
      call_pushes new all_new taken =
          subst (λ kind. ForwardBy program e.from e.to kind old new m) (sym is)
          (λ words callee choice g.
          mapped_into 289 289 (λ n. call_of program e.from (matrix_of before words) n m) (call_is_linear_in_callees program.registers slots (matrix_of before words) m)
          (Contains (rows_at old (exit_of program q))) (InModule 289 new e.to) (all_rows 289 old.bases all (exit_of program q)) (modules new all_new e.to)
          (λ n i. pair_covered (InModule 289 new e.to) (modules new all_new e.to) n m own
          (λ x k. taken e.to _ (record {
            there = refl;
            callee = n;
            image = x;
            of_callees = subst (λ l. Contains l n) (sym callees_are) i;
            of_images = subst (λ l. Contains l x) (sym images_are) k;
            is = sym (extension_is n x);
          })) words choice) callee g)

    module _ (n extended : List ℕ) (own : IsSound program (exit_of program q) n) (extended_is : extended ≡ linear_extension program.registers slots n)
        (callers : List (List ℕ)) (callers_are : callers ≡ rows_at old e.from) where
      pub return_less : (u : ℕ) (x : List ℕ) → Returned before extended e.to callers u x → IsSound program u x
      return_less u x h =
          let there = h.there in let made : x ≡ product (linear_extension program.registers slots n) h.image = h.is ∙ ap (λ y. product y h.image) extended_is in
          rw (there, made) (pair_sound n h.caller h.image own (row_sound program formed old all sound e.from h.caller (subst (λ l. Contains l h.caller) callers_are h.of_callers)) h.of_images)

      pub return_pushes : (new : State) → All (IsLeadingBasis 289) new.bases → ((u : ℕ) (x : List ℕ) → Returned before extended e.to callers u x → InModule 289 new u x) → Back program e old new n
      return_pushes new all_new taken =
          subst (λ kind. BackBy program e.from e.to kind old new n) (sym is)
          (λ words caller choice g.
          mapped_into 289 289 (call_of program e.from (matrix_of before words) n) (call_is_linear_in_callers program.registers slots (matrix_of before words) n)
          (Contains (rows_at old e.from)) (InModule 289 new e.to) (all_rows 289 old.bases all e.from) (modules new all_new e.to)
          (λ m i. pair_covered (InModule 289 new e.to) (modules new all_new e.to) n m (row_sound program formed old all sound e.from m i)
          (λ x k. taken e.to _ (record {
            there = refl;
            caller = m;
            image = x;
            of_callers = subst (λ l. Contains l m) (sym callers_are) i;
            of_images = k;
            is = ap (λ y. product y x) (sym extended_is);
          })) words choice) caller g)
