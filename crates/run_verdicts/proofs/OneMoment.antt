-- The moment of a run is one.
--
--   AreAlike a b     two runs are at one spot: their machines are the same but for pages, and so are their activations
use Rattle.std.proofs.Common.{◌≡◌, ◌↔◌, ℕ, zero, suc, ◌+◌, ◌<◌, ◌==◌, true, IsTrue, List, length, map, slice_index, slice_index_or, Contains, refl, ap, sym, ◌∙◌, arith, subst, inl, inr, if◌then◌else◌}
use Rattle.std.specs.Int.{bit_at}
use Rattle.std.proofs.lemmas.Bool.{cases_lt}
use Rattle.std.proofs.lemmas.List.{ext_get_or}
use Rattle.std.proofs.lemmas.Nat.Bits.{bit_at-lt, same_from_bits}
use Rattle.row_modules.specs.Positions.{has}
use Rattle.flow_points.specs.PointLists.{HasCode}
use Rattle.flow_points.specs.declared.code_points.CodePoint.{CodePoint}
use Rattle.affine_prog.specs.Assignments.{position_of}
use Rattle.affine_prog.specs.declared.Assign.{Assign}
use Rattle.affine_lift.specs.Lifting.{IsSlotAt, WritesSlots}
use Rattle.affine_lift.proofs.OneProgram.{one_effect}
use Rattle.report_text.specs.declared.names.Name.{Name}
use Rattle.report_text.specs.declared.names.Name.TheVariants.{Register, Slot}
use Rattle.rv_step.specs.Harts.{Hart, IsHart, IsSame}
use Rattle.rv_step.specs.Machines.{hart_of}
use Rattle.run_watch.specs.Activations.{AreValues, Stack, slot_address, slots_from, slots_of, word_of}
use Rattle.run_watch.specs.Moments.{Moment}
use Rattle.run_watch.specs.Runs.{Describes, Scene, Spot, steps_of}
use Rattle.run_watch.specs.declared.activation.Activation.{Activation}
use Rattle.run_verdicts.proofs.Alike.{same_reads}
use Rattle.run_verdicts.proofs.SameMoment.{same_moment}

pub record AreAlike (a b : Spot) : Type 0 where
  pub hart : IsHart (hart_of a.machine)
  pub other_hart : IsHart (hart_of b.machine)
  pub machines : IsSame (hart_of a.machine) (hart_of b.machine)
  pub as_many : steps_of a ≡ steps_of b
  pub stacks : a.stack ≡ b.stack

-- the word of a name, and the values
one_word : (l : Activation) (m n : Hart) → IsSame m n → (name : Name) → word_of l m name ≡ word_of l n name
one_word l m n are (Register r) = ap (λ (rs : List ℕ). slice_index rs r) are.registers
one_word l m n are (Slot p below) =
    ap (λ (w : ℕ). if p == l.procedure then w else 0) (sym (same_reads m n are 8 (slot_address l below) (omega arith)))

one_values : (names : List Name) (l : Activation) (m n : Hart) (xs ys : List ℕ) → IsSame m n → AreValues names l m xs
    → AreValues names l n ys → xs ≡ ys
one_values names l m n xs ys are h k =
    let width = h.all.width in
    ext_get_or 0 xs ys (width ∙ sym k.all.width) (λ i below.
    elim (cases_lt i (length names)) [
      | inl named ↦
          h.all.named i (Register 0) named ∙ one_word l m n are (slice_index_or names i (Register 0))
          ∙ sym (k.all.named i (Register 0) named)
      | inr past ↦ elim (cases_lt i 16) [
        | inl inside ↦ h.all.others i past inside ∙ sym (k.all.others i past inside)
        | inr last ↦
            let at : i ≡ 16 = omega (arith, last, below, width) in
            ap (slice_index xs) at ∙ h.all.constant ∙ sym k.all.constant ∙ ap (slice_index ys) (sym at)
      ]
    ])

-- the slots that are written
same_bit : (u v : ℕ) → u < 2 → v < 2 → (IsTrue (u == 1) → IsTrue (v == 1)) → (IsTrue (v == 1) → IsTrue (u == 1)) → u ≡ v
same_bit zero zero small low there back = refl
same_bit zero (suc zero) small low there back = let clash : (0 == 1) ≡ true = back refl in cc
same_bit (suc zero) zero small low there back = let clash : (0 == 1) ≡ true = there refl in cc
same_bit (suc zero) (suc zero) small low there back = refl
same_bit (suc (suc u)) v small low there back = absurd (omega (arith, small))
same_bit u (suc (suc v)) small low there back = absurd (omega (arith, low))

module _ (scene : Scene) (code : HasCode scene.points) where
  one_set : (c : CodePoint) (u v : ℕ) → Contains scene.points.points c → WritesSlots scene.points.points scene.names c u
      → WritesSlots scene.points.points scene.names c v → u ≡ v
  one_set c u v there h k =
      let assigns : h.assigns ≡ k.assigns = h.effect.assigns_are
      ∙ one_effect scene.points scene.names c h.effect.offset k.effect.offset code there h.effect.offsets_are k.effect.offsets_are
      ∙ sym k.effect.assigns_are in
      same_from_bits u v (λ i.
      let other : IsTrue (has v i) ↔ (IsSlotAt scene.names i × Contains (map position_of h.assigns) i) =
      subst (λ (as_ : List Assign). IsTrue (has v i) ↔ (IsSlotAt scene.names i × Contains (map position_of as_) i))
      (sym assigns) (k.slots i) in
      same_bit (bit_at u i) (bit_at v i) (bit_at-lt u i) (bit_at-lt v i) (λ set. other.1 ((h.slots i).0 set))
      (λ set. (h.slots i).1 (other.0 set)))

  pub one_moment : (a b : Spot) (i : ℕ) (c : CodePoint) (m n : Moment) → AreAlike a b → Contains scene.points.points c
      → Describes scene a i c m → Describes scene b i c n → m ≡ n
  one_moment a b i c m n are there h k =
      same_moment m n (record {
        point = h.point ∙ sym k.point;
        proc_entry = h.proc_entry ∙ ap (λ (st : Stack). st.last.procedure) are.stacks ∙ sym k.proc_entry;
        depth = h.depth ∙ ap (λ (st : Stack). length st.earlier + 1) are.stacks ∙ sym k.depth;
        entry_sp = h.entry_sp ∙ ap (λ (st : Stack). st.last.entry_sp) are.stacks ∙ sym k.entry_sp;
        entry_saved = h.entry_saved ∙ ap (λ (st : Stack). st.last.saved) are.stacks ∙ sym k.entry_saved;
        relied = h.relied ∙ ap (λ (st : Stack). st.last.relied) are.stacks ∙ sym k.relied;
        return_to = h.return_to ∙ ap (λ (st : Stack). st.last.return_to) are.stacks ∙ sym k.return_to;
        returns = h.returns ∙ sym k.returns;
        values = one_values scene.names a.stack.last (hart_of a.machine) (hart_of b.machine) m.values n.values are.machines
            h.values
            (subst (λ (st : Stack). AreValues scene.names st.last (hart_of b.machine) n.values) (sym are.stacks) k.values);
        unreached = h.unreached ∙ sym k.unreached;
        rows = h.rows ∙ sym k.rows;
        writable = one_set c m.writable n.writable there h.writable k.writable;
        earlier_slots = h.earlier_slots ∙ ap (λ (st : Stack). slots_from scene.names 1 st.earlier) are.stacks ∙ sym k.earlier_slots;
        last_slots = h.last_slots ∙ ap (λ (st : Stack). slots_of scene.names (length st.earlier + 1) st.last) are.stacks ∙ sym k.last_slots;
        code = h.code ∙ sym k.code;
      })
