-- What is told of a step is one.
use Rattle.std.proofs.Common.{◌≡◌, ℕ, ◌^◌, ◌<◌, Bool, List, slice_index, Option, Some, pos, ◌+ℤ◌, refl, ap, sym, ◌∙◌}
use Rattle.std.specs.Option.{unwrap_or}
use Rattle.elf_image.specs.Fetches.{read}
use Rattle.elf_image.specs.declared.fetched.Fetched.{Fetched}
use Rattle.rv_instr.specs.declared.Instr.{Instr}
use Rattle.rv_instr.specs.declared.Instr.TheVariants.{Store}
use Rattle.rv_step.specs.Harts.{Hart, IsSame, fetched}
use Rattle.rv_step.specs.Machines.{hart_of, made_of}
use Rattle.rv_step.specs.Records.{IsClosing, IsRecord, store_of}
use Rattle.rv_step.specs.Steps.{IsAt, store_width}
use Rattle.rv_step.specs.Words.{word}
use Rattle.rv_step.specs.declared.machine.Machine.{Machine}
use Rattle.rv_step.specs.declared.records.StepRec.{StepRec}
use Rattle.rv_step.specs.declared.records.StoreRec.{StoreRec}
use Rattle.rv_step.proofs.ResultsAreWords.{wrapped}
use Rattle.run_verdicts.proofs.Alike.{same_fetched, same_reads}
use Rattle.run_verdicts.proofs.OneStop.{one_instr}

record IsSameRecord (s t : StepRec) : Type 0 where
  pub index : s.index ≡ t.index
  pub made : s.made ≡ t.made
  pub pc : s.pc ≡ t.pc
  pub word_is : s.word ≡ t.word
  pub length_is : s.length ≡ t.length
  pub regs : s.regs ≡ t.regs
  pub next : s.next ≡ t.next
  pub store : s.store ≡ t.store

same_record : (s t : StepRec) → IsSameRecord s t → s ≡ t
same_record s t are =
    let of : ℕ → Bool → ℕ → ℕ → ℕ → List ℕ → ℕ → Option StoreRec → StepRec = λ i b p w l rs n st.
    record { index = i; made = b; pc = p; word = w; length = l; regs = rs; next = n; store = st } in
    ap (λ i. of i s.made s.pc s.word s.length s.regs s.next s.store) are.index
    ∙ ap (λ b. of t.index b s.pc s.word s.length s.regs s.next s.store) are.made
    ∙ ap (λ p. of t.index t.made p s.word s.length s.regs s.next s.store) are.pc
    ∙ ap (λ w. of t.index t.made t.pc w s.length s.regs s.next s.store) are.word_is
    ∙ ap (λ l. of t.index t.made t.pc t.word l s.regs s.next s.store) are.length_is
    ∙ ap (λ rs. of t.index t.made t.pc t.word t.length rs s.next s.store) are.regs
    ∙ ap (λ n. of t.index t.made t.pc t.word t.length t.regs n s.store) are.next
    ∙ ap (λ st. of t.index t.made t.pc t.word t.length t.regs t.next st) are.store

-- the store of an instruction
one_store : (instr : Instr) (m n p q : Hart) → IsSame m p → IsSame n q → store_of instr m n ≡ store_of instr p q
one_store (Store op rs1 rs2 imm) m n p q before after =
    let of : ℕ → ℕ → ℕ → Option StoreRec = λ a old now.
    Some (record { address = a; width = store_width op; before = old; after = now }) in
    let at : List ℕ → ℕ = λ rs. word (pos (slice_index rs rs1) +ℤ imm) in
    let small : at p.registers < 2 ^ 64 = wrapped (pos (slice_index p.registers rs1) +ℤ imm) in
    let width = store_width op in
    ap (λ (rs : List ℕ). of (at rs) (read width m.memory (at rs)) (read width n.memory (at rs))) before.registers
    ∙ ap (λ (w : ℕ). of (at p.registers) w (read width n.memory (at p.registers)))
    (sym (same_reads m p before width (at p.registers) small))
    ∙ ap (λ (w : ℕ). of (at p.registers) (read width p.memory (at p.registers)) w)
    (sym (same_reads n q after width (at p.registers) small))
one_store instr m n p q before after = refl

module _ (m p : Machine) (before : IsSame (hart_of m) (hart_of p)) (small : (hart_of m).pc < 2 ^ 64)
    (as_many : made_of m ≡ made_of p) where
  pub one_record : (n q : Machine) (s t : StepRec) → IsSame (hart_of n) (hart_of q) → IsRecord m n s → IsRecord p q t → s ≡ t
  one_record n q s t after h k =
      let fetched_one = same_fetched (hart_of m) (hart_of p) before small in
      let of : StepRec → Fetched = λ r. record { word = r.word; length = r.length } in
      let first = h.is_at.fetches in
      let second : fetched (hart_of m) ≡ Some (of t) = sym fetched_one ∙ k.is_at.fetches in
      let both : of s ≡ of t = cc in
      let also : IsAt (hart_of m) (of t) k.instr = record { fetches = second; means = k.is_at.means } in
      let instr : h.instr ≡ k.instr = one_instr (hart_of m) (of s) (of t) h.instr k.instr h.is_at also in
      same_record s t (record {
        index = h.index ∙ as_many ∙ sym k.index;
        made = h.made ∙ sym k.made;
        pc = h.pc ∙ before.pc ∙ sym k.pc;
        word_is = ap (λ (f : Fetched). f.word) both;
        length_is = ap (λ (f : Fetched). f.length) both;
        regs = h.regs ∙ before.registers ∙ sym k.regs;
        next = h.next ∙ after.pc ∙ sym k.next;
        store = h.store ∙ ap (λ (i : Instr). store_of i (hart_of m) (hart_of n)) instr
            ∙ one_store k.instr (hart_of m) (hart_of n) (hart_of p) (hart_of q) before after ∙ sym k.store;
      })

  pub one_closing : (s t : StepRec) → IsClosing m s → IsClosing p t → s ≡ t
  one_closing s t h k =
      let fetched_one = sym (same_fetched (hart_of m) (hart_of p) before small) in
      let zero : Fetched = record { word = 0; length = 0 } in
      same_record s t (record {
        index = h.index ∙ as_many ∙ sym k.index;
        made = h.made ∙ sym k.made;
        pc = h.pc ∙ before.pc ∙ sym k.pc;
        word_is = h.word ∙ ap (λ (f : Option Fetched). (unwrap_or f zero).word) fetched_one ∙ sym k.word;
        length_is = h.length ∙ ap (λ (f : Option Fetched). (unwrap_or f zero).length) fetched_one ∙ sym k.length;
        regs = h.regs ∙ before.registers ∙ sym k.regs;
        next = h.next ∙ before.pc ∙ sym k.next;
        store = h.store ∙ sym k.store;
      })
